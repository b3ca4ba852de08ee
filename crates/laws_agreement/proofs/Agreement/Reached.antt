-- The tasks of reached calls read only what means what is read, and heads bind them to what fits.
use Rattle.std.proofs.Common.{◌≡◌, ℕ, List, [], ◌++◌, length, Bool, Option, Some, None, Ok, Err, refl, ap, sym, ◌∙◌}
use Rattle.std.specs.Prelude.{Contains}
use Rattle.std.specs.List.{AllByRecursion, flat_map}
use Rattle.tree_expressions.specs.Shape.{Shape}
use Rattle.meaning_dialogues.specs.Dialogue.{Dialogue, Ends, Asks, Reads, Lookup, Variable, Reading}
use Rattle.meaning_dialogues.specs.Evaluation.{Value}
use Rattle.meaning_dialogues.specs.Meaning.{Meaning}
use Rattle.meaning_dialogues.proofs.Soundness.{Sound as SoundDialogue, Any}
use Rattle.meaning_dialogues.proofs.Unfolding.{IsMeant}
use Rattle.meaning_evaluation.specs.Stages.Parameters.{Bound}
use Rattle.meaning_runs.specs.Task.{Task, ends, asks, reads, shows, hands, confirms, lift}
use Rattle.meaning_runs.specs.Acts.{begin, finish, host_parts}
use Rattle.meaning_runs.proofs.Tasks.{Sound}
use Rattle.meaning_runs.proofs.Soundness.{lift_sound, then_sound as then_task}
use Rattle.meaning_evaluation.specs.Named.{RecipeName, Call, RecipeRow, ModuleRow}
use Rattle.meaning_evaluation.specs.Scopes.{parameter_names, binding}
use Rattle.meaning_evaluation.specs.Groups.{parameters_of}
use Rattle.meaning_evaluation.specs.Calling.{Ground, scene_of, met, no_task, no_dialogue, confirming, acts}
use Rattle.just_meaning.specs.Opening.{IsReached}
use Rattle.just_meaning.specs.Reading.{expressions_in, hiding, in_parameters, in_env, in_prompt, in_dependencies, in_interpreter, in_piece}
use Rattle.laws_agreement.specs.Agreement.Given.{Gives}
use Rattle.laws_agreement.specs.Agreement.Readable.{IsReadable, AreReadable, FitsCall}
use Rattle.laws_agreement.specs.Agreement.Fitting.{AreFitting, AreSoundFitting}
use Rattle.laws_agreement.proofs.Agreement.Lists.{all_more, all_contained, all_left, all_right, all_unmap}
use Rattle.laws_agreement.proofs.Agreement.Given.{Free, lift_gives, gives_any, then_gives, then_sound, goes_gives}
use Rattle.laws_agreement.proofs.Agreement.Closed.{reached_bring}
use Rattle.laws_agreement.proofs.Agreement.Binding.{binding_sound}
use Rattle.laws_agreement.proofs.Agreement.Bodies.{body_sound, confirming_sound, block_sound}

sound_free : {A : Type 0} (P : Lookup → Variable → Type 0) (R : A → Type 0) (d : Dialogue A) → SoundDialogue P R d → SoundDialogue Free R d
sound_free P R (Ends (Ok a)) h = h
sound_free P R (Ends (Err fault)) h = tt
sound_free P R (Asks question next) h = λ answer. sound_free P R (next answer) (h answer)
sound_free P R (Reads place x next) h = (tt, λ value. sound_free P R (next value) (h.1 value))

-- what reads only some variables reads only more
sound_more : {A : Type 0} (P R : Lookup → Variable → Type 0) (t : Task A) → ((place : Lookup) (x : Variable) → P place x → R place x) → Sound P t → Sound R t
sound_more P R (ends end) go h = tt
sound_more P R (asks question next) go h = λ answer. sound_more P R (next answer) go (h answer)
sound_more P R (reads place x next) go h = (go place x h.0, λ value. sound_more P R (next value) go (h.1 value))
sound_more P R (shows text next) go h = sound_more P R next go h
sound_more P R (hands job next) go h = λ status. sound_more P R (next status) go (h status)
sound_more P R (confirms prompt next) go h = λ answer. sound_more P R (next answer) go (h answer)

-- what holds of what isn't met, and of each recipe that is met
by_met : (g : Ground) {X : Type 0} (R : X → Type 0) (unknown : X) (known : RecipeRow → ModuleRow → X) (call : Call) (o : Option RecipeRow) (p : Option ModuleRow) → g.defined.recipe call.recipe ≡ o → R unknown
    → ((recipe : RecipeRow) (row : ModuleRow) → g.defined.recipe call.recipe ≡ Some recipe → R (known recipe row)) → R (met g unknown o p known)
by_met g R unknown known call (Some recipe) (Some row) e h go = go recipe row e
by_met g R unknown known call (Some recipe) None e h go = h
by_met g R unknown known call None p e h go = h

module _ (g : Ground) (invoked : List RecipeName) (Named : List (List ℕ) → List ℕ → Type 0) (readable : AreReadable g.defined (IsReached g.defined g.configuration.no_dependencies invoked) Named)
    (P : List (List ℕ) → Variable → Type 0) (meant : (path : List (List ℕ)) (name : List ℕ) (number : Option ℕ) → Named path name → P path (record { name = name; number = number })) where
  abbrev Of : RecipeName → Type 0
  Of = IsReached g.defined g.configuration.no_dependencies invoked

  -- ---- expressions of a row

  abbrev Fine : RecipeName → Shape × List (List ℕ) → Type 0
  Fine r e = IsReadable (g.defined.functions r.path) (Named r.path) e.0 e.1

  abbrev Clear : RecipeName → RecipeRow → Shape → Type 0
  Clear r recipe e = IsReadable (g.defined.functions r.path) (Named r.path) e (parameter_names recipe)

  -- the expressions of a reached recipe, by where they stand
  pub record AreFine (r : RecipeName) (recipe : RecipeRow) : Type 0 where
    pub parameters : AllByRecursion (Fine r) (in_parameters [] recipe.parameters)
    pub env : AllByRecursion (λ e. IsReadable (g.defined.functions r.path) (Named r.path) e []) (in_env recipe.env)
    pub prompt : AllByRecursion (Clear r recipe) (in_prompt recipe.confirm)
    pub priors : AllByRecursion (Clear r recipe) (in_dependencies recipe.priors)
    pub subsequents : AllByRecursion (Clear r recipe) (in_dependencies recipe.subsequents)
    pub interpreter : AllByRecursion (Clear r recipe) (in_interpreter recipe.script)
    pub body : AllByRecursion (Clear r recipe) (flat_map (flat_map in_piece) recipe.body)

  each_fine : (r : RecipeName) (recipe : RecipeRow) → Of r → g.defined.recipe r ≡ Some recipe → AllByRecursion (Fine r) (expressions_in recipe)
  each_fine r recipe those there =
      all_more (Contains (expressions_in recipe)) (Fine r)
      (λ e c. record {
        reads = λ name h. readable.reads r name those (record { row = recipe; there = there; e = e.0; hidden = e.1; stands = c; reads = h });
        fits = λ inner others name count f reached stands at. readable.fits r recipe e.0 e.1 inner others name count f those there c reached stands at;
      }) (expressions_in recipe) (all_contained (expressions_in recipe))

  are_fine : (r : RecipeName) (recipe : RecipeRow) → Of r → g.defined.recipe r ≡ Some recipe → AreFine r recipe
  are_fine r recipe those there =
      let all = parameter_names recipe in
      let own = in_parameters [] recipe.parameters in
      let pairs = in_env recipe.env in
      let body = flat_map (flat_map in_piece) recipe.body in
      let script = in_interpreter recipe.script in
      let after = in_dependencies recipe.subsequents in
      let before = in_dependencies recipe.priors in
      let prompts = in_prompt recipe.confirm in
      let whole = each_fine r recipe those there in
      let rest = all_right (Fine r) own (hiding [] pairs ++ hiding all (prompts ++ (before ++ (after ++ (script ++ body))))) whole in
      let one = all_unmap (Fine r) (λ e. (e, all)) (prompts ++ (before ++ (after ++ (script ++ body)))) (all_right (Fine r) (hiding [] pairs) (hiding all (prompts ++ (before ++ (after ++ (script ++ body))))) rest) in
      let two = all_right (Clear r recipe) prompts (before ++ (after ++ (script ++ body))) one in
      let three = all_right (Clear r recipe) before (after ++ (script ++ body)) two in
      let four = all_right (Clear r recipe) after (script ++ body) three in
      record {
        parameters = all_left (Fine r) own (hiding [] pairs ++ hiding all (prompts ++ (before ++ (after ++ (script ++ body))))) whole;
        env = all_unmap (Fine r) (λ e. (e, [])) pairs (all_left (Fine r) (hiding [] pairs) (hiding all (prompts ++ (before ++ (after ++ (script ++ body))))) rest);
        prompt = all_left (Clear r recipe) prompts (before ++ (after ++ (script ++ body))) one;
        priors = all_left (Clear r recipe) before (after ++ (script ++ body)) two;
        subsequents = all_left (Clear r recipe) after (script ++ body) three;
        interpreter = all_left (Clear r recipe) script body four;
        body = all_right (Clear r recipe) script body four;
      }

  -- ---- the parts of a call

  abbrev Only : Call → Lookup → Variable → Type 0
  Only call place x = P call.recipe.path x

  abbrev Fits : Call → Bound → Type 0
  Fits call bound = FitsCall g.defined call bound

  module _ (call : Call) (flag : Bool) (those : Of call.recipe) where
    abbrev r : RecipeName
    r = call.recipe

    abbrev FitsIn : RecipeRow → Bound → Type 0
    FitsIn recipe bound = length bound.values ≡ length recipe.parameters

    abbrev binds : RecipeRow → ModuleRow → Dialogue Bound
    binds recipe row = binding g.configuration (scene_of g r.path row) r.recipe recipe flag call.groups

    as_call : (recipe : RecipeRow) (bound : Bound) → g.defined.recipe r ≡ Some recipe → length bound.values ≡ length recipe.parameters → Fits call bound
    as_call recipe bound there e = e ∙ sym (ap (λ o. length (parameters_of o)) there)

    as_row : (recipe : RecipeRow) (bound : Bound) → g.defined.recipe r ≡ Some recipe → Fits call bound → length bound.values ≡ length recipe.parameters
    as_row recipe bound there e = e ∙ ap (λ o. length (parameters_of o)) there

    bound_by : (recipe : RecipeRow) (row : ModuleRow) → g.defined.recipe r ≡ Some recipe → SoundDialogue (Only call) (FitsIn recipe) (binds recipe row)
    bound_by recipe row there = let fine = are_fine r recipe those there in binding_sound g r.path row r.recipe recipe flag (Named r.path) (P r.path) (meant r.path) call.groups fine.parameters fine.env

    head_sound : Sound (Only call) ((acts g).head call flag)
    head_sound =
        by_met g (Sound (Only call)) (no_task g) _ call (g.defined.recipe r) (g.defined.inside r.path) refl tt
        (λ recipe row there. let fine = are_fine r recipe those there in let is = bound_by recipe row there in
        then_sound (Only call) (FitsIn recipe) (lift (binds recipe row)) _ (lift_sound (Only call) (FitsIn recipe) (binds recipe row) is) (lift_gives (FitsIn recipe) (binds recipe row) (sound_free (Only call) (FitsIn recipe) (binds recipe row) is))
        (λ bound fits. then_task (Only call) (confirming g.configuration (scene_of g r.path row) r.recipe recipe flag g.configuration.yes recipe.confirm bound) _
        (confirming_sound g r.path row r.recipe recipe flag (Named r.path) (P r.path) (meant r.path) bound fits g.configuration.yes recipe.confirm fine.prompt) (λ u. tt)))

    head_fits : Gives (Fits call) ((acts g).head call flag)
    head_fits =
        by_met g (Gives (Fits call)) (no_task g) _ call (g.defined.recipe r) (g.defined.inside r.path) refl tt
        (λ recipe row there. then_gives (FitsIn recipe) (Fits call) (lift (binds recipe row)) _ (lift_gives (FitsIn recipe) (binds recipe row) (sound_free (Only call) (FitsIn recipe) (binds recipe row) (bound_by recipe row there)))
        (λ bound fits. then_gives Any (Fits call) (confirming g.configuration (scene_of g r.path row) r.recipe recipe flag g.configuration.yes recipe.confirm bound) _ (gives_any (confirming g.configuration (scene_of g r.path row) r.recipe recipe flag g.configuration.yes recipe.confirm bound)) (λ u w. as_call recipe bound there fits)))

    priors_sound : (bound : Bound) → Fits call bound → SoundDialogue (Only call) Any ((acts g).priors call flag bound)
    priors_sound bound fits =
        by_met g (SoundDialogue (Only call) Any) (no_dialogue g) _ call (g.defined.recipe r) (g.defined.inside r.path) refl tt
        (λ recipe row there. block_sound g r.path row r.recipe recipe flag (Named r.path) (P r.path) (meant r.path) bound (as_row recipe bound there fits) recipe.priors (are_fine r recipe those there).priors)

    subsequents_sound : (bound : Bound) → Fits call bound → SoundDialogue (Only call) Any ((acts g).subsequents call flag bound)
    subsequents_sound bound fits =
        by_met g (SoundDialogue (Only call) Any) (no_dialogue g) _ call (g.defined.recipe r) (g.defined.inside r.path) refl tt
        (λ recipe row there. block_sound g r.path row r.recipe recipe flag (Named r.path) (P r.path) (meant r.path) bound (as_row recipe bound there fits) recipe.subsequents (are_fine r recipe those there).subsequents)

    acts_body_sound : (bound : Bound) → Fits call bound → Sound (Only call) ((acts g).body call flag bound)
    acts_body_sound bound fits =
        by_met g (Sound (Only call)) (no_task g) _ call (g.defined.recipe r) (g.defined.inside r.path) refl tt
        (λ recipe row there. let fine = are_fine r recipe those there in body_sound g r.path row r.recipe recipe flag (Named r.path) (P r.path) (meant r.path) bound (as_row recipe bound there fits) fine.interpreter fine.body)

    begin_sound : Sound (Only call) (begin (acts g) call flag)
    begin_sound =
        then_sound (Only call) (Fits call) ((acts g).head call flag) _ head_sound head_fits
        (λ bound fits. then_task (Only call) (lift ((acts g).priors call flag bound)) _ (lift_sound (Only call) Any ((acts g).priors call flag bound) (priors_sound bound fits)) (λ calls. tt))

    finish_sound : (bound : Bound) → Fits call bound → Sound (Only call) (finish (acts g) call flag bound)
    finish_sound bound fits = then_task (Only call) ((acts g).body call flag bound) _ (acts_body_sound bound fits) (λ u. lift_sound (Only call) Any ((acts g).subsequents call flag bound) (subsequents_sound bound fits))

    begin_fits : Gives (λ begun. Fits call begun.0 × AllByRecursion (λ c. Of c.recipe) begun.1) (begin (acts g) call flag)
    begin_fits =
        then_gives (Fits call) _ ((acts g).head call flag) _ head_fits
        (λ bound fits. then_gives (AllByRecursion (λ c. Of c.recipe)) _ (lift ((acts g).priors call flag bound)) _ (lift_gives (AllByRecursion (λ c. Of c.recipe)) ((acts g).priors call flag bound) ((reached_bring g invoked call those).0 flag bound)) (λ calls h. (fits, h)))

    finish_fits : (bound : Bound) → Gives (AllByRecursion (λ c. Of c.recipe)) (finish (acts g) call flag bound)
    finish_fits bound = then_gives Any _ ((acts g).body call flag bound) _ (gives_any ((acts g).body call flag bound)) (λ u w. lift_gives (AllByRecursion (λ c. Of c.recipe)) ((acts g).subsequents call flag bound) ((reached_bring g invoked call those).1 flag bound))

  -- Reached calls are bound to as many values as their recipes have parameters, and bring about reached calls.
  pub reached_fitting : (reading : Call → Reading) → AreFitting (λ call. Of call.recipe) (FitsCall g.defined) (host_parts (acts g) reading)
  reached_fitting reading = record {
    begins = λ call flag old new bound calls those l. goes_gives _ (reading call) (begin (acts g) call flag) l.piece (bound, calls) (begin_fits call flag those) l.goes;
    ends = λ call flag bound old new calls those fits l. goes_gives _ (reading call) (finish (acts g) call flag bound) l.piece calls (finish_fits call flag those bound) l.goes;
  }

  -- Their tasks read only what means what is read, where each such name does in its module.
  pub reached_sound : (reading : Call → Reading) (variables : Call → Lookup → Variable → Meaning Value) → ((call : Call) (place : Lookup) (x : Variable) → P call.recipe.path x → IsMeant (reading call) (variables call) place x)
      → AreSoundFitting (λ call. Of call.recipe) (FitsCall g.defined) (acts g) reading variables
  reached_sound reading variables means = record {
    begin = λ call flag those. sound_more (Only call) (IsMeant (reading call) (variables call)) (begin (acts g) call flag) (means call) (begin_sound call flag those);
    finish = λ call flag bound those fits. sound_more (Only call) (IsMeant (reading call) (variables call)) (finish (acts g) call flag bound) (means call) (finish_sound call flag those bound fits);
  }
