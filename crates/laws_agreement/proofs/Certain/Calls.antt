-- Calls of a kind begin and end without `internal`, are bound to what fits, and bring about calls of the kind.
use Rattle.std.proofs.Common.{◌≡◌, ℕ, List, [], ◌++◌, length, Bool, Option, Some, ap, sym, ◌∙◌}
use Rattle.std.specs.Prelude.{Contains}
use Rattle.std.specs.List.{AllByRecursion, flat_map}
use Rattle.std.proofs.lemmas.List.Elements.{Contains-append_left, Contains-append_right}
use Rattle.tree_expressions.specs.Shape.{Shape}
use Rattle.meaning_dialogues.specs.Dialogue.{Dialogue, Lookup, Variable, Reading}
use Rattle.meaning_dialogues.proofs.Soundness.{Any}
use Rattle.meaning_evaluation.specs.Stages.Parameters.{Bound}
use Rattle.meaning_runs.specs.Task.{lift}
use Rattle.meaning_runs.specs.Acts.{begin, finish, host_parts}
use Rattle.meaning_evaluation.specs.Named.{RecipeName, Call, RecipeRow, ModuleRow}
use Rattle.meaning_evaluation.specs.Scopes.{parameter_names, binding}
use Rattle.meaning_evaluation.specs.Groups.{parameters_of}
use Rattle.meaning_evaluation.specs.Calling.{Ground, scene_of, met, no_task, no_dialogue, confirming, acts}
use Rattle.just_meaning.specs.Reading.{RecipeReads, expressions_in, hiding, in_parameters, in_env, in_prompt, in_dependencies, in_interpreter, in_piece}
use Rattle.laws_agreement.specs.Agreement.Readable.{FitsCall}
use Rattle.laws_agreement.proofs.Agreement.Lists.{all_more, all_contained, all_left, all_right, all_unmap}
use Rattle.laws_agreement.specs.Certain.Certain.{AreCertain, DependOnTheirs, IsCertainCall}
use Rattle.laws_agreement.proofs.Certain.Dialogues.{EndsWell, IsRead}
use Rattle.laws_agreement.proofs.Certain.Tasks.{Certain, lift_certain, then_certain, task_ends}
use Rattle.laws_agreement.proofs.Certain.Functions.{IsCertain}
use Rattle.laws_agreement.proofs.Certain.Binding.{binding_well}
use Rattle.laws_agreement.proofs.Certain.Bodies.{body_certain, confirming_certain, block_well}
use Rattle.laws_agreement.proofs.Certain.Going.{AreWell}

module _ (g : Ground) (Of : RecipeName → Type 0) (certain : AreCertain g.defined Of) (theirs : DependOnTheirs g.configuration.no_dependencies g.defined Of)
    (Named : List (List ℕ) → List ℕ → Type 0) (reads : (r : RecipeName) (name : List ℕ) → Of r → RecipeReads g.defined r name → Named r.path name)
    (P : List (List ℕ) → Variable → Type 0) (meant : (path : List (List ℕ)) (name : List ℕ) (number : Option ℕ) → Named path name → P path (record { name = name; number = number })) where
  -- ---- expressions of a row

  abbrev Fine : RecipeName → Shape × List (List ℕ) → Type 0
  Fine r e = IsCertain (g.defined.functions r.path) (Named r.path) e.0 e.1

  abbrev Clear : RecipeName → RecipeRow → Shape → Type 0
  Clear r recipe e = IsCertain (g.defined.functions r.path) (Named r.path) e (parameter_names recipe)

  -- the expressions of a recipe of the kind, by where they stand
  pub record AreFine (r : RecipeName) (recipe : RecipeRow) : Type 0 where
    pub parameters : AllByRecursion (Fine r) (in_parameters [] recipe.parameters)
    pub env : AllByRecursion (λ e. IsCertain (g.defined.functions r.path) (Named r.path) e []) (in_env recipe.env)
    pub prompt : AllByRecursion (Clear r recipe) (in_prompt recipe.confirm)
    pub priors : AllByRecursion (Clear r recipe) (in_dependencies recipe.priors)
    pub subsequents : AllByRecursion (Clear r recipe) (in_dependencies recipe.subsequents)
    pub interpreter : AllByRecursion (Clear r recipe) (in_interpreter recipe.script)
    pub body : AllByRecursion (Clear r recipe) (flat_map (flat_map in_piece) recipe.body)

  each_fine : (r : RecipeName) (recipe : RecipeRow) → Of r → g.defined.recipe r ≡ Some recipe → AllByRecursion (Fine r) (expressions_in recipe)
  each_fine r recipe those there =
      all_more (Contains (expressions_in recipe)) (Fine r)
      (λ e c. record {
        readable = record {
          reads = λ name h. reads r name those (record { row = recipe; there = there; e = e.0; hidden = e.1; stands = c; reads = h });
          fits = λ inner others name count f reached stands at. certain.resolved.fits r recipe e.0 e.1 inner others name count f those there c reached stands at;
        };
        builtin = λ inner others name count reached stands at. certain.builtin r recipe e.0 e.1 inner others name count those there c reached stands at;
      }) (expressions_in recipe) (all_contained (expressions_in recipe))

  are_fine : (r : RecipeName) (recipe : RecipeRow) → Of r → g.defined.recipe r ≡ Some recipe → AreFine r recipe
  are_fine r recipe those there =
      let all = parameter_names recipe in
      let own = in_parameters [] recipe.parameters in
      let pairs = in_env recipe.env in
      let body = flat_map (flat_map in_piece) recipe.body in
      let script = in_interpreter recipe.script in
      let after = in_dependencies recipe.subsequents in
      let before = in_dependencies recipe.priors in
      let prompts = in_prompt recipe.confirm in
      let whole = each_fine r recipe those there in
      let rest = all_right (Fine r) own (hiding [] pairs ++ hiding all (prompts ++ (before ++ (after ++ (script ++ body))))) whole in
      let one = all_unmap (Fine r) (λ e. (e, all)) (prompts ++ (before ++ (after ++ (script ++ body)))) (all_right (Fine r) (hiding [] pairs) (hiding all (prompts ++ (before ++ (after ++ (script ++ body))))) rest) in
      let two = all_right (Clear r recipe) prompts (before ++ (after ++ (script ++ body))) one in
      let three = all_right (Clear r recipe) before (after ++ (script ++ body)) two in
      let four = all_right (Clear r recipe) after (script ++ body) three in
      record {
        parameters = all_left (Fine r) own (hiding [] pairs ++ hiding all (prompts ++ (before ++ (after ++ (script ++ body))))) whole;
        env = all_unmap (Fine r) (λ e. (e, [])) pairs (all_left (Fine r) (hiding [] pairs) (hiding all (prompts ++ (before ++ (after ++ (script ++ body))))) rest);
        prompt = all_left (Clear r recipe) prompts (before ++ (after ++ (script ++ body))) one;
        priors = all_left (Clear r recipe) before (after ++ (script ++ body)) two;
        subsequents = all_left (Clear r recipe) after (script ++ body) three;
        interpreter = all_left (Clear r recipe) script body four;
        body = all_right (Clear r recipe) script body four;
      }

  -- ---- the parts of a call

  abbrev Only : Call → Lookup → Variable → Type 0
  Only call place x = P call.recipe.path x

  abbrev Fits : Call → Bound → Type 0
  Fits call bound = FitsCall g.defined call bound

  abbrev Kind : Call → Type 0
  Kind = IsCertainCall g.defined Of

  -- what holds of a recipe of the kind holds of what is met
  by_there : {X : Type 0} (R : X → Type 0) (unknown : X) (known : RecipeRow → ModuleRow → X) (call : Call) → Of call.recipe
      → ((recipe : RecipeRow) (row : ModuleRow) → g.defined.recipe call.recipe ≡ Some recipe → R (known recipe row)) → R (met g unknown (g.defined.recipe call.recipe) (g.defined.inside call.recipe.path) known)
  by_there R unknown known call those go =
      let a = certain.rows call.recipe those in
      let b = certain.resolved.modules call.recipe those in
      rw (a.1, b.1) (go a.0 b.0 a.1)

  module _ (call : Call) (flag : Bool) (those : Kind call) where
    abbrev r : RecipeName
    r = call.recipe

    abbrev FitsIn : RecipeRow → Bound → Type 0
    FitsIn recipe bound = length bound.values ≡ length recipe.parameters

    abbrev binds : RecipeRow → ModuleRow → Dialogue Bound
    binds recipe row = binding g.configuration (scene_of g r.path row) r.recipe recipe flag call.groups

    as_call : (recipe : RecipeRow) (bound : Bound) → g.defined.recipe r ≡ Some recipe → length bound.values ≡ length recipe.parameters → Fits call bound
    as_call recipe bound there e = e ∙ sym (ap (λ o. length (parameters_of o)) there)

    as_row : (recipe : RecipeRow) (bound : Bound) → g.defined.recipe r ≡ Some recipe → Fits call bound → length bound.values ≡ length recipe.parameters
    as_row recipe bound there e = e ∙ ap (λ o. length (parameters_of o)) there

    bound_by : (recipe : RecipeRow) (row : ModuleRow) → g.defined.recipe r ≡ Some recipe → EndsWell (Only call) (FitsIn recipe) (binds recipe row)
    bound_by recipe row there =
        let fine = are_fine r recipe those.of there in
        binding_well g r.path row r.recipe recipe flag (Named r.path) (P r.path) (meant r.path) call.groups (those.groups ∙ ap (λ o. length (parameters_of o)) there) fine.parameters fine.env

    head_certain : Certain (Only call) (Fits call) ((acts g).head call flag)
    head_certain =
        by_there (Certain (Only call) (Fits call)) (no_task g) _ call those.of
        (λ recipe row there. let fine = are_fine r recipe those.of there in
        then_certain (Only call) (FitsIn recipe) (Fits call) (lift (binds recipe row)) _ (lift_certain (Only call) (FitsIn recipe) (binds recipe row) (bound_by recipe row there))
        (λ bound fits. then_certain (Only call) Any (Fits call) (confirming g.configuration (scene_of g r.path row) r.recipe recipe flag g.configuration.yes recipe.confirm bound) _
        (confirming_certain g r.path row r.recipe recipe flag (Named r.path) (P r.path) (meant r.path) bound fits g.configuration.yes recipe.confirm fine.prompt) (λ u w. as_call recipe bound there fits)))

    priors_well : (bound : Bound) → Fits call bound → EndsWell (Only call) (AllByRecursion Kind) ((acts g).priors call flag bound)
    priors_well bound fits =
        by_there (EndsWell (Only call) (AllByRecursion Kind)) (no_dialogue g) _ call those.of
        (λ recipe row there. block_well g r.path row r.recipe recipe flag (Named r.path) (P r.path) (meant r.path) bound (as_row recipe bound there fits) Of recipe.priors
        (λ n. all_more (Contains recipe.priors) _ (λ d c. theirs.depends n r recipe d those.of there (Contains-append_left recipe.priors recipe.subsequents d c)) recipe.priors (all_contained recipe.priors)) (are_fine r recipe those.of there).priors)

    subsequents_well : (bound : Bound) → Fits call bound → EndsWell (Only call) (AllByRecursion Kind) ((acts g).subsequents call flag bound)
    subsequents_well bound fits =
        by_there (EndsWell (Only call) (AllByRecursion Kind)) (no_dialogue g) _ call those.of
        (λ recipe row there. block_well g r.path row r.recipe recipe flag (Named r.path) (P r.path) (meant r.path) bound (as_row recipe bound there fits) Of recipe.subsequents
        (λ n. all_more (Contains recipe.subsequents) _ (λ d c. theirs.depends n r recipe d those.of there (Contains-append_right recipe.priors recipe.subsequents d c)) recipe.subsequents (all_contained recipe.subsequents))
        (are_fine r recipe those.of there).subsequents)

    acts_body_certain : (bound : Bound) → Fits call bound → Certain (Only call) Any ((acts g).body call flag bound)
    acts_body_certain bound fits =
        by_there (Certain (Only call) Any) (no_task g) _ call those.of
        (λ recipe row there. let fine = are_fine r recipe those.of there in body_certain g r.path row r.recipe recipe flag (Named r.path) (P r.path) (meant r.path) bound (as_row recipe bound there fits) fine.interpreter fine.body)

    -- so a call of the kind begins
    pub begin_certain : Certain (Only call) (λ begun. Fits call begun.0 × AllByRecursion Kind begun.1) (begin (acts g) call flag)
    begin_certain =
        then_certain (Only call) (Fits call) _ ((acts g).head call flag) _ head_certain
        (λ bound fits. then_certain (Only call) (AllByRecursion Kind) _ (lift ((acts g).priors call flag bound)) _ (lift_certain (Only call) (AllByRecursion Kind) ((acts g).priors call flag bound) (priors_well bound fits)) (λ calls h. (fits, h)))

    -- and ends
    pub finish_certain : (bound : Bound) → Fits call bound → Certain (Only call) (AllByRecursion Kind) (finish (acts g) call flag bound)
    finish_certain bound fits =
        then_certain (Only call) Any (AllByRecursion Kind) ((acts g).body call flag bound) _ (acts_body_certain bound fits)
        (λ u w. lift_certain (Only call) (AllByRecursion Kind) ((acts g).subsequents call flag bound) (subsequents_well bound fits))

  -- Where what is read has values, the steps of such calls go well.
  pub calls_well : (reading : Call → Reading) → ((call : Call) (place : Lookup) (x : Variable) → P call.recipe.path x → IsRead (reading call) place x) → AreWell Kind Fits (host_parts (acts g) reading)
  calls_well reading is_read = record {
    begins = λ call flag old new r those l. task_ends (Only call) _ (reading call) (is_read call) (begin (acts g) call flag) l.piece r (begin_certain call flag those) l.goes;
    ends = λ call flag bound old new r those fits l. task_ends (Only call) _ (reading call) (is_read call) (finish (acts g) call flag bound) l.piece r (finish_certain call flag those bound fits) l.goes;
  }
