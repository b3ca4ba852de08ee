-- What a call brings about is of what its recipe's row names; so reached calls bring about reached calls.
use Rattle.std.proofs.Common.{◌≡◌, List, ◌++◌, Bool, false, Option, Some, None, refl}
use Rattle.std.specs.Prelude.{Contains}
use Rattle.std.specs.List.{AllByRecursion}
use Rattle.std.proofs.lemmas.List.Elements.{Contains-append_left, Contains-append_right}
use Rattle.meaning_dialogues.specs.Dialogue.{Lookup, Variable, Reading}
use Rattle.meaning_dialogues.specs.Evaluation.{Value}
use Rattle.meaning_dialogues.specs.Meaning.{Meaning}
use Rattle.meaning_evaluation.specs.Stages.Parameters.{Bound}
use Rattle.meaning_dialogues.proofs.Soundness.{Sound, Any}
use Rattle.meaning_runs.specs.Task.{lift}
use Rattle.meaning_runs.specs.Acts.{Acts, begin, finish, host_parts, meaning_of}
use Rattle.meaning_runs.specs.Told.{Answers}
use Rattle.meaning_runs.specs.Laws.{IsClosed}
use Rattle.meaning_runs.proofs.Restricted.{AreClosed}
use Rattle.meaning_evaluation.specs.Named.{RecipeName, Call, DependencyRow, RecipeRow, ModuleRow}
use Rattle.meaning_evaluation.specs.Scopes.{valued}
use Rattle.meaning_evaluation.specs.Groups.{block}
use Rattle.meaning_evaluation.specs.Calling.{Ground, scene_of, met, no_dialogue, acts}
use Rattle.just_meaning.specs.Opening.{IsReached, by_recipe}
use Rattle.laws_agreement.specs.Agreement.Given.{Gives}
use Rattle.laws_agreement.specs.Agreement.Kinds.{IsReachedCall}
use Rattle.laws_agreement.proofs.Agreement.Given.{Free, lift_gives, gives_any, then_gives, goes_gives, means_gives}
use Rattle.laws_agreement.proofs.Agreement.Blocks.{block_gives}
use Rattle.laws_agreement.proofs.Agreement.Lists.{all_more, all_contained, contains_map}

-- ---- acts that give calls of a kind

module _ {Call Bound : Type 0} (a : Acts Call Bound) where
  -- the dialogues of a call give calls of this kind
  abbrev pub Brings : Call → (Call → Type 0) → Type 0
  Brings call To = ((flag : Bool) (bound : Bound) → Sound Free (AllByRecursion To) (a.priors call flag bound)) × ((flag : Bool) (bound : Bound) → Sound Free (AllByRecursion To) (a.subsequents call flag bound))

  pub begin_gives : (To : Call → Type 0) (call : Call) (flag : Bool) → Brings call To → Gives (λ begun. AllByRecursion To begun.1) (begin a call flag)
  begin_gives To call flag h =
      then_gives Any _ (a.head call flag) _ (gives_any (a.head call flag))
      (λ bound u. then_gives (AllByRecursion To) _ (lift (a.priors call flag bound)) _ (lift_gives (AllByRecursion To) (a.priors call flag bound) (h.0 flag bound)) (λ calls g. g))

  pub finish_gives : (To : Call → Type 0) (call : Call) (flag : Bool) (bound : Bound) → Brings call To → Gives (AllByRecursion To) (finish a call flag bound)
  finish_gives To call flag bound h =
      then_gives Any _ (a.body call flag bound) _ (gives_any (a.body call flag bound)) (λ w u. lift_gives (AllByRecursion To) (a.subsequents call flag bound) (h.1 flag bound))

  -- the calls that calls of the kind bring about are of the kind, for every host
  pub acts_closed : (Of : Call → Type 0) (reading : Call → Reading) → ((call : Call) → Of call → Brings call Of) → AreClosed (host_parts a reading) Of
  acts_closed Of reading h = record {
    begins = λ call flag old new bound calls those l. goes_gives _ (reading call) (begin a call flag) l.piece (bound, calls) (begin_gives Of call flag (h call those)) l.goes;
    ends = λ call flag bound old new calls those l. goes_gives _ (reading call) (finish a call flag bound) l.piece calls (finish_gives Of call flag bound (h call those)) l.goes;
  }

  -- and by fixed answers
  pub acts_closed_by : (Of : Call → Type 0) (f : Answers) (variables : Call → Lookup → Variable → Meaning Value) → ((call : Call) → Of call → Brings call Of) → IsClosed (meaning_of a f variables) Of
  acts_closed_by Of f variables h = record {
    priors = λ call flag bound calls those u e. means_gives _ f (variables call) (lift (a.priors call flag bound)) calls (lift_gives _ (a.priors call flag bound) ((h call those).0 flag bound)) e;
    subsequents = λ call flag bound calls those u e. means_gives _ f (variables call) (lift (a.subsequents call flag bound)) calls (lift_gives _ (a.subsequents call flag bound) ((h call those).1 flag bound)) e;
  }

-- ---- calls of recipes

module _ (g : Ground) where
  -- what the recipe's row names, where dependencies aren't left out
  abbrev pub NamedBy : RecipeName → (Call → Type 0) → Type 0
  NamedBy r To = g.configuration.no_dependencies ≡ false → (row : RecipeRow) (d : DependencyRow) → g.defined.recipe r ≡ Some row → Contains (row.priors ++ row.subsequents) d → (call : Call) → call.recipe ≡ d.on → To call

  priors_give : (call : Call) (To : Call → Type 0) (flag : Bool) (bound : Bound) (o : Option RecipeRow) (p : Option ModuleRow) → g.defined.recipe call.recipe ≡ o → NamedBy call.recipe To
      → Sound Free (AllByRecursion To) (met g (no_dialogue g) o p (λ recipe row. block g.configuration.no_dependencies g.defined (λ argument. valued g.configuration (scene_of g call.recipe.path row) call.recipe.recipe recipe flag bound argument.expression) recipe.priors))
  priors_give call To flag bound (Some recipe) (Some row) e h =
      block_gives g.defined _ To g.configuration.no_dependencies recipe.priors
      (λ n. all_more (Contains recipe.priors) _ (λ d c values. h n recipe d e (Contains-append_left recipe.priors recipe.subsequents d c) _ refl) recipe.priors (all_contained recipe.priors))
  priors_give call To flag bound (Some recipe) None e h = tt
  priors_give call To flag bound None p e h = tt

  subsequents_give : (call : Call) (To : Call → Type 0) (flag : Bool) (bound : Bound) (o : Option RecipeRow) (p : Option ModuleRow) → g.defined.recipe call.recipe ≡ o → NamedBy call.recipe To
      → Sound Free (AllByRecursion To) (met g (no_dialogue g) o p (λ recipe row. block g.configuration.no_dependencies g.defined (λ argument. valued g.configuration (scene_of g call.recipe.path row) call.recipe.recipe recipe flag bound argument.expression) recipe.subsequents))
  subsequents_give call To flag bound (Some recipe) (Some row) e h =
      block_gives g.defined _ To g.configuration.no_dependencies recipe.subsequents
      (λ n. all_more (Contains recipe.subsequents) _ (λ d c values. h n recipe d e (Contains-append_right recipe.priors recipe.subsequents d c) _ refl) recipe.subsequents (all_contained recipe.subsequents))
  subsequents_give call To flag bound (Some recipe) None e h = tt
  subsequents_give call To flag bound None p e h = tt

  -- a call brings about calls of what its recipe's row names
  pub calls_bring : (call : Call) (To : Call → Type 0) → NamedBy call.recipe To → Brings (acts g) call To
  calls_bring call To h =
      (λ flag bound. priors_give call To flag bound (g.defined.recipe call.recipe) (g.defined.inside call.recipe.path) refl h, λ flag bound. subsequents_give call To flag bound (g.defined.recipe call.recipe) (g.defined.inside call.recipe.path) refl h)

  module _ (invoked : List RecipeName) where
    abbrev Of : Call → Type 0
    Of = IsReachedCall g.defined g.configuration.no_dependencies invoked

    pub reached_bring : (call : Call) → Of call → Brings (acts g) call Of
    reached_bring call those =
        calls_bring call Of
        (λ n row d e c other is. let r : IsReached g.defined g.configuration.no_dependencies invoked d.on = by_recipe n those e (contains_map (λ dependency. dependency.on) (row.priors ++ row.subsequents) d c) in rw is r)

    -- Reached calls bring about reached calls, for every host.
    pub reached_closed : (reading : Call → Reading) → AreClosed (host_parts (acts g) reading) Of
    reached_closed reading = acts_closed (acts g) Of reading reached_bring

    -- And by fixed answers.
    pub reached_closed_by : (f : Answers) (variables : Call → Lookup → Variable → Meaning Value) → IsClosed (meaning_of (acts g) f variables) Of
    reached_closed_by f variables = acts_closed_by (acts g) Of f variables reached_bring
