-- The functions of a recipe that runs are those by names, and what is bound in the module is known.
use Rattle.std.proofs.Common.{◌≡◌, ◌⊎◌, inl, inr, ℕ, Bool, true, List, Option, Some, None}
use Rattle.just_host.specs.declared.config.Config.{Config}
use Rattle.just_value.specs.declared.positional.Override.{Override}
use Rattle.modules_compilation.specs.declared.compilation.Compilation.{Compilation}
use Rattle.evaluate_expressions.specs.Situations.{functions_in}
use Rattle.resolve_analysis.specs.Opening.{Runs}
use Rattle.resolve_analysis.specs.declared.analysis.Analysis.{Analysis}
use Rattle.analyze_calls.specs.Entered.{EnteredRow}
use Rattle.analyze_calls.specs.declared.plan.Runner.{Runner}
use Rattle.meaning_dialogues.specs.Calls.{DefinedFunction, function_named}
use Rattle.meaning_dialogues.specs.Dialogue.{Variable}
use Rattle.meaning_evaluation.specs.Stages.Parameters.{Bound}
use Rattle.meaning_evaluation.proofs.Stages.Depth.{HasNumber}
use Rattle.laws_evaluation.specs.Soundness.Known.{BodiesKnown, IsBoundIn, IsCallable, OneForEach}
use Rattle.laws_evaluation.specs.Soundness.Opening.{IsNumbered}
use Rattle.meaning_rules.specs.Worlds.Given.{Text, World}
use Rattle.meaning_rules.specs.Overrides.{overrides_of}
use Rattle.just_meaning.specs.Opening.{Opened}
use Rattle.laws_runs.specs.Settings.Settled.{AllSettle}
use Rattle.laws_runs.specs.ByName.Evaluators.{GivesAlike, HasFunctions}
use Rattle.laws_runs.proofs.ByName.Variables.{each_up}
use Rattle.laws_runs.specs.Running.Entered.{IsEnteredIn}
use Rattle.laws_runs.specs.Running.Steps.{RestsOn}
use Rattle.laws_runs.proofs.Running.Steps.Expressions.{IsBoundNumber, body_here, is_reached, names_are_known, place_here, viewed}
use Rattle.laws_runs.proofs.Running.Steps.Functions.{functions_same}
use Rattle.laws_runs.proofs.Running.Steps.Standing.{Stands}

module _ (w : World) (compilation : Compilation) (given : List Override) (base : Text) (analysis : Analysis) (settled : AllSettle w (overrides_of given) compilation analysis.values.value.settings.items) (config : Config) (root_key : List ℕ)
    (called : List ℕ) (is_read : ℕ → Bool) (runner : Runner) (opened : List Opened) (rests : RestsOn w compilation given base analysis settled config root_key called is_read runner opened)
    (rank : ℕ) (s : Stands w compilation given base analysis settled config root_key called is_read runner opened rests rank) where
  -- a number that a recipe's expressions may name is bound in the module
  pub to_bound : (o : Option ℕ) → IsNumbered (IsBoundNumber w compilation given base analysis settled config root_key called is_read runner opened rests rank s) o → IsBoundIn s.context.scope.now o
  to_bound None h = h
  to_bound (Some n) h = rests.bound s.resolved.module s.context s.context_there (viewed w compilation given base analysis settled config root_key called is_read runner opened rests rank s).seen n h

  module _ (runs : Runs analysis.table.value.recipes.items config.no_dependencies called rank) where
    abbrev pub reached_here : DefinedFunction → Bool
    reached_here = (names_are_known w compilation given base analysis settled config root_key called is_read runner opened rests rank s runs).reached

    -- what the bodies of functions name that may be reached is known
    pub bodies_known : BodiesKnown (functions_in s.context) (λ f. reached_here f ≡ true) (λ x. IsBoundIn s.context.scope.now x.number)
    bodies_known = record {
      body = λ name f e reached. each_up
          (λ (x : Variable). HasNumber f.parameters x.number ⊎ IsNumbered (IsBoundNumber w compilation given base analysis settled config root_key called is_read runner opened rests rank s) x.number)
          (λ (x : Variable). HasNumber f.parameters x.number ⊎ IsBoundIn s.context.scope.now x.number)
          (λ n arguments. IsCallable (OneForEach (λ (g : DefinedFunction). reached_here g ≡ true)) (function_named n (functions_in s.context)) n arguments)
          (λ x h. up f x h) f.body ((names_are_known w compilation given base analysis settled config root_key called is_read runner opened rests rank s runs).bodies.body name f e reached);
    }
      where
        up : (f : DefinedFunction) (x : Variable) → HasNumber f.parameters x.number ⊎ IsNumbered (IsBoundNumber w compilation given base analysis settled config root_key called is_read runner opened rests rank s) x.number
            → HasNumber f.parameters x.number ⊎ IsBoundIn s.context.scope.now x.number
        up f x (inl h) = inl h
        up f x (inr h) = inr (to_bound x.number h)

    -- the functions of a body behind its parameters
    pub has_functions : (flag : Bool) (entered : EnteredRow) (bound : Bound) (is : IsEnteredIn s.planned s.context entered bound)
        → HasFunctions (body_here w compilation given base analysis settled config root_key called is_read runner opened rests rank s flag entered bound is
        (is_reached w compilation given base analysis settled config root_key called is_read runner opened rests rank s runs flag entered bound is))
        (place_here w compilation given base analysis settled config root_key called is_read runner opened rests rank s flag entered bound is
        (is_reached w compilation given base analysis settled config root_key called is_read runner opened rests rank s runs flag entered bound is))
    has_functions flag entered bound is =
        let b = body_here w compilation given base analysis settled config root_key called is_read runner opened rests rank s flag entered bound is
        (is_reached w compilation given base analysis settled config root_key called is_read runner opened rests rank s runs flag entered bound is) in
        let p = place_here w compilation given base analysis settled config root_key called is_read runner opened rests rank s flag entered bound is
        (is_reached w compilation given base analysis settled config root_key called is_read runner opened rests rank s runs flag entered bound is) in
        record { same = functions_same w compilation given base analysis settled config root_key called is_read runner opened rests rank s (GivesAlike b p) (λ x y h. h); known = bodies_known }
