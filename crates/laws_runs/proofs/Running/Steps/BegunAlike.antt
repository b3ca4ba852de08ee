-- Steps of calls by places that were cut are beginnings of steps by names.
use Rattle.std.proofs.Common.{◌≡◌, ◌∙◌, sym, subst, refl, ℕ, Bool, List, Some, Ok, Err}
use Rattle.std.proofs.lemmas.Option.{same_Some}
use Rattle.just_host.specs.declared.config.Config.{Config}
use Rattle.just_host.specs.declared.entry.Entry.{Entry}
use Rattle.just_value.specs.declared.positional.Override.{Override}
use Rattle.modules_compilation.specs.declared.compilation.Compilation.{Compilation}
use Rattle.evaluate_context.specs.declared.context.ExecutionContext.{ExecutionContext}
use Rattle.resolve_analysis.specs.declared.analysis.Analysis.{Analysis}
use Rattle.analyze_calls.specs.Around.{HeadsBegin, TailsBegin}
use Rattle.analyze_calls.specs.Binding.{Binds}
use Rattle.analyze_calls.specs.Calls.{CallRow}
use Rattle.analyze_calls.specs.Entered.{EnteredRow}
use Rattle.analyze_calls.specs.Placed.{placed_in}
use Rattle.analyze_calls.specs.declared.plan.Planned.{Planned}
use Rattle.analyze_calls.specs.declared.plan.Runner.{Runner}
use Rattle.analyze_calls.specs.Runs.Cut.{InBegin, InEnd, in_binding, in_head, in_tails, nothing_begun, nothing_ended}
use Rattle.analyze_calls.specs.Runs.Cut as by_place
use Rattle.analyze_calls.specs.Runs.Steps.{Begins, Ends, parts}
use Rattle.meaning_dialogues.specs.Faults.{memory}
use Rattle.meaning_evaluation.specs.Stages.Parameters.{Bound}
use Rattle.meaning_runs.specs.Failures.{evaluation}
use Rattle.meaning_rules.specs.Worlds.Given.{Text, World}
use Rattle.meaning_rules.specs.Overrides.{overrides_of}
use Rattle.laws_runs.specs.Alike.Cut.{CutsAlike}
use Rattle.just_meaning.specs.Begun.{cuts}
use Rattle.just_meaning.specs.Opening.{Opened}
use Rattle.laws_runs.specs.Settings.Settled.{AllSettle}
use Rattle.just_meaning.specs.Configured.{configuration_of}
use Rattle.laws_runs.specs.Running.Entered.{IsEnteredAlike}
use Rattle.laws_runs.specs.Running.Steps.{IsRunning, RestsOn, defined, named}
use Rattle.laws_runs.proofs.Running.Steps.Alike.{begins_here, ends_here, entered_here, place_is, s, stop}
use Rattle.laws_runs.proofs.Running.Steps.BegunBeginning.{binding_begun, failed_begun, head_begun, none_begun}
use Rattle.laws_runs.proofs.Running.Steps.BegunEnding.{none_ended, tails_ended, whole_ended}
use Rattle.laws_runs.proofs.Running.Steps.Standing.{Stands}

module _ (w : World) (compilation : Compilation) (given : List Override) (base : Text) (analysis : Analysis) (settled : AllSettle w (overrides_of given) compilation analysis.values.value.settings.items) (config : Config) (root_key : List ℕ)
    (called : List ℕ) (is_read : ℕ → Bool) (runner : Runner) (opened : List Opened) (rests : RestsOn w compilation given base analysis settled config root_key called is_read runner opened) where
  module _ (call : CallRow) (runs : IsRunning w compilation given base analysis settled config root_key called call) where
    abbrev its : Stands w compilation given base analysis settled config root_key called is_read runner opened rests call.recipe
    its = s w compilation given base analysis settled config root_key called is_read runner opened rests call runs

    abbrev IsBegun : Bool → List Entry → List Entry → Type 0
    IsBegun = (cuts (configuration_of config root_key w.expansion) (defined w compilation given base analysis settled config root_key) opened).InBegin (named w compilation given base analysis settled config root_key call)

    abbrev IsEnded : Bool → Bound → List Entry → List Entry → Type 0
    IsEnded = (cuts (configuration_of config root_key w.expansion) (defined w compilation given base analysis settled config root_key) opened).InEnd (named w compilation given base analysis settled config root_key call)

    -- what holds of the recipe and the context there holds of those that it has
    as_its : (P : Planned → ExecutionContext → Type 0) (planned : Planned) (context : ExecutionContext) → placed_in runner call.recipe ≡ Some (planned, context) → P planned context → P its.planned its.context
    as_its P planned context e h =
        subst (λ (p : Planned × ExecutionContext). P p.0 p.1) (same_Some (planned, context) (its.planned, its.context) (sym e ∙ place_is w compilation given base analysis settled config root_key called is_read runner opened rests call runs)) h

    -- a call that begins
    in_begin : (flag : Bool) (old new : List Entry) → InBegin runner call flag old new → IsBegun flag old new
    in_begin flag old new (nothing_begun e) = none_begun w compilation given base analysis settled config root_key called is_read runner opened rests call.recipe its runs flag call.groups call refl refl old new e
    in_begin flag old new (in_binding {planned} {context} e binds) =
        binding_begun w compilation given base analysis settled config root_key called is_read runner opened rests call.recipe its runs flag call.groups call refl refl old new (evaluation memory)
        (as_its (λ p c. Binds p c flag call.groups old new (Err (evaluation memory))) planned context e binds)
    in_begin flag old new (in_head {planned} {context} {mid} {entered} e binds heads) =
        let both = as_its (λ p c. Binds p c flag call.groups old mid (Ok entered) × HeadsBegin p c flag entered runner mid new) planned context e (binds, heads) in
        head_begun w compilation given base analysis settled config root_key called is_read runner opened rests call.recipe its runs flag call.groups call refl refl old mid new entered both.0 both.1

    -- one that failed as it began
    not_begun : (flag : Bool) (old new : List Entry) → Begins runner call flag old new (Err (evaluation memory)) → IsBegun flag old new
    not_begun flag old new b =
        failed_begun w compilation given base analysis settled config root_key called is_read runner opened rests call.recipe its runs flag call.groups call refl refl old new (Err (evaluation memory)) (evaluation memory) refl
        (begins_here w compilation given base analysis settled config root_key called is_read runner opened rests call runs flag old new (Err (evaluation memory)) b)

    module _ (flag : Bool) (entered : EnteredRow) (bound : Bound) (alike : IsEnteredAlike runner call flag entered bound) where
      -- a call that ends
      in_end : (old new : List Entry) → InEnd runner call flag entered old new → IsEnded flag bound old new
      in_end old new (nothing_ended e) =
          none_ended w compilation given base analysis settled config root_key called is_read runner opened rests call.recipe its runs flag entered bound
          (entered_here w compilation given base analysis settled config root_key called is_read runner opened rests call runs flag entered bound alike) call refl old new e
      in_end old new (in_tails {planned} {context} e tails) =
          tails_ended w compilation given base analysis settled config root_key called is_read runner opened rests call.recipe its runs flag entered bound
          (entered_here w compilation given base analysis settled config root_key called is_read runner opened rests call runs flag entered bound alike) call refl old new
          (as_its (λ p c. TailsBegin p c flag entered runner old new) planned context e tails)

      -- one that failed as it ended
      not_ended : (old new : List Entry) → Ends runner call flag entered old new (Err (evaluation memory)) → IsEnded flag bound old new
      not_ended old new h =
          let is = entered_here w compilation given base analysis settled config root_key called is_read runner opened rests call runs flag entered bound alike in
          whole_ended w compilation given base analysis settled config root_key called is_read runner opened rests call.recipe its runs flag entered bound is call refl old new (Err (evaluation memory))
          (stop w compilation given base analysis settled config root_key called is_read runner opened rests call runs flag entered bound is old new (Err (evaluation memory)) (evaluation memory) refl
          (ends_here w compilation given base analysis settled config root_key called is_read runner opened rests call runs flag entered old new (Err (evaluation memory)) h))

  -- what was recorded of steps by places is the beginning of what they record by names
  pub cuts_alike : CutsAlike (parts runner) (by_place.cuts runner) (cuts (configuration_of config root_key w.expansion) (defined w compilation given base analysis settled config root_key) opened)
      (IsRunning w compilation given base analysis settled config root_key called) (named w compilation given base analysis settled config root_key) (IsEnteredAlike runner)
  cuts_alike = record {
    in_begin = λ call flag old new runs h. in_begin call runs flag old new h;
    in_end = λ call flag entered bound old new runs alike h. in_end call runs flag entered bound alike old new h;
    not_begun = λ call flag old new runs h. not_begun call runs flag old new h;
    not_ended = λ call flag entered bound old new runs alike h. not_ended call runs flag entered bound alike old new h;
  }
