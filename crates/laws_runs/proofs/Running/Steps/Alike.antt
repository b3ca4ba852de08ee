-- Steps of calls by places go alike under their names.
use Rattle.std.proofs.Common.{◌≡◌, ◌∙◌, sym, subst, refl, ℕ, Bool, List, map, Some, Result, Ok, Err, true≢false}
use Rattle.std.specs.List.{AllByRecursion}
use Rattle.std.proofs.lemmas.Option.{none-some, same_Some}
use Rattle.just_host.specs.declared.config.Config.{Config}
use Rattle.just_host.specs.declared.entry.Entry.{Entry}
use Rattle.just_value.specs.declared.positional.Override.{Override}
use Rattle.modules_compilation.specs.declared.compilation.Compilation.{Compilation}
use Rattle.evaluate_context.specs.declared.context.ExecutionContext.{ExecutionContext}
use Rattle.resolve_analysis.specs.declared.analysis.Analysis.{Analysis}
use Rattle.analyze_calls.specs.Around.{Tails}
use Rattle.analyze_calls.specs.Calls.{CallRow}
use Rattle.analyze_calls.specs.Entered.{EnteredRow}
use Rattle.analyze_calls.specs.Placed.{placed_in}
use Rattle.analyze_calls.specs.declared.plan.Planned.{Planned}
use Rattle.analyze_calls.specs.declared.plan.Runner.{Runner}
use Rattle.analyze_calls.specs.Runs.Steps.{Begins, BeginsAt, Ends, HeadsBelow, brought, failed, here, here_ends, nowhere, nowhere_ends, parts, unranked}
use Rattle.meaning_evaluation.specs.Stages.Parameters.{Bound}
use Rattle.meaning_runs.specs.Failures.{Failure}
use Rattle.meaning_rules.specs.Worlds.Given.{Text, World}
use Rattle.meaning_rules.specs.Overrides.{overrides_of}
use Rattle.laws_runs.specs.Alike.Alike.{StepsAlike}
use Rattle.meaning_evaluation.specs.Named.{Call}
use Rattle.just_meaning.specs.Opening.{Opened}
use Rattle.just_meaning.specs.Runs.{steps}
use Rattle.laws_runs.specs.Settings.Settled.{AllSettle}
use Rattle.just_meaning.specs.Configured.{configuration_of}
use Rattle.laws_runs.specs.Running.Entered.{IsEnteredAlike, IsEnteredIn}
use Rattle.laws_runs.specs.Running.Steps.{IsRunning, IsTold, RestsOn, defined, named}
use Rattle.laws_runs.proofs.Running.Steps.Beginning.{begins_by_name, begun_on, begun_stop}
use Rattle.laws_runs.proofs.Running.Steps.Blocks.{all_running, none_from}
use Rattle.laws_runs.proofs.Running.Steps.Ending.{by_name, tails_on, tails_stop}
use Rattle.laws_runs.proofs.Running.Steps.Named.{decides_by_name, decides_by_place, injective, running_stands, shares_same}
use Rattle.laws_runs.proofs.Running.Steps.Standing.{Stands, placed}

module _ (w : World) (compilation : Compilation) (given : List Override) (base : Text) (analysis : Analysis) (settled : AllSettle w (overrides_of given) compilation analysis.values.value.settings.items) (config : Config) (root_key : List ℕ)
    (called : List ℕ) (is_read : ℕ → Bool) (runner : Runner) (opened : List Opened) (rests : RestsOn w compilation given base analysis settled config root_key called is_read runner opened) where
  abbrev Of : CallRow → Type 0
  Of call = IsRunning w compilation given base analysis settled config root_key called call

  abbrev name : CallRow → Call
  name call = named w compilation given base analysis settled config root_key call

  module _ (call : CallRow) (runs : Of call) where
    abbrev pub s : Stands w compilation given base analysis settled config root_key called is_read runner opened rests call.recipe
    s = running_stands w compilation given base analysis settled config root_key called is_read runner opened rests call runs

    pub place_is : placed_in runner call.recipe ≡ Some (s.planned, s.context)
    place_is = placed w compilation given base analysis settled config root_key called is_read runner opened rests call.recipe s

    pub begins_here : (flag : Bool) (old new : List Entry) (result : Result (EnteredRow × List CallRow) Failure) → Begins runner call flag old new result → BeginsAt runner s.planned s.context call flag old new result
    begins_here flag old new result (here {planned} {context} e at) =
        subst (λ (p : Planned × ExecutionContext). BeginsAt runner p.0 p.1 call flag old new result) (same_Some (planned, context) (s.planned, s.context) (sym e ∙ place_is)) at
    begins_here flag old new result (nowhere e same is) = absurd (none-some (s.planned, s.context) (sym e ∙ place_is))

    pub ends_here : (flag : Bool) (entered : EnteredRow) (old new : List Entry) (result : Result (List CallRow) Failure) → Ends runner call flag entered old new result
        → HeadsBelow call.recipe (Tails s.planned s.context flag entered runner old new) result
    ends_here flag entered old new result (here_ends {planned} {context} e at) =
        subst (λ (p : Planned × ExecutionContext). HeadsBelow call.recipe (Tails p.0 p.1 flag entered runner old new) result) (same_Some (planned, context) (s.planned, s.context) (sym e ∙ place_is)) at
    ends_here flag entered old new result (nowhere_ends e same is) = absurd (none-some (s.planned, s.context) (sym e ∙ place_is))

    pub entered_here : (flag : Bool) (entered : EnteredRow) (bound : Bound) → IsEnteredAlike runner call flag entered bound → IsEnteredIn s.planned s.context entered bound
    entered_here flag entered bound alike =
        subst (λ (p : Planned × ExecutionContext). IsEnteredIn p.0 p.1 entered bound) (same_Some (alike.planned, alike.context) (s.planned, s.context) (sym alike.placed ∙ place_is)) alike.alike

    begun : (flag : Bool) (old new : List Entry) (entered : EnteredRow) (calls : List CallRow) → Begins runner call flag old new (Ok (entered, calls))
        → (bound : Bound) × (steps (configuration_of config root_key w.expansion) (defined w compilation given base analysis settled config root_key) opened).Begins (name call) flag old new (Ok (bound, map name calls)) × IsEnteredAlike
        runner call flag entered bound × AllByRecursion Of calls
    begun flag old new entered calls b =
        let r = begun_on w compilation given base analysis settled config root_key called is_read runner opened rests call.recipe s runs flag call.groups call refl refl old new (Ok (entered, calls)) entered calls refl
        (begins_here flag old new (Ok (entered, calls)) b) in (
          r.bound,
          subst (λ (names : List Call). (steps (configuration_of config root_key w.expansion) (defined w compilation given base analysis settled config root_key) opened).Begins (name call) flag old new (Ok (r.bound, names)))
              (sym r.brings.are_named)
              (begins_by_name w compilation given base analysis settled config root_key called is_read runner opened rests call.recipe s runs flag call.groups call refl refl old new (Ok (r.bound, r.names)) r.leads),
          record { planned = s.planned; context = s.context; placed = place_is; alike = r.is },
          all_running w compilation given base analysis settled config root_key called is_read runner opened rests call.recipe s runs flag entered r.bound r.is calls r.brings.each_one,
        )

    not_begun : (flag : Bool) (old new : List Entry) (failure : Failure) → IsTold failure → Begins runner call flag old new (Err failure)
        → (steps (configuration_of config root_key w.expansion) (defined w compilation given base analysis settled config root_key) opened).Begins (name call) flag old new (Err failure)
    not_begun flag old new failure told b =
        begins_by_name w compilation given base analysis settled config root_key called is_read runner opened rests call.recipe s runs flag call.groups call refl refl old new (Err failure)
        (begun_stop w compilation given base analysis settled config root_key called is_read runner opened rests call.recipe s runs flag call.groups call refl refl old new (Err failure) failure refl told
        (begins_here flag old new (Err failure) b))

    module _ (flag : Bool) (entered : EnteredRow) (bound : Bound) (is : IsEnteredIn s.planned s.context entered bound) where
      abbrev its_end : List Entry → List Entry → Result (List Call) Failure → Type 0
      its_end = (steps (configuration_of config root_key w.expansion) (defined w compilation given base analysis settled config root_key) opened).Ends (name call) flag bound

      on : (old new : List Entry) (result : Result (List CallRow) Failure) (calls : List CallRow) → result ≡ Ok calls → HeadsBelow call.recipe (Tails s.planned s.context flag entered runner old new) result
          → its_end old new (Ok (map name calls)) × AllByRecursion Of calls
      on old new _ calls e (brought {calls = found} gives low) =
          let t = tails_on w compilation given base analysis settled config root_key called is_read runner opened rests call.recipe s runs flag entered bound is old new (Ok found) calls e gives in (
            subst (λ (names : List Call). its_end old new (Ok names)) (sym t.2.are_named) (by_name w compilation given base analysis settled config root_key called is_read runner opened rests call.recipe s runs flag entered bound is call
                refl old new (Ok t.0) t.1),
            all_running w compilation given base analysis settled config root_key called is_read runner opened rests call.recipe s runs flag entered bound is calls t.2.each_one,
          )
      on old new _ calls e (failed gives) = absurd (cc e)
      on old new _ calls e (unranked gives later) = absurd (cc e)

      pub stop : (old new : List Entry) (result : Result (List CallRow) Failure) (failure : Failure) → result ≡ Err failure → HeadsBelow call.recipe (Tails s.planned s.context flag entered runner old new) result → its_end old new (Err failure)
      stop old new _ failure e (brought gives low) = absurd (cc e)
      stop old new _ failure e (failed {failure = other} gives) =
          by_name w compilation given base analysis settled config root_key called is_read runner opened rests call.recipe s runs flag entered bound is call refl old new (Err failure)
          (tails_stop w compilation given base analysis settled config root_key called is_read runner opened rests call.recipe s runs flag entered bound is old new (Err other) failure e gives)
      stop old new _ failure e (unranked {calls = calls} gives later) =
          let t = tails_on w compilation given base analysis settled config root_key called is_read runner opened rests call.recipe s runs flag entered bound is old new (Ok calls) calls refl gives in
          absurd (true≢false (sym later ∙ none_from w compilation given base analysis settled config root_key called is_read runner opened rests call.recipe s runs flag entered bound is calls t.2.each_one))

  -- steps of calls by places are steps by names
  pub steps_alike : StepsAlike (parts runner) (steps (configuration_of config root_key w.expansion) (defined w compilation given base analysis settled config root_key) opened) Of name (IsEnteredAlike runner) IsTold
  steps_alike = record {
    decides = decides_by_place;
    decides' = decides_by_name;
    injective = injective w compilation given base analysis settled config root_key called is_read runner opened rests;
    shares = shares_same w compilation given base analysis settled config root_key called is_read runner opened rests;
    begun = λ call flag old new entered calls runs b. begun call runs flag old new entered calls b;
    not_begun = λ call flag old new failure runs told b. not_begun call runs flag old new failure told b;
    ended = λ call flag entered bound old new calls runs alike h. on call runs flag entered bound (entered_here call runs flag entered bound alike) old new (Ok calls) calls refl (ends_here call runs flag entered old new (Ok calls) h);
    not_ended = λ call flag entered bound old new failure runs alike told h. stop call runs flag entered bound (entered_here call runs flag entered bound alike) old new (Err failure) failure refl
        (ends_here call runs flag entered old new (Err failure) h);
  }
