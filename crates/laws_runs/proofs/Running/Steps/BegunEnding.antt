-- What was recorded of a call by places that was cut as it ended is a beginning of what it records by names.
use Rattle.std.proofs.Common.{◌≡◌, sym, subst, refl, ℕ, Bool, List, ◌++◌, Result, Ok, Err}
use Rattle.just_host.specs.declared.config.Config.{Config}
use Rattle.just_host.specs.declared.entry.Entry.{Entry}
use Rattle.just_value.specs.declared.positional.Override.{Override}
use Rattle.modules_compilation.specs.declared.compilation.Compilation.{Compilation}
use Rattle.resolve_analysis.specs.Opening.{Runs}
use Rattle.resolve_analysis.specs.declared.analysis.Analysis.{Analysis}
use Rattle.justfile_evaluator.specs.Bodies.{NamedBody, task_of}
use Rattle.analyze_calls.specs.Around.{Tails, TailsBegin, after_it, in_body, nothing, runs as runs_then}
use Rattle.analyze_calls.specs.Calls.{CallRow}
use Rattle.analyze_calls.specs.Entered.{EnteredRow}
use Rattle.analyze_calls.specs.declared.plan.Runner.{Runner}
use Rattle.meaning_evaluation.specs.Stages.Parameters.{Bound}
use Rattle.meaning_runs.specs.Failures.{Failure}
use Rattle.meaning_runs.specs.Task.{Task, TaskBegins, lift}
use Rattle.meaning_runs.proofs.Beginnings.{task_begins_first, task_begins_here, task_whole_begins}
use Rattle.meaning_rules.specs.Worlds.Given.{Text, World}
use Rattle.meaning_rules.specs.Overrides.{overrides_of}
use Rattle.meaning_evaluation.specs.Named.{Call}
use Rattle.just_meaning.specs.Begun.{cuts}
use Rattle.just_meaning.specs.Opening.{Opened}
use Rattle.just_meaning.specs.Runs.{steps}
use Rattle.laws_runs.specs.Settings.Settled.{AllSettle}
use Rattle.just_meaning.specs.Configured.{configuration_of}
use Rattle.laws_runs.specs.Running.Entered.{IsEnteredIn}
use Rattle.laws_runs.specs.Running.Steps.{RestsOn, defined, named}
use Rattle.laws_runs.proofs.Running.Steps.Ending.{after_names, b, by_name, its_body_begins, tails_on, tails_stop, whole}
use Rattle.laws_runs.proofs.Running.Steps.Standing.{Stands}

module _ (w : World) (compilation : Compilation) (given : List Override) (base : Text) (analysis : Analysis) (settled : AllSettle w (overrides_of given) compilation analysis.values.value.settings.items) (config : Config) (root_key : List ℕ)
    (called : List ℕ) (is_read : ℕ → Bool) (runner : Runner) (opened : List Opened) (rests : RestsOn w compilation given base analysis settled config root_key called is_read runner opened)
    (rank : ℕ) (s : Stands w compilation given base analysis settled config root_key called is_read runner opened rests rank)
    (runs : Runs analysis.table.value.recipes.items config.no_dependencies called rank) (flag : Bool) (entered : EnteredRow) (bound : Bound) (is : IsEnteredIn s.planned s.context entered bound) where
  abbrev body : NamedBody
  body = b w compilation given base analysis settled config root_key called is_read runner opened rests rank s runs flag entered bound is

  abbrev its_whole : Task (List Call)
  its_whole = whole w compilation given base analysis settled config root_key called is_read runner opened rests rank s runs flag entered bound is

  -- a whole end by places is a beginning by names
  tails_whole : (old new rest : List Entry) (r : Result (List CallRow) Failure) → Tails s.planned s.context flag entered runner old (new ++ rest) r → TaskBegins body.reading its_whole old new
  tails_whole old new rest (Ok calls) t =
      let on = tails_on w compilation given base analysis settled config root_key called is_read runner opened rests rank s runs flag entered bound is old (new ++ rest) (Ok calls) calls refl t in
      record { rest = rest; result = Ok on.0; leads = on.1 }
  tails_whole old new rest (Err failure) t = record {
    rest = rest;
    result = Err failure;
    leads = tails_stop w compilation given base analysis settled config root_key called is_read runner opened rests rank s runs flag entered bound is old (new ++ rest) (Err failure) failure refl t;
  }

  -- nothing of it
  none_there : (old new : List Entry) → new ≡ old → TaskBegins body.reading its_whole old new
  none_there old new e = subst (λ l. TaskBegins body.reading its_whole old l) (sym e) (task_begins_here body.reading its_whole old)

  -- a beginning of its end by places is one by names
  tails_begin : (old new : List Entry) → TailsBegin s.planned s.context flag entered runner old new → TaskBegins body.reading its_whole old new
  tails_begin old new (nothing e) = none_there old new e
  tails_begin old new (in_body h) =
      task_begins_first body.reading (task_of body) (λ u. lift (after_names w compilation given base analysis settled config root_key called is_read runner opened rests rank s runs flag entered bound is)) old new
      (its_body_begins w compilation given base analysis settled config root_key called is_read runner opened rests rank s runs flag entered bound is old new h)
  tails_begin old new (after_it h after) = tails_whole old new after.rest after.result (runs_then h after.leads)

  -- ---- by the call's name

  module _ (call : CallRow) (at_rank : call.recipe ≡ rank) where
    abbrev IsBeginning : List Entry → List Entry → Type 0
    IsBeginning = (cuts (configuration_of config root_key w.expansion) (defined w compilation given base analysis settled config root_key) opened).InEnd (named w compilation given base analysis settled config root_key call) flag bound

    -- what begins its task by its parts begins it by the call's name
    begun_by_name : (old new : List Entry) → TaskBegins body.reading its_whole old new → IsBeginning old new
    begun_by_name old new h = record {
      rest = h.rest;
      result = h.result;
      leads = by_name w compilation given base analysis settled config root_key called is_read runner opened rests rank s runs flag entered bound is call at_rank old (new ++ h.rest) h.result h.leads;
    }

    -- nothing of it
    pub none_ended : (old new : List Entry) → new ≡ old → IsBeginning old new
    none_ended old new e = begun_by_name old new (none_there old new e)

    -- a part of it
    pub tails_ended : (old new : List Entry) → TailsBegin s.planned s.context flag entered runner old new → IsBeginning old new
    tails_ended old new h = begun_by_name old new (tails_begin old new h)

    -- the whole of it, however it ended
    pub whole_ended : (old new : List Entry) (result : Result (List Call) Failure)
        → (steps (configuration_of config root_key w.expansion) (defined w compilation given base analysis settled config root_key) opened).Ends (named w compilation given base analysis settled config root_key call) flag bound old new result
        → IsBeginning old new
    whole_ended old new result h = task_whole_begins _ _ old new result h
