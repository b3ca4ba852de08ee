-- What was recorded of a call by places that was cut as it began is a beginning of what it records by names.
use Rattle.std.proofs.Common.{◌≡◌, sym, subst, refl, ℕ, Bool, List, ◌++◌, Result, Ok, Err}
use Rattle.just_host.specs.declared.config.Config.{Config}
use Rattle.just_host.specs.declared.entry.Entry.{Entry}
use Rattle.just_value.specs.declared.positional.Override.{Override}
use Rattle.modules_compilation.specs.declared.compilation.Compilation.{Compilation}
use Rattle.resolve_analysis.specs.Opening.{Runs}
use Rattle.resolve_analysis.specs.declared.analysis.Analysis.{Analysis}
use Rattle.analyze_calls.specs.Around.{Heads, HeadsBegin}
use Rattle.analyze_calls.specs.Binding.{Binds}
use Rattle.analyze_calls.specs.Calls.{CallRow}
use Rattle.analyze_calls.specs.Entered.{EnteredRow}
use Rattle.analyze_calls.specs.declared.plan.Runner.{Runner}
use Rattle.analyze_calls.specs.Runs.Steps.{BeginsAt, begins, headless, unbound}
use Rattle.meaning_dialogues.specs.Dialogue.{Begins as DialogueBegins}
use Rattle.meaning_dialogues.specs.Evaluation.{Value}
use Rattle.meaning_evaluation.specs.Stages.Parameters.{Bound}
use Rattle.meaning_runs.specs.Failures.{Failure}
use Rattle.meaning_runs.specs.Task.{Task, TaskBegins, ends, lift, ◌>>=◌}
use Rattle.meaning_runs.proofs.Beginnings.{lift_begins, task_begins_first, task_begins_here, task_whole_begins}
use Rattle.meaning_rules.specs.Worlds.Given.{Text, World}
use Rattle.meaning_rules.specs.Overrides.{overrides_of}
use Rattle.meaning_evaluation.specs.Named.{Call}
use Rattle.just_meaning.specs.Begun.{cuts}
use Rattle.just_meaning.specs.Opening.{Opened}
use Rattle.laws_runs.specs.Settings.Settled.{AllSettle}
use Rattle.just_meaning.specs.Configured.{configuration_of}
use Rattle.laws_runs.specs.Running.Steps.{RestsOn, defined, named}
use Rattle.laws_runs.proofs.Running.Steps.Beginning.{asked, before, begins_by_name, below_stop, binds_here, below_here, by_name, head, heads_on, heads_stop, is_bound, whole}
use Rattle.laws_runs.proofs.Running.Steps.Places.{parameters}
use Rattle.laws_runs.proofs.Running.Steps.Standing.{Stands}
use Rattle.laws_runs.proofs.Running.Steps.Terms.{by_names}
use Rattle.laws_runs.proofs.Running.Steps.Values.{binding_go, counted_all, counts_by}

module _ (w : World) (compilation : Compilation) (given : List Override) (base : Text) (analysis : Analysis) (settled : AllSettle w (overrides_of given) compilation analysis.values.value.settings.items) (config : Config) (root_key : List ℕ)
    (called : List ℕ) (is_read : ℕ → Bool) (runner : Runner) (opened : List Opened) (rests : RestsOn w compilation given base analysis settled config root_key called is_read runner opened)
    (rank : ℕ) (s : Stands w compilation given base analysis settled config root_key called is_read runner opened rests rank)
    (runs : Runs analysis.table.value.recipes.items config.no_dependencies called rank) (flag : Bool) (groups : List Value) where
  abbrev its_head : Task Bound
  its_head = head w compilation given base analysis settled config root_key called is_read runner opened rests rank s runs flag groups

  abbrev its_whole : Task (Bound × List Call)
  its_whole = whole w compilation given base analysis settled config root_key called is_read runner opened rests rank s runs flag groups

  -- what was recorded of its binding, where that failed
  unbound_begins : (old new : List Entry) (failure : Failure) → Binds s.planned s.context flag groups old new (Err failure)
      → TaskBegins (by_names w compilation given base analysis settled config root_key called is_read runner opened rests rank s runs flag) its_whole old new
  unbound_begins old new failure b =
      let gives = b.by_test (counts_by (parameters w compilation given base analysis settled config root_key called is_read runner opened rests rank s))
      (counted_all w compilation given base analysis settled config root_key called is_read runner opened rests rank s runs flag) in
      let d = gives.2.begins in
      let binding : DialogueBegins (by_names w compilation given base analysis settled config root_key called is_read runner opened rests rank s runs flag)
      (by_name w compilation given base analysis settled config root_key called is_read runner opened rests rank s runs flag groups) old new = record {
        rest = d.rest;
        result = d.result;
        goes = binding_go w compilation given base analysis settled config root_key called is_read runner opened rests rank s runs flag groups old (new ++ d.rest) d.result d.goes;
      } in
      task_begins_first (by_names w compilation given base analysis settled config root_key called is_read runner opened rests rank s runs flag) its_head
      (λ bound. (lift (before w compilation given base analysis settled config root_key called is_read runner opened rests rank s runs flag groups bound) >>= λ calls. ends (Ok (bound, calls)))) old new
      (task_begins_first (by_names w compilation given base analysis settled config root_key called is_read runner opened rests rank s runs flag)
      (lift (by_name w compilation given base analysis settled config root_key called is_read runner opened rests rank s runs flag groups))
      (λ bound. (asked w compilation given base analysis settled config root_key called is_read runner opened rests rank s runs flag groups bound >>= λ u. ends (Ok bound))) old new
      (lift_begins (by_names w compilation given base analysis settled config root_key called is_read runner opened rests rank s runs flag)
      (by_name w compilation given base analysis settled config root_key called is_read runner opened rests rank s runs flag groups) old new binding))

  -- what was recorded of what comes before its body, where it was bound
  heads_begin : (old mid new : List Entry) (entered : EnteredRow) → Binds s.planned s.context flag groups old mid (Ok entered) → HeadsBegin s.planned s.context flag entered runner mid new
      → TaskBegins (by_names w compilation given base analysis settled config root_key called is_read runner opened rests rank s runs flag) its_whole old new
  heads_begin old mid new entered binds h = by_end h.result h.leads
    where
      by_end : (r : Result (List CallRow) Failure) → Heads s.planned s.context flag entered runner mid (new ++ h.rest) r
          → TaskBegins (by_names w compilation given base analysis settled config root_key called is_read runner opened rests rank s runs flag) its_whole old new
      by_end (Ok calls) heads =
          let b = is_bound w compilation given base analysis settled config root_key called is_read runner opened rests rank s runs flag groups old mid entered binds in
          let on = heads_on w compilation given base analysis settled config root_key called is_read runner opened rests rank s runs flag groups entered b.bound b.is old mid (new ++ h.rest) calls b.leads heads in
          record { rest = h.rest; result = Ok (b.bound, on.0); leads = on.1 }
      by_end (Err failure) heads =
          let b = is_bound w compilation given base analysis settled config root_key called is_read runner opened rests rank s runs flag groups old mid entered binds in
          record {
            rest = h.rest;
            result = Err failure;
            leads = heads_stop w compilation given base analysis settled config root_key called is_read runner opened rests rank s runs flag groups entered b.bound b.is old mid (new ++ h.rest) failure b.leads heads;
          }

  -- a call of its recipe with these groups
  module _ (call : CallRow) (at_rank : call.recipe ≡ rank) (with_groups : call.groups ≡ groups) where
    abbrev IsBeginning : List Entry → List Entry → Type 0
    IsBeginning = (cuts (configuration_of config root_key w.expansion) (defined w compilation given base analysis settled config root_key) opened).InBegin (named w compilation given base analysis settled config root_key call) flag

    -- what begins its task by its parts begins it by the call's name
    begun_by_name : (old new : List Entry) → TaskBegins (by_names w compilation given base analysis settled config root_key called is_read runner opened rests rank s runs flag) its_whole old new → IsBeginning old new
    begun_by_name old new h = record {
      rest = h.rest;
      result = h.result;
      leads = begins_by_name w compilation given base analysis settled config root_key called is_read runner opened rests rank s runs flag groups call at_rank with_groups old (new ++ h.rest) h.result h.leads;
    }

    -- nothing of it
    pub none_begun : (old new : List Entry) → new ≡ old → IsBeginning old new
    none_begun old new e =
        begun_by_name old new (subst (λ l. TaskBegins (by_names w compilation given base analysis settled config root_key called is_read runner opened rests rank s runs flag) its_whole old l) (sym e)
        (task_begins_here (by_names w compilation given base analysis settled config root_key called is_read runner opened rests rank s runs flag) its_whole old))

    -- its binding in part
    pub binding_begun : (old new : List Entry) (failure : Failure) → Binds s.planned s.context flag call.groups old new (Err failure) → IsBeginning old new
    binding_begun old new failure binds =
        begun_by_name old new (unbound_begins old new failure
        (binds_here w compilation given base analysis settled config root_key called is_read runner opened rests rank s runs flag groups call at_rank with_groups old new (Err failure) binds))

    -- its binding, and in part what comes before its body
    pub head_begun : (old mid new : List Entry) (entered : EnteredRow) → Binds s.planned s.context flag call.groups old mid (Ok entered) → HeadsBegin s.planned s.context flag entered runner mid new → IsBeginning old new
    head_begun old mid new entered binds h =
        begun_by_name old new (heads_begin old mid new entered
        (binds_here w compilation given base analysis settled config root_key called is_read runner opened rests rank s runs flag groups call at_rank with_groups old mid (Ok entered) binds) h)

    -- a beginning that failed, for whatever reason
    pub failed_begun : (old new : List Entry) (result : Result (EnteredRow × List CallRow) Failure) (failure : Failure) → result ≡ Err failure → BeginsAt runner s.planned s.context call flag old new result → IsBeginning old new
    failed_begun old new _ failure e (unbound {failure = other} binds) = binding_begun old new other binds
    failed_begun old new _ failure e (headless {mid} {entered} {failure = other} binds heads) =
        let b = is_bound w compilation given base analysis settled config root_key called is_read runner opened rests rank s runs flag groups old mid entered
        (binds_here w compilation given base analysis settled config root_key called is_read runner opened rests rank s runs flag groups call at_rank with_groups old mid (Ok entered) binds) in
        begun_by_name old new (task_whole_begins (by_names w compilation given base analysis settled config root_key called is_read runner opened rests rank s runs flag) its_whole old new (Err other)
        (below_stop w compilation given base analysis settled config root_key called is_read runner opened rests rank s runs flag groups entered b.bound b.is old mid new (Err other) other refl b.leads
        (below_here w compilation given base analysis settled config root_key called is_read runner opened rests rank s runs flag groups call at_rank with_groups (Heads s.planned s.context flag entered runner mid new) (Err other) heads)))
    failed_begun old new _ failure e (begins binds heads) = absurd (cc e)
