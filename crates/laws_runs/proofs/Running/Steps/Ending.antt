-- A call by places that ends does so by names.
use Rattle.std.proofs.Common.{◌≡◌, ◌∙◌, sym, ap₂, subst, ℕ, Bool, List, Result, Ok, Err}
use Rattle.just_host.specs.declared.config.Config.{Config}
use Rattle.just_host.specs.declared.entry.Entry.{Entry}
use Rattle.just_value.specs.declared.positional.Override.{Override}
use Rattle.modules_compilation.specs.declared.compilation.Compilation.{Compilation}
use Rattle.resolve_analysis.specs.Opening.{Runs}
use Rattle.resolve_analysis.specs.declared.analysis.Analysis.{Analysis}
use Rattle.justfile_evaluator.specs.Bodies.{NamedBody, task_of}
use Rattle.analyze_calls.specs.Around.{BodyBegins, RunsBody, Tails, fails, own_reading, own_stage, runs as runs_then, subsequent_calls}
use Rattle.analyze_calls.specs.Calls.{CallRow}
use Rattle.analyze_calls.specs.Entered.{EnteredRow}
use Rattle.analyze_calls.specs.declared.plan.Runner.{Runner}
use Rattle.meaning_dialogues.specs.Dialogue.{Dialogue, DialogueGoes}
use Rattle.meaning_dialogues.specs.Faults.{Fault}
use Rattle.meaning_evaluation.specs.Stages.Parameters.{Bound}
use Rattle.meaning_runs.specs.Acts.{finish}
use Rattle.meaning_runs.specs.Failures.{Failure, evaluation}
use Rattle.meaning_runs.specs.Task.{Task, TaskBegins, TaskLeads, as_failure, lift, ◌>>=◌}
use Rattle.meaning_runs.proofs.Tasks.{lift_goes}
use Rattle.meaning_rules.specs.Worlds.Given.{Text, World}
use Rattle.meaning_rules.specs.Overrides.{overrides_of}
use Rattle.meaning_evaluation.specs.Calling.{acts, block_calls, body_task, no_dialogue, no_task, scene_of}
use Rattle.meaning_evaluation.specs.Named.{Call}
use Rattle.just_meaning.specs.Opening.{Held, Opened, reading_in}
use Rattle.just_meaning.specs.Runs.{reading_at, steps}
use Rattle.laws_runs.specs.Settings.Settled.{AllSettle}
use Rattle.just_meaning.specs.Configured.{configuration_of}
use Rattle.laws_runs.specs.Running.Entered.{IsEnteredIn}
use Rattle.laws_runs.specs.Running.Steps.{RestsOn, defined, named}
use Rattle.laws_runs.proofs.Running.Steps.Blocks.{AreBrought, body_now, subsequents_go}
use Rattle.laws_runs.proofs.Running.Steps.Bodies.{body_begins, body_goes}
use Rattle.laws_runs.proofs.Running.Steps.Expressions.{is_reached}
use Rattle.laws_runs.proofs.Running.Steps.Known.{has_functions}
use Rattle.laws_runs.proofs.Running.Steps.Lines.{lines_known, script_known}
use Rattle.laws_runs.proofs.Running.Steps.Modules.{at, values_are}
use Rattle.laws_runs.proofs.Running.Steps.Named.{call_here, ground_here, met_here, named_so}
use Rattle.laws_runs.proofs.Running.Steps.Standing.{Stands}
use Rattle.laws_runs.proofs.Running.Steps.Tasks.{lifted_leads, stops_leads, then_leads}

module _ (w : World) (compilation : Compilation) (given : List Override) (base : Text) (analysis : Analysis) (settled : AllSettle w (overrides_of given) compilation analysis.values.value.settings.items) (config : Config) (root_key : List ℕ)
    (called : List ℕ) (is_read : ℕ → Bool) (runner : Runner) (opened : List Opened) (rests : RestsOn w compilation given base analysis settled config root_key called is_read runner opened)
    (rank : ℕ) (s : Stands w compilation given base analysis settled config root_key called is_read runner opened rests rank)
    (runs : Runs analysis.table.value.recipes.items config.no_dependencies called rank) (flag : Bool) (entered : EnteredRow) (bound : Bound) (is : IsEnteredIn s.planned s.context entered bound) where
  abbrev pub b : NamedBody
  b = body_now w compilation given base analysis settled config root_key called is_read runner opened rests rank s runs flag entered bound is

  abbrev Brought : List CallRow → List Call → Type 0
  Brought calls names = AreBrought w compilation given base analysis settled config root_key called is_read runner opened rests rank s runs flag entered bound is calls names

  abbrev pub after_names : Dialogue (List Call)
  after_names = block_calls b.configuration b.scene b.name b.recipe b.flag (defined w compilation given base analysis settled config root_key) bound b.recipe.subsequents

  abbrev after_places : Dialogue (List CallRow)
  after_places = subsequent_calls runner s.planned s.context.config.now (own_stage s.planned s.context flag entered)

  -- the end of the call by names
  abbrev pub whole : Task (List Call)
  whole = task_of b >>= λ u. lift after_names

  body_leads : (old new : List Entry) (result : Result (Unit {0}) Failure) → RunsBody s.planned s.context flag entered old new result → TaskLeads b.reading (task_of b) old new result
  body_leads = body_goes w compilation given base analysis settled config root_key called is_read runner opened rests rank s flag entered bound is
      (is_reached w compilation given base analysis settled config root_key called is_read runner opened rests rank s runs flag entered bound is)
      (has_functions w compilation given base analysis settled config root_key called is_read runner opened rests rank s runs flag entered bound is)
      (lines_known w compilation given base analysis settled config root_key called is_read runner opened rests rank s runs flag entered bound is)
      (script_known w compilation given base analysis settled config root_key called is_read runner opened rests rank s runs flag entered bound is)

  -- what was recorded of its body by places is a beginning of what its body by name records
  pub its_body_begins : (old new : List Entry) → BodyBegins s.planned s.context flag entered old new → TaskBegins b.reading (task_of b) old new
  its_body_begins = body_begins w compilation given base analysis settled config root_key called is_read runner opened rests rank s flag entered bound is
      (is_reached w compilation given base analysis settled config root_key called is_read runner opened rests rank s runs flag entered bound is)
      (has_functions w compilation given base analysis settled config root_key called is_read runner opened rests rank s runs flag entered bound is)
      (lines_known w compilation given base analysis settled config root_key called is_read runner opened rests rank s runs flag entered bound is)
      (script_known w compilation given base analysis settled config root_key called is_read runner opened rests rank s runs flag entered bound is)

  on_result : (end : Result (List CallRow) Fault) (calls : List CallRow) (old new : List Entry) → (◌≡◌ {A = Result (List CallRow) Failure} (Ok calls) (as_failure end))
      → DialogueGoes (own_reading s.planned s.context flag entered) after_places old new end
      → DialogueGoes (own_reading s.planned s.context flag entered) after_places old new (Ok calls)
  on_result (Ok found) calls old new e d = let same : found ≡ calls = sym (cc e) in subst (λ (x : List CallRow). DialogueGoes (own_reading s.planned s.context flag entered) after_places old new (Ok x)) same d
  on_result (Err fault) calls old new e d = absurd (cc e)

  -- where it ends with calls
  pub tails_on : (old new : List Entry) (result : Result (List CallRow) Failure) (calls : List CallRow) → result ≡ Ok calls → Tails s.planned s.context flag entered runner old new result
      → (names : List Call) × TaskLeads b.reading whole old new (Ok names) × Brought calls names
  tails_on old new _ calls e (fails body) = absurd (cc e)
  tails_on old new result calls e (runs_then {mid} {result = _} body after) =
      let l = lifted_leads (own_reading s.planned s.context flag entered) after_places mid new result after in
      let d = on_result l.0 calls mid new (sym e ∙ l.1) l.2 in
      let found = (subsequents_go w compilation given base analysis settled config root_key called is_read runner opened rests rank s runs flag entered bound is).on mid new calls d in
      (found.0, then_leads b.reading (task_of b) (λ u. lift after_names) old mid new tt (Ok found.0) (body_leads old mid (Ok tt) body) (lift_goes b.reading after_names mid new (Ok found.0) found.1), found.2)

  stop_result : (end : Result (List CallRow) Fault) (failure : Failure) (old new : List Entry) → (◌≡◌ {A = Result (List CallRow) Failure} (Err failure) (as_failure end))
      → DialogueGoes (own_reading s.planned s.context flag entered) after_places old new end
      → TaskLeads b.reading (lift after_names) old new (Err failure)
  stop_result (Ok found) failure old new e d = absurd (cc e)
  stop_result (Err fault) failure old new e d =
      let same : evaluation fault ≡ failure = sym (cc e) in
      subst (λ (x : Failure). TaskLeads b.reading (lift after_names) old new (Err x)) same (lift_goes b.reading after_names old new (Err fault)
      ((subsequents_go w compilation given base analysis settled config root_key called is_read runner opened rests rank s runs flag entered bound is).stop old new fault d))

  -- and where it fails
  pub tails_stop : (old new : List Entry) (result : Result (List CallRow) Failure) (failure : Failure) → result ≡ Err failure → Tails s.planned s.context flag entered runner old new result → TaskLeads b.reading whole old new (Err failure)
  tails_stop old new _ failure e (fails {failure = other} body) =
      let same : other ≡ failure = cc e in
      subst (λ (x : Failure). TaskLeads b.reading whole old new (Err x)) same (stops_leads b.reading (task_of b) (λ u. lift after_names) old new other (body_leads old new (Err other) body))
  tails_stop old new result failure e (runs_then {mid} {result = _} body after) =
      let l = lifted_leads (own_reading s.planned s.context flag entered) after_places mid new result after in
      then_leads b.reading (task_of b) (λ u. lift after_names) old mid new tt (Err failure) (body_leads old mid (Ok tt) body) (stop_result l.0 failure mid new (sym e ∙ l.1) l.2)

  -- ---- the end by the call's name

  module _ (call : CallRow) (at_rank : call.recipe ≡ rank) where
    abbrev its_steps : List Entry → List Entry → Result (List Call) Failure → Type 0
    its_steps = (steps (configuration_of config root_key w.expansion) (defined w compilation given base analysis settled config root_key) opened).Ends (named w compilation given base analysis settled config root_key call) flag bound

    body_same : (acts (ground_here w compilation given base analysis settled config root_key called is_read runner opened rests rank s)).body
        (call_here w compilation given base analysis settled config root_key called is_read runner opened rests rank s call.groups) flag bound ≡ task_of b
    body_same = met_here w compilation given base analysis settled config root_key called is_read runner opened rests rank s (no_task
        (ground_here w compilation given base analysis settled config root_key called is_read runner opened rests rank s)) (λ recipe row. body_task b.configuration
        (scene_of (ground_here w compilation given base analysis settled config root_key called is_read runner opened rests rank s) (at w compilation given base analysis settled config root_key called is_read runner opened rests rank s)
        row) b.name recipe flag bound) call.groups

    after_same : (acts (ground_here w compilation given base analysis settled config root_key called is_read runner opened rests rank s)).subsequents
        (call_here w compilation given base analysis settled config root_key called is_read runner opened rests rank s call.groups) flag bound ≡ after_names
    after_same = met_here w compilation given base analysis settled config root_key called is_read runner opened rests rank s (no_dialogue
        (ground_here w compilation given base analysis settled config root_key called is_read runner opened rests rank s)) (λ recipe row. block_calls b.configuration
        (scene_of (ground_here w compilation given base analysis settled config root_key called is_read runner opened rests rank s) (at w compilation given base analysis settled config root_key called is_read runner opened rests rank s)
        row) b.name recipe flag (defined w compilation given base analysis settled config root_key) bound recipe.subsequents) call.groups

    pub by_name : (old new : List Entry) (result : Result (List Call) Failure) → TaskLeads b.reading whole old new result → its_steps old new result
    by_name old new result h =
        subst (λ (c : Call). TaskLeads (reading_at (configuration_of config root_key w.expansion) (defined w compilation given base analysis settled config root_key) opened c)
        (finish (acts (ground_here w compilation given base analysis settled config root_key called is_read runner opened rests rank s)) c flag bound) old new result)
        (sym (named_so w compilation given base analysis settled config root_key called is_read runner opened rests rank s call at_rank))
        (subst (λ (values : List Held). TaskLeads (reading_in values) (finish (acts (ground_here w compilation given base analysis settled config root_key called is_read runner opened rests rank s))
        (call_here w compilation given base analysis settled config root_key called is_read runner opened rests rank s call.groups) flag bound) old new result)
        (sym (values_are w compilation given base analysis settled config root_key called is_read runner opened rests rank s))
        (subst (λ (t : Task (List Call)). TaskLeads b.reading t old new result) (sym (ap₂ (λ (t : Task (Unit {0})) (d : Dialogue (List Call)). t >>= λ u. lift d) body_same after_same)) h))
