-- What came of tasks and plans, as it is answered and written.
use Rattle.std.proofs.Common.{◌≡◌, ◌⊎◌, inl, inr, ◌∙◌, ◌++◌, refl, ap, subst, append-nil, Bool, false, List, [], Option, Result, Ok, Err, IfErr, IfSome, IsSome, OnOk, Some, None, ℕ}
use Rattle.std.specs.Result.{result_and}
use Rattle.std.specs.Prelude.{String}
use Rattle.just_host.specs.Follows.{Follows}
use Rattle.just_host.specs.Out.{Sent}
use Rattle.just_host.specs.Record.{Record}
use Rattle.just_host.specs.declared.config.Config.{Config}
use Rattle.just_host.specs.declared.entry.Entry.{Entry}
use Rattle.modules_compilation.specs.declared.compilation.Compilation.{Compilation}
use Rattle.resolve_analysis.specs.declared.analysis.Analysis.{Analysis}
use Rattle.run_tasks.specs.Prepared.Begun.{BeginsTask}
use Rattle.run_tasks.specs.Prepared.Performed.{PerformsTask}
use Rattle.run_tasks.specs.Performed.{IfPerformed, TaskEnd}
use Rattle.run_tasks.specs.declared.fault.TaskFault.{TaskFault}
use Rattle.run_tasks.specs.declared.task.Performed.{Performed}
use Rattle.run_tasks.specs.declared.task.Performed.TheVariants.{Evaluated, Ran}
use Rattle.run_tasks.specs.declared.task.Task.{Task}
use Rattle.just_run.specs.Named.{Left}
use Rattle.just_run.specs.Passed.{task_fault}
use Rattle.just_run.specs.Ran.{EndsTask, PlanEnds, WasSent, plan_answer, unwritten, written}
use Rattle.just_run.specs.Texts.{performed_outcome, performed_text}
use Rattle.just_run.specs.Writes.{Writes}
use Rattle.just_run.specs.declared.fault.Fault.{Fault}
use Rattle.just_run.specs.declared.fault.Fault.TheVariants as faults
use Rattle.just_run.specs.declared.outcome.Outcome.{Outcome}
use Rattle.just_run.specs.declared.outcome.Outcome.TheVariants as outcomes

-- ---- tasks

-- nothing is written where the text is empty
unsent : (sent sends : Sent) (result : Result Outcome Fault) → result ≡ Ok outcomes.Ran → Writes sent [] outcomes.Ran result sends → sends.written ≡ sent.written
unsent sent sends result is wrote = let w : Writes sent [] outcomes.Ran (Ok outcomes.Ran) sends = subst (λ r. Writes sent [] outcomes.Ran r sends) is wrote in w.1 ∙ append-nil sent.written

pub ends_well : (left : Left) (result : Result Outcome Fault) (task : Task) (Performs : TaskEnd → Type 0) (performed : Performed) → (performed ≡ Ran → result ≡ Ok outcomes.Ran)
    → Writes left.sent (performed_text performed) (performed_outcome performed) result left.sends → IfPerformed task left.exhausted (Ok performed) Performs → EndsTask left result task Performs
ends_well left result task Performs Ran ran wrote ended = record { performed = Ok Ran; answers = (ran refl, unsent left.sent left.sends result (ran refl) wrote); ended = ended }
ends_well left result task Performs (Evaluated text) ran wrote ended = record { performed = Ok (Evaluated text); answers = wrote; ended = ended }

pub ends_ill : (left : Left) (result : Result Outcome Fault) (task : Task) (Performs : TaskEnd → Type 0) (fault : TaskFault) → result ≡ Err (task_fault fault) → left.sends.written ≡ left.sent.written
    → IfPerformed task left.exhausted (Err fault) Performs → EndsTask left result task Performs
ends_ill left result task Performs fault is same ended = record { performed = Err fault; answers = (is, same); ended = ended }

-- ---- plans

pub was_sent : {Z T : Type 0} (text : Option (String Z)) (sent : Result T Fault) (ended : Result Outcome Fault) → OnOk sent (IsSome text) → IfErr sent (λ fault. (fault ≡ faults.Write) ⊎ (fault ≡ faults.OutOfMemory)) → WasSent text ended (result_and sent ended)
was_sent text (Ok x) ended there failed = inl (there, refl)
was_sent text (Err fault) ended there failed = inr (elim failed [ inl write ↦ inl (ap Err write) | inr memory ↦ inr (ap Err memory) ])

pub plan_ends : {Z : Type 0} (text : Option (String Z)) (ended result : Result Outcome Fault) (task : Task) (performed : Result Performed TaskFault) (exhausted : Bool) (Performs : TaskEnd → Type 0)
    → ended ≡ plan_answer performed → (IsSome text → exhausted ≡ false) → WasSent text ended result → IfPerformed task exhausted performed Performs → PlanEnds result task performed Performs
plan_ends text ended result task performed exhausted Performs told sufficed sent goes = elim sent [
  | inl both ↦ written (both.1 ∙ told) (subst (λ b. IfPerformed task b performed Performs) (sufficed both.0) goes)
  | inr failed ↦ unwritten failed
]

-- memory sufficed where there is a text that says so
pub sufficed_where : {Z : Type 0} (text : Option (String Z)) {exhausted : Bool} → IfSome text (λ written. exhausted ≡ false) → IsSome text → exhausted ≡ false
sufficed_where None h some = absurd (cc some)
sufficed_where (Some text) h some = h

-- all was asked where memory sufficed
pub all_asked : {H : Type 0} (goes : H → List Entry → H → Type 0) (old new : Record H) (piece : List Entry) → Follows goes old piece new → new.exhausted ≡ false → new.entries ≡ old.entries ++ piece
all_asked goes old new piece f e = f.entries ∙ ap (λ part. old.entries ++ part) (f.whole e)

-- from an empty record to what was recorded
pub from_nothing : (compilation : Compilation) (analysis : Analysis) (config : Config) (root : List ℕ) (task : Task) (exhausted : Bool) (performed : Result Performed TaskFault) (old new part : List Entry) → old ≡ [] → new ≡ part
    → IfPerformed task exhausted performed (PerformsTask compilation analysis config root task old new) → IfPerformed task exhausted performed (PerformsTask compilation analysis config root task [] part)
from_nothing compilation analysis config root task exhausted performed old new part start grown goes =
    subst (λ (log : List Entry). IfPerformed task exhausted performed (PerformsTask compilation analysis config root task log part)) start
    (subst (λ (log : List Entry). IfPerformed task exhausted performed (PerformsTask compilation analysis config root task old log)) grown goes)

pub begun_from_nothing : (compilation : Compilation) (analysis : Analysis) (config : Config) (root : List ℕ) (task : Task) (old new part : List Entry) → old ≡ [] → new ≡ part
    → BeginsTask compilation analysis config root task old new → BeginsTask compilation analysis config root task [] part
begun_from_nothing compilation analysis config root task old new part start grown begun =
    subst (λ (log : List Entry). BeginsTask compilation analysis config root task log part) start (subst (λ (log : List Entry). BeginsTask compilation analysis config root task old log) grown begun)
