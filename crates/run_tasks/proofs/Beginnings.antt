-- How far a task was recorded, by how far its parts were.
use Rattle.std.proofs.Common.{◌≡◌, ◌⊎◌, inl, inr, ℕ, Bool, true, false, List, [], ◌∷◌, ◌++◌, Option, Some, None, Result, Ok, refl, sym, ap, subst, append-nil}
use Rattle.just_host.specs.Follows.{Begins as BeginsPiece, Follows, unanswered}
use Rattle.just_host.specs.Record.{Record}
use Rattle.just_host.specs.declared.entry.Entry.{Entry}
use Rattle.just_host.specs.declared.entry.Entry.TheVariants.{Asked, Line, Script, Confirm, Show, Dotenv}
use Rattle.just_host.specs.declared.host.Status.{Status}
use Rattle.just_host.specs.declared.job.CommandJob.{CommandJob}
use Rattle.evaluate_context.specs.declared.context.ExecutionContext.{ExecutionContext}
use Rattle.evaluate_context.specs.declared.context.ModuleView.{ModuleView}
use Rattle.meaning_runs.specs.Tallies.{Tally}
use Rattle.analyze_calls.specs.Opening.{AllBegin, OpenedRow, OpensAll}
use Rattle.analyze_calls.specs.declared.opening.Opening.{Opening as Opens}
use Rattle.analyze_calls.specs.declared.plan.Planned.{Planned}
use Rattle.run_tasks.specs.Begun.{Begins, BeginsIn, BeginsOpened, in_opened, in_opening, in_task, nothing_opened}
use Rattle.run_tasks.specs.Commands.{Commands, words_job}
use Rattle.run_tasks.specs.Opened.{AreContexts, IsOpeningOf}
use Rattle.run_tasks.specs.Performed.{HandsInRoot, HandsWords, TaskEnd, command_end}
use Rattle.run_tasks.specs.Tasks.{CommandsIn}
use Rattle.run_tasks.specs.declared.fault.TaskFault.{TaskFault}
use Rattle.run_tasks.specs.declared.task.Performed.{Performed}
use Rattle.run_tasks.specs.declared.task.Task.{Task}
use Rattle.run_tasks.specs.declared.task.TaskContext.{TaskContext}

-- ---- a command

-- nothing was recorded, or the line with a status
abbrev MayHand : CommandJob → List Entry → List Entry → Type 0
MayHand job old new = (new ≡ old) ⊎ ((status : Status) × (new ≡ old ++ Line job status ∷ []))

module _ (job : CommandJob) (status : Status) (old : List Entry) where
  kept_only : (kept : Entry) → Line job status ≡ unanswered kept → MayHand job old (old ++ kept ∷ [])
  kept_only (Line j s) e = inr (s, ap (λ j. old ++ Line j s ∷ []) (cc))
  kept_only (Asked q a) e = absurd cc
  kept_only (Dotenv q a) e = absurd cc
  kept_only (Script q a) e = absurd cc
  kept_only (Confirm q a) e = absurd cc
  kept_only (Show q) e = absurd cc

  part_handed : (part : List Entry) → BeginsPiece part (Line job status ∷ []) → MayHand job old (old ++ part)
  part_handed [] h = inl (append-nil old)
  part_handed (kept ∷ []) h = elim h [ inl k ↦ inr (status, ap (λ e. old ++ e ∷ []) (sym k.0)) | inr k ↦ kept_only kept k.0 ]
  part_handed (kept ∷ more ∷ rest) h = elim h [ inl k ↦ absurd k.1 | inr k ↦ absurd cc ]

-- the record grew by the line, or not at all
may_hand : {H : Type 0} (goes : H → List Entry → H → Type 0) (job : CommandJob) (status : Status) (old new : Record H) → Follows goes old (Line job status ∷ []) new → MayHand job old.entries new.entries
may_hand goes job status old new f = subst (λ n. MayHand job old.entries n) (sym f.entries) (part_handed job status old.entries f.part f.begins)

-- a line with a status is a command that was handed over
line_handed : (context : ExecutionContext) (command : List ℕ) (words : List (List ℕ)) (old new : List Entry) → MayHand (words_job context command words) old new
    → (new ≡ old) ⊎ ((end : TaskEnd) × HandsWords context false (command ∷ words) old new end)
line_handed context command words old new (inl same) = inl same
line_handed context command words old new (inr h) =
    let hands : HandsWords context false (command ∷ words) old new (command_end command h.0) = (h.0, h.1, refl) in
    inr (command_end command h.0, hands)

module _ {H : Type 0} (goes : H → List Entry → H → Type 0) (old : Record H) (result : Result Performed TaskFault) (new : Record H) where
  command_begun : (context : ExecutionContext) (is_dry : Bool) (words : List (List ℕ)) → Commands goes context is_dry words old result new
      → (new.entries ≡ old.entries) ⊎ ((end : TaskEnd) × HandsWords context is_dry words old.entries new.entries end)
  command_begun context true [] h = inl (ap (λ (r : Record H). r.entries) h.1)
  command_begun context false [] h = inl (ap (λ (r : Record H). r.entries) h.1)
  command_begun context true (command ∷ words) h = inl (ap (λ (r : Record H). r.entries) h.1)
  command_begun context false (command ∷ words) (inl out) = inl (ap (λ (r : Record H). r.entries) out.1)
  command_begun context false (command ∷ words) (inr over) =
      line_handed context command words old.entries new.entries (may_hand goes (words_job context command words) over.status old new over.followed)

  -- of a command in the root module nothing was recorded, or its line
  pub root_begun : (root : Option ExecutionContext) (words : List (List ℕ)) → CommandsIn goes root words old result new
      → (new.entries ≡ old.entries) ⊎ ((end : TaskEnd) × HandsInRoot root words old.entries new.entries end)
  root_begun None words h = inl (ap (λ (r : Record H). r.entries) h.1)
  root_begun (Some context) words h = command_begun context context.config.now.dry_run words h

-- ---- what is open

module _ (context : TaskContext) (modules : List ModuleView) (recipes : List Planned) (task : Task) where
  -- a beginning over contexts is one over what was opened
  pub contexts_begun : (rows : List OpenedRow) (contexts contexts' : List ExecutionContext) → contexts' ≡ contexts → AreContexts context rows 0 modules contexts
      → (old : List Entry) (t : Tally) (new : List Entry) → BeginsIn recipes contexts' task old t new → BeginsOpened context modules recipes task rows old t new
  contexts_begun rows contexts contexts' same are old t new begun = in_opened are (subst (λ cs. BeginsIn recipes cs task old t new) same begun)

  -- a beginning over what was opened is one from the opening on
  pub opened_begun : (opens : Opens) → IsOpeningOf context opens → (old mid new : List Entry) (t : Tally) (rows rows' : List OpenedRow) → rows' ≡ rows → OpensAll opens modules context.opening_order.now old mid (Ok rows)
      → AllBegin opens modules context.opening_order.now old mid → BeginsOpened context modules recipes task rows' mid t new → Begins context modules recipes task old t new
  opened_begun opens is old mid new t rows rows' same all begun (nothing_opened nothing) = in_opening opens is (subst (λ n. AllBegin opens modules context.opening_order.now old n) (sym nothing) begun)
  opened_begun opens is old mid new t rows rows' same all begun (in_opened {contexts = contexts} are begins) =
      in_task {contexts = contexts} opens is all (subst (λ rs. AreContexts context rs 0 modules contexts) same are) begins
