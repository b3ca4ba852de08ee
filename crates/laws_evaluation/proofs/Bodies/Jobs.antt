-- One command: whether it is shown, what is handed over, and what its status says.
use Rattle.std.proofs.Common.{◌≡◌, ◌≢◌, ℕ, zero, suc, List, [], ◌∷◌, Bool, true, false, cond, Result, Ok, Err, refl, ap, ◌∙◌, subst}
use Rattle.just_host.specs.declared.entry.Entry.{Entry}
use Rattle.just_host.specs.declared.entry.Entry.TheVariants.{Show, Line as LineEntry}
use Rattle.just_host.specs.declared.host.Status.{Status}
use Rattle.just_host.specs.declared.host.Status.TheVariants.{Code, Signal, NotStarted}
use Rattle.just_host.specs.declared.job.CommandJob.{CommandJob}
use Rattle.just_host.specs.Record.{Record}
use Rattle.just_host.specs.Follows.{Follows}
use Rattle.tree_items.specs.declared.line.Sigils.{Sigils}
use Rattle.meaning_dialogues.specs.Dialogue.{Reading}
use Rattle.meaning_evaluation.specs.Stages.Parameters.{Bound}
use Rattle.meaning_runs.specs.Failures.{Failure, not_started, Next, goes_on, stops, next_by}
use Rattle.meaning_runs.specs.Task.{line}
use Rattle.meaning_evaluation.specs.Named.{RecipeRow}
use Rattle.meaning_evaluation.specs.Scopes.{Configuration, Scene}
use Rattle.meaning_evaluation.specs.Bodies.{line_job, shows_line}
use Rattle.meaning_evaluation.specs.Calling.{handing, running, shown_if}
use Rattle.laws_evaluation.specs.Bodies.Performing.{Performs, Stays}
use Rattle.laws_evaluation.specs.Bodies.Left.{failed_with}
use Rattle.laws_evaluation.proofs.Bodies.Performing.{performs_ends, performs_handed, shown_first, not_shown}

-- ---- what a status says

module _ (name : List ℕ) (s : Sigils) where
  -- a command that ended with code 0
  pub judged_well : (status : Status) → status ≡ Code 0 → next_by name s status ≡ Ok goes_on
  judged_well status e = rw e refl

  -- a command that was not started
  pub judged_not_started : (status : Status) → status ≡ NotStarted → next_by name s status ≡ Err (not_started name)
  judged_not_started status e = rw e refl

  -- a guard, and code 1
  pub judged_guarded : (status : Status) → status ≡ Code 1 → s.guard ≡ true → next_by name s status ≡ Ok stops
  judged_guarded status e g = rw (e, g) refl

  -- what fails unless its mark passes over it
  abbrev pub IsFailure : Status → Type 0
  IsFailure status = (status ≢ Code 0) × ((status ≢ NotStarted) × (status ≡ Code 1 → s.guard ≡ false))

  judged_by : (status : Status) → IsFailure status → next_by name s status ≡ cond s.infallible (Ok goes_on) (Err (failed_with name status))
  judged_by (Code zero) n = absurd (n.0 refl)
  judged_by (Code (suc zero)) n = let g = n.1.1 refl in rw g refl
  judged_by (Code (suc (suc k))) n = refl
  judged_by (Signal k) n = refl
  judged_by NotStarted n = absurd (n.1.0 refl)

  -- a mark that passes over each code and signal
  pub judged_passed : (status : Status) → IsFailure status → s.infallible ≡ true → next_by name s status ≡ Ok goes_on
  judged_passed status n e = judged_by status n ∙ ap (λ b. cond b (Ok goes_on) (Err (failed_with name status))) e

  -- a failure
  pub judged_failed : (status : Status) → IsFailure status → s.infallible ≡ false → next_by name s status ≡ Err (failed_with name status)
  judged_failed status n e = judged_by status n ∙ ap (λ b. cond b (Ok goes_on) (Err (failed_with name status))) e

-- ---- one command

module _ {H : Type 0} (c : Configuration) (scene : Scene) (name : List ℕ) (recipe : RecipeRow) (flag : Bool) (bound : Bound) (reading : Reading) (goes : H → List Entry → H → Type 0) where
  -- in a dry run nothing is handed over
  pub handed_dry : (dry : Bool) (sigils : Sigils) (command : List ℕ) (old : Record H) → dry ≡ true → Performs reading (handing c scene name recipe flag bound dry sigils command) old old (Ok goes_on)
  handed_dry dry sigils command old e = rw e (performs_ends reading old (Ok goes_on))

  -- a command is handed over, and its status says what follows
  pub handed_line : (dry : Bool) (sigils : Sigils) (command : List ℕ) (job : CommandJob) (status : Status) (old new : Record H) (next : Result Next Failure) → dry ≡ false → job ≡ line_job c scene name recipe flag bound command
      → Follows goes old (LineEntry job status ∷ []) new → next_by name sigils status ≡ next → Performs reading (handing c scene name recipe flag bound dry sigils command) old new next
  handed_line dry sigils command job status old new next e is f by =
      rw (e, ← by) (performs_handed reading goes (line (line_job c scene name recipe flag bound command)) (next_by name sigils) old new status (subst (λ j. Follows goes old (LineEntry j status ∷ []) new) is f))

  -- a command without text does nothing
  pub runs_none : (sigils : Sigils) (command : List ℕ) (old : Record H) → command ≡ [] → Performs reading (running c scene name recipe flag bound sigils command) old old (Ok goes_on)
  runs_none sigils command old e = rw e (performs_ends reading old (Ok goes_on))

  runs_as : (sigils : Sigils) (command : List ℕ) → command ≢ [] → running c scene name recipe flag bound sigils command ≡ shown_if (shows_line c scene name recipe flag bound sigils) command (handing c scene name recipe flag bound c.dry_run sigils command)
  runs_as sigils [] n = absurd (n refl)
  runs_as sigils (b ∷ bs) n = refl

  -- a command that is to be shown is shown, and then handed over
  pub runs_shown : (sigils : Sigils) (command : List ℕ) (old mid new : Record H) (next : Result Next Failure) → command ≢ [] → shows_line c scene name recipe flag bound sigils ≡ true → Follows goes old (Show command ∷ []) mid → Stays mid new
      → Performs reading (handing c scene name recipe flag bound c.dry_run sigils command) mid new next → Performs reading (running c scene name recipe flag bound sigils command) old new next
  runs_shown sigils command old mid new next n e f stays h = rw (runs_as sigils command n) (shown_first reading goes _ command _ old mid new next e f stays h)

  -- a command that is not to be shown is handed over at once
  pub runs_hidden : (sigils : Sigils) (command : List ℕ) (old new : Record H) (next : Result Next Failure) → command ≢ [] → shows_line c scene name recipe flag bound sigils ≡ false
      → Performs reading (handing c scene name recipe flag bound c.dry_run sigils command) old new next → Performs reading (running c scene name recipe flag bound sigils command) old new next
  runs_hidden sigils command old new next n e h = rw (runs_as sigils command n) (not_shown reading _ command _ old new next e h)
