-- Which kinds of entries are added, from a task to its action.
use Rattle.std.proofs.Common.{◌≡◌, ◌≢◌, Bool, true, false, List, [], ◌∷◌, inl, inr, refl, sym, ap, subst}
use Rattle.std.specs.List.{list_all}
use Rattle.just_host.specs.declared.entry.Entry.{Entry}
use Rattle.just_host.specs.declared.entry.Entry.TheVariants.{Asked, Line, Script, Confirm, Show, Dotenv}
use Rattle.just_host.specs.Record.{Record}
use Rattle.just_host.specs.Follows.{Begins, Follows, Joins, Nothing, questions, unanswered}
use Rattle.just_host.specs.Asking.{Asks, IsAsked}
use Rattle.just_host.specs.AskingLaws.{asked_nothing, asked_then}
use Rattle.just_host.specs.Kinds.{HaveQuestions, HaveRequests, Only}
use Rattle.just_host.specs.KindsLaws.{every, only_joins, only_nothing}
use Rattle.std.specs.Global.{Vec}
use Rattle.analyze_calls.specs.declared.call.Call.{Call}
use Rattle.run_tasks.specs.declared.task.Task.{Task}
use Rattle.run_tasks.specs.declared.task.Task.TheVariants as tasks
use Rattle.run_tasks.specs.Kinds as task_kinds
use Rattle.run_tasks.specs.declared.action.Action.{Action}
use Rattle.run_tasks.specs.declared.action.Action.TheVariants as actions
use Rattle.just_run.specs.Kinds.{AsksFor, MayAdd}
use Rattle.run_tasks.specs.Requested.Requests.{IsTaskOf}

module _ {H : Type 0} (goes : H → List Entry → H → Type 0) (old new : Record H) (dry : Bool) where
  -- what a task adds its action may add
  pub for_task : (action : Action) (task : Task) → IsTaskOf action task → task_kinds.AsksFor task dry goes old new → AsksFor action dry goes old new
  for_task actions.Run (tasks.Run calls) is asks = λ kinds may. asks kinds may.0 may.1 (may.2, may.3)
  for_task actions.Evaluate (tasks.Evaluate target) is asks = λ kinds may. asks kinds may.0 may.1 tt
  for_task actions.Command (tasks.Command words) is asks = λ kinds may. asks kinds may.0 may.1 may.2
  for_task action task is asks = absurd is

  -- nothing is asked
  pub nothing_asked : new ≡ old → (action : Action) → AsksFor action dry goes old new
  nothing_asked same action = λ kinds may start asked. subst (IsAsked (Only kinds goes) start) (sym same) asked

-- what begins with questions and requests is of their kinds
begun_with_questions : (kinds : Entry → Bool) → HaveQuestions kinds → HaveRequests kinds → (p part : List Entry) → Begins part (questions p) → list_all kinds part ≡ true
begun_with_questions kinds asked requested p [] h = refl
begun_with_questions kinds asked requested [] (e ∷ part) h = absurd h
begun_with_questions kinds asked requested (Line _ _ ∷ p) (e ∷ part) h = begun_with_questions kinds asked requested p (e ∷ part) h
begun_with_questions kinds asked requested (Script _ _ ∷ p) (e ∷ part) h = begun_with_questions kinds asked requested p (e ∷ part) h
begun_with_questions kinds asked requested (Confirm _ _ ∷ p) (e ∷ part) h = begun_with_questions kinds asked requested p (e ∷ part) h
begun_with_questions kinds asked requested (Show _ ∷ p) (e ∷ part) h = begun_with_questions kinds asked requested p (e ∷ part) h
begun_with_questions kinds asked requested (Asked q a ∷ p) (Asked r b ∷ part) h = elim h [ inl k ↦ rw (asked.asked r b) (begun_with_questions kinds asked requested p part k.1) | inr k ↦ rw (asked.asked r b, k.1) refl ]
begun_with_questions kinds asked requested (Dotenv q a ∷ p) (Dotenv r b ∷ part) h = elim h [ inl k ↦ rw (requested.requested r b) (begun_with_questions kinds asked requested p part k.1) | inr k ↦ rw (requested.requested r b, k.1) refl ]
begun_with_questions kinds asked requested (Asked q a ∷ p) (other ∷ part) h = elim h [ inl k ↦ absurd cc | inr k ↦ absurd cc ]
begun_with_questions kinds asked requested (Dotenv q a ∷ p) (other ∷ part) h = elim h [ inl k ↦ absurd cc | inr k ↦ absurd cc ]

module _ {H : Type 0} (goes : H → List Entry → H → Type 0) (joins : Joins goes) (old new : Record H) (dry : Bool) where
  -- the questions and requests of a run alone
  pub questions_asked : (entries : List Entry) → Follows goes old (questions entries) new → AsksFor actions.Plan dry goes old new
  questions_asked entries f = λ kinds may. asked_then (Only kinds goes) (only_joins kinds goes joins) old new (questions entries) (record {
    part = f.part;
    entries = f.entries;
    host = record { went = f.host; of_kinds = begun_with_questions kinds may.0 may.1 entries f.part f.begins };
    whole = f.whole;
    begins = f.begins;
    stays = f.stays;
  })

-- a run of calls from a record on, whatever the kinds
pub every_run : {H : Type 0} (goes : H → List Entry → H → Type 0) (old new : Record H) (dry : Bool) (calls : Vec Call) → Nothing goes → task_kinds.AsksFor (tasks.Run calls) dry goes old new → IsAsked (Only every goes) old new
every_run goes old new dry calls nothing asks =
    asks every (record { asked = λ q a. refl }) (record { requested = λ q a. refl }) (record { shown = λ t. refl; confirmed = λ p a. refl }, λ e. record { lines = λ j s. refl; scripts = λ j s. refl })
    old (asked_nothing (Only every goes) (only_nothing every goes nothing) old)
