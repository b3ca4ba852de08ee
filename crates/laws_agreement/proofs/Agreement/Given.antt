-- What tasks end with, for every host and by fixed answers.
use Rattle.std.proofs.Common.{◌≡◌, List, [], Option, Some, None, Result, Ok, Err, subst, MatchResult}
use Rattle.just_host.specs.declared.entry.Entry.{Entry}
use Rattle.meaning_dialogues.specs.Faults.{Fault}
use Rattle.meaning_dialogues.specs.Dialogue.{Dialogue, Ends, Asks, Reads, Lookup, Variable, Reading}
use Rattle.meaning_dialogues.specs.Evaluation.{Value}
use Rattle.meaning_dialogues.specs.Meaning.{Meaning}
use Rattle.meaning_dialogues.proofs.Soundness.{Sound as SoundDialogue, Any}
use Rattle.meaning_runs.specs.Failures.{Failure, evaluation}
use Rattle.meaning_runs.specs.Task.{Task, ends, asks, reads, shows, hands, confirms, ◌>>=◌, lift, TaskGoes}
use Rattle.meaning_runs.specs.Told.{Answers}
use Rattle.meaning_runs.specs.Naive.{RunPart, went, failed, unanswered}
use Rattle.meaning_runs.specs.Meant.{if_told, if_meant, status_of, task_meaning}
use Rattle.meaning_runs.proofs.Tasks.{Sound}
use Rattle.laws_agreement.specs.Agreement.Given.{Gives}

-- whatever is read
abbrev pub Free : Lookup → Variable → Type 0
Free place x = Unit {0}

-- each dialogue ends with some value
pub free_any : {A : Type 0} (d : Dialogue A) → SoundDialogue Free Any d
free_any (Ends (Ok a)) = tt
free_any (Ends (Err fault)) = tt
free_any (Asks question next) = λ answer. free_any (next answer)
free_any (Reads place x next) = (tt, λ value. free_any (next value))

pub lift_gives : {A : Type 0} (Q : A → Type 0) (d : Dialogue A) → SoundDialogue Free Q d → Gives Q (lift d)
lift_gives Q (Ends (Ok a)) h = h
lift_gives Q (Ends (Err fault)) h = tt
lift_gives Q (Asks question next) h = λ answer. lift_gives Q (next answer) (h answer)
lift_gives Q (Reads place x next) h = λ value. lift_gives Q (next value) (h.1 value)

-- each task ends with some value
pub gives_any : {A : Type 0} (t : Task A) → Gives Any t
gives_any (ends (Ok a)) = tt
gives_any (ends (Err failure)) = tt
gives_any (asks question next) = λ answer. gives_any (next answer)
gives_any (reads place x next) = λ value. gives_any (next value)
gives_any (shows text next) = gives_any next
gives_any (hands job next) = λ status. gives_any (next status)
gives_any (confirms prompt next) = λ answer. gives_any (next answer)

-- one task after another ends as the second does
pub then_gives : {A B : Type 0} (Q : A → Type 0) (R : B → Type 0) (t : Task A) (k : A → Task B) → Gives Q t → ((a : A) → Q a → Gives R (k a)) → Gives R (t >>= k)
then_gives Q R (ends (Ok a)) k h g = g a h
then_gives Q R (ends (Err failure)) k h g = tt
then_gives Q R (asks question next) k h g = λ answer. then_gives Q R (next answer) k (h answer) g
then_gives Q R (reads place x next) k h g = λ value. then_gives Q R (next value) k (h value) g
then_gives Q R (shows text next) k h g = then_gives Q R next k h g
then_gives Q R (hands job next) k h g = λ status. then_gives Q R (next status) k (h status) g
then_gives Q R (confirms prompt next) k h g = λ answer. then_gives Q R (next answer) k (h answer) g

-- one task after another reads only these variables, where the second does after each value that the first may end with
pub then_sound : {A B : Type 0} (P : Lookup → Variable → Type 0) (Q : A → Type 0) (t : Task A) (k : A → Task B) → Sound P t → Gives Q t → ((a : A) → Q a → Sound P (k a)) → Sound P (t >>= k)
then_sound P Q (ends (Ok a)) k s h g = g a h
then_sound P Q (ends (Err failure)) k s h g = tt
then_sound P Q (asks question next) k s h g = λ answer. then_sound P Q (next answer) k (s answer) (h answer) g
then_sound P Q (reads place x next) k s h g = (s.0, λ value. then_sound P Q (next value) k (s.1 value) (h value) g)
then_sound P Q (shows text next) k s h g = then_sound P Q next k s h g
then_sound P Q (hands job next) k s h g = λ status. then_sound P Q (next status) k (s status) (h status) g
then_sound P Q (confirms prompt next) k s h g = λ answer. then_sound P Q (next answer) k (s answer) (h answer) g

-- ---- for every host

module _ {A : Type 0} (Q : A → Type 0) (reading : Reading) where
  at_value : (seen : Result Value Fault) (next : Value → Task A) (piece : List Entry) (a : A) → ((value : Value) → TaskGoes reading (next value) piece (Ok a) → Q a)
      → MatchResult seen (λ value. TaskGoes reading (next value) piece (Ok a)) (λ fault. (piece ≡ []) × (Ok a ≡ Err (evaluation fault))) → Q a
  at_value (Ok value) next piece a go h = go value h
  at_value (Err fault) next piece a go h = absurd (let e : Ok a ≡ Err (evaluation fault) = h.1 in cc)

  -- a task that goes to a value gives one of the kind
  pub goes_gives : (t : Task A) (piece : List Entry) (a : A) → Gives Q t → TaskGoes reading t piece (Ok a) → Q a
  goes_gives (ends (Ok b)) piece a g h = let e : b ≡ a = cc in subst Q e g
  goes_gives (ends (Err failure)) piece a g h = absurd (cc)
  goes_gives (asks question next) piece a g h = goes_gives (next h.0) h.1.rest a (g h.0) h.1.behind
  goes_gives (reads place x next) piece a g h = at_value (reading place x) next piece a (λ value r. goes_gives (next value) piece a (g value) r) h
  goes_gives (shows text next) piece a g h = goes_gives next h.rest a g h.behind
  goes_gives (hands job next) piece a g h = goes_gives (next h.0) h.1.rest a (g h.0) h.1.behind
  goes_gives (confirms prompt next) piece a g h = goes_gives (next h.0) h.1.rest a (g h.0) h.1.behind

-- ---- by fixed answers

module _ {A : Type 0} (Q : A → Type 0) (f : Answers) (variables : Lookup → Variable → Meaning Value) where
  if_gives : {X : Type 0} (o : Option X) (next : X → RunPart Entry A Failure) (a : A) → ((x : X) → (next x).end ≡ went a → Q a) → (if_told o next).end ≡ went a → Q a
  if_gives None next a go h = absurd (let e : unanswered ≡ went a = h in cc)
  if_gives (Some x) next a go h = go x h

  meant_gives : (o : Meaning Value) (next : Value → RunPart Entry A Failure) (a : A) → ((value : Value) → (next value).end ≡ went a → Q a) → (if_meant o next).end ≡ went a → Q a
  meant_gives None next a go h = absurd (let e : unanswered ≡ went a = h in cc)
  meant_gives (Some (Ok value)) next a go h = go value h
  meant_gives (Some (Err fault)) next a go h = absurd (let e : failed (evaluation fault) ≡ went a = h in cc)

  -- a task that means a value gives one of the kind
  pub means_gives : (t : Task A) (a : A) → Gives Q t → (task_meaning f variables t).end ≡ went a → Q a
  means_gives (ends (Ok b)) a g h = let i : went b ≡ went a = h in let e : b ≡ a = cc in subst Q e g
  means_gives (ends (Err failure)) a g h = absurd (let e : failed failure ≡ went a = h in cc)
  means_gives (asks question next) a g h = if_gives (f.recipe question) _ a (λ answer r. means_gives (next answer) a (g answer) r) h
  means_gives (reads place x next) a g h = meant_gives (variables place x) _ a (λ value r. means_gives (next value) a (g value) r) h
  means_gives (shows text next) a g h = means_gives next a g h
  means_gives (hands job next) a g h = if_gives (status_of f job) _ a (λ status r. means_gives (next status) a (g status) r) h
  means_gives (confirms prompt next) a g h = if_gives (f.confirm prompt) _ a (λ answer r. means_gives (next answer) a (g answer) r) h
