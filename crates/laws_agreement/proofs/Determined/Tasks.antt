-- A task goes once: two runs of it whose pieces agree with the answers are equal.
use Rattle.std.proofs.Common.{◌≡◌, List, [], ◌∷◌, Option, Some, Result, Ok, Err, sym, ap, ◌∙◌, subst, MatchResult}
use Rattle.just_host.specs.declared.entry.Entry.{Entry}
use Rattle.just_host.specs.declared.entry.Entry.TheVariants.{Asked, Confirm, Show}
use Rattle.just_host.specs.declared.host.Status.{Status}
use Rattle.meaning_dialogues.specs.Faults.{Fault}
use Rattle.meaning_dialogues.specs.Dialogue.{Reading}
use Rattle.meaning_dialogues.specs.Evaluation.{Value}
use Rattle.meaning_runs.specs.Failures.{Failure, evaluation}
use Rattle.meaning_runs.specs.Task.{Task, ends, asks, reads, shows, hands, confirms, Job, line, script, handed, TaskGoes}
use Rattle.meaning_runs.specs.Told.{Answers, holds, Agrees}

-- what is answered is one
pub one_answer : {X : Type 0} {o : Option X} (a b : X) → o ≡ Some a → o ≡ Some b → a ≡ b
one_answer a b e g = let h = sym e ∙ g in cc

same_status : (f : Answers) (job : Job) (status other : Status) → holds f f.recipe (handed job status) → holds f f.recipe (handed job other) → status ≡ other
same_status f (line job) status other h g = one_answer status other h g
same_status f (script job) status other h g = one_answer status other h g

-- pieces that begin with the same entry are equal where what follows is
same_piece : (entry : Entry) {p q : List Entry} (rest others : List Entry) → p ≡ entry ∷ rest → q ≡ entry ∷ others → rest ≡ others → p ≡ q
same_piece entry rest others e g h = e ∙ (ap (λ l. entry ∷ l) h ∙ sym g)

module _ {A : Type 0} (reading : Reading) (f : Answers) where
  at_seen : (seen : Result Value Fault) (n : Value → Task A) (p q : List Entry) (r s : Result A Failure) → ((v : Value) → TaskGoes reading (n v) p r → TaskGoes reading (n v) q s → (p ≡ q) × (r ≡ s))
      → MatchResult seen (λ value. TaskGoes reading (n value) p r) (λ fault. (p ≡ []) × (r ≡ Err (evaluation fault)))
      → MatchResult seen (λ value. TaskGoes reading (n value) q s) (λ fault. (q ≡ []) × (s ≡ Err (evaluation fault))) → (p ≡ q) × (r ≡ s)
  at_seen (Ok v) n p q r s go h g = go v h g
  at_seen (Err e) n p q r s go h g = (h.0 ∙ sym g.0, h.1 ∙ sym g.1)

  -- Its pieces are equal, and it ends alike.
  pub task_once : (t : Task A) (p q : List Entry) (r s : Result A Failure) → Agrees f p → Agrees f q → TaskGoes reading t p r → TaskGoes reading t q s → (p ≡ q) × (r ≡ s)
  task_once (ends end) p q r s a b h g = (h.0 ∙ sym g.0, h.1 ∙ sym g.1)
  task_once (asks question next) p q r s a b h g =
      let x = h.1 in
      let y = g.1 in
      let told : (f.recipe question ≡ Some h.0) × Agrees f x.rest = subst (Agrees f) x.is a in
      let other : (f.recipe question ≡ Some g.0) × Agrees f y.rest = subst (Agrees f) y.is b in
      let same : g.0 ≡ h.0 = one_answer g.0 h.0 other.0 told.0 in
      let rest = task_once (next h.0) x.rest y.rest r s told.1 other.1 x.behind (subst (λ z. TaskGoes reading (next z) y.rest s) same y.behind) in
      (same_piece (Asked question h.0) x.rest y.rest x.is (subst (λ z. q ≡ Asked question z ∷ y.rest) same y.is) rest.0, rest.1)
  task_once (reads place x next) p q r s a b h g = at_seen (reading place x) next p q r s (λ v i j. task_once (next v) p q r s a b i j) h g
  task_once (shows text next) p q r s a b h g =
      let told : Unit {0} × Agrees f h.rest = subst (Agrees f) h.is a in
      let other : Unit {0} × Agrees f g.rest = subst (Agrees f) g.is b in
      let rest = task_once next h.rest g.rest r s told.1 other.1 h.behind g.behind in
      (same_piece (Show text) h.rest g.rest h.is g.is rest.0, rest.1)
  task_once (hands job next) p q r s a b h g =
      let x = h.1 in
      let y = g.1 in
      let told : holds f f.recipe (handed job h.0) × Agrees f x.rest = subst (Agrees f) x.is a in
      let other : holds f f.recipe (handed job g.0) × Agrees f y.rest = subst (Agrees f) y.is b in
      let same : g.0 ≡ h.0 = same_status f job g.0 h.0 other.0 told.0 in
      let rest = task_once (next h.0) x.rest y.rest r s told.1 other.1 x.behind (subst (λ z. TaskGoes reading (next z) y.rest s) same y.behind) in
      (same_piece (handed job h.0) x.rest y.rest x.is (subst (λ z. q ≡ handed job z ∷ y.rest) same y.is) rest.0, rest.1)
  task_once (confirms prompt next) p q r s a b h g =
      let x = h.1 in
      let y = g.1 in
      let told : (f.confirm prompt ≡ Some h.0) × Agrees f x.rest = subst (Agrees f) x.is a in
      let other : (f.confirm prompt ≡ Some g.0) × Agrees f y.rest = subst (Agrees f) y.is b in
      let same : g.0 ≡ h.0 = one_answer g.0 h.0 other.0 told.0 in
      let rest = task_once (next h.0) x.rest y.rest r s told.1 other.1 x.behind (subst (λ z. TaskGoes reading (next z) y.rest s) same y.behind) in
      (same_piece (Confirm prompt h.0) x.rest y.rest x.is (subst (λ z. q ≡ Confirm prompt z ∷ y.rest) same y.is) rest.0, rest.1)
