-- What tasks read, when runs of them are equal, and that calls are told apart.
use Rattle.std.proofs.Common.{◌≡◌, List, [], ◌∷◌, ◌++◌, append-nil, append_assoc, Bool, Result, Ok, Err, refl, sym, ap, ◌∙◌, subst, MatchResult}
use Rattle.just_host.specs.declared.entry.Entry.{Entry}
use Rattle.just_host.specs.declared.entry.Entry.TheVariants.{Asked}
use Rattle.meaning_dialogues.specs.Faults.{Fault}
use Rattle.meaning_dialogues.specs.Dialogue.{Dialogue, Ends, Asks, Reads, DialogueGoes, Reading, Lookup, Variable}
use Rattle.meaning_dialogues.specs.Evaluation.{Value}
use Rattle.meaning_dialogues.specs.Meaning.{Meaning}
use Rattle.meaning_dialogues.proofs.Unfolding.{IsMeant}
use Rattle.meaning_dialogues.proofs.Soundness.{Sound as SoundDialogue}
use Rattle.meaning_runs.specs.Failures.{Failure, evaluation}
use Rattle.meaning_runs.specs.Task.{Task, ends, asks, reads, shows, hands, confirms, ◌>>=◌, lift, as_failure, TaskGoes}
use Rattle.meaning_runs.specs.Told.{Answers, Agrees}
use Rattle.meaning_runs.specs.Acts.{Acts}
use Rattle.meaning_runs.proofs.Tasks.{Sound, seen_part, unfolds}
use Rattle.meaning_runs.proofs.Acting.{AreSound}

-- ---- what is read

module _ (P : Lookup → Variable → Type 0) where
  pub lift_sound : {A : Type 0} (Q : A → Type 0) (d : Dialogue A) → SoundDialogue P Q d → Sound P (lift d)
  lift_sound Q (Ends (Ok a)) h = tt
  lift_sound Q (Ends (Err fault)) h = tt
  lift_sound Q (Asks question next) h = λ answer. lift_sound Q (next answer) (h answer)
  lift_sound Q (Reads place x next) h = (h.0, λ value. lift_sound Q (next value) (h.1 value))

  pub then_sound : {A B : Type 0} (t : Task A) (k : A → Task B) → Sound P t → ((a : A) → Sound P (k a)) → Sound P (t >>= k)
  then_sound (ends (Ok a)) k h g = g a
  then_sound (ends (Err failure)) k h g = tt
  then_sound (asks question next) k h g = λ answer. then_sound (next answer) k (h answer) g
  then_sound (reads place x next) k h g = (h.0, λ value. then_sound (next value) k (h.1 value) g)
  then_sound (shows text next) k h g = then_sound next k h g
  then_sound (hands job next) k h g = λ status. then_sound (next status) k (h status) g
  then_sound (confirms prompt next) k h g = λ answer. then_sound (next answer) k (h answer) g

-- acts are sound where their parts are
pub acts_sound : {Call Bound : Type 0} (a : Acts Call Bound) (reading : Call → Reading) (variables : Call → Lookup → Variable → Meaning Value) (Of : Call → Type 0)
    → ((call : Call) (flag : Bool) → Of call → Sound (IsMeant (reading call) (variables call)) (a.head call flag))
    → ((call : Call) (flag : Bool) (bound : Bound) → Of call → Sound (IsMeant (reading call) (variables call)) (lift (a.priors call flag bound)))
    → ((call : Call) (flag : Bool) (bound : Bound) → Of call → Sound (IsMeant (reading call) (variables call)) (a.body call flag bound))
    → ((call : Call) (flag : Bool) (bound : Bound) → Of call → Sound (IsMeant (reading call) (variables call)) (lift (a.subsequents call flag bound)))
    → AreSound a reading variables Of
acts_sound a reading variables Of head priors body subsequents = record {
  begin = λ call flag those. then_sound (IsMeant (reading call) (variables call)) (a.head call flag) _ (head call flag those)
      (λ bound. then_sound (IsMeant (reading call) (variables call)) (lift (a.priors call flag bound)) _ (priors call flag bound those) (λ calls. tt));
  finish = λ call flag bound those. then_sound (IsMeant (reading call) (variables call)) (a.body call flag bound) _ (body call flag bound those) (λ u. subsequents call flag bound those);
}

-- ---- two runs

-- two runs of a task whose pieces agree with the same answers have the same events and end alike, be the hosts and the frames what they may
pub determinate : {A : Type 0} (first second : Reading) (f : Answers) (variables : Lookup → Variable → Meaning Value) (t : Task A) (p q : List Entry) (r s : Result A Failure) → Sound (IsMeant first variables) t → Sound (IsMeant second variables) t
    → Agrees f p → Agrees f q → TaskGoes first t p r → TaskGoes second t q s → seen_part p r ≡ seen_part q s
determinate first second f variables t p q r s one two agrees_p agrees_q goes_p goes_q =
    sym (unfolds first f variables t p r one agrees_p goes_p) ∙ unfolds second f variables t q s two agrees_q goes_q

-- a task that is a dialogue leads as the dialogue does
pub record AsDialogue {A : Type 0} (reading : Reading) (d : Dialogue A) (old piece : List Entry) (r : Result A Failure) : Type 0 where
  pub result : Result A Fault
  pub is : as_failure result ≡ r
  pub goes : DialogueGoes reading d old (old ++ piece) result

module _ {A : Type 0} (reading : Reading) where
  at_reading : (seen : Result Value Fault) (n : Value → Dialogue A) (old piece : List Entry) (r : Result A Failure)
      → ((v : Value) → TaskGoes reading (lift (n v)) piece r → AsDialogue reading (n v) old piece r)
      → MatchResult seen (λ value. TaskGoes reading (lift (n value)) piece r) (λ fault. (piece ≡ []) × (r ≡ Err (evaluation fault)))
      → (result : Result A Fault) × (as_failure result ≡ r) × MatchResult seen (λ value. DialogueGoes reading (n value) old (old ++ piece) result) (λ fault. (old ++ piece ≡ old) × (result ≡ Err fault))
  at_reading (Ok v) n old piece r go h = let a = go v h in (a.result, a.is, a.goes)
  at_reading (Err e) n old piece r go h = (Err e, sym h.1, (ap (λ l. old ++ l) h.0 ∙ append-nil old, refl))

  pub goes_lift : (d : Dialogue A) (old piece : List Entry) (r : Result A Failure) → TaskGoes reading (lift d) piece r → AsDialogue reading d old piece r
  goes_lift (Ends end) old piece r h = record { result = end; is = sym h.1; goes = (ap (λ l. old ++ l) h.0 ∙ append-nil old, refl) }
  goes_lift (Asks q next) old piece r h =
      let b = h.1 in
      let a = goes_lift (next h.0) (old ++ Asked q h.0 ∷ []) b.rest r b.behind in
      let same : (old ++ Asked q h.0 ∷ []) ++ b.rest ≡ old ++ piece = sym (append_assoc' old (Asked q h.0) b.rest) ∙ ap (λ l. old ++ l) (sym b.is) in
      record { result = a.result; is = a.is; goes = (h.0, subst (λ l. DialogueGoes reading (next h.0) (old ++ Asked q h.0 ∷ []) l a.result) same a.goes) }
    where
      append_assoc' : (xs : List Entry) (x : Entry) (ys : List Entry) → xs ++ (x ∷ ys) ≡ (xs ++ x ∷ []) ++ ys
      append_assoc' xs x ys = sym (append_assoc xs (x ∷ []) ys)
  goes_lift (Reads place x next) old piece r h =
      let a = at_reading (reading place x) next old piece r (λ v g. goes_lift (next v) old piece r g) h in
      record { result = a.0; is = a.1; goes = a.2 }
