-- A task leads as its parts do, and a dialogue as a task where it leads itself.
use Rattle.std.proofs.Common.{◌≡◌, ◌⊎◌, ◌∙◌, inl, inr, sym, ap, subst, refl, List, [], ◌∷◌, ◌++◌, append-nil, append_assoc, Result, Ok, Err, MatchResult}
use Rattle.just_host.specs.declared.entry.Entry.{Entry}
use Rattle.just_host.specs.declared.entry.Entry.TheVariants.{Asked, Confirm, Show}
use Rattle.meaning_dialogues.specs.Dialogue.{Dialogue, DialogueGoes, Ends, Asks, Reads, Reading}
use Rattle.meaning_dialogues.specs.Evaluation.{Value}
use Rattle.meaning_dialogues.specs.Faults.{Fault}
use Rattle.meaning_runs.specs.Failures.{Failure, evaluation}
use Rattle.meaning_runs.specs.Task.{Task, TaskGoes, TaskLeads, as_failure, asks, confirms, ends, handed, hands, lift, reads, shows, ◌>>=◌}
use Rattle.meaning_runs.proofs.Tasks as task_steps

-- ---- dialogues as tasks

module _ {A : Type 0} (reading : Reading) where
  abbrev IsLifted : Dialogue A → List Entry → List Entry → Result A Failure → Type 0
  IsLifted t old piece r = (end : Result A Fault) × (r ≡ as_failure end) × DialogueGoes reading t old (old ++ piece) end

  at_value : (seen : Result Value Fault) (n : Value → Dialogue A) (old piece : List Entry) (r : Result A Failure) → ((v : Value) → TaskGoes reading (lift (n v)) piece r → IsLifted (n v) old piece r)
      → MatchResult seen (λ v. TaskGoes reading (lift (n v)) piece r) (λ fault. (piece ≡ []) × (r ≡ Err (evaluation fault)))
      → (end : Result A Fault) × (r ≡ as_failure end) × MatchResult seen (λ v. DialogueGoes reading (n v) old (old ++ piece) end) (λ fault. ((old ++ piece) ≡ old) × (end ≡ Err fault))
  at_value (Ok v) n old piece r go h = go v h
  at_value (Err fault) n old piece r go h = (Err fault, h.1, (ap (λ l. old ++ l) h.0 ∙ append-nil old, refl))

  lifted : (t : Dialogue A) (old piece : List Entry) (r : Result A Failure) → TaskGoes reading (lift t) piece r → IsLifted t old piece r
  lifted (Ends end) old piece r h = (end, h.1, (ap (λ l. old ++ l) h.0 ∙ append-nil old, refl))
  lifted (Asks q next) old piece r h =
      let more = lifted (next h.0) (old ++ Asked q h.0 ∷ []) h.1.rest r h.1.behind in
      let whole : ((old ++ Asked q h.0 ∷ []) ++ h.1.rest) ≡ (old ++ piece) = append_assoc old (Asked q h.0 ∷ []) h.1.rest ∙ ap (λ l. old ++ l) (sym h.1.is) in
      (more.0, more.1, (h.0, subst (λ l. DialogueGoes reading (next h.0) (old ++ Asked q h.0 ∷ []) l more.0) whole more.2))
  lifted (Reads place x next) old piece r h = at_value (reading place x) next old piece r (λ v g. lifted (next v) old piece r g) h

  -- a dialogue that leads as a task leads so itself
  pub lifted_leads : (t : Dialogue A) (old new : List Entry) (r : Result A Failure) → TaskLeads reading (lift t) old new r → (end : Result A Fault) × (r ≡ as_failure end) × DialogueGoes reading t old new end
  lifted_leads t old new r h =
      let l = lifted t old h.piece r h.goes in
      (l.0, l.1, subst (λ n. DialogueGoes reading t old n l.0) (sym h.entries) l.2)

-- ---- tasks

module _ {A B : Type 0} (reading : Reading) where
  -- a task leads to a value from which another goes on, or to a failure
  abbrev pub Split : Task A → (A → Task B) → List Entry → Result B Failure → Type 0
  Split t k piece r =
      ((a : A) × (one : List Entry) × (two : List Entry) × (piece ≡ one ++ two) × TaskGoes reading t one (Ok a) × TaskGoes reading (k a) two r)
      ⊎ ((failure : Failure) × TaskGoes reading t piece (Err failure) × (r ≡ Err failure))

  split_value : (seen : Result Value Fault) (n : Value → Task A) (k : A → Task B) (piece : List Entry) (r : Result B Failure) → ((v : Value) → TaskGoes reading (n v >>= k) piece r → Split (n v) k piece r)
      → MatchResult seen (λ v. TaskGoes reading (n v >>= k) piece r) (λ fault. (piece ≡ []) × (r ≡ Err (evaluation fault)))
      → ((a : A) × (one : List Entry) × (two : List Entry) × (piece ≡ one ++ two) × MatchResult seen (λ v. TaskGoes reading (n v) one (Ok a)) (λ fault. (one ≡ []) × (◌≡◌ {A = Result A Failure} (Ok a) (Err (evaluation fault)))) ×
      TaskGoes reading (k a) two r)
      ⊎ ((failure : Failure) × MatchResult seen (λ v. TaskGoes reading (n v) piece (Err failure)) (λ fault. (piece ≡ []) × (◌≡◌ {A = Result A Failure} (Err failure) (Err (evaluation fault)))) × (r ≡ Err failure))
  split_value (Ok v) n k piece r go h = go v h
  split_value (Err fault) n k piece r go h = inr (evaluation fault, (h.0, refl), h.1)

  split : (t : Task A) (k : A → Task B) (piece : List Entry) (r : Result B Failure) → TaskGoes reading (t >>= k) piece r → Split t k piece r
  split (ends (Ok a)) k piece r h = inl (a, [], piece, refl, (refl, refl), h)
  split (ends (Err failure)) k piece r h = inr (failure, (h.0, refl), h.1)
  split (asks q next) k piece r h =
      let more = split (next h.0) k h.1.rest r h.1.behind in
      elim more [
        | inl p ↦ inl (p.0, Asked q h.0 ∷ p.1, p.2, h.1.is ∙ ap (λ l. Asked q h.0 ∷ l) p.3, (h.0, record { rest = p.1; is = refl; behind = p.4 }), p.5)
        | inr p ↦ inr (p.0, (h.0, record { rest = h.1.rest; is = h.1.is; behind = p.1 }), p.2)
      ]
  split (reads place x next) k piece r h = split_value (reading place x) next k piece r (λ v g. split (next v) k piece r g) h
  split (shows text next) k piece r h =
      let more = split next k h.rest r h.behind in
      elim more [
        | inl p ↦ inl (p.0, Show text ∷ p.1, p.2, h.is ∙ ap (λ l. Show text ∷ l) p.3, record { rest = p.1; is = refl; behind = p.4 }, p.5)
        | inr p ↦ inr (p.0, record { rest = h.rest; is = h.is; behind = p.1 }, p.2)
      ]
  split (hands job next) k piece r h =
      let more = split (next h.0) k h.1.rest r h.1.behind in
      elim more [
        | inl p ↦ inl (p.0, handed job h.0 ∷ p.1, p.2, h.1.is ∙ ap (λ l. handed job h.0 ∷ l) p.3, (h.0, record { rest = p.1; is = refl; behind = p.4 }), p.5)
        | inr p ↦ inr (p.0, (h.0, record { rest = h.1.rest; is = h.1.is; behind = p.1 }), p.2)
      ]
  split (confirms prompt next) k piece r h =
      let more = split (next h.0) k h.1.rest r h.1.behind in
      elim more [
        | inl p ↦ inl (p.0, Confirm prompt h.0 ∷ p.1, p.2, h.1.is ∙ ap (λ l. Confirm prompt h.0 ∷ l) p.3, (h.0, record { rest = p.1; is = refl; behind = p.4 }), p.5)
        | inr p ↦ inr (p.0, (h.0, record { rest = h.1.rest; is = h.1.is; behind = p.1 }), p.2)
      ]

  -- so it does from one record to another
  pub task_parted : (G : Type 0) (t : Task A) (k : A → Task B) (old new : List Entry) (r : Result B Failure) → ((a : A) (mid : List Entry) → TaskLeads reading t old mid (Ok a) → TaskLeads reading (k a) mid new r → G)
      → ((failure : Failure) → TaskLeads reading t old new (Err failure) → r ≡ Err failure → G) → TaskLeads reading (t >>= k) old new r → G
  task_parted G t k old new r on stop h = elim (split t k h.piece r h.goes) [
    | inl p ↦
        on p.0 (old ++ p.1) (record { piece = p.1; entries = refl; goes = p.4 })
        (record { piece = p.2; entries = h.entries ∙ ap (λ l. old ++ l) p.3 ∙ sym (append_assoc old p.1 p.2); goes = p.5 })
    | inr p ↦ stop p.0 (record { piece = h.piece; entries = h.entries; goes = p.1 }) p.2
  ]

  -- one task after another
  pub then_leads : (t : Task A) (k : A → Task B) (old mid new : List Entry) (a : A) (r : Result B Failure) → TaskLeads reading t old mid (Ok a) → TaskLeads reading (k a) mid new r → TaskLeads reading (t >>= k) old new r
  then_leads t k old mid new a r h g = record {
    piece = h.piece ++ g.piece;
    entries = g.entries ∙ ap (λ l. l ++ g.piece) h.entries ∙ append_assoc old h.piece g.piece;
    goes = task_steps.goes_on reading k t h.piece g.piece a r h.goes g.goes;
  }

  pub stops_leads : (t : Task A) (k : A → Task B) (old new : List Entry) (failure : Failure) → TaskLeads reading t old new (Err failure) → TaskLeads reading (t >>= k) old new (Err failure)
  stops_leads t k old new failure h = record { piece = h.piece; entries = h.entries; goes = task_steps.stops reading k t h.piece failure h.goes }

-- a task that ends
pub ends_leads : {A : Type 0} (reading : Reading) (old : List Entry) (a : A) → TaskLeads reading (ends (Ok a)) old old (Ok a)
ends_leads reading old a = record { piece = []; entries = sym (append-nil old); goes = (refl, refl) }
