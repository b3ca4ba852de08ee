-- One dialogue after another.
use Rattle.std.proofs.Common.{◌≡◌, ◌≢◌, ℕ, List, [], ◌∷◌, ◌++◌, append_assoc, append-nil, Result, Ok, Err, refl, sym, subst, MatchResult}
use Rattle.just_host.specs.declared.entry.Entry.{Entry}
use Rattle.just_host.specs.declared.entry.Entry.TheVariants.{Asked}
use Rattle.just_host.specs.declared.host.Answer.TheVariants.{Absent}
use Rattle.meaning_dialogues.specs.Faults.{Fault, memory}
use Rattle.meaning_dialogues.specs.Dialogue.{Dialogue, Ends, Asks, Reads, ◌>>=◌, Begins, DialogueGoes, Evaluates, Reading}

pub weaker : {V E : Type 0} {P R : V → Type 0} {Q S : E → Type 0} (o : Result V E) → ((v : V) → P v → R v) → ((e : E) → Q e → S e) → MatchResult o P Q → MatchResult o R S
weaker (Ok v) f g h = f v h
weaker (Err e) f g h = g e h

module _ {A B : Type 0} (reading : Reading) where
  pub goes_on : (t : Dialogue A) (k : A → Dialogue B) (old mid new : List Entry) (a : A) (r : Result B Fault) → DialogueGoes reading t old mid (Ok a) → DialogueGoes reading (k a) mid new r → DialogueGoes reading (t >>= k) old new r
  goes_on (Ends (Ok b)) k old mid new a r h g =
      let e : a ≡ b = cc in
      subst (λ m. DialogueGoes reading (k b) m new r) h.0 (subst (λ x. DialogueGoes reading (k x) mid new r) e g)
  goes_on (Ends (Err f)) k old mid new a r h g = absurd (cc)
  goes_on (Asks q next) k old mid new a r h g = (h.0, goes_on (next h.0) k _ mid new a r h.1 g)
  goes_on (Reads p x next) k old mid new a r h g =
      weaker (reading p x) (λ v q. goes_on (next v) k old mid new a r q g) (λ f q. absurd (cc)) h

  pub stops : (t : Dialogue A) (k : A → Dialogue B) (old new : List Entry) (e : Fault) → DialogueGoes reading t old new (Err e) → DialogueGoes reading (t >>= k) old new (Err e)
  stops (Ends (Ok b)) k old new e h = absurd (cc)
  stops (Ends (Err f)) k old new e h = (h.0, cc)
  stops (Asks q next) k old new e h = (h.0, stops (next h.0) k _ new e h.1)
  stops (Reads p x next) k old new e h =
      weaker (reading p x) (λ v q. stops (next v) k old new e q) (λ f q. (q.0, cc)) h

-- ---- beginnings

module _ {A : Type 0} (reading : Reading) where
  at_read : (seen : Result (List (List ℕ)) Fault) (old : List Entry) (next : List (List ℕ) → Dialogue A) → ((value : List (List ℕ)) → Begins reading (next value) old old)
      → (rest : List Entry) × (r : Result A Fault) × MatchResult seen (λ value. DialogueGoes reading (next value) old (old ++ rest) r) (λ fault. (old ++ rest ≡ old) × (r ≡ Err fault))
  at_read (Ok value) old next each = let b = each value in (b.rest, b.result, b.goes)
  at_read (Err fault) old next each = ([], Err fault, (append-nil old, refl))

  -- from each record a dialogue can go on to an end
  pub begins_here : (t : Dialogue A) (old : List Entry) → Begins reading t old old
  begins_here (Ends end) old = record { rest = []; result = end; goes = (append-nil old, refl) }
  begins_here (Asks question next) old =
      let b = begins_here (next Absent) (old ++ Asked question Absent ∷ []) in
      record {
        rest = Asked question Absent ∷ b.rest;
        result = b.result;
        goes = (Absent, subst (λ new. DialogueGoes reading (next Absent) (old ++ Asked question Absent ∷ []) new b.result) (append_assoc old (Asked question Absent ∷ []) b.rest) b.goes);
      }
  begins_here (Reads place variable next) old =
      let b = at_read (reading place variable) old next (λ value. begins_here (next value) old) in
      record { rest = b.0; result = b.1; goes = b.2 }

  -- what a dialogue records to its end is a beginning
  pub whole_begins : (t : Dialogue A) (old new : List Entry) (r : Result A Fault) → DialogueGoes reading t old new r → Begins reading t old new
  whole_begins t old new r h = record { rest = []; result = r; goes = subst (λ n. DialogueGoes reading t old n r) (sym (append-nil new)) h }

module _ {A B : Type 0} (reading : Reading) where
  -- behind a dialogue that goes through, what begins the next one begins both
  pub begins_on : (t : Dialogue A) (k : A → Dialogue B) (old mid new : List Entry) (a : A) → DialogueGoes reading t old mid (Ok a) → Begins reading (k a) mid new → Begins reading (t >>= k) old new
  begins_on t k old mid new a h b = record { rest = b.rest; result = b.result; goes = goes_on reading t k old mid (new ++ b.rest) a b.result h b.goes }

  -- what begins a dialogue begins it and the next one
  pub begins_first : (t : Dialogue A) (k : A → Dialogue B) (old new : List Entry) → Begins reading t old new → Begins reading (t >>= k) old new
  begins_first t k old new b = by_end b.result b.goes
    where
      by_end : (r : Result A Fault) → DialogueGoes reading t old (new ++ b.rest) r → Begins reading (t >>= k) old new
      by_end (Ok a) h =
          let next = begins_here reading (k a) (new ++ b.rest) in
          record {
            rest = b.rest ++ next.rest;
            result = next.result;
            goes = subst (λ last. DialogueGoes reading (t >>= k) old last next.result) (append_assoc new b.rest next.rest) (goes_on reading t k old (new ++ b.rest) ((new ++ b.rest) ++ next.rest) a next.result h next.goes);
          }
      by_end (Err fault) h = record { rest = b.rest; result = Err fault; goes = stops reading t k old (new ++ b.rest) fault h }

pub then_goes : {A B : Type 0} {reading : Reading} {old mid new : List Entry} {a : A} {r : Result B Fault} (t : Dialogue A) (k : A → Dialogue B) → Evaluates reading t old mid (Ok a) → Evaluates reading (k a) mid new r → Evaluates reading (t >>= k) old new r
then_goes {reading = reading} {old = old} {mid = mid} {new = new} {a = a} {r = r} t k h g =
    record { goes = λ n. goes_on reading t k old mid new a r (h.goes (λ e. cc)) (g.goes n); begins = begins_on reading t k old mid new a (h.goes (λ e. cc)) g.begins }

pub then_stops : {A B : Type 0} {reading : Reading} {old new : List Entry} {e : Fault} (t : Dialogue A) (k : A → Dialogue B) → Evaluates reading t old new (Err e) → Evaluates reading (t >>= k) old new (Err e)
then_stops {reading = reading} {old = old} {new = new} {e = e} t k h =
    record { goes = λ n. stops reading t k old new e (h.goes (λ m. n (cc))); begins = begins_first reading t k old new h.begins }

pub ends : {A : Type 0} {reading : Reading} {old : List Entry} {r : Result A Fault} (end : Result A Fault) → (r ≢ Err memory → r ≡ end) → Evaluates reading (Ends end) old old r
ends {reading = reading} {old = old} end e = record { goes = λ n. (refl, e n); begins = begins_here reading (Ends end) old }

-- where memory ran out before anything was asked
pub not_begun : {A : Type 0} {reading : Reading} (t : Dialogue A) (old : List Entry) → Evaluates reading t old old (Err memory)
not_begun {reading = reading} t old = record { goes = λ n. absurd (n refl); begins = begins_here reading t old }

-- what goes by a dialogue where memory suffices, and is a beginning where it does not
pub evaluates_so : {A : Type 0} {reading : Reading} (t : Dialogue A) (old new : List Entry) (r : Result A Fault) → (r ≢ Err memory → DialogueGoes reading t old new r) → Begins reading t old new → Evaluates reading t old new r
evaluates_so t old new r goes begins = record { goes = goes; begins = begins }
