-- Laws of steps of a recorded host, which a host over a record cites: none is a step, and two in order are one.
use Rattle.std.proofs.Common.{List, Bool, true, false, ◌≡◌, [], ◌∷◌, ◌++◌, inl, inr, refl, sym, ◌∙◌, ap, subst, append_assoc, append-nil}
use Rattle.std.proofs.lemmas.Bool.{false≢true}
use Rattle.std.proofs.lemmas.List.{append_cancel_left}
use Rattle.just_host.specs.declared.entry.Entry.{Entry}
use Rattle.just_host.specs.declared.entry.Entry.TheVariants.{Asked, Line, Script, Confirm, Show, Dotenv}
use Rattle.just_host.specs.Record.{Record}
use Rattle.just_host.specs.Follows.{questions, Begins, Follows, Nothing, Joins}

-- the questions of two rows are those of the first and then those of the second
pub questions-append : (p q : List Entry) → questions (p ++ q) ≡ questions p ++ questions q
questions-append [] q = refl
questions-append (Asked x y ∷ p) q = ap (λ l. Asked x y ∷ l) (questions-append p q)
questions-append (Dotenv x y ∷ p) q = ap (λ l. Dotenv x y ∷ l) (questions-append p q)
questions-append (Line _ _ ∷ p) q = questions-append p q
questions-append (Script _ _ ∷ p) q = questions-append p q
questions-append (Confirm _ _ ∷ p) q = questions-append p q
questions-append (Show _ ∷ p) q = questions-append p q

-- where only the questions among the entries take a host along, two rows in order are one row still
pub questions-join : {H : Type 0} (goes : H → List Entry → H → Type 0) → Joins goes → Joins (λ a piece b. goes a (questions piece) b)
questions-join goes joins a b c p q first second = let P : List Entry → Type 0 = λ l. goes a l c in subst P (sym (questions-append p q)) (joins a b c (questions p) (questions q) first second)

pub begins_itself : (p : List Entry) → Begins p p
begins_itself [] = tt
begins_itself (e ∷ p) = inl (refl, begins_itself p)

-- a beginning of a piece begins each longer one
pub begins_longer : (p q r : List Entry) → Begins p q → Begins p (q ++ r)
begins_longer [] q r h = tt
begins_longer (e ∷ p) [] r h = absurd h
begins_longer (e ∷ p) (f ∷ q) r h = elim h [ inl k ↦ inl (k.0, begins_longer p q r k.1) | inr k ↦ inr k ]

-- a beginning of what follows, after a whole piece
pub begins_behind : (p q r : List Entry) → Begins q r → Begins (p ++ q) (p ++ r)
begins_behind [] q r h = h
begins_behind (e ∷ p) q r h = inl (refl, begins_behind p q r h)

-- nothing was added where the list is as before
pub nothing_added : {X : Type 0} (l p : List X) → l ≡ l ++ p → p ≡ []
nothing_added l p e = append_cancel_left l p [] (sym e ∙ sym (append-nil l))

-- a record that can still grow could grow before
pub was_open : {H : Type 0} (b c : Record H) → (b.exhausted ≡ true → c ≡ b) → c.exhausted ≡ false → b.exhausted ≡ false
was_open b c stays open_now = elim b.exhausted as (λ v. b.exhausted ≡ v → b.exhausted ≡ false) [
  | true ↦ λ e. absurd (false≢true (sym open_now ∙ ap (λ r. r.exhausted) (stays e) ∙ e))
  | false ↦ λ e. e
] refl

stays_through : {H : Type 0} (a b c : Record H) → (a.exhausted ≡ true → b ≡ a) → (b.exhausted ≡ true → c ≡ b) → a.exhausted ≡ true → c ≡ a
stays_through a b c first second e = let s : b ≡ a = first e in second (ap (λ r. r.exhausted) s ∙ e) ∙ s

-- where the first part is not the whole first piece, the second part is empty
begins_then : {H : Type 0} (b c : Record H) (f s p q : List Entry) → (v : Bool) → b.exhausted ≡ v → (b.exhausted ≡ true → c ≡ b) → c.entries ≡ b.entries ++ s → (b.exhausted ≡ false → f ≡ p) → Begins f p → Begins s q → Begins (f ++ s) (p ++ q)
begins_then b c f s p q true e stays grown whole first second =
    let same : c ≡ b = stays e in
    let none : s ≡ [] = nothing_added b.entries s (sym (ap (λ r. r.entries) same) ∙ grown) in
    let short : f ≡ f ++ s = sym (append-nil f) ∙ ap (λ l. f ++ l) (sym none) in
    let P : List Entry → Type 0 = λ l. Begins l (p ++ q) in subst P short (begins_longer f p q first)
begins_then b c f s p q false e stays grown whole first second =
    let P : List Entry → Type 0 = λ l. Begins (l ++ s) (p ++ q) in subst P (sym (whole e)) (begins_behind p s q second)

-- nothing is asked
pub idle : {H : Type 0} (goes : H → List Entry → H → Type 0) → Nothing goes → Nothing (Follows goes)
idle goes nothing a = record {
  part = [];
  entries = sym (append-nil a.entries);
  host = nothing a.host;
  whole = λ _. refl;
  begins = tt;
  stays = λ _. refl;
}

-- two pieces in order are one piece
pub then : {H : Type 0} (goes : H → List Entry → H → Type 0) → Joins goes → Joins (Follows goes)
then goes joins a b c p q first second = record {
  part = first.part ++ second.part;
  entries = second.entries ∙ ap (λ l. l ++ second.part) first.entries ∙ append_assoc a.entries first.part second.part;
  host = joins a.host b.host c.host first.part second.part first.host second.host;
  whole = λ open_now. ap (λ l. l ++ second.part) (first.whole (was_open b c second.stays open_now)) ∙ ap (λ l. p ++ l) (second.whole open_now);
  begins = begins_then b c first.part second.part p q b.exhausted refl second.stays second.entries first.whole first.begins second.begins;
  stays = stays_through a b c first.stays second.stays;
}
