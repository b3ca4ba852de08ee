-- The words before an assignment's name are read where they are spelled, and only there.
use Rattle.std.proofs.Common.{◌≡◌, ℕ, zero, suc, ◌<◌, Bool, true, false, ◌||◌, List, length, map, Ok, Some, refl, subst, arith, inl, inr, ◌⊎◌}
use Rattle.std.specs.Str.{bytes_eq}
use Rattle.std.proofs.lemmas.List.{length-map}
use Rattle.just_text.specs.Tokens.{Word}
use Rattle.just_text.specs.declared.token_kind.TokenKind.TheVariants.{ColonEquals, Identifier}
use Rattle.parse_expressions.specs.Words.{Begins, Mark}
use Rattle.parse_expressions.specs.Reading.{accept, expect}
use Rattle.parse_expressions.proofs.Taken.{ok_is, text_same, accept_is, accept_mark, taken}
use Rattle.parse_items.specs.Keywords.{eager_keyword, export_keyword}
use Rattle.parse_items.specs.Items.{AreWords}
use Rattle.parse_items.specs.Reading.{are_both_words, is_word, is_named_value, words_at}
use Rattle.parse_items.proofs.Fronts.{both_true, one_true, front_length, other_first, value_says, is_value, no_value, Reads}
use Rattle.parse_items.proofs.Told.{OneWord, TwoWords}

-- ---- words

one_word : (x : List ℕ) (ws rest : List Word) → is_word x ≡ true → Begins Identifier x ws rest → AreWords (bytes_eq x export_keyword) (bytes_eq x eager_keyword) ws rest
one_word x ws rest w f =
    elim (one_true _ _ w) [
      | inl e ↦ let same = text_same x export_keyword e in rw same (rw same at f)
      | inr e ↦ let same = text_same x eager_keyword e in rw same (rw same at f)
    ]

two_words : (x y : List ℕ) (ws a rest : List Word) → are_both_words x y ≡ true → Begins Identifier x ws a → Begins Identifier y a rest
    → AreWords (bytes_eq x export_keyword || bytes_eq y export_keyword) (bytes_eq x eager_keyword || bytes_eq y eager_keyword) ws rest
two_words x y ws a rest w f g =
    elim (one_true _ _ w) [
      | inl e ↦
          let b = both_true _ _ e in
          let p = text_same x export_keyword b.0 in
          let q = text_same y eager_keyword b.1 in
          rw (p, q) (inl (a, rw p at f, rw q at g))
      | inr e ↦
          let b = both_true _ _ e in
          let p = text_same x eager_keyword b.0 in
          let q = text_same y export_keyword b.1 in
          rw (p, q) (inr (a, rw p at f, rw q at g))
    ]

module _ {T : Type 0} (word : T → Word) where
  -- ---- what is read

  stops : (n : ℕ) (export eager : Bool) (ts : List T) (y : (Bool × Bool) × List T) → is_named_value word ts ≡ true → words_at word export eager n ts ≡ Ok y → ((export, eager), ts) ≡ y
  unfolding words_at
  stops zero export eager ts y v h = absurd cc
  stops (suc n) export eager ts y v h = ok_is ((export, eager), ts) y (rw v at h)

  goes_on : (n : ℕ) (export eager : Bool) (ts : List T) (p : T × List T) (y : (Bool × Bool) × List T) → accept word Identifier ts ≡ Some p → is_named_value word ts ≡ false → words_at word export eager n ts ≡ Ok y
      → (m : ℕ) × (words_at word (export || bytes_eq (word p.0).text export_keyword) (eager || bytes_eq (word p.0).text eager_keyword) m p.1 ≡ Ok y)
  unfolding words_at expect
  goes_on zero export eager ts p y f v h = absurd cc
  goes_on (suc n) export eager ts p y f v h = (n, rw (v, f) at h)

  -- a name after a name is no `:=`
  name_behind : (ts : List T) (p : T × List T) → accept word Identifier ts ≡ Some p → (rest : List Word) × Mark Identifier (map word p.1) rest → is_named_value word ts ≡ false
  name_behind ts p f m = no_value word (word p.0).text ts (map word p.1) (accept_is word Identifier ts p f) (other_first ColonEquals Identifier (map word p.1) m.0 m.1 refl)

  pub words_found : (n : ℕ) (ts : List T) (y : (Bool × Bool) × List T) → (is_named_value word ts ≡ true) ⊎ (OneWord word ts ⊎ TwoWords word ts) → words_at word false false n ts ≡ Ok y → AreWords y.0.0 y.0.1 (map word ts) (map word y.1)
  words_found n ts y (inl v) h = subst (λ (z : (Bool × Bool) × List T). AreWords z.0.0 z.0.1 (map word ts) (map word z.1)) (stops n false false ts y v h) refl
  words_found n ts y (inr (inl o)) h =
      let x : List ℕ = (word o.token).text in
      let more = goes_on n false false ts (o.token, o.rest) y o.accepts (name_behind ts (o.token, o.rest) o.accepts (value_says word o.rest o.value)) h in
      let same = stops more.0 (bytes_eq x export_keyword) (bytes_eq x eager_keyword) o.rest y o.value more.1 in
      subst (λ (z : (Bool × Bool) × List T). AreWords z.0.0 z.0.1 (map word ts) (map word z.1)) same
      (one_word x (map word ts) (map word o.rest) o.is (accept_is word Identifier ts (o.token, o.rest) o.accepts))
  words_found n ts y (inr (inr o)) h =
      let x : List ℕ = (word o.token).text in
      let z : List ℕ = (word o.next).text in
      let first = goes_on n false false ts (o.token, o.between) y o.accepts (name_behind ts (o.token, o.between) o.accepts (map word o.rest, accept_mark word Identifier o.between (o.next, o.rest) o.goes_on)) h in
      let more =
      goes_on first.0 (bytes_eq x export_keyword) (bytes_eq x eager_keyword) o.between (o.next, o.rest) y o.goes_on
      (name_behind o.between (o.next, o.rest) o.goes_on (value_says word o.rest o.value)) first.1 in
      let same = stops more.0 (bytes_eq x export_keyword || bytes_eq z export_keyword) (bytes_eq x eager_keyword || bytes_eq z eager_keyword) o.rest y o.value more.1 in
      subst (λ (z : (Bool × Bool) × List T). AreWords z.0.0 z.0.1 (map word ts) (map word z.1)) same
      (two_words x z (map word ts) (map word o.between) (map word o.rest) o.are (accept_is word Identifier ts (o.token, o.between) o.accepts) (accept_is word Identifier o.between (o.next, o.rest) o.goes_on))

  -- ---- what is spelled

  stops_again : (n : ℕ) (export eager : Bool) (ts : List T) (a : List Word) → length (map word ts) < n → map word ts ≡ a → is_named_value word ts ≡ true → Reads word (words_at word export eager n ts) (export, eager) a
  unfolding words_at
  stops_again zero export eager ts a fuel same v = absurd (omega arith)
  stops_again (suc n) export eager ts a fuel same v = record { rest = ts; is = rw v refl; others = same }

  word_again : (n : ℕ) (export eager : Bool) (x : List ℕ) (ts : List T) (a rest : List Word) (all : Bool × Bool) → length (map word ts) < n → Begins Identifier x (map word ts) a → (b : List Word) × Mark Identifier a b
      → ((m : ℕ) (us : List T) → length (map word us) < m → map word us ≡ a → Reads word (words_at word (export || bytes_eq x export_keyword) (eager || bytes_eq x eager_keyword) m us) all rest)
      → Reads word (words_at word export eager n ts) all rest
  unfolding words_at
  word_again zero export eager x ts a rest all fuel f m behind = absurd (omega arith)
  word_again (suc n) export eager x ts a rest all fuel f m behind =
      let t = taken word Identifier x ts a f in
      let none = no_value word x ts a f (other_first ColonEquals Identifier a m.0 m.1 refl) in
      let less = front_length Identifier x (map word ts) a f in
      let r = behind n t.rest (rw t.others (omega arith)) t.others in
      record { rest = r.rest; is = rw (none, t.expects, t.says) r.is; others = r.others }

  words_in : (n : ℕ) (export eager : Bool) (name : List ℕ) (ts : List T) (a b c : List Word) → length (map word ts) < n → AreWords export eager (map word ts) a → Begins Identifier name a b → Mark ColonEquals b c
      → Reads word (words_at word false false n ts) (export, eager) a
  words_in n false false name ts a b c fuel i f m = stops_again n false false ts a fuel i (is_value word name ts b c (rw i f) m)
  words_in n true false name ts a b c fuel i f m =
      word_again n false false export_keyword ts a a (true, false) fuel i (b, (name, f)) (λ m' us fuel' same. stops_again m' true false us a fuel' same (is_value word name us b c (rw same f) m))
  words_in n false true name ts a b c fuel i f m =
      word_again n false false eager_keyword ts a a (false, true) fuel i (b, (name, f)) (λ m' us fuel' same. stops_again m' false true us a fuel' same (is_value word name us b c (rw same f) m))
  words_in n true true name ts a b c fuel (inl (d, e, g)) f m =
      word_again n false false export_keyword ts d a (true, true) fuel e (a, (eager_keyword, g)) (λ m' us fuel' same.
      word_again m' true false eager_keyword us a a (true, true) fuel' (rw same g) (b, (name, f)) (λ m'' vs fuel'' same'. stops_again m'' true true vs a fuel'' same' (is_value word name vs b c (rw same' f) m)))
  words_in n true true name ts a b c fuel (inr (d, e, g)) f m =
      word_again n false false eager_keyword ts d a (true, true) fuel e (a, (export_keyword, g)) (λ m' us fuel' same.
      word_again m' false true export_keyword us a a (true, true) fuel' (rw same g) (b, (name, f)) (λ m'' vs fuel'' same'. stops_again m'' true true vs a fuel'' same' (is_value word name vs b c (rw same' f) m)))

  pub words_again : (export eager : Bool) (name : List ℕ) (ts : List T) (a b c : List Word) → AreWords export eager (map word ts) a → Begins Identifier name a b → Mark ColonEquals b c
      → Reads word (words_at word false false (suc (length ts)) ts) (export, eager) a
  words_again export eager name ts a b c i f m = words_in (suc (length ts)) export eager name ts a b c (omega (arith, length-map ts word)) i f m
