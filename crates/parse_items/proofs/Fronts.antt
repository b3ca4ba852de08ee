-- What tests of the first words say of them, and what the first words say of the tests.
use Rattle.std.proofs.Common.{◌≡◌, ℕ, suc, Bool, true, false, ◌&&◌, ◌||◌, List, length, map, Result, Ok, Err, refl, inl, inr, ◌⊎◌}
use Rattle.just_text.specs.Tokens.{Word}
use Rattle.just_text.specs.declared.token_kind.TokenKind.{TokenKind}
use Rattle.just_text.specs.declared.token_kind.TokenKind.TheVariants.{ColonEquals, Comment, Eof, Eol, Identifier, QuestionMark}
use Rattle.parse_expressions.specs.Words.{is_kind, Begins, Mark, Lacks}
use Rattle.parse_expressions.specs.Reading.{Read, accept, expect, is_next}
use Rattle.parse_expressions.proofs.Taken.{inspect, same_front, clash, accept_mark, expect_is, taken, marked, lacks_accept}
use Rattle.parse_expressions.specs.LineEnds.{IsEol}
use Rattle.parse_recipes.specs.Laws.{EolsExactly}
use Rattle.parse_expressions.specs.LineEnds.{eol_at}
use Rattle.parse_recipes.specs.Reading.{marked_at}
use Rattle.parse_items.specs.Items.{IsOptional}
use Rattle.parse_items.specs.Reading.{is_ok, ends_here, is_named_value}

-- ---- tests

pub both_true : (a b : Bool) → (a && b) ≡ true → (a ≡ true) × (b ≡ true)
both_true true b h = (refl, h)
both_true false b h = absurd cc

pub one_true : (a b : Bool) → (a || b) ≡ true → (a ≡ true) ⊎ (b ≡ true)
one_true true b h = inl refl
one_true false b h = inr h

ok_or_not : {A E : Type 0} (r : Result A E) → (is_ok r ≡ false) ⊎ ((x : A) × (r ≡ Ok x))
ok_or_not (Ok x) = inr (x, refl)
ok_or_not (Err e) = inl refl

-- ---- words

pub front_length : (kind : TokenKind) (text : List ℕ) (ws a : List Word) → Begins kind text ws a → length ws ≡ suc (length a)
front_length kind text ws a h = rw h refl

-- what begins with another kind lacks this one
pub other_first : (kind other : TokenKind) (ws a : List Word) → Mark other ws a → is_kind other kind ≡ false → Lacks kind ws
other_first kind other ws a m differs = λ rest n. clash other kind ws a rest m n differs

-- a line ends with a comment, with its end or with that of the file
pub no_end : (ws rest : List Word) → Lacks Comment ws → Lacks Eol ws → Lacks Eof ws → IsEol ws rest → ⊥
no_end ws rest comment eol eof (a, inl c, e) = comment a c
no_end ws rest comment eol eof (a, inr same, inl m) = eol rest (rw same.0 m)
no_end ws rest comment eol eof (a, inr same, inr m) = eof m.1.0 (rw same.0 m.1.1)

-- the end of a line begins with no other kind
pub end_lacks : (kind : TokenKind) (ws rest : List Word) → IsEol ws rest → is_kind Comment kind ≡ false → is_kind Eol kind ≡ false → is_kind Eof kind ≡ false → Lacks kind ws
end_lacks kind ws rest (a, inl c, e) p q r = other_first kind Comment ws a c p
end_lacks kind ws rest (a, inr same, inl m) p q r = other_first kind Eol ws rest (rw same.0 m) q
end_lacks kind ws rest (a, inr same, inr m) p q r = other_first kind Eof ws m.1.0 (rw same.0 m.1.1) r

module _ {T : Type 0} (word : T → Word) where
  -- what is read where a thing is spelled, and what is left then
  pub record Reads {A : Type 0} (read : Read T A) (x : A) (ws : List Word) : Type 0 where
    pub rest : List T
    pub is : read ≡ Ok (x, rest)
    pub others : map word rest ≡ ws

  -- ---- the next word

  pub next_says : (kind : TokenKind) (ts : List T) → is_next word kind ts ≡ true → (rest : List Word) × Mark kind (map word ts) rest
  unfolding is_next
  next_says kind ts h =
      elim (inspect (accept word kind ts)) [
        | inl w ↦ let q = rw w at h in absurd cc
        | inr w ↦ (map word w.0.1, accept_mark word kind ts w.0 w.1)
      ]

  pub is_next-yes : (kind : TokenKind) (ts : List T) (rest : List Word) → Mark kind (map word ts) rest → is_next word kind ts ≡ true
  unfolding is_next
  is_next-yes kind ts rest m = let t = marked word kind ts rest m in rw t.accepts refl

  pub is_next-no : (kind : TokenKind) (ts : List T) → Lacks kind (map word ts) → is_next word kind ts ≡ false
  unfolding is_next
  is_next-no kind ts l = rw (lacks_accept word kind ts l) refl

  pub next_other : (kind other : TokenKind) (ts : List T) (rest : List Word) → Mark other (map word ts) rest → is_kind other kind ≡ false → is_next word kind ts ≡ false
  next_other kind other ts rest m differs = is_next-no kind ts (other_first kind other (map word ts) rest m differs)

  -- what is taken where a word comes first is that word
  pub keyword_taken : (keyword : List ℕ) (ts : List T) (p : T × List T) → (rest : List Word) × Begins Identifier keyword (map word ts) rest → expect word Identifier ts ≡ Ok p → Begins Identifier keyword (map word ts) (map word p.1)
  keyword_taken keyword ts p k h =
      let first = expect_is word Identifier ts p h in
      rw (same_front Identifier Identifier keyword (word p.0).text (map word ts) k.0 (map word p.1) k.1 first).1 first

  -- ---- a name and `:=`

  pub value_says : (ts : List T) → is_named_value word ts ≡ true → (rest : List Word) × Mark Identifier (map word ts) rest
  unfolding is_named_value
  value_says ts h =
      elim (inspect (accept word Identifier ts)) [
        | inl w ↦ let q = rw w at h in absurd cc
        | inr w ↦ (map word w.0.1, accept_mark word Identifier ts w.0 w.1)
      ]

  pub is_value : (name : List ℕ) (ts : List T) (a b : List Word) → Begins Identifier name (map word ts) a → Mark ColonEquals a b → is_named_value word ts ≡ true
  unfolding is_named_value
  is_value name ts a b f m = let t = taken word Identifier name ts a f in rw t.accepts (is_next-yes ColonEquals t.rest b (rw t.others m))

  pub no_value : (name : List ℕ) (ts : List T) (a : List Word) → Begins Identifier name (map word ts) a → Lacks ColonEquals a → is_named_value word ts ≡ false
  unfolding is_named_value
  no_value name ts a f l = let t = taken word Identifier name ts a f in rw t.accepts (is_next-no ColonEquals t.rest (rw t.others l))

  pub no_name : (ts : List T) → Lacks Identifier (map word ts) → is_named_value word ts ≡ false
  unfolding is_named_value
  no_name ts l = rw (lacks_accept word Identifier ts l) refl

  -- ---- `?`

  pub optional_found : (ts : List T) → IsOptional (marked_at word QuestionMark ts).0 (map word ts) (map word (marked_at word QuestionMark ts).1)
  unfolding marked_at
  optional_found ts =
      elim (inspect (accept word QuestionMark ts)) [
        | inl w ↦ rw w refl
        | inr w ↦ rw w.1 (accept_mark word QuestionMark ts w.0 w.1)
      ]

  -- the mark is read, and after it come these words
  pub record Marked (optional : Bool) (ts : List T) (ws : List Word) : Type 0 where
    pub rest : List T
    pub is : marked_at word QuestionMark ts ≡ (optional, rest)
    pub others : map word rest ≡ ws

  pub optional_again : (optional : Bool) (ts : List T) (ws : List Word) → IsOptional optional (map word ts) ws → Lacks QuestionMark ws → Marked optional ts ws
  unfolding marked_at
  optional_again true ts ws m l = let t = marked word QuestionMark ts ws m in record { rest = t.rest; is = rw t.accepts refl; others = t.others }
  optional_again false ts ws m l = record { rest = ts; is = rw (lacks_accept word QuestionMark ts (rw m l)) refl; others = m }

  -- ---- the end of a line

  module _ (ends : EolsExactly word) where
    pub ends_here-yes : (ts : List T) (rest : List Word) → IsEol (map word ts) rest → ends_here word ts ≡ true
    ends_here-yes ts rest i = let e = ends.only ts rest i in rw e.1 refl

    pub ends_here-no : (ts : List T) → Lacks Comment (map word ts) → Lacks Eol (map word ts) → Lacks Eof (map word ts) → ends_here word ts ≡ false
    ends_here-no ts comment eol eof =
        elim (ok_or_not (eol_at word ts)) [
          | inl w ↦ w
          | inr w ↦ absurd (no_end (map word ts) (map word w.0) comment eol eof (ends.found ts w.0 w.1))
        ]
