-- What taking a token says of the words.
use Rattle.std.proofs.Common.{◌≡◌, ℕ, suc, true, false, List, [], ◌∷◌, map, length, Ok, Some, None, refl, sym, ap, ◌∙◌, inl, inr}
use Rattle.just_text.specs.Tokens.{Word}
use Rattle.just_text.specs.declared.token_kind.TokenKind.{TokenKind}
use Rattle.parse_expressions.specs.Words.{is_kind, Begins, Mark, Lacks}
use Rattle.parse_expressions.specs.Reading.{Read, accept, expect, is_next}
use Rattle.parse_expressions.proofs.Taken.{is_kind-same, is_kind-itself, inspect, test, ok_is, some_is, same_front, clash}

-- ---- words

pub lacks : (k j : TokenKind) (ws a : List Word) → Mark k ws a → is_kind k j ≡ false → Lacks j ws
lacks k j ws a m differ = λ rest n. clash k j ws a rest m n differ

pub front_shorter : (k : TokenKind) (x : List ℕ) (ws a : List Word) → Begins k x ws a → length ws ≡ suc (length a)
front_shorter k x ws a h = rw h refl

pub mark_shorter : (k : TokenKind) (ws a : List Word) → Mark k ws a → length ws ≡ suc (length a)
mark_shorter k ws a m = front_shorter k m.0 ws a m.1

pub same_words : (ws : List Word) → map (λ w. w) ws ≡ ws
same_words [] = refl
same_words (w ∷ ws) = ap (λ vs. w ∷ vs) (same_words ws)

-- ---- tokens

module _ {T : Type 0} (word : T → Word) where
  -- a token of that kind comes first
  pub record Front (kind : TokenKind) (ts : List T) (t : T) (rest : List T) : Type 0 where
    pub is : ts ≡ t ∷ rest
    pub of_kind : (word t).kind ≡ kind

  pub begins : (kind : TokenKind) (ts : List T) (t : T) (rest : List T) → Front kind ts t rest → Begins kind (word t).text (map word ts) (map word rest)
  begins kind ts t rest f = rw f.is (ap (λ (k : TokenKind). record { kind = k; text = (word t).text } ∷ map word rest) f.of_kind)

  pub mark : (kind : TokenKind) (ts : List T) (t : T) (rest : List T) → Front kind ts t rest → Mark kind (map word ts) (map word rest)
  mark kind ts t rest f = ((word t).text, begins kind ts t rest f)

  accept_is : (kind : TokenKind) (ts : List T) (p : T × List T) → accept word kind ts ≡ Some p → Front kind ts p.0 p.1
  unfolding accept
  accept_is kind [] p e = absurd cc
  accept_is kind (t ∷ ts) p e =
      elim (test (is_kind (word t).kind kind)) [
        | inl h ↦ let q : (t, ts) ≡ p = some_is (t, ts) p (rw h at e) in
            record { is = ap (λ r. r.0 ∷ r.1) q; of_kind = ap (λ r. (word r.0).kind) (sym q) ∙ is_kind-same (word t).kind kind h }
        | inr h ↦ let q = rw h at e in absurd cc
      ]

  accept_front : (kind : TokenKind) (ts : List T) (t : T) (rest : List T) → Front kind ts t rest → accept word kind ts ≡ Some (t, rest)
  unfolding accept
  accept_front kind ts t rest f = rw (f.is, f.of_kind, is_kind-itself kind) refl

  expect_is : (kind : TokenKind) (ts : List T) (p : T × List T) → expect word kind ts ≡ Ok p → Front kind ts p.0 p.1
  unfolding expect
  expect_is kind ts p e =
      elim (inspect (accept word kind ts)) [
        | inl w ↦ let q = rw w at e in absurd cc
        | inr w ↦ accept_is kind ts p (w.1 ∙ ap Some (ok_is w.0 p (rw w.1 at e)))
      ]

  -- ---- what was taken

  pub accept_begins : (kind : TokenKind) (ts : List T) (p : T × List T) → accept word kind ts ≡ Some p → Begins kind (word p.0).text (map word ts) (map word p.1)
  accept_begins kind ts p e = begins kind ts p.0 p.1 (accept_is kind ts p e)

  pub accept_mark : (kind : TokenKind) (ts : List T) (p : T × List T) → accept word kind ts ≡ Some p → Mark kind (map word ts) (map word p.1)
  accept_mark kind ts p e = ((word p.0).text, accept_begins kind ts p e)

  pub expect_begins : (kind : TokenKind) (ts : List T) (p : T × List T) → expect word kind ts ≡ Ok p → Begins kind (word p.0).text (map word ts) (map word p.1)
  expect_begins kind ts p e = begins kind ts p.0 p.1 (expect_is kind ts p e)

  pub expect_mark : (kind : TokenKind) (ts : List T) (p : T × List T) → expect word kind ts ≡ Ok p → Mark kind (map word ts) (map word p.1)
  expect_mark kind ts p e = ((word p.0).text, expect_begins kind ts p e)

  -- ---- what is taken where a word comes first

  pub record Taken (kind : TokenKind) (text : List ℕ) (ts : List T) (ws : List Word) : Type 0 where
    pub token : T
    pub rest : List T
    pub accepts : accept word kind ts ≡ Some (token, rest)
    pub expects : expect word kind ts ≡ Ok (token, rest)
    pub says : (word token).text ≡ text
    pub others : map word rest ≡ ws

  from_front : (kind : TokenKind) (text : List ℕ) (ts : List T) (ws : List Word) (t : T) (rest : List T) → Front kind ts t rest → (word t).text ≡ text → map word rest ≡ ws → Taken kind text ts ws
  unfolding expect
  from_front kind text ts ws t rest f says others =
      let a = accept_front kind ts t rest f in
      record { token = t; rest = rest; accepts = a; expects = rw a refl; says = says; others = others }

  pub taken : (kind : TokenKind) (text : List ℕ) (ts : List T) (ws : List Word) → Begins kind text (map word ts) ws → Taken kind text ts ws
  taken kind text [] ws b = absurd cc
  taken kind text (t ∷ ts) ws b =
      let s = same_front (word t).kind kind (word t).text text (map word (t ∷ ts)) (map word ts) ws refl b in
      from_front kind text (t ∷ ts) ws t ts (record { is = refl; of_kind = s.0 }) s.1 s.2

  -- what isn't first isn't taken, and what isn't taken isn't first
  pub none_taken : (kind : TokenKind) (ts : List T) → Lacks kind (map word ts) → accept word kind ts ≡ None
  none_taken kind ts l =
      elim (inspect (accept word kind ts)) [
        | inl w ↦ w
        | inr w ↦ absurd (l (map word w.0.1) (accept_mark kind ts w.0 w.1))
      ]

  pub not_first : (kind : TokenKind) (ts : List T) → accept word kind ts ≡ None → Lacks kind (map word ts)
  not_first kind ts h = λ rest m. let t = taken kind m.0 ts rest m.1 in let p = sym h ∙ t.accepts in absurd cc

  -- another kind is first
  pub no_accept : (kind other : TokenKind) (ts : List T) (rest : List Word) → Mark other (map word ts) rest → is_kind other kind ≡ false → accept word kind ts ≡ None
  no_accept kind other ts rest m differ = none_taken kind ts (lacks other kind (map word ts) rest m differ)

  pub is_next-yes : (kind : TokenKind) (ts : List T) (p : T × List T) → accept word kind ts ≡ Some p → is_next word kind ts ≡ true
  unfolding is_next
  is_next-yes kind ts p h = rw h refl

  pub is_next-no : (kind : TokenKind) (ts : List T) → accept word kind ts ≡ None → is_next word kind ts ≡ false
  unfolding is_next
  is_next-no kind ts h = rw h refl

  -- what is read where a thing is spelled, and what is left then
  pub record Reads {A : Type 0} (read : Read T A) (x : A) (ws : List Word) : Type 0 where
    pub rest : List T
    pub is : read ≡ Ok (x, rest)
    pub others : map word rest ≡ ws
