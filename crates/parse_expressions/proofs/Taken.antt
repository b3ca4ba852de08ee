-- What taking a token says of the words.
use Rattle.std.proofs.Common.{◌≡◌, ◌≢◌, ℕ, Bool, true, false, ◌&&◌, List, [], ◌∷◌, map, Result, Ok, Err, Option, Some, None, refl, sym, ap, subst, ◌∙◌, arith, inl, inr, ◌⊎◌}
use Rattle.std.specs.Str.{bytes_eq}
use Rattle.std.proofs.lemmas.Slice.Eq.{bytes_eq-Decides}
use Rattle.std.proofs.lemmas.Bool.Decides.{not_from_Decides}
use Rattle.just_text.specs.Tokens.{Word}
use Rattle.just_text.specs.declared.token_kind.TokenKind.{TokenKind}
use Rattle.just_text.specs.declared.token_kind.TokenKind.TheVariants.{Identifier}
use Rattle.just_text.specs.contracts.token_kind.TokenKind.{the_type}
use denote.Enum.Bare.{same_true, true_same}
use Rattle.parse_expressions.specs.Words.{is_kind, Begins, Mark, Lacks, LacksKeyword}
use Rattle.parse_expressions.specs.Reading.{◌>>=◌, accept, expect, is_keyword}

-- ---- kinds

pub is_kind-same : (a b : TokenKind) → is_kind a b ≡ true → a ≡ b
is_kind-same a b h = same_true the_type tt a b h

pub is_kind-itself : (k : TokenKind) → is_kind k k ≡ true
is_kind-itself k = true_same the_type k k refl

-- ---- steps

pub bind_ok : {A B E : Type 0} (r : Result A E) (f : A → Result B E) (y : B) → (r >>= f) ≡ Ok y → (x : A) × (r ≡ Ok x) × (f x ≡ Ok y)
bind_ok (Ok x) f y e = (x, refl, e)
bind_ok (Err d) f y e = absurd cc

-- which way an option and a test went
pub inspect : {A : Type 0} (o : Option A) → (o ≡ None) ⊎ ((x : A) × (o ≡ Some x))
inspect None = inl refl
inspect (Some x) = inr (x, refl)

pub test : (b : Bool) → (b ≡ true) ⊎ (b ≡ false)
test true = inl refl
test false = inr refl

abbrev pub done : {A E : Type 0} → A → Result A E
done x = Ok x

pub ok_is : {A E : Type 0} (x y : A) → done {A = A} {E = E} x ≡ Ok y → x ≡ y
ok_is x y e = cc

pub turned : {A E : Type 0} (P : A → Type 0) (x y : A) → done {A = A} {E = E} x ≡ Ok y → P x → P y
turned {A = A} {E = E} P x y e p = subst P (ok_is {A = A} {E = E} x y e) p

pub some_is : {A : Type 0} (x y : A) → Some x ≡ Some y → x ≡ y
some_is x y e = cc

pub none_unless : {A : Type 0} (o : Option A) → ((x : A) → o ≡ Some x → ⊥) → o ≡ None
none_unless None h = refl
none_unless (Some x) h = absurd (h x refl)

-- ---- texts

pub text_same : (x y : List ℕ) → bytes_eq x y ≡ true → x ≡ y
text_same x y h = grind (arith, bytes_eq-Decides x y)

pub text_other : (x y : List ℕ) → bytes_eq x y ≡ false → x ≢ y
text_other x y h = not_from_Decides (bytes_eq x y) (bytes_eq-Decides x y) h

pub text_itself : (x : List ℕ) → bytes_eq x x ≡ true
text_itself x = grind (arith, bytes_eq-Decides x x)

pub text_differs : (x y : List ℕ) → x ≢ y → bytes_eq x y ≡ false
text_differs x y h = grind (arith, bytes_eq-Decides x y)

-- ---- words

pub same_front : (k j : TokenKind) (x y : List ℕ) (ws a b : List Word) → Begins k x ws a → Begins j y ws b → (k ≡ j) × (x ≡ y) × (a ≡ b)
same_front k j x y ws a b h i =
    let p : record { kind = k; text = x } ∷ a ≡ record { kind = j; text = y } ∷ b = sym h ∙ i in
    let v : Word = record { kind = k; text = x } in
    let z : Word = record { kind = j; text = y } in
    let w : v ≡ z = cc in
    (ap (λ (v : Word). v.kind) w, ap (λ (v : Word). v.text) w, cc)

-- two kinds can't both come first
pub clash : (k j : TokenKind) (ws a b : List Word) → Mark k ws a → Mark j ws b → is_kind k j ≡ false → ⊥
clash k j ws a b h i differ =
    let same = same_front k j h.0 i.0 ws a b h.1 i.1 in
    let p : is_kind j j ≡ false = rw same.0 at differ in
    let q = is_kind-itself j in absurd cc

-- ---- tokens

module _ {T : Type 0} (word : T → Word) where
  -- a token of that kind comes first
  pub record Front (kind : TokenKind) (ts : List T) (t : T) (rest : List T) : Type 0 where
    pub is : ts ≡ t ∷ rest
    pub of_kind : (word t).kind ≡ kind

  accept_front : (kind : TokenKind) (ts : List T) (p : T × List T) → accept word kind ts ≡ Some p → Front kind ts p.0 p.1
  unfolding accept
  accept_front kind [] p e = absurd cc
  accept_front kind (t ∷ ts) p e =
      elim (test (is_kind (word t).kind kind)) [
        | inl h ↦ let q : (t, ts) ≡ p = some_is (t, ts) p (rw h at e) in
            record { is = ap (λ (r : T × List T). r.0 ∷ r.1) q; of_kind = ap (λ (r : T × List T). (word r.0).kind) (sym q) ∙ is_kind-same (word t).kind kind h }
        | inr h ↦ let q = rw h at e in absurd cc
      ]

  pub front_begins : (kind : TokenKind) (ts : List T) (t : T) (rest : List T) → Front kind ts t rest → Begins kind (word t).text (map word ts) (map word rest)
  front_begins kind ts t rest f = rw f.is (ap (λ (k : TokenKind). record { kind = k; text = (word t).text } ∷ map word rest) f.of_kind)

  pub accept_is : (kind : TokenKind) (ts : List T) (p : T × List T) → accept word kind ts ≡ Some p → Begins kind (word p.0).text (map word ts) (map word p.1)
  accept_is kind ts p e = front_begins kind ts p.0 p.1 (accept_front kind ts p e)

  pub accept_mark : (kind : TokenKind) (ts : List T) (p : T × List T) → accept word kind ts ≡ Some p → Mark kind (map word ts) (map word p.1)
  accept_mark kind ts p e = ((word p.0).text, accept_is kind ts p e)

  pub expect_is : (kind : TokenKind) (ts : List T) (p : T × List T) → expect word kind ts ≡ Ok p → Begins kind (word p.0).text (map word ts) (map word p.1)
  unfolding expect
  expect_is kind ts p e =
      elim (inspect (accept word kind ts)) [
        | inl w ↦ let q = rw w at e in absurd cc
        | inr w ↦ accept_is kind ts p (w.1 ∙ ap Some (ok_is w.0 p (rw w.1 at e)))
      ]

  pub expect_mark : (kind : TokenKind) (ts : List T) (p : T × List T) → expect word kind ts ≡ Ok p → Mark kind (map word ts) (map word p.1)
  expect_mark kind ts p e = ((word p.0).text, expect_is kind ts p e)

  front_accept : (kind : TokenKind) (ts : List T) (t : T) (rest : List T) → Front kind ts t rest → accept word kind ts ≡ Some (t, rest)
  unfolding accept
  front_accept kind ts t rest f = rw (f.is, f.of_kind, is_kind-itself kind) refl

  front_expect : (kind : TokenKind) (ts : List T) (t : T) (rest : List T) → Front kind ts t rest → expect word kind ts ≡ Ok (t, rest)
  unfolding expect
  front_expect kind ts t rest f = rw (front_accept kind ts t rest f) refl

  -- the token that is that word, and what lies after it
  pub record Taken (kind : TokenKind) (text : List ℕ) (ts : List T) (ws : List Word) : Type 0 where
    pub token : T
    pub rest : List T
    pub front : Front kind ts token rest
    pub accepts : accept word kind ts ≡ Some (token, rest)
    pub expects : expect word kind ts ≡ Ok (token, rest)
    pub says : (word token).text ≡ text
    pub others : map word rest ≡ ws

  front_taken : (kind : TokenKind) (text : List ℕ) (ts : List T) (ws : List Word) (t : T) (rest : List T) → Front kind ts t rest → (word t).text ≡ text → map word rest ≡ ws → Taken kind text ts ws
  front_taken kind text ts ws t rest f says others = record { token = t; rest = rest; front = f; accepts = front_accept kind ts t rest f; expects = front_expect kind ts t rest f; says = says; others = others }

  pub taken : (kind : TokenKind) (text : List ℕ) (ts : List T) (ws : List Word) → Begins kind text (map word ts) ws → Taken kind text ts ws
  taken kind text [] ws b = absurd cc
  taken kind text (t ∷ ts) ws b =
      let s = same_front (word t).kind kind (word t).text text (map word (t ∷ ts)) (map word ts) ws refl b in
      front_taken kind text (t ∷ ts) ws t ts (record { is = refl; of_kind = s.0 }) s.1 s.2

  pub marked : (kind : TokenKind) (ts : List T) (ws : List Word) (m : Mark kind (map word ts) ws) → Taken kind m.0 ts ws
  marked kind ts ws m = taken kind m.0 ts ws m.1

  pub accept_none : (kind : TokenKind) (ts : List T) → accept word kind ts ≡ None → Lacks kind (map word ts)
  accept_none kind ts e rest m =
      let t = marked kind ts rest m in
      let p = t.accepts in absurd cc

  pub lacks_accept : (kind : TokenKind) (ts : List T) → Lacks kind (map word ts) → accept word kind ts ≡ None
  lacks_accept kind ts h = none_unless (accept word kind ts) (λ p e. h (map word p.1) (accept_mark kind ts p e))

  -- a kind that isn't first isn't taken
  pub other_accept : (kind other : TokenKind) (ts : List T) (rest : List Word) → Mark other (map word ts) rest → is_kind other kind ≡ false → accept word kind ts ≡ None
  other_accept kind other ts rest m differ = lacks_accept kind ts (λ a n. clash other kind (map word ts) rest a m n differ)

  -- ---- keywords

  both : (a b : Bool) → (a && b) ≡ true → (a ≡ true) × (b ≡ true)
  both true b h = (refl, h)
  both false b h = absurd cc

  pub keyword_is : (keyword : List ℕ) (ts : List T) → is_keyword word keyword ts ≡ true → (rest : List Word) × Begins Identifier keyword (map word ts) rest
  unfolding is_keyword
  keyword_is keyword [] h = absurd cc
  keyword_is keyword (t ∷ ts) h =
      let b = both _ _ h in
      let k = is_kind-same (word t).kind Identifier b.0 in
      let x = text_same (word t).text keyword b.1 in
      (map word ts, ap (λ (z : TokenKind × List ℕ). record { kind = z.0; text = z.1 } ∷ map word ts) (rw (k, x) refl))

  pub keyword_begins : (keyword : List ℕ) (ts : List T) (rest : List Word) → Begins Identifier keyword (map word ts) rest → is_keyword word keyword ts ≡ true
  unfolding is_keyword
  keyword_begins keyword ts rest b =
      let t = taken Identifier keyword ts rest b in
      rw (t.front.is, t.front.of_kind, t.says, text_itself keyword) refl

  false_unless : (b : Bool) → (b ≡ true → ⊥) → b ≡ false
  false_unless true h = absurd (h refl)
  false_unless false h = refl

  pub lacks_keyword : (keyword : List ℕ) (ts : List T) → LacksKeyword keyword (map word ts) → is_keyword word keyword ts ≡ false
  lacks_keyword keyword ts h = false_unless (is_keyword word keyword ts) (λ e. let b = keyword_is keyword ts e in h b.0 b.1)

  pub keyword_lacks : (keyword : List ℕ) (ts : List T) → is_keyword word keyword ts ≡ false → LacksKeyword keyword (map word ts)
  keyword_lacks keyword ts h rest b = let p = keyword_begins keyword ts rest b in absurd cc
