-- What is read leaves fewer tokens.
use Rattle.std.proofs.Common.{◌≡◌, ◌==◌, ℕ, zero, suc, ◌<◌, Bool, true, false, List, [], ◌∷◌, length, Ok, Option, Some, None, ap, arith, inl, inr, if◌then◌else◌}
use Rattle.std.specs.Str.{bytes_eq}
use Rattle.just_text.specs.Tokens.{Word}
use Rattle.just_text.specs.declared.token_kind.TokenKind.{TokenKind}
use Rattle.just_text.specs.declared.token_kind.TokenKind.TheVariants.{Backtick, Bang, BraceL, BraceR, BracketL, Comma, FormatStringContinue, FormatStringEnd, FormatStringStart, Identifier, ParenL, ParenR, BracketR, Slash, StringToken}
use Rattle.tree_expressions.specs.declared.string_kind.StringKind.{StringKind}
use Rattle.tree_expressions.specs.Cooking.{cooked}
use Rattle.tree_expressions.specs.Kinds.{kind_of}
use Rattle.tree_expressions.specs.Parts.{cooked_part}
use Rattle.tree_expressions.specs.Operators.{Binary}
use Rattle.tree_expressions.specs.Shape.{Shape, Shapes, Interpolations, literal, format, closed}
use Rattle.parse_expressions.specs.Words.{is_kind, if_keyword, else_keyword, assert_keyword}
use Rattle.parse_expressions.specs.Operators.{operator_of, rank, right_rank}
use Rattle.parse_expressions.specs.Literals.{Expansion, is_script, is_open}
use Rattle.parse_expressions.specs.Reading.{◌>>=◌, Stop, Read, Prefix, bang, slash, taken_if, accept, expect, is_keyword, operator_if, operator_at, prefix_if, prefix_at, command_at, literal_at, part_at, elements_at, interpolation_at, interpolations_at, format_at, braces_at, otherwise_at, choice_at, closing_at, message_at, assertion_at, call_at, named_at, bracketed_at, primary_at, operand_at, expression_at}
use Rattle.parse_expressions.proofs.Taken.{bind_ok, inspect, test, some_is, done, ok_is}

-- ---- steps

-- what ends with fewer tokens than that
pub ended : {A T : Type 0} (a : A) (rest : List T) (p : A × List T) (n : ℕ) → done {A = A × List T} {E = Stop T} (a, rest) ≡ Ok p → length rest < n → length p.1 < n
ended {A = A} {T = T} a rest p n h less = let q = ap (λ (z : A × List T). z.1) (ok_is {A = A × List T} {E = Stop T} (a, rest) p h) in rw (← q) less

module _ {T : Type 0} (word : T → Word) where
  -- ---- tokens

  pub accept_shorter : (kind : TokenKind) (ts : List T) (p : T × List T) → accept word kind ts ≡ Some p → length p.1 < length ts
  unfolding accept
  accept_shorter kind [] p e = absurd cc
  accept_shorter kind (t ∷ ts) p e =
      elim (test (is_kind (word t).kind kind)) [
        | inl h ↦ let q = ap (λ (z : T × List T). z.1) (some_is (t, ts) p (rw h at e)) in rw (← q) (omega arith)
        | inr h ↦ let q = rw h at e in absurd cc
      ]

  pub expect_shorter : (kind : TokenKind) (ts : List T) (p : T × List T) → expect word kind ts ≡ Ok p → length p.1 < length ts
  unfolding expect
  expect_shorter kind ts p e =
      elim (inspect (accept word kind ts)) [
        | inl w ↦ let q = rw w at e in absurd cc
        | inr w ↦ let less = accept_shorter kind ts w.0 w.1 in ended w.0.0 w.0.1 p (length ts) (rw w.1 at e) less
      ]

  operator_if_shorter : (k : ℕ) (t : T) (o : Option Binary) (ts : List T) (p : (T × Binary) × List T) → operator_if word k t o ts ≡ Some p → length p.1 < suc (length ts)
  operator_if_shorter k t None ts p h = absurd cc
  operator_if_shorter k t (Some operator) ts p h =
      elim (test (rank operator == k)) [
        | inl e ↦ let q = ap (λ (z : (T × Binary) × List T). z.1) (some_is ((t, operator), ts) p (rw e at h)) in rw (← q) (omega arith)
        | inr e ↦ let q = rw e at h in absurd cc
      ]

  operator_shorter : (k : ℕ) (ts : List T) (p : (T × Binary) × List T) → operator_at word k ts ≡ Some p → length p.1 < length ts
  unfolding operator_at
  operator_shorter k [] p h = absurd cc
  operator_shorter k (t ∷ ts) p h = operator_if_shorter k t (operator_of (word t).kind) ts p h

  prefix_if_shorter : (kind : TokenKind) (f : Prefix) (ts : List T) (p : (T × Prefix) × List T) → prefix_if word f (accept word kind ts) ≡ Some p → length p.1 < length ts
  prefix_if_shorter kind f ts p h =
      elim (inspect (accept word kind ts)) [
        | inl w ↦ let q = rw w at h in absurd cc
        | inr w ↦
            let less = accept_shorter kind ts w.0 w.1 in
            let q = ap (λ (z : (T × Prefix) × List T). z.1) (some_is ((w.0.0, f), w.0.1) p (rw w.1 at h)) in rw (← q) less
      ]

  prefix_shorter : (k : ℕ) (ts : List T) (p : (T × Prefix) × List T) → prefix_at word k ts ≡ Some p → length p.1 < length ts
  unfolding prefix_at
  prefix_shorter k ts p h =
      elim (test (k == 1)) [
        | inl e ↦ prefix_if_shorter Bang bang ts p (rw e at h)
        | inr e ↦ elim (test (k == 2)) [
          | inl f ↦ prefix_if_shorter Slash slash ts p (rw (e, f) at h)
          | inr f ↦ let q = rw (e, f) at h in absurd cc
        ]
      ]

  -- ---- what stands alone

  command_no_longer : (t : T) (ts : List T) (p : Shape × List T) → command_at word t ts ≡ Ok p → length p.1 < suc (length ts)
  unfolding command_at
  command_no_longer t ts p h =
      elim (test (is_script (word t).text)) [
        | inl e ↦ let q = rw e at h in absurd cc
        | inr e ↦ ended _ ts p (suc (length ts)) (rw e at h) (omega arith)
      ]

  pub part_shorter : (kind : StringKind) (ts : List T) (p : (List ℕ × Bool) × List T) → part_at word kind ts ≡ Ok p → length p.1 < length ts
  unfolding part_at
  part_shorter kind ts p h =
      elim (inspect (accept word FormatStringContinue ts)) [
        | inl w ↦
            let e = bind_ok _ _ p (rw w at h) in
            let less = expect_shorter FormatStringEnd ts e.0 e.1 in
            let s = bind_ok (taken_if word e.0.0 (cooked_part kind (word e.0.0).text)) (λ s. Ok ((s, false), e.0.1)) p e.2 in ended (s.0, false) e.0.1 p (length ts) s.2 less
        | inr w ↦
            let less = accept_shorter FormatStringContinue ts w.0 w.1 in
            let s = bind_ok (taken_if word w.0.0 (cooked_part kind (word w.0.0).text)) (λ s. Ok ((s, true), w.0.1)) p (rw w.1 at h) in ended (s.0, true) w.0.1 p (length ts) s.2 less
      ]

  closing_shorter : (ts rest : List T) → closing_at word ts ≡ Ok rest → length rest < length ts
  unfolding closing_at
  closing_shorter ts rest h =
      elim (inspect (accept word Comma ts)) [
        | inl w ↦
            let e = bind_ok _ _ rest (rw w at h) in
            let less = expect_shorter ParenR ts e.0 e.1 in
            let q = ok_is {A = List T} {E = Stop T} e.0.1 rest e.2 in rw (← q) less
        | inr w ↦
            let comma = accept_shorter Comma ts w.0 w.1 in
            let e = bind_ok _ _ rest (rw w.1 at h) in
            let less = expect_shorter ParenR w.0.1 e.0 e.1 in
            let q = ok_is {A = List T} {E = Stop T} e.0.1 rest e.2 in rw (← q) (omega (arith, less, comma))
      ]

  module _ (expansion : Expansion) where
    literal_no_longer : (t : T) (ts : List T) (p : Shape × List T) → literal_at word expansion t ts ≡ Ok p → length p.1 < suc (length ts)
    unfolding literal_at
    literal_no_longer t ts p h =
        let s = bind_ok (taken_if word t (cooked expansion (word t).text)) (λ s. Ok (literal s, ts)) p h in ended (literal s.0) ts p (suc (length ts)) s.2 (omega arith)

    -- ---- what holds expressions

    module _ (deeper : ℕ → List T → Read T Shape) (each : (k : ℕ) (ts : List T) (p : Shape × List T) → deeper k ts ≡ Ok p → length p.1 < length ts) where
      elements_shorter : (n : ℕ) (close : TokenKind) (ts : List T) (p : Shapes × List T) → elements_at word expansion deeper n close ts ≡ Ok p → length p.1 < length ts
      unfolding elements_at
      elements_shorter zero close ts p h = absurd cc
      elements_shorter (suc n) close ts p h =
          elim (inspect (accept word close ts)) [
            | inr w ↦ let less = accept_shorter close ts w.0 w.1 in ended _ w.0.1 p (length ts) (rw w.1 at h) less
            | inl w ↦
                let e = bind_ok _ _ p (rw w at h) in
                let less = each 6 ts e.0 e.1 in
                elim (inspect (accept word Comma e.0.1)) [
                  | inl v ↦
                      let c = bind_ok _ _ p (rw v at e.2) in
                      let s = expect_shorter close e.0.1 c.0 c.1 in ended _ c.0.1 p (length ts) c.2 (omega (arith, s, less))
                  | inr v ↦
                      let s = accept_shorter Comma e.0.1 v.0 v.1 in
                      let es = bind_ok _ _ p (rw v.1 at e.2) in
                      let r = elements_shorter n close v.0.1 es.0 es.1 in ended _ es.0.1 p (length ts) es.2 (omega (arith, r, s, less))
                ]
          ]

      pub interpolation_shorter : (kind : StringKind) (ts : List T) (p : ((Shape × List ℕ) × Bool) × List T) → interpolation_at word expansion deeper kind ts ≡ Ok p → length p.1 < length ts
      unfolding interpolation_at
      interpolation_shorter kind ts p h =
          let e = bind_ok _ _ p h in
          let less = each 6 ts e.0 e.1 in
          let s = bind_ok _ _ p e.2 in
          let r = part_shorter kind e.0.1 s.0 s.1 in ended _ s.0.1 p (length ts) s.2 (omega (arith, r, less))

      interpolations_shorter : (n : ℕ) (kind : StringKind) (ts : List T) (p : Interpolations × List T) → interpolations_at word expansion deeper n kind ts ≡ Ok p → length p.1 < length ts
      unfolding interpolations_at
      interpolations_shorter zero kind ts p h = absurd cc
      interpolations_shorter (suc n) kind ts p h =
          let e = bind_ok _ _ p h in
          let less = interpolation_shorter kind ts e.0 e.1 in
          elim (test e.0.0.1) [
            | inl f ↦
                let hs = bind_ok _ _ p (rw f at e.2) in
                let r = interpolations_shorter n kind e.0.1 hs.0 hs.1 in ended _ hs.0.1 p (length ts) hs.2 (omega (arith, r, less))
            | inr f ↦ ended _ e.0.1 p (length ts) (rw f at e.2) less
          ]

      -- what is read after the first part of a format string
      abbrev behind_first : List ℕ → List T → Read T Shape
      behind_first s ts = if is_open s then (interpolations_at word expansion deeper (suc (length ts)) (kind_of s) ts >>= λ hs. Ok (format s hs.0, hs.1)) else Ok (format s closed, ts)

      format_no_longer : (t : T) (ts : List T) (p : Shape × List T) → format_at word expansion deeper t ts ≡ Ok p → length p.1 < suc (length ts)
      unfolding format_at
      format_no_longer t ts p h =
          let s = bind_ok (taken_if word t (cooked_part (kind_of (word t).text) (word t).text)) (λ s. behind_first s ts) p h in
          elim (test (is_open s.0)) [
            | inl f ↦
                let hs = bind_ok _ _ p (rw f at s.2) in
                let less = interpolations_shorter (suc (length ts)) (kind_of s.0) ts hs.0 hs.1 in ended _ hs.0.1 p (suc (length ts)) hs.2 (omega (arith, less))
            | inr f ↦ ended _ ts p (suc (length ts)) (rw f at s.2) (omega arith)
          ]

      braces_shorter : (ts : List T) (p : Shape × List T) → braces_at word expansion deeper ts ≡ Ok p → length p.1 < length ts
      unfolding braces_at
      braces_shorter ts p h =
          let b = bind_ok _ _ p h in
          let e = bind_ok _ _ p b.2 in
          let d = bind_ok _ _ p e.2 in
          let i = expect_shorter BraceL ts b.0 b.1 in
          let j = each 6 b.0.1 e.0 e.1 in
          let k = expect_shorter BraceR e.0.1 d.0 d.1 in ended _ d.0.1 p (length ts) d.2 (omega (arith, i, j, k))

      otherwise_shorter : (ts : List T) (p : Shape × List T) → otherwise_at word expansion deeper ts ≡ Ok p → length p.1 < length ts
      unfolding otherwise_at
      otherwise_shorter ts p h =
          elim (test (is_keyword word if_keyword ts)) [
            | inl e ↦ each 0 ts p (rw e at h)
            | inr e ↦ braces_shorter ts p (rw e at h)
          ]

      choice_shorter : (ts : List T) (p : Shape × List T) → choice_at word expansion deeper ts ≡ Ok p → length p.1 < length ts
      unfolding choice_at
      choice_shorter ts p h =
          let c = bind_ok _ _ p h in
          let t = bind_ok _ _ p c.2 in
          let i = each 6 ts c.0 c.1 in
          let j = braces_shorter c.0.1 t.0 t.1 in
          elim (test (is_keyword word else_keyword t.0.1)) [
            | inl f ↦
                let w = bind_ok _ _ p (rw f at t.2) in
                let o = bind_ok _ _ p w.2 in
                let k = expect_shorter Identifier t.0.1 w.0 w.1 in
                let l = otherwise_shorter w.0.1 o.0 o.1 in ended _ o.0.1 p (length ts) o.2 (omega (arith, i, j, k, l))
            | inr f ↦ ended _ t.0.1 p (length ts) (rw f at t.2) (omega (arith, i, j))
          ]

      message_shorter : (ts : List T) (p : Option Shape × List T) → message_at word expansion deeper ts ≡ Ok p → length p.1 < length ts
      unfolding message_at
      message_shorter ts p h =
          elim (inspect (accept word ParenR ts)) [
            | inr w ↦ let less = accept_shorter ParenR ts w.0 w.1 in ended _ w.0.1 p (length ts) (rw w.1 at h) less
            | inl w ↦
                let m = bind_ok _ _ p (rw w at h) in
                let i = each 6 ts m.0 m.1 in
                let r = bind_ok _ _ p m.2 in
                let j = closing_shorter m.0.1 r.0 r.1 in ended _ r.0 p (length ts) r.2 (omega (arith, i, j))
          ]

      assertion_shorter : (ts : List T) (p : Shape × List T) → assertion_at word expansion deeper ts ≡ Ok p → length p.1 < length ts
      unfolding assertion_at
      assertion_shorter ts p h =
          let c = bind_ok _ _ p h in
          let i = each 6 ts c.0 c.1 in
          elim (inspect (accept word Comma c.0.1)) [
            | inl w ↦
                let e = bind_ok _ _ p (rw w at c.2) in
                let j = expect_shorter ParenR c.0.1 e.0 e.1 in ended _ e.0.1 p (length ts) e.2 (omega (arith, i, j))
            | inr w ↦
                let j = accept_shorter Comma c.0.1 w.0 w.1 in
                let m = bind_ok _ _ p (rw w.1 at c.2) in
                let k = message_shorter w.0.1 m.0 m.1 in ended _ m.0.1 p (length ts) m.2 (omega (arith, i, j, k))
          ]

      call_shorter : (name : List ℕ) (ts : List T) (p : Shape × List T) → call_at word expansion deeper name ts ≡ Ok p → length p.1 < length ts
      unfolding call_at
      call_shorter name ts p h =
          elim (test (bytes_eq name assert_keyword)) [
            | inl e ↦ assertion_shorter ts p (rw e at h)
            | inr e ↦
                let es = bind_ok _ _ p (rw e at h) in
                let less = elements_shorter (suc (length ts)) ParenR ts es.0 es.1 in ended _ es.0.1 p (length ts) es.2 less
          ]

      named_no_longer : (name : List ℕ) (ts : List T) (p : Shape × List T) → named_at word expansion deeper name ts ≡ Ok p → length p.1 < suc (length ts)
      unfolding named_at
      named_no_longer name ts p h =
          elim (test (bytes_eq name if_keyword)) [
            | inl e ↦ let less = choice_shorter ts p (rw e at h) in omega (arith, less)
            | inr e ↦ elim (inspect (accept word ParenL ts)) [
              | inl w ↦ ended _ ts p (suc (length ts)) (rw (e, w) at h) (omega arith)
              | inr w ↦
                  let i = accept_shorter ParenL ts w.0 w.1 in
                  let less = call_shorter name w.0.1 p (rw (e, w.1) at h) in omega (arith, i, less)
            ]
          ]

      bracketed_shorter : (ts : List T) (p : Shape × List T) → bracketed_at word expansion deeper ts ≡ Ok p → length p.1 < length ts
      unfolding bracketed_at
      bracketed_shorter ts p h =
          elim (inspect (accept word ParenL ts)) [
            | inl w ↦
                let b = bind_ok _ _ p (rw w at h) in
                let es = bind_ok _ _ p b.2 in
                let i = expect_shorter BracketL ts b.0 b.1 in
                let j = elements_shorter (suc (length b.0.1)) BracketR b.0.1 es.0 es.1 in ended _ es.0.1 p (length ts) es.2 (omega (arith, i, j))
            | inr w ↦
                let i = accept_shorter ParenL ts w.0 w.1 in
                let e = bind_ok _ _ p (rw w.1 at h) in
                let d = bind_ok _ _ p e.2 in
                let j = each 6 w.0.1 e.0 e.1 in
                let k = expect_shorter ParenR e.0.1 d.0 d.1 in ended _ d.0.1 p (length ts) d.2 (omega (arith, i, j, k))
          ]

      primary_shorter : (ts : List T) (p : Shape × List T) → primary_at word expansion deeper ts ≡ Ok p → length p.1 < length ts
      unfolding primary_at
      primary_shorter ts p h =
          elim (inspect (accept word StringToken ts)) [
            | inr w ↦ let i = accept_shorter StringToken ts w.0 w.1 in let less = literal_no_longer w.0.0 w.0.1 p (rw w.1 at h) in omega (arith, i, less)
            | inl w ↦ elim (inspect (accept word Backtick ts)) [
              | inr v ↦ let i = accept_shorter Backtick ts v.0 v.1 in let less = command_no_longer v.0.0 v.0.1 p (rw (w, v.1) at h) in omega (arith, i, less)
              | inl v ↦ elim (inspect (accept word FormatStringStart ts)) [
                | inr u ↦ let i = accept_shorter FormatStringStart ts u.0 u.1 in let less = format_no_longer u.0.0 u.0.1 p (rw (w, v, u.1) at h) in omega (arith, i, less)
                | inl u ↦ elim (inspect (accept word Identifier ts)) [
                  | inr z ↦ let i = accept_shorter Identifier ts z.0 z.1 in let less = named_no_longer (word z.0.0).text z.0.1 p (rw (w, v, u, z.1) at h) in omega (arith, i, less)
                  | inl z ↦ bracketed_shorter ts p (rw (w, v, u, z) at h)
                ]
              ]
            ]
          ]

      operand_shorter : (k : ℕ) (ts : List T) (p : Shape × List T) → operand_at word expansion deeper k ts ≡ Ok p → length p.1 < length ts
      unfolding operand_at
      operand_shorter zero ts p h = primary_shorter ts p h
      operand_shorter (suc j) ts p h =
          elim (inspect (prefix_at word (suc j) ts)) [
            | inr w ↦
                let i = prefix_shorter (suc j) ts w.0 w.1 in
                let e = bind_ok _ _ p (rw w.1 at h) in
                let less = each (suc j) w.0.1 e.0 e.1 in ended _ e.0.1 p (length ts) e.2 (omega (arith, i, less))
            | inl w ↦
                let l = bind_ok _ _ p (rw w at h) in
                let less = operand_shorter j ts l.0 l.1 in
                elim (inspect (operator_at word (suc j) l.0.1)) [
                  | inl v ↦ ended l.0.0 l.0.1 p (length ts) (rw v at l.2) less
                  | inr v ↦
                      let i = operator_shorter (suc j) l.0.1 v.0 v.1 in
                      let r = bind_ok _ _ p (rw v.1 at l.2) in
                      let right = each (right_rank v.0.0.1) v.0.1 r.0 r.1 in ended _ r.0.1 p (length ts) r.2 (omega (arith, less, i, right))
                ]
          ]

    pub expression_shorter : (levels k : ℕ) (ts : List T) (p : Shape × List T) → expression_at word expansion levels k ts ≡ Ok p → length p.1 < length ts
    unfolding expression_at
    expression_shorter zero k ts p h = absurd cc
    expression_shorter (suc levels) k ts p h = operand_shorter (expression_at word expansion levels) (expression_shorter levels) k ts p h
