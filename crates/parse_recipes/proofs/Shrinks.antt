-- What is read leaves fewer tokens.
use Rattle.std.proofs.Common.{◌≡◌, ℕ, zero, suc, ◌+◌, ◌<◌, ◌≤◌, Bool, List, [], ◌∷◌, length, Result, Ok, Err, Option, Some, None, refl, ap, subst, arith, inl, inr, if◌then◌else◌}
use Rattle.std.specs.Prelude.{◌&&◌, ◌||◌, nat_lt}
use Rattle.just_text.specs.Tokens.{Word}
use Rattle.just_text.specs.declared.token_kind.TokenKind.{TokenKind}
use Rattle.just_text.specs.declared.token_kind.TokenKind.TheVariants.{Asterisk, ColonColon, Dedent, Dollar, Eol, Equals, Identifier, InterpolationEnd, InterpolationStart, ParenL, ParenR, Plus as PlusMark, Text}
use Rattle.tree_items.specs.declared.recipe.ParameterKind.{ParameterKind}
use Rattle.tree_items.specs.Lines.{Piece}
use Rattle.tree_items.specs.Recipes.{is_variadic, ParameterShape, ArgumentShape, DependencyShape}
use Rattle.tree_expressions.specs.Shape.{Shape}
use Rattle.parse_expressions.specs.Literals.{Expansion}
use Rattle.parse_expressions.specs.Reading.{◌>>=◌, Stop, Read, accept, expect, is_next}
use Rattle.parse_expressions.proofs.Shorter.{accept_shorter, expect_shorter, expression_shorter, ended}
use Rattle.parse_recipes.specs.Headers.{stars}
use Rattle.parse_recipes.specs.Reading.{is_some_line, unless_none, until, while_some, names_at, path_at, kind_at, marked_at, piece_at, pieces_at, line_at, default_at, named_at, parameter_at, argument_at, arguments_at, dependency_at}
use Rattle.parse_expressions.proofs.Taken.{inspect, test, bind_ok, done, ok_is}

-- ---- steps

-- an item takes tokens, and none takes none back
abbrev pub Shrinks : {A : Type 0} → Option A → ℕ → ℕ → Type 0
Shrinks None left all = left ≤ all
Shrinks (Some x) left all = left < all

ends_with : {A T : Type 0} (a : Option A) (rest : List T) (p : Option A × List T) (n : ℕ) → done {A = Option A × List T} {E = Stop T} (a, rest) ≡ Ok p → Shrinks a (length rest) n → Shrinks p.0 (length p.1) n
ends_with {A = A} {T = T} a rest p n h s = subst (λ (z : Option A × List T). Shrinks z.0 (length z.1) n) (ok_is {A = Option A × List T} {E = Stop T} (a, rest) p h) s

module _ {T : Type 0} (word : T → Word) where
  -- ---- rows

  pub until_shorter : {A : Type 0} (item : List T → Read T A) (each : (ts : List T) (p : A × List T) → item ts ≡ Ok p → length p.1 < length ts)
      (close : TokenKind) (n : ℕ) (ts : List T) (p : List A × List T) → until word item close n ts ≡ Ok p → length p.1 < length ts
  unfolding until
  until_shorter item each close zero ts p h = absurd cc
  until_shorter item each close (suc n) ts p h =
      elim (inspect (accept word close ts)) [
        | inr w ↦ let less = accept_shorter word close ts w.0 w.1 in ended [] w.0.1 p (length ts) (rw w.1 at h) less
        | inl w ↦
            let x = bind_ok _ _ p (rw w at h) in
            let xs = bind_ok _ _ p x.2 in
            let s = each ts x.0 x.1 in
            let r = until_shorter item each close n x.0.1 xs.0 xs.1 in
            ended (x.0.0 ∷ xs.0.0) xs.0.1 p (length ts) xs.2 (omega (arith, r, s))
      ]

  row_ended : {A : Type 0} (as' : List A) (rest : List T) (p : List A × List T) (n : ℕ) → done {A = List A × List T} {E = Stop T} (as', rest) ≡ Ok p → length as' + length rest ≤ n → length p.0 + length p.1 ≤ n
  row_ended {A = A} as' rest p n h s = subst (λ (z : List A × List T). length z.0 + length z.1 ≤ n) (ok_is {A = List A × List T} {E = Stop T} (as', rest) p h) s

  next_shrinks : {A : Type 0} (o : Option A) (rest : List T) (n : ℕ) (others : Read T (List A)) (p : List A × List T) → Shrinks o (length rest) n
      → ((q : List A × List T) → others ≡ Ok q → length q.0 + length q.1 ≤ length rest)
      → unless_none word (Ok ([], rest)) o (λ y. others >>= λ ys. Ok (y ∷ ys.0, ys.1)) ≡ Ok p → length p.0 + length p.1 ≤ n
  next_shrinks None rest n others p s each e = let less : length rest ≤ n = s in row_ended [] rest p n e (omega (arith, less))
  next_shrinks (Some y) rest n others p s each e =
      let ys = bind_ok _ _ p e in
      let r = each ys.0 ys.1 in row_ended (y ∷ ys.0.0) ys.0.1 p n ys.2 (omega (arith, r, s))

  -- each item takes a token at least
  pub while_some_shrinks : {A : Type 0} (item : List T → Read T (Option A)) (each : (ts : List T) (p : Option A × List T) → item ts ≡ Ok p → Shrinks p.0 (length p.1) (length ts))
      (n : ℕ) (ts : List T) (p : List A × List T) → while_some word item n ts ≡ Ok p → length p.0 + length p.1 ≤ length ts
  unfolding while_some
  while_some_shrinks item each zero ts p h = absurd cc
  while_some_shrinks item each (suc n) ts p h =
      let x = bind_ok _ _ p h in
      next_shrinks x.0.0 x.0.1 (length ts) (while_some word item n x.0.1) p (each ts x.0 x.1) (while_some_shrinks item each n x.0.1) x.2

  -- ---- paths

  names_shorter : (n : ℕ) (ts : List T) (p : List (List ℕ) × List T) → names_at word n ts ≡ Ok p → length p.1 < length ts
  unfolding names_at
  names_shorter zero ts p h = absurd cc
  names_shorter (suc n) ts p h =
      let t = bind_ok _ _ p h in
      let i = expect_shorter word Identifier ts t.0 t.1 in
      elim (inspect (accept word ColonColon t.0.1)) [
        | inl w ↦ ended _ t.0.1 p (length ts) (rw w at t.2) i
        | inr w ↦
            let j = accept_shorter word ColonColon t.0.1 w.0 w.1 in
            let ns = bind_ok _ _ p (rw w.1 at t.2) in
            let k = names_shorter n w.0.1 ns.0 ns.1 in ended _ ns.0.1 p (length ts) ns.2 (omega (arith, i, j, k))
      ]

  path_shorter : (ts : List T) (p : List (List ℕ) × List T) → path_at word ts ≡ Ok p → length p.1 < length ts
  unfolding path_at
  path_shorter ts p h = names_shorter (suc (length ts)) ts p h

  -- ---- the marks of parameters

  pub kind_no_longer : (ts : List T) → length (kind_at word ts).1 ≤ length ts
  unfolding kind_at
  kind_no_longer ts =
      elim (inspect (accept word PlusMark ts)) [
        | inr w ↦ let less = accept_shorter word PlusMark ts w.0 w.1 in rw w.1 (omega (arith, less))
        | inl w ↦ elim (inspect (accept word Asterisk ts)) [
          | inr v ↦ let less = accept_shorter word Asterisk ts v.0 v.1 in rw (w, v.1) (omega (arith, less))
          | inl v ↦ rw (w, v) (omega arith)
        ]
      ]

  pub marked_no_longer : (kind : TokenKind) (ts : List T) → length (marked_at word kind ts).1 ≤ length ts
  unfolding marked_at
  marked_no_longer kind ts =
      elim (inspect (accept word kind ts)) [
        | inr w ↦ let less = accept_shorter word kind ts w.0 w.1 in rw w.1 (omega (arith, less))
        | inl w ↦ rw w (omega arith)
      ]

  module _ (expansion : Expansion) where
    -- ---- bodies

    pub piece_shrinks : (ts : List T) (p : Option Piece × List T) → piece_at word expansion ts ≡ Ok p → Shrinks p.0 (length p.1) (length ts)
    unfolding piece_at
    piece_shrinks ts p h =
        elim (inspect (accept word Text ts)) [
          | inr w ↦ let less = accept_shorter word Text ts w.0 w.1 in ends_with (Some _) w.0.1 p (length ts) (rw w.1 at h) less
          | inl w ↦ elim (inspect (accept word InterpolationStart ts)) [
            | inl v ↦ ends_with None ts p (length ts) (rw (w, v) at h) (omega arith)
            | inr v ↦
                let i = accept_shorter word InterpolationStart ts v.0 v.1 in
                let e = bind_ok _ _ p (rw (w, v.1) at h) in
                let j = expression_shorter word expansion 256 6 v.0.1 e.0 e.1 in
                let q = bind_ok _ _ p e.2 in
                let k = expect_shorter word InterpolationEnd e.0.1 q.0 q.1 in ends_with (Some _) q.0.1 p (length ts) q.2 (omega (arith, i, j, k))
          ]
        ]

    pub line_shorter : (ts : List T) (p : List Piece × List T) → line_at word expansion ts ≡ Ok p → length p.1 < length ts
    unfolding line_at pieces_at
    line_shorter ts p h =
        let line = bind_ok _ _ p h in
        let s = while_some_shrinks (piece_at word expansion) piece_shrinks (suc (length ts)) ts line.0 line.1 in
        by line.0.0 line.0.1 s line.2
      where
        by : (pieces : List Piece) (rest : List T) → length pieces + length rest ≤ length ts
            → (if is_some_line pieces && is_next word Dedent rest then Ok (pieces, rest) else expect word Eol rest >>= λ e. Ok (pieces, e.1)) ≡ Ok p → length p.1 < length ts
        by [] rest s e = let l = bind_ok _ _ p e in let less = expect_shorter word Eol rest l.0 l.1 in ended _ l.0.1 p (length ts) l.2 (omega (arith, s, less))
        by (x ∷ xs) rest s e =
            elim (test (is_next word Dedent rest)) [
              | inl d ↦ ended (x ∷ xs) rest p (length ts) (rw d at e) (omega (arith, s))
              | inr d ↦ let l = bind_ok _ _ p (rw d at e) in let less = expect_shorter word Eol rest l.0 l.1 in ended _ l.0.1 p (length ts) l.2 (omega (arith, s, less))
            ]

    -- ---- dependencies

    pub argument_shorter : (ts : List T) (p : ArgumentShape × List T) → argument_at word expansion ts ≡ Ok p → length p.1 < length ts
    unfolding argument_at
    argument_shorter ts p h =
        let e = bind_ok _ _ p h in
        let i = marked_no_longer Asterisk ts in
        let j = expression_shorter word expansion 256 6 (marked_at word Asterisk ts).1 e.0 e.1 in ended _ e.0.1 p (length ts) e.2 (omega (arith, i, j))

    arguments_shorter : (t : T) (ts : List T) (p : List ArgumentShape × List T) → arguments_at word expansion t ts ≡ Ok p → length p.1 < length ts
    unfolding arguments_at
    arguments_shorter t ts p h =
        let xs = bind_ok _ _ p h in
        let less = until_shorter (argument_at word expansion) argument_shorter ParenR (suc (length ts)) ts xs.0 xs.1 in
        elim (test (nat_lt 1 (stars xs.0.0))) [
          | inl e ↦ let q = rw e at xs.2 in absurd cc
          | inr e ↦ ended xs.0.0 xs.0.1 p (length ts) (rw e at xs.2) less
        ]

    pub dependency_shrinks : (ts : List T) (p : Option DependencyShape × List T) → dependency_at word expansion ts ≡ Ok p → Shrinks p.0 (length p.1) (length ts)
    unfolding dependency_at
    dependency_shrinks ts p h =
        elim (inspect (accept word ParenL ts)) [
          | inr w ↦
              let i = accept_shorter word ParenL ts w.0 w.1 in
              let path = bind_ok _ _ p (rw w.1 at h) in
              let j = path_shorter w.0.1 path.0 path.1 in
              let xs = bind_ok _ _ p path.2 in
              let k = arguments_shorter w.0.0 path.0.1 xs.0 xs.1 in ends_with (Some _) xs.0.1 p (length ts) xs.2 (omega (arith, i, j, k))
          | inl w ↦ elim (test (is_next word Identifier ts)) [
            | inr e ↦ ends_with None ts p (length ts) (rw (w, e) at h) (omega arith)
            | inl e ↦
                let path = bind_ok _ _ p (rw (w, e) at h) in
                let j = path_shorter ts path.0 path.1 in ends_with (Some _) path.0.1 p (length ts) path.2 j
          ]
        ]

    -- ---- parameters

    default_no_longer : (ts : List T) (p : Option Shape × List T) → default_at word expansion ts ≡ Ok p → length p.1 < suc (length ts)
    unfolding default_at
    default_no_longer ts p h =
        elim (inspect (accept word Equals ts)) [
          | inl w ↦ ended None ts p (suc (length ts)) (rw w at h) (omega arith)
          | inr w ↦
              let i = accept_shorter word Equals ts w.0 w.1 in
              let e = bind_ok _ _ p (rw w.1 at h) in
              let j = expression_shorter word expansion 256 0 w.0.1 e.0 e.1 in ended _ e.0.1 p (suc (length ts)) e.2 (omega (arith, i, j))
        ]

    named_shorter : (kind : ParameterKind) (export : Bool) (ts : List T) (p : (T × ParameterShape) × List T) → named_at word expansion kind export ts ≡ Ok p → length p.1 < length ts
    unfolding named_at
    named_shorter kind export ts p h =
        let t = bind_ok _ _ p h in
        let i = expect_shorter word Identifier ts t.0 t.1 in
        let d = bind_ok _ _ p t.2 in
        let j = default_no_longer t.0.1 d.0 d.1 in ended _ d.0.1 p (length ts) d.2 (omega (arith, i, j))

    pub parameter_shrinks : (ts : List T) (p : Option (T × ParameterShape) × List T) → parameter_at word expansion ts ≡ Ok p → Shrinks p.0 (length p.1) (length ts)
    unfolding parameter_at
    parameter_shrinks ts p h =
        let k = kind_at word ts in
        let d = marked_at word Dollar k.1 in
        let i = kind_no_longer ts in
        let j = marked_no_longer Dollar (kind_at word ts).1 in
        elim (test (is_variadic k.0 || d.0 || is_next word Identifier d.1)) [
          | inr e ↦ ends_with None ts p (length ts) (rw e at h) (omega arith)
          | inl e ↦
              let x = bind_ok _ _ p (rw e at h) in
              let less = named_shorter k.0 d.0 d.1 x.0 x.1 in ends_with (Some _) x.0.1 p (length ts) x.2 (omega (arith, i, j, less))
        ]
