-- Expressions in brackets are read where they are spelled, and only there.
use Rattle.std.proofs.Common.{◌≡◌, ℕ, zero, suc, ◌<◌, List, [], ◌∷◌, length, map, Ok, refl, arith, inl, inr, ◌⊎◌}
use Rattle.std.proofs.lemmas.List.{length-map}
use Rattle.just_text.specs.Tokens.{Word}
use Rattle.just_text.specs.declared.token_kind.TokenKind.TheVariants.{BracketL, BracketR, ColonEquals, Comma}
use Rattle.tree_attributes.specs.Settings.{InterpreterShape}
use Rattle.tree_expressions.specs.Shape.{Shape, Shapes, end, more, shapes_from}
use Rattle.parse_expressions.specs.Words.{Mark}
use Rattle.parse_expressions.specs.Literals.{Expansion}
use Rattle.parse_expressions.specs.Laws.{Exactly}
use Rattle.parse_expressions.specs.Reading.{accept, elements_at, expression_at}
use Rattle.parse_expressions.proofs.Taken.{bind_ok, inspect, turned, accept_mark, expect_mark, marked, lacks_accept, other_accept}
use Rattle.parse_expressions.proofs.TokensTaken.{mark_shorter, Reads}
use Rattle.parse_recipes.proofs.ExpressionFronts.{never_first, shorter}
use Rattle.parse_items.specs.Settings.{AreElements}
use Rattle.parse_items.specs.SettingReading.{shapes_in, arguments_at, interpreter_at}
use Rattle.parse_items.proofs.Elements.{same_shapes}

-- up to rest there are these expressions after another, and a closing bracket
abbrev AreOthers : Expansion → List Shape → List Word → List Word → Type 0
AreOthers expansion es words rest = ((b : List Word) × Mark Comma words b × AreElements expansion es b rest) ⊎ ((es ≡ []) × Mark BracketR words rest)

-- up to rest there is `:=` and an interpreter
abbrev pub IsInterpreter : Expansion → InterpreterShape → List Word → List Word → Type 0
IsInterpreter expansion i words rest = (a b : List Word) × Mark ColonEquals words a × Mark BracketL a b × AreElements expansion (i.command ∷ i.arguments) b rest

module _ {T : Type 0} (word : T → Word) (expansion : Expansion) (expressions : Exactly word expansion 256 6) where
  -- ---- what is read

  elements_found : (n : ℕ) (ts : List T) (p : Shapes × List T) → elements_at word expansion (expression_at word expansion 256) n BracketR ts ≡ Ok p → AreElements expansion (shapes_in p.0) (map word ts) (map word p.1)
  unfolding elements_at
  elements_found zero ts p h = absurd cc
  elements_found (suc n) ts p h =
      elim (inspect (accept word BracketR ts)) [
        | inr w ↦ turned (λ (z : Shapes × List T). AreElements expansion (shapes_in z.0) (map word ts) (map word z.1)) (end, w.0.1) p (rw w.1 at h) (accept_mark word BracketR ts w.0 w.1)
        | inl w ↦
            let e = bind_ok _ _ p (rw w at h) in
            let i = expressions.found ts e.0.1 e.0.0 e.1 in
            elim (inspect (accept word Comma e.0.1)) [
              | inl v ↦
                  let q = bind_ok _ _ p (rw v at e.2) in
                  turned (λ (z : Shapes × List T). AreElements expansion (shapes_in z.0) (map word ts) (map word z.1)) (more e.0.0 end, q.0.1) p q.2 (map word e.0.1, i, inr (refl, expect_mark word BracketR e.0.1 q.0 q.1))
              | inr v ↦
                  let es = bind_ok _ _ p (rw v.1 at e.2) in
                  turned (λ (z : Shapes × List T). AreElements expansion (shapes_in z.0) (map word ts) (map word z.1)) (more e.0.0 es.0.0, es.0.1) p es.2
                  (map word e.0.1, i, inl (map word v.0.1, accept_mark word Comma e.0.1 v.0 v.1, elements_found n v.0.1 es.0 es.1))
            ]
      ]

  arguments_found : (ts : List T) (p : List Shape × List T) → arguments_at word expansion ts ≡ Ok p → AreOthers expansion p.0 (map word ts) (map word p.1)
  unfolding arguments_at
  arguments_found ts p h =
      elim (inspect (accept word Comma ts)) [
        | inl w ↦
            let q = bind_ok _ _ p (rw w at h) in
            turned (λ (z : List Shape × List T). AreOthers expansion z.0 (map word ts) (map word z.1)) ([], q.0.1) p q.2 (inr (refl, expect_mark word BracketR ts q.0 q.1))
        | inr w ↦
            let es = bind_ok _ _ p (rw w.1 at h) in
            turned (λ (z : List Shape × List T). AreOthers expansion z.0 (map word ts) (map word z.1)) (shapes_in es.0.0, es.0.1) p es.2
            (inl (map word w.0.1, accept_mark word Comma ts w.0 w.1, elements_found (suc (length w.0.1)) w.0.1 es.0 es.1))
      ]

  pub interpreter_found : (ts : List T) (p : InterpreterShape × List T) → interpreter_at word expansion ts ≡ Ok p → IsInterpreter expansion p.0 (map word ts) (map word p.1)
  unfolding interpreter_at
  interpreter_found ts p h =
      let c = bind_ok _ _ p h in
      let b = bind_ok _ _ p c.2 in
      let e = bind_ok _ _ p b.2 in
      let es = bind_ok _ _ p e.2 in
      let i = expressions.found b.0.1 e.0.1 e.0.0 e.1 in
      turned (λ (z : InterpreterShape × List T). IsInterpreter expansion z.0 (map word ts) (map word z.1)) (record { command = e.0.0; arguments = es.0.0 }, es.0.1) p es.2
      (map word c.0.1, map word b.0.1, expect_mark word ColonEquals ts c.0 c.1, expect_mark word BracketL c.0.1 b.0 b.1, (map word e.0.1, i, arguments_found e.0.1 es.0 es.1))

  -- ---- what is spelled

  elements_again : (es : List Shape) (n : ℕ) (ts : List T) (ws : List Word) → length (map word ts) < n → AreElements expansion es (map word ts) ws → Reads word (elements_at word expansion (expression_at word expansion 256) n BracketR ts) (shapes_from es) ws
  unfolding elements_at
  elements_again es zero ts ws fuel i = absurd (omega arith)
  elements_again [] (suc n) ts ws fuel m = let t = marked word BracketR ts ws m in record { rest = t.rest; is = rw t.accepts refl; others = t.others }
  elements_again (e ∷ es) (suc n) ts ws fuel (a, i, inl (b, m, j)) =
      let stop = lacks_accept word BracketR ts (never_first expansion BracketR (refl, refl, refl, refl, refl, refl, refl, refl) e (map word ts) a i.is) in
      let x = expressions.only ts a e i in
      let c = marked word Comma x.0 b (rw x.2 m) in
      let p = shorter expansion e (map word ts) a i.is in
      let q = mark_shorter Comma a b m in
      let r = elements_again es n c.rest ws (rw c.others (omega arith)) (rw c.others j) in
      record { rest = r.rest; is = rw (stop, x.1, c.accepts, r.is) refl; others = r.others }
  elements_again (e ∷ es) (suc n) ts ws fuel (a, i, inr (none, m)) =
      let stop = lacks_accept word BracketR ts (never_first expansion BracketR (refl, refl, refl, refl, refl, refl, refl, refl) e (map word ts) a i.is) in
      let x = expressions.only ts a e i in
      let t = marked word BracketR x.0 ws (rw x.2 m) in
      let no_comma = other_accept word Comma BracketR x.0 ws (rw x.2 m) refl in
      record { rest = t.rest; is = rw (stop, x.1, no_comma, t.expects, none) refl; others = t.others }

  arguments_again : (es : List Shape) (ts : List T) (ws : List Word) → AreOthers expansion es (map word ts) ws → Reads word (arguments_at word expansion ts) es ws
  unfolding arguments_at
  arguments_again es ts ws (inl (b, m, i)) =
      let c = marked word Comma ts b m in
      let r = elements_again es (suc (length c.rest)) c.rest ws (omega (arith, length-map c.rest word)) (rw c.others i) in
      record { rest = r.rest; is = rw (c.accepts, r.is, same_shapes es) refl; others = r.others }
  arguments_again es ts ws (inr (none, m)) =
      let t = marked word BracketR ts ws m in
      record { rest = t.rest; is = rw (other_accept word Comma BracketR ts ws m refl, t.expects, none) refl; others = t.others }

  pub interpreter_again : (i : InterpreterShape) (ts : List T) (ws : List Word) → IsInterpreter expansion i (map word ts) ws → Reads word (interpreter_at word expansion ts) i ws
  unfolding interpreter_at
  interpreter_again i ts ws (a, b, m, n, (d, e, others)) =
      let c = marked word ColonEquals ts a m in
      let o = marked word BracketL c.rest b (rw c.others n) in
      let x = expressions.only o.rest d i.command (rw o.others e) in
      let es = arguments_again i.arguments x.0 ws (rw x.2 others) in
      record { rest = es.rest; is = rw (c.expects, o.expects, x.1, es.is) (refl {a = Ok (i, es.rest)}); others = es.others }
