-- The names of a function's parameters are read where they are spelled and differ, and only there.
use Rattle.std.proofs.Common.{◌≡◌, ℕ, zero, suc, ◌<◌, false, List, [], ◌∷◌, length, map, Ok, refl, arith, inl, inr, ◌⊎◌}
use Rattle.std.proofs.lemmas.List.{length-map}
use Rattle.just_text.specs.Tokens.{Word}
use Rattle.just_text.specs.declared.token_kind.TokenKind.TheVariants.{Comma, Identifier, ParenR}
use Rattle.parse_expressions.specs.Words.{Begins, Mark}
use Rattle.parse_expressions.specs.Reading.{accept, expect}
use Rattle.parse_expressions.proofs.Taken.{bind_ok, inspect, test, turned, accept_mark, expect_is, expect_mark, taken, marked, other_accept}
use Rattle.parse_recipes.specs.Headers.{AreDistinct}
use Rattle.parse_recipes.specs.Reading.{is_named}
use Rattle.parse_recipes.proofs.Distinct.{AreNew, nothing_before, one_more, more_before}
use Rattle.parse_items.specs.Items.{AreNames}
use Rattle.parse_items.specs.Reading.{names_at}
use Rattle.parse_items.proofs.Fronts.{front_length, Reads}

module _ {T : Type 0} (word : T → Word) where
  -- names that differ, also from those before
  pub record Found (before : List (List ℕ)) (ts : List T) (names : List (List ℕ)) (rest : List T) : Type 0 where
    pub are : AreNames names (map word ts) (map word rest)
    pub distinct : AreDistinct names
    pub new : AreNew before names

  one_name : (before : List (List ℕ)) (ts rest : List T) (name : List ℕ) (names : List (List ℕ)) (a : List Word) → Begins Identifier name (map word ts) a
      → ((b : List Word) × Mark Comma a b × AreNames names b (map word rest)) ⊎ ((names ≡ []) × Mark ParenR a (map word rest)) → is_named before name ≡ false → AreDistinct names → AreNew (name ∷ before) names → Found before ts (name ∷ names) rest
  one_name before ts rest name names a f behind other distinct new =
      let n = one_more before names name other new distinct in
      record { are = (a, f, behind); distinct = n.0; new = n.1 }

  names_found : (n : ℕ) (before : List (List ℕ)) (ts : List T) (y : List (List ℕ) × List T) → names_at word n before ts ≡ Ok y → Found before ts y.0 y.1
  unfolding names_at
  names_found zero before ts y h = absurd cc
  names_found (suc n) before ts y h =
      elim (inspect (accept word ParenR ts)) [
        | inr w ↦ turned (λ (z : List (List ℕ) × List T). Found before ts z.0 z.1) ([], w.0.1) y (rw w.1 at h) (record { are = accept_mark word ParenR ts w.0 w.1; distinct = tt; new = tt })
        | inl w ↦
            let t = bind_ok (expect word Identifier ts) _ y (rw w at h) in
            let f = expect_is word Identifier ts t.0 t.1 in
            elim (test (is_named before (word t.0.0).text)) [
              | inl b ↦ let q = rw b at t.2 in absurd cc
              | inr b ↦ elim (inspect (accept word Comma t.0.1)) [
                | inl v ↦
                    let p = bind_ok (expect word ParenR t.0.1) _ y (rw (b, v) at t.2) in
                    turned (λ (z : List (List ℕ) × List T). Found before ts z.0 z.1) ((word t.0.0).text ∷ [], p.0.1) y p.2
                    (one_name before ts p.0.1 (word t.0.0).text [] (map word t.0.1) f (inr (refl, expect_mark word ParenR t.0.1 p.0 p.1)) b tt tt)
                | inr v ↦
                    let more = bind_ok (names_at word n ((word t.0.0).text ∷ before) v.0.1) _ y (rw (b, v.1) at t.2) in
                    let g = names_found n ((word t.0.0).text ∷ before) v.0.1 more.0 more.1 in
                    turned (λ (z : List (List ℕ) × List T). Found before ts z.0 z.1) ((word t.0.0).text ∷ more.0.0, more.0.1) y more.2
                    (one_name before ts more.0.1 (word t.0.0).text more.0.0 (map word t.0.1) f (inl (map word v.0.1, accept_mark word Comma t.0.1 v.0 v.1, g.are)) b g.distinct g.new)
              ]
            ]
      ]

  pub parameters_found : (n : ℕ) (ts : List T) (y : List (List ℕ) × List T) → names_at word n [] ts ≡ Ok y → AreNames y.0 (map word ts) (map word y.1) × AreDistinct y.0
  parameters_found n ts y h = let f = names_found n [] ts y h in (f.are, f.distinct)

  names_again : (names : List (List ℕ)) (n : ℕ) (before : List (List ℕ)) (ts : List T) (ws : List Word) → length (map word ts) < n → AreNames names (map word ts) ws → AreDistinct names → AreNew before names → Reads word (names_at word n before ts) names ws
  unfolding names_at
  names_again names zero before ts ws fuel i distinct new = absurd (omega arith)
  names_again [] (suc n) before ts ws fuel i distinct new = let t = marked word ParenR ts ws i in record { rest = t.rest; is = rw t.accepts refl; others = t.others }
  names_again (name ∷ names) (suc n) before ts ws fuel (a, f, inl (b, m, i)) distinct new =
      let none = other_accept word ParenR Identifier ts a (name, f) refl in
      let t = taken word Identifier name ts a f in
      let c = marked word Comma t.rest b (rw t.others m) in
      let p = front_length Identifier name (map word ts) a f in
      let q = front_length Comma m.0 a b m.1 in
      let r = names_again names n (name ∷ before) c.rest ws (rw c.others (omega arith)) (rw c.others i) distinct.1 (more_before before names name distinct.0 new.1) in
      record { rest = r.rest; is = rw (none, t.expects, t.says, new.0, c.accepts, r.is) refl; others = r.others }
  names_again (name ∷ names) (suc n) before ts ws fuel (a, f, inr (alone, m)) distinct new =
      let none = other_accept word ParenR Identifier ts a (name, f) refl in
      let t = taken word Identifier name ts a f in
      let no_comma = other_accept word Comma ParenR t.rest ws (rw t.others m) refl in
      let c = marked word ParenR t.rest ws (rw t.others m) in
      record { rest = c.rest; is = rw (none, t.expects, t.says, new.0, no_comma, c.expects, alone) refl; others = c.others }

  pub parameters_again : (names : List (List ℕ)) (ts : List T) (ws : List Word) → AreNames names (map word ts) ws → AreDistinct names → Reads word (names_at word (suc (length ts)) [] ts) names ws
  parameters_again names ts ws i distinct = names_again names (suc (length ts)) [] ts ws (omega (arith, length-map ts word)) i distinct (nothing_before names)
