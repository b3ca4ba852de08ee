-- A path is read where it is spelled, and only there.
use Rattle.std.proofs.Common.{◌≡◌, ℕ, zero, suc, ◌<◌, List, [], ◌∷◌, length, map, Ok, refl, arith, inl, inr}
use Rattle.std.proofs.lemmas.List.{length-map}
use Rattle.just_text.specs.Tokens.{Word}
use Rattle.just_text.specs.declared.token_kind.TokenKind.TheVariants.{ColonColon, Identifier}
use Rattle.parse_expressions.specs.Words.{Begins, Mark}
use Rattle.parse_expressions.specs.Reading.{accept}
use Rattle.parse_recipes.specs.Headers.{IsPath}
use Rattle.parse_recipes.specs.Reading.{names_at, path_at}
use Rattle.parse_expressions.proofs.TokensTaken.{front_shorter, mark_shorter, accept_mark, expect_begins, taken, none_taken, not_first, Reads}
use Rattle.parse_expressions.proofs.Taken.{bind_ok, inspect, turned}

-- ---- how paths begin, and that they take words

path_first : (names : List (List ℕ)) (ws rest : List Word) → IsPath names ws rest → (name : List ℕ) × (a : List Word) × Begins Identifier name ws a
path_first [] ws rest i = absurd i
path_first (name ∷ []) ws rest i = (name, rest, i.0)
path_first (name ∷ next ∷ names) ws rest i = (name, i.0, i.2)

pub path_mark : (path : List (List ℕ)) (ws rest : List Word) → IsPath path ws rest → (a : List Word) × Mark Identifier ws a
path_mark path ws rest i = let f = path_first path ws rest i in (f.1, (f.0, f.2))

names_shorter : (names : List (List ℕ)) (ws rest : List Word) → IsPath names ws rest → length rest < length ws
names_shorter [] ws rest i = absurd i
names_shorter (name ∷ []) ws rest i = let p = front_shorter Identifier name ws rest i.0 in omega arith
names_shorter (name ∷ next ∷ names) ws rest (a, b, f, m, i) =
    let p = front_shorter Identifier name ws a f in
    let q = mark_shorter ColonColon a b m in
    let r = names_shorter (next ∷ names) b rest i in omega arith

pub path_shorter : (path : List (List ℕ)) (ws rest : List Word) → IsPath path ws rest → length rest < length ws
path_shorter path ws rest i = names_shorter path ws rest i

one_more : (name : List ℕ) (names : List (List ℕ)) (ws a b rest : List Word) → Begins Identifier name ws a → Mark ColonColon a b → IsPath names b rest → IsPath (name ∷ names) ws rest
one_more name [] ws a b rest f m i = absurd i
one_more name (next ∷ names) ws a b rest f m i = (a, b, f, m, i)

module _ {T : Type 0} (word : T → Word) where
  names_found : (n : ℕ) (ts : List T) (p : List (List ℕ) × List T) → names_at word n ts ≡ Ok p → IsPath p.0 (map word ts) (map word p.1)
  unfolding names_at
  names_found zero ts p h = absurd cc
  names_found (suc n) ts p h =
      let t = bind_ok _ _ p h in
      let first = expect_begins word Identifier ts t.0 t.1 in
      elim (inspect (accept word ColonColon t.0.1)) [
        | inl w ↦ turned (λ (z : List (List ℕ) × List T). IsPath z.0 (map word ts) (map word z.1)) ((word t.0.0).text ∷ [], t.0.1) p (rw w at t.2) (first, not_first word ColonColon t.0.1 w)
        | inr w ↦
            let more = bind_ok _ _ p (rw w.1 at t.2) in
            turned (λ (z : List (List ℕ) × List T). IsPath z.0 (map word ts) (map word z.1)) ((word t.0.0).text ∷ more.0.0, more.0.1) p more.2
            (one_more (word t.0.0).text more.0.0 (map word ts) (map word t.0.1) (map word w.0.1) (map word more.0.1) first (accept_mark word ColonColon t.0.1 w.0 w.1) (names_found n w.0.1 more.0 more.1))
      ]

  pub path_found : (ts : List T) (p : List (List ℕ) × List T) → path_at word ts ≡ Ok p → IsPath p.0 (map word ts) (map word p.1)
  unfolding path_at
  path_found ts p h = names_found (suc (length ts)) ts p h

  names_again : (names : List (List ℕ)) (n : ℕ) (ts : List T) (ws : List Word) → length (map word ts) < n → IsPath names (map word ts) ws → Reads word (names_at word n ts) names ws
  unfolding names_at
  names_again names zero ts ws fuel i = absurd (omega arith)
  names_again [] (suc n) ts ws fuel i = absurd i
  names_again (name ∷ []) (suc n) ts ws fuel i =
      let t = taken word Identifier name ts ws i.0 in
      let stop = none_taken word ColonColon t.rest (rw t.others i.1) in
      record { rest = t.rest; is = rw (t.expects, stop, t.says) refl; others = t.others }
  names_again (name ∷ next ∷ names) (suc n) ts ws fuel (a, b, f, m, i) =
      let t = taken word Identifier name ts a f in
      let c = taken word ColonColon m.0 t.rest b (rw t.others m.1) in
      let p = front_shorter Identifier name (map word ts) a f in
      let q = mark_shorter ColonColon a b m in
      let r = names_again (next ∷ names) n c.rest ws (rw c.others (omega arith)) (rw c.others i) in
      record { rest = r.rest; is = rw (t.expects, c.accepts, r.is, t.says) refl; others = r.others }

  pub path_again : (path : List (List ℕ)) (ts : List T) (ws : List Word) → IsPath path (map word ts) ws → Reads word (path_at word ts) path ws
  unfolding path_at
  path_again path ts ws i =
      let r = names_again path (suc (length ts)) ts ws (omega (arith, length-map ts word)) i in
      record { rest = r.rest; is = r.is; others = r.others }
