-- Exported pairs by their names, and what a variable's right side is.
use Rattle.std.proofs.Common.{◌≡◌, ℕ, List, [], ◌∷◌, ◌++◌, Bool, true, false, cond, ◌||◌, Option, Some, None, ◌⊎◌, inl, inr, refl, ap, ◌∙◌}
use Rattle.std.specs.Prelude.{Contains}
use Rattle.std.specs.Str.{bytes_eq}
use Rattle.std.proofs.lemmas.Slice.Eq.{bytes_eq-Decides}
use Rattle.evaluate_context.specs.Environment.{is_among}
use Rattle.meaning_dialogues.specs.Terms.{Term}
use Rattle.meaning_dialogues.specs.Written.{term_in, unnumbered}
use Rattle.meaning_evaluation.specs.Named.{VariableRow, Definitions}
use Rattle.meaning_evaluation.specs.Scopes.{Configuration, exported_pair}
use Rattle.just_meaning.specs.Opening.{Held, named, pairs_of, is_exported, exported_from, exported_names, evaluates, side_by}
use Rattle.laws_evaluation.specs.Opening.Alike.{HaveNames}
use Rattle.meaning_rules.proofs.Worlds.Places.{contains_cases, contains_first, contains_later, contains_none}
use Rattle.laws_agreement.proofs.Determined.Held.{names_of}

module _ (c : Configuration) (defined : Definitions) (path : List (List ℕ)) where
  -- ---- exported pairs have exported names

  -- an exported name of these is among the exported of these
  among_exported : (xs : List (List ℕ)) (name : List ℕ) → is_exported defined (named path name) ≡ true → Contains xs name → is_among (exported_from defined path xs) name ≡ true
  among_exported [] name e there = absurd (contains_none [] name refl there)
  among_exported (x ∷ xs) name e there = by_place (contains_cases x xs name there) (λ g. among_exported xs name e g)
    where
      or_right : (b : Bool) → b || true ≡ true
      or_right true = refl
      or_right false = refl

      with_first : (b : Bool) → is_among (exported_from defined path xs) name ≡ true → is_among (cond b (x ∷ exported_from defined path xs) (exported_from defined path xs)) name ≡ true
      with_first true g = rw g (or_right (bytes_eq x name))
      with_first false g = g

      by_place : (x ≡ name) ⊎ Contains xs name → (Contains xs name → is_among (exported_from defined path xs) name ≡ true)
          → is_among (cond (is_exported defined (named path x)) (x ∷ exported_from defined path xs) (exported_from defined path xs)) name ≡ true
      by_place (inl same) go =
          let t : is_exported defined (named path x) ≡ true = ap (λ y. is_exported defined (named path y)) same ∙ e in
          let u : bytes_eq x name ≡ true = (bytes_eq-Decides x name).1 same in
          rw (t, u) refl
      by_place (inr later) go = with_first (is_exported defined (named path x)) (go later)

  -- exported pairs of what is held have exported names, where all that is held is listed
  pub pairs_named : (hs : List Held) → ((name : List ℕ) → Contains (names_of hs) name → Contains (defined.names path) name) → HaveNames (exported_names defined path) (pairs_of defined path hs)
  pairs_named [] listed = tt
  pairs_named (h ∷ hs) listed =
      by_test (is_exported defined (named path h.name)) refl (pairs_named hs (λ name k. listed name (contains_later h.name (names_of hs) name k)))
    where
      by_test : (b : Bool) → is_exported defined (named path h.name) ≡ b → HaveNames (exported_names defined path) (pairs_of defined path hs) → HaveNames (exported_names defined path) (exported_pair b h.name h.value ++ pairs_of defined path hs)
      by_test true e rest = (among_exported (defined.names path) h.name e (listed h.name (contains_first h.name (names_of hs))), rest)
      by_test false e rest = rest

  -- ---- what is evaluated

  pub data IsRight (name : List ℕ) (term : Term) : Type 0 where
    right : (row : VariableRow) → defined.override (named path name) ≡ None → defined.variable (named path name) ≡ Some row → term_in c.expansion row.file unnumbered row.value ≡ term → IsRight name term

  pub is_right : (name : List ℕ) (term : Term) (o : Option (List ℕ)) (p : Option VariableRow) (k : Option (List ℕ)) → defined.override (named path name) ≡ o → defined.variable (named path name) ≡ p
      → side_by c defined path o p k ≡ Some (evaluates term) → IsRight name term
  is_right name term (Some text) p k free there e = absurd (cc)
  is_right name term None (Some row) k free there e = right row free there (cc)
  is_right name term None None (Some text) free there e = absurd (cc)
  is_right name term None None None free there e = absurd (cc)
