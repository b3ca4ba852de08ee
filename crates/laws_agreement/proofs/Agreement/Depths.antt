-- A depth at which each variable that was opened means the value that it is held with.
use Rattle.std.proofs.Common.{◌≡◌, ◌≤◌, ℕ, ◌+◌, List, [], ◌∷◌, ◌++◌, map, Bool, true, false, cond, Some, refl, subst, arith}
use Rattle.std.specs.Prelude.{Contains}
use Rattle.std.specs.List.{AllByRecursion, flat_map}
use Rattle.std.specs.Str.{bytes_eq}
use Rattle.std.proofs.lemmas.List.Elements.{Contains-append_left, Contains-append_right}
use Rattle.meaning_dialogues.specs.Evaluation.{Value}
use Rattle.meaning_rules.proofs.Worlds.Places.{contains_first, contains_later}
use Rattle.meaning_runs.specs.Told.{Answers}
use Rattle.meaning_evaluation.specs.Named.{VariableName, Definitions}
use Rattle.meaning_evaluation.specs.Scopes.{Configuration}
use Rattle.just_meaning.specs.Opening.{Held, Opened, named, held}
use Rattle.just_meaning.specs.Runs.{same_path, values_at}
use Rattle.laws_agreement.specs.Agreement.Opened.{HoldsMeaning, IsHeldMeant}
use Rattle.laws_agreement.proofs.Agreement.Lists.{all_append, all_map, all_more, of_contained, contains_map}
use Rattle.laws_agreement.proofs.Agreement.Names.{same_bytes}
use Rattle.laws_agreement.proofs.Agreement.Openings.{held_named, paths_same}

-- ---- lists

all_flat_map : {X Y : Type 0} (P : Y → Type 0) (f : X → List Y) → ((x : X) → AllByRecursion P (f x)) → (xs : List X) → AllByRecursion P (flat_map f xs)
all_flat_map P f h [] = tt
all_flat_map P f h (x ∷ xs) = all_append P (f x) (flat_map f xs) (h x) (all_flat_map P f h xs)

all_in_flat : {X Y : Type 0} (f : X → List Y) (y : Y) (xs : List X) → AllByRecursion (λ x. Contains (f x) y → Contains (flat_map f xs) y) xs
all_in_flat f y [] = tt
all_in_flat f y (x ∷ xs) = (λ c. Contains-append_left (f x) (flat_map f xs) y c, all_more _ (λ z. Contains (f z) y → Contains (f x ++ flat_map f xs) y) (λ z go c. Contains-append_right (f x) (flat_map f xs) y (go c)) xs (all_in_flat f y xs))

-- ---- what is held

-- some value is held by this name
abbrev IsHeld : List Held → List ℕ → Type 0
IsHeld hs name = (value : Value) × (held name hs ≡ Some value)

held_more : (h : Held) (hs : List Held) (name : List ℕ) → IsHeld hs name → IsHeld (h ∷ hs) name
held_more h hs name is = by_test (bytes_eq h.name name) refl
  where
    by_test : (b : Bool) → bytes_eq h.name name ≡ b → IsHeld (h ∷ hs) name
    by_test true e = (h.value, rw e refl)
    by_test false e = (is.0, rw e is.1)

all_held : (hs : List Held) → AllByRecursion (IsHeld hs) (map (λ h. h.name) hs)
all_held [] = tt
all_held (h ∷ hs) = ((h.value, rw (same_bytes h.name) refl), all_more _ (IsHeld (h ∷ hs)) (λ name is. held_more h hs name is) (map (λ x. x.name) hs) (all_held hs))

-- what is held in a module was opened there
path_of : (name : List ℕ) (path : List (List ℕ)) (os : List Opened) (value : Value) → held name (values_at path os) ≡ Some value → Contains (map (λ o. o.path) os) path
path_of name path [] value e = absurd (cc)
path_of name path (o ∷ os) value e = by_path (same_path o.path path) refl (λ g. path_of name path os value g)
  where
    by_path : (b : Bool) → same_path o.path path ≡ b → (held name (values_at path os) ≡ Some value → Contains (map (λ p. p.path) os) path) → Contains (o.path ∷ map (λ p. p.path) os) path
    by_path true t go = subst (Contains (o.path ∷ map (λ p. p.path) os)) (paths_same o.path path t) (contains_first o.path (map (λ p. p.path) os))
    by_path false t go = contains_later o.path (map (λ p. p.path) os) path (go (subst (λ b. held name (cond b o.values (values_at path os)) ≡ Some value) t e))

module _ (c : Configuration) (defined : Definitions) (f : Answers) (opened : List Opened) where
  -- from some depth on all of these mean their values
  bounded : (xs : List VariableName) → AllByRecursion (IsHeldMeant c defined f opened) xs → (deep : ℕ) × ((n : ℕ) → deep ≤ n → AllByRecursion (HoldsMeaning c defined f n opened) xs)
  bounded [] h = (0, λ n le. tt)
  bounded (x ∷ xs) h =
      let r = bounded xs h.1 in
      let m = h.0.means in
      (m.deep + r.0, λ n le. (record { value = h.0.value; holds = h.0.holds; means = m.is n (omega (arith, le)) }, r.1 n (omega (arith, le))))

  -- the names that are held in a module
  abbrev names_in : List (List ℕ) → List VariableName
  names_in path = map (named path) (map (λ h. h.name) (values_at path opened))

  -- From some depth on each variable that opens means the value that it is held with.
  pub deep_enough : (Open : VariableName → Type 0) → ((x : VariableName) → Open x → IsHeldMeant c defined f opened x) → ((path : List (List ℕ)) (name : List ℕ) (value : Value) → held name (values_at path opened) ≡ Some value → Open (named path name))
      → (deep : ℕ) × ((n : ℕ) → deep ≤ n → (x : VariableName) → Open x → HoldsMeaning c defined f n opened x)
  deep_enough Open means only =
      let paths = map (λ o. o.path) opened in
      let r = bounded (flat_map names_in paths)
      (all_flat_map (IsHeldMeant c defined f opened) names_in
      (λ path. all_map (IsHeldMeant c defined f opened) (named path) (map (λ h. h.name) (values_at path opened))
      (all_more (IsHeld (values_at path opened)) (λ name. IsHeldMeant c defined f opened (named path name)) (λ name is. means (named path name) (only path name is.0 is.1)) (map (λ h. h.name) (values_at path opened)) (all_held (values_at path opened)))) paths) in (
        r.0,
        λ n le x those.
            let h = means x those in
            of_contained (HoldsMeaning c defined f n opened) (flat_map names_in paths) x (r.1 n le)
            (of_contained (λ path. Contains (names_in path) x → Contains (flat_map names_in paths) x) paths x.path (all_in_flat names_in x paths) (path_of x.name x.path opened h.value h.holds)
            (contains_map (named x.path) (map (λ y. y.name) (values_at x.path opened)) x.name (held_named x.name (values_at x.path opened) h.value h.holds))),
      )
