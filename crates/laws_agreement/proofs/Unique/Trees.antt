-- Trees of submodules in byte order are told by their paths.
use Rattle.std.proofs.Common.{◌≡◌, refl, sym, ◌∙◌, ap, subst, ◌⊎◌, inl, inr, List, [], ◌∷◌, ◌++◌, append_assoc}
use Rattle.std.specs.Prelude.{Contains}
use Rattle.std.proofs.lemmas.List.Elements.{Contains-append_left, Contains-append_right, Contains-append_cases}
use Rattle.meaning_rules.specs.Worlds.Given.{Text}
use Rattle.meaning_rules.proofs.Worlds.Places.{contains_cases, contains_first, contains_later, contains_none}
use Rattle.meaning_evaluation.specs.Named.{Modules, no_module, a_module, paths_below, paths_of}
use Rattle.just_meaning.specs.Defining.{AreSorted, names_beside}
use Rattle.laws_agreement.proofs.Unique.Lists.{IsBefore, itself, first_same, not_later, one_way, texts_rise}

-- the names lead to a submodule of the tree
abbrev pub HasPath : Modules → List Text → Type 0
HasPath no_module names = ⊥
HasPath (a_module name inner others) names = (names ≡ name ∷ []) ⊎ (((rest : List Text) × (names ≡ name ∷ rest) × HasPath inner rest) ⊎ HasPath others names)

-- ---- the names of the paths

-- a path below another ends with names of the tree
pub path_told : (t : Modules) (path p : List Text) → Contains (paths_below path t) p → (names : List Text) × (p ≡ path ++ names) × HasPath t names
path_told no_module path p c = absurd (contains_none [] p refl c)
path_told (a_module name inner others) path p c = elim (contains_cases (path ++ name ∷ []) (paths_below (path ++ name ∷ []) inner ++ paths_below path others) p c) [
  | inl e ↦ (name ∷ [], sym e, inl refl)
  | inr d ↦ elim (Contains-append_cases (paths_below (path ++ name ∷ []) inner) (paths_below path others) p d) [
    | inl d ↦ let h = path_told inner (path ++ name ∷ []) p d in (name ∷ h.0, h.1 ∙ append_assoc path (name ∷ []) h.0, inr (inl (h.0, refl, h.2)))
    | inr d ↦ let h = path_told others path p d in (h.0, h.1, inr (inr h.2))
  ]
]

-- names of the tree end a path below each other
pub path_there : (t : Modules) (path names : List Text) → HasPath t names → Contains (paths_below path t) (path ++ names)
path_there no_module path names h = absurd h
path_there (a_module name inner others) path names h = elim h [
  | inl e ↦ subst (λ ns. Contains (paths_below path (a_module name inner others)) (path ++ ns)) (sym e) (contains_first (path ++ name ∷ []) (paths_below (path ++ name ∷ []) inner ++ paths_below path others))
  | inr h ↦ contains_later (path ++ name ∷ []) (paths_below (path ++ name ∷ []) inner ++ paths_below path others) (path ++ names) (elim h [
    | inl k ↦ Contains-append_left (paths_below (path ++ name ∷ []) inner) (paths_below path others) (path ++ names)
        (subst (Contains (paths_below (path ++ name ∷ []) inner)) (append_assoc path (name ∷ []) k.0 ∙ ap (λ ns. path ++ ns) (sym k.1)) (path_there inner (path ++ name ∷ []) k.0 k.2))
    | inr k ↦ Contains-append_right (paths_below (path ++ name ∷ []) inner) (paths_below path others) (path ++ names) (path_there others path names k)
  ])
]

-- no submodule is without a name
pub some_names : (t : Modules) → HasPath t [] → ⊥
some_names no_module h = h
some_names (a_module name inner others) h = elim h [
  | inl e ↦ absurd (cc e)
  | inr h ↦ elim h [
    | inl k ↦ let e = k.1 in absurd (cc e)
    | inr k ↦ some_names others k
  ]
]

-- names begin with one that stands beside the first
pub begins_beside : (t : Modules) (name : Text) (names : List Text) → HasPath t (name ∷ names) → Contains (names_beside t) name
begins_beside no_module name names h = absurd h
begins_beside (a_module first inner others) name names h = elim h [
  | inl e ↦ let same : name ≡ first = cc e in subst (Contains (first ∷ names_beside others)) (sym same) (contains_first first (names_beside others))
  | inr h ↦ elim h [
    | inl k ↦ let e = k.1 in let same : name ≡ first = cc e in subst (Contains (first ∷ names_beside others)) (sym same) (contains_first first (names_beside others))
    | inr k ↦ contains_later first (names_beside others) name (begins_beside others name names k)
  ]
]

-- names that lead into one tree lead into the other, where the same paths are theirs
pub paths_lead : (t t' : Modules) → ((p : List Text) → Contains (paths_of t) p → Contains (paths_of t') p) → (names : List Text) → HasPath t names → HasPath t' names
paths_lead t t' to names h = elim (contains_cases [] (paths_below [] t') names (to names (contains_later [] (paths_below [] t) names (path_there t [] names h)))) [
  | inl e ↦ absurd (some_names t (subst (HasPath t) (sym e) h))
  | inr d ↦ let k = path_told t' [] names d in subst (HasPath t') (sym k.1) k.2
]

-- ---- trees that have the same names

abbrev pub Leads : Modules → Modules → Type 0
Leads t t' = (names : List Text) → HasPath t names → HasPath t' names

-- into submodules of one name
inner_leads : (name : Text) (inner inner' others others' : Modules) → AreSorted (a_module name inner' others') → Leads (a_module name inner others) (a_module name inner' others') → Leads inner inner'
inner_leads name inner inner' others others' sorted' to names h = elim (to (name ∷ names) (inr (inl (names, refl, h)))) [
  | inl e ↦ let none : names ≡ [] = cc e in absurd (some_names inner (subst (HasPath inner) none h))
  | inr k ↦ elim k [
    | inl k ↦ let e = k.1 in let same : k.0 ≡ names = cc e in subst (HasPath inner') same k.2
    | inr k ↦ absurd (not_later (IsBefore itself) one_way name (names_beside others') (texts_rise (name ∷ names_beside others') sorted'.0) (begins_beside others' name names k))
  ]
]

-- and into those after them
others_lead : (name : Text) (inner inner' others others' : Modules) → AreSorted (a_module name inner others) → Leads (a_module name inner others) (a_module name inner' others') → Leads others others'
others_lead name inner inner' others others' sorted to names h = elim (to names (inr (inr h))) [
  | inl e ↦ absurd (apart [] e)
  | inr k ↦ elim k [
    | inl k ↦ absurd (apart k.0 k.1)
    | inr k ↦ k
  ]
]
  where
    apart : (rest : List Text) → names ≡ name ∷ rest → ⊥
    apart rest e = not_later (IsBefore itself) one_way name (names_beside others) (texts_rise (name ∷ names_beside others) sorted.0) (begins_beside others name rest (subst (HasPath others) e h))

-- Trees in byte order are the same where the same names lead into them.
pub same_trees : (t t' : Modules) → AreSorted t → AreSorted t' → Leads t t' → Leads t' t → t ≡ t'
same_trees no_module no_module sorted sorted' to from = refl
same_trees no_module (a_module name inner others) sorted sorted' to from = absurd (from (name ∷ []) (inl refl))
same_trees (a_module name inner others) no_module sorted sorted' to from = absurd (to (name ∷ []) (inl refl))
same_trees (a_module name inner others) (a_module name' inner' others') sorted sorted' to from =
    let same : name ≡ name' = first_same (IsBefore itself) one_way name name' (names_beside others) (names_beside others') (texts_rise (name ∷ names_beside others) sorted.0) (texts_rise (name' ∷ names_beside others') sorted'.0)
    (begins_beside (a_module name' inner' others') name [] (to (name ∷ []) (inl refl))) (begins_beside (a_module name inner others) name' [] (from (name' ∷ []) (inl refl))) in
    let there : AreSorted (a_module name inner' others') = subst (λ n. AreSorted (a_module n inner' others')) (sym same) sorted' in
    let onward : Leads (a_module name inner others) (a_module name inner' others') = subst (λ n. Leads (a_module name inner others) (a_module n inner' others')) (sym same) to in
    let back : Leads (a_module name inner' others') (a_module name inner others) = subst (λ n. Leads (a_module n inner' others') (a_module name inner others)) (sym same) from in
    let inside : inner ≡ inner' = same_trees inner inner' sorted.1 sorted'.1 (inner_leads name inner inner' others others' there onward) (inner_leads name inner' inner others' others sorted back) in
    let after : others ≡ others' = same_trees others others' sorted.2 sorted'.2 (others_lead name inner inner' others others' sorted onward) (others_lead name inner' inner others' others there back) in
    λ i. a_module (same i) (inside i) (after i)
