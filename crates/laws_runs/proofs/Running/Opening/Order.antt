-- Modules open in the order of their paths.
use Rattle.std.proofs.Common.{◌≡◌, ◌⊎◌, inl, inr, sym, ◌∙◌, ap, subst, List, [], ◌∷◌, ◌++◌, ℕ, zero, suc, ◌<◌, ◌≤◌, ◌+◌, Option, Some, None, refl, arith, length, map, append_assoc}
use Rattle.std.specs.Prelude.{slice_get, Contains}
use Rattle.std.specs.List.Sorted.{IsStrictlySortedBy}
use Rattle.std.proofs.lemmas.List.{append-nil, append_cancel_left, map-append}
use Rattle.std.proofs.lemmas.List.Elements.{Contains-append_cases}
use Rattle.std.proofs.lemmas.Option.{none-some, same_Some, slice_get_within}
use Rattle.modules_compilation.specs.Modulepaths.{path_in}
use Rattle.modules_compilation.specs.Tables.{text_cmp}
use Rattle.modules_compilation.specs.declared.compilation.Compilation.{Compilation}
use Rattle.modules_compilation.specs.declared.module_node.ModuleNode.{ModuleNode}
use Rattle.resolve_recipes.specs.Named.{module_text}
use Rattle.run_tasks.specs.Prepared.Order.{opening_from, submodules_of}
use Rattle.meaning_rules.specs.Worlds.Given.{Text, World}
use Rattle.meaning_rules.specs.Worlds.Compiled.{HasPath}
use Rattle.meaning_rules.proofs.Worlds.Places.{contains_at, contains_cases, contains_none, place_of}
use Rattle.laws_modules.specs.Names.Names.{AreSingle, IsOfWorld, nodes, views}
use Rattle.laws_modules.proofs.Names.Found.{mapped, mapped_at, there_within}
use Rattle.laws_modules.proofs.Names.Modules.{node_of}
use Rattle.laws_modules.proofs.Names.Named.{node_is}
use Rattle.laws_runs.proofs.Tables.Ranked.{at_most}
use Rattle.laws_runs.proofs.Menus.Lists.{one_place}
use Rattle.meaning_evaluation.specs.Named.{Modules, paths_below, paths_of}
use Rattle.laws_runs.specs.Resolved.Definitions.{all_modules, beside, modules_below, rows_of}
use Rattle.laws_runs.proofs.Resolved.Submodules.{listed, listed_path, names_are, parent_before}
use Rattle.laws_runs.proofs.Resolved.Leading.{leads_to, root_path}
use Rattle.laws_runs.proofs.Resolved.Own.{has_own_path, path_is}
use Rattle.laws_runs.proofs.Resolved.Trees.{in_all}

-- ---- lists without a repetition

abbrev pub AreOnce : List ℕ → Type 0
AreOnce [] = Unit {0}
AreOnce (x ∷ xs) = (Contains xs x → ⊥) × AreOnce xs

once_append : (xs ys : List ℕ) → AreOnce xs → AreOnce ys → ((x : ℕ) → Contains xs x → Contains ys x → ⊥) → AreOnce (xs ++ ys)
once_append [] ys a b apart = b
once_append (x ∷ xs) ys a b apart = (
  λ h. elim (Contains-append_cases xs ys x h) [
    | inl c ↦ a.0 c
    | inr c ↦ apart x (contains_at (x ∷ xs) 0 x refl) c
  ],
  once_append xs ys a.1 b (λ z c d. let p = place_of xs z c in apart z (contains_at (x ∷ xs) (suc p.0) z p.1) d),
)

-- an element stands at one place
pub one_index : (xs : List ℕ) → AreOnce xs → (i j x : ℕ) → slice_get xs i ≡ Some x → slice_get xs j ≡ Some x → i ≡ j
one_index [] once i j x e f = absurd (none-some x e)
one_index (y ∷ ys) once zero zero x e f = refl
one_index (y ∷ ys) once zero (suc j) x e f = absurd (once.0 (subst (Contains ys) (sym (same_Some y x e)) (contains_at ys j x f)))
one_index (y ∷ ys) once (suc i) zero x e f = absurd (once.0 (subst (Contains ys) (sym (same_Some y x f)) (contains_at ys i x e)))
one_index (y ∷ ys) once (suc i) (suc j) x e f = ap suc (one_index ys once.1 i j x e f)

-- ---- places beside each other

-- each with those below it
abbrev pub spread : (ℕ → List ℕ) → List ℕ → List ℕ
spread below [] = []
spread below (k ∷ ks) = k ∷ (below k ++ spread below ks)

spread_append : (below : ℕ → List ℕ) (ks ls : List ℕ) → spread below (ks ++ ls) ≡ spread below ks ++ spread below ls
spread_append below [] ls = refl
spread_append below (k ∷ ks) ls = ap (λ l. k ∷ (below k ++ l)) (spread_append below ks ls) ∙ ap (λ l. k ∷ l) (sym (append_assoc (below k) (spread below ks) (spread below ls)))

spread_same : (f g : ℕ → List ℕ) (ks : List ℕ) → ((n i : ℕ) → slice_get ks n ≡ Some i → f i ≡ g i) → spread f ks ≡ spread g ks
spread_same f g [] same = refl
spread_same f g (k ∷ ks) same = ap (λ l. k ∷ (l ++ spread f ks)) (same 0 k refl) ∙ ap (λ l. k ∷ (g k ++ l)) (spread_same f g ks (λ n. same (suc n)))

spread_cases : (below : ℕ → List ℕ) (ks : List ℕ) (j : ℕ) → Contains (spread below ks) j → (n : ℕ) × (i : ℕ) × (slice_get ks n ≡ Some i) × ((i ≡ j) ⊎ Contains (below i) j)
spread_cases below [] j h = absurd (contains_none [] j refl h)
spread_cases below (k ∷ ks) j h = elim (contains_cases k (below k ++ spread below ks) j h) [
  | inl e ↦ (0, k, refl, inl e)
  | inr r ↦ elim (Contains-append_cases (below k) (spread below ks) j r) [
    | inl s ↦ (0, k, refl, inr s)
    | inr s ↦ let b = spread_cases below ks j s in (suc b.0, b.1, b.2, b.3)
  ]
]

module _ (modules : List ModuleNode) where
  abbrev pub inner_of : ℕ → List ℕ
  inner_of k = submodules_of (slice_get modules k)

  -- those below the module at a place, so many levels deep
  abbrev pub places_below : ℕ → ℕ → List ℕ
  places_below zero k = []
  places_below (suc levels) k = spread (places_below levels) (inner_of k)

  -- where the places below each are spread from its submodules, those that wait open with all below them
  opens_spread : (below : ℕ → List ℕ) → ((k : ℕ) → below k ≡ spread below (inner_of k)) → (count : ℕ) (waiting : List ℕ) → length (spread below waiting) ≤ count → opening_from count modules waiting ≡ spread below waiting
  opens_spread below closed zero [] le = refl
  opens_spread below closed zero (k ∷ ks) le = absurd (omega (arith, le))
  opens_spread below closed (suc count) [] le = refl
  opens_spread below closed (suc count) (k ∷ ks) le =
      let same : below k ++ spread below ks ≡ spread below (inner_of k ++ ks) = ap (λ l. l ++ spread below ks) (closed k) ∙ sym (spread_append below (inner_of k) ks) in
      let long : length (below k ++ spread below ks) ≡ length (spread below (inner_of k ++ ks)) = ap length same in
      let less : suc (length (below k ++ spread below ks)) ≤ suc count = le in
      ap (λ l. k ∷ l) (opens_spread below closed count (inner_of k ++ ks) (omega (arith, less, long)) ∙ sym same)

-- ---- the places of a compilation

head_same : {A : Type 0} (a b : A) (as' bs : List A) → a ∷ as' ≡ b ∷ bs → a ≡ b
head_same a b as' bs e = same_Some a b (ap (λ l. slice_get l 0) e)

module _ (w : World) (compilation : Compilation) (is : IsOfWorld w compilation) where
  abbrev HasPathTo : ℕ → List Text → Type 0
  HasPathTo k path = HasPath w (views w compilation) (nodes w compilation) k path

  abbrev modules : List ModuleNode
  modules = compilation.modules.items

  abbrev below : ℕ → ℕ → List ℕ
  below = places_below compilation.modules.items

  abbrev name_of : ℕ → Text
  name_of k = module_text compilation.modules.items k

  -- a submodule stands behind its module
  later : (k n i : ℕ) → slice_get (inner_of compilation.modules.items k) n ≡ Some i → k < i
  later k n i at = by_node (slice_get compilation.modules.items k) refl at
    where
      by_node : (o : Option ModuleNode) → slice_get compilation.modules.items k ≡ o → slice_get (submodules_of o) n ≡ Some i → k < i
      by_node None e at = absurd (none-some i at)
      by_node (Some node) e at =
          let l = listed w compilation is k node e n i at in
          let there = node_is w compilation is i l.node l.here in
          parent_before w compilation k i there.path l.node l.here l.parent there.has_path

  -- more levels than there are modules have no more places
  stable : (levels k : ℕ) → length compilation.modules.items ≤ levels + k → below (suc levels) k ≡ below levels k
  stable zero k le = by_node (slice_get compilation.modules.items k) refl
    where
      by_node : (o : Option ModuleNode) → slice_get compilation.modules.items k ≡ o → spread (below zero) (submodules_of o) ≡ []
      by_node None e = refl
      by_node (Some node) e = let lt = slice_get_within compilation.modules.items k node e in absurd (omega (arith, lt, le))
  stable (suc levels) k le =
      spread_same (below (suc levels)) (below levels) (inner_of compilation.modules.items k) (λ n i at. let lt = later k n i at in stable levels i (omega (arith, lt, le)))

  module _ (single : AreSingle w compilation) where
    -- ---- their paths

    beside_paths : (inner : ℕ → Modules) (places : ℕ → List ℕ) (above : List Text) (ks : List ℕ)
        → ((n i : ℕ) → slice_get ks n ≡ Some i → (path_in compilation.modules.items i ≡ above ++ name_of i ∷ []) × (paths_below (above ++ name_of i ∷ []) (inner i) ≡ map (path_in compilation.modules.items) (places i)))
        → paths_below above (beside compilation inner ks) ≡ map (path_in compilation.modules.items) (spread places ks)
    beside_paths inner places above [] each = refl
    beside_paths inner places above (k ∷ ks) each =
        let here = each 0 k refl in
        ap (λ p. p ∷ (paths_below (above ++ name_of k ∷ []) (inner k) ++ paths_below above (beside compilation inner ks))) (sym here.0)
        ∙ ap (λ l. path_in compilation.modules.items k ∷ (l ++ paths_below above (beside compilation inner ks))) here.1
        ∙ ap (λ l. path_in compilation.modules.items k ∷ (map (path_in compilation.modules.items) (places k) ++ l)) (beside_paths inner places above ks (λ n. each (suc n)))
        ∙ ap (λ l. path_in compilation.modules.items k ∷ l) (sym (map-append (path_in compilation.modules.items) (places k) (spread places ks)))

    -- the paths in the tree below a place are those of the places below it
    pub paths_are : (levels k : ℕ) (above : List Text) → HasPathTo k above → paths_below above (modules_below compilation levels k) ≡ map (path_in compilation.modules.items) (below levels k)
    paths_are zero k above has = refl
    paths_are (suc levels) k above has =
        let n = node_of w compilation is k above has in
        subst (λ o. paths_below above (beside compilation (modules_below compilation levels) (rows_of (λ node. node.submodules.items) o)) ≡ map (path_in compilation.modules.items) (spread (below levels) (submodules_of o))) (sym n.1)
        (beside_paths (modules_below compilation levels) (below levels) above n.0.submodules.items (λ m i at.
        let there = listed_path w compilation is k n.0 n.1 single above has m i at in
        (path_is w compilation is i (above ++ name_of i ∷ []) there, paths_are levels i (above ++ name_of i ∷ []) there)))

    -- ---- each once

    -- a place below one of these has a path that begins with its name
    pub record StartsAt (above : List Text) (i j : ℕ) : Type 0 where
      pub rest : List Text
      pub path : path_in compilation.modules.items j ≡ above ++ name_of i ∷ rest

    pub record IsUnder (k : ℕ) (above : List Text) (j : ℕ) : Type 0 where
      pub n : ℕ
      pub i : ℕ
      pub at : slice_get (inner_of compilation.modules.items k) n ≡ Some i
      pub starts : StartsAt above i j
      pub behind : k < j
      pub within : j < length compilation.modules.items

    submodule_path : (k n i : ℕ) (above : List Text) → HasPathTo k above → slice_get (inner_of compilation.modules.items k) n ≡ Some i → HasPathTo i (above ++ name_of i ∷ [])
    submodule_path k n i above has at =
        let there = node_of w compilation is k above has in
        listed_path w compilation is k there.0 there.1 single above has n i (subst (λ o. slice_get (submodules_of o) n ≡ Some i) there.1 at)

    under : (levels k : ℕ) (above : List Text) → HasPathTo k above → (j : ℕ) → Contains (below levels k) j → IsUnder k above j
    under zero k above has j h = absurd (contains_none [] j refl h)
    under (suc levels) k above has j h =
        let c = spread_cases (below levels) (inner_of compilation.modules.items k) j h in
        let there = submodule_path k c.0 c.1 above has c.2 in
        let lt = later k c.0 c.1 c.2 in
        elim c.3 [
          | inl e ↦
              let here = node_of w compilation is c.1 (above ++ name_of c.1 ∷ []) there in
              let within = slice_get_within compilation.modules.items c.1 here.0 here.1 in
              record {
                n = c.0;
                i = c.1;
                at = c.2;
                starts = record { rest = []; path = ap (path_in compilation.modules.items) (sym e) ∙ path_is w compilation is c.1 (above ++ name_of c.1 ∷ []) there };
                behind = omega (arith, lt, e);
                within = omega (arith, within, e);
              }
          | inr s ↦
              let u = under levels c.1 (above ++ name_of c.1 ∷ []) there j s in
              let more = u.behind in
              record {
                n = c.0;
                i = c.1;
                at = c.2;
                starts = record { rest = name_of u.i ∷ u.starts.rest; path = u.starts.path ∙ append_assoc above (name_of c.1 ∷ []) (name_of u.i ∷ u.starts.rest) };
                behind = omega (arith, lt, more);
                within = u.within;
              }
        ]

    starts_apart : (above : List Text) (i i' j : ℕ) → StartsAt above i j → StartsAt above i' j → name_of i ≡ name_of i'
    starts_apart above i i' j s s' = head_same (name_of i) (name_of i') s.rest s'.rest (append_cancel_left above (name_of i ∷ s.rest) (name_of i' ∷ s'.rest) (sym s.path ∙ s'.path))

    -- what is said of one of several places beside each other
    pub record IsApart (places : ℕ → List ℕ) (above : List Text) (i : ℕ) : Type 0 where
      pub own : StartsAt above i i
      pub others : (j : ℕ) → Contains (places i) j → StartsAt above i j
      pub behind : (j : ℕ) → Contains (places i) j → i < j
      pub once : AreOnce (places i)

    in_part : (places : ℕ → List ℕ) (above : List Text) (i j : ℕ) → IsApart places above i → (i ≡ j) ⊎ Contains (places i) j → StartsAt above i j
    in_part places above i j a (inl e) = subst (StartsAt above i) e a.own
    in_part places above i j a (inr h) = a.others j h

    siblings_once : (places : ℕ → List ℕ) (above : List Text) (ks : List ℕ) → IsStrictlySortedBy text_cmp (map name_of ks) → ((n i : ℕ) → slice_get ks n ≡ Some i → IsApart places above i) → AreOnce (spread places ks)
    unfolding IsStrictlySortedBy
    siblings_once places above [] sorted each = tt
    siblings_once places above (k ∷ ks) sorted each = (
      λ h. elim (Contains-append_cases (places k) (spread places ks) k h) [
        | inl c ↦ let lt = (each 0 k refl).behind k c in omega (arith, lt)
        | inr c ↦ apart k (inl refl) c
      ],
      once_append (places k) (spread places ks) (each 0 k refl).once (siblings_once places above ks sorted.1 (λ n. each (suc n))) (λ x c d. apart x (inr c) d),
    )
      where
        apart : (x : ℕ) → (k ≡ x) ⊎ Contains (places k) x → Contains (spread places ks) x → ⊥
        apart x c d =
            let s = spread_cases places ks x d in
            let same = starts_apart above k s.1 x (in_part places above k x (each 0 k refl) c) (in_part places above s.1 x (each (suc s.0) s.1 s.2) s.3) in
            let e : 0 ≡ suc s.0 = one_place (map name_of (k ∷ ks)) 0 (suc s.0) (name_of k) sorted refl (mapped name_of ks s.0 s.1 s.2 ∙ ap (λ t. Some t) (sym same)) in
            omega (arith, e)

    inner_sorted : (k : ℕ) → IsStrictlySortedBy text_cmp (map name_of (inner_of compilation.modules.items k))
    unfolding IsStrictlySortedBy
    inner_sorted k = by_node (slice_get compilation.modules.items k) refl
      where
        by_node : (o : Option ModuleNode) → slice_get compilation.modules.items k ≡ o → IsStrictlySortedBy text_cmp (map name_of (submodules_of o))
        by_node None e = tt
        by_node (Some node) e = subst (IsStrictlySortedBy text_cmp) (names_are w compilation is k node e) (node_is w compilation is k node e).inner.sorted

    once_below : (levels k : ℕ) (above : List Text) → HasPathTo k above → AreOnce (below levels k)
    once_below zero k above has = tt
    once_below (suc levels) k above has =
        siblings_once (below levels) above (inner_of compilation.modules.items k) (inner_sorted k) (λ n i at.
        let there = submodule_path k n i above has at in
        record {
          own = record { rest = []; path = path_is w compilation is i (above ++ name_of i ∷ []) there };
          others = λ j h. let u = under levels i (above ++ name_of i ∷ []) there j h in
              record { rest = name_of u.i ∷ u.starts.rest; path = u.starts.path ∙ append_assoc above (name_of i ∷ []) (name_of u.i ∷ u.starts.rest) };
          behind = λ j h. (under levels i (above ++ name_of i ∷ []) there j h).behind;
          once = once_below levels i (above ++ name_of i ∷ []) there;
        })

    -- ---- the order in which modules open

    pub all_places : List ℕ
    all_places = 0 ∷ below (length compilation.modules.items) 0

    abbrev root_has : HasPathTo 0 []
    root_has = root_path w compilation is

    places_once : AreOnce all_places
    unfolding all_places
    places_once = (
      λ h. let lt = (under (length compilation.modules.items) 0 [] root_has 0 h).behind in omega (arith, lt),
      once_below (length compilation.modules.items) 0 [] root_has,
    )

    places_within : (j : ℕ) → Contains all_places j → j < length compilation.modules.items
    unfolding all_places
    places_within j h = elim (contains_cases 0 (below (length compilation.modules.items) 0) j h) [
      | inl e ↦ let n = node_of w compilation is 0 [] root_has in let lt = slice_get_within compilation.modules.items 0 n.0 n.1 in omega (arith, lt, e)
      | inr c ↦ (under (length compilation.modules.items) 0 [] root_has j c).within
    ]

    -- the order in which modules open, by places and by paths
    pub record IsOpeningOrder (order : List ℕ) : Type 0 where
      pub paths : map (path_in compilation.modules.items) order ≡ paths_of (all_modules compilation)
      pub once : AreOnce order
      pub within : (j : ℕ) → Contains order j → j < length compilation.modules.items
      pub all : (k : ℕ) → k < length compilation.modules.items → Contains order k

    order_is : opening_from (length compilation.modules.items) compilation.modules.items (0 ∷ []) ≡ all_places
    unfolding all_places
    order_is =
        let same : spread (below (length compilation.modules.items)) (0 ∷ []) ≡ 0 ∷ below (length compilation.modules.items) 0 = ap (λ l. 0 ∷ l) (append-nil (below (length compilation.modules.items) 0)) in
        let few = at_most all_places (length compilation.modules.items) (one_index all_places places_once) (λ i x e. places_within x (contains_at all_places i x e)) in
        let long : length (spread (below (length compilation.modules.items)) (0 ∷ [])) ≡ length (0 ∷ below (length compilation.modules.items) 0) = ap length same in
        opens_spread compilation.modules.items (below (length compilation.modules.items)) (λ k. sym (stable (length compilation.modules.items) k (omega arith))) (length compilation.modules.items) (0 ∷ []) (omega (arith, few, long))
        ∙ same

    places_paths : map (path_in compilation.modules.items) all_places ≡ paths_of (all_modules compilation)
    unfolding all_places
    places_paths =
        ap (λ p. p ∷ map (path_in compilation.modules.items) (below (length compilation.modules.items) 0)) (path_is w compilation is 0 [] root_has)
        ∙ ap (λ l. [] ∷ l) (sym (paths_are (length compilation.modules.items) 0 [] root_has))

    all_there : (order : List ℕ) → map (path_in compilation.modules.items) order ≡ paths_of (all_modules compilation) → ((j : ℕ) → Contains order j → j < length compilation.modules.items) → (k : ℕ) → k < length compilation.modules.items → Contains order k
    all_there order same within k lt =
        let t = there_within compilation.modules.items k lt in
        let has = has_own_path w compilation is k t.0 t.1 in
        let c = in_all w compilation is single (path_in compilation.modules.items k) k (leads_to w compilation is single k (path_in compilation.modules.items k) has) in
        let p = place_of (map (path_in compilation.modules.items) order) (path_in compilation.modules.items k) (subst (λ l. Contains l (path_in compilation.modules.items k)) (sym same) c) in
        let m = mapped_at (path_in compilation.modules.items) order p.0 (path_in compilation.modules.items k) p.1 in
        let j = m.0 in
        let there = there_within compilation.modules.items j (within j (contains_at order p.0 j m.1)) in
        let one = is.once j k (path_in compilation.modules.items k) (subst (HasPathTo j) m.2 (has_own_path w compilation is j there.0 there.1)) has in
        subst (Contains order) one (contains_at order p.0 j m.1)

    -- modules open in the order of their paths: each once, and all
    pub opening_order_is : (order : List ℕ) → order ≡ opening_from (length compilation.modules.items) compilation.modules.items (0 ∷ []) → IsOpeningOrder order
    opening_order_is order e = subst IsOpeningOrder (sym (e ∙ order_is)) (record {
      paths = places_paths;
      once = places_once;
      within = places_within;
      all = all_there all_places places_paths places_within;
    })
