-- The tree of modules has their paths, in byte order of names.
use Rattle.std.proofs.Common.{◌≡◌, ◌⊎◌, inl, inr, sym, ◌∙◌, ap, subst, List, [], ◌∷◌, ◌++◌, ℕ, zero, suc, ◌<◌, ◌≤◌, ◌+◌, Option, Some, None, refl, arith, length, map, append_assoc}
use Rattle.std.specs.Prelude.{slice_get, Contains}
use Rattle.std.specs.List.Sorted.{IsStrictlySortedBy}
use Rattle.std.proofs.lemmas.List.Elements.{Contains-append_cases, Contains-append_left, Contains-append_right}
use Rattle.std.proofs.lemmas.Option.{none-some, same_Some, slice_get_within}
use Rattle.std.specs.declared.cmp.Ordering.{Ordering}
use Rattle.modules_compilation.specs.Tables.{text_cmp}
use Rattle.modules_compilation.specs.declared.compilation.Compilation.{Compilation}
use Rattle.modules_compilation.specs.declared.module_node.ModuleNode.{ModuleNode}
use Rattle.resolve_recipes.specs.Named.{module_text, submodule_in}
use Rattle.meaning_rules.specs.Worlds.Given.{Text, World}
use Rattle.meaning_rules.specs.Worlds.Modules.{IsModule, root as root_module}
use Rattle.meaning_rules.specs.Worlds.Compiled.{HasPath}
use Rattle.meaning_rules.proofs.Worlds.Places.{contains_cases, contains_first, contains_later, contains_none}
use Rattle.laws_modules.specs.Names.Names.{AreSingle, HasNode, IsOfWorld, nodes, views}
use Rattle.laws_modules.proofs.Names.Modules.{module_at, node_of}
use Rattle.laws_modules.proofs.Names.Named.{node_is}
use Rattle.meaning_evaluation.specs.Named.{Modules, paths_below, paths_of}
use Rattle.just_meaning.specs.Defining.{AreSorted, names_beside}
use Rattle.laws_runs.specs.Resolved.Definitions.{all_modules, beside, modules_below, place_from, place_of, rows_of}
use Rattle.laws_runs.specs.Resolved.Modules.{TreesAreSorted, TreesHaveModules}
use Rattle.laws_runs.proofs.Resolved.Submodules.{found, listed, listed_path, names_are, parent_before}
use Rattle.laws_runs.proofs.Resolved.Leading.{first_step, leads_to, root_path}

-- ---- modules beside each other

sorted_rest : {K : Type 0} (c : K → K → Ordering) (x : K) (xs : List K) → IsStrictlySortedBy c (x ∷ xs) → IsStrictlySortedBy c xs
unfolding IsStrictlySortedBy
sorted_rest c x xs sorted = sorted.1

module _ (compilation : Compilation) where
  abbrev name_of : ℕ → Text
  name_of k = module_text compilation.modules.items k

  -- a path below one of them: its own, or one below it
  abbrev IsBelow : (ℕ → Modules) → List Text → List Text → ℕ → Type 0
  IsBelow below above path k = (path ≡ above ++ name_of k ∷ []) ⊎ Contains (paths_below (above ++ name_of k ∷ []) (below k)) path

  pub beside_cases : (below : ℕ → Modules) (ks : List ℕ) (above path : List Text) → Contains (paths_below above (beside compilation below ks)) path → (n : ℕ) × (k : ℕ) × (slice_get ks n ≡ Some k) × IsBelow below above path k
  beside_cases below [] above path h = absurd (contains_none [] path refl h)
  beside_cases below (k ∷ ks) above path h = elim (contains_cases (above ++ name_of k ∷ []) (paths_below (above ++ name_of k ∷ []) (below k) ++ paths_below above (beside compilation below ks)) path h) [
    | inl e ↦ (0, k, refl, inl (sym e))
    | inr r ↦ elim (Contains-append_cases (paths_below (above ++ name_of k ∷ []) (below k)) (paths_below above (beside compilation below ks)) path r) [
      | inl s ↦ (0, k, refl, inr s)
      | inr s ↦ let b = beside_cases below ks above path s in (suc b.0, b.1, b.2, b.3)
    ]
  ]

  pub in_beside : (below : ℕ → Modules) (ks : List ℕ) (above path : List Text) (n k : ℕ) → slice_get ks n ≡ Some k → IsBelow below above path k → Contains (paths_below above (beside compilation below ks)) path
  in_beside below [] above path n k e b = absurd (none-some k e)
  in_beside below (x ∷ ks) above path zero k e b = elim (subst (IsBelow below above path) (sym (same_Some x k e)) b) [
    | inl s ↦ subst (λ p. Contains (paths_below above (beside compilation below (x ∷ ks))) p) (sym s)
        (contains_first (above ++ name_of x ∷ []) (paths_below (above ++ name_of x ∷ []) (below x) ++ paths_below above (beside compilation below ks)))
    | inr h ↦ contains_later (above ++ name_of x ∷ []) (paths_below (above ++ name_of x ∷ []) (below x) ++ paths_below above (beside compilation below ks)) path
        (Contains-append_left (paths_below (above ++ name_of x ∷ []) (below x)) (paths_below above (beside compilation below ks)) path h)
  ]
  in_beside below (x ∷ ks) above path (suc n) k e b =
      contains_later (above ++ name_of x ∷ []) (paths_below (above ++ name_of x ∷ []) (below x) ++ paths_below above (beside compilation below ks)) path
      (Contains-append_right (paths_below (above ++ name_of x ∷ []) (below x)) (paths_below above (beside compilation below ks)) path (in_beside below ks above path n k e b))

  pub beside_names : (below : ℕ → Modules) (ks : List ℕ) → names_beside (beside compilation below ks) ≡ map name_of ks
  beside_names below [] = refl
  beside_names below (k ∷ ks) = ap (λ ns. name_of k ∷ ns) (beside_names below ks)

  pub beside_sorted : (below : ℕ → Modules) (ks : List ℕ) → IsStrictlySortedBy text_cmp (map name_of ks) → ((k : ℕ) → AreSorted (below k)) → AreSorted (beside compilation below ks)
  beside_sorted below [] sorted each = tt
  beside_sorted below (k ∷ ks) sorted each = (
    subst (λ ns. IsStrictlySortedBy text_cmp (name_of k ∷ ns)) (sym (beside_names below ks)) sorted,
    each k,
    beside_sorted below ks (sorted_rest text_cmp (name_of k) (map name_of ks) sorted) each,
  )

-- ---- modules below each other

abbrev inner_places : Option ModuleNode → List ℕ
inner_places o = rows_of (λ node. node.submodules.items) o

module _ (w : World) (compilation : Compilation) (is : IsOfWorld w compilation) where
  abbrev HasPathTo : ℕ → List Text → Type 0
  HasPathTo k path = HasPath w (views w compilation) (nodes w compilation) k path

  -- they stand in order
  pub tree_sorted : (levels k : ℕ) → AreSorted (modules_below compilation levels k)
  tree_sorted zero k = tt
  tree_sorted (suc levels) k = by_node (slice_get compilation.modules.items k) refl (tree_sorted levels)
    where
      by_node : (o : Option ModuleNode) → slice_get compilation.modules.items k ≡ o → ((inner : ℕ) → AreSorted (modules_below compilation levels inner)) → AreSorted (beside compilation (modules_below compilation levels) (inner_places o))
      by_node None e each = tt
      by_node (Some node) e each =
          beside_sorted compilation (modules_below compilation levels) node.submodules.items
          (subst (IsStrictlySortedBy text_cmp) (names_are w compilation is k node e) (node_is w compilation is k node e).inner.sorted) each

  module _ (single : AreSingle w compilation) where
    -- a path in the tree is that of a place
    pub tree_path : (levels k : ℕ) (above path : List Text) → HasPathTo k above → Contains (paths_below above (modules_below compilation levels k)) path → (j : ℕ) × HasPathTo j path
    tree_path zero k above path has h = absurd (contains_none [] path refl h)
    tree_path (suc levels) k above path has h =
        let n = node_of w compilation is k above has in
        let h' = subst (λ o. Contains (paths_below above (beside compilation (modules_below compilation levels) (inner_places o))) path) n.1 h in
        let b = beside_cases compilation (modules_below compilation levels) n.0.submodules.items above path h' in
        let there = listed_path w compilation is k n.0 n.1 single above has b.0 b.1 b.2 in
        elim b.3 [
          | inl e ↦ (b.1, subst (HasPathTo b.1) (sym e) there)
          | inr s ↦ tree_path levels b.1 (above ++ module_text compilation.modules.items b.1 ∷ []) path there s
        ]

    -- a submodule's place, its parent's and the number of modules
    pub record IsStep (k : ℕ) (node : ModuleNode) (above : List Text) (name : Text) (inner : ℕ) : Type 0 where
      pub n : ℕ
      pub at : slice_get node.submodules.items n ≡ Some inner
      pub text : module_text compilation.modules.items inner ≡ name
      pub has_path : HasPathTo inner (above ++ module_text compilation.modules.items inner ∷ [])
      pub after : k < inner
      pub within : inner < length compilation.modules.items

    step_of : (k : ℕ) (node : ModuleNode) (above : List Text) (name : Text) (inner : ℕ) → HasNode w compilation k node → HasPathTo k above → submodule_in compilation.modules.items k name ≡ Some inner → IsStep k node above name inner
    step_of k node above name inner here has e =
        let f = found w compilation is k node here name inner e in
        let l = listed w compilation is k node here f.n inner f.at in
        let p = listed_path w compilation is k node here single above has f.n inner f.at in
        record {
          n = f.n;
          at = f.at;
          text = f.text;
          has_path = p;
          after = parent_before w compilation k inner (above ++ name_of compilation inner ∷ []) l.node l.here l.parent p;
          within = slice_get_within compilation.modules.items inner l.node l.here;
        }

    -- the path of a place below is in the tree, where it is deep enough
    pub in_tree : (levels k : ℕ) (above : List Text) (name : Text) (names : List Text) (j : ℕ) → length compilation.modules.items ≤ levels + k → HasPathTo k above → place_from compilation k (name ∷ names) ≡ Some j
        → Contains (paths_below above (modules_below compilation levels k)) (above ++ name ∷ names)
    in_tree zero k above name names j le has e =
        let n = node_of w compilation is k above has in
        let s = first_step compilation k name names j e in
        let t = step_of k n.0 above name s.0 n.1 has s.1 in
        let after = t.after in
        let within = t.within in
        absurd (omega (arith, le, after, within))
    in_tree (suc levels) k above name names j le has e =
        let n = node_of w compilation is k above has in
        let s = first_step compilation k name names j e in
        let t = step_of k n.0 above name s.0 n.1 has s.1 in
        let after = t.after in
        subst (λ o. Contains (paths_below above (beside compilation (modules_below compilation levels) (inner_places o))) (above ++ name ∷ names)) (sym n.1)
        (in_beside compilation (modules_below compilation levels) n.0.submodules.items above (above ++ name ∷ names) t.n s.0 t.at
        (by_names s.0 t.text names s.2 (λ next others f. in_tree levels s.0 (above ++ name_of compilation s.0 ∷ []) next others j (omega (arith, le, after)) t.has_path f)))
      where
        by_names : (inner : ℕ) → name_of compilation inner ≡ name → (names : List Text) → place_from compilation inner names ≡ Some j
            → ((next : Text) (others : List Text) → place_from compilation inner (next ∷ others) ≡ Some j
            → Contains (paths_below (above ++ name_of compilation inner ∷ []) (modules_below compilation levels inner)) ((above ++ name_of compilation inner ∷ []) ++ next ∷ others))
            → IsBelow compilation (modules_below compilation levels) above (above ++ name ∷ names) inner
        by_names inner same [] f more = inl (ap (λ t. above ++ t ∷ []) (sym same))
        by_names inner same (next ∷ others) f more =
            inr (subst (Contains (paths_below (above ++ name_of compilation inner ∷ []) (modules_below compilation levels inner)))
            (append_assoc above (name_of compilation inner ∷ []) (next ∷ others) ∙ ap (λ t. above ++ t ∷ next ∷ others) same) (more next others f))

    -- each path that leads to a place is in the whole tree
    pub in_all : (path : List Text) (j : ℕ) → place_of compilation path ≡ Some j → Contains (paths_of (all_modules compilation)) path
    in_all [] j e = contains_first [] (paths_below [] (all_modules compilation))
    in_all (name ∷ names) j e =
        contains_later [] (paths_below [] (all_modules compilation)) (name ∷ names)
        (in_tree (length compilation.modules.items) 0 [] name names j (omega arith) (root_path w compilation is) e)

    -- and each path in it is a module's
    pub all_are : (path : List Text) → Contains (paths_of (all_modules compilation)) path → (own : Text) × IsModule w path own
    all_are path h = elim (contains_cases [] (paths_below [] (all_modules compilation)) path h) [
      | inl e ↦ subst (λ p. (own : Text) × IsModule w p own) e (w.root, root_module)
      | inr r ↦
          let t = tree_path (length compilation.modules.items) 0 [] path (root_path w compilation is) r in
          let n = node_of w compilation is t.0 path t.1 in
          (n.0.source.now, module_at w compilation is t.0 n.0 path n.1 t.1)
    ]

pub trees_have_modules : TreesHaveModules
trees_have_modules w compilation is single path = (
  all_are w compilation is single path,
  λ (m : (own : Text) × IsModule w path own). let c = is.complete path m.0 m.1 in in_all w compilation is single path c.0 (leads_to w compilation is single c.0 path c.1),
)

pub trees_are_sorted : TreesAreSorted
trees_are_sorted w compilation is single = tree_sorted w compilation is (length compilation.modules.items) 0
