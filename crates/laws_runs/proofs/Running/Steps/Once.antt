-- No recipe stands at two ranks.
use Rattle.std.proofs.Common.{◌≡◌, ◌≤◌, ◌∙◌, inl, inr, sym, ap, subst, refl, ℕ, zero, suc, List, [], ◌∷◌, ◌++◌, length, map, Option, Some, None, arith}
use Rattle.std.specs.Prelude.{Contains, filter_map, slice_get}
use Rattle.std.specs.List.{cons_option}
use Rattle.std.specs.Option.{option_map}
use Rattle.std.proofs.lemmas.List.Elements.{Contains-append_cases}
use Rattle.std.proofs.lemmas.Option.{none-some, same_Some, slice_get-map, slice_get_within}
use Rattle.tree_items.specs.declared.recipe.Recipe.{Recipe}
use Rattle.tree_items.specs.declared.recipe.UnresolvedDependency.{UnresolvedDependency}
use Rattle.modules_compilation.specs.declared.compilation.Compilation.{Compilation}
use Rattle.modules_compilation.specs.declared.module_node.ModuleNode.{ModuleNode}
use Rattle.modules_compilation.specs.declared.place.Place.{Place}
use Rattle.resolve_recipes.specs.Named.{text_at}
use Rattle.resolve_recipes.specs.Nodes.{Kept, all_kept, kept_at, kept_by, kept_from, recipe_at, view}
use Rattle.resolve_analysis.specs.declared.module_reads.ModuleReads.{ModuleReads}
use Rattle.resolve_analysis.specs.declared.recipes.RecipeTable.{RecipeTable}
use Rattle.resolve_analysis.specs.declared.recipes.ResolvedRecipe.{ResolvedRecipe}
use Rattle.just_resolve.specs.Recipes.{resolved_at, seen}
use Rattle.just_resolve.specs.Table.{IsTable}
use Rattle.meaning_rules.specs.Worlds.Given.{World}
use Rattle.meaning_rules.proofs.Worlds.Places.{append_cases, contains_at, contains_none, place_of}
use Rattle.laws_modules.specs.Names.Names.{HasNode, IsOfWorld}
use Rattle.laws_modules.proofs.Names.Found.{there_within}
use Rattle.laws_modules.proofs.Names.Named.{listed, recipes}
use Rattle.laws_names.proofs.Depending.Lists.{given_back}
use Rattle.laws_runs.proofs.Menus.Lists.{one_place}
use Rattle.laws_runs.proofs.Tables.Before.{all_give, is_of}
use Rattle.laws_runs.proofs.Tables.Gathered.{comes_of}
use Rattle.laws_runs.proofs.Tables.Kept.{as_many}

-- ---- lists that have nothing twice

module _ {X : Type 0} (Same : X → X → Type 0) where
  -- what is the same stands at one place
  abbrev pub AreOnce : List X → Type 0
  AreOnce xs = (i j : ℕ) (a b : X) → slice_get xs i ≡ Some a → slice_get xs j ≡ Some b → Same a b → i ≡ j

  abbrev AreApart : List X → List X → Type 0
  AreApart xs ys = (a b : X) → Contains xs a → Contains ys b → (Same a b → ⊥) × (Same b a → ⊥)

  later : (x : X) (xs : List X) → AreOnce (x ∷ xs) → AreOnce xs
  later x xs once i j a b e f same = let s : suc i ≡ suc j = once (suc i) (suc j) a b e f same in omega (arith, s)

  first_apart : (x : X) (xs ys : List X) → AreOnce (x ∷ xs) → AreApart (x ∷ xs) ys → (j : ℕ) (b : X) → slice_get (xs ++ ys) j ≡ Some b → (Same x b → ⊥) × (Same b x → ⊥)
  first_apart x xs ys once apart j b f = elim (append_cases xs ys j b f) [
    | inl p ↦ (
      (λ same. let s : zero ≡ suc j = once zero (suc j) x b refl p same in omega (arith, s)),
      (λ same. let s : suc j ≡ zero = once (suc j) zero b x p refl same in omega (arith, s)),
    )
    | inr p ↦ apart x b (contains_at (x ∷ xs) zero x refl) p.1
  ]

  rest_apart : (x : X) (xs ys : List X) → AreApart (x ∷ xs) ys → AreApart xs ys
  rest_apart x xs ys apart a b c d = let p = place_of xs a c in apart a b (contains_at (x ∷ xs) (suc p.0) a p.1) d

  -- two lists, one after the other
  append_once : (xs ys : List X) → AreOnce xs → AreOnce ys → AreApart xs ys → AreOnce (xs ++ ys)
  append_once [] ys once once' apart i j a b e f same = once' i j a b e f same
  append_once (x ∷ xs) ys once once' apart zero zero a b e f same = refl
  append_once (x ∷ xs) ys once once' apart zero (suc j) a b e f same = absurd ((first_apart x xs ys once apart j b f).0 (subst (λ y. Same y b) (sym (same_Some x a e)) same))
  append_once (x ∷ xs) ys once once' apart (suc i) zero a b e f same = absurd ((first_apart x xs ys once apart i a e).1 (subst (λ y. Same a y) (sym (same_Some x b f)) same))
  append_once (x ∷ xs) ys once once' apart (suc i) (suc j) a b e f same = ap suc (append_once xs ys (later x xs once) once' (rest_apart x xs ys apart) i j a b e f same)

-- what comes of a list that has nothing twice
module _ {X Y : Type 0} (h : X → Option Y) (key : Y → X) (of : (x : X) (y : Y) → h x ≡ Some y → key y ≡ x) where
  abbrev Alike : Y → Y → Type 0
  Alike a b = key a ≡ key b

  given_apart : (x : X) (xs : List X) → AreOnce (λ a b. a ≡ b) (x ∷ xs) → (j : ℕ) (b : Y) → slice_get (filter_map h xs) j ≡ Some b → key b ≡ x → ⊥
  given_apart x xs once j b f same =
      let g = given_back h xs b (contains_at (filter_map h xs) j b f) in
      let p = place_of xs g.0 g.1 in
      let s : zero ≡ suc p.0 = once zero (suc p.0) x g.0 refl p.1 (sym same ∙ of g.0 b g.2) in
      omega (arith, s)

  first_given : (x : X) (xs : List X) → AreOnce (λ a b. a ≡ b) (x ∷ xs) → AreOnce Alike (filter_map h xs) → (o : Option Y) → h x ≡ o → AreOnce Alike (cons_option o (filter_map h xs))
  first_given x xs once more None is i j a b e f same = more i j a b e f same
  first_given x xs once more (Some y) is zero zero a b e f same = refl
  first_given x xs once more (Some y) is zero (suc j) a b e f same = absurd (given_apart x xs once j b f (sym same ∙ ap key (sym (same_Some y a e)) ∙ of x y is))
  first_given x xs once more (Some y) is (suc i) zero a b e f same = absurd (given_apart x xs once i a e (same ∙ ap key (sym (same_Some y b f)) ∙ of x y is))
  first_given x xs once more (Some y) is (suc i) (suc j) a b e f same = ap suc (more i j a b e f same)

  given_once : (xs : List X) → AreOnce (λ a b. a ≡ b) xs → AreOnce Alike (filter_map h xs)
  given_once [] once i j a b e f same = absurd (none-some a e)
  given_once (x ∷ xs) once i j a b e f same = first_given x xs once (given_once xs (later (λ a b. a ≡ b) x xs once)) (h x) refl i j a b e f same

-- ---- recipes that are kept

-- two that stand at one place of one module
abbrev pub AreOneRecipe : Kept → Kept → Type 0
AreOneRecipe a b = (a.1 ≡ b.1) × (a.0 ≡ b.0)

module _ (compilation : Compilation) where
  kept_parts : (first : ℕ) (item : Place) (o : Option (Recipe UnresolvedDependency)) (b : Kept) → option_map (λ recipe. (first, item, recipe)) o ≡ Some b → (b.0 ≡ first) × (b.1 ≡ item)
  kept_parts first item None b e = absurd (none-some b e)
  kept_parts first item (Some recipe) b e = let same = sym (same_Some (first, item, recipe) b e) in (ap (λ (k : Kept). k.0) same, ap (λ (k : Kept). k.1) same)

  home_by : (first : ℕ) (node : ModuleNode) (b : Kept) → Contains (kept_by compilation first node) b → b.0 ≡ first
  home_by first node b c = let g = given_back (kept_at compilation first) node.recipes.items b c in (kept_parts first g.0 (recipe_at compilation g.0) b g.2).0

  home_from : (first : ℕ) (nodes : List ModuleNode) (b : Kept) → Contains (kept_from compilation first nodes) b → first ≤ b.0
  home_from first [] b c = absurd (contains_none [] b refl c)
  home_from first (node ∷ nodes) b c = elim (Contains-append_cases (kept_by compilation first node) (kept_from compilation (suc first) nodes) b c) [
    | inl p ↦ let e = home_by first node b p in omega (arith, e)
    | inr p ↦ let le = home_from (suc first) nodes b p in omega (arith, le)
  ]

  kept_once : (first : ℕ) (nodes : List ModuleNode) → ((i : ℕ) (node : ModuleNode) → slice_get nodes i ≡ Some node → AreOnce (λ a b. a ≡ b) node.recipes.items) → AreOnce AreOneRecipe (kept_from compilation first nodes)
  kept_once first [] all i j a b e f same = absurd (none-some a e)
  kept_once first (node ∷ nodes) all i j a b e f same =
      append_once AreOneRecipe (kept_by compilation first node) (kept_from compilation (suc first) nodes)
      (λ i j a b e f same. given_once (kept_at compilation first) (λ k. k.1) (λ item b e. (kept_parts first item (recipe_at compilation item) b e).1) node.recipes.items (all 0 node refl) i j a b e f same.0)
      (kept_once (suc first) nodes (λ i n e. all (suc i) n e))
      (λ a b c d.
      let here = home_by first node a c in
      let there = home_from (suc first) nodes b d in
      ((λ same. let s = same.1 in omega (arith, here, there, s)), (λ same. let s = same.1 in omega (arith, here, there, s))))
      i j a b e f same

module _ (w : World) (compilation : Compilation) (is : IsOfWorld w compilation) where
  -- a module's list has no recipe twice
  list_once : (k : ℕ) (node : ModuleNode) → HasNode w compilation k node → AreOnce (λ a b. a ≡ b) node.recipes.items
  list_once k node here i j a b e f same =
      let own = recipes w compilation is k node here in
      let many = own.are.many in
      let lt = slice_get_within node.recipes.items i a e in
      let lt' = slice_get_within node.recipes.items j b f in
      let n = there_within own.names i (omega (arith, lt, many)) in
      let m = there_within own.names j (omega (arith, lt', many)) in
      let l = listed w compilation is k node here i n.0 a n.1 e in
      let r = listed w compilation is k node here j m.0 b m.1 f in
      one_place own.names i j n.0 own.are.sorted n.1 (m.1 ∙ ap (λ t. Some t) (sym r.1 ∙ ap (text_at compilation) (sym same) ∙ l.1))

  all_once : AreOnce AreOneRecipe (all_kept compilation)
  all_once = kept_once compilation 0 compilation.modules.items (λ i node e. list_once i node e)

module _ (w : World) (compilation : Compilation) (is : IsOfWorld w compilation) (reads : List ModuleReads) (table : RecipeTable) (many : length compilation.modules.items ≤ length reads) (t : IsTable compilation reads table) where
  -- where a recipe of the table stands before they are ordered
  record IsFrom (rank : ℕ) (resolved : ResolvedRecipe) : Type 0 where
    pub x : ℕ
    pub ordered : slice_get t.is_for.sorted.order rank ≡ Some x
    pub kept : Kept
    pub here : slice_get (all_kept compilation) x ≡ Some kept
    pub home : resolved.module ≡ kept.0
    pub standing : resolved.place ≡ kept.1

  is_from : (rank : ℕ) (resolved : ResolvedRecipe) → slice_get table.recipes.items rank ≡ Some resolved → IsFrom rank resolved
  is_from rank resolved here =
      let sorted = t.is_for.sorted in
      let inside = sorted.is_in in
      let needs = sorted.needs in
      let first = map view t.nodes in
      let rows : length needs ≡ length first = as_many compilation t.is_for.resolver first needs sorted.needed in
      let a : slice_get inside.all rank ≡ Some (seen resolved) = ap (λ found. slice_get found rank) (sym inside.is_of.recipes_are) ∙ slice_get-map seen table.recipes.items rank ∙ ap (option_map seen) here in
      let comes = comes_of (resolved_at first reads needs inside.ranks) sorted.order inside.all (all_give compilation reads first needs inside.ranks sorted.order many rows t.kept sorted.ordered.within) inside.resolved rank (seen resolved) a in
      let of = is_of reads inside.ranks (slice_get first comes.x) (slice_get needs comes.x) first comes.x (seen resolved) refl comes.gives in
      record { x = comes.x; ordered = comes.here; kept = of.kept; here = ap (λ ks. slice_get ks comes.x) (sym t.kept) ∙ of.here; home = of.home; standing = of.standing }

  -- what stands at one place of one module has one rank
  pub one_rank : (rank rank' : ℕ) (resolved resolved' : ResolvedRecipe) → slice_get table.recipes.items rank ≡ Some resolved → slice_get table.recipes.items rank' ≡ Some resolved' → resolved.module ≡ resolved'.module
      → resolved.place ≡ resolved'.place → rank ≡ rank'
  one_rank rank rank' resolved resolved' e f home place =
      let a = is_from rank resolved e in
      let b = is_from rank' resolved' f in
      let same : a.x ≡ b.x = all_once w compilation is a.x b.x a.kept b.kept a.here b.here (sym a.standing ∙ place ∙ b.standing, sym a.home ∙ home ∙ b.home) in
      t.is_for.sorted.ordered.distinct rank rank' a.x a.ordered (b.ordered ∙ ap (λ n. Some n) (sym same))
