-- Recipes that read or call what is not there.
use Rattle.std.proofs.Common.{◌≡◌, ◌∙◌, ◌+◌, ℕ, zero, suc, List, [], ◌∷◌, Option, Some, None, Result, Ok, Err, String, inl, inr, refl, subst, sym, ap, arith}
use Rattle.std.specs.Prelude.{slice_get, Contains}
use Rattle.std.specs.BTreeMap.{BTreeMap}
use Rattle.std.specs.List.{filter_map}
use Rattle.std.specs.Option.{option_map}
use Rattle.std.proofs.lemmas.List.Elements.{Contains-append_cases}
use Rattle.std.proofs.lemmas.Option.{none-some, same_Some}
use Rattle.tree_items.specs.declared.ast.Item.{Item}
use Rattle.tree_items.specs.declared.ast.Item.TheVariants as items
use Rattle.tree_items.specs.declared.recipe.Recipe.{Recipe}
use Rattle.tree_items.specs.declared.recipe.UnresolvedDependency.{UnresolvedDependency}
use Rattle.modules_compilation.specs.Places.{item_at}
use Rattle.modules_compilation.specs.declared.compilation.Compilation.{Compilation}
use Rattle.modules_compilation.specs.declared.module_node.ModuleNode.{ModuleNode}
use Rattle.modules_compilation.specs.declared.place.Place.{Place}
use Rattle.resolve_references.specs.ItemReferences.{references_of_recipe}
use Rattle.resolve_references.specs.Places.{places_of}
use Rattle.resolve_references.specs.declared.read_fault.ReadFault.{ReadFault}
use Rattle.resolve_recipes.specs.Nodes.{Kept, all_kept, kept_at, kept_by, kept_from, recipe_at, recipe_of}
use Rattle.resolve_analysis.specs.Reads.{IsResolverOf}
use Rattle.resolve_analysis.specs.declared.module_reads.ModuleReads.{ModuleReads}
use Rattle.resolve_analysis.specs.declared.variables.ModuleVariables.{ModuleVariables}
use Rattle.meaning_rules.specs.Worlds.Given.{Overrides, World}
use Rattle.meaning_rules.proofs.Worlds.Places.{contains_at, contains_none}
use Rattle.laws_names.specs.Reading.Meant.{IsNumberedWorld}
use Rattle.laws_names.specs.Reading.Told.{KeepsItem}
use Rattle.just_resolve.specs.Faults.{reading_error}
use Rattle.just_resolve.specs.Recipes.{Resolved, resolved, resolved_at, resolved_in, resolved_with, with_reads}
use Rattle.just_resolve.specs.Rules.{IsNamed}
use Rattle.just_resolve.specs.Variables.{AreVariables}
use Rattle.just_resolve.proofs.Laws.{Laws}
use Rattle.just_resolve.proofs.Naming.{reading_named}
use Rattle.just_resolve.proofs.RefusedVariables.{lists_of_node}
use Rattle.just_resolve.proofs.Refusing.{kept_comes, one_refused}

-- ---- where recipes stand that are kept

-- the item at a place is the recipe there
recipe_there : (item : Option Item) (recipe : Recipe UnresolvedDependency) → recipe_of item ≡ Some recipe → item ≡ Some (items.Recipe recipe)
recipe_there None recipe e = absurd (none-some recipe e)
recipe_there (Some (items.Alias x)) recipe e = absurd (none-some recipe e)
recipe_there (Some (items.Assignment x)) recipe e = absurd (none-some recipe e)
recipe_there (Some (items.Comment x)) recipe e = absurd (none-some recipe e)
recipe_there (Some (items.Function x)) recipe e = absurd (none-some recipe e)
recipe_there (Some (items.Import x)) recipe e = absurd (none-some recipe e)
recipe_there (Some (items.Module x)) recipe e = absurd (none-some recipe e)
recipe_there (Some items.Newline) recipe e = absurd (none-some recipe e)
recipe_there (Some (items.Recipe x)) recipe e = ap (λ r. Some (items.Recipe r)) (same_Some x recipe e)
recipe_there (Some (items.Set x)) recipe e = absurd (none-some recipe e)
recipe_there (Some (items.Unexport x)) recipe e = absurd (none-some recipe e)

module _ (compilation : Compilation) where
  -- the module lists the place at which the recipe stands
  pub record IsListed (node : ModuleNode) (kept : Kept) : Type 0 where
    pub listed : Contains node.recipes.items kept.1
    pub there : recipe_at compilation kept.1 ≡ Some kept.2

  -- the recipe is kept by one of these modules, of which the first is at a place
  pub record IsKeptFrom (place : ℕ) (nodes : List ModuleNode) (kept : Kept) : Type 0 where
    pub k : ℕ
    pub node : ModuleNode
    pub here : slice_get nodes k ≡ Some node
    pub home : kept.0 ≡ place + k
    pub is : IsListed node kept

  -- what a module keeps stands in its list
  kept_of_node : (place : ℕ) (node : ModuleNode) (kept : Kept) → Contains (kept_by compilation place node) kept → (kept.0 ≡ place) × IsListed node kept
  kept_of_node place node kept h =
      let comes = kept_comes (kept_at compilation place) node.recipes.items kept h in
      by_recipe comes.x comes.listed (recipe_at compilation comes.x) refl comes.is
    where
      by_recipe : (item : Place) → Contains node.recipes.items item → (found : Option (Recipe UnresolvedDependency)) → recipe_at compilation item ≡ found
          → option_map (λ recipe. (place, item, recipe)) found ≡ Some kept → (kept.0 ≡ place) × IsListed node kept
      by_recipe item listed None is e = absurd (none-some kept e)
      by_recipe item listed (Some recipe) is e =
          let same = same_Some (place, item, recipe) kept e in
          subst (λ (k : Kept). (k.0 ≡ place) × IsListed node k) same (refl, record { listed = listed; there = is })

  -- what modules keep stands in the list of one of them
  kept_stands : (place : ℕ) (nodes : List ModuleNode) (kept : Kept) → Contains (kept_from compilation place nodes) kept → IsKeptFrom place nodes kept
  kept_stands place [] kept h = absurd (contains_none [] kept refl h)
  kept_stands place (node ∷ nodes) kept h = elim (Contains-append_cases (kept_by compilation place node) (kept_from compilation (suc place) nodes) kept h) [
    | inl p ↦
        let of = kept_of_node place node kept p in
        let home = of.0 in
        record { k = zero; node = node; here = refl; home = omega (arith, home); is = of.1 }
    | inr p ↦
        let more = kept_stands (suc place) nodes kept p in
        let home = more.home in
        record { k = suc more.k; node = more.node; here = more.here; home = omega (arith, home); is = more.is }
  ]

  -- a recipe that is kept stands in the module of its place
  pub record IsAtHome (kept : Kept) : Type 0 where
    pub node : ModuleNode
    pub here : slice_get compilation.modules.items kept.0 ≡ Some node
    pub is : IsListed node kept

  pub at_home : (place : ℕ) (kept : Kept) → slice_get (all_kept compilation) place ≡ Some kept → IsAtHome kept
  at_home place kept e =
      let stands = kept_stands 0 compilation.modules.items kept (contains_at (all_kept compilation) place kept e) in
      let home = stands.home in
      let same : kept.0 ≡ stands.k = omega (arith, home) in
      record { node = stands.node; here = ap (slice_get compilation.modules.items) same ∙ stands.here; is = stands.is }

-- ---- which recipe is refused

-- a recipe reads or calls what is not there
pub record IsRecipeRefused (recipes : List Kept) (reads : List ModuleReads) (fault : ReadFault) : Type 0 where
  pub place : ℕ
  pub kept : Kept
  pub here : slice_get recipes place ≡ Some kept
  pub home : ModuleReads
  pub there : slice_get reads kept.0 ≡ Some home
  pub refused : places_of home.resolver (references_of_recipe kept.2) ≡ Err fault

read_case : (ranks : List ℕ) (kept : Kept) (row : List ℕ) (r : Result (List ℕ) ReadFault) (fault : ReadFault) → with_reads ranks kept row r ≡ Err fault → r ≡ Err fault
read_case ranks kept row (Ok places) fault e = absurd (cc e)
read_case ranks kept row (Err other) fault e = let same : other ≡ fault = cc e in ap (λ f. Err f) same

module _ (recipes : List Kept) (reads : List ModuleReads) (needs : List (List ℕ)) (ranks : List ℕ) (fault : ReadFault) where
  home_case : (place : ℕ) (kept : Kept) (row : List ℕ) → slice_get recipes place ≡ Some kept → (home : Option ModuleReads) → slice_get reads kept.0 ≡ home
      → option_map (λ (h : ModuleReads). resolved h.resolver ranks kept row) home ≡ Some (Err fault) → IsRecipeRefused recipes reads fault
  home_case place kept row here None is e = absurd (none-some (Err fault) e)
  home_case place kept row here (Some home) is e = record {
    place = place;
    kept = kept;
    here = here;
    home = home;
    there = is;
    refused = read_case ranks kept row (places_of home.resolver (references_of_recipe kept.2)) fault (same_Some (resolved home.resolver ranks kept row) (Err fault) e);
  }

  row_case : (place : ℕ) (kept : Option Kept) (row : Option (List ℕ)) → slice_get recipes place ≡ kept → resolved_with reads ranks kept row ≡ Some (Err fault) → IsRecipeRefused recipes reads fault
  row_case place None row is e = absurd (none-some (Err fault) e)
  row_case place (Some kept) None is e = absurd (none-some (Err fault) e)
  row_case place (Some kept) (Some row) is e = home_case place kept row is (slice_get reads kept.0) refl e

  recipe_refused : (order : List ℕ) → resolved_in recipes reads needs ranks order ≡ Err fault → IsRecipeRefused recipes reads fault
  recipe_refused order e =
      let results = filter_map (resolved_at recipes reads needs ranks) order in
      let one = one_refused (λ (found : Result Resolved ReadFault). found) results fault e in
      let comes = kept_comes (resolved_at recipes reads needs ranks) order one.x one.listed in
      row_case comes.x (slice_get recipes comes.x) (slice_get needs comes.x) refl (comes.is ∙ ap (λ found. Some found) one.is)

-- a rule on what expressions read is broken
pub reads_named : Laws → (w : World) (compilation : Compilation) → IsNumberedWorld w compilation → (o : Overrides) {A : Type 0} (overrides : BTreeMap ℕ (String A)) (variables : ModuleVariables) → AreVariables overrides compilation variables
    → (recipes : List Kept) → recipes ≡ all_kept compilation → (needs : List (List ℕ)) (ranks order : List ℕ) (fault : ReadFault)
    → resolved_in recipes variables.reads.items needs ranks order ≡ Err fault → IsNamed w o (reading_error fault)
reads_named laws w compilation is o overrides variables are recipes kept_are needs ranks order fault e =
    let r = recipe_refused recipes variables.reads.items needs ranks fault order e in
    let home = at_home compilation r.place r.kept (ap (λ ks. slice_get ks r.place) (sym kept_are) ∙ r.here) in
    let lists = lists_of_node overrides compilation variables.lists.items are.lists r.kept.0 home.node home.here in
    let read = are.of.reads.each r.kept.0 r.home r.there lists.0 lists.1 in
    let keeps : KeepsItem compilation home.node (items.Recipe r.kept.2) = record { place = r.kept.1; kept = inr (inr (inl home.is.listed)); there = recipe_there (item_at compilation r.kept.1) r.kept.2 home.is.there } in
    reading_named w o fault
    (laws.reads w o compilation is r.kept.0 home.node home.here r.home.resolver (subst (λ k. IsResolverOf k r.home.resolver) lists.2 read.resolver) (items.Recipe r.kept.2) keeps fault
    (ap (places_of r.home.resolver) (sym (laws.recipe_references r.kept.2)) ∙ r.refused))
