-- No dependency and no alias leads to what is no recipe, and no recipes depend on each other in a cycle.
use Rattle.std.proofs.Common.{◌≡◌, ◌∙◌, ℕ, List, [], ◌∷◌, Option, Some, None, Ok, Err, Result, inl, inr, length, map, refl, sym, ap}
use Rattle.std.specs.Prelude.{Contains}
use Rattle.std.specs.List.{filter_map, range_with_len}
use Rattle.std.specs.Option.{option_and_then, option_or}
use Rattle.std.proofs.lemmas.Option.{none-some, slice_get_within}
use Rattle.std.proofs.lemmas.Simd.{map-map}
use Rattle.just_text.specs.declared.name.Name.{Name}
use Rattle.tree_items.specs.declared.item.Alias.{Alias}
use Rattle.tree_items.specs.declared.recipe.Recipe.{Recipe}
use Rattle.tree_items.specs.declared.recipe.UnresolvedDependency.{UnresolvedDependency}
use Rattle.modules_compilation.specs.declared.compilation.Compilation.{Compilation}
use Rattle.modules_compilation.specs.declared.compilation.Target.TheVariants.{Module as module_target}
use Rattle.resolve_recipes.specs.Aliases as aliases
use Rattle.resolve_recipes.specs.Aliases.{alias_at, alias_before, rank_of}
use Rattle.resolve_recipes.specs.Counts.{count_of}
use Rattle.resolve_recipes.specs.Disabled.{first_refusal}
use Rattle.resolve_recipes.specs.Leading.{target_in}
use Rattle.resolve_recipes.specs.Nodes.{Kept, all_kept, view}
use Rattle.resolve_recipes.specs.Refusals.{Refusal}
use Rattle.resolve_recipes.specs.Resolving.{all_needs, named_by, named_in}
use Rattle.resolve_recipes.specs.Standing.{last_place}
use Rattle.resolve_recipes.specs.declared.aliases.ResolvedAlias.{ResolvedAlias}
use Rattle.resolve_recipes.specs.declared.item_places.ItemPlaces.{ItemPlaces}
use Rattle.resolve_recipes.specs.declared.recipe_node.RecipeNode.{RecipeNode}
use Rattle.resolve_recipes.specs.declared.recipe_resolver.RecipeResolver.{RecipeResolver}
use Rattle.resolve_analysis.specs.declared.module_reads.ModuleReads.{ModuleReads}
use Rattle.resolve_analysis.specs.declared.recipes.RecipeTable.{RecipeTable}
use Rattle.meaning_rules.specs.Worlds.Given.{Overrides, Text, World}
use Rattle.meaning_rules.proofs.Worlds.Places.{contains_at, contains_cases, contains_none}
use Rattle.meaning_rules.specs.Rules.{Broken, circular_recipe}
use Rattle.laws_modules.specs.Names.Targets.{KeepsAlias}
use Rattle.laws_names.specs.Depending.Dependencies.{AreOf, ListsDisabled, NoneIsBroken, priors, subsequents}
use Rattle.laws_modules.specs.Names.Meant.{IsMeant}
use Rattle.laws_names.specs.Depending.Meant.{IsResolverFor}
use Rattle.laws_names.proofs.Depending.Lists.{given_there}
use Rattle.laws_names.specs.Reading.Meant.{IsNumberedWorld}
use Rattle.just_resolve.specs.Table.{IsResolver, IsTable, all_aliases, disabled_of, disabled_refusal, module_aliases, module_refusal, recipe_refusal, refusal_at, aliases_of, first_of, lists_in}
use Rattle.just_resolve.proofs.Answered.{each_gathered, none_answers, range_there}
use Rattle.just_resolve.proofs.Laws.{Laws}

-- a world with the numbers of names is one of what recipes are meant to be
meant_by : (w : World) (compilation : Compilation) → IsNumberedWorld w compilation → IsMeant w compilation
meant_by w compilation is = record { of = is.of; single = is.single; settings = is.settings; options = is.options; above = is.above }

-- a resolver for all recipes that are kept is one for the compilation
resolver_for : (compilation : Compilation) (nodes : List RecipeNode) (resolver : RecipeResolver) → map view nodes ≡ all_kept compilation → IsResolver nodes resolver → IsResolverFor compilation resolver
resolver_for compilation nodes resolver kept is = record {
  counts = is.counts ∙ sym (map-map (λ (k : Kept). count_of k.2.parameters.items) view nodes) ∙ ap (map (λ (k : Kept). count_of k.2.parameters.items)) kept;
  places = λ item. is.places item
      ∙ ap (λ standing. last_place 0 standing item) (sym (map-map (λ (k : Kept). k.1) view nodes) ∙ ap (map (λ (k : Kept). k.1)) kept);
}

-- ---- disabled recipes

-- where neither of two answers is there, none is
neither : {X : Type 0} (a b : Option X) → option_or a b ≡ None → (a ≡ None) × (b ≡ None)
neither None b e = (refl, e)
neither (Some x) b e = absurd (none-some x (sym e))

module _ (w : World) (compilation : Compilation) (resolver : RecipeResolver) where
  -- none of the dependencies of a disabled recipe is refused
  disabled_clear : disabled_refusal compilation resolver ≡ None → (k : ℕ) (recipe : Recipe UnresolvedDependency) → ListsDisabled w compilation k recipe → (dependencies : List UnresolvedDependency) → AreOf recipe dependencies → first_refusal compilation resolver k recipe.name dependencies ≡ None
  disabled_clear none k recipe h dependencies of = by_list dependencies of
    where
      of_module : module_refusal compilation resolver k ≡ None
      of_module = none_answers (module_refusal compilation resolver) (range_with_len 0 (length compilation.modules.items)) none k (range_there (length compilation.modules.items) k (slice_get_within compilation.modules.items k h.node h.here))

      of_place : refusal_at compilation resolver k h.item ≡ None
      of_place = none_answers (refusal_at compilation resolver k) h.node.disabled.items (sym (ap (λ node. first_of (refusal_at compilation resolver k) (disabled_of node)) h.here) ∙ of_module) h.item h.listed

      of_recipe : recipe_refusal compilation resolver k recipe ≡ None
      of_recipe = sym (ap (option_and_then (recipe_refusal compilation resolver k)) h.there) ∙ of_place

      both : (first_refusal compilation resolver k recipe.name recipe.priors.items ≡ None) × (first_refusal compilation resolver k recipe.name recipe.subsequents.items ≡ None)
      both = neither (first_refusal compilation resolver k recipe.name recipe.priors.items) (first_refusal compilation resolver k recipe.name recipe.subsequents.items) of_recipe

      by_list : (dependencies : List UnresolvedDependency) → AreOf recipe dependencies → first_refusal compilation resolver k recipe.name dependencies ≡ None
      by_list _ priors = both.0
      by_list _ subsequents = both.1

-- ---- aliases

module _ (compilation : Compilation) (places : ItemPlaces) (ranks : List ℕ) (k : ℕ) where
  abbrev rank_in : Alias (List Name) → Result ℕ Refusal
  rank_in alias = rank_of ranks (named_in compilation places k alias.target) alias

  others_resolved : (one : Result ℕ Refusal) (name : Name) (others : Result (List ResolvedAlias) Refusal) (all : List ResolvedAlias) → alias_before one name others ≡ Ok all → ((rank : ℕ) × (one ≡ Ok rank)) × ((rest : List ResolvedAlias) × (others ≡ Ok rest))
  others_resolved (Ok rank) name (Ok rest) all e = ((rank, refl), (rest, refl))
  others_resolved (Ok rank) name (Err refusal) all e = absurd (cc e)
  others_resolved (Err refusal) name others all e = absurd (cc e)

  -- where aliases are resolved, each has the rank of a recipe
  each_ranked : (list : List (Alias (List Name))) (all : List ResolvedAlias) → aliases.resolved compilation places ranks k list ≡ Ok all → (alias : Alias (List Name)) → Contains list alias → (rank : ℕ) × (rank_in alias ≡ Ok rank)
  each_ranked [] all e alias h = absurd (contains_none [] alias refl h)
  each_ranked (first ∷ list) all e alias h =
      let parts = others_resolved (rank_in first) first.name (aliases.resolved compilation places ranks k list) all e in
      elim (contains_cases first list alias h) [
        | inl same ↦ (parts.0.0, ap rank_in (sym same) ∙ parts.0.1)
        | inr later ↦ each_ranked list parts.1.0 parts.1.1 alias later
      ]

module _ (w : World) (compilation : Compilation) (places : ItemPlaces) (ranks : List ℕ) where
  -- no alias leads to a module
  aliases_clear : (all : List (List ResolvedAlias)) → all_aliases compilation places ranks ≡ Ok all → (k : ℕ) (alias : Alias (List Name)) → KeepsAlias w compilation k alias → (inner : ℕ) → target_in compilation k alias.target ≡ module_target inner → ⊥
  aliases_clear all e k alias h inner is =
      let of = each_gathered (module_aliases compilation places ranks) (range_with_len 0 (length compilation.modules.items)) all e k (range_there (length compilation.modules.items) k (slice_get_within compilation.modules.items k h.node h.here)) in
      let of_node = sym (ap (λ node. aliases.resolved_at compilation places ranks k (aliases_of node)) h.here) ∙ of.1 in
      let among = given_there (alias_at compilation) h.node.aliases.items h.place alias (contains_at h.node.aliases.items h.i h.place h.listed) h.there in
      let ranked = each_ranked compilation places ranks k (filter_map (alias_at compilation) h.node.aliases.items) of.0 of_node alias among in
      let refused = sym (ap (λ target. rank_of ranks (named_by places target) alias) is) ∙ ranked.1 in
      absurd (cc refused)

-- ---- what is broken

module _ (laws : Laws) (w : World) (compilation : Compilation) (is : IsNumberedWorld w compilation) (o : Overrides) (reads : List ModuleReads) (table : RecipeTable) (t : IsTable compilation reads table) where
  abbrev resolver : RecipeResolver
  resolver = t.is_for.resolver

  abbrev needs : List (List ℕ)
  needs = t.is_for.sorted.needs

  abbrev for_all : IsResolverFor compilation resolver
  for_all = resolver_for compilation t.nodes resolver t.kept t.is_for.resolves

  needed : all_needs compilation resolver (all_kept compilation) ≡ Ok needs
  needed = ap (all_needs compilation resolver) (sym t.kept) ∙ t.is_for.sorted.needed

  -- no rule on dependencies
  pub dependencies_clear : NoneIsBroken w o
  dependencies_clear =
      let sorted = t.is_for.sorted in
      let of = sorted.is_in.is_of in
      laws.clear_dependencies w compilation resolver (meant_by w compilation is) for_all needs needed
      (disabled_clear w compilation resolver sorted.enabled)
      (aliases_clear w compilation resolver.places.now sorted.is_in.ranks (lists_in table.aliases.items) of.aliases_are)
      o

  -- nor that on cycles of recipes
  pub recipe_cycles_clear : (names : List Text) → Broken w o (circular_recipe names) → ⊥
  recipe_cycles_clear names b = laws.clear_recipe_cycles w compilation resolver (meant_by w compilation is) for_all needs needed t.is_for.sorted.acyclic o names b
