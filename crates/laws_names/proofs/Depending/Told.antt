-- The refusals of kept recipes' dependencies and of aliases name rules that are broken.
use Rattle.std.proofs.Common.{◌≡◌, inl, sym, ◌∙◌, ap, ap₂, subst, ◌++◌, ℕ, Option, Some, None, refl}
use Rattle.std.specs.Prelude.{Contains}
use Rattle.std.specs.Str.{bytes_eq}
use Rattle.std.proofs.lemmas.List.{map-append}
use Rattle.just_text.specs.Tokens.{lexeme}
use Rattle.tree_attributes.specs.Sets.Sets.{shapes_in}
use Rattle.tree_items.specs.Files.{recipe_item}
use Rattle.tree_items.specs.Recipes.{DependencyShape, dependency_shape, recipe_shape}
use Rattle.tree_items.specs.declared.recipe.Recipe.{Recipe}
use Rattle.tree_items.specs.declared.recipe.UnresolvedDependency.{UnresolvedDependency}
use Rattle.modules_compilation.specs.declared.compilation.Compilation.{Compilation}
use Rattle.modules_compilation.specs.declared.compilation.Target.{Target}
use Rattle.modules_compilation.specs.declared.compilation.Target.TheVariants.{Recipe as RecipeTarget, Module as ModuleTarget, Nothing as NoTarget}
use Rattle.resolve_recipes.specs.Leading.{target_in}
use Rattle.resolve_recipes.specs.Named.{text_at}
use Rattle.resolve_recipes.specs.Nodes.{all_kept}
use Rattle.resolve_recipes.specs.Resolving.{named_by, recipe_or_nothing}
use Rattle.resolve_recipes.specs.Standing.{place_in}
use Rattle.resolve_recipes.specs.declared.recipe_resolver.Named.TheVariants.{Module, Nothing}
use Rattle.resolve_recipes.specs.declared.recipe_resolver.RecipeResolver.{RecipeResolver}
use Rattle.meaning_rules.specs.Worlds.Given.{Overrides, Text, World}
use Rattle.meaning_rules.specs.Worlds.Sources.{AreSaid}
use Rattle.meaning_rules.specs.Worlds.Keeping.{KeepsAt, a_recipe}
use Rattle.meaning_rules.proofs.Worlds.Places.{contains_at}
use Rattle.meaning_rules.specs.Rules.{HasDependency, IsKeptRecipe, Misses, Rule, a_count, a_module, of_kept, unknown, Broken}
use Rattle.laws_modules.proofs.Names.Aliases.{module_aliases_are_refused, other_aliases_are_unknown}
use Rattle.laws_modules.proofs.Names.Found.{found_at}
use Rattle.laws_modules.proofs.Names.Modules.{reached_are_said}
use Rattle.laws_modules.proofs.Names.Named.{node_is}
use Rattle.laws_names.specs.Depending.Dependencies.{AliasesAreTold, KeptDependenciesAreTold}
use Rattle.laws_modules.specs.Names.Meant.{IsMeant}
use Rattle.laws_names.specs.Depending.Meant.{IsResolverFor}
use Rattle.laws_names.proofs.Depending.Leading.{IsNamed, target_named}
use Rattle.laws_names.proofs.Depending.Lists.{mapped_back, mapped_contains}
use Rattle.laws_names.proofs.Depending.Needing.{all_refused, needs_refused}
use Rattle.laws_names.proofs.Depending.Outcomes.{has_place}
use Rattle.laws_names.proofs.Depending.Standing.{stands_in}

-- ---- dependencies and their shapes

pub shape_listed : (recipe : Recipe UnresolvedDependency) (d : UnresolvedDependency) → Contains (recipe.priors.items ++ recipe.subsequents.items) d
    → Contains ((recipe_shape recipe).priors ++ (recipe_shape recipe).subsequents) (dependency_shape d)
shape_listed recipe d c =
    subst (λ ds. Contains ds (dependency_shape d)) (map-append dependency_shape recipe.priors.items recipe.subsequents.items) (mapped_contains dependency_shape (recipe.priors.items ++ recipe.subsequents.items) d c)

pub listed_back : (recipe : Recipe UnresolvedDependency) (shape : DependencyShape) → Contains ((recipe_shape recipe).priors ++ (recipe_shape recipe).subsequents) shape
    → (d : UnresolvedDependency) × Contains (recipe.priors.items ++ recipe.subsequents.items) d × (dependency_shape d ≡ shape)
listed_back recipe shape c =
    mapped_back dependency_shape (recipe.priors.items ++ recipe.subsequents.items) shape (subst (λ ds. Contains ds shape) (sym (map-append dependency_shape recipe.priors.items recipe.subsequents.items)) c)

-- ---- dependencies of kept recipes

-- a rule that a kept recipe's dependency misses is broken
missed_breaks : (w : World) (own name : Text) (d : DependencyShape) (rule : Rule) → HasDependency w (IsKeptRecipe w) own name d → Misses w own d rule name → AreSaid w → (o : Overrides) → Broken w o rule
missed_breaks w own name d _ h (unknown none none') said o = record { said = λ b. said; breaks = of_kept h (unknown none none') }
missed_breaks w own name d _ h (a_module m) said o = record { said = λ b. said; breaks = inl (of_kept h (a_module m)) }
missed_breaks w own name d _ h (a_count other) said o = record { said = λ b. said; breaks = of_kept h (a_count other) }

pub kept_dependencies_are_told : KeptDependenciesAreTold
kept_dependencies_are_told w compilation resolver meant fits o refusal e =
    let a = all_refused compilation resolver (all_kept compilation) refusal e in
    let kept = a.0 in
    let s = stands_in w compilation meant kept a.1 in
    let m = needs_refused w compilation resolver meant fits kept.0 s.node s.here kept.2.name (kept.2.priors.items ++ kept.2.subsequents.items) refusal a.2 in
    let n = node_is w compilation meant.of kept.0 s.node s.here in
    let there = subst (KeepsAt w s.node.source.now a_recipe (lexeme kept.2.name.token) s.keeps.key s.keeps.at) (ap₂ recipe_item s.attributes s.shape) s.keeps.keeps in
    let has : HasDependency w (IsKeptRecipe w) s.node.source.now (lexeme kept.2.name.token) (dependency_shape m.0) = record {
      path = n.path;
      is = n.is;
      attributes = shapes_in kept.2.attributes;
      recipe = recipe_shape kept.2;
      there = record { key = s.keeps.key; place = s.keeps.at; kept = there };
      is_named = refl;
      listed = shape_listed kept.2 m.0 m.1;
    } in
    (m.2.rule, m.2.is, missed_breaks w s.node.source.now (lexeme kept.2.name.token) (dependency_shape m.0) m.2.rule has m.2.misses (reached_are_said w compilation meant.of meant.single) o)

-- ---- aliases

module _ (w : World) (compilation : Compilation) (resolver : RecipeResolver) (meant : IsMeant w compilation) (fits : IsResolverFor compilation resolver) where
  named_module : (target : Target) → named_by resolver.places.now target ≡ Module → (inner : ℕ) × (target ≡ ModuleTarget inner)
  named_module (RecipeTarget inner item) e = absurd (no_module (place_in resolver.places.now item) e)
    where
      no_module : (o : Option ℕ) → recipe_or_nothing o ≡ Module → ⊥
      no_module (Some place) e = absurd (cc e)
      no_module None e = absurd (cc e)
  named_module (ModuleTarget inner) e = (inner, refl)
  named_module NoTarget e = absurd (cc e)

  named_nothing : (target : Target) → IsNamed compilation target → named_by resolver.places.now target ≡ Nothing → target ≡ NoTarget
  named_nothing (RecipeTarget inner item) n e =
      let f = found_at (λ p. bytes_eq (text_at compilation p) n.name) n.node.recipes.items item n.found in
      let p = has_place w compilation resolver meant fits inner n.node n.here item (contains_at n.node.recipes.items f.0 item f.1) in
      let g = sym (ap recipe_or_nothing p.1.last) ∙ e in
      absurd (cc g)
  named_nothing (ModuleTarget inner) n e = absurd (cc e)
  named_nothing NoTarget n e = refl

pub aliases_are_told : AliasesAreTold
aliases_are_told w compilation resolver meant fits o k alias h =
    let said = reached_are_said w compilation meant.of meant.single in
    record {
      a_module = λ e. let m = named_module w compilation resolver meant fits (target_in compilation k alias.target) e in module_aliases_are_refused w compilation meant.of meant.single said o k alias h m.0 m.1;
      nothing = λ e. other_aliases_are_unknown w compilation meant.of meant.single said o k alias h (named_nothing w compilation resolver meant fits (target_in compilation k alias.target) (target_named compilation k alias.target) e);
    }
