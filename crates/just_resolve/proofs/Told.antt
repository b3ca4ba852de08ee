-- What resolving is refused for names a rule that is broken.
use Rattle.std.proofs.Common.{◌≡◌, ◌∙◌, ℕ, List, Ok, String, map, subst, sym, ap}
use Rattle.std.specs.BTreeMap.{BTreeMap}
use Rattle.just_value.specs.declared.positional.Override.{Override}
use Rattle.modules_compilation.specs.declared.compilation.Compilation.{Compilation}
use Rattle.resolve_order.specs.Order.{IsOrder}
use Rattle.resolve_recipes.specs.Nodes.{all_kept, view}
use Rattle.resolve_recipes.specs.Resolving.{all_needs}
use Rattle.resolve_recipes.specs.declared.recipe_node.RecipeNode.{RecipeNode}
use Rattle.resolve_recipes.specs.declared.recipe_resolver.RecipeResolver.{RecipeResolver}
use Rattle.resolve_analysis.specs.declared.variables.ModuleVariables.{ModuleVariables}
use Rattle.meaning_rules.specs.Worlds.Given.{Overrides, World}
use Rattle.meaning_rules.specs.Overrides.{overrides_of}
use Rattle.just_resolve.specs.Analysis.{IsRefused, IsRefusedWith, others, override, recipe, setting, variable}
use Rattle.just_resolve.specs.Overrides.{AreGiven}
use Rattle.just_resolve.specs.Rules.{InEachWorld, IsNamed, IsResolvable}
use Rattle.just_resolve.specs.Table as table
use Rattle.just_resolve.specs.Table.{IsNotSorted, IsRefusedIn, IsResolver, IsTableRefused}
use Rattle.just_resolve.specs.Variables.{AreVariables}
use Rattle.just_resolve.specs.declared.error.Error.{Error}
use Rattle.just_resolve.proofs.Laws.{Laws}
use Rattle.just_resolve.proofs.RefusedAliases.{aliases_named}
use Rattle.just_resolve.proofs.RefusedOverrides.{override_named}
use Rattle.just_resolve.proofs.RefusedReads.{reads_named}
use Rattle.just_resolve.proofs.RefusedRecipes.{circular_named, dependency_named, disabled_named, meant_of, resolver_of}
use Rattle.just_resolve.proofs.RefusedSettings.{settings_named}
use Rattle.just_resolve.proofs.RefusedVariables.{variables_named}

module _ (laws : Laws) (w : World) (compilation : Compilation) (is : IsResolvable w compilation) (words : List Override) {A : Type 0} (overrides : BTreeMap ℕ (String A)) (given : AreGiven compilation words overrides) where
  abbrev o : Overrides
  o = overrides_of words

  module _ (variables : ModuleVariables) (are : AreVariables overrides compilation variables)
      (nodes : List RecipeNode) (kept : map view nodes ≡ all_kept compilation) (resolver : RecipeResolver) (resolves : IsResolver nodes resolver) (error : Error) where
    -- a recipe reads what is not there, or an alias stands for no recipe
    in_order_named : (needs : List (List ℕ)) (order : List ℕ) → all_needs compilation resolver (map view nodes) ≡ Ok needs → IsOrder needs order
        → IsRefusedIn compilation resolver (map view nodes) variables.reads.items needs order error → IsNamed w o error
    in_order_named needs order needed ordered (table.reading ranks fault ranked refused tells) =
        subst (IsNamed w o) (sym tells) (reads_named laws w compilation is.numbered o overrides variables are (map view nodes) kept needs ranks order fault refused)
    in_order_named needs order needed ordered (table.alias ranks ranked refused) =
        let all = ap (all_needs compilation resolver) (sym kept) ∙ needed in
        subst (IsNamed w o) (sym refused.tells)
        (aliases_named laws w compilation (meant_of w compilation is.numbered) o resolver (resolver_of compilation nodes resolver kept resolves) needs all order ordered ranks ranked refused.refusal refused.refused)

    -- dependencies are refused, recipes depend on each other, or the recipes in their order are refused
    unsorted_named : IsNotSorted compilation resolver nodes variables.reads.items error → IsNamed w o error
    unsorted_named (table.disabled refusal refused tells) = subst (IsNamed w o) (sym tells) (disabled_named laws w compilation is.numbered o nodes kept resolver resolves refusal refused)
    unsorted_named (table.dependency refusal refused tells) = subst (IsNamed w o) (sym tells) (dependency_named laws w compilation is.numbered o nodes kept resolver resolves refusal refused)
    unsorted_named (table.circular needs needed circular) = circular_named laws w compilation is.numbered o nodes kept resolver resolves needs needed error circular
    unsorted_named (table.others needs order needed ordered refused) = in_order_named needs order needed ordered refused

  -- a rule on recipes is broken
  pub table_named : (variables : ModuleVariables) → AreVariables overrides compilation variables → (error : Error) → IsTableRefused compilation variables.reads.items error → IsNamed w o error
  table_named variables are error refused = unsorted_named variables are refused.nodes refused.kept refused.refused.resolver refused.refused.resolves error refused.refused.refused

  -- so is one where variables, settings or recipes are refused
  pub refused_with_named : (error : Error) → IsRefusedWith compilation overrides error → IsNamed w o error
  refused_with_named error (variable refused) = variables_named laws w compilation is.numbered o overrides error refused
  refused_with_named error (setting variables are refused) = settings_named laws w compilation is words overrides given variables are error refused
  refused_with_named error (recipe variables are refused) = table_named variables are error refused

-- a refusal names a rule that is broken in each world that the compilation stands for
pub refused_is_named : Laws → (compilation : Compilation) (words : List Override) (error : Error) → IsRefused compilation words error → InEachWorld compilation words (λ w o. IsNamed w o error)
refused_is_named laws compilation words error (override refused) w is = override_named laws w compilation is.numbered words error refused
refused_is_named laws compilation words error (others overrides given refused) w is = refused_with_named laws w compilation is words overrides given error refused
