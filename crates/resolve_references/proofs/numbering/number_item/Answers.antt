-- A recipe and a setting are as they were but for their expressions.
use Rattle.std.proofs.Common.{ap, refl, subst, sym}
use Rattle.tree_items.specs.declared.ast.Item.TheVariants.{Recipe, Set}
use Rattle.tree_items.specs.declared.set.Set.{Set as SetTree}
use Rattle.resolve_references.specs.Numbered.{IsNumberedItem}
use Rattle.resolve_references.proofs.numbering.number_item.Goals as goal

pub returns-in-Recipe-clause-numbered : goal.returns-in-Recipe-clause-numbered
returns-in-Recipe-clause-numbered c = subst (λ item. IsNumberedItem item (Recipe c.number_recipe.new.recipe)) (sym c.in-Recipe.is) (c.number_recipe.new.recipe, refl, c.number_recipe.ensures.same)

pub returns-in-Set-clause-numbered : goal.returns-in-Set-clause-numbered
returns-in-Set-clause-numbered c =
    subst (λ item. IsNumberedItem item (Set c.number_set.new.set)) (sym c.in-Set.is)
    (c.number_set.new.set, refl, ap (λ (s : SetTree). s.name) c.number_set.ensures.same, c.number_set.ensures.setting)
