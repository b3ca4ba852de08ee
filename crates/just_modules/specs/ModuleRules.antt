-- Rules on single items, in one module.
use Rattle.std.specs.Prelude.{◌≡◌, Bool, true, false, List, codes}
use Rattle.just_text.specs.declared.compile_error.CompileErrorKind.{CompileErrorKind}
use Rattle.just_text.specs.declared.compile_error.CompileErrorKind.TheVariants.{ExtraLeadingWhitespace, GuardAndInfallible}
use Rattle.tree_attributes.specs.declared.attribute.AttributeKind.TheVariants.{Cache}
use Rattle.tree_attributes.specs.Attributes.{AttributeShape}
use Rattle.tree_items.specs.Files.{ItemShape, assignment_item, recipe_item, unexport_item}
use Rattle.tree_items.specs.Items.{AssignmentShape}
use Rattle.tree_items.specs.Lines.{begins_with_space}
use Rattle.tree_items.specs.Recipes.{RecipeShape}
use Rattle.meaning_rules.specs.Worlds.Given.{Text, World}
use Rattle.meaning_rules.specs.Worlds.Keeping.{IsOn}
use Rattle.meaning_rules.specs.Rules.{Rule, syntax, unstable_feature, lists_needed, cache_left_out, attribute_conflict, Excludes, HasLine, InModule, IsGuarded, Stands, UsesList, UsesUnstable, first_of, has}

module _ (w : World) (own : Text) where
  -- a line of a recipe of the module that is no script
  abbrev pub BreaksOwnBody : CompileErrorKind → Type 0
  BreaksOwnBody ExtraLeadingWhitespace = HasLine w own (λ line. begins_with_space (first_of line) ≡ true)
  BreaksOwnBody GuardAndInfallible = HasLine w own (IsGuarded w own)
  BreaksOwnBody other = ⊥

  -- an item of the module breaks a rule on single items
  abbrev pub BreaksOwn : Rule → Type 0
  BreaksOwn (syntax kind) = BreaksOwnBody kind
  BreaksOwn (unstable_feature feature) = (item : ItemShape) × InModule w own item × UsesUnstable item feature × (w.unstable ≡ false) × (IsOn w own (codes "unstable") → ⊥)
  BreaksOwn (lists_needed feature) = (item : ItemShape) × Stands w own item × UsesList w item feature × (IsOn w own (codes "lists") → ⊥)
  BreaksOwn (cache_left_out name) = (attributes : List AttributeShape) × (r : RecipeShape) × Stands w own (recipe_item attributes r) × (r.name ≡ name) × (has Cache attributes ≡ true)
  BreaksOwn (attribute_conflict name one other) = (attributes : List AttributeShape) × (r : RecipeShape) × Stands w own (recipe_item attributes r) × (r.name ≡ name) × Excludes attributes r one other
  BreaksOwn other = ⊥

  -- a variable of the module is exported by its own word, although its name is not to be
  abbrev pub ExportsUnexported : Text → Type 0
  ExportsUnexported name = (a : AssignmentShape) × (attributes : List AttributeShape) × Stands w own (assignment_item attributes a) × (a.export ≡ true) × (a.name ≡ name) × InModule w own (unexport_item name)

-- a rule on single items, but for those on bodies
abbrev pub is_of_items : Rule → Bool
is_of_items (unstable_feature feature) = true
is_of_items (lists_needed feature) = true
is_of_items (cache_left_out name) = true
is_of_items (attribute_conflict name one other) = true
is_of_items other = false
