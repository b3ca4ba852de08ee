-- What a recipe has before its attributes are read.
use Rattle.std.specs.Prelude.{◌≡◌, false, List, [], None}
use Rattle.std.specs.List.{All}
use Rattle.tree_attributes.specs.Sets.Sets.{items_of}
use Rattle.tree_items.specs.declared.recipe.Parameter.{Parameter}
use Rattle.tree_items.specs.declared.recipe.Recipe.{Recipe}
use Rattle.tree_items.specs.declared.recipe.UnresolvedDependency.{UnresolvedDependency}

-- the parameter has no options
pub record IsPlain (p : Parameter) : Type 0 where
  pub flag : p.flag ≡ false
  pub help : p.help ≡ None
  pub long : p.long ≡ None
  pub max : p.max ≡ None
  pub min : p.min ≡ None
  pub multiple : p.multiple ≡ false
  pub short : p.short ≡ None
  pub value : p.value ≡ None

abbrev pub ArePlain : List Parameter → Type 0
ArePlain ps = All IsPlain ps

-- the recipe has no attributes, and its parameters have no options
pub record IsPlainRecipe (r : Recipe UnresolvedDependency) : Type 0 where
  pub attributes : items_of r.attributes ≡ []
  pub parameters : ArePlain r.parameters.items
