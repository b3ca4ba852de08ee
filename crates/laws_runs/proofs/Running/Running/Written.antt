-- What files say of the parameters of recipes and of functions, in the files of a module.
use Rattle.std.proofs.Common.{◌≡◌, Some, ℕ}
use Rattle.std.specs.Prelude.{slice_get}
use Rattle.just_text.specs.Tokens.{lexeme}
use Rattle.just_text.specs.declared.name.Name.{Name}
use Rattle.tree_items.specs.declared.ast.Item.TheVariants.{Function}
use Rattle.tree_items.specs.declared.item.FunctionDefinition.{FunctionDefinition}
use Rattle.tree_items.specs.declared.recipe.Recipe.{Recipe}
use Rattle.tree_items.specs.declared.recipe.UnresolvedDependency.{UnresolvedDependency}
use Rattle.modules_compilation.specs.Places.{item_at}
use Rattle.modules_compilation.specs.declared.compilation.Compilation.{Compilation}
use Rattle.modules_compilation.specs.declared.place.Place.{Place}
use Rattle.resolve_recipes.specs.Nodes.{recipe_at}
use Rattle.meaning_rules.specs.Worlds.Given.{Given, World}
use Rattle.meaning_rules.specs.Worlds.Standing.{StandsFor}
use Rattle.laws_modules.specs.Names.Names.{IsOfWorld}
use Rattle.laws_printing.specs.Distinct.Distinct.{IsOwned}
use Rattle.laws_printing.proofs.Distinct.Places.{functions_apart, last_takes_all, parameters_apart}
use Rattle.laws_runs.specs.Running.Entered.{AreApart}
use Rattle.laws_runs.proofs.Running.Opening.Written.{item_back}

module _ (source : Given) (w : World) (compilation : Compilation) (stands : StandsFor source w) (is : IsOfWorld w compilation) (place : Place) (own : IsOwned compilation place) where
  -- the parameters of a recipe
  pub recipe_apart : (recipe : Recipe UnresolvedDependency) → recipe_at compilation place ≡ Some recipe → AreApart recipe.parameters.items
  recipe_apart recipe there =
      let item_there = item_back (item_at compilation place) recipe there in
      record {
        names = parameters_apart source w compilation stands is own.number own.node own.here place own.from own.to recipe item_there;
        last = last_takes_all source w compilation stands is own.number own.node own.here place own.from own.to recipe item_there;
      }

  -- those of a function
  pub function_apart : (f : FunctionDefinition) → item_at compilation place ≡ Some (Function f) → (i j : ℕ) (p q : Name × ℕ) → slice_get f.parameters.items i ≡ Some p → slice_get f.parameters.items j ≡ Some q
      → lexeme p.0.token ≡ lexeme q.0.token → i ≡ j
  function_apart = functions_apart source w compilation stands is own.number own.node own.here place own.from own.to
