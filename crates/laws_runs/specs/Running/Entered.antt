-- What a recipe was entered with by places, and what it is bound to by names.
use Rattle.std.specs.Prelude.{◌≡◌, ◌+◌, ℕ, Bool, true, List, Some, length, map, slice_get}
use Rattle.just_text.specs.Tokens.{lexeme}
use Rattle.tree_items.specs.Recipes.{is_variadic}
use Rattle.tree_items.specs.declared.recipe.Parameter.{Parameter}
use Rattle.evaluate_context.specs.declared.context.ExecutionContext.{ExecutionContext}
use Rattle.evaluate_variables.specs.Given.{HasRowsOf, passes_in}
use Rattle.meaning_evaluation.specs.Stages.Parameters.{Bound, formal_of}
use Rattle.meaning_evaluation.specs.Parameters.Bindings.{IsBound}
use Rattle.analyze_calls.specs.Calls.{CallRow}
use Rattle.analyze_calls.specs.Entered.{EnteredRow, inside}
use Rattle.analyze_calls.specs.Placed.{placed_in}
use Rattle.analyze_calls.specs.declared.plan.Planned.{Planned}
use Rattle.analyze_calls.specs.declared.plan.Runner.{Runner}

-- no two parameters have one name, and only the last may take any number of values
pub record AreApart (parameters : List Parameter) : Type 0 where
  pub names : (i j : ℕ) (p q : Parameter) → slice_get parameters i ≡ Some p → slice_get parameters j ≡ Some q → lexeme p.name.token ≡ lexeme q.name.token → i ≡ j
  pub last : (i : ℕ) (p : Parameter) → slice_get parameters i ≡ Some p → is_variadic p.kind ≡ true → i + 1 ≡ length parameters

-- The frame inside the module's has the values of the parameters, each by its number once; the words and the pairs are those of the values.
pub record IsEnteredIn (planned : Planned) (context : ExecutionContext) (entered : EnteredRow) (bound : Bound) : Type 0 where
  pub outer : entered.frames.outer ≡ (inside context.scope.now).outer
  pub is : IsBound (passes_in context.module.now.settings.now planned.recipe.now.attributes) context.module.now.settings.now.lists (map formal_of planned.recipe.now.parameters.items) bound entered.frames.own entered.positional entered.env
  pub rows : HasRowsOf planned.recipe.now.parameters.items entered.frames.own
  pub count : length bound.values ≡ length planned.recipe.now.parameters.items

-- so it is of a call, by the recipe at its rank
pub record IsEnteredAlike (runner : Runner) (call : CallRow) (flag : Bool) (entered : EnteredRow) (bound : Bound) : Type 0 where
  pub planned : Planned
  pub context : ExecutionContext
  pub placed : placed_in runner call.recipe ≡ Some (planned, context)
  pub alike : IsEnteredIn planned context entered bound
