-- Recipes at their places.
use Rattle.std.specs.Prelude.{ℕ, Option, Some, None, slice_get}
use Rattle.std.specs.Option.{option_map}
use Rattle.evaluate_context.specs.declared.context.ExecutionContext.{ExecutionContext}
use Rattle.analyze_calls.specs.declared.plan.Planned.{Planned}
use Rattle.analyze_calls.specs.declared.plan.Runner.{Runner}

-- the recipe at a place, with what its module's recipes rest on
abbrev pub with_context : Runner → Option Planned → Option (Planned × ExecutionContext)
with_context runner None = None
with_context runner (Some planned) = option_map (λ context. (planned, context)) (slice_get runner.contexts.now planned.module)

abbrev pub placed_in : Runner → ℕ → Option (Planned × ExecutionContext)
placed_in runner place = with_context runner (slice_get runner.recipes.now place)
