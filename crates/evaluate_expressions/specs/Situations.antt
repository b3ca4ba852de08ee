-- Where an evaluator stands: by which stage it evaluates, and what variables give.
use Rattle.std.specs.Prelude.{ℕ, Bool, false, List, [], ◌∷◌, ◌-◌, Option, Some, None, Err, codes}
use Rattle.std.specs.BTreeSet.{contains}
use Rattle.std.specs.Ordering.{nat_cmp}
use Rattle.just_text.specs.declared.name.Name.{Name}
use Rattle.just_host.specs.declared.job.Pair.{Pair}
use Rattle.just_value.specs.Frames.{Frames}
use Rattle.evaluate_context.specs.declared.context.ExecutionContext.{ExecutionContext}
use Rattle.evaluate_context.specs.Surroundings.{surroundings_of, standing_in}
use Rattle.evaluate_functions.specs.Arguments.{takes_text}
use Rattle.evaluate_functions.specs.declared.function.Function.{Function}
use Rattle.evaluate_builtins.specs.Builtins.{builtin}
use Rattle.meaning_dialogues.specs.Dialogue.{Dialogue, Ends, ◌>>=◌, Reading}
use Rattle.meaning_dialogues.specs.Evaluation.{Stage, Value}
use Rattle.meaning_dialogues.specs.Faults.{not_constant, a_call, internal}
use Rattle.meaning_dialogues.specs.Calls.{Calls, DefinedFunction, arguments, const_stage, reading_in_frames}
use Rattle.meaning_evaluation.specs.Stages.Stages.{definitions, run_stage, calls_left}
use Rattle.evaluate_expressions.specs.declared.evaluator.Evaluator.{Evaluator}
use Rattle.evaluate_expressions.specs.declared.evaluator.Stage.{Stage as StageOf}
use Rattle.evaluate_expressions.specs.declared.evaluator.Stage.TheVariants.{Const, Run}

-- the functions that can be called
abbrev pub functions_in : ExecutionContext → List DefinedFunction
functions_in context = definitions context.module.now.functions.now

-- the frames as the body of a function sees those of the module around its own
abbrev pub around_body : Frames → Frames
around_body frames = record { own = []; outer = frames.own ∷ frames.outer }

-- what the bodies of functions give, where so many calls may lie in each other
abbrev pub calls_in : ExecutionContext → Frames → Bool → Option Name → ℕ → Calls
calls_in context frames is_dependency recipe left = calls_left (surroundings_of context) (functions_in context) (standing_in context [] (around_body frames) is_dependency recipe) left

-- by which stage a run evaluates in frames, with pairs of attributes and the module's frames
abbrev pub stage_in : ExecutionContext → List Pair → Frames → Frames → Bool → Option Name → ℕ → Stage
stage_in context env here there is_dependency recipe left =
    run_stage (surroundings_of context) (functions_in context) (standing_in context env here is_dependency recipe) (calls_in context there is_dependency recipe left)

-- at depth 0: one call less than the limit may lie in each other
abbrev pub running_stage : ExecutionContext → List Pair → Frames → Frames → Bool → Option Name → Stage
running_stage context env here there is_dependency recipe = stage_in context env here there is_dependency recipe (context.config.now.recursion_limit - 1)

abbrev pub stage_of : StageOf → Evaluator → Stage
stage_of (Const lists non_const) e = const_stage lists
stage_of (Run context) e = stage_in context.now e.env.now e.scope.now e.module_scope.now e.is_dependency e.recipe e.calls_left

-- by which stage it evaluates
abbrev pub stage_at : Evaluator → Stage
stage_at e = stage_of e.stage e

-- the variables that are no constants
abbrev pub is_non_const : StageOf → ℕ → Bool
is_non_const (Const lists non_const) number = contains nat_cmp non_const.now number
is_non_const (Run context) number = false

-- what variables give
abbrev pub reading_at : Evaluator → Reading
reading_at e = reading_in_frames (is_non_const e.stage) e.scope.now e.module_scope.now

-- the functions by the stage
abbrev pub defined_at : StageOf → List DefinedFunction
defined_at (Const lists non_const) = []
defined_at (Run context) = functions_in context.now

-- what a built-in function answers to values; a constant calls none
abbrev pub builtin_at : StageOf → Evaluator → List ℕ → List ℕ → Function → List Value → Dialogue Value
builtin_at (Const lists non_const) e name file function values = Ends (Err (not_constant (a_call name)))
builtin_at (Run context) e name file function values = builtin (surroundings_of context.now) (standing_in context.now e.env.now e.scope.now e.is_dependency e.recipe) name file function values

-- a call of a built-in function, each argument in its place
abbrev pub called_builtin : Evaluator → Option Function → List ℕ → List ℕ → List (Dialogue Value) → Dialogue Value
called_builtin e None name file given = Ends (Err (internal (codes "unknown function")))
called_builtin e (Some function) name file given = arguments (takes_text function) name 0 given >>= builtin_at e.stage e name file function
