-- What a recipe is bound to as a call enters it.
use Rattle.std.specs.Prelude.{◌≡◌, ◌&&◌, ◌++◌, Bool, Err, IfOk, List, Ok, Result, map, ℕ}
use Rattle.just_host.specs.declared.entry.Entry.{Entry}
use Rattle.tree_items.specs.declared.recipe.Parameter.{Parameter}
use Rattle.evaluate_context.specs.declared.context.ExecutionContext.{ExecutionContext}
use Rattle.evaluate_variables.specs.Given.{AreCounted, HasRowsOf, bound_at, passes_in}
use Rattle.meaning_dialogues.specs.Dialogue.{Evaluates}
use Rattle.meaning_dialogues.specs.Evaluation.{Value}
use Rattle.meaning_dialogues.specs.Faults.{Fault}
use Rattle.meaning_evaluation.specs.Stages.Parameters.{Formal, formal_of}
use Rattle.meaning_evaluation.specs.Parameters.Bindings.{GivesBound, run_reading}
use Rattle.meaning_runs.specs.Failures.{Failure, evaluation}
use Rattle.meaning_evaluation.specs.Scopes.{at_least, at_most}
use Rattle.analyze_calls.specs.Entered.{EnteredRow, inside}
use Rattle.analyze_calls.specs.declared.plan.Planned.{Planned}

-- the new record is the old one with more after it
pub record Grew (old new : List Entry) : Type 0 where
  pub piece : List Entry
  pub entries : new ≡ old ++ piece

-- whether a parameter may have so many values
abbrev pub may_have : Parameter → ℕ → Bool
may_have parameter n = at_least parameter.min n && at_most parameter.max n

module _ (planned : Planned) (context : ExecutionContext) (flag : Bool) (groups : List Value) (old new : List Entry) where
  -- By a test of how many values each parameter may have: a frame inside the module's, the words and the pairs have what the `env` attributes and the groups give; or these have a fault.
  abbrev pub BindsBy : (Formal → ℕ → Bool) → Result EnteredRow Failure → Type 0
  BindsBy counts (Ok entered) =
      (entered.frames.outer ≡ (inside context.scope.now).outer)
      × GivesBound (run_reading (inside context.scope.now) context.scope.now) (bound_at context flag planned.recipe.now counts groups (inside context.scope.now)) old new
      (passes_in context.module.now.settings.now planned.recipe.now.attributes) context.module.now.settings.now.lists (map formal_of planned.recipe.now.parameters.items) entered.frames.own entered.positional entered.env
  BindsBy counts (Err failure) =
      (fault : Fault) × (failure ≡ evaluation fault)
      × Evaluates (run_reading (inside context.scope.now) context.scope.now) (bound_at context flag planned.recipe.now counts groups (inside context.scope.now)) old new (Err fault)

  -- its parameters are bound in a frame inside the module's, by each test that says what `min` and `max` do; what that frame has are bindings of its parameters
  pub record Binds (result : Result EnteredRow Failure) : Type 0 where
    pub grew : Grew old new
    pub by_test : (counts : Formal → ℕ → Bool) → AreCounted may_have counts planned.recipe.now.parameters.items → BindsBy counts result
    pub rows : IfOk result (λ entered. HasRowsOf planned.recipe.now.parameters.items entered.frames.own)
