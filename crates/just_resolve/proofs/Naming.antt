-- What a reading or a name is refused for is told with its rule.
use Rattle.std.proofs.Common.{◌≢◌, refl}
use Rattle.just_value.specs.declared.fault.ConstEvalError.{ConstEvalError}
use Rattle.just_value.specs.declared.fault.ConstEvalError.TheVariants.{Assert, Const, EmptyInterpreter, ListInStringContext, ListOperation, PatternLeftOut}
use Rattle.resolve_recipes.specs.Refusals.{Refusal, argument_count, module_as_recipe, out_of_memory, unknown_alias_target, unknown_dependency}
use Rattle.resolve_references.specs.declared.read_fault.ReadFault.{ReadFault}
use Rattle.resolve_references.specs.declared.read_fault.ReadFault.TheVariants.{FunctionArgumentCount, OutOfMemory, UndefinedVariable, UnknownFunction}
use Rattle.evaluate_context.specs.Refusals.{fault_of}
use Rattle.evaluate_context.specs.declared.error.Error as evaluations
use Rattle.evaluate_context.specs.declared.error.Error.TheVariants as evaluation
use Rattle.meaning_dialogues.specs.Faults.{const_fault, memory}
use Rattle.meaning_rules.specs.Worlds.Given.{Overrides, World}
use Rattle.meaning_rules.specs.Rules.{Broken, const_error}
use Rattle.laws_names.specs.Reading.Meant as reading
use Rattle.laws_names.specs.Depending.Meant as depending
use Rattle.just_resolve.specs.Faults.{constant_error, naming_error, reading_error}
use Rattle.just_resolve.specs.Rules.{IsNamed}

-- what a constant is refused for is no want of memory
no_memory : (error : ConstEvalError) → const_fault error ≢ memory
no_memory (Assert message name) e = cc e
no_memory (Const error) e = cc e
no_memory (EmptyInterpreter setting) e = cc e
no_memory (ListInStringContext context value) e = cc e
no_memory (ListOperation lhs operator rhs token) e = cc e
no_memory (PatternLeftOut operator token) e = cc e

module _ (w : World) (o : Overrides) where
  -- a fault of reading
  pub reading_named : (fault : ReadFault) → reading.IsTold w o fault → IsNamed w o (reading_error fault)
  reading_named OutOfMemory t = tt
  reading_named (FunctionArgumentCount name found) t = t
  reading_named (UndefinedVariable name) t = t
  reading_named (UnknownFunction name) t = t

  -- the refusal of a dependency or of an alias
  pub naming_named : (refusal : Refusal) → depending.IsTold w o refusal → IsNamed w o (naming_error refusal)
  naming_named out_of_memory t = tt
  naming_named (argument_count recipe dependency found) t = t
  naming_named (module_as_recipe path) t = t
  naming_named (unknown_alias_target alias target) t = t
  naming_named (unknown_dependency recipe dependency) t = t

  -- that of a constant, where the rule on them is broken
  pub constant_named : (refusal : evaluations.Error) → (fault_of refusal ≢ memory → Broken w o const_error) → IsNamed w o (constant_error refusal)
  constant_named evaluation.OutOfMemory broken = tt
  constant_named (evaluation.Const error) broken = (const_error, refl, broken (no_memory error))
  constant_named (evaluation.Backtick fault token) broken = (const_error, refl, broken (λ e. cc e))
  constant_named (evaluation.FunctionCall name message) broken = (const_error, refl, broken (λ e. cc e))
  constant_named (evaluation.RecursionLimit last) broken = (const_error, refl, broken (λ e. cc e))
  constant_named (evaluation.EmptyListArgument recipe parameter) broken = (const_error, refl, broken (λ e. cc e))
  constant_named (evaluation.ValueCount recipe parameter found) broken = (const_error, refl, broken (λ e. cc e))
  constant_named (evaluation.NoParent path) broken = (const_error, refl, broken (λ e. cc e))
  constant_named (evaluation.Internal text) broken = (const_error, refl, broken (λ e. cc e))
