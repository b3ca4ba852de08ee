-- Refusals by what they come from.
use Rattle.resolve_recipes.specs.Refusals.{Refusal, argument_count, module_as_recipe, out_of_memory, unknown_alias_target, unknown_dependency}
use Rattle.resolve_references.specs.declared.read_fault.ReadFault.{ReadFault}
use Rattle.resolve_references.specs.declared.read_fault.ReadFault.TheVariants as reads
use Rattle.evaluate_context.specs.declared.error.Error as evaluations
use Rattle.evaluate_context.specs.declared.error.Error.TheVariants as evaluation
use Rattle.modules_compilation.specs.declared.error.Error as compilations
use Rattle.modules_compilation.specs.declared.error.Error.TheVariants as compiling
use Rattle.just_resolve.specs.declared.error.Error.{Error}
use Rattle.just_resolve.specs.declared.error.Error.TheVariants.{OutOfMemory, Compile, ConstEval, DependencyArgumentCount, FunctionArgumentCount, ModuleAsRecipe, UndefinedVariable, UnknownDependency, UnknownFunction}

-- an expression's: what it reads or calls is not there
abbrev pub reading_error : ReadFault → Error
reading_error reads.OutOfMemory = OutOfMemory
reading_error (reads.FunctionArgumentCount name found) = FunctionArgumentCount name found
reading_error (reads.UndefinedVariable name) = UndefinedVariable name
reading_error (reads.UnknownFunction name) = UnknownFunction name

-- a dependency's or an alias's: it stands for no recipe
abbrev pub naming_error : Refusal → Error
naming_error out_of_memory = OutOfMemory
naming_error (argument_count recipe dependency found) = DependencyArgumentCount recipe dependency found
naming_error (module_as_recipe path) = ModuleAsRecipe path
naming_error (unknown_alias_target alias target) = Compile (compiling.UnknownAliasTarget alias target)
naming_error (unknown_dependency recipe dependency) = UnknownDependency recipe dependency

-- a constant's
abbrev pub constant_error : evaluations.Error → Error
constant_error evaluation.OutOfMemory = OutOfMemory
constant_error error = ConstEval error

-- that of files and modules
abbrev pub compile_error : compilations.Error → Error
compile_error compiling.OutOfMemory = OutOfMemory
compile_error error = Compile error
