-- Which answers say that a write failed.
use Rattle.std.proofs.Common.{ℕ, Result, Ok, Err, IfErr, refl, subst, sym}
use Rattle.std.specs.Result.{result_and}
use Rattle.analyze_words.specs.declared.fault.WordFault.{WordFault}
use Rattle.analyze_words.specs.declared.fault.WordFault.TheVariants as words
use Rattle.modules_compilation.specs.declared.error.Error as files
use Rattle.modules_compilation.specs.declared.error.Error.TheVariants as of_files
use Rattle.just_resolve.specs.declared.error.Error as names
use Rattle.just_resolve.specs.declared.error.Error.TheVariants as of_names
use Rattle.justfile_evaluator.specs.declared.fault.RunFault.{RunFault}
use Rattle.justfile_evaluator.specs.declared.fault.RunFault.TheVariants as runs
use Rattle.analyze_calls.specs.declared.fault.OpeningFault.{OpeningFault}
use Rattle.analyze_calls.specs.declared.fault.OpeningFault.TheVariants as openings
use Rattle.run_tasks.specs.declared.fault.TaskFault.{TaskFault}
use Rattle.run_tasks.specs.declared.fault.TaskFault.TheVariants as tasks
use Rattle.just_run.specs.declared.root.RootFault.{RootFault}
use Rattle.just_run.specs.declared.root.RootFault.TheVariants as roots
use Rattle.just_run.specs.Passed.{word_fault, file_fault, name_fault, root_fault, opening_fault, run_fault, task_fault}
use Rattle.just_run.specs.Plans.{IsEnd, IsOfRun}
use Rattle.just_run.specs.Writes.{IsNoWrite, WriteFails}
use Rattle.just_run.specs.declared.fault.Fault.{Fault}
use Rattle.just_run.specs.declared.fault.Fault.TheVariants as faults
use Rattle.just_run.specs.declared.outcome.Outcome.{Outcome}

-- no write failed where the answer is another fault
pub no_write_fails : (failed : ℕ) (fault : Fault) → IsNoWrite fault → WriteFails {T = Outcome} failed (Err fault) failed
no_write_fails failed faults.OutOfMemory h = refl
no_write_fails failed (faults.NoRootForWord word) h = refl
no_write_fails failed (faults.Justfile refusal) h = refl
no_write_fails failed (faults.Words fault) h = refl
no_write_fails failed (faults.Dotenv fault) h = refl
no_write_fails failed (faults.Opening error) h = refl
no_write_fails failed (faults.Evaluation error) h = refl
no_write_fails failed (faults.Code recipe code is_silent) h = refl
no_write_fails failed (faults.Signal recipe signal is_silent) h = refl
no_write_fails failed (faults.CouldNotStart recipe) h = refl
no_write_fails failed (faults.NotConfirmed recipe) h = refl
no_write_fails failed (faults.Command fault) h = refl
no_write_fails failed faults.Write h = absurd h
no_write_fails failed (faults.NotPrintable path) h = refl

pub answer_fails : (failed : ℕ) (result : Result Outcome Fault) → IfErr result IsNoWrite → WriteFails failed result failed
answer_fails failed (Ok answer) h = refl
answer_fails failed (Err fault) h = no_write_fails failed fault h

-- a fault of a run is no failed write
pub of_run_is_no_write : (fault : Fault) → IsOfRun fault → IsNoWrite fault
of_run_is_no_write faults.OutOfMemory h = tt
of_run_is_no_write (faults.NoRootForWord word) h = tt
of_run_is_no_write (faults.Justfile refusal) h = tt
of_run_is_no_write (faults.Words fault) h = tt
of_run_is_no_write (faults.Dotenv fault) h = tt
of_run_is_no_write (faults.Opening error) h = tt
of_run_is_no_write (faults.Evaluation error) h = tt
of_run_is_no_write (faults.Code recipe code is_silent) h = tt
of_run_is_no_write (faults.Signal recipe signal is_silent) h = tt
of_run_is_no_write (faults.CouldNotStart recipe) h = tt
of_run_is_no_write (faults.NotConfirmed recipe) h = tt
of_run_is_no_write (faults.Command fault) h = tt
of_run_is_no_write faults.Write h = absurd h
of_run_is_no_write (faults.NotPrintable path) h = tt

-- nor is a rule of words, of files or of names
pub word_is_no_write : (fault : WordFault) → IsNoWrite (word_fault fault)
word_is_no_write words.OutOfMemory = tt
word_is_no_write (words.UnknownRecipe word) = tt
word_is_no_write (words.UnknownModule word) = tt
word_is_no_write (words.ArgumentCount recipe found) = tt
word_is_no_write (words.UnknownOption recipe word) = tt
word_is_no_write (words.OptionValue recipe word) = tt
word_is_no_write words.NoRecipes = tt
word_is_no_write (words.DefaultNeedsArguments recipe) = tt
word_is_no_write (words.UnknownVariable word) = tt
word_is_no_write (words.ExtraWord word) = tt
word_is_no_write words.MissingCommand = tt

pub file_is_no_write : (error : files.Error) → IsNoWrite (file_fault error)
file_is_no_write of_files.OutOfMemory = tt
file_is_no_write (of_files.Syntax x0) = tt
file_is_no_write (of_files.MissingRoot x0) = tt
file_is_no_write (of_files.MissingImport x0) = tt
file_is_no_write (of_files.CircularImport current import) = tt
file_is_no_write (of_files.MissingModule x0) = tt
file_is_no_write (of_files.AmbiguousModule name found) = tt
file_is_no_write (of_files.Redefinition x0) = tt
file_is_no_write (of_files.DuplicateVariable x0) = tt
file_is_no_write (of_files.DuplicateSet x0) = tt
file_is_no_write (of_files.DuplicateUnexport x0) = tt
file_is_no_write (of_files.ExportUnexported x0) = tt
file_is_no_write (of_files.UnknownAliasTarget alias target) = tt
file_is_no_write (of_files.UnstableFeature feature token) = tt
file_is_no_write (of_files.ListsNeeded feature token) = tt
file_is_no_write (of_files.CacheLeftOut x0) = tt
file_is_no_write (of_files.AttributeConflict recipe one other) = tt

pub name_is_no_write : (error : names.Error) → IsNoWrite (name_fault error)
name_is_no_write of_names.OutOfMemory = tt
name_is_no_write (of_names.Compile x0) = tt
name_is_no_write (of_names.CircularVariable x0) = tt
name_is_no_write (of_names.CircularRecipe x0) = tt
name_is_no_write (of_names.ConstEval x0) = tt
name_is_no_write (of_names.DependencyArgumentCount recipe dependency found) = tt
name_is_no_write (of_names.FunctionArgumentCount name found) = tt
name_is_no_write (of_names.ModuleAsRecipe x0) = tt
name_is_no_write (of_names.UndefinedVariable x0) = tt
name_is_no_write (of_names.UnknownDependency recipe dependency) = tt
name_is_no_write (of_names.UnknownFunction x0) = tt
name_is_no_write (of_names.UnknownOverride x0) = tt

-- nor is why the root can't be read
pub root_is_no_write : (fault : RootFault) → IsNoWrite (root_fault fault)
root_is_no_write roots.OutOfMemory = tt
root_is_no_write (roots.NoRootForWord word) = tt
root_is_no_write (roots.MissingRoot path) = tt
root_is_no_write (roots.Syntax error) = tt

-- a run and a command end with faults of a run
pub run_is_of_run : (fault : RunFault) → IsOfRun (run_fault fault)
run_is_of_run runs.OutOfMemory = tt
run_is_of_run (runs.Evaluation error) = tt
run_is_of_run (runs.Code recipe code is_silent) = tt
run_is_of_run (runs.Signal recipe signal is_silent) = tt
run_is_of_run (runs.CouldNotStart recipe) = tt
run_is_of_run (runs.NotConfirmed recipe) = tt

pub opening_is_of_run : (fault : OpeningFault) → IsOfRun (opening_fault fault)
opening_is_of_run openings.OutOfMemory = tt
opening_is_of_run (openings.Dotenv fault) = tt
opening_is_of_run (openings.Opening error) = tt

pub task_is_of_run : (fault : TaskFault) → IsOfRun (task_fault fault)
task_is_of_run (tasks.Opening fault) = opening_is_of_run fault
task_is_of_run (tasks.Run fault) = run_is_of_run fault
task_is_of_run (tasks.Command fault) = tt

-- what a plan's end says, once its text went out
pub sent_fails : {T : Type 0} (old : ℕ) (sent : Result T Fault) (ended : Result Outcome Fault) (new : ℕ) → IsEnd ended → WriteFails old sent new → WriteFails old (result_and sent ended) new
sent_fails old (Ok x) (Ok outcome) new e h = h
sent_fails old (Ok x) (Err fault) new e h = subst (λ n. WriteFails {T = Outcome} old (Err fault) n) (sym h) (no_write_fails old fault (of_run_is_no_write fault e))
sent_fails old (Err faults.OutOfMemory) ended new e h = h
sent_fails old (Err (faults.NoRootForWord word)) ended new e h = h
sent_fails old (Err (faults.Justfile refusal)) ended new e h = h
sent_fails old (Err (faults.Words fault)) ended new e h = h
sent_fails old (Err (faults.Dotenv fault)) ended new e h = h
sent_fails old (Err (faults.Opening error)) ended new e h = h
sent_fails old (Err (faults.Evaluation error)) ended new e h = h
sent_fails old (Err (faults.Code recipe code is_silent)) ended new e h = h
sent_fails old (Err (faults.Signal recipe signal is_silent)) ended new e h = h
sent_fails old (Err (faults.CouldNotStart recipe)) ended new e h = h
sent_fails old (Err (faults.NotConfirmed recipe)) ended new e h = h
sent_fails old (Err (faults.Command fault)) ended new e h = h
sent_fails old (Err faults.Write) ended new e h = h
sent_fails old (Err (faults.NotPrintable path)) ended new e h = h
