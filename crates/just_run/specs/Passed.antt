-- Faults of parts as the call's: want of memory is one, whichever part it comes from.
use Rattle.analyze_words.specs.declared.fault.WordFault.{WordFault}
use Rattle.analyze_words.specs.declared.fault.WordFault.TheVariants as words
use Rattle.modules_compilation.specs.declared.error.Error as files
use Rattle.modules_compilation.specs.declared.error.Error.TheVariants as of_files
use Rattle.just_resolve.specs.declared.error.Error as names
use Rattle.just_resolve.specs.declared.error.Error.TheVariants as of_names
use Rattle.justfile_evaluator.specs.declared.fault.RunFault.{RunFault}
use Rattle.justfile_evaluator.specs.declared.fault.RunFault.TheVariants as runs
use Rattle.analyze_calls.specs.declared.fault.OpeningFault.{OpeningFault}
use Rattle.analyze_calls.specs.declared.fault.OpeningFault.TheVariants as openings
use Rattle.run_tasks.specs.declared.fault.TaskFault.{TaskFault}
use Rattle.run_tasks.specs.declared.fault.TaskFault.TheVariants as tasks
use Rattle.just_run.specs.declared.root.RootFault.{RootFault}
use Rattle.just_run.specs.declared.root.RootFault.TheVariants as roots
use Rattle.just_run.specs.declared.fault.Fault.{Fault}
use Rattle.just_run.specs.declared.fault.Fault.TheVariants.{OutOfMemory, NoRootForWord, Justfile, Words, Dotenv, Opening, Evaluation, Code, Signal, CouldNotStart, NotConfirmed, Command}

-- a rule of words
abbrev pub word_fault : WordFault → Fault
word_fault words.OutOfMemory = OutOfMemory
word_fault fault = Words fault

-- a rule of files
abbrev pub file_fault : files.Error → Fault
file_fault of_files.OutOfMemory = OutOfMemory
file_fault error = Justfile (of_names.Compile error)

-- why the root file can't be read: for a rule of files, but that there is none
abbrev pub root_fault : RootFault → Fault
root_fault roots.OutOfMemory = OutOfMemory
root_fault (roots.NoRootForWord word) = NoRootForWord word
root_fault (roots.MissingRoot path) = file_fault (of_files.MissingRoot path)
root_fault (roots.Syntax error) = file_fault (of_files.Syntax error)

-- a rule of files, modules, names and orders
abbrev pub name_fault : names.Error → Fault
name_fault of_names.OutOfMemory = OutOfMemory
name_fault error = Justfile error

-- why modules could not open
abbrev pub opening_fault : OpeningFault → Fault
opening_fault openings.OutOfMemory = OutOfMemory
opening_fault (openings.Dotenv fault) = Dotenv fault
opening_fault (openings.Opening error) = Opening error

-- how a run ended
abbrev pub run_fault : RunFault → Fault
run_fault runs.OutOfMemory = OutOfMemory
run_fault (runs.Evaluation error) = Evaluation error
run_fault (runs.Code recipe code is_silent) = Code recipe code is_silent
run_fault (runs.Signal recipe signal is_silent) = Signal recipe signal is_silent
run_fault (runs.CouldNotStart recipe) = CouldNotStart recipe
run_fault (runs.NotConfirmed recipe) = NotConfirmed recipe

-- why a task failed
abbrev pub task_fault : TaskFault → Fault
task_fault (tasks.Opening fault) = opening_fault fault
task_fault (tasks.Run fault) = run_fault fault
task_fault (tasks.Command fault) = Command fault
