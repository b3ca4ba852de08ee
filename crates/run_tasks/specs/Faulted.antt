-- The printed text of a command's failure.
use Rattle.std.specs.Prelude.{ℕ, List}
use Rattle.just_host.specs.Failures.{status_text}
use Rattle.run_tasks.specs.declared.fault.CommandFault.{CommandFault}

abbrev pub command_text : CommandFault → List ℕ
command_text fault = status_text fault.word fault.status
