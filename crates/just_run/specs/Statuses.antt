-- The statuses that a program ends with.
use Rattle.std.specs.Prelude.{ℕ, ◌+◌, min}
use Rattle.just_host.specs.declared.host.Status.{Status}
use Rattle.just_host.specs.declared.host.Status.TheVariants as ends
use Rattle.just_run.specs.declared.fault.Fault.{Fault}
use Rattle.just_run.specs.declared.fault.Fault.TheVariants.{Code, Signal, Command}

-- a command's code; 128 and its signal's number, at most 255; 1 where it could not start
abbrev pub command_status : Status → ℕ
command_status (ends.Code code) = code
command_status (ends.Signal signal) = min 255 (signal + 128)
command_status ends.NotStarted = 1

-- a failed command's code; 128 and a signal's number, at most 255; else 1
abbrev pub status_of : Fault → ℕ
status_of (Code recipe code is_silent) = code
status_of (Signal recipe signal is_silent) = min 255 (signal + 128)
status_of (Command fault) = command_status fault.status
status_of _ = 1
