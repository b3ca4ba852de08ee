-- The printed texts of a host's faults.
use Rattle.std.specs.Prelude.{ℕ, List, ◌++◌, codes}
use Rattle.std.specs.Fmt.{decimal}
use Rattle.just_host.specs.declared.host.HostFault.{HostFault}
use Rattle.just_host.specs.declared.host.HostFault.TheVariants.{Code, Signal, NotStarted, NotUnicode, Io, Memory}

abbrev pub fault_text : HostFault → List ℕ
fault_text (Code code) = codes "exit code " ++ decimal code
fault_text (Signal signal) = codes "signal " ++ decimal signal
fault_text NotStarted = codes "could not start"
fault_text (NotUnicode _) = codes "not unicode"
fault_text (Io text) = text
fault_text Memory = codes "out of memory"
