-- What built-in functions tell of the machine.
use Rattle.std.specs.Prelude.{ℕ, List, codes, Option, Some, None, Bool, true, false}
use Rattle.just_text.specs.declared.os.Os.{Os}
use Rattle.just_text.specs.declared.os.Os.TheVariants.{Android, Dragonfly, Freebsd, Linux, Macos, Netbsd, Openbsd}
use Rattle.just_host.specs.declared.host.MachineFact.{MachineFact}
use Rattle.just_host.specs.declared.host.MachineFact.TheVariants.{Executable, Pid, Cpus, Cache, Config, ConfigLocal, Data, DataLocal, Runnable, Home, Runtime}
use Rattle.evaluate_functions.specs.declared.function.Function.{Function}
use Rattle.evaluate_functions.specs.declared.function.Function.TheVariants.{CacheDirectory, ConfigDirectory, ConfigLocalDirectory, DataDirectory, DataLocalDirectory, ExecutableDirectory, HomeDirectory, RuntimeDirectory, JustExecutable, JustPid, NumCpus, JustfileDirectory, ModuleDirectory, SourceDirectory}

abbrev pub os_name : Os → List ℕ
os_name Android = codes "android"
os_name Dragonfly = codes "dragonfly"
os_name Freebsd = codes "freebsd"
os_name Linux = codes "linux"
os_name Macos = codes "macos"
os_name Netbsd = codes "netbsd"
os_name Openbsd = codes "openbsd"

-- a folder, and its name in words
abbrev pub folder_of : Function → Option (MachineFact × List ℕ)
folder_of CacheDirectory = Some (Cache, codes "cache")
folder_of ConfigDirectory = Some (Config, codes "config")
folder_of ConfigLocalDirectory = Some (ConfigLocal, codes "local config")
folder_of DataDirectory = Some (Data, codes "data")
folder_of DataLocalDirectory = Some (DataLocal, codes "local data")
folder_of ExecutableDirectory = Some (Runnable, codes "executable")
folder_of HomeDirectory = Some (Home, codes "home")
folder_of RuntimeDirectory = Some (Runtime, codes "runtime")
folder_of _ = None

abbrev pub fact_of : Function → Option MachineFact
fact_of JustExecutable = Some Executable
fact_of JustPid = Some Pid
fact_of NumCpus = Some Cpus
fact_of _ = None

-- the function tells the folder of a file
abbrev pub is_folder : Function → Bool
is_folder JustfileDirectory = true
is_folder ModuleDirectory = true
is_folder SourceDirectory = true
is_folder _ = false
