-- The sentences on a command that failed.
use Rattle.std.specs.Prelude.{ℕ, List, ◌++◌, codes}
use Rattle.std.specs.Fmt.{decimal}
use Rattle.just_text.specs.Fields.{ticked}
use Rattle.just_host.specs.declared.host.Status.{Status}
use Rattle.just_host.specs.declared.host.Status.TheVariants.{Code, Signal, NotStarted}

-- how the command of a recipe, or one of that name, ended
abbrev pub status_text : List ℕ → Status → List ℕ
status_text name (Code code) = codes "recipe " ++ ticked name ++ codes " failed with exit code " ++ decimal code
status_text name (Signal signal) = codes "recipe " ++ ticked name ++ codes " was ended by signal " ++ decimal signal
status_text name NotStarted = codes "recipe " ++ ticked name ++ codes " could not start its command"

-- a recipe that the user refused
abbrev pub unconfirmed_text : List ℕ → List ℕ
unconfirmed_text name = codes "recipe " ++ ticked name ++ codes " was not confirmed"
