-- The words so far are names.
use Rattle.std.proofs.Common.{◌≡◌, true, take}
use Rattle.std.specs.List.{list_all}
use Rattle.modules_compilation.specs.Modulepaths.{is_name}
use Rattle.modules_compilation.specs.Tables.{texts}
use Rattle.modules_compilation.proofs.modulepath.names.Given as goal

abbrev pub invariant-loop-word : goal.invariant-loop-word
invariant-loop-word l = (l.components.items ≡ texts (take l.word-index l.words)) × (list_all is_name l.components.items ≡ true)
