-- The parts so far stand after the front.
use Rattle.std.proofs.Common.{◌≡◌, take}
use Rattle.std.specs.Prelude.{string_bytes}
use Rattle.modules_compilation.specs.Paths.{folder_text}
use Rattle.modules_compilation.specs.Tables.{texts}
use Rattle.modules_compilation.proofs.path.folder_text.Given as goal

abbrev pub invariant-loop-part : goal.invariant-loop-part
invariant-loop-part l = string_bytes l.text ≡ folder_text l.front (texts (take l.part-index l.parts))
