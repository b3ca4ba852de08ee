-- Modules of a resolved justfile.
use Rattle.std.specs.Prelude.{ℕ}
use Rattle.justfile_analyzer.specs.declared.justfile.Justfile.{Justfile}

-- the place of a module among all modules
abbrev pub place_of : Justfile → ℕ
place_of justfile = justfile.module
