-- The names so far are in the set, and those of the rest are left.
use Rattle.std.proofs.Common.{◌≡◌, ℕ, List, length}
use Rattle.std.specs.Prelude.{◌||◌}
use denote.Text.{Utf8}
use denote.Shadow.{shadow}
use Rattle.modules_compilation.specs.Modulepaths.{pieces}
use Rattle.justfile_analyzer.specs.MenusOf.{has_name, is_among}
use Rattle.justfile_analyzer.proofs.names.add_names.Given as goal

abbrev pub invariant-loop-name : goal.invariant-loop-name
invariant-loop-name l =
    shadow (Utf8 l.rest) × ((name : List ℕ) → (has_name l.names name || is_among (pieces l.rest) name) ≡ (has_name l.initial.names name || is_among (pieces l.path) name))

abbrev pub decreases-loop-name : goal.decreases-loop-name
decreases-loop-name l = length l.rest
