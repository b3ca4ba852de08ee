-- The names of the words so far are in the set.
use Rattle.std.proofs.Common.{◌≡◌, ℕ, List, take}
use Rattle.justfile_analyzer.specs.MenusOf.{has_name, is_wanted}
use Rattle.justfile_analyzer.proofs.names.names_in.Given as goal

abbrev pub invariant-loop-word : goal.invariant-loop-word
invariant-loop-word l = (name : List ℕ) → has_name l.names name ≡ is_wanted (take l.word-index l.words) name
