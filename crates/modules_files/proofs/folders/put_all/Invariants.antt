-- The keys so far are put with what was found.
use Rattle.std.proofs.Common.{◌≡◌, ◌||◌, ℕ, List, take}
use Rattle.std.specs.List.{list_any}
use Rattle.std.specs.Str.{bytes_eq}
use Rattle.modules_files.specs.Found.{borrowed, has_text}
use Rattle.modules_files.proofs.folders.put_all.Given as goal

abbrev pub invariant-loop-key : goal.invariant-loop-key
invariant-loop-key l = (other : List ℕ) → has_text l.found other ≡ (has_text l.initial.found other || list_any (bytes_eq other) (borrowed (take l.key-index l.keys)))
