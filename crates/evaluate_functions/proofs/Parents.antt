-- The parent of a path.
use Rattle.std.proofs.Common.{ℕ, List, ◌≡◌}
use Rattle.std.specs.Path.{path_parent}
use Rattle.just_value.specs.Paths as spec
use Rattle.just_value.proofs.PathParts as parts

pub parent_is : (path : List ℕ) → path_parent path ≡ spec.parent path
parent_is path = parts.parent_is path
