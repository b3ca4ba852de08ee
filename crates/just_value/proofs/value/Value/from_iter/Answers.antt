-- The texts that the whole run gave are kept.
use Rattle.std.proofs.Common.{map, ap}
use Rattle.std.specs.String.{string_bytes}
use Rattle.just_value.proofs.value.Value.from_iter.Goals as goal

pub returns : goal.returns
returns g c = let w = c.in_ok-elements.ensures.runs tt in (w.0, w.1, w.2, ap (map string_bytes) w.3.0)
