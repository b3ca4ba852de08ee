-- The version that a file asks for.
use Rattle.std.specs.Prelude.{Bool, true, false}
use Rattle.std.specs.Ordering.{nat_cmp, ordering_then}
use Rattle.std.specs.declared.cmp.Ordering.{Ordering}
use Rattle.std.specs.declared.cmp.Ordering.TheVariants.{Equal, Greater, Less}
use Rattle.semver.specs.declared.Version.{Version}
use Rattle.semver.specs.Identifiers.{pre_text}
use Rattle.semver.specs.Order.{pre_cmp}
use Rattle.semver.specs.Parse.{Parts}

-- the order of a version that was read and another, without build metadata
abbrev pub precedence : Parts → Version → Ordering
precedence p v =
    ordering_then (nat_cmp p.0 v.major) (ordering_then (nat_cmp p.1 v.minor) (ordering_then (nat_cmp p.2 v.patch) (pre_cmp p.3 (pre_text v.pre))))

abbrev pub is_greater : Ordering → Bool
is_greater Greater = true
is_greater Equal = false
is_greater Less = false

-- the version that was read is above the other
abbrev pub is_above : Parts → Version → Bool
is_above p v = is_greater (precedence p v)
