-- The places of the modules to come.
use Rattle.std.proofs.Common.{◌≡◌, ℕ, suc, ◌+◌, ◌-◌, ◌<◌, ◌∷◌, ap, arith}
use Rattle.std.specs.List.{range_with_len}

-- the first of them
pub range_more : (place count : ℕ) → place < count → range_with_len place (count - place) ≡ place ∷ range_with_len (place + 1) (count - (place + 1))
range_more place count lt =
    let more : count - place ≡ suc (count - (place + 1)) = omega arith in
    ap (range_with_len place) more
