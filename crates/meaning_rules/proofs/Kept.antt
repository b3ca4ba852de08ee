-- A variable has one override that counts.
use Rattle.std.proofs.Common.{◌≡◌, sym, ◌∙◌, ap, ℕ, ◌≤◌, arith}
use Rattle.std.specs.Prelude.{slice_get}
use Rattle.std.proofs.lemmas.Option.{same_Some}
use Rattle.meaning_rules.specs.Laws.{OverridesAreUnique}

both_ways : (m n : ℕ) → m ≤ n → n ≤ m → m ≡ n
both_ways m n p q = omega arith

pub overrides_are_unique : OverridesAreUnique
overrides_are_unique w o path own name text other a b =
    let at : a.at ≡ b.at = both_ways a.at b.at (b.last a.at (a.written, text) a.found a.names) (a.last b.at (b.written, other) b.found b.names) in
    let same : (a.written, text) ≡ (b.written, other) = same_Some (a.written, text) (b.written, other) (sym a.found ∙ ap (slice_get o) at ∙ b.found) in
    ap (λ p. p.1) same
