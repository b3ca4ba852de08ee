-- What stood for the second of two values where both were given together, and where it was refused.
use Rattle.std.proofs.Common.{◌≡◌, Ok, Err, Result, rules}
use Rattle.std.specs.Result.{result_map_both}

pub both_given : {A B F : Type 0} (a : A) (s : Result B F) (p : A × B) → Ok p ≡ result_map_both {U = A × B} (λ b. (a, b)) (λ f. f) s → (p.0 ≡ a) × (s ≡ Ok p.1)
both_given a (Ok b) p same = search rules
both_given a (Err f) p same = search rules

pub second_refused : {A B F : Type 0} (a : A) (s : Result B F) (e : F) → Err e ≡ result_map_both {U = A × B} (λ b. (a, b)) (λ f. f) s → s ≡ Err e
second_refused a (Ok b) e same = search rules
second_refused a (Err f) e same = search rules
