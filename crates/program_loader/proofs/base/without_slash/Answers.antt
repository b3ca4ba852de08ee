-- A path that no slash ends stays as it is.
use Rattle.std.proofs.Common.{◌≢◌, ℕ, List, [], ◌∷◌, ◌++◌, refl, arith, inr}
use Rattle.std.proofs.lemmas.Str.Pattern.{strip_suffix_char}
use Rattle.program_loader.proofs.base.without_slash.Goals as goal

pub returns-in_default : goal.returns-in_default
returns-in_default c =
    let m = strip_suffix_char 47 c.args.path.now c.strip_suffix.result c.strip_suffix.ensures.cases (omega arith) in
    let unended : (front : List ℕ) → c.args.path.now ≢ front ++ (47 ∷ []) = rw c.in_default.is at m in
    inr (refl, λ front _. unended front)
