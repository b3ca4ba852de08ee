use Rattle.std.proofs.Common.{◌≡◌, ◌++◌, ◌<◌, ℕ, List, [], ◌∷◌, length, codes, refl, arith}
use Rattle.just_value.specs.Values.{value_text}
use Rattle.run_plan.specs.Plans.{positional_text}
use Rattle.run_plan.proofs.lines.push_positional.Goals as goal

positional : (words : List (List ℕ)) → 0 < length words → positional_text words ≡ codes " positional " ++ value_text words
positional [] h = absurd (let no : ⊥ = omega (arith, h) in no)
positional (word ∷ words) h = refl

pub returns : goal.returns
returns c =
    let some : 0 < length c.args.words.now = grind arith in
    rw (positional c.args.words.now some, ← c.in_ok-words.ensures) c.push_printed.ensures
