use Rattle.std.proofs.Common.{arith, refl, ◌≡◌, false}
use Rattle.std.proofs.lemmas.Str.Pattern.{split_parts}
use Rattle.just_value.specs.Words.{is_override}
use Rattle.just_value.proofs.Cuts.{stands_nowhere}
use Rattle.just_value.proofs.positional.read_override.Goals as goal

pub returns-in_default : goal.returns-in_default
returns-in_default c =
    let m = split_parts 61 c.args.word.now c.split_once.result c.split_once.ensures.cases (omega arith) in
    let no_equals : is_override c.args.word.now ≡ false = stands_nowhere 61 c.args.word.now (rw c.in_default.is at m) in
    rw no_equals refl
