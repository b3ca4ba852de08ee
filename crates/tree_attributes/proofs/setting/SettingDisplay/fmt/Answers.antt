-- A truth value is printed as such, whatever setting has it.
use Rattle.std.proofs.Common.{rules, ◌≡◌, arith}
use Rattle.std.proofs.Output.{has_written_of_eq}
use Rattle.tree_attributes.specs.Settings as spec
use Rattle.tree_attributes.proofs.setting.SettingDisplay.fmt.Goals as goal

pub returns-in-Truth-clause-writes : goal.returns-in-Truth-clause-writes
returns-in-Truth-clause-writes g c plain ok =
    let wrote = c.fmt.ensures.writes plain ok in
    let shown : spec.value_shape c.args.self.now ≡ spec.truth c.in-Truth.value = first_of (cc, grind (arith, c.in-Truth.is), search (rules, c.in-Truth.is)) in
    has_written_of_eq _ _ _ _ _ (rw shown (search rules)) wrote
