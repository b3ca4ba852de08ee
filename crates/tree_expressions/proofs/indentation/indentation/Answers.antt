-- Where no text is left the run is that of all lines.
use Rattle.std.proofs.Common.{◌≡◌, length, sym, ap, ◌∙◌, arith}
use Rattle.std.specs.Prelude.{fold}
use Rattle.std.specs.Option.{option_copied}
use Rattle.std.proofs.lemmas.Bool.Decides.{nat_tests}
use Rattle.tree_expressions.specs.Indentation.{narrowed}
use Rattle.tree_expressions.proofs.Lines.{no_lines}
use Rattle.tree_expressions.proofs.indentation.indentation.Goals as goal

pub returns : goal.returns
returns c =
    let over : length c.loop-rest.rest.now ≡ 0 = grind (arith, nat_tests) in
    sym (ap (λ lines. fold narrowed (option_copied c.loop-rest.run) lines) (no_lines c.loop-rest.rest.now over)) ∙ c.loop-rest.invariant.1
