-- The set has one number more.
use Rattle.std.proofs.Common.{◌∙◌, ap, cond, true}
use Rattle.std.specs.BTreeSet.{contains}
use Rattle.std.specs.Cmp.{unsigned_tied}
use Rattle.std.specs.Ordering.{nat_cmp}
use Rattle.resolve_analysis.proofs.Marking.{number_added}
use Rattle.resolve_analysis.proofs.marked.add_number.Goals as goal

pub returns-in-Ok : goal.returns-in-Ok
returns-in-Ok c = number_added c.args.numbers.now c.insert.new.self c.args.number (λ n. c.in-Ok.ensures.updates.0 n ∙ ap (λ b. cond b true (contains nat_cmp c.args.numbers.now n)) (unsigned_tied c.args.number n))
