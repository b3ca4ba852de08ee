-- As many are dropped as blank ones stand at the end.
use Rattle.std.proofs.Common.{arith}
use Rattle.parse_recipes.proofs.BlankEnd.{dropped}
use Rattle.parse_recipes.proofs.body.count_blank_end.Goals as goal

pub overflow_sub-result : goal.overflow_sub-result
overflow_sub-result c = let d = dropped c.args.lines.now.items c.drop_blank_end.new.lines.items c.drop_blank_end.ensures.kept in omega arith

pub returns-clause-count : goal.returns-clause-count
returns-clause-count c = let d = dropped c.args.lines.now.items c.drop_blank_end.new.lines.items c.drop_blank_end.ensures.kept in omega arith
