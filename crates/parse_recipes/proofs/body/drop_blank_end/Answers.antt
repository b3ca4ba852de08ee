-- Each turn drops a blank line.
use Rattle.std.proofs.Common.{◌≡◌, ◌∙◌, ◌-◌, ◌<◌, length, take, Some, rules, arith}
use Rattle.std.specs.Prelude.{slice_get}
use Rattle.parse_recipes.proofs.BlankEnd.{end, one_shorter, turn}
use Rattle.parse_recipes.proofs.body.drop_blank_end.Goals as goal

pub loop-line-preserved-then-is_empty : goal.loop-line-preserved-then-is_empty
loop-line-preserved-then-is_empty c =
    let xs = c.loop-line.lines.items in
    let last : slice_get xs (length xs - 1) ≡ Some c.in-Some.line.now = grind arith in
    let blank : length c.in-Some.line.now.fragments.items ≡ 0 = grind arith in
    let kept : c.pop.new.self.items ≡ take (length xs - 1) xs = search rules in
    record {
      kept = turn xs c.pop.new.self.items c.in-Some.line.now last blank kept ∙ c.loop-line.invariant.kept;
      front = one_shorter c.args.lines.now.items xs c.pop.new.self.items kept c.loop-line.invariant.front;
    }

pub returns-else-is_empty-clause-kept : goal.returns-else-is_empty-clause-kept
returns-else-is_empty-clause-kept c =
    let xs = c.loop-line.lines.items in
    let last : slice_get xs (length xs - 1) ≡ Some c.in-Some.line.now = grind arith in
    let text : 0 < length c.in-Some.line.now.fragments.items = grind arith in
    end xs c.in-Some.line.now last text ∙ c.loop-line.invariant.kept
