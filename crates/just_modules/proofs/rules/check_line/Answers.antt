-- What is wrong with the line, or that nothing is.
use Rattle.std.proofs.Common.{sym, ◌∙◌}
use Rattle.just_modules.proofs.BodyLines.{line_is_clear, space_breaks, marks_break}
use Rattle.just_modules.proofs.rules.check_line.Goals as goal

pub returns-then-begins_with_space-clause-broken : goal.returns-then-begins_with_space-clause-broken
returns-then-begins_with_space-clause-broken c = space_breaks c.args.guards c.args.line.now _ c.error-refusal.ensures.kind (sym c.begins_with_space.ensures ∙ c.if-begins_with_space.true)

pub returns-then-has_both_marks-clause-broken : goal.returns-then-has_both_marks-clause-broken
returns-then-has_both_marks-clause-broken c = marks_break c.args.guards c.args.line.now _ c.error-refusal-then-has_both_marks.ensures.kind (sym c.has_both_marks.ensures ∙ c.if-has_both_marks.true)

pub returns-clause-clear : goal.returns-clause-clear
returns-clause-clear c = line_is_clear c.args.guards c.args.line.now (sym c.begins_with_space.ensures ∙ c.if-begins_with_space.false) (sym c.has_both_marks.ensures ∙ c.if-has_both_marks.false)
