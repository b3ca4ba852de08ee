-- What falls: the levels that are left, each counted five times, so that up to four calls may stay in one.
use Rattle.std.proofs.Common.{◌+◌, ◌*◌, drop, length}
use Rattle.just_host.specs.Kinds.{AsksQuestions}
use Rattle.just_text.specs.Tokens.{lexeme}
use Rattle.evaluate_functions.specs.Arguments.{takes_text}
use Rattle.meaning_dialogues.specs.Calls.{arguments}
use Rattle.meaning_dialogues.specs.Evaluation.{dialogues, row, filled}
use Rattle.meaning_dialogues.specs.Terms.{terms_of, holes_of}
use Rattle.meaning_dialogues.proofs.Rows.{Leads, Fills, Lists}
use Rattle.evaluate_expressions.specs.Situations.{stage_at, reading_at}
use Rattle.std.specs.String.{string_bytes}
use Rattle.evaluate_expressions.proofs.evaluator.Evaluator.+evaluate.Given as goal

abbrev pub decreases-evaluate : goal.decreases-evaluate
decreases-evaluate g l = 5 * l.memory.levels

abbrev pub decreases-evaluate_and : goal.decreases-evaluate_and
decreases-evaluate_and g l = 5 * l.memory.levels + 1

abbrev pub decreases-evaluate_or : goal.decreases-evaluate_or
decreases-evaluate_or g l = 5 * l.memory.levels + 1

abbrev pub decreases-evaluate_not : goal.decreases-evaluate_not
decreases-evaluate_not g l = 5 * l.memory.levels + 1

abbrev pub decreases-evaluate_assertion : goal.decreases-evaluate_assertion
decreases-evaluate_assertion g l = 5 * l.memory.levels + 2

abbrev pub decreases-evaluate_told_assertion : goal.decreases-evaluate_told_assertion
decreases-evaluate_told_assertion g l = 5 * l.memory.levels + 2

abbrev pub decreases-evaluate_failure : goal.decreases-evaluate_failure
decreases-evaluate_failure g l = 5 * l.memory.levels + 1

abbrev pub decreases-evaluate_choice : goal.decreases-evaluate_choice
decreases-evaluate_choice g l = 5 * l.memory.levels + 4

abbrev pub decreases-evaluate_option : goal.decreases-evaluate_option
decreases-evaluate_option g l = 5 * l.memory.levels + 4

abbrev pub decreases-evaluate_condition : goal.decreases-evaluate_condition
decreases-evaluate_condition g l = 5 * l.memory.levels + 3

abbrev pub decreases-evaluate_truth : goal.decreases-evaluate_truth
decreases-evaluate_truth g l = 5 * l.memory.levels + 3

abbrev pub decreases-evaluate_comparison : goal.decreases-evaluate_comparison
decreases-evaluate_comparison g l = 5 * l.memory.levels + 2

abbrev pub decreases-evaluate_pairing : goal.decreases-evaluate_pairing
decreases-evaluate_pairing g l = 5 * l.memory.levels + 2

abbrev pub decreases-evaluate_root_join : goal.decreases-evaluate_root_join
decreases-evaluate_root_join g l = 5 * l.memory.levels + 1

abbrev pub decreases-evaluate_appended : goal.decreases-evaluate_appended
decreases-evaluate_appended g l = 5 * l.memory.levels + 2

abbrev pub decreases-evaluate_sides : goal.decreases-evaluate_sides
decreases-evaluate_sides g l = 5 * l.memory.levels + 1

abbrev pub decreases-evaluate_list : goal.decreases-evaluate_list
decreases-evaluate_list g l = 5 * l.memory.levels + 1

abbrev pub decreases-evaluate_format : goal.decreases-evaluate_format
decreases-evaluate_format g l = 5 * l.memory.levels + 1

abbrev pub decreases-call : goal.decreases-call
decreases-call g l = 5 * l.memory.levels + 3

abbrev pub decreases-call_defined : goal.decreases-call_defined
decreases-call_defined g l = 5 * l.memory.levels + 2

abbrev pub decreases-evaluate_row : goal.decreases-evaluate_row
decreases-evaluate_row g l = 5 * l.memory.levels + 1

abbrev pub decreases-call_builtin : goal.decreases-call_builtin
decreases-call_builtin g l = 5 * l.memory.levels + 2

abbrev pub decreases-evaluate_arguments : goal.decreases-evaluate_arguments
decreases-evaluate_arguments g l = 5 * l.memory.levels + 1

-- what was asked so far
abbrev pub invariant-evaluate_arguments-loop-expression : goal.invariant-evaluate_arguments-loop-expression
invariant-evaluate_arguments-loop-expression g l =
    let ds = dialogues (stage_at l.self) in
    let given = arguments (takes_text l.function) (lexeme l.name.token) in
    record {
      asks : AsksQuestions g.H.Host.goes l.initial.host l.host;
      leads : Leads (reading_at l.self) (given 0 (ds (terms_of l.arguments))) (given (length l.values.items) (ds (terms_of (drop l.expression-index l.arguments)))) l.initial.host.entries l.host.entries l.values.items;
    }

abbrev pub invariant-evaluate_format-loop-expression : goal.invariant-evaluate_format-loop-expression
invariant-evaluate_format-loop-expression g l =
    let fill = filled (stage_at l.self) in
    record {
      asks : AsksQuestions g.H.Host.goes l.initial.host l.host;
      fills : Fills (reading_at l.self) (fill l.start.cooked (holes_of l.expressions)) (fill (string_bytes l.text) (holes_of (drop l.expression-index l.expressions))) l.initial.host.entries l.host.entries;
    }

abbrev pub invariant-evaluate_list-loop-element : goal.invariant-evaluate_list-loop-element
invariant-evaluate_list-loop-element g l =
    let ds = dialogues (stage_at l.self) in
    record {
      asks : AsksQuestions g.H.Host.goes l.initial.host l.host;
      lists : Lists (reading_at l.self) (row (ds (terms_of l.elements))) (row (ds (terms_of (drop l.element-index l.elements)))) l.initial.host.entries l.host.entries l.list;
    }

abbrev pub invariant-evaluate_row-loop-expression : goal.invariant-evaluate_row-loop-expression
invariant-evaluate_row-loop-expression g l =
    let ds = dialogues (stage_at l.self) in
    record {
      asks : AsksQuestions g.H.Host.goes l.initial.host l.host;
      leads : Leads (reading_at l.self) (row (ds (terms_of l.expressions))) (row (ds (terms_of (drop l.expression-index l.expressions)))) l.initial.host.entries l.host.entries l.values.items;
    }
