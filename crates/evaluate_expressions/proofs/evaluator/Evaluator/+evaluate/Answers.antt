use Rattle.std.proofs.Common.{rules, None, ◌∙◌, ap, Ok, sym, Err, refl, ◌≡◌, ◌<◌, ◌+◌, ◌++◌, length, arith, Some}
use Rattle.evaluate_expressions.proofs.Conditions.{truthy, emptied, held, comparison_term, apart, apart_too}
use Rattle.meaning_dialogues.proofs.Dialogues.{then_goes, ends, then_stops, not_begun}
use Rattle.meaning_dialogues.specs.Evaluation.{truth, asserted, ticked, comparing, row, dialogue, dialogues, filled}
use Rattle.tree_expressions.specs.Printing.{text_of}
use Rattle.meaning_dialogues.specs.Faults.{assertion_failed}
use Rattle.evaluate_expressions.proofs.Shaped.{shaped}
use Rattle.std.proofs.lemmas.Result.{err_from_is_err_and}
use Rattle.meaning_dialogues.specs.Terms.{term_of, terms_of, holes_of}
use Rattle.meaning_dialogues.proofs.Rows.{lists_first, lists_more, lists_stop, lists_memory, lists_end, fills_more, fills_stop, fills_memory, fills_end, leads_more, leads_stop, leads_memory, leads_end, arguments_more, arguments_stop, arguments_refuse, arguments_begin, arguments_memory, arguments_end}
use Rattle.evaluate_expressions.specs.Situations.{stage_at, reading_at}
use Rattle.std.specs.String.{string_bytes}
use Rattle.meaning_dialogues.specs.Dialogue.{Evaluates}
use Rattle.evaluate_expressions.specs.Failures.{seen_above}
use Rattle.meaning_evaluation.specs.Stages.Stages.{defined_of}
use Rattle.evaluate_expressions.proofs.Calling.{call_in_run, call_refused, call_too_many, call_unmade}
use Rattle.just_text.specs.Tokens.{lexeme}
use Rattle.evaluate_functions.specs.Names.{function_of}
use Rattle.evaluate_functions.specs.Arguments.{takes_text}
use Rattle.meaning_dialogues.specs.Calls.{arguments, as_argument}
use Rattle.meaning_dialogues.proofs.Forms.{call_term, list_term, format_term}
use Rattle.evaluate_expressions.proofs.Levels.{and_term, backtick_term, concatenation_term, group_term, list_concatenation_term, not_term, or_term, literal_term, variable_term, reads}
use Rattle.evaluate_expressions.proofs.evaluator.Evaluator.+evaluate.Goals as goal

pub evaluate-returns-then-memory-eq0-clause-evaluates : goal.evaluate-returns-then-memory-eq0-clause-evaluates
evaluate-returns-then-memory-eq0-clause-evaluates g t c = not_begun _ _

pub evaluate-returns-in-And-clause-evaluates : goal.evaluate-returns-in-And-clause-evaluates
evaluate-returns-in-And-clause-evaluates g t c = rw (c.in-And.is, and_term) (search rules)

pub evaluate-returns-in-Backtick-clause-evaluates : goal.evaluate-returns-in-Backtick-clause-evaluates
evaluate-returns-in-Backtick-clause-evaluates g t c = rw (c.in-Backtick.is, backtick_term) (search rules)

pub evaluate-returns-in-Call-clause-evaluates : goal.evaluate-returns-in-Call-clause-evaluates
evaluate-returns-in-Call-clause-evaluates g t c = rw (c.in-Call.is, call_term) (search rules)

pub evaluate-returns-in-Comparison-clause-evaluates : goal.evaluate-returns-in-Comparison-clause-evaluates
evaluate-returns-in-Comparison-clause-evaluates g t c = rw (c.in-Comparison.is, comparison_term) (search rules)

pub evaluate-returns-in-Concatenation-clause-evaluates : goal.evaluate-returns-in-Concatenation-clause-evaluates
evaluate-returns-in-Concatenation-clause-evaluates g t c = rw (c.in-Concatenation.is, concatenation_term) (search rules)

pub evaluate-returns-in-FormatString-clause-evaluates : goal.evaluate-returns-in-FormatString-clause-evaluates
evaluate-returns-in-FormatString-clause-evaluates g t c = rw (c.in-FormatString.is, format_term) (search rules)

pub evaluate-returns-in-Group-clause-evaluates : goal.evaluate-returns-in-Group-clause-evaluates
evaluate-returns-in-Group-clause-evaluates g t c = rw (c.in-Group.is, group_term) (search rules)

pub evaluate-returns-in-List-clause-evaluates : goal.evaluate-returns-in-List-clause-evaluates
evaluate-returns-in-List-clause-evaluates g t c = rw (c.in-List.is, list_term) (search rules)

pub evaluate-returns-in-ListConcatenation-clause-evaluates : goal.evaluate-returns-in-ListConcatenation-clause-evaluates
evaluate-returns-in-ListConcatenation-clause-evaluates g t c = rw (c.in-ListConcatenation.is, list_concatenation_term) (search rules)

pub evaluate-returns-in-Not-clause-evaluates : goal.evaluate-returns-in-Not-clause-evaluates
evaluate-returns-in-Not-clause-evaluates g t c = rw (c.in-Not.is, not_term) (search rules)

pub evaluate-returns-in-Or-clause-evaluates : goal.evaluate-returns-in-Or-clause-evaluates
evaluate-returns-in-Or-clause-evaluates g t c = rw (c.in-Or.is, or_term) (search rules)

pub evaluate-returns-in-StringLiteral-clause-evaluates : goal.evaluate-returns-in-StringLiteral-clause-evaluates
evaluate-returns-in-StringLiteral-clause-evaluates g t c = rw (c.in-StringLiteral.is, literal_term) (ends _ c.literal_value.ensures)

pub evaluate-returns-in-Variable-clause-evaluates : goal.evaluate-returns-in-Variable-clause-evaluates
evaluate-returns-in-Variable-clause-evaluates g t c = rw (c.in-Variable.is, variable_term) (reads _ _ c.variable.ensures)

pub evaluate_and-returns-in_err-value-clause-evaluates : goal.evaluate_and-returns-in_err-value-clause-evaluates
evaluate_and-returns-in_err-value-clause-evaluates g t c =
    let p = err_from_is_err_and c.from_residual.result c.from_residual.ensures.1 in
    rw (p.1, p.2) (then_stops _ _ c.in_err-value.ensures.evaluates)

pub evaluate_and-returns-then-is_truthy-clause-evaluates : goal.evaluate_and-returns-then-is_truthy-clause-evaluates
evaluate_and-returns-then-is_truthy-clause-evaluates g t c =
    let is = truthy c.is_truthy.result c.in_ok-value.value c.is_truthy.ensures ∙ c.if-is_truthy.true in
    then_goes _ _ c.in_ok-value.ensures.evaluates (rw is (search rules))

pub evaluate_and-returns-clause-evaluates : goal.evaluate_and-returns-clause-evaluates
evaluate_and-returns-clause-evaluates g t c =
    let is = truthy c.is_truthy.result c.in_ok-value.value c.is_truthy.ensures ∙ c.if-is_truthy.false in
    then_goes _ _ c.in_ok-value.ensures.evaluates (rw is (search (rules, ends)))

pub evaluate_or-returns-in_err-value-clause-evaluates : goal.evaluate_or-returns-in_err-value-clause-evaluates
evaluate_or-returns-in_err-value-clause-evaluates g t c =
    let p = err_from_is_err_and c.from_residual.result c.from_residual.ensures.1 in
    rw (p.1, p.2) (then_stops _ _ c.in_err-value.ensures.evaluates)

pub evaluate_or-returns-then-is_truthy-clause-evaluates : goal.evaluate_or-returns-then-is_truthy-clause-evaluates
evaluate_or-returns-then-is_truthy-clause-evaluates g t c =
    let is = truthy c.is_truthy.result c.in_ok-value.value c.is_truthy.ensures ∙ c.if-is_truthy.true in
    then_goes _ _ c.in_ok-value.ensures.evaluates (rw is (search (rules, ends)))

pub evaluate_or-returns-clause-evaluates : goal.evaluate_or-returns-clause-evaluates
evaluate_or-returns-clause-evaluates g t c =
    let is = truthy c.is_truthy.result c.in_ok-value.value c.is_truthy.ensures ∙ c.if-is_truthy.false in
    then_goes _ _ c.in_ok-value.ensures.evaluates (rw is (search rules))

pub evaluate_not-returns-in_err-value-clause-evaluates : goal.evaluate_not-returns-in_err-value-clause-evaluates
evaluate_not-returns-in_err-value-clause-evaluates g t c =
    let p = err_from_is_err_and c.from_residual.result c.from_residual.ensures.1 in
    rw (p.1, p.2) (then_stops _ _ c.in_err-value.ensures.evaluates)

pub evaluate_not-returns-clause-evaluates : goal.evaluate_not-returns-clause-evaluates
evaluate_not-returns-clause-evaluates g t c = then_goes _ _ c.in_ok-value.ensures.evaluates (ends _ (λ n. c.truth_value.ensures n ∙ ap (λ b. Ok (truth b)) (emptied c.is_empty.result c.in_ok-value.value c.is_empty.ensures)))

pub evaluate_assertion-returns-in_err-value-clause-evaluates : goal.evaluate_assertion-returns-in_err-value-clause-evaluates
evaluate_assertion-returns-in_err-value-clause-evaluates g t c =
    let p = err_from_is_err_and c.from_residual.result c.from_residual.ensures.1 in
    rw (p.1, p.2) (then_stops _ _ c.in_err-value.ensures.evaluates)

pub evaluate_assertion-returns-then-is_truthy-clause-evaluates : goal.evaluate_assertion-returns-then-is_truthy-clause-evaluates
evaluate_assertion-returns-then-is_truthy-clause-evaluates g t c =
    let is = truthy c.is_truthy.result c.in_ok-value.value c.is_truthy.ensures ∙ c.if-is_truthy.true in
    then_goes _ _ c.in_ok-value.ensures.evaluates (rw is (ends _ (λ n. c.asserted.ensures n ∙ ap (λ b. Ok (asserted b c.in_ok-value.value)) c.lists.ensures)))

pub evaluate_assertion-returns-clause-evaluates : goal.evaluate_assertion-returns-clause-evaluates
evaluate_assertion-returns-clause-evaluates g t c =
    let is = truthy c.is_truthy.result c.in_ok-value.value c.is_truthy.ensures ∙ c.if-is_truthy.false in
    then_goes _ _ c.in_ok-value.ensures.evaluates (rw is (ends _ (λ n. ap Err (c.condition_failed.ensures (λ e. n (ap Err e)) ∙ ap (λ s. assertion_failed (ticked (text_of s))) (sym (shaped c.args.condition.now))))))

pub evaluate_told_assertion-returns-in_err-value-clause-evaluates : goal.evaluate_told_assertion-returns-in_err-value-clause-evaluates
evaluate_told_assertion-returns-in_err-value-clause-evaluates g t c =
    let p = err_from_is_err_and c.from_residual.result c.from_residual.ensures.1 in
    rw (p.1, p.2) (then_stops _ _ c.in_err-value.ensures.evaluates)

pub evaluate_told_assertion-returns-then-is_truthy-clause-evaluates : goal.evaluate_told_assertion-returns-then-is_truthy-clause-evaluates
evaluate_told_assertion-returns-then-is_truthy-clause-evaluates g t c =
    let is = truthy c.is_truthy.result c.in_ok-value.value c.is_truthy.ensures ∙ c.if-is_truthy.true in
    then_goes _ _ c.in_ok-value.ensures.evaluates (rw is (ends _ (λ n. c.asserted.ensures n ∙ ap (λ b. Ok (asserted b c.in_ok-value.value)) c.lists.ensures)))

pub evaluate_told_assertion-returns-clause-evaluates : goal.evaluate_told_assertion-returns-clause-evaluates
evaluate_told_assertion-returns-clause-evaluates g t c =
    let is = truthy c.is_truthy.result c.in_ok-value.value c.is_truthy.ensures ∙ c.if-is_truthy.false in
    then_goes _ _ c.in_ok-value.ensures.evaluates (rw is c.evaluate_failure.ensures.evaluates)

pub evaluate_failure-returns-in_err-message-clause-evaluates : goal.evaluate_failure-returns-in_err-message-clause-evaluates
evaluate_failure-returns-in_err-message-clause-evaluates g t c =
    let p = err_from_is_err_and c.from_residual.result c.from_residual.ensures.1 in
    rw (p.1, p.2) (then_stops _ _ c.in_err-message.ensures.evaluates)

pub evaluate_failure-returns-clause-evaluates : goal.evaluate_failure-returns-clause-evaluates
evaluate_failure-returns-clause-evaluates g t c = then_goes _ _ c.in_ok-message.ensures.evaluates (ends _ (λ n. ap Err (c.message_failed.ensures (λ e. n (ap Err e)))))

pub evaluate_choice-returns-in_err-evaluate_condition-clause-evaluates : goal.evaluate_choice-returns-in_err-evaluate_condition-clause-evaluates
evaluate_choice-returns-in_err-evaluate_condition-clause-evaluates g t c =
    let p = err_from_is_err_and c.from_residual.result c.from_residual.ensures.1 in
    rw (p.1, p.2) (then_stops _ _ c.in_err-evaluate_condition.ensures.evaluates)

pub evaluate_choice-returns-then-branch-clause-evaluates : goal.evaluate_choice-returns-then-branch-clause-evaluates
evaluate_choice-returns-then-branch-clause-evaluates g t c = then_goes _ _ c.in_ok-evaluate_condition.ensures.evaluates (rw c.if-branch.true c.evaluate.ensures.evaluates)

pub evaluate_choice-returns-else-branch-clause-evaluates : goal.evaluate_choice-returns-else-branch-clause-evaluates
evaluate_choice-returns-else-branch-clause-evaluates g t c = then_goes _ _ c.in_ok-evaluate_condition.ensures.evaluates (rw c.if-branch.false c.evaluate-else-branch.ensures.evaluates)

pub evaluate_option-returns-in_err-evaluate_condition-clause-evaluates : goal.evaluate_option-returns-in_err-evaluate_condition-clause-evaluates
evaluate_option-returns-in_err-evaluate_condition-clause-evaluates g t c =
    let p = err_from_is_err_and c.from_residual.result c.from_residual.ensures.1 in
    rw (p.1, p.2) (then_stops _ _ c.in_err-evaluate_condition.ensures.evaluates)

pub evaluate_option-returns-then-branch-clause-evaluates : goal.evaluate_option-returns-then-branch-clause-evaluates
evaluate_option-returns-then-branch-clause-evaluates g t c = then_goes _ _ c.in_ok-evaluate_condition.ensures.evaluates (rw c.if-branch.true c.evaluate.ensures.evaluates)

pub evaluate_option-returns-else-branch-clause-evaluates : goal.evaluate_option-returns-else-branch-clause-evaluates
evaluate_option-returns-else-branch-clause-evaluates g t c = then_goes _ _ c.in_ok-evaluate_condition.ensures.evaluates (rw c.if-branch.false (ends _ (λ n. ap Ok c.new.ensures)))

pub evaluate_condition-returns-in_err-value : goal.evaluate_condition-returns-in_err-value
evaluate_condition-returns-in_err-value g t c =
    let p = err_from_is_err_and c.from_residual.result c.from_residual.ensures.1 in
    record { asks = search rules; evaluates = rw (p.1, p.2) (then_stops _ _ c.in_err-value.ensures.evaluates) }

pub evaluate_condition-returns-in_default : goal.evaluate_condition-returns-in_default
evaluate_condition-returns-in_default g t c = record { asks = search rules; evaluates = then_goes _ _ c.in_ok-value.ensures.evaluates (ends _ (λ n. ap Ok (sym (truthy c.is_truthy.result c.in_ok-value.value c.is_truthy.ensures)))) }

pub evaluate_condition-returns-clause-evaluates : goal.evaluate_condition-returns-clause-evaluates
evaluate_condition-returns-clause-evaluates g t c =
    let self = c.args.self.now in
    let compared : Evaluates (reading_at self) (comparing c.in-Comparison.operator (dialogue (stage_at self) (term_of c.in-Comparison.lhs.value)) (dialogue (stage_at self) (term_of c.in-Comparison.rhs.value))) c.args.host.now.entries c.evaluate_comparison.new.host.entries (seen_above c.evaluate_comparison.result)
    = search rules in
    rw (c.in-Comparison.is, comparison_term) (held compared)

pub evaluate_truth-returns-in_err-truth-clause-evaluates : goal.evaluate_truth-returns-in_err-truth-clause-evaluates
evaluate_truth-returns-in_err-truth-clause-evaluates g t c =
    let p = err_from_is_err_and c.from_residual.result c.from_residual.ensures.1 in
    rw (p.1, p.2) (then_stops _ _ c.in_err-truth.ensures.evaluates)

pub evaluate_truth-returns-clause-evaluates : goal.evaluate_truth-returns-clause-evaluates
evaluate_truth-returns-clause-evaluates g t c = then_goes _ _ c.in_ok-truth.ensures.evaluates (ends _ c.truth_value.ensures)

pub evaluate_comparison-returns-in_err-sides-clause-evaluates : goal.evaluate_comparison-returns-in_err-sides-clause-evaluates
evaluate_comparison-returns-in_err-sides-clause-evaluates g t c =
    let p = err_from_is_err_and c.from_residual.result c.from_residual.ensures.1 in
    rw (p.1, p.2) (then_stops _ _ c.in_err-sides.ensures.evaluates)

pub evaluate_comparison-returns-clause-evaluates : goal.evaluate_comparison-returns-clause-evaluates
evaluate_comparison-returns-clause-evaluates g t c = then_goes _ _ c.in_ok-sides.ensures.evaluates (ends _ c.compared.ensures)

pub evaluate_pairing-returns-in_err-sides-clause-evaluates : goal.evaluate_pairing-returns-in_err-sides-clause-evaluates
evaluate_pairing-returns-in_err-sides-clause-evaluates g t c =
    let p = err_from_is_err_and c.from_residual.result c.from_residual.ensures.1 in
    rw (p.1, p.2) (then_stops _ _ c.in_err-sides.ensures.evaluates)

pub evaluate_pairing-returns-clause-evaluates : goal.evaluate_pairing-returns-clause-evaluates
evaluate_pairing-returns-clause-evaluates g t c = then_goes _ _ c.in_ok-sides.ensures.evaluates (ends _ c.applied.ensures)

pub evaluate_root_join-returns-in_err-right-clause-evaluates : goal.evaluate_root_join-returns-in_err-right-clause-evaluates
evaluate_root_join-returns-in_err-right-clause-evaluates g t c =
    let p = err_from_is_err_and c.from_residual.result c.from_residual.ensures.1 in
    rw (p.1, p.2) (then_stops _ _ c.in_err-right.ensures.evaluates)

pub evaluate_root_join-returns-clause-evaluates : goal.evaluate_root_join-returns-clause-evaluates
evaluate_root_join-returns-clause-evaluates g t c = then_goes _ _ c.in_ok-right.ensures.evaluates (ends _ c.joined_to_nothing.ensures)

pub evaluate_appended-returns-in_err-left-clause-evaluates : goal.evaluate_appended-returns-in_err-left-clause-evaluates
evaluate_appended-returns-in_err-left-clause-evaluates g t c =
    let p = err_from_is_err_and c.from_residual.result c.from_residual.ensures.1 in
    rw (p.1, p.2) (then_stops _ _ c.in_err-left.ensures.evaluates)

pub evaluate_appended-returns-in_err-append-clause-evaluates : goal.evaluate_appended-returns-in_err-append-clause-evaluates
evaluate_appended-returns-in_err-append-clause-evaluates g t c =
    let p = err_from_is_err_and c.from_residual-in_err-append.result c.from_residual-in_err-append.ensures.1 in
    rw (p.1, p.2) (then_goes _ _ c.in_ok-left.ensures.evaluates (not_begun _ _))

pub evaluate_appended-returns-clause-evaluates : goal.evaluate_appended-returns-clause-evaluates
evaluate_appended-returns-clause-evaluates g t c = then_goes _ _ c.in_ok-left.ensures.evaluates (ends _ (λ n. ap Ok (search rules)))

pub evaluate_sides-returns-in_err-left-clause-evaluates : goal.evaluate_sides-returns-in_err-left-clause-evaluates
evaluate_sides-returns-in_err-left-clause-evaluates g t c =
    let p = err_from_is_err_and c.from_residual.result c.from_residual.ensures.1 in
    rw (p.1, p.2) (then_stops _ _ c.in_err-left.ensures.evaluates)

pub evaluate_sides-returns-in_err-right-clause-evaluates : goal.evaluate_sides-returns-in_err-right-clause-evaluates
evaluate_sides-returns-in_err-right-clause-evaluates g t c =
    let p = err_from_is_err_and c.from_residual-in_err-right.result c.from_residual-in_err-right.ensures.1 in
    rw (p.1, p.2) (then_goes _ _ c.in_ok-left.ensures.evaluates (then_stops _ _ c.in_err-right.ensures.evaluates))

pub evaluate_sides-returns-clause-evaluates : goal.evaluate_sides-returns-clause-evaluates
evaluate_sides-returns-clause-evaluates g t c = then_goes _ _ c.in_ok-left.ensures.evaluates (then_goes _ _ c.in_ok-right.ensures.evaluates (ends _ (λ n. refl)))

pub evaluate_list-returns-in_err-value-clause-evaluates : goal.evaluate_list-returns-in_err-value-clause-evaluates
evaluate_list-returns-in_err-value-clause-evaluates g t c =
    let self = c.args.self.now in
    let es = c.args.elements.now in
    let lt : c.loop-element.element-index < length es = omega arith in
    let p = err_from_is_err_and c.from_residual.result c.from_residual.ensures.1 in
    rw (p.1, p.2) (lists_stop (reading_at self) (stage_at self) es c.args.host.now.entries c.loop-element.host.entries _ c.loop-element.list c.loop-element.element-index c.element-item.result _ c.loop-element.invariant.lists lt c.element-item.is c.in_err-value.ensures.evaluates)

pub evaluate_list-returns-in_err-append-clause-evaluates : goal.evaluate_list-returns-in_err-append-clause-evaluates
evaluate_list-returns-in_err-append-clause-evaluates g t c =
    let self = c.args.self.now in
    let es = c.args.elements.now in
    let lt : c.loop-element.element-index < length es = omega arith in
    let more = lists_more (reading_at self) (row (dialogues (stage_at self) (terms_of es))) (stage_at self) es c.args.host.now.entries c.loop-element.host.entries _ c.loop-element.list (c.loop-element.list ++ c.in_ok-value.value) c.loop-element.element-index c.element-item.result c.in_ok-value.value c.loop-element.invariant.lists lt c.element-item.is c.in_ok-value.ensures.evaluates refl in
    let p = err_from_is_err_and c.from_residual-in_err-append.result c.from_residual-in_err-append.ensures.1 in
    rw (p.1, p.2) (lists_memory (reading_at self) (stage_at self) es c.args.host.now.entries _ _ (c.loop-element.element-index + 1) more)

pub evaluate_list-loop-element-init : goal.evaluate_list-loop-element-init
evaluate_list-loop-element-init g t c =
    let self = c.args.self.now in
    let all = row (dialogues (stage_at self) (terms_of c.args.elements.now)) in
    record { asks = λ kinds has start h. h; lists = rw c.new-list.ensures (lists_first (reading_at self) all c.args.host.now.entries) }

pub evaluate_list-loop-element-preserved : goal.evaluate_list-loop-element-preserved
evaluate_list-loop-element-preserved g t c =
    let self = c.args.self.now in
    let es = c.args.elements.now in
    let lt : c.loop-element.element-index < length es = omega arith in
    let more = lists_more (reading_at self) (row (dialogues (stage_at self) (terms_of es))) (stage_at self) es c.args.host.now.entries c.loop-element.host.entries _ c.loop-element.list c.append.new.self c.loop-element.element-index c.element-item.result c.in_ok-value.value c.loop-element.invariant.lists lt c.element-item.is c.in_ok-value.ensures.evaluates in
    record { asks = search rules; lists = search (rules, more) }

pub evaluate_list-returns-clause-evaluates : goal.evaluate_list-returns-clause-evaluates
evaluate_list-returns-clause-evaluates g t c = search (rules, lists_end)

pub evaluate_format-returns-in_err-text-clause-evaluates : goal.evaluate_format-returns-in_err-text-clause-evaluates
evaluate_format-returns-in_err-text-clause-evaluates g t c =
    let p = err_from_is_err_and c.from_residual.result c.from_residual.ensures.1 in
    rw (p.1, p.2) (not_begun _ _)

pub evaluate_format-returns-in_err-value-clause-evaluates : goal.evaluate_format-returns-in_err-value-clause-evaluates
evaluate_format-returns-in_err-value-clause-evaluates g t c =
    let self = c.args.self.now in
    let es = c.args.expressions.now in
    let lt : c.loop-expression.expression-index < length es = omega arith in
    let p = err_from_is_err_and c.from_residual-in_err-value.result c.from_residual-in_err-value.ensures.1 in
    rw (p.1, p.2) (then_stops _ _ (fills_stop (reading_at self) (filled (stage_at self) c.args.start.now.cooked (holes_of es)) (stage_at self) es c.args.host.now.entries c.loop-expression.host.entries _ (string_bytes c.loop-expression.text) c.loop-expression.expression-index c.loop-expression-item.result _ c.loop-expression.invariant.fills lt c.loop-expression-item.is c.in_err-value.ensures.evaluates))

pub evaluate_format-returns-in_err-push_joined-clause-evaluates : goal.evaluate_format-returns-in_err-push_joined-clause-evaluates
evaluate_format-returns-in_err-push_joined-clause-evaluates g t c =
    let self = c.args.self.now in
    let es = c.args.expressions.now in
    let all = filled (stage_at self) c.args.start.now.cooked (holes_of es) in
    let lt : c.loop-expression.expression-index < length es = omega arith in
    let more = fills_more (reading_at self) all (stage_at self) es c.args.host.now.entries c.loop-expression.host.entries _ (string_bytes c.loop-expression.text) c.loop-expression.expression-index c.loop-expression-item.result c.in_ok-value.value c.loop-expression.invariant.fills lt c.loop-expression-item.is c.in_ok-value.ensures.evaluates in
    let p = err_from_is_err_and c.from_residual-in_err-push_joined.result c.from_residual-in_err-push_joined.ensures.1 in
    rw (p.1, p.2) (then_stops _ _ (fills_memory (reading_at self) all _ c.args.host.now.entries _ more))

pub evaluate_format-loop-expression-preserved : goal.evaluate_format-loop-expression-preserved
evaluate_format-loop-expression-preserved g t c =
    let self = c.args.self.now in
    let es = c.args.expressions.now in
    let lt : c.loop-expression.expression-index < length es = omega arith in
    let more = fills_more (reading_at self) (filled (stage_at self) c.args.start.now.cooked (holes_of es)) (stage_at self) es c.args.host.now.entries c.loop-expression.host.entries _ (string_bytes c.loop-expression.text) c.loop-expression.expression-index c.loop-expression-item.result c.in_ok-value.value c.loop-expression.invariant.fills lt c.loop-expression-item.is c.in_ok-value.ensures.evaluates in
    record { asks = search rules; fills = search (rules, more) }

pub evaluate_format-returns-clause-evaluates : goal.evaluate_format-returns-clause-evaluates
evaluate_format-returns-clause-evaluates g t c =
    let self = c.args.self.now in
    let es = c.args.expressions.now in
    then_goes _ _ (fills_end (reading_at self) (filled (stage_at self) c.args.start.now.cooked (holes_of es)) (stage_at self) es c.args.host.now.entries c.loop-expression.host.entries (string_bytes c.loop-expression.text) c.loop-expression.expression-index c.loop-expression.invariant.fills (omega arith)) (ends _ c.laid_out.ensures)

pub call-returns-in_default-clause-evaluates : goal.call-returns-in_default-clause-evaluates
call-returns-in_default-clause-evaluates g t c = rw c.in_default.is (ends _ (λ n. ap Err (c.call_in_constant.ensures (λ e. n (ap Err e)))))

pub call_defined-returns-then-self-eq0-clause-evaluates : goal.call_defined-returns-then-self-eq0-clause-evaluates
call_defined-returns-then-self-eq0-clause-evaluates g t c =
    let self = c.args.self.now in
    let none : self.calls_left ≡ 0 = omega arith in
    call_too_many c.args.context.now self.module_scope.now self.is_dependency self.recipe self.calls_left (defined_of c.args.function.now) _ _ c.args.host.now.entries _ none (λ n. ap Err (c.too_many_calls.ensures (λ e. n (ap Err e))))

pub call_defined-returns-in_err-values-clause-evaluates : goal.call_defined-returns-in_err-values-clause-evaluates
call_defined-returns-in_err-values-clause-evaluates g t c =
    let self = c.args.self.now in
    let some : 0 < self.calls_left = omega arith in
    let row = rw c.requires.runs at c.in_err-values.ensures.evaluates in
    let p = err_from_is_err_and c.from_residual.result c.from_residual.ensures.1 in
    rw (p.1, p.2, c.requires.runs) (call_refused c.args.context.now self.module_scope.now self.is_dependency self.recipe self.calls_left (defined_of c.args.function.now) _ _ c.args.host.now.entries _ _ some row)

pub call_defined-returns-in_err-scope-clause-evaluates : goal.call_defined-returns-in_err-scope-clause-evaluates
call_defined-returns-in_err-scope-clause-evaluates g t c =
    let self = c.args.self.now in
    let some : 0 < self.calls_left = omega arith in
    let row = rw c.requires.runs at c.in_ok-values.ensures.evaluates in
    let p = err_from_is_err_and c.from_residual-in_err-scope.result c.from_residual-in_err-scope.ensures.1 in
    rw (p.1, p.2, c.requires.runs) (call_unmade c.args.context.now self.module_scope.now self.is_dependency self.recipe self.calls_left (defined_of c.args.function.now) _ _ c.args.host.now.entries _ c.in_ok-values.values.items some row)

pub call_defined-returns-clause-evaluates : goal.call_defined-returns-clause-evaluates
call_defined-returns-clause-evaluates g t c =
    let self = c.args.self.now in
    let some : 0 < self.calls_left = omega arith in
    let row = rw c.requires.runs at c.in_ok-values.ensures.evaluates in
    let body = rw c.requires.runs at c.evaluate-value.ensures.evaluates in
    let frames = rw c.deref.ensures.value at c.in_ok-scope.ensures in
    rw c.requires.runs (call_in_run c.args.context.now self.scope.now c.in_ok-scope.scope self.module_scope.now self.is_dependency self.recipe self.calls_left (defined_of c.args.function.now) _ c.args.host.now.entries _ _ c.in_ok-values.values.items _ some row frames.0 frames.1 body)

pub evaluate_row-returns-in_err-evaluate-clause-evaluates : goal.evaluate_row-returns-in_err-evaluate-clause-evaluates
evaluate_row-returns-in_err-evaluate-clause-evaluates g t c =
    let self = c.args.self.now in
    let es = c.args.expressions.now in
    let lt : c.loop-expression.expression-index < length es = omega arith in
    let p = err_from_is_err_and c.from_residual.result c.from_residual.ensures.1 in
    rw (p.1, p.2) (leads_stop (reading_at self) (row (dialogues (stage_at self) (terms_of es))) (stage_at self) es c.args.host.now.entries c.loop-expression.host.entries _ c.loop-expression.values.items c.loop-expression.expression-index c.expression-item.result _ c.loop-expression.invariant.leads lt c.expression-item.is c.in_err-evaluate.ensures.evaluates)

pub evaluate_row-returns-in_err-push-clause-evaluates : goal.evaluate_row-returns-in_err-push-clause-evaluates
evaluate_row-returns-in_err-push-clause-evaluates g t c =
    let self = c.args.self.now in
    let es = c.args.expressions.now in
    let all = row (dialogues (stage_at self) (terms_of es)) in
    let lt : c.loop-expression.expression-index < length es = omega arith in
    let more = leads_more (reading_at self) all (stage_at self) es c.args.host.now.entries c.loop-expression.host.entries _ c.loop-expression.values.items c.loop-expression.expression-index c.expression-item.result _ c.loop-expression.invariant.leads lt c.expression-item.is c.in_ok-evaluate.ensures.evaluates in
    let p = err_from_is_err_and c.from_residual-in_err-push.result c.from_residual-in_err-push.ensures.1 in
    rw (p.1, p.2) (leads_memory (reading_at self) all _ c.args.host.now.entries _ _ more)

pub evaluate_row-loop-expression-preserved : goal.evaluate_row-loop-expression-preserved
evaluate_row-loop-expression-preserved g t c =
    let self = c.args.self.now in
    let es = c.args.expressions.now in
    let lt : c.loop-expression.expression-index < length es = omega arith in
    let more = leads_more (reading_at self) (row (dialogues (stage_at self) (terms_of es))) (stage_at self) es c.args.host.now.entries c.loop-expression.host.entries _ c.loop-expression.values.items c.loop-expression.expression-index c.expression-item.result _ c.loop-expression.invariant.leads lt c.expression-item.is c.in_ok-evaluate.ensures.evaluates in
    record { asks = search rules; leads = search (rules, more) }

pub evaluate_row-returns-clause-evaluates : goal.evaluate_row-returns-clause-evaluates
evaluate_row-returns-clause-evaluates g t c = search (rules, leads_end)

pub call_builtin-returns-in_default-clause-evaluates : goal.call_builtin-returns-in_default-clause-evaluates
call_builtin-returns-in_default-clause-evaluates g t c =
    let is : function_of (lexeme c.args.name.now.token) ≡ None = search rules in
    rw is (ends _ (λ n. ap Err (c.unknown_function.ensures (λ e. n (ap Err e)))))

pub call_builtin-returns-in_err-values-clause-evaluates : goal.call_builtin-returns-in_err-values-clause-evaluates
call_builtin-returns-in_err-values-clause-evaluates g t c =
    let is : function_of (lexeme c.args.name.now.token) ≡ Some c.in-Some.function = ap function_of (sym c.lexeme.ensures) ∙ sym c.in-Some.ensures in
    let p = err_from_is_err_and c.from_residual.result c.from_residual.ensures.1 in
    rw (p.1, p.2, is) (then_stops _ _ c.in_err-values.ensures.evaluates)

pub call_builtin-returns-clause-evaluates : goal.call_builtin-returns-clause-evaluates
call_builtin-returns-clause-evaluates g t c =
    let is : function_of (lexeme c.args.name.now.token) ≡ Some c.in-Some.function = ap function_of (sym c.lexeme.ensures) ∙ sym c.in-Some.ensures in
    rw is (then_goes _ _ c.in_ok-values.ensures.evaluates (rw c.as_slice.ensures.value at c.answer.ensures.evaluates))

pub evaluate_arguments-returns-in_err-value-clause-evaluates : goal.evaluate_arguments-returns-in_err-value-clause-evaluates
evaluate_arguments-returns-in_err-value-clause-evaluates g t c =
    let self = c.args.self.now in
    let es = c.args.arguments.now in
    let takes = takes_text c.args.function in
    let name = lexeme c.args.name.now.token in
    let lt : c.loop-expression.expression-index < length es = omega arith in
    let p = err_from_is_err_and c.from_residual.result c.from_residual.ensures.1 in
    rw (p.1, p.2) (arguments_stop (reading_at self) takes name (arguments takes name 0 (dialogues (stage_at self) (terms_of es))) (stage_at self) es c.args.host.now.entries c.loop-expression.host.entries _ c.loop-expression.values.items c.loop-expression.expression-index c.expression-item.result _ c.loop-expression.invariant.leads lt c.expression-item.is c.in_err-value.ensures.evaluates)

pub evaluate_arguments-returns-in_err-argument-clause-evaluates : goal.evaluate_arguments-returns-in_err-argument-clause-evaluates
evaluate_arguments-returns-in_err-argument-clause-evaluates g t c =
    let self = c.args.self.now in
    let es = c.args.arguments.now in
    let takes = takes_text c.args.function in
    let name = lexeme c.args.name.now.token in
    let values = c.loop-expression.values.items in
    let lt : c.loop-expression.expression-index < length es = omega arith in
    let so_many : c.len.result ≡ length values = search rules in
    let is_text = c.takes_text-is_text.ensures ∙ ap takes so_many in
    let p = err_from_is_err_and c.from_residual-in_err-argument.result c.from_residual-in_err-argument.ensures.1 in
    let all = arguments takes name 0 (dialogues (stage_at self) (terms_of es)) in
    rw (p.1, p.2) record {
      goes = λ n. (arguments_refuse (reading_at self) takes name all (stage_at self) es c.args.host.now.entries c.loop-expression.host.entries _ values c.loop-expression.expression-index c.expression-item.result c.in_ok-value.value _ c.loop-expression.invariant.leads lt c.expression-item.is c.in_ok-value.ensures.evaluates (c.in_err-argument.ensures (apart_too n) ∙ ap (λ b. as_argument b name c.in_ok-value.value) is_text)).goes n;
      begins = arguments_begin (reading_at self) takes name all (stage_at self) es c.args.host.now.entries c.loop-expression.host.entries _ values c.loop-expression.expression-index c.expression-item.result c.in_ok-value.value c.loop-expression.invariant.leads lt c.expression-item.is c.in_ok-value.ensures.evaluates;
    }

pub evaluate_arguments-returns-in_err-push-clause-evaluates : goal.evaluate_arguments-returns-in_err-push-clause-evaluates
evaluate_arguments-returns-in_err-push-clause-evaluates g t c =
    let self = c.args.self.now in
    let es = c.args.arguments.now in
    let takes = takes_text c.args.function in
    let name = lexeme c.args.name.now.token in
    let all = arguments takes name 0 (dialogues (stage_at self) (terms_of es)) in
    let lt : c.loop-expression.expression-index < length es = omega arith in
    let p = err_from_is_err_and c.from_residual-in_err-push.result c.from_residual-in_err-push.ensures.1 in
    rw (p.1, p.2) (arguments_memory (reading_at self) takes name all (stage_at self) es c.args.host.now.entries c.loop-expression.host.entries _ c.loop-expression.values.items c.loop-expression.expression-index c.expression-item.result c.in_ok-value.value c.loop-expression.invariant.leads lt c.expression-item.is c.in_ok-value.ensures.evaluates)

pub evaluate_arguments-loop-expression-preserved : goal.evaluate_arguments-loop-expression-preserved
evaluate_arguments-loop-expression-preserved g t c =
    let self = c.args.self.now in
    let es = c.args.arguments.now in
    let takes = takes_text c.args.function in
    let name = lexeme c.args.name.now.token in
    let values = c.loop-expression.values.items in
    let lt : c.loop-expression.expression-index < length es = omega arith in
    let so_many : c.len.result ≡ length values = search rules in
    let is_text = c.takes_text-is_text.ensures ∙ ap takes so_many in
    let more = arguments_more (reading_at self) takes name (arguments takes name 0 (dialogues (stage_at self) (terms_of es))) (stage_at self) es c.args.host.now.entries c.loop-expression.host.entries _ values c.loop-expression.expression-index c.expression-item.result c.in_ok-value.value c.in_ok-argument.field-0 c.loop-expression.invariant.leads lt c.expression-item.is c.in_ok-value.ensures.evaluates (c.in_ok-argument.ensures apart ∙ ap (λ b. as_argument b name c.in_ok-value.value) is_text) in
    record { asks = search rules; leads = search (rules, more) }

pub evaluate_arguments-returns-clause-evaluates : goal.evaluate_arguments-returns-clause-evaluates
evaluate_arguments-returns-clause-evaluates g t c = search (rules, arguments_end)
