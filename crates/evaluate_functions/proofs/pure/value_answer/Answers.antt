-- Each function on values answers by its row.
use Rattle.std.proofs.Common.{◌≡◌, ◌∷◌, [], ◌++◌, map, length, ap, subst, ◌∙◌}
use Rattle.std.specs.Fmt.{decimal}
use Rattle.std.specs.Prelude.{Ok}
use Rattle.just_value.specs.Values.{value_text}
use Rattle.evaluate_functions.specs.Functions.{Answers, each_or_words, first_text, text_at, value_at}
use Rattle.evaluate_functions.specs.Values.{quoted}
use Rattle.evaluate_functions.proofs.pure.value_answer.Goals as goal

pub returns-in-Append : goal.returns-in-Append
returns-in-Append c =
    let text : c.text_of-text.result.now ≡ text_at c.args.arguments.now 0 = c.text_of-text.ensures ∙ ap first_text (c.value_at-value.ensures c.new-empty.ensures) in
    rw c.in-Append.is
    (subst (λ affix. Answers (Ok (each_or_words c.args.lists (λ t. t ++ affix) (value_at c.args.arguments.now 1))) c.affix_answer.result) text c.affix_answer.ensures)

pub returns-in-Prepend : goal.returns-in-Prepend
returns-in-Prepend c =
    let text : c.text_of-text.result.now ≡ text_at c.args.arguments.now 0 = c.text_of-text.ensures ∙ ap first_text (c.value_at-value.ensures c.new-empty.ensures) in
    rw c.in-Prepend.is
    (subst (λ affix. Answers (Ok (each_or_words c.args.lists (λ t. affix ++ t) (value_at c.args.arguments.now 1))) c.affix_answer-in-Prepend.result) text c.affix_answer-in-Prepend.ensures)

pub returns-in-Len : goal.returns-in-Len
returns-in-Len c =
    let value : c.value_at-value.result.now ≡ value_at c.args.arguments.now 0 = c.value_at-value.ensures c.new-empty.ensures in
    rw c.in-Len.is
    (subst (λ v. Answers (Ok (decimal (length v) ∷ [])) c.unless_memory.result) value (c.unless_memory.ensures (decimal (length c.value_at-value.result.now) ∷ []) c.length.ensures))

pub returns-in-Quote : goal.returns-in-Quote
returns-in-Quote c =
    let value : c.value_at-value.result.now ≡ value_at c.args.arguments.now 0 = c.value_at-value.ensures c.new-empty.ensures in
    rw c.in-Quote.is
    (subst (λ v. Answers (Ok (map quoted v)) c.unless_memory-in-Quote.result) value (c.unless_memory-in-Quote.ensures (map quoted c.value_at-value.result.now) c.quoted.ensures))

pub returns-in-Show : goal.returns-in-Show
returns-in-Show c =
    let value : c.value_at-value.result.now ≡ value_at c.args.arguments.now 0 = c.value_at-value.ensures c.new-empty.ensures in
    rw c.in-Show.is
    (subst (λ v. Answers (Ok (value_text v ∷ [])) c.unless_memory-in-Show.result) value (c.unless_memory-in-Show.ensures (value_text c.value_at-value.result.now ∷ []) c.shown.ensures))
