use Rattle.std.proofs.Common.{rules, ◌≡◌, ◌+◌, ◌++◌, [], ◌∷◌, get_or, refl, ap, ◌∙◌, arith}
use Rattle.std.proofs.lemmas.Result.{err_from_is_err_and}
use Rattle.just_text.specs.Tokens.{lexeme}
use Rattle.meaning_dialogues.specs.Evaluation.{interpreter_words}
use Rattle.meaning_dialogues.proofs.Rows.{lists_first, lists_more}
use Rattle.evaluate_expressions.specs.Situations.{stage_at, reading_at}
use Rattle.evaluate_expressions.proofs.InterpreterWords.{all, after_command, words_stop, words_memory, words_end}
use Rattle.evaluate_expressions.proofs.evaluator.Evaluator.interpreter_text.Goals as goal

pub returns-in_err-words-clause-evaluates : goal.returns-in_err-words-clause-evaluates
returns-in_err-words-clause-evaluates g c =
    let self = c.args.self.now in
    let command = c.args.interpreter.now.command in
    let es = command ∷ c.args.interpreter.now.arguments.items in
    let old = c.args.host.now.entries in
    let p = err_from_is_err_and c.from_residual.result c.from_residual.ensures.1 in
    rw (p.1, p.2) (words_stop (reading_at self) (stage_at self) es (lexeme c.args.setting.token) old old _ [] 0 command _ (lists_first (reading_at self) (all (reading_at self) (stage_at self) es [] []) old) (omega arith) refl c.in_err-words.ensures.evaluates)

pub loop-argument-init : goal.loop-argument-init
loop-argument-init g c =
    let self = c.args.self.now in
    let command = c.args.interpreter.now.command in
    let es = command ∷ c.args.interpreter.now.arguments.items in
    let old = c.args.host.now.entries in
    record {
      asks = c.in_ok-words.ensures.asks;
      lists = lists_more (reading_at self) (all (reading_at self) (stage_at self) es [] []) (stage_at self) es old old _ [] c.in_ok-words.words 0 command c.in_ok-words.words (lists_first (reading_at self) (all (reading_at self) (stage_at self) es [] []) old) (omega arith) refl c.in_ok-words.ensures.evaluates refl;
    }

pub returns-in_err-value-clause-evaluates : goal.returns-in_err-value-clause-evaluates
returns-in_err-value-clause-evaluates g c =
    let self = c.args.self.now in
    let items = c.args.interpreter.now.arguments.items in
    let es = c.args.interpreter.now.command ∷ items in
    let i = c.loop-argument.argument-index in
    let x = c.argument-item.result in
    let is : x ≡ get_or items i x = search rules in
    let p = err_from_is_err_and c.from_residual-in_err-value.result c.from_residual-in_err-value.ensures.1 in
    rw (p.1, p.2) (words_stop (reading_at self) (stage_at self) es (lexeme c.args.setting.token) c.args.host.now.entries c.loop-argument.host.entries _ c.loop-argument.words (i + 1) x _ c.loop-argument.invariant.lists (omega arith) (after_command c.args.interpreter.now.command items i x is) c.in_err-value.ensures.evaluates)

pub returns-in_err-append-clause-evaluates : goal.returns-in_err-append-clause-evaluates
returns-in_err-append-clause-evaluates g c =
    let self = c.args.self.now in
    let items = c.args.interpreter.now.arguments.items in
    let es = c.args.interpreter.now.command ∷ items in
    let i = c.loop-argument.argument-index in
    let x = c.argument-item.result in
    let is : x ≡ get_or items i x = search rules in
    let more = lists_more (reading_at self) (all (reading_at self) (stage_at self) es [] []) (stage_at self) es c.args.host.now.entries c.loop-argument.host.entries _ c.loop-argument.words (c.loop-argument.words ++ c.in_ok-value.value) (i + 1) x c.in_ok-value.value c.loop-argument.invariant.lists (omega arith) (after_command c.args.interpreter.now.command items i x is) c.in_ok-value.ensures.evaluates refl in
    let p = err_from_is_err_and c.from_residual-in_err-append.result c.from_residual-in_err-append.ensures.1 in
    rw (p.1, p.2) (words_memory (reading_at self) (stage_at self) es (lexeme c.args.setting.token) c.args.host.now.entries _ _ (i + 1 + 1) more)

pub returns-in_err-value-clause-asks : goal.returns-in_err-value-clause-asks
returns-in_err-value-clause-asks g c = λ kinds has start asked. c.in_err-value.ensures.asks kinds has start (c.loop-argument.invariant.asks kinds has start asked)

pub returns-in_err-append-clause-asks : goal.returns-in_err-append-clause-asks
returns-in_err-append-clause-asks g c = λ kinds has start asked. c.in_ok-value.ensures.asks kinds has start (c.loop-argument.invariant.asks kinds has start asked)

pub loop-argument-preserved : goal.loop-argument-preserved
loop-argument-preserved g c =
    let self = c.args.self.now in
    let items = c.args.interpreter.now.arguments.items in
    let es = c.args.interpreter.now.command ∷ items in
    let i = c.loop-argument.argument-index in
    let x = c.argument-item.result in
    let is : x ≡ get_or items i x = search rules in
    let grown : c.append.new.self ≡ c.loop-argument.words ++ c.in_ok-value.value = search rules in
    record {
      asks = λ kinds has start asked. c.in_ok-value.ensures.asks kinds has start (c.loop-argument.invariant.asks kinds has start asked);
      lists = lists_more (reading_at self) (all (reading_at self) (stage_at self) es [] []) (stage_at self) es c.args.host.now.entries c.loop-argument.host.entries _ c.loop-argument.words c.append.new.self (i + 1) x c.in_ok-value.value c.loop-argument.invariant.lists (omega arith) (after_command c.args.interpreter.now.command items i x is) c.in_ok-value.ensures.evaluates grown;
    }

pub returns-clause-evaluates : goal.returns-clause-evaluates
returns-clause-evaluates g c =
    let self = c.args.self.now in
    let es = c.args.interpreter.now.command ∷ c.args.interpreter.now.arguments.items in
    words_end (reading_at self) (stage_at self) es (lexeme c.args.setting.token) c.args.host.now.entries c.loop-argument.host.entries c.loop-argument.words (c.loop-argument.argument-index + 1) _ c.loop-argument.invariant.lists (omega arith) (λ n. c.interpreter_of.ensures n ∙ ap (interpreter_words (lexeme c.args.setting.token)) c.elements.ensures)
