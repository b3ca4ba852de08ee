use Rattle.std.proofs.Common.{◌≡◌, rules, ap}
use Rattle.std.specs.Char.{is_whitespace}
use Rattle.std.specs.Str.{trim}
use Rattle.std.proofs.lemmas.List.Sorted.{answers_always}
use Rattle.justfile_evaluator.proofs.Shebangs.{front_found, rear_found, front_whole, rear_whole}
use Rattle.justfile_evaluator.proofs.script.halves.Goals as goal

pub returns-in-Some-clause-word : goal.returns-in-Some-clause-word
returns-in-Some-clause-word c =
    let h = c.in-Some.ensures.cases in
    front_found c.args.text.now _ h.0 h.1 c.utf8.text (h.2 is_whitespace (answers_always _ _ _ (λ f a r f' k. search rules))) h.3

pub returns-in-Some-clause-rest : goal.returns-in-Some-clause-rest
returns-in-Some-clause-rest c =
    let h = c.in-Some.ensures.cases in
    rear_found c.args.text.now _ h.0 h.1 c.utf8.text (h.2 is_whitespace (answers_always _ _ _ (λ f a r f' k. search rules))) h.4

pub returns-in-None-clause-word : goal.returns-in-None-clause-word
returns-in-None-clause-word c = front_whole c.args.text.now c.utf8.text (c.in-None.ensures.cases is_whitespace (answers_always _ _ _ (λ f a r f' k. search rules)))

pub returns-in-None-clause-rest : goal.returns-in-None-clause-rest
returns-in-None-clause-rest c = ap trim (rear_whole c.args.text.now c.utf8.text (c.in-None.ensures.cases is_whitespace (answers_always _ _ _ (λ f a r f' k. search rules))))
