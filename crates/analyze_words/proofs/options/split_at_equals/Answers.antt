-- The first `=` cuts the word.
use Rattle.std.proofs.Common.{Some, None, sym, arith}
use Rattle.std.proofs.lemmas.Str.Pattern.{split_once_first}
use Rattle.analyze_words.proofs.Names.{before_all, before_part, behind_none, behind_some}
use Rattle.analyze_words.proofs.options.split_at_equals.Goals as goal

pub returns-in-Some-clause-name : goal.returns-in-Some-clause-name
returns-in-Some-clause-name c =
    let cut = split_once_first 61 c.args.word.now (Some (c.in-Some.name, c.in-Some.value)) c.in-Some.ensures.cases (omega arith) in
    before_part c.args.word.now c.in-Some.name.now cut.1

pub returns-in-Some-clause-value : goal.returns-in-Some-clause-value
returns-in-Some-clause-value c =
    let cut = split_once_first 61 c.args.word.now (Some (c.in-Some.name, c.in-Some.value)) c.in-Some.ensures.cases (omega arith) in
    sym (behind_some c.args.word.now c.in-Some.value.now cut.0 cut.2)

pub returns-in-None-clause-name : goal.returns-in-None-clause-name
returns-in-None-clause-name c = before_all c.args.word.now (split_once_first 61 c.args.word.now None c.in-None.ensures.cases (omega arith))

pub returns-in-None-clause-value : goal.returns-in-None-clause-value
returns-in-None-clause-value c = sym (behind_none c.args.word.now (split_once_first 61 c.args.word.now None c.in-None.ensures.cases (omega arith)))
