-- The name after two dashes.
use Rattle.std.proofs.Common.{◌∙◌, ◌++◌, ap, sym}
use Rattle.std.specs.Prelude.{codes}
use Rattle.analyze_words.proofs.Names.{long_named}
use Rattle.analyze_words.proofs.options.option_place.Goals as goal

pub returns-in-Some : goal.returns-in-Some
returns-in-Some c = λ slots p.
    let cases = c.in-Some.ensures.cases in
    c.long.ensures ∙ p.long c.in-Some.long ∙ sym (long_named slots c.args.name.now c.in-Some.long.now (cases.1.1 ∙ ap (λ bs. codes "--" ++ bs) (sym cases.2)))
