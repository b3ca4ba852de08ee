-- An item of another kind is neither a recipe nor a setting.
use Rattle.just_text.specs.Tokens.{word_of}
use Rattle.parse_expressions.specs.Reading.{ahead}
use Rattle.parse_attributed_items.proofs.Others.{other_so, numbered_so, plain_so, cooked_so}
use Rattle.parse_attributed_items.proofs.bare.other.Goals as goal

pub returns-clause-numbers : goal.returns-clause-numbers
returns-clause-numbers g c =
    let other = other_so word_of (g.E.Expander.expansion c.args.context.now.expander.now) c.args.kind (ahead c.args.cursor.now) _ _ c.in_ok-item.ensures.gives in
    numbered_so _ _ c.in_ok-item.item other c.in_ok-item.ensures.numbers

pub returns-clause-plain : goal.returns-clause-plain
returns-clause-plain g c =
    let other = other_so word_of (g.E.Expander.expansion c.args.context.now.expander.now) c.args.kind (ahead c.args.cursor.now) _ _ c.in_ok-item.ensures.gives in
    plain_so c.in_ok-item.item other c.in_ok-item.ensures.plain

pub returns-clause-cooked : goal.returns-clause-cooked
returns-clause-cooked g c =
    let other = other_so word_of (g.E.Expander.expansion c.args.context.now.expander.now) c.args.kind (ahead c.args.cursor.now) _ _ c.in_ok-item.ensures.gives in
    cooked_so _ c.in_ok-item.item other c.in_ok-item.ensures.cooked
