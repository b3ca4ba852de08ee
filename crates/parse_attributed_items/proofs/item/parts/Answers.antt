-- What was read stays beside what is read after it.
use Rattle.std.proofs.Common.{List, Option, Ok, ◌∙◌, ap, refl, subst, arith}
use Rattle.std.specs.Prelude.{IfOk}
use Rattle.tree_attributes.specs.Attributes.{AttributeShape}
use Rattle.just_text.specs.Tokens.{word_of}
use Rattle.parse_expressions.specs.Origins.{origin_of}
use Rattle.parse_expressions.specs.Reading.{ahead}
use Rattle.parse_expressions.proofs.Together.{both_given}
use Rattle.parse_attributes.specs.Seen.{read_shapes}
use Rattle.parse_items.specs.Reading.{kind_at}
use Rattle.parse_recipes.specs.Numbering.{AreUsed, GivesUnless}
use Rattle.parse_recipes.proofs.Frugal.{unused, with_more}
use Rattle.parse_attributed_items.specs.Reading.{bare_behind, parts_at}
use Rattle.parse_attributed_items.specs.Seen.{read_of}
use Rattle.parse_attributed_items.specs.Held.{IsItemNumbered}
use Rattle.parse_attributed_items.specs.Plain.{IsBareCooked, IsBareTree}
use Rattle.parse_attributed_items.proofs.Frugal.{attributes_taken}
use Rattle.parse_attributed_items.proofs.WholeArguments.{attributes_whole}
use Rattle.parse_attributed_items.proofs.item.parts.Goals as goal

pub returns-clause-gives : goal.returns-clause-gives
unfolding parts_at
returns-clause-gives g c =
    let x = g.E.Expander.expansion c.args.context.now.expander.now in
    let ts = ahead c.attributes.new.cursor in
    let given = both_given c.in_ok-attributes.attributes c.bare_behind-read.result (c.in_ok-attributes-2.attributes, c.in_ok-attributes-2.read) c.in_ok-attributes-2.ensures in
    let bare = subst (λ r. GivesUnless (AreUsed c.bare_behind-read.new.numerator) (λ r. (read_of r, ahead c.bare_behind-read.new.cursor)) r (bare_behind word_of x c.args.current.now (read_shapes c.deref.result.now) (kind_at word_of ts) ts)) given.1 c.bare_behind-read.ensures.gives in
    let behind = rw c.deref.ensures.value at bare in
    rw (c.in_ok-attributes.ensures.gives, behind, given.0) refl

pub returns-clause-whole : goal.returns-clause-whole
returns-clause-whole g c =
    let given = both_given c.in_ok-attributes.attributes c.bare_behind-read.result (c.in_ok-attributes-2.attributes, c.in_ok-attributes-2.read) c.in_ok-attributes-2.ensures in
    rw given.0 c.in_ok-attributes.ensures.whole

pub returns-clause-arguments : goal.returns-clause-arguments
returns-clause-arguments g c = λ as' same.
    let x = g.E.Expander.expansion c.args.context.now.expander.now in
    let rest = ahead c.attributes.new.cursor in
    let given = both_given c.in_ok-attributes.attributes c.bare_behind-read.result (c.in_ok-attributes-2.attributes, c.in_ok-attributes-2.read) c.in_ok-attributes-2.ensures in
    let known = rw given.0 at same in
    let read = c.in_ok-attributes.ensures.gives ∙ ap (λ (shapes : List (Option AttributeShape)). Ok (shapes, rest)) known in
    attributes_whole x as' _ _ ((c.law.ensures.attributes x).found (ahead c.args.cursor.now) rest as' read)

pub returns-clause-numbers : goal.returns-clause-numbers
returns-clause-numbers g c =
    let given = both_given c.in_ok-attributes.attributes c.bare_behind-read.result (c.in_ok-attributes-2.attributes, c.in_ok-attributes-2.read) c.in_ok-attributes-2.ensures in
    subst (λ r. IfOk r (λ x. IsItemNumbered c.args.numerator.now c.bare_behind-read.new.numerator x.item)) given.1 c.bare_behind-read.ensures.numbers

pub returns-clause-plain : goal.returns-clause-plain
returns-clause-plain g c =
    let given = both_given c.in_ok-attributes.attributes c.bare_behind-read.result (c.in_ok-attributes-2.attributes, c.in_ok-attributes-2.read) c.in_ok-attributes-2.ensures in
    subst (λ r. IfOk r (λ x. IsBareTree x.item)) given.1 c.bare_behind-read.ensures.plain

pub returns-clause-cooked : goal.returns-clause-cooked
returns-clause-cooked g c =
    let given = both_given c.in_ok-attributes.attributes c.bare_behind-read.result (c.in_ok-attributes-2.attributes, c.in_ok-attributes-2.read) c.in_ok-attributes-2.ensures in
    subst (λ r. IfOk r (λ x. IsBareCooked (origin_of g.E.Expander.expansion c.args.context.now) x.item)) given.1 c.bare_behind-read.ensures.cooked

pub returns-in_err-attributes-clause-frugal : goal.returns-in_err-attributes-clause-frugal
returns-in_err-attributes-clause-frugal g c = unused (ahead c.args.cursor.now) c.args.numerator.now c.args.numerator.now refl

pub returns-in_err-attributes-2-clause-frugal : goal.returns-in_err-attributes-2-clause-frugal
returns-in_err-attributes-2-clause-frugal g c =
    let less = attributes_taken (g.E.Expander.expansion c.args.context.now.expander.now) (ahead c.args.cursor.now) (read_shapes c.in_ok-attributes.attributes.items, ahead c.attributes.new.cursor) c.in_ok-attributes.ensures.gives in
    with_more (ahead c.args.cursor.now) (ahead c.attributes.new.cursor) c.args.numerator.now c.bare_behind-read.new.numerator (omega (arith, less)) c.bare_behind-read.ensures.frugal

pub returns-clause-frugal : goal.returns-clause-frugal
returns-clause-frugal g c =
    let less = attributes_taken (g.E.Expander.expansion c.args.context.now.expander.now) (ahead c.args.cursor.now) (read_shapes c.in_ok-attributes.attributes.items, ahead c.attributes.new.cursor) c.in_ok-attributes.ensures.gives in
    with_more (ahead c.args.cursor.now) (ahead c.attributes.new.cursor) c.args.numerator.now c.bare_behind-read.new.numerator (omega (arith, less)) c.bare_behind-read.ensures.frugal
