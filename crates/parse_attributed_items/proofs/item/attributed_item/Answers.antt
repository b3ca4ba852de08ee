-- What stops reading halts it, and what fits is read.
use Rattle.std.proofs.Common.{◌≡◌, ◌∙◌, [], Ok, Err}
use Rattle.std.proofs.lemmas.Result.{err_from_is_err_and}
use Rattle.just_text.specs.Tokens.{word_of}
use Rattle.tree_items.specs.Files.{item_shape}
use Rattle.parse_attributes.specs.Seen.{read_shapes}
use Rattle.parse_expressions.specs.Origins.{origin_of}
use Rattle.parse_expressions.specs.Reading.{ahead}
use Rattle.parse_recipes.specs.Numbering.{AreUsed}
use Rattle.parse_attributed_items.specs.Fitting.{argument_fault}
use Rattle.parse_attributed_items.specs.Reading.{attributed_at, fitted, parts_at}
use Rattle.parse_attributed_items.specs.declared.bare.ItemRead.{ItemRead}
use Rattle.parse_attributed_items.proofs.Faults.{halts}
use Rattle.parse_attributed_items.proofs.Fits.{fitted_so}
use Rattle.parse_attributed_items.proofs.NoAttributes.{cooked_already, joined_with_none, no_attributes, none_read, own_already, refused_too}
use Rattle.parse_attributed_items.proofs.item.attributed_item.Goals as goal

pub returns-in_err-parts-clause-gives : goal.returns-in_err-parts-clause-gives
unfolding attributed_at
returns-in_err-parts-clause-gives g c =
    let x = g.E.Expander.expansion c.args.context.now.expander.now in
    let p = err_from_is_err_and c.from_residual.result c.from_residual.ensures.1 in
    rw (p.1, p.2) (halts (AreUsed c.parts.new.numerator) c.in_err-parts.field-0.0 (parts_at word_of x c.args.current.now (ahead c.args.cursor.now)) (fitted word_of x c.args.current.now) c.in_err-parts.ensures.gives)

pub returns-clause-gives : goal.returns-clause-gives
returns-clause-gives g c =
    let x = g.E.Expander.expansion c.args.context.now.expander.now in
    fitted_so (AreUsed c.parts.new.numerator) x c.args.current.now (ahead c.args.cursor.now) c.in_ok-parts.parts (ahead c.parts.new.cursor) c.fitted.result c.in_ok-parts.ensures.gives (c.fitted.ensures.gives (origin_of g.E.Expander.expansion c.args.context.now) c.in_ok-parts.ensures.whole) c.fitted.ensures.shape

pub returns-clause-numbers : goal.returns-clause-numbers
returns-clause-numbers g c = c.fitted.ensures.numbers c.args.numerator.now c.parts.new.numerator c.in_ok-parts.ensures.numbers

pub returns-clause-own : goal.returns-clause-own
returns-clause-own g c = c.fitted.ensures.own (origin_of g.E.Expander.expansion c.args.context.now) c.in_ok-parts.ensures.whole c.in_ok-parts.ensures.arguments c.in_ok-parts.ensures.plain

pub returns-clause-cooked : goal.returns-clause-cooked
returns-clause-cooked g c = c.fitted.ensures.cooked (origin_of g.E.Expander.expansion c.args.context.now) c.in_ok-parts.ensures.whole c.in_ok-parts.ensures.plain c.in_ok-parts.ensures.cooked

-- without attributes the parameters' rule is left, and else the item is what it will be
pub returns-in_err-check_unattributed-clause-gives : goal.returns-in_err-check_unattributed-clause-gives
returns-in_err-check_unattributed-clause-gives g c =
    let x = g.E.Expander.expansion c.args.context.now.expander.now in
    let p = c.in_ok-parts.parts in
    let e = c.in_err-check_unattributed.field-0.0 in
    let empty : p.attributes.items ≡ [] = c.is_bare.ensures.0 c.if-is_bare.true in
    let none = none_read p.attributes.items empty in
    let told = refused_too (Unit {0}) ItemRead e (argument_fault x [] (item_shape p.read.item)) (c.in_err-check_unattributed.ensures (origin_of g.E.Expander.expansion c.args.context.now)) in
    let q = err_from_is_err_and c.from_residual-in_err-check_unattributed.result c.from_residual-in_err-check_unattributed.ensures.1 in
    rw (q.1, q.2) (fitted_so (AreUsed c.parts.new.numerator) x c.args.current.now (ahead c.args.cursor.now) p (ahead c.parts.new.cursor) (Err e) c.in_ok-parts.ensures.gives (rw (no_attributes x (read_shapes p.attributes.items) (item_shape p.read.item) none) told) tt)

pub returns-then-is_bare-clause-gives : goal.returns-then-is_bare-clause-gives
returns-then-is_bare-clause-gives g c =
    let x = g.E.Expander.expansion c.args.context.now.expander.now in
    let p = c.in_ok-parts.parts in
    let empty : p.attributes.items ≡ [] = c.is_bare.ensures.0 c.if-is_bare.true in
    let none = none_read p.attributes.items empty in
    let checked = c.in_ok-check_unattributed.ensures (origin_of g.E.Expander.expansion c.args.context.now) in
    fitted_so (AreUsed c.parts.new.numerator) x c.args.current.now (ahead c.args.cursor.now) p (ahead c.parts.new.cursor) (Ok p.read) c.in_ok-parts.ensures.gives (no_attributes x (read_shapes p.attributes.items) (item_shape p.read.item) none ∙ checked) (joined_with_none p none c.in_ok-parts.ensures.plain)

pub returns-then-is_bare-clause-own : goal.returns-then-is_bare-clause-own
returns-then-is_bare-clause-own g c = own_already (g.E.Expander.expansion c.args.context.now.expander.now) c.in_ok-parts.parts.read.item c.in_ok-parts.ensures.plain

pub returns-then-is_bare-clause-cooked : goal.returns-then-is_bare-clause-cooked
returns-then-is_bare-clause-cooked g c = cooked_already (origin_of g.E.Expander.expansion c.args.context.now) c.in_ok-parts.parts.read.item c.in_ok-parts.ensures.plain c.in_ok-parts.ensures.cooked
