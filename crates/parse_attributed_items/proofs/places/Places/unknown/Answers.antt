-- An `arg` names a parameter where its name has a place.
use Rattle.std.proofs.Common.{◌≡◌, ◌∙◌, ◌∷◌, ◌+◌, true, false, ap, map, drop}
use Rattle.std.specs.Prelude.{is_some, not}
use Rattle.tree_attributes.specs.Attributes.{options_shape}
use Rattle.tree_expressions.specs.Shape.{written}
use Rattle.parse_attributes.specs.Cooked.{AreCookedOptions}
use Rattle.parse_attributes.specs.Options.{text}
use Rattle.parse_attributes.proofs.Adding.{text_is}
use Rattle.parse_attributed_items.specs.Places.{place_in}
use Rattle.parse_attributed_items.specs.Rules.{is_among, name_parameters}
use Rattle.parse_attributed_items.proofs.Lists.{next_left, of_next}
use Rattle.parse_attributed_items.proofs.Placed.{among_if_placed}
use Rattle.parse_attributed_items.proofs.places.Places.unknown.Goals as goal

pub returns-then-is_none : goal.returns-then-is_none
returns-then-is_none c = λ x all names has.
    let os = c.args.options.now in
    let i = c.loop-options.options-index in
    let o = c.options-item.result in
    let cooked : AreCookedOptions x o = of_next (AreCookedOptions x) os i o c.loop-options-test.true c.options-item.is all in
    let name : text x.expansion (written o.name) ≡ o.name.cooked = text_is x.expansion o.name cooked.name in
    let left : map options_shape (drop i os) ≡ options_shape o ∷ map options_shape (drop (i + 1) os) = next_left options_shape os i o c.loop-options-test.true c.options-item.is in
    let so_far = rw (left, name) at (c.loop-options.invariant x all names has) in
    let unplaced : is_some (place_in c.args.self.now o.name.cooked) ≡ false = rw (c.get.ensures, c.as_str.ensures) at c.if-is_none.ensures in
    let none : is_among names o.name.cooked ≡ false = among_if_placed c.args.self.now names has o.name.cooked ∙ unplaced in
    let e : false ≡ name_parameters x.expansion names (map options_shape os) = rw none at so_far in
    ap not e

pub loop-options-preserved : goal.loop-options-preserved
loop-options-preserved c = λ x all names has.
    let os = c.args.options.now in
    let i = c.loop-options.options-index in
    let o = c.options-item.result in
    let cooked : AreCookedOptions x o = of_next (AreCookedOptions x) os i o c.loop-options-test.true c.options-item.is all in
    let name : text x.expansion (written o.name) ≡ o.name.cooked = text_is x.expansion o.name cooked.name in
    let left : map options_shape (drop i os) ≡ options_shape o ∷ map options_shape (drop (i + 1) os) = next_left options_shape os i o c.loop-options-test.true c.options-item.is in
    let so_far = rw (left, name) at (c.loop-options.invariant x all names has) in
    let is_placed : is_some (place_in c.args.self.now o.name.cooked) ≡ true = rw (c.get.ensures, c.as_str.ensures) at c.if-is_none.ensures in
    let some : is_among names o.name.cooked ≡ true = among_if_placed c.args.self.now names has o.name.cooked ∙ is_placed in
    rw some at so_far
