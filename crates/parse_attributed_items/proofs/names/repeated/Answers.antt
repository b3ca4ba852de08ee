-- Each turn adds a name, if the `arg` says one.
use Rattle.std.proofs.Common.{◌≡◌, ◌∙◌, ◌∷◌, true, false, sym, ap, map, drop, ◌+◌}
use Rattle.std.specs.Option.{option_copied}
use Rattle.tree_attributes.specs.Attributes.{options_shape}
use Rattle.parse_attributes.specs.Cooked.{AreCookedOptions}
use Rattle.parse_attributed_items.specs.Names.{is_new, name_of, with_name}
use Rattle.parse_attributed_items.proofs.Lists.{next_left, of_next}
use Rattle.parse_attributed_items.proofs.New.{comes_again, comes_new}
use Rattle.parse_attributed_items.proofs.names.repeated.Goals as goal

pub returns-then-not-branch : goal.returns-then-not-branch
returns-then-not-branch c = λ x all.
    let os = c.args.options.now in
    let i = c.loop-options.options-index in
    let o = c.options-item.result in
    let inv = c.loop-options.invariant x all in
    let said : option_copied c.name_of.result ≡ name_of x.expansion c.args.kind (options_shape o) = c.name_of.ensures x (of_next (AreCookedOptions x) os i o c.loop-options-test.true c.options-item.is all) in
    let left : map options_shape (drop i os) ≡ options_shape o ∷ map options_shape (drop (i + 1) os) = next_left options_shape os i o c.loop-options-test.true c.options-item.is in
    let so_far = rw left at inv.2 in
    let new = c.in_ok-add.ensures.new inv.0 inv.1 in
    comes_again (name_of x.expansion c.args.kind) inv.0 (options_shape o) (map options_shape (drop (i + 1) os)) _ so_far (ap (is_new inv.0) (sym said) ∙ sym new ∙ c.if-not-branch.true)

pub loop-options-preserved : goal.loop-options-preserved
loop-options-preserved c = λ x all.
    let os = c.args.options.now in
    let i = c.loop-options.options-index in
    let o = c.options-item.result in
    let inv = c.loop-options.invariant x all in
    let said : option_copied c.name_of.result ≡ name_of x.expansion c.args.kind (options_shape o) = c.name_of.ensures x (of_next (AreCookedOptions x) os i o c.loop-options-test.true c.options-item.is all) in
    let left : map options_shape (drop i os) ≡ options_shape o ∷ map options_shape (drop (i + 1) os) = next_left options_shape os i o c.loop-options-test.true c.options-item.is in
    let so_far = rw left at inv.2 in
    let new = c.in_ok-add.ensures.new inv.0 inv.1 in (
      with_name inv.0 (option_copied c.name_of.result),
      c.in_ok-add.ensures.names inv.0 inv.1,
      rw said (comes_new (name_of x.expansion c.args.kind) inv.0 (options_shape o) (map options_shape (drop (i + 1) os)) _ so_far (ap (is_new inv.0) (sym said) ∙ sym new ∙ c.if-not-branch.false)),
    )
