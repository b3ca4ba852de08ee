-- Each turn adds the name of a parameter that is an option.
use Rattle.std.proofs.Common.{◌≡◌, ◌∙◌, ◌∷◌, ◌+◌, true, false, sym, map, drop}
use Rattle.tree_attributes.specs.Attributes.{options_shape}
use Rattle.tree_expressions.specs.Shape.{written}
use Rattle.parse_attributes.specs.Cooked.{AreCookedOptions}
use Rattle.parse_attributes.specs.Options.{text}
use Rattle.parse_attributes.proofs.Adding.{text_is}
use Rattle.parse_attributed_items.specs.Rules.{is_option}
use Rattle.parse_attributed_items.proofs.Lists.{next_left, of_next}
use Rattle.parse_attributed_items.proofs.OptionNames.{names_none, names_one}
use Rattle.parse_attributed_items.proofs.defaults.option_names.Goals as goal
use Rattle.parse_attributed_items.proofs.defaults.option_names.Goals.{then-names_option+in_ok-insert, else-names_option}

pub loop-options-preserved : goal.loop-options-preserved
loop-options-preserved c = λ x all name.
    let os = c.args.options.now in
    let i = c.loop-options.options-index in
    let o = c.options-item.result in
    let cooked : AreCookedOptions x o = of_next (AreCookedOptions x) os i o c.loop-options-test.true c.options-item.is all in
    let for : text x.expansion (written o.name) ≡ o.name.cooked = text_is x.expansion o.name cooked.name in
    let left : map options_shape (drop i os) ≡ options_shape o ∷ map options_shape (drop (i + 1) os) = next_left options_shape os i o c.loop-options-test.true c.options-item.is in
    let so_far = rw left at (c.loop-options.invariant x all name) in
    let gives = c.names_option.ensures in
    elim c.if-names_option.branch [
      | then-names_option+in_ok-insert w ↦
          rw w.names-is (names_one x.expansion (options_shape o) (map options_shape (drop (i + 1) os)) name (is_option x.expansion (map options_shape os) name) c.loop-options.names w.insert.new.self w.as_str.result w.in_ok-insert.ensures.keys (for ∙ sym w.as_str.ensures) (sym gives ∙ w.if-names_option.true) so_far)
      | else-names_option w ↦
          rw w.names-is (names_none x.expansion (options_shape o) (map options_shape (drop (i + 1) os)) name (is_option x.expansion (map options_shape os) name) c.loop-options.names (sym gives ∙ w.if-names_option.false) so_far)
    ]
