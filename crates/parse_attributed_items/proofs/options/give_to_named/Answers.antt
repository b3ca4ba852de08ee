-- The parameter at the place of the name is given the options.
use Rattle.std.proofs.Common.{◌≡◌, ◌∙◌, ◌<◌, length, Some, None, sym, arith}
use Rattle.std.proofs.lemmas.List.Elements.{All-set}
use Rattle.tree_attributes.specs.Attributes.{options_shape}
use Rattle.parse_attributes.proofs.Adding.{text_is}
use Rattle.parse_attributed_items.specs.Options.{IsValueCooked}
use Rattle.parse_attributed_items.specs.Places.{place_in}
use Rattle.parse_attributed_items.specs.Rules.{for_name}
use Rattle.parse_attributed_items.proofs.Given.{for_none, for_one, kept_at, within}
use Rattle.parse_attributed_items.proofs.options.give_to_named.Goals as goal
use Rattle.parse_attributed_items.proofs.options.give_to_named.Goals.{in_default-via-in-Some+else-place-len, in_default-via-in_default}

pub returns-in-Some-clause-given : goal.returns-in-Some-clause-given
returns-in-Some-clause-given c = λ x others cooked right has differ have.
    let o = c.args.options in
    let ps = c.args.parameters.now.items in
    let name : c.as_str.result.now ≡ for_name x.expansion (options_shape o) = c.as_str.ensures ∙ sym (text_is x.expansion o.name cooked.name) in
    let is : place_in c.args.places.now (for_name x.expansion (options_shape o)) ≡ Some c.in-Some.place = rw name at (sym c.in-Some.ensures) in
    for_one x.expansion (options_shape o) others c.args.places.now ps has have c.in-Some.place c.index_mut.result.now c.give.new.parameter differ is c.index_mut.ensures.value c.give.ensures.kept (c.give.ensures.given x cooked right)

pub returns-in-Some-clause-kept : goal.returns-in-Some-clause-kept
returns-in-Some-clause-kept c = kept_at c.args.parameters.now.items c.in-Some.place c.index_mut.result.now c.give.new.parameter c.index_mut.ensures.value c.give.ensures.kept

pub returns-in-Some-clause-cooked : goal.returns-in-Some-clause-cooked
returns-in-Some-clause-cooked c = λ x cooked all. All-set (IsValueCooked x) c.args.parameters.now.items c.in-Some.place c.give.new.parameter (c.give.ensures.cooked x cooked) all

pub returns-in_default-clause-given : goal.returns-in_default-clause-given
returns-in_default-clause-given c = λ x others cooked right has differ have.
    let o = c.args.options in
    let ps = c.args.parameters.now.items in
    let name : c.as_str.result.now ≡ for_name x.expansion (options_shape o) = c.as_str.ensures ∙ sym (text_is x.expansion o.name cooked.name) in
    elim c.in_default.branch [
      | in_default-via-in-Some+else-place-len w ↦
          let is : place_in c.args.places.now (for_name x.expansion (options_shape o)) ≡ Some w.in-Some.place = rw name at (sym w.in-Some.ensures) in
          let less : w.in-Some.place < length ps = within x.expansion (options_shape o) others c.args.places.now ps has have w.in-Some.place is in
          absurd (omega (arith, less, w.if-place-len.false, w.len.ensures, c.args.parameters.now.ok.0))
      | in_default-via-in_default w ↦
          let is : place_in c.args.places.now (for_name x.expansion (options_shape o)) ≡ None = rw name at (sym w.in_default.ensures) in
          for_none x.expansion (options_shape o) others c.args.places.now ps has have is
    ]
