-- Each turn gives the options of the last `arg` that is left.
use Rattle.std.proofs.Common.{◌≡◌, ◌∙◌, ◌++◌, ◌∷◌, [], List, map, true, refl, sym, ap, subst, get_or}
use Rattle.std.specs.List.{All}
use Rattle.std.proofs.lemmas.List.{append-nil, map-append}
use Rattle.tree_attributes.specs.declared.attribute.ArgumentOptions.{ArgumentOptions}
use Rattle.tree_attributes.specs.Attributes.{options_shape}
use Rattle.tree_items.specs.Recipes.{parameter_shapes}
use Rattle.parse_attributes.specs.Cooked.{AreCookedOptions}
use Rattle.parse_attributed_items.specs.Places.{HasPlaces}
use Rattle.parse_attributed_items.specs.Rules.{are_distinct, names_of}
use Rattle.parse_attributed_items.specs.Whole.{AreWholeOptions}
use Rattle.parse_attributed_items.proofs.Given.{names_kept, plain_has_none}
use Rattle.parse_attributed_items.proofs.Lists.{of_middle, one_behind}
use Rattle.parse_attributed_items.proofs.options.with_all.Goals as goal

pub loop-last-init : goal.loop-last-init
loop-last-init c = record {
  given = [];
  all = append-nil c.args.options.items;
  kept = refl;
  so_far = λ x cooked right plain has differ k d less. plain_has_none (get_or c.args.parameters.items k d) (plain k d less);
  cooked = λ x cooked plain k d less. rw (plain k d less).value tt;
}

pub loop-last-preserved : goal.loop-last-preserved
loop-last-preserved c =
    let l = c.loop-last in
    let i = l.invariant in
    let o = c.in-Some.last in
    let rest = c.pop.new.self.items in
    let items : l.options.items ≡ rest ++ o ∷ [] = c.in-Some.ensures.items in
    let all : rest ++ o ∷ i.given ≡ c.args.options.items = sym (one_behind rest i.given o) ∙ ap (λ (os : List ArgumentOptions). os ++ i.given) (sym items) ∙ i.all in
    let same : names_of (parameter_shapes l.parameters.items) ≡ names_of (parameter_shapes c.args.parameters.items) = names_kept l.parameters.items c.args.parameters.items i.kept in
    record {
      given = o ∷ i.given;
      all = all;
      kept = c.give_to_named.ensures.kept ∙ i.kept;
      so_far = λ x cooked right plain has differ.
          let shapes : map options_shape rest ++ options_shape o ∷ map options_shape i.given ≡ map options_shape c.args.options.items = sym (map-append options_shape rest (o ∷ i.given)) ∙ ap (map options_shape) all in
          c.give_to_named.ensures.given x (map options_shape i.given)
          (of_middle (AreCookedOptions x) rest o i.given (subst (All (AreCookedOptions x)) (sym all) cooked))
          (of_middle (AreWholeOptions x.expansion) (map options_shape rest) (options_shape o) (map options_shape i.given) (subst (All (AreWholeOptions x.expansion)) (sym shapes) right))
          (subst (HasPlaces c.args.places.now) (sym same) has)
          (subst (λ ns. are_distinct ns ≡ true) (sym same) differ)
          (i.so_far x cooked right plain has differ);
      cooked = λ x cooked plain. c.give_to_named.ensures.cooked x (of_middle (AreCookedOptions x) rest o i.given (subst (All (AreCookedOptions x)) (sym all) cooked)) (i.cooked x cooked plain);
    }
