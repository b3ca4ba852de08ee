-- One meaning more, and all of them.
use Rattle.std.proofs.Common.{map}
use Rattle.std.specs.BTreeMap.{values}
use Rattle.analyze_words.proofs.Naming.{all_added, none_left, one_more}
use Rattle.analyze_words.proofs.menu.Menu.add_recipes.Goals as goal

pub loop-meaning-preserved : goal.loop-meaning-preserved
loop-meaning-preserved c =
    one_more c.add_place.new.places c.loop-meaning.places c.add_place-in-loop-meaning.new.places c.loop-meaning.yielded c.in-Some.meaning c.loop-meaning.meaning-iterator c.next.new.self (values c.args.self.now.names) c.recipe.result
    c.loop-meaning.invariant c.recipe.ensures c.in_ok-add_place-2.ensures c.in-Some.ensures.steps

pub returns : goal.returns
returns c =
    let met = map (λ m. m.now) c.loop-meaning.yielded in
    all_added c.args.self.now c.args.places.now c.add_place.new.places c.loop-meaning.places met c.in_ok-add_place.ensures c.loop-meaning.invariant.0
    (none_left met c.loop-meaning.meaning-iterator (values c.args.self.now.names) c.in-None.ensures.steps.0 c.loop-meaning.invariant.1) c.values-meaning-items.ensures.ordered
