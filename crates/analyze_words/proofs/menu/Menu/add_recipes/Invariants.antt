-- The recipes that stand among the meanings so far are there.
use Rattle.std.proofs.Common.{map}
use Rattle.std.specs.BTreeMap.{values}
use Rattle.analyze_words.proofs.Naming.{AreAddedOf}
use Rattle.analyze_words.proofs.menu.Menu.add_recipes.Given as goal

abbrev pub invariant-loop-meaning : goal.invariant-loop-meaning
invariant-loop-meaning l = AreAddedOf l.initial.places l.places (map (λ m. m.now) l.yielded) l.meaning-iterator (values l.self.names)
