-- The modules before the place have their settings.
use Rattle.just_resolve.specs.Settling.{AreMany, AreSettledAt}
use Rattle.just_resolve.specs.Variables.{AreEach}
use Rattle.just_resolve.proofs.known_values.all_settled.Given as goal

abbrev pub invariant-loop-module : goal.invariant-loop-module
invariant-loop-module l = AreMany l.compilation l.lists l.reads l.orders l.overrides → AreEach l.module (AreSettledAt l.compilation l.lists l.reads l.orders l.overrides l.constants) l.all.items
