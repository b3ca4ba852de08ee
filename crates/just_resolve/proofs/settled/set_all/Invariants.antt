-- What the settings to come set or refuse, from here, all set or refuse.
use Rattle.std.proofs.Common.{drop}
use Rattle.evaluate_context.specs.declared.settings.Settings.{Settings}
use Rattle.evaluate_variables.specs.Settled.{reading_in}
use Rattle.meaning_dialogues.specs.Faults.{Fault}
use Rattle.just_resolve.specs.Settling.{AreNotSet, AreSet, sets_at}
use Rattle.just_resolve.proofs.settled.set_all.Given as goal

abbrev pub invariant-loop-place : goal.invariant-loop-place
invariant-loop-place l =
    ((new : Settings) → AreSet (reading_in l.known) l.known.lists (sets_at l.compilation (drop l.place-index l.sets)) l.settings new → AreSet (reading_in l.known) l.known.lists (sets_at l.compilation l.sets) l.initial.settings new)
    × ((fault : Fault) → AreNotSet (reading_in l.known) l.known.lists (sets_at l.compilation (drop l.place-index l.sets)) l.settings fault → AreNotSet (reading_in l.known) l.known.lists (sets_at l.compilation l.sets) l.initial.settings fault)
