-- The places of the parameters from here on are there.
use Rattle.std.proofs.Common.{◌≡◌, ℕ, List, drop}
use Rattle.std.specs.Borrow.{Bor}
use Rattle.std.specs.List.{position_from}
use Rattle.analyze_words.specs.Menus as spec
use Rattle.analyze_words.proofs.options.OptionPlaces.of.Given as goal

abbrev pub invariant-loop-place : goal.invariant-loop-place
invariant-loop-place l =
    ((name : Bor (List ℕ)) → spec.long_place l.places name ≡ position_from (spec.has_long name.now) l.place (drop l.place l.slots))
    × ((name : ℕ) → spec.short_place l.places name ≡ position_from (spec.has_short name) l.place (drop l.place l.slots))
