-- All parameters so far are options.
use Rattle.std.proofs.Common.{◌≡◌, ◌<◌, ◌≤◌, ℕ, true, get_or}
use Rattle.analyze_words.specs.Menus.{is_option}
use Rattle.analyze_words.specs.declared.menu.Slot.{Slot}
use Rattle.analyze_words.proofs.menu.Callable.positional_from.Given as goal

abbrev pub invariant-loop-place : goal.invariant-loop-place
invariant-loop-place l = (k : ℕ) (other : Slot) → l.first ≤ k → k < l.place → is_option (get_or l.self.slots.items k other) ≡ true
