-- With the texts to come, each number has the text given last.
use Rattle.std.proofs.Common.{◌≡◌, ℕ, drop}
use Rattle.std.specs.List.{list_all}
use Rattle.std.specs.Option.{option_or}
use Rattle.evaluate_variables.specs.Opened.{overridden}
use Rattle.resolve_recipes.specs.Named.{AllByName}
use Rattle.resolve_analysis.specs.Overriding.{is_named, text_given}
use Rattle.just_resolve.proofs.overrides.add_all.Given as goal

abbrev pub invariant-loop-one : goal.invariant-loop-one
invariant-loop-one l = AllByName l.compilation →
    (list_all (is_named l.compilation) (drop l.one-index l.given) ≡ list_all (is_named l.compilation) l.given)
    × ((number : ℕ) → option_or (text_given l.compilation (drop l.one-index l.given) number) (overridden l.overrides number) ≡ option_or (text_given l.compilation l.given number) (overridden l.initial.overrides number))
