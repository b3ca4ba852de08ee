use Rattle.laws_names.proofs.Depending.Led.{led_dependencies_are_placed}
use Rattle.laws_names.proofs.law.depending.led_dependencies_are_placed.Goals as goal

pub returns : goal.returns
returns c = led_dependencies_are_placed
