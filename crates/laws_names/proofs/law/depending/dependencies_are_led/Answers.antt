use Rattle.laws_names.proofs.Depending.Led.{dependencies_are_led}
use Rattle.laws_names.proofs.law.depending.dependencies_are_led.Goals as goal

pub returns : goal.returns
returns c = dependencies_are_led
