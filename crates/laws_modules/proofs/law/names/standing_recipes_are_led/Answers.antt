use Rattle.laws_modules.proofs.Names.Paths.{standing_recipes_are_led}
use Rattle.laws_modules.proofs.law.names.standing_recipes_are_led.Goals as goal

pub returns : goal.returns
returns c = standing_recipes_are_led
