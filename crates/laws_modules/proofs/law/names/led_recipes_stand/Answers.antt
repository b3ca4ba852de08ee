use Rattle.laws_modules.proofs.Names.Paths.{led_recipes_stand}
use Rattle.laws_modules.proofs.law.names.led_recipes_stand.Goals as goal

pub returns : goal.returns
returns c = led_recipes_stand
