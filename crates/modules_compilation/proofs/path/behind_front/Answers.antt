-- Each text has its front.
use Rattle.modules_compilation.proofs.Keys.{front_there}
use Rattle.modules_compilation.proofs.path.behind_front.Goals as goal

pub returns-in-None : goal.returns-in-None
returns-in-None c = absurd (front_there c.args.text.now c.front.result.now c.front.ensures c.in-None.ensures.cases)
