-- Each mark at the front is cut off.
use Rattle.evaluate_functions.proofs.Trims.{all_fronts}
use Rattle.evaluate_functions.proofs.texts.without_prefixes.Goals as goal

pub returns : goal.returns
returns c = all_fronts c.args.mark.now c.args.text.now c.trim_start_matches.result.now c.trim_start_matches.ensures.matches
