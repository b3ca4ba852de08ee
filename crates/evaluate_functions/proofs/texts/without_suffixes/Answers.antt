-- Each mark at the end is cut off.
use Rattle.evaluate_functions.proofs.Trims.{all_backs}
use Rattle.evaluate_functions.proofs.texts.without_suffixes.Goals as goal

pub returns : goal.returns
returns c = all_backs c.args.mark.now c.args.text.now c.trim_end_matches.result.now c.trim_end_matches.ensures.matches
