-- One to four digits are read as the number that they write.
use Rattle.std.proofs.Common.{◌∙◌, ap}
use Rattle.std.specs.Result.{result_ok}
use Rattle.parse_attributed_items.proofs.Numbers.{counted}
use Rattle.parse_attributed_items.proofs.options.number.Goals as goal

pub returns : goal.returns
returns c = λ count. c.ok.ensures.value ∙ ap result_ok (counted c.args.digits.now c.parse.result c.parse.ensures.value.0 count)
