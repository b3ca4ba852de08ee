-- A file whose module is not there is as it was.
use Rattle.std.proofs.Common.{◌∙◌, sym}
use Rattle.std.proofs.lemmas.Option.{none-some, slice_get_past}
use Rattle.resolve_analysis.proofs.Same.{same_file}
use Rattle.resolve_analysis.proofs.numbers.number_file.Goals as goal

pub returns-in-None-clause-same : goal.returns-in-None-clause-same
returns-in-None-clause-same c = same_file c.args.file.now

pub returns-in-None-clause-numbers : goal.returns-in-None-clause-numbers
returns-in-None-clause-numbers c = λ names here. absurd (none-some names (sym (slice_get_past c.args.all.now c.args.file.now.module c.in-None.ensures.lookup.3) ∙ here))
