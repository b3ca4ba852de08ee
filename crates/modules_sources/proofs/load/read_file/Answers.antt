-- The file is what its text says, or the text is refused.
use Rattle.std.proofs.Common.{refl}
use Rattle.modules_sources.proofs.load.read_file.Goals as goal

pub returns-in-Ok-clause-read : goal.returns-in-Ok-clause-read
returns-in-Ok-clause-read g c = record { key = refl; owner_is = refl; depth_is = refl; says = c.in-Ok.ensures.found; whole = c.in-Ok.ensures.whole; numbered = c.in-Ok.ensures.numbers }

pub returns-in-Err-clause-refused : goal.returns-in-Err-clause-refused
returns-in-Err-clause-refused g c = record { error = c.in-Err.error; told = c.refusal_of.ensures; reason = c.in-Err.ensures.refused; place = c.in-Err.ensures.place }
