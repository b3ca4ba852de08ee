-- Refusals of files.
use Rattle.laws_modules.proofs.Files.Refusals.{refused_are_told}
use Rattle.laws_modules.proofs.law.files.refused_files.Goals as goal

pub returns : goal.returns
returns c = refused_are_told c.args.sources.now
