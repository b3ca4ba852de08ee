use Rattle.laws_modules.proofs.References.Found.{references_are_occurrences}
use Rattle.laws_modules.proofs.law.references.references_are_occurrences.Goals as goal

pub returns : goal.returns
returns c = references_are_occurrences
