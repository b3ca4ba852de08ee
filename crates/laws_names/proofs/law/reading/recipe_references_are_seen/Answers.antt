use Rattle.laws_names.proofs.Reading.References.{recipe_references_are_seen}
use Rattle.laws_names.proofs.law.reading.recipe_references_are_seen.Goals as goal

pub returns : goal.returns
returns c = recipe_references_are_seen
