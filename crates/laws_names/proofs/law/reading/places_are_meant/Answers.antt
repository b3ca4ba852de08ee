use Rattle.laws_names.proofs.Reading.Places.{places_are_meant}
use Rattle.laws_names.proofs.law.reading.places_are_meant.Goals as goal

pub returns : goal.returns
returns c = places_are_meant
