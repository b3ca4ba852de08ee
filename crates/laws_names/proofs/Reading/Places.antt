-- What references read and call.
use Rattle.resolve_references.specs.declared.references.Reference.TheVariants.{Call, Variable}
use Rattle.laws_names.specs.Reading.Parts.{part_of}
use Rattle.laws_names.specs.Reading.Places.{PlacesAreMeant}
use Rattle.laws_names.proofs.Reading.Calls.{call_meant}
use Rattle.laws_names.proofs.Reading.Variables.{variable_meant}

pub places_are_meant : PlacesAreMeant
places_are_meant w compilation n k node here resolver of item i s c (Call name count) r = call_meant w compilation n k node here resolver of (part_of s) name count
places_are_meant w compilation n k node here resolver of item i s c (Variable name number) r = variable_meant w compilation n k node here resolver of item i s c name number r
