-- The names of a path.
use Rattle.std.specs.Prelude.{List, [], ◌∷◌}
use Rattle.just_text.specs.declared.name.Name.{Name}
use Rattle.just_text.specs.declared.namepath.Names.{Names}
use Rattle.just_text.specs.declared.namepath.Names.TheVariants.{One, Several}

abbrev pub names_in : Names → List Name
names_in (One name) = name ∷ []
names_in (Several names) = names.items
