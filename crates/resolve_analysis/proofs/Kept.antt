-- What is no variable.
use Rattle.std.proofs.Common.{◌≡◌, false, Option, Some, None, refl}
use Rattle.tree_items.specs.declared.ast.Item.{Item}
use Rattle.tree_items.specs.declared.ast.Item.TheVariants.{Alias, Assignment, Comment, Function, Import, Module, Newline, Recipe, Set, Unexport}
use Rattle.modules_compilation.specs.Places.{is_assignment}
use Rattle.resolve_analysis.specs.Lists.{variable_of}

pub not_variable : (item : Option Item) → is_assignment item ≡ false → variable_of item ≡ None
not_variable None e = refl
not_variable (Some (Alias x)) e = refl
not_variable (Some (Assignment x)) e = absurd (cc e)
not_variable (Some (Comment x)) e = refl
not_variable (Some (Function x)) e = refl
not_variable (Some (Import x)) e = refl
not_variable (Some (Module x)) e = refl
not_variable (Some Newline) e = refl
not_variable (Some (Recipe x)) e = refl
not_variable (Some (Set x)) e = refl
not_variable (Some (Unexport x)) e = refl
