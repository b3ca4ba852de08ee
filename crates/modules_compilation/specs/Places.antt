-- What stands at a place.
use Rattle.std.specs.Prelude.{ℕ, List, [], Bool, true, false, Option, Some, None, Result, Ok, Err, slice_get}
use Rattle.std.specs.Option.{option_and_then}
use Rattle.just_text.specs.Tokens.{lexeme}
use Rattle.just_text.specs.declared.name.Name.{Name}
use Rattle.tree_items.specs.declared.ast.Item.{Item}
use Rattle.tree_items.specs.declared.ast.Item.TheVariants.{Alias, Assignment, Comment, Function, Import, Module, Newline, Recipe, Set, Unexport}
use Rattle.modules_compilation.specs.declared.place.Place.{Place}
use Rattle.modules_compilation.specs.declared.module_node.File.{File}
use Rattle.modules_compilation.specs.declared.compilation.Compilation.{Compilation}

-- what is answered where an outcome may be a refusal: what is given, or the refusal
abbrev pub unless_refused : {A B E : Type 0} → A → Result B E → Result A E
unless_refused a (Ok done) = Ok a
unless_refused a (Err refused) = Err refused

-- the items of the file at a place, none where there is no file
abbrev pub items_of : Option File → List Item
items_of None = []
items_of (Some file) = file.ast.items.items

abbrev pub items_in : List File → ℕ → List Item
items_in files file = items_of (slice_get files file)

-- the item at the place, if there is one
abbrev pub item_at : Compilation → Place → Option Item
item_at compilation place = slice_get (items_in compilation.files.items place.file) place.item

-- the name of an item, if it has one
abbrev pub name_of : Item → Option Name
name_of (Alias a) = Some a.name
name_of (Assignment a) = Some a.name
name_of (Comment _) = None
name_of (Function f) = Some f.name
name_of (Import _) = None
name_of (Module m) = Some m.name
name_of Newline = None
name_of (Recipe r) = Some r.name
name_of (Set s) = Some s.name
name_of (Unexport u) = Some u.name

abbrev pub name_at : Compilation → Place → Option Name
name_at compilation place = option_and_then name_of (item_at compilation place)

-- the text of a name, empty where there is none
abbrev pub text_of : Option Name → List ℕ
text_of None = []
text_of (Some name) = lexeme name.token

abbrev pub is_alias : Option Item → Bool
is_alias (Some (Alias _)) = true
is_alias _ = false

abbrev pub is_assignment : Option Item → Bool
is_assignment (Some (Assignment _)) = true
is_assignment _ = false

abbrev pub is_function : Option Item → Bool
is_function (Some (Function _)) = true
is_function _ = false

abbrev pub is_recipe : Option Item → Bool
is_recipe (Some (Recipe _)) = true
is_recipe _ = false

abbrev pub is_set : Option Item → Bool
is_set (Some (Set _)) = true
is_set _ = false
