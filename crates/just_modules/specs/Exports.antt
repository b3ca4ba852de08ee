-- Variables that are exported although their names are not to be.
use Rattle.std.specs.Prelude.{ℕ, Bool, false, ◌&&◌, List, Option, Some, bytes_eq, find, slice_get}
use Rattle.std.specs.BTreeSet.{BTreeSet, contains_by}
use Rattle.std.specs.Borrow.{Bor}
use Rattle.std.specs.Cmp.Lexicographic.{slice_cmp}
use Rattle.std.specs.List.{list_any}
use Rattle.std.specs.Ordering.{nat_cmp}
use Rattle.tree_items.specs.declared.ast.Item.{Item}
use Rattle.tree_items.specs.declared.ast.Item.TheVariants.{Assignment}
use Rattle.modules_compilation.specs.Places.{items_in}
use Rattle.modules_compilation.specs.declared.error.Error.{Error}
use Rattle.modules_compilation.specs.declared.error.Error.TheVariants.{ExportUnexported}
use Rattle.modules_compilation.specs.declared.module_node.File.{File}
use Rattle.modules_compilation.specs.declared.place.Place.{Place}
use Rattle.modules_definitions.specs.Lists.{is_same_kind}
use Rattle.modules_definitions.specs.declared.definition.Definition.{Definition}
use Rattle.modules_definitions.specs.declared.definition.Kind.TheVariants.{Unexport, Variable}

-- a definition says that the name is not to be exported
abbrev pub is_unexported : List Definition → List ℕ → Bool
is_unexported definitions name = list_any (λ d. is_same_kind Unexport d.kind && bytes_eq d.text.now name) definitions

-- the text is one of a set
abbrev pub has_text : BTreeSet (Bor (List ℕ)) → List ℕ → Bool
has_text set text = contains_by (λ key. slice_cmp nat_cmp text key.now) set

-- the item is a variable that is exported by a word of its own
abbrev pub is_exported : Option Item → Bool
is_exported (Some (Assignment a)) = a.export
is_exported other = false

abbrev pub exports_at : List File → Place → Bool
exports_at files place = is_exported (slice_get (items_in files place.file) place.item)

-- the definition is of such a variable
abbrev pub exports : List File → Definition → Bool
exports files d = is_same_kind Variable d.kind && exports_at files d.place

-- it is, although its name is not to be exported
abbrev pub is_refused : List File → List Definition → Definition → Bool
is_refused files definitions d = exports files d && is_unexported definitions d.text.now

-- the first such definition
abbrev pub first_unexported : List File → List Definition → Option Definition
first_unexported files definitions = find (is_refused files definitions) definitions

abbrev pub export_refusal : Definition → Error
export_refusal d = ExportUnexported d.name.now
