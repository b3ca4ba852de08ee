-- The words for what items are.
use Rattle.std.specs.Prelude.{ℕ, List, codes}
use Rattle.tree_attributes.specs.declared.item_kind.ItemKind.{ItemKind}
use Rattle.tree_attributes.specs.declared.item_kind.ItemKind.TheVariants.{Alias, Assignment, Comment, Function, Import, Module, Newline, Recipe, Set, Unexport}

abbrev pub kind_text : ItemKind → List ℕ
kind_text Alias = codes "alias"
kind_text Assignment = codes "assignment"
kind_text Comment = codes "comment"
kind_text Function = codes "function"
kind_text Import = codes "import"
kind_text Module = codes "module"
kind_text Newline = codes "newline"
kind_text Recipe = codes "recipe"
kind_text Set = codes "setting"
kind_text Unexport = codes "unexport"
