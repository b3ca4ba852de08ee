-- What else a compilation has that names and numbers are read from.
use Rattle.std.specs.Prelude.{◌≡◌, ◌≤◌, ℕ, Some, length, slice_get}
use Rattle.std.specs.List.{All}
use Rattle.modules_compilation.specs.declared.compilation.Compilation.{Compilation}
use Rattle.modules_compilation.specs.declared.module_node.File.{File}
use Rattle.parse_attributed_items.specs.Held.{IsItemCooked, IsOwnItem}
use Rattle.parse_expressions.specs.Literals.{from_file}
use Rattle.just_value.specs.Constants.{constant_rows}
use Rattle.meaning_rules.specs.Worlds.Given.{World}
use Rattle.meaning_rules.specs.Worlds.Compiled.{FileView}
use Rattle.laws_modules.specs.Names.Names.{AreSetOnce, AreSingle, IsOfWorld, views}

-- the items of each file hold what their strings stand for
abbrev pub AreFilesCooked : World → Compilation → Type 0
AreFilesCooked w compilation = (k : ℕ) (file : File) → slice_get compilation.files.items k ≡ Some file → All (IsItemCooked (from_file file.key.now w.expansion)) file.ast.items.items

-- the compilation stands for the modules of the world, none of which has two definitions of a name or two settings of one; its items are what their attributes make of them, and no number of a binding is a constant's
pub record IsMeant (w : World) (compilation : Compilation) : Type 0 where
  pub of : IsOfWorld w compilation
  pub single : AreSingle w compilation
  pub settings : AreSetOnce w compilation
  pub options : (k : ℕ) (file : File) → slice_get compilation.files.items k ≡ Some file → All (IsOwnItem w.expansion) file.ast.items.items
  pub above : (k : ℕ) (view : FileView) → slice_get (views w compilation) k ≡ Some view → All (λ number. length constant_rows ≤ number) view.bindings

-- so it is, and its items hold what their strings stand for
pub record IsMeantWhole (w : World) (compilation : Compilation) : Type 0 where
  pub meant : IsMeant w compilation
  pub cooked : AreFilesCooked w compilation
