-- The files that imports name.
use Rattle.std.specs.Prelude.{ℕ, ◌+◌, ◌-◌, ◌^◌, min, List, [], ◌∷◌, ◌++◌, Option, Some, None, Result, Ok, Err, option_to_list, slice_get}
use Rattle.std.specs.BTreeMap.{BTreeMap}
use Rattle.std.specs.declared.string.String.{String}
use Rattle.tree_items.specs.declared.ast.Item.{Item}
use Rattle.modules_compilation.specs.Places.{items_in}
use Rattle.modules_compilation.specs.declared.error.Error.{Error}
use Rattle.modules_compilation.specs.declared.module_node.File.{File as LoadedFile}
use Rattle.modules_files.specs.Chosen.{File, imported}
use Rattle.modules_sources.specs.Items.{ImportParts, import_of, key_of}

-- what stands before others, unless those are refused
abbrev pub before : {A E : Type 0} → List A → Result (List A) E → Result (List A) E
before some (Ok others) = Ok (some ++ others)
before some (Err refusal) = Err refusal

-- a file that may be there and then others; the first refusal of these
abbrev pub then_others : Result (Option File) Error → Result (List File) Error → Result (List File) Error
then_others (Ok found) others = before (option_to_list found) others
then_others (Err refusal) others = Err refusal

module _ {Y Z : Type 0} (sources : BTreeMap (String Y) (String Z)) where
  -- the file that an import of the file with this key names, if there is an import
  abbrev pub import_answer : List ℕ → Option ImportParts → Result (Option File) Error
  import_answer key None = Ok None
  import_answer key (Some line) = imported sources key line.0 line.1

  -- the files that the imports among items name, in their order, or the refusal of the first that is refused
  abbrev pub imports_among : List ℕ → List Item → Result (List File) Error
  imports_among key [] = Ok []
  imports_among key (item ∷ items) = then_others (import_answer key (import_of item)) (imports_among key items)

  -- those of the file at a place, none where there is no file
  abbrev pub imports_at : List LoadedFile → ℕ → Result (List File) Error
  imports_at files place = imports_among (key_of (slice_get files place)) (items_in files place)

-- one import more leads to what a file imports, as far as numbers of 32 bits go
abbrev pub depth_behind : Option LoadedFile → ℕ
depth_behind None = 0
depth_behind (Some file) = min (file.depth + 1) (2 ^ 32 - 1)
