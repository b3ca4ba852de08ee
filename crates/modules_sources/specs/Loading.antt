-- Files that are read one after the other.
use Rattle.std.specs.Prelude.{◌≡◌, ◌<◌, ℕ, List, [], ◌∷◌, ◌++◌, Ok, Err, Some, length, slice_get, take}
use Rattle.std.specs.BTreeMap.{BTreeMap}
use Rattle.std.specs.declared.string.String.{String}
use Rattle.just_text.specs.Numbers.{Numbers}
use Rattle.just_text.specs.declared.compile_error.CompileError.{CompileError}
use Rattle.just_text.specs.declared.compile_error.CompileErrorKind.{CompileErrorKind}
use Rattle.just_text.specs.declared.compile_error.CompileErrorKind.TheVariants.{OutOfMemory}
use Rattle.tree_items.specs.Files.{item_shapes}
use Rattle.parse_expressions.specs.Literals.{Expansion, from_file}
use Rattle.parse_recipes.specs.Numbering.{AreUsed}
use Rattle.justfile_syntax.specs.Numbered.{AreInOrder}
use Rattle.justfile_syntax.specs.Parsed.{IsWhole}
use Rattle.justfile_syntax.specs.Reads.{IsRefusal, Reads, Stands}
use Rattle.semver.specs.declared.Version.{Version}
use Rattle.modules_compilation.specs.declared.error.Error.{Error}
use Rattle.modules_compilation.specs.declared.error.Error.TheVariants.{OutOfMemory as no_memory, Syntax}
use Rattle.modules_compilation.specs.declared.module_node.File.{File as LoadedFile}
use Rattle.modules_files.specs.Chosen.{File}
use Rattle.modules_sources.specs.Imports.{depth_behind, imports_at}
use Rattle.modules_sources.specs.Reached.{AreReached, IsFollowed, new_files}
use Rattle.modules_sources.specs.declared.imports.Reached.{Reached}

-- how a fault of a text of some kind is told: want of memory alone, and any other as it is
abbrev pub refusal_by : CompileErrorKind → CompileError → Error
refusal_by OutOfMemory error = no_memory
refusal_by other error = Syntax error

module _ (expansion : Expansion) (version : Version) (owner depth : ℕ) where
  -- a file for a module, so many imports deep: what its text says, with the next numbers
  pub record IsRead (source : File) (old new : Numbers) (file : LoadedFile) : Type 0 where
    pub key : file.key.now ≡ source.0
    pub owner_is : file.module ≡ owner
    pub depth_is : file.depth ≡ depth
    pub says : Reads expansion version source.1 (item_shapes file.ast.items.items)
    pub whole : IsWhole (from_file source.0 expansion) file.ast
    pub numbered : AreInOrder old new file.ast.items.items

  -- a text is refused: it says nothing, for the reason that is told, or no numbers are left
  pub record IsUnread (source : File) (used : Numbers) (refusal : Error) : Type 0 where
    pub error : CompileError
    pub told : refusal ≡ refusal_by error.kind error
    pub reason : IsRefusal expansion version (AreUsed used) source.1 error.kind
    pub place : Stands expansion version source.0 source.1 error.token error.kind

  -- files that are read one after the other, numbers after numbers
  pub data AreRead : List File → Numbers → List LoadedFile → Numbers → Type 0 where
    read_none : {numbers : Numbers} → AreRead [] numbers [] numbers
    read_more : {sources : List File} {files : List LoadedFile} {old now new : Numbers} (source : File) (file : LoadedFile) → AreRead sources old files now → IsRead source now new file
        → AreRead (sources ++ source ∷ []) old (files ++ file ∷ []) new

  -- one is refused, and none before it
  pub record IsUnreadAmong (sources : List File) (old : Numbers) (refusal : Error) : Type 0 where
    pub place : ℕ
    pub source : File
    pub there : slice_get sources place ≡ Some source
    pub earlier : List LoadedFile
    pub now : Numbers
    pub read : AreRead (take place sources) old earlier now
    pub used : Numbers
    pub refused : IsUnread source used refusal

module _ {Y Z : Type 0} (sources : BTreeMap (String Y) (String Z)) (expansion : Expansion) (version : Version) (owner place : ℕ) where
  -- what the file at the place imports is reached, and what is new of it is read and put behind the files
  pub record IsTurn (old new : List LoadedFile) (reached after : Reached) (numbers gone : Numbers) : Type 0 where
    pub there : place < length old
    pub found : List File
    pub named : imports_at sources old place ≡ Ok found
    pub told : List File
    pub follows : (keys : List (List ℕ)) → AreReached keys reached → IsFollowed keys found reached after told
    pub more : List LoadedFile
    pub read : AreRead expansion version owner (depth_behind (slice_get old place)) told numbers more gone
    pub whole : new ≡ old ++ more

  -- an import of the file is refused, or the text of a file that is new
  pub data IsTurnRefused (old : List LoadedFile) (reached : Reached) (numbers : Numbers) (refusal : Error) : Type 0 where
    import_refused : imports_at sources old place ≡ Err refusal → IsTurnRefused old reached numbers refusal
    text_refused : (found told : List File) → imports_at sources old place ≡ Ok found → ((keys : List (List ℕ)) → AreReached keys reached → told ≡ new_files keys found)
        → IsUnreadAmong expansion version owner (depth_behind (slice_get old place)) told numbers refusal → IsTurnRefused old reached numbers refusal
