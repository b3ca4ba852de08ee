-- The root file: where it is, what it says, and why it can't be read.
use Rattle.std.specs.Prelude.{◌≡◌, ◌≤◌, ℕ, cond, List, [], Option, Some, None, String, map, length, unwrap_or}
use Rattle.std.specs.BTreeMap.{BTreeMap, get_by, get_by_text}
use Rattle.std.specs.Cmp.Lexicographic.{slice_cmp}
use Rattle.std.specs.Option.{option_cmp, option_map}
use Rattle.std.specs.Ordering.{nat_cmp}
use Rattle.std.specs.String.{string_bytes}
use Rattle.just_text.specs.Numbers.{Numbers}
use Rattle.just_text.specs.declared.compile_error.CompileError.{CompileError}
use Rattle.just_text.specs.declared.compile_error.CompileErrorKind.{CompileErrorKind}
use Rattle.just_text.specs.declared.compile_error.CompileErrorKind.TheVariants as kinds
use Rattle.tree_items.specs.Files.{item_shapes}
use Rattle.parse_expressions.specs.Literals.{Expansion, from_file}
use Rattle.parse_recipes.specs.Numbering.{AreUsed}
use Rattle.justfile_syntax.specs.Numbered.{AreInOrder}
use Rattle.justfile_syntax.specs.Parsed.{IsWhole}
use Rattle.justfile_syntax.specs.Reads.{IsRefusal, Reads}
use Rattle.just_value.specs.Constants.{constant_rows}
use Rattle.just_value.specs.Words.{split}
use Rattle.just_value.specs.declared.positional.Positional.{Positional}
use Rattle.modules_compilation.specs.Paths.{is_clean}
use Rattle.modules_sources.specs.declared.load.Parsed.{Parsed}
use Rattle.semver.specs.declared.Version.{Version}
use Rattle.just_run.specs.declared.root.RootFault.{RootFault}
use Rattle.just_run.specs.declared.root.RootFault.TheVariants.{OutOfMemory, NoRootForWord, MissingRoot, Syntax}

-- the text at a path, if the path is clean and there is one
abbrev pub text_at : {A B : Type 0} → BTreeMap (String A) (String B) → List ℕ → Option (List ℕ)
text_at sources path = cond (is_clean path) (option_map string_bytes (get_by_text sources path)) None

-- the path of the root file for a search directory, or for none
abbrev pub root_at : {A B : Type 0} → BTreeMap (Option (String A)) (String B) → Option (List ℕ) → Option (List ℕ)
root_at roots directory = option_map string_bytes (get_by (λ key. option_cmp (slice_cmp nat_cmp) directory (option_map string_bytes key)) roots)

-- what reads files: how `x` expands strings, and the version that reads
pub record Reader : Type 0 where
  pub expansion : Expansion
  pub version : Version

abbrev pub reader_of : Expansion → Version → Reader
reader_of expansion version = record { expansion = expansion; version = version }

-- what a call is given, by contents: the words split, the root file's path and the texts at paths, where there are any
pub record Inputs : Type 0 where
  pub reader : Reader
  pub words : Positional
  pub root : Option (List ℕ)
  pub source : List ℕ → Option (List ℕ)

abbrev pub given : {A B C D : Type 0} → Reader → BTreeMap (String A) (String B) → BTreeMap (Option (String C)) (String D) → Positional → Inputs
given reader sources roots words = record { reader = reader; words = words; root = root_at roots words.search_directory; source = text_at sources }

abbrev pub inputs_of : {A B C D E : Type 0} → Reader → BTreeMap (String A) (String B) → BTreeMap (Option (String C)) (String D) → List (String E) → Inputs
inputs_of reader sources roots words = given reader sources roots (split (map string_bytes words))

-- want of memory stays want of memory, all else is the file's
abbrev pub by_kind : CompileErrorKind → CompileError → RootFault
by_kind kinds.OutOfMemory error = OutOfMemory
by_kind _ error = Syntax error

abbrev pub by_syntax : CompileError → RootFault
by_syntax error = by_kind error.kind error

-- there is no path for the search directory, which is named, unless memory ran out
abbrev pub IsRootless : Option (List ℕ) → Option (List ℕ) → RootFault → Type 0
IsRootless directory root OutOfMemory = Unit {0}
IsRootless directory root (NoRootForWord word) = (root ≡ None) × (word ≡ unwrap_or directory [])
IsRootless directory root (MissingRoot path) = ⊥
IsRootless directory root (Syntax error) = ⊥

-- there is no text at the path, which is named
abbrev pub IsMissing : List ℕ → Option (List ℕ) → RootFault → Type 0
IsMissing path text OutOfMemory = ⊥
IsMissing path text (NoRootForWord word) = ⊥
IsMissing path text (MissingRoot missing) = (text ≡ None) × (missing.now ≡ path)
IsMissing path text (Syntax error) = ⊥

-- the text at the root's path is no justfile for this reason, unless memory or numbers ran out
pub record IsNoJustfile (i : Inputs) (kind : CompileErrorKind) : Type 0 where
  pub path : List ℕ
  pub text : List ℕ
  pub rooted : i.root ≡ Some path
  pub there : i.source path ≡ Some text
  pub next : Numbers
  pub refused : IsRefusal i.reader.expansion i.reader.version (AreUsed next) text kind

-- the root file can't be read, for the reason that the fault names, unless memory or numbers ran out
abbrev pub IsUnread : Inputs → RootFault → Type 0
IsUnread i OutOfMemory = Unit {0}
IsUnread i (NoRootForWord word) = (i.root ≡ None) × (word ≡ unwrap_or i.words.search_directory [])
IsUnread i (MissingRoot path) = (i.root ≡ Some path.now) × (i.source path.now ≡ None)
IsUnread i (Syntax error) = IsNoJustfile i error.kind

-- this is the root's path, and its text says the file, which has numbers of its own after those of the constants and before the next ones
pub record IsFileRead (i : Inputs) (path : List ℕ) (parsed : Parsed) : Type 0 where
  pub rooted : i.root ≡ Some path
  pub text : List ℕ
  pub there : i.source path ≡ Some text
  pub says : Reads i.reader.expansion i.reader.version text (item_shapes parsed.ast.items.items)
  pub whole : IsWhole (from_file path i.reader.expansion) parsed.ast
  pub start : Numbers
  pub above : length constant_rows ≤ start.bindings
  pub numbered : AreInOrder start parsed.numerator parsed.ast.items.items
