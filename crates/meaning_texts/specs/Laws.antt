-- What the structures of the code give is what the texts say.
use Rattle.std.specs.Prelude.{◌≡◌, ◌⊎◌, ℕ, if◌then◌else◌, List, [], ◌∷◌, ◌++◌, Contains, Option, Some, None, codes, slice_get, unwrap_or}
use Rattle.std.specs.Str.{IsUtf8}
use Rattle.just_text.specs.declared.os.Os.{Os}
use Rattle.tree_items.specs.declared.ast.Item.{Item}
use Rattle.tree_items.specs.FileIndentation.{file_indentation}
use Rattle.tree_items.specs.Files.{file_text, item_shapes}
use Rattle.tree_items.specs.Printable.{printable}
use Rattle.justfile_syntax.specs.Laws.{SaysAtMostOne}
use Rattle.modules_compilation.specs.declared.compilation.Compilation.{Compilation}
use Rattle.modules_compilation.specs.declared.module_node.File.{File}
use Rattle.modules_compilation.specs.declared.module_node.ModuleNode.{ModuleNode}
use Rattle.meaning_rules.specs.Worlds.Given.{Given, Overrides, Text, World}
use Rattle.meaning_rules.specs.Worlds.Modules.{IsModule}
use Rattle.meaning_evaluation.specs.Named.{Definitions, paths_of}
use Rattle.just_meaning.specs.Defining.{AreDefined}
use Rattle.laws_printing.specs.Formatted.Formatted.{PrintsBack}
use Rattle.laws_modules.specs.Names.Names.{AreSingle, HasNode, IsOfWorld}
use Rattle.justfile_analyzer.specs.Listings.{listing}
use Rattle.meaning_rules.specs.Worlds.Reformatted.{FormatsSome, IsFormattedAt, IsReformatted}
use Rattle.meaning_texts.specs.Listings.{IsListing, IsOfferedModule}
use Rattle.meaning_texts.specs.Texts.{IsAnswer, IsDump}
use Rattle.meaning_rules.specs.Worlds.Matching.{MatchSources}

-- the compilation of a world, whose files say what their sources say
pub record IsCompiledFrom (source : Given) (w : World) (compilation : Compilation) : Type 0 where
  pub same_root : w.root ≡ source.root
  pub of : IsOfWorld w compilation
  pub single : AreSingle w compilation
  pub sources : MatchSources source compilation

-- ---- laws

-- the list of a module is what it offers in the world
abbrev pub ListingsStand : Type 0
ListingsStand = SaysAtMostOne → (source : Given) (w : World) (compilation : Compilation) → IsCompiledFrom source w compilation
    → (k : ℕ) (node : ModuleNode) → HasNode w compilation k node → IsListing source w node.source.now (listing compilation k)

-- a module has one list
abbrev pub ListingsAreOne : Type 0
ListingsAreOne = (source : Given) (w : World) (own text other : Text) → IsListing source w own text → IsListing source w own other → text ≡ other

-- the same as it is held in the code: the file's text in its indentation
abbrev pub text_held : Os → List Item → Text
text_held os items = file_text (unwrap_or (file_indentation os items) (codes "    ")) (item_shapes items)

abbrev pub answer_held : Os → List Item → Option Text
answer_held os items = if printable (item_shapes items) then Some (text_held os items) else None

-- the root's file, whose texts are those that are said
pub record HasRootTexts (source : Given) (compilation : Compilation) : Type 0 where
  pub node : ModuleNode
  pub first : slice_get compilation.modules.items 0 ≡ Some node
  pub file : File
  pub there : slice_get compilation.files.items node.first_file ≡ Some file
  pub key : file.key.now ≡ source.root
  pub dump : IsDump source (text_held source.os file.ast.items.items)
  pub answer : IsAnswer source (answer_held source.os file.ast.items.items)

-- a justfile has it
abbrev pub RootTextsStand : Type 0
RootTextsStand = (source : Given) (w : World) (compilation : Compilation) → IsCompiledFrom source w compilation → HasRootTexts source compilation

-- A module has the same list where some files stand in their formatted text. The premises are laws of the parser and of printing: a text says one thing at most, and what is printed is read again.
abbrev pub ListingsStayAlike : Type 0
ListingsStayAlike = PrintsBack → SaysAtMostOne → (source other : Given) → IsReformatted source other → (w : World) (own text : Text) → IsListing source w own text → IsListing other w own text

-- and so have the texts of the root file
abbrev pub DumpsStayAlike : Type 0
DumpsStayAlike = PrintsBack → SaysAtMostOne → (source other : Given) → IsReformatted source other → (text : Text) → IsDump source text → IsDump other text

abbrev pub AnswersStayAlike : Type 0
AnswersStayAlike = PrintsBack → SaysAtMostOne → (source other : Given) → IsReformatted source other → (answer : Option Text) → IsAnswer source answer → IsAnswer other answer

-- what is answered is the root's formatted text: it may stand in the root's place
abbrev pub AnswersAreFormatted : Type 0
AnswersAreFormatted = (source : Given) (other : Text → Option Text) (text answer : Text) → source.source source.root ≡ Some text → IsUtf8 text → IsAnswer source (Some answer) → other source.root ≡ Some answer
    → IsFormattedAt source.expansion source.version source.source other source.root

-- put there, and all else as it was, it makes a call to which the clause on formatted texts applies
abbrev pub AnswersFormatSome : Type 0
AnswersFormatSome = (source : Given) (other : Text → Option Text) (text answer : Text) → source.source source.root ≡ Some text → IsUtf8 text → IsAnswer source (Some answer)
    → ((key : Text) → (other key ≡ source.source key) ⊎ ((key ≡ source.root) × (other key ≡ Some answer))) → FormatsSome source.expansion source.version source.source other

-- a submodule that is offered is one of the modules that are defined
abbrev pub OfferedModulesAreDefined : Type 0
OfferedModulesAreDefined = (w : World) (o : Overrides) (base working : Text) (defined : Definitions) → AreDefined w o base working defined
    → (path : List Text) (own name : Text) → IsModule w path own → IsOfferedModule w own name → Contains (paths_of defined.modules) (path ++ name ∷ [])
