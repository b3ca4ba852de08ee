-- The words of functions, submodules, unexports and settings.
use Rattle.std.specs.Prelude.{ℕ, List, [], ◌∷◌, Option, Some, None, codes}
use Rattle.just_text.specs.Tokens.{Word}
use Rattle.just_text.specs.declared.token_kind.TokenKind.TheVariants.{BracketL, BracketR, Identifier, QuestionMark, StringToken}
use Rattle.tree_expressions.specs.Shape.{Shape}
use Rattle.tree_attributes.specs.Settings.{ValueShape, truth, expression, interpreter, string, SetShape, truth_text}
use Rattle.tree_items.specs.Items.{FunctionShape, ModuleShape}
use Rattle.parse_expressions.specs.Words.{significant}
use Rattle.parse_expressions.specs.Literals.{Expansion}
use Rattle.parse_items.specs.Keywords.{mod_keyword, set_keyword, unexport_keyword}
use Rattle.parse_items.specs.Items.{IsFunction, IsModule, IsUnexport}
use Rattle.parse_items.specs.Settings.{IsSet}
use Rattle.semver.specs.declared.Version.{Version}
use Rattle.laws_printing.specs.Printing.Words.{word, space, open_paren, close_paren, comma, words_of}
use Rattle.laws_printing.specs.Printing.ItemWords.{newline, if_there, assigned}

abbrev pub unexport_words : List ℕ → List Word → List Word
unexport_words name rest = word Identifier unexport_keyword ∷ space ∷ word Identifier name ∷ rest

abbrev pub file_words : Option (List ℕ) → List Word → List Word
file_words None rest = rest
file_words (Some path) rest = space ∷ word StringToken path ∷ rest

abbrev pub module_words : ModuleShape → List Word → List Word
module_words m rest = word Identifier mod_keyword ∷ if_there m.optional (word QuestionMark (codes "?")) (space ∷ word Identifier m.name ∷ file_words m.path rest)

-- names after the first
abbrev pub other_names : List (List ℕ) → List Word → List Word
other_names [] rest = close_paren ∷ rest
other_names (name ∷ names) rest = comma ∷ space ∷ word Identifier name ∷ other_names names rest

abbrev pub names_words : List (List ℕ) → List Word → List Word
names_words [] rest = close_paren ∷ rest
names_words (name ∷ names) rest = word Identifier name ∷ other_names names rest

abbrev pub function_words : FunctionShape → List Word → List Word
function_words f rest = word Identifier f.name ∷ open_paren ∷ names_words f.parameters (assigned (words_of f.body rest))

abbrev pub other_elements : List Shape → List Word → List Word
other_elements [] rest = word BracketR (codes "]") ∷ rest
other_elements (e ∷ es) rest = comma ∷ space ∷ words_of e (other_elements es rest)

abbrev pub value_words : ValueShape → List Word → List Word
value_words (truth b) rest = word Identifier (truth_text b) ∷ rest
value_words (expression e) rest = words_of e rest
value_words (interpreter i) rest = word BracketL (codes "[") ∷ words_of i.command (other_elements i.arguments rest)
value_words (string s) rest = word StringToken s ∷ rest

abbrev pub set_words : SetShape → List Word → List Word
set_words s rest = word Identifier set_keyword ∷ space ∷ word Identifier s.name ∷ assigned (value_words s.value rest)

abbrev pub UnexportsSpell : Type 0
UnexportsSpell = (name : List ℕ) (words rest after : List Word) → IsUnexport name words rest → IsUnexport name (significant (unexport_words name (newline ∷ after))) (significant after)

abbrev pub ModulesSpell : Type 0
ModulesSpell = (expansion : Expansion) (m : ModuleShape) (words rest after : List Word) → IsModule expansion m words rest → IsModule expansion m (significant (module_words m (newline ∷ after))) (significant after)

abbrev pub FunctionsSpell : Type 0
FunctionsSpell = (expansion : Expansion) (f : FunctionShape) (words rest after : List Word) → IsFunction expansion f words rest → IsFunction expansion f (significant (function_words f (newline ∷ after))) (significant after)

abbrev pub SetsSpell : Type 0
SetsSpell = (expansion : Expansion) (current : Version) (s : SetShape) (words rest after : List Word) → IsSet expansion current s words rest → IsSet expansion current s (significant (set_words s (newline ∷ after))) (significant after)
