-- The words of printed items: aliases, assignments, imports, recipes.
use Rattle.std.specs.Prelude.{ℕ, Bool, true, false, List, [], ◌∷◌, Option, Some, None, codes}
use Rattle.just_text.specs.Tokens.{Word}
use Rattle.just_text.specs.declared.token_kind.TokenKind.TheVariants.{AmpersandAmpersand, Asterisk, At, Colon, ColonColon, ColonEquals, Dedent, Dollar, Eol, Equals, Identifier, Indent, InterpolationEnd, InterpolationStart, Plus as PlusMark, QuestionMark, StringToken, Text, Whitespace}
use Rattle.tree_expressions.specs.Shape.{Shape}
use Rattle.tree_items.specs.declared.recipe.ParameterKind.{ParameterKind}
use Rattle.tree_items.specs.declared.recipe.ParameterKind.TheVariants.{Plus, Singular, Star}
use Rattle.tree_items.specs.Items.{AliasShape, AssignmentShape, ImportShape}
use Rattle.tree_items.specs.Lines.{Piece, text, interpolation}
use Rattle.tree_items.specs.Recipes.{ParameterShape, ArgumentShape, DependencyShape, RecipeShape}
use Rattle.parse_items.specs.Keywords.{alias_keyword, eager_keyword, export_keyword, import_keyword}
use Rattle.laws_printing.specs.Printing.Words.{word, space, open_paren, close_paren, words_of}

abbrev pub newline : Word
newline = word Eol (codes "\n")

-- a word that may stand, before the rest
abbrev pub if_there : Bool → Word → List Word → List Word
if_there true w rest = w ∷ rest
if_there false w rest = rest

-- names with `::` between two
abbrev pub path_words : List (List ℕ) → List Word → List Word
path_words [] rest = rest
path_words (name ∷ []) rest = word Identifier name ∷ rest
path_words (name ∷ next ∷ names) rest = word Identifier name ∷ word ColonColon (codes "::") ∷ path_words (next ∷ names) rest

abbrev pub assigned : List Word → List Word
assigned rest = space ∷ word ColonEquals (codes ":=") ∷ space ∷ rest

abbrev pub alias_words : AliasShape → List Word → List Word
alias_words a rest = word Identifier alias_keyword ∷ space ∷ word Identifier a.name ∷ assigned (path_words a.target rest)

-- a word of an assignment and a space
abbrev pub keyword_words : Bool → List ℕ → List Word → List Word
keyword_words true keyword rest = word Identifier keyword ∷ space ∷ rest
keyword_words false keyword rest = rest

abbrev pub assignment_words : AssignmentShape → List Word → List Word
assignment_words a rest = keyword_words a.export export_keyword (keyword_words a.eager eager_keyword (word Identifier a.name ∷ assigned (words_of a.value rest)))

abbrev pub import_words : ImportShape → List Word → List Word
import_words i rest = word Identifier import_keyword ∷ if_there i.optional (word QuestionMark (codes "?")) (space ∷ word StringToken i.path ∷ rest)

-- ---- bodies

abbrev pub piece_words : Piece → List Word → List Word
piece_words (text t) rest = word Text t ∷ rest
piece_words (interpolation e) rest = word InterpolationStart (codes "{{") ∷ space ∷ words_of e (space ∷ word InterpolationEnd (codes "}}") ∷ rest)

abbrev pub line_words : List Piece → List Word → List Word
line_words [] rest = rest
line_words (p ∷ ps) rest = piece_words p (line_words ps rest)

abbrev pub indented_words : List ℕ → List Piece → List Word → List Word
indented_words indentation [] rest = rest
indented_words indentation (p ∷ ps) rest = word Whitespace indentation ∷ line_words (p ∷ ps) rest

-- lines after the first, and the end of the indentation
abbrev pub lines_words : List ℕ → List (List Piece) → List Word → List Word
lines_words indentation [] rest = word Dedent [] ∷ rest
lines_words indentation (line ∷ lines) rest = indented_words indentation line (newline ∷ lines_words indentation lines rest)

-- a body after the first line's end
abbrev pub body_words : List ℕ → List (List Piece) → List Word → List Word
body_words indentation [] rest = rest
body_words indentation (line ∷ lines) rest = word Indent indentation ∷ line_words line (newline ∷ lines_words indentation lines rest)

-- ---- headers

abbrev pub kind_words : ParameterKind → List Word → List Word
kind_words Plus rest = word PlusMark (codes "+") ∷ rest
kind_words Singular rest = rest
kind_words Star rest = word Asterisk (codes "*") ∷ rest

abbrev pub default_words : Option Shape → List Word → List Word
default_words None rest = rest
default_words (Some e) rest = word Equals (codes "=") ∷ words_of e rest

abbrev pub parameter_words : ParameterShape → List Word → List Word
parameter_words p rest = kind_words p.kind (if_there p.export (word Dollar (codes "$")) (word Identifier p.name ∷ default_words p.default rest))

abbrev pub parameters_words : List ParameterShape → List Word → List Word
parameters_words [] rest = rest
parameters_words (p ∷ ps) rest = space ∷ parameter_words p (parameters_words ps rest)

abbrev pub arguments_words : List ArgumentShape → List Word → List Word
arguments_words [] rest = close_paren ∷ rest
arguments_words (x ∷ xs) rest = space ∷ if_there x.starred (word Asterisk (codes "*")) (words_of x.expression (arguments_words xs rest))

abbrev pub called_words : List (List ℕ) → List ArgumentShape → List Word → List Word
called_words path [] rest = path_words path rest
called_words path (x ∷ xs) rest = open_paren ∷ path_words path (arguments_words (x ∷ xs) rest)

abbrev pub dependencies_words : List DependencyShape → List Word → List Word
dependencies_words [] rest = rest
dependencies_words (d ∷ ds) rest = space ∷ called_words d.path d.arguments (dependencies_words ds rest)

abbrev pub subsequents_words : List DependencyShape → List Word → List Word
subsequents_words [] rest = rest
subsequents_words (d ∷ ds) rest = space ∷ word AmpersandAmpersand (codes "&&") ∷ dependencies_words (d ∷ ds) rest

abbrev pub header_words : RecipeShape → List Word → List Word
header_words r rest =
    if_there r.quiet (word At (codes "@")) (word Identifier r.name ∷ parameters_words r.parameters (word Colon (codes ":") ∷ dependencies_words r.priors (subsequents_words r.subsequents rest)))
