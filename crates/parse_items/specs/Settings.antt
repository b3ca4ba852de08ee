-- The grammar of settings, without attributes.
use Rattle.std.specs.Prelude.{ℕ, ◌≡◌, ◌⊎◌, true, false, List, [], ◌∷◌, Some, Ok}
use Rattle.just_text.specs.Tokens.{Word}
use Rattle.just_text.specs.declared.token_kind.TokenKind.TheVariants.{BracketL, BracketR, ColonEquals, Comma, Identifier, StringToken}
use Rattle.tree_expressions.specs.Cooking.{cooked}
use Rattle.tree_attributes.specs.Settings.{ValueShape, truth, expression, interpreter, string, SetShape, truth_text}
use Rattle.tree_expressions.specs.Shape.{Shape}
use Rattle.parse_expressions.specs.Words.{Begins, Mark, Lacks}
use Rattle.parse_expressions.specs.Literals.{Expansion}
use Rattle.parse_expressions.specs.LineEnds.{IsEol}
use Rattle.parse_items.specs.Keywords.{set_keyword}
use Rattle.tree_attributes.specs.Sets.Indentations.{is_indentation}
use Rattle.semver.specs.declared.Version.{Version as SemanticVersion}
use Rattle.semver.specs.Parse.{Parts, version_parts}
use Rattle.parse_items.specs.declared.form.Form.{Form}
use Rattle.parse_items.specs.declared.form.Form.TheVariants.{Indentation, Interpreter, Truth, Value, Version}
use Rattle.parse_items.specs.Names.{form_named}
use Rattle.parse_items.specs.Versions.{is_above}
use Rattle.parse_expressions.specs.Strings.{IsExpression}

-- the text names a version that is not above the current one
pub record IsVersion (current : SemanticVersion) (text : List ℕ) : Type 0 where
  pub parts : Parts
  pub reads : version_parts text ≡ Ok parts
  pub served : is_above parts current ≡ false

module _ (expansion : Expansion) where
  -- up to rest there is a string that stands for this text
  abbrev pub IsStringOf : List ℕ → List ℕ → List Word → List Word → Type 0
  IsStringOf s text words rest = Begins StringToken s words rest × (cooked expansion s ≡ Ok text)

  -- up to rest there are these expressions and a closing bracket, a comma after each, which the last may lack
  abbrev pub AreElements : List Shape → List Word → List Word → Type 0
  AreElements [] words rest = Mark BracketR words rest
  AreElements (e ∷ es) words rest =
      (a : List Word) × IsExpression expansion e words a × (((b : List Word) × Mark Comma a b × AreElements es b rest) ⊎ ((es ≡ []) × Mark BracketR a rest))

  -- Up to rest there is a value of that form. True may be left out, with its `:=`.
  abbrev pub IsValue : SemanticVersion → Form → ValueShape → List Word → List Word → Type 0
  IsValue current Truth (truth b) words rest =
      ((b ≡ true) × (words ≡ rest) × Lacks ColonEquals words) ⊎ ((a : List Word) × Mark ColonEquals words a × Begins Identifier (truth_text b) a rest)
  IsValue current Value (expression e) words rest = (a : List Word) × Mark ColonEquals words a × IsExpression expansion e a rest
  IsValue current Interpreter (interpreter i) words rest =
      (a b : List Word) × Mark ColonEquals words a × Mark BracketL a b × AreElements (i.command ∷ i.arguments) b rest
  IsValue current Indentation (string s) words rest =
      (a : List Word) × (text : List ℕ) × Mark ColonEquals words a × IsStringOf s text a rest × (is_indentation text ≡ true)
  IsValue current Version (string s) words rest =
      (a : List Word) × (text : List ℕ) × Mark ColonEquals words a × IsStringOf s text a rest × IsVersion current text
  IsValue current form value words rest = ⊥

  -- Up to rest there is the setting.
  pub record IsSet (current : SemanticVersion) (s : SetShape) (words rest : List Word) : Type 0 where
    pub form : Form
    pub behind_set : List Word
    pub behind_name : List Word
    pub behind_value : List Word
    pub set : Begins Identifier set_keyword words behind_set
    pub name : Begins Identifier s.name behind_set behind_name
    pub known : form_named s.name ≡ Some form
    pub value : IsValue current form s.value behind_name behind_value
    pub eol : IsEol behind_value rest
