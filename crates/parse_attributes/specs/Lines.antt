-- The grammar of attributes and of the lines on which they stand.
use Rattle.std.specs.Prelude.{ℕ, ◌≡◌, ◌⊎◌, true, List, [], ◌∷◌, Some, None, codes, if◌then◌else◌}
use Rattle.just_text.specs.Tokens.{Word}
use Rattle.just_text.specs.declared.token_kind.TokenKind.TheVariants.{BracketL, BracketR, Colon, Comment, Eol, Equals, Identifier, ParenL, ParenR}
use Rattle.tree_attributes.specs.declared.attribute.AttributeKind.{AttributeKind}
use Rattle.tree_attributes.specs.Attributes.{AttributeShape, kind_name}
use Rattle.tree_attributes.specs.Forms.{form_of, takes}
use Rattle.parse_expressions.specs.Words.{is_kind, Begins, Mark, Lacks}
use Rattle.parse_expressions.specs.Literals.{Expansion}
use Rattle.parse_expressions.specs.Strings.{IsAside, IsExpression, IsString}
use Rattle.parse_attributes.specs.Rows.{Follow, IfGiven}
use Rattle.parse_expressions.specs.Rows.{IsComma}
use Rattle.parse_attributes.specs.Options.{OptionShape, flag, multiple, long, help, max, min, short, value}
use Rattle.parse_attributes.specs.Arguments.{Sort, of_strings, of_expressions, of_parameter, sort_of, Arguments, nothing, strings, expressions, parameter, count, lone, made}
use Rattle.parse_expressions.specs.Grammar.{Closes}

module _ {T : Type 0} (word : T → Word) where
  unfoldable mutual
    -- what follows the comment lines at the front
    pub behind_comments : List T → List T
    behind_comments [] = []
    behind_comments (t ∷ ts) = if is_kind (word t).kind Comment then behind_one t ts else t ∷ ts

    -- the same after that comment, which is no line of its own at the end of the file
    pub behind_one : T → List T → List T
    behind_one t [] = t ∷ []
    behind_one t (u ∷ us) = if is_kind (word u).kind Eol then behind_comments us else t ∷ u ∷ us

-- Up to rest a line ends, perhaps after a comment, and comment lines follow.
abbrev pub IsLineEnd : List Word → List Word → Type 0
IsLineEnd words rest = (a b : List Word) × IsAside words a × Mark Eol a b × (rest ≡ behind_comments (λ (w : Word). w) b)

-- up to rest the brackets close, and their line ends
abbrev pub IsBracketEnd : List Word → List Word → Type 0
IsBracketEnd words rest = (a : List Word) × Closes BracketR words a × IsLineEnd a rest

-- between two attributes: a comma, or the brackets of two lines
abbrev pub IsBetween : List Word → List Word → Type 0
IsBetween words rest = IsComma BracketR words rest ⊎ ((a : List Word) × IsBracketEnd words a × Mark BracketL a rest)

-- after the last attribute: the end of its line, and no bracket after it
abbrev pub IsLast : List Word → List Word → Type 0
IsLast words rest = IsBracketEnd words rest × Lacks BracketL rest

module _ (expansion : Expansion) where
  -- a name, `=` and a string
  abbrev pub IsAssigned : List ℕ → List ℕ → List Word → List Word → Type 0
  IsAssigned name s words rest = (a b : List Word) × Begins Identifier name words a × Mark Equals a b × IsString expansion s b rest

  -- up to rest there is the option
  abbrev pub IsOption : OptionShape → List Word → List Word → Type 0
  IsOption flag words rest = Begins Identifier (codes "flag") words rest
  IsOption multiple words rest = Begins Identifier (codes "multiple") words rest
  IsOption (long None) words rest = Begins Identifier (codes "long") words rest × Lacks Equals rest
  IsOption (long (Some s)) words rest = IsAssigned (codes "long") s words rest
  IsOption (help s) words rest = IsAssigned (codes "help") s words rest
  IsOption (max s) words rest = IsAssigned (codes "max") s words rest
  IsOption (min s) words rest = IsAssigned (codes "min") s words rest
  IsOption (short s) words rest = IsAssigned (codes "short") s words rest
  IsOption (value e) words rest = (a b : List Word) × Begins Identifier (codes "value") words a × Mark Equals a b × IsExpression expansion e b rest

  -- up to rest there are these arguments, one or more, and a closing parenthesis
  abbrev pub AreInside : Sort → Arguments → List Word → List Word → Type 0
  AreInside of_strings (strings s ss) words rest = (a : List Word) × IsString expansion s words a × Follow (IsString expansion) (IsComma ParenR) (Closes ParenR) ss a rest
  AreInside of_expressions (expressions e es) words rest = (a : List Word) × IsExpression expansion e words a × Follow (IsExpression expansion) (IsComma ParenR) (Closes ParenR) es a rest
  AreInside of_parameter (parameter name options) words rest =
      (a : List Word) × IsString expansion name words a × Follow (IfGiven IsOption) (IsComma ParenR) (Closes ParenR) options a rest
  AreInside sort arguments words rest = ⊥

  -- up to rest there is a string after a colon, which is the argument
  abbrev pub IsBehindColon : Sort → Arguments → List Word → List Word → Type 0
  IsBehindColon sort arguments words rest = (s : List ℕ) × (a : List Word) × Mark Colon words a × IsString expansion s a rest × (arguments ≡ lone sort s)

  -- up to rest there are the arguments of that sort, or nothing where there are none
  abbrev pub AreArguments : Sort → Arguments → List Word → List Word → Type 0
  AreArguments sort nothing words rest = (words ≡ rest) × Lacks ParenL words × Lacks Colon words
  AreArguments sort arguments words rest = IsBehindColon sort arguments words rest ⊎ ((a : List Word) × Mark ParenL words a × AreInside sort arguments a rest)

  -- Up to rest there is the attribute: its name, and as many arguments as it takes, of its form.
  pub record IsAttribute (attribute : AttributeShape) (words rest : List Word) : Type 0 where
    pub kind : AttributeKind
    pub arguments : Arguments
    pub behind_name : List Word
    pub name : Begins Identifier (kind_name kind) words behind_name
    pub stand : AreArguments (sort_of (form_of kind)) arguments behind_name rest
    pub taken : takes (form_of kind) (count arguments) ≡ true
    pub makes : made expansion kind arguments ≡ Some attribute

  -- Up to rest there are lines of these attributes, perhaps none.
  abbrev pub AreAttributes : List AttributeShape → List Word → List Word → Type 0
  AreAttributes [] words rest = (words ≡ rest) × Lacks BracketL words
  AreAttributes (x ∷ xs) words rest = (a b : List Word) × Mark BracketL words a × IsAttribute x a b × Follow IsAttribute IsBetween IsLast xs b rest
