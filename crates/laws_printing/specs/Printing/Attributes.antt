-- The words of a printed attribute.
use Rattle.std.specs.Prelude.{ℕ, Bool, true, false, List, [], ◌∷◌, ◌++◌, Option, Some, None, codes}
use Rattle.just_text.specs.Tokens.{Word}
use Rattle.just_text.specs.declared.token_kind.TokenKind.TheVariants.{BracketL, BracketR, Comment, Equals, Identifier, StringToken}
use Rattle.tree_attributes.specs.declared.attribute.AttributeKind.{AttributeKind}
use Rattle.tree_attributes.specs.Attributes.{AttributeShape, OptionsShape, plain, with_options, with_prompt, with_pair, with_string, with_strings, with_interpreter, kind_of, kind_name}
use Rattle.parse_expressions.specs.Words.{Lacks, significant}
use Rattle.parse_expressions.specs.Literals.{Expansion}
use Rattle.parse_attributes.specs.Options.{OptionShape, flag, multiple, long, help, max, min, short, value}
use Rattle.parse_attributes.specs.Arguments.{Arguments, nothing, strings, expressions, parameter}
use Rattle.parse_attributes.specs.Lines.{AreAttributes, IsAttribute}
use Rattle.laws_printing.specs.Printing.ItemWords.{newline}
use Rattle.laws_printing.specs.Printing.Words.{word, space, open_paren, close_paren, comma, words_of}

-- what is there, as a row
abbrev pub if_set : Bool → OptionShape → List (Option OptionShape)
if_set true p = Some p ∷ []
if_set false p = []

abbrev pub if_given : {A : Type 0} → Option A → (A → OptionShape) → List (Option OptionShape)
if_given None f = []
if_given (Some x) f = Some (f x) ∷ []

-- the options in byte order of their names
abbrev pub options_in_order : OptionsShape → List (Option OptionShape)
options_in_order o =
    if_set o.flag flag ++ (if_given o.help help ++ (if_given o.long long ++ (if_given o.max max ++ (if_given o.min min ++ (if_set o.multiple multiple ++ (if_given o.short short ++ if_given o.value value))))))

abbrev pub string_words : List ℕ → List Word → List Word
string_words s rest = word StringToken s ∷ rest

abbrev pub assigned_words : List ℕ → List ℕ → List Word → List Word
assigned_words name s rest = word Identifier name ∷ word Equals (codes "=") ∷ word StringToken s ∷ rest

abbrev pub option_words : OptionShape → List Word → List Word
option_words flag rest = word Identifier (codes "flag") ∷ rest
option_words multiple rest = word Identifier (codes "multiple") ∷ rest
option_words (long None) rest = word Identifier (codes "long") ∷ rest
option_words (long (Some s)) rest = assigned_words (codes "long") s rest
option_words (help s) rest = assigned_words (codes "help") s rest
option_words (max s) rest = assigned_words (codes "max") s rest
option_words (min s) rest = assigned_words (codes "min") s rest
option_words (short s) rest = assigned_words (codes "short") s rest
option_words (value e) rest = word Identifier (codes "value") ∷ word Equals (codes "=") ∷ words_of e rest

abbrev pub given_words : Option OptionShape → List Word → List Word
given_words None rest = rest
given_words (Some p) rest = option_words p rest

-- each after a comma and a space, and a closing parenthesis
abbrev pub more_words : {A : Type 0} → (A → List Word → List Word) → List A → List Word → List Word
more_words f [] rest = close_paren ∷ rest
more_words f (x ∷ xs) rest = comma ∷ space ∷ f x (more_words f xs rest)

abbrev pub argument_words : Arguments → List Word → List Word
argument_words nothing rest = rest
argument_words (strings s ss) rest = open_paren ∷ string_words s (more_words string_words ss rest)
argument_words (expressions e es) rest = open_paren ∷ words_of e (more_words words_of es rest)
argument_words (parameter name options) rest = open_paren ∷ string_words name (more_words given_words options rest)

abbrev pub attribute_words : AttributeKind → Arguments → List Word → List Word
attribute_words kind arguments rest = word Identifier (kind_name kind) ∷ argument_words arguments rest

-- the arguments that an attribute is printed with, options in order
abbrev pub arguments_of : AttributeShape → Arguments
arguments_of (plain k) = nothing
arguments_of (with_options o) = parameter o.name (options_in_order o)
arguments_of (with_prompt e) = expressions e []
arguments_of (with_pair k v) = expressions k (v ∷ [])
arguments_of (with_string k s) = strings s []
arguments_of (with_strings s ss) = strings s ss
arguments_of (with_interpreter i) = expressions i.command i.arguments

abbrev pub shape_words : AttributeShape → List Word → List Word
shape_words x rest = attribute_words (kind_of x) (arguments_of x) rest

abbrev pub close_bracket : Word
close_bracket = word BracketR (codes "]")

-- attributes one a line
abbrev pub attributes_words : List AttributeShape → List Word → List Word
attributes_words [] rest = rest
attributes_words (x ∷ xs) rest = word BracketL (codes "[") ∷ shape_words x (close_bracket ∷ newline ∷ attributes_words xs rest)

abbrev pub AllOf : {A : Type 0} → (A → Type 0) → List A → Type 0
AllOf P [] = Unit {0}
AllOf P (x ∷ xs) = P x × AllOf P xs

-- before a closing bracket the printed words of an attribute derive it
abbrev pub IsSpelled : Expansion → AttributeShape → Type 0
IsSpelled expansion x = (after : List Word) → IsAttribute expansion x (significant (shape_words x (close_bracket ∷ after))) (significant (close_bracket ∷ after))

-- an attribute that some words derive is derived again
abbrev pub AttributesSpell : Type 0
AttributesSpell = (expansion : Expansion) (x : AttributeShape) (words rest : List Word) → IsAttribute expansion x words rest → IsSpelled expansion x

-- before what is neither a comment nor a bracket, attributes one a line
abbrev pub LinesOfAttributesSpell : Type 0
LinesOfAttributesSpell = (expansion : Expansion) (xs : List AttributeShape) (after : List Word) → AllOf (IsSpelled expansion) xs → Lacks Comment (significant after) → Lacks BracketL (significant after) → AreAttributes expansion xs (significant (attributes_words xs after)) (significant after)
