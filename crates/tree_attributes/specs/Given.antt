-- What arguments make of attributes.
use Rattle.std.specs.Prelude.{ℕ, ◌≡◌, ◌≢◌, ◌⊎◌, suc, Bool, true, false, [], ◌∷◌, length, Option, Some, None}
use Rattle.just_text.specs.Tokens.{lexeme}
use Rattle.just_text.specs.declared.compile_error.CompileErrorKind.{CompileErrorKind}
use Rattle.just_text.specs.declared.compile_error.CompileErrorKind.TheVariants as kinds
use Rattle.just_text.specs.declared.token.Token.{Token}
use Rattle.tree_attributes.specs.declared.argument_form.ArgumentForm.{ArgumentForm}
use Rattle.tree_attributes.specs.declared.argument_form.ArgumentForm.TheVariants as forms
use Rattle.tree_attributes.specs.declared.arguments.AttributeArguments.{AttributeArguments}
use Rattle.tree_attributes.specs.declared.arguments.AttributeArguments.TheVariants.{Nothing, Options, Strings, Expressions}
use Rattle.tree_attributes.specs.declared.attribute.Attribute.{Attribute}
use Rattle.tree_attributes.specs.declared.attribute.Attribute.TheVariants as attributes
use Rattle.tree_attributes.specs.declared.attribute.AttributeKind.{AttributeKind}
use Rattle.tree_attributes.specs.Attributes.{attribute_shape, kind_name, kind_of, plain}
use Rattle.tree_attributes.specs.Forms.{form_of, takes}

-- how many arguments there are; the options of an `arg` count as one with their parameter
abbrev pub count : AttributeArguments → ℕ
count Nothing = 0
count (Options options) = 1
count (Strings first others) = suc (length others.items)
count (Expressions first others token) = suc (length others.items)

abbrev pub takes_strings : ArgumentForm → Bool
takes_strings forms.OneString = true
takes_strings forms.OptionalString = true
takes_strings forms.Strings = true
takes_strings other = false

abbrev pub takes_expressions : ArgumentForm → Bool
takes_expressions forms.Expressions = true
takes_expressions forms.OptionalExpression = true
takes_expressions forms.TwoExpressions = true
takes_expressions other = false

abbrev pub takes_options : ArgumentForm → Bool
takes_options forms.Parameter = true
takes_options other = false

-- whether the arguments, if there are any, are what the form asks for
abbrev pub is_of_form : ArgumentForm → AttributeArguments → Bool
is_of_form form Nothing = true
is_of_form form (Options options) = takes_options form
is_of_form form (Strings first others) = takes_strings form
is_of_form form (Expressions first others token) = takes_expressions form

-- the token with which the arguments begin, if there are any
abbrev pub first_token : AttributeArguments → Option Token
first_token Nothing = None
first_token (Options options) = Some options.name.token
first_token (Strings first others) = Some first.token
first_token (Expressions first others token) = Some token

-- the attribute has these arguments, and no others
abbrev pub Holds : Attribute → AttributeArguments → Type 0
Holds attribute Nothing = attribute_shape attribute ≡ plain (kind_of (attribute_shape attribute))
Holds (attributes.Arg options) (Options given) = options.value ≡ given
Holds (attributes.Confirm (Some prompt)) (Expressions first others token) = (prompt ≡ first) × (others.items ≡ [])
Holds (attributes.Doc (Some text)) (Strings first others) = (text ≡ first) × (others.items ≡ [])
Holds (attributes.Env key value) (Expressions first others token) = (key ≡ first) × (others.items ≡ value.value ∷ [])
Holds (attributes.Extension text) (Strings first others) = (text ≡ first) × (others.items ≡ [])
Holds (attributes.Group text) (Strings first others) = (text ≡ first) × (others.items ≡ [])
Holds (attributes.Metadata text texts) (Strings first others) = (text ≡ first) × (texts ≡ others)
Holds (attributes.Script (Some interpreter)) (Expressions first others token) = (interpreter.value.command ≡ first) × (interpreter.value.arguments ≡ others)
Holds (attributes.WorkingDirectory text) (Strings first others) = (text ≡ first) × (others.items ≡ [])
Holds attribute arguments = ⊥

-- no attribute has the name, or memory is wanting to tell it
abbrev pub IsUnknown : Token → Token → CompileErrorKind → Type 0
IsUnknown name token refused = (refused ≡ kinds.OutOfMemory) ⊎ ((token ≡ name) × (refused ≡ kinds.UnknownAttribute (lexeme name)))

-- so many arguments are refused, or memory is wanting to tell it
abbrev pub IsMiscounted : Token → ℕ → Token → CompileErrorKind → Type 0
IsMiscounted name found token refused = (refused ≡ kinds.OutOfMemory) ⊎ ((token ≡ name) × (refused ≡ kinds.AttributeArgumentCount (lexeme name) found))

-- the token is unexpected
abbrev pub IsUnexpected : Option Token → Token → CompileErrorKind → Type 0
IsUnexpected first token refused = (first ≡ Some token) × (refused ≡ kinds.UnexpectedToken token.kind)

-- why there is no attribute with that name and these arguments: a rule that is broken, or memory is wanting for it
pub data Refuses (name : Token) (arguments : AttributeArguments) (token : Token) (refused : CompileErrorKind) : Type 0 where
  out_of_memory : refused ≡ kinds.OutOfMemory → Refuses name arguments token refused
  unknown : ((kind : AttributeKind) → kind_name kind ≢ lexeme name) → IsUnknown name token refused → Refuses name arguments token refused
  miscounted : (kind : AttributeKind) → kind_name kind ≡ lexeme name → takes (form_of kind) (count arguments) ≡ false → IsMiscounted name (count arguments) token refused → Refuses name arguments token refused
  unfit : (kind : AttributeKind) → kind_name kind ≡ lexeme name → is_of_form (form_of kind) arguments ≡ false → IsUnexpected (first_token arguments) token refused → Refuses name arguments token refused
