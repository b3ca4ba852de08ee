-- What is held while attributes are read, as the grammar sees it.
use Rattle.std.specs.Prelude.{ℕ, ◌≡◌, Bool, true, false, not, ◌&&◌, List, map, Option, Some, None, IfSome, is_some, Result, Ok, Err, if◌then◌else◌}
use Rattle.std.specs.List.{All}
use Rattle.std.specs.Option.{option_map}
use Rattle.just_text.specs.Tokens.{Word, word_of, lexeme}
use Rattle.just_text.specs.declared.compile_error.CompileErrorKind.TheVariants as kinds
use Rattle.just_text.specs.declared.token.Token.{Token}
use Rattle.just_text.specs.declared.token_kind.TokenKind.TheVariants.{Comment, Eol}
use Rattle.tree_attributes.specs.declared.attribute.AttributeKind.{AttributeKind}
use Rattle.tree_attributes.specs.declared.attribute.ArgumentOptions.{ArgumentOptions}
use Rattle.tree_attributes.specs.Attributes.{OptionsShape, options_shape}
use Rattle.tree_expressions.specs.Shape.{shape_of, written}
use Rattle.tree_attributes.specs.Forms.{form_of, takes}
use Rattle.parse_expressions.specs.declared.fault.Fault.{Fault}
use Rattle.parse_expressions.specs.declared.fault.Fault.TheVariants.{OutOfMemory}
use Rattle.parse_expressions.specs.Literals.{Expansion, Origin, IsCooked, AreCooked}
use Rattle.parse_expressions.specs.Reading.{◌>>=◌, on, Read, refused, accept}
use Rattle.parse_expressions.specs.Strings.{IsCookedString}
use Rattle.parse_attributes.specs.declared.arguments.ArgumentsRead.{ArgumentsRead}
use Rattle.parse_attributes.specs.declared.arguments.ArgumentsRead.TheVariants.{Nothing, Strings, Expressions, Parameter}
use Rattle.parse_attributes.specs.declared.parameter_option.OptionRead.{OptionRead}
use Rattle.parse_attributes.specs.declared.parameter_option.OptionRead.TheVariants.{Flag, Multiple, Long, Help, Max, Min, Short, Value}
use Rattle.parse_attributes.specs.Options.{OptionShape, flag, multiple, long, help, max, min, short, value, text, is_count, is_short, with_option}
use Rattle.parse_attributes.specs.Arguments.{Sort, of_strings, of_expressions, of_parameter, sort_of, Arguments, nothing, strings, expressions, parameter, count}
use Rattle.parse_attributes.specs.Reading.{arguments_at}

-- ---- options

abbrev pub option_shape : OptionRead → OptionShape
option_shape Flag = flag
option_shape Multiple = multiple
option_shape (Long name) = long (option_map written name)
option_shape (Help s) = help (written s)
option_shape (Max s) = max (written s)
option_shape (Min s) = min (written s)
option_shape (Short s) = short (written s)
option_shape (Value e) = value (shape_of e)

-- an option, if it is known
abbrev pub given_shape : Option OptionRead → Option OptionShape
given_shape o = option_map option_shape o

-- the option holds what its string or its expression stands for
abbrev pub IsCookedOption : Origin → OptionRead → Type 0
IsCookedOption origin Flag = Unit {0}
IsCookedOption origin Multiple = Unit {0}
IsCookedOption origin (Long name) = IfSome name (IsCookedString origin.expansion)
IsCookedOption origin (Help s) = IsCookedString origin.expansion s
IsCookedOption origin (Max s) = IsCookedString origin.expansion s
IsCookedOption origin (Min s) = IsCookedString origin.expansion s
IsCookedOption origin (Short s) = IsCookedString origin.expansion s
IsCookedOption origin (Value e) = IsCooked origin e

abbrev pub IsCookedGiven : Origin → Option OptionRead → Type 0
IsCookedGiven origin o = IfSome o (IsCookedOption origin)

-- the option is not there already, and its text is one that it may have
abbrev pub may_add : Expansion → OptionsShape → OptionShape → Bool
may_add expansion o flag = not o.flag
may_add expansion o multiple = not o.multiple
may_add expansion o (long name) = not (is_some o.long)
may_add expansion o (help s) = not (is_some o.help)
may_add expansion o (max s) = not (is_some o.max) && is_count (text expansion s)
may_add expansion o (min s) = not (is_some o.min) && is_count (text expansion s)
may_add expansion o (short s) = not (is_some o.short) && is_short (text expansion s)
may_add expansion o (value e) = not (is_some o.value)

-- with that option
abbrev pub added : OptionsShape → OptionShape → OptionsShape
added o flag = record o { flag = true }
added o multiple = record o { multiple = true }
added o (long name) = record o { long = Some name }
added o (help s) = record o { help = Some s }
added o (max s) = record o { max = Some s }
added o (min s) = record o { min = Some s }
added o (short s) = record o { short = Some s }
added o (value e) = record o { value = Some e }

-- with that option, if it is known and may be added
abbrev pub with_given : Expansion → OptionsShape → Option OptionShape → Option OptionsShape
with_given expansion o None = None
with_given expansion o (Some p) = with_option expansion o p

-- ---- arguments

abbrev pub arguments_shape : ArgumentsRead → Arguments
arguments_shape Nothing = nothing
arguments_shape (Strings first others) = strings (written first) (map written others.items)
arguments_shape (Expressions first others) = expressions (shape_of first) (map shape_of others.items)
arguments_shape (Parameter name options) = parameter (written name) (map given_shape options.items)

-- the arguments hold what their strings stand for
abbrev pub IsCookedArguments : Origin → ArgumentsRead → Type 0
IsCookedArguments origin Nothing = Unit {0}
IsCookedArguments origin (Strings first others) = IsCookedString origin.expansion first × All (IsCookedString origin.expansion) others.items
IsCookedArguments origin (Expressions first others) = IsCooked origin first × AreCooked origin others.items
IsCookedArguments origin (Parameter name options) = IsCookedString origin.expansion name × All (IsCookedGiven origin) options.items

-- arguments of that sort, or none
abbrev pub is_of_sort : Sort → Arguments → Bool
is_of_sort sort nothing = true
is_of_sort of_strings (strings s ss) = true
is_of_sort of_expressions (expressions e es) = true
is_of_sort of_parameter (parameter name options) = true
is_of_sort sort other = false

-- the arguments, if the attribute takes so many; the token is its name
abbrev pub if_taken_by : Token → AttributeKind → Arguments × List Token → Read Token Arguments
if_taken_by t kind a = if takes (form_of kind) (count a.0) then Ok a else Err (refused t (kinds.AttributeArgumentCount (lexeme t) (count a.0)))

-- arguments of an attribute of that kind, as many as it takes
unfoldable pub counted_at : Expansion → Token → AttributeKind → List Token → Read Token Arguments
counted_at expansion t kind ts = arguments_at word_of expansion (sort_of (form_of kind)) ts >>= if_taken_by t kind

-- the options are these, unless memory ran out
abbrev pub GivesOptions : Result (Option ArgumentOptions) Fault → Option OptionsShape → Type 0
GivesOptions (Ok o) options = option_map options_shape o ≡ options
GivesOptions (Err OutOfMemory) options = Unit {0}
GivesOptions (Err other) options = ⊥

-- ---- comments

-- what is left where it was taken
abbrev pub if_taken : {T : Type 0} → Bool → List T → Option (List T)
if_taken true rest = Some rest
if_taken false rest = None

module _ {T : Type 0} (word : T → Word) where
  -- what follows a comment and the end of its line, if they come here
  unfoldable pub comment_line_at : List T → Option (List T)
  comment_line_at ts = on (accept word Comment ts) None (λ c. on (accept word Eol c.1) None (λ p. Some p.1))
