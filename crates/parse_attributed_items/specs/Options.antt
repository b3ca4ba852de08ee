-- What `arg`s make of the parameters of a recipe.
use Rattle.std.specs.Prelude.{ℕ, ◌≡◌, ◌+◌, ◌*◌, ◌-◌, Bool, false, List, [], ◌∷◌, fold, map, find, Option, Some, None, Result, Ok, Err, IfSome}
use Rattle.std.specs.List.{All}
use Rattle.std.specs.Option.{option_map}
use Rattle.just_text.specs.Tokens.{lexeme}
use Rattle.just_text.specs.declared.compile_error.CompileErrorKind.{CompileErrorKind}
use Rattle.tree_attributes.specs.Attributes.{OptionsShape}
use Rattle.tree_expressions.specs.Shape.{Shape, shape_of}
use Rattle.tree_items.specs.declared.recipe.Parameter.{Parameter}
use Rattle.parse_expressions.specs.declared.fault.Fault.{Fault}
use Rattle.parse_expressions.specs.declared.fault.Fault.TheVariants.{OutOfMemory, Refused}
use Rattle.parse_expressions.specs.Literals.{Expansion, Origin, IsCooked}
use Rattle.parse_attributes.specs.Options.{text}
use Rattle.parse_attributed_items.specs.Rules.{is_for, long_name, short_name}

-- what the options of a parameter say
pub record ParameterOptions : Type 0 where
  pub flag : Bool
  pub help : Option (List ℕ)
  pub long : Option (List ℕ)
  pub max : Option ℕ
  pub min : Option ℕ
  pub multiple : Bool
  -- the text of one character
  pub short : Option (List ℕ)
  pub value : Option Shape

abbrev pub no_options : ParameterOptions
no_options = record { flag = false; help = None; long = None; max = None; min = None; multiple = false; short = None; value = None }

-- the number that decimal digits write
abbrev pub number_of : List ℕ → ℕ
number_of digits = fold (λ n d. n * 10 + (d - 48)) 0 digits

abbrev pub options_in : Parameter → ParameterOptions
options_in p = record {
  flag = p.flag;
  help = p.help;
  long = p.long;
  max = p.max;
  min = p.min;
  multiple = p.multiple;
  short = option_map (λ c. c ∷ []) p.short;
  value = option_map shape_of p.value;
}

-- the parameter without its options
abbrev pub bare : Parameter → Parameter
bare p = record p { flag = false; help = None; long = None; max = None; min = None; multiple = false; short = None; value = None }

abbrev pub bare_all : List Parameter → List Parameter
bare_all ps = map bare ps

module _ (expansion : Expansion) where
  -- what an `arg` says
  abbrev pub meant : OptionsShape → ParameterOptions
  meant o = record {
    flag = o.flag;
    help = option_map (text expansion) o.help;
    long = long_name expansion o;
    max = option_map (λ s. number_of (text expansion s)) o.max;
    min = option_map (λ s. number_of (text expansion s)) o.min;
    multiple = o.multiple;
    short = short_name expansion o;
    value = o.value;
  }

  abbrev pub meant_or_none : Option OptionsShape → ParameterOptions
  meant_or_none None = no_options
  meant_or_none (Some o) = meant o

  -- what the `arg` for the parameter with that name says; nothing where none is for it
  abbrev pub meant_for : List OptionsShape → List ℕ → ParameterOptions
  meant_for os name = meant_or_none (find (is_for expansion name) os)

  -- the parameter has the options that the `arg` for it gives, and no others
  abbrev pub HasOptions : List OptionsShape → Parameter → Type 0
  HasOptions os p = options_in p ≡ meant_for os (lexeme p.name.token)

  abbrev pub HaveOptions : List OptionsShape → List Parameter → Type 0
  HaveOptions os ps = All (HasOptions os) ps

-- the value of the parameter's option holds what its strings stand for
abbrev pub IsValueCooked : Origin → Parameter → Type 0
IsValueCooked origin p = IfSome p.value (IsCooked origin)

abbrev pub AreValuesCooked : Origin → List Parameter → Type 0
AreValuesCooked origin ps = All (IsValueCooked origin) ps

-- a rule is broken exactly where there is a refusal, with that kind, unless memory ran out
abbrev pub GivesOrRefuses : {X : Type 0} → Result X Fault → Option CompileErrorKind → Type 0
GivesOrRefuses (Ok x) fault = fault ≡ None
GivesOrRefuses (Err OutOfMemory) fault = Unit {0}
GivesOrRefuses (Err (Refused token kind)) fault = fault ≡ Some kind
GivesOrRefuses (Err other) fault = ⊥
