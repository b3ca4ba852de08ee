-- The options that `arg` gives a parameter.
use Rattle.std.specs.Prelude.{ℕ, Bool, true, false, not, ◌&&◌, ◌||◌, nat_le, List, [], ◌∷◌, length, Option, Some, None, is_some, if◌then◌else◌}
use Rattle.std.specs.List.{list_all}
use Rattle.std.specs.Option.{option_and_then}
use Rattle.tree_expressions.specs.Cooking.{cooked}
use Rattle.tree_attributes.specs.Attributes.{OptionsShape}
use Rattle.tree_expressions.specs.Shape.{Shape}
use Rattle.parse_expressions.specs.Literals.{Expansion, text_or_none}

-- an option as it is written
pub data OptionShape : Type 0 where
  flag : OptionShape
  multiple : OptionShape
  -- with a name, or with that of the parameter
  long : Option (List ℕ) → OptionShape
  help : List ℕ → OptionShape
  max : List ℕ → OptionShape
  min : List ℕ → OptionShape
  short : List ℕ → OptionShape
  value : Shape → OptionShape

-- what a string stands for
abbrev pub text : Expansion → List ℕ → List ℕ
text expansion s = text_or_none (cooked expansion s)

abbrev pub is_digit : ℕ → Bool
is_digit c = nat_le 48 c && nat_le c 57

abbrev pub is_letter : ℕ → Bool
is_letter c = (nat_le 65 c && nat_le c 90) || (nat_le 97 c && nat_le c 122)

-- one ASCII letter or digit
abbrev pub is_short : List ℕ → Bool
is_short [] = false
is_short (c ∷ []) = is_digit c || is_letter c
is_short (c ∷ d ∷ cs) = false

-- one to four digits
abbrev pub is_count : List ℕ → Bool
is_count cs = nat_le 1 (length cs) && nat_le (length cs) 4 && list_all is_digit cs

-- a parameter without options
abbrev pub without_options : List ℕ → OptionsShape
without_options name = record { name = name; flag = false; help = None; long = None; max = None; min = None; multiple = false; short = None; value = None }

abbrev pub if_new : {A : Type 0} → Option A → Bool → OptionsShape → Option OptionsShape
if_new old may o = if is_some old || not may then None else Some o

module _ (expansion : Expansion) where
  -- with one option more, if it is not there already and its text is one that it may have
  abbrev pub with_option : OptionsShape → OptionShape → Option OptionsShape
  with_option o flag = if o.flag then None else Some (record o { flag = true })
  with_option o multiple = if o.multiple then None else Some (record o { multiple = true })
  with_option o (long name) = if_new o.long true (record o { long = Some name })
  with_option o (help s) = if_new o.help true (record o { help = Some s })
  with_option o (max s) = if_new o.max (is_count (text expansion s)) (record o { max = Some s })
  with_option o (min s) = if_new o.min (is_count (text expansion s)) (record o { min = Some s })
  with_option o (short s) = if_new o.short (is_short (text expansion s)) (record o { short = Some s })
  with_option o (value e) = if_new o.value true (record o { value = Some e })

  -- with these options more, if each is known and may be there
  abbrev pub with_all : OptionsShape → List (Option OptionShape) → Option OptionsShape
  with_all o [] = Some o
  with_all o (None ∷ ps) = None
  with_all o (Some p ∷ ps) = option_and_then (λ q. with_all q ps) (with_option o p)

  -- only an option, which has a name of its own, may be a flag, may stand more than once, and may have a value
  abbrev pub is_whole : OptionsShape → Bool
  is_whole o = is_some o.long || is_some o.short || not (o.flag || o.multiple || is_some o.value)

  abbrev pub if_whole : OptionsShape → Option OptionsShape
  if_whole o = if is_whole o then Some o else None

  -- what the options say of the parameter with that name, if they may stand together
  abbrev pub options_of : List ℕ → List (Option OptionShape) → Option OptionsShape
  options_of name ps = option_and_then if_whole (with_all (without_options name) ps)
