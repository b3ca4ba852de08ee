-- What the `arg`s of a recipe may say, beside what each says alone.
use Rattle.std.specs.Prelude.{ℕ, Bool, true, false, not, ◌&&◌, ◌||◌, List, [], ◌∷◌, map, filter_map, find, Option, Some, None, is_some, codes, if◌then◌else◌}
use Rattle.std.specs.List.{list_all, list_any}
use Rattle.std.specs.Option.{option_map}
use Rattle.std.specs.Str.{bytes_eq}
use Rattle.just_text.specs.declared.compile_error.CompileErrorKind.{CompileErrorKind}
use Rattle.just_text.specs.declared.compile_error.CompileErrorKind.TheVariants as kinds
use Rattle.tree_attributes.specs.Attributes.{OptionsShape}
use Rattle.tree_items.specs.Recipes.{ParameterShape, is_variadic}
use Rattle.parse_expressions.specs.Literals.{Expansion}
use Rattle.parse_attributes.specs.Options.{text}

-- whether a name is among these
abbrev pub is_among : List (List ℕ) → List ℕ → Bool
is_among names name = list_any (bytes_eq name) names

-- whether no name stands twice
abbrev pub are_distinct : List (List ℕ) → Bool
are_distinct [] = true
are_distinct (name ∷ names) = not (is_among names name) && are_distinct names

abbrev pub names_of : List ParameterShape → List (List ℕ)
names_of = map (λ p. p.name)

-- the attribute's name
abbrev pub arg_keyword : List ℕ
arg_keyword = codes "arg"

module _ (expansion : Expansion) where
  -- the name of the parameter that the options are for
  abbrev pub for_name : OptionsShape → List ℕ
  for_name o = text expansion o.name

  abbrev pub long_text : OptionsShape → Option (List ℕ) → List ℕ
  long_text o None = for_name o
  long_text o (Some s) = text expansion s

  -- the name after two dashes, if there is one: that of the parameter where none is written
  abbrev pub long_name : OptionsShape → Option (List ℕ)
  long_name o = option_map (long_text o) o.long

  -- the name after one dash, if there is one
  abbrev pub short_name : OptionsShape → Option (List ℕ)
  short_name o = option_map (text expansion) o.short

  -- whether each names a parameter
  abbrev pub name_parameters : List (List ℕ) → List OptionsShape → Bool
  name_parameters names os = list_all (λ o. is_among names (for_name o)) os

  -- whether the options are for that parameter
  abbrev pub is_for : List ℕ → OptionsShape → Bool
  is_for name o = bytes_eq (for_name o) name

  -- whether options give the parameter a name of its own
  abbrev pub is_option : List OptionsShape → List ℕ → Bool
  is_option os name = list_any (λ o. is_for name o && (is_some o.long || is_some o.short)) os

  -- whether the parameter needs no value: it has a default, takes all that remain, or is an option
  abbrev pub may_lack : List OptionsShape → ParameterShape → Bool
  may_lack os p = is_some p.default || is_variadic p.kind || is_option os p.name

  -- the first parameter after a default that needs a value
  abbrev pub late : List OptionsShape → List ParameterShape → Option (List ℕ)
  late os [] = None
  late os (p ∷ ps) = if is_some p.default then option_map (λ (q : ParameterShape). q.name) (find (λ q. not (may_lack os q)) ps) else late os ps

  -- the refusal of `arg`s of the recipe with that name and these parameters, if they break a rule
  abbrev pub fault_of : List ℕ → List OptionsShape → List ParameterShape → Option CompileErrorKind
  fault_of name os ps =
      if not (name_parameters (names_of ps) os) then Some (kinds.InvalidAttribute arg_keyword name)
      else if not (are_distinct (map for_name os)) then Some (kinds.DuplicateAttribute arg_keyword)
      else if not (are_distinct (filter_map long_name os)) then Some (kinds.InvalidAttribute arg_keyword name)
      else if not (are_distinct (filter_map short_name os)) then Some (kinds.InvalidAttribute arg_keyword name)
      else option_map kinds.RequiredParameterFollowsDefault (late os ps)
