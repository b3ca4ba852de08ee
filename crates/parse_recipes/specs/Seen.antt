-- What the parser of recipes holds as the grammar sees it.
use Rattle.std.specs.Prelude.{ℕ, ◌≡◌, ◌||◌, List, ◌∷◌, Bool, true, false, Option, Some, None, Result, Ok, Err, if◌then◌else◌}
use Rattle.std.specs.BTreeSet.{BTreeSet, contains_by}
use Rattle.std.specs.Cmp.Lexicographic.{slice_cmp}
use Rattle.std.specs.Ordering.{nat_cmp}
use Rattle.std.specs.Borrow.{Bor}
use Rattle.just_text.specs.Tokens.{Word, lexeme}
use Rattle.just_text.specs.declared.compile_error.CompileErrorKind.TheVariants as kinds
use Rattle.just_text.specs.declared.token.Token.{Token}
use Rattle.just_text.specs.declared.token_kind.TokenKind.TheVariants.{Comment, Eol}
use Rattle.tree_items.specs.Recipes.{ParameterShape, parameter_shape, parameter_shapes, dependency_shapes}
use Rattle.tree_items.specs.declared.recipe.Parameter.{Parameter}
use Rattle.std.specs.Str.{bytes_eq}
use Rattle.parse_recipes.specs.declared.parameter_names.ParameterNames.{ParameterNames}
use Rattle.parse_recipes.specs.declared.recipe.HeaderRead.{HeaderRead}
use Rattle.parse_expressions.specs.Reading.{on, Stop, refused, accept}
use Rattle.parse_recipes.specs.Reading.{Header, is_named}

-- a parameter and the token of its name
abbrev pub named_shape : Parameter → Token × ParameterShape
named_shape p = (p.name.token, parameter_shape p)

abbrev pub header_shape : HeaderRead → Header
header_shape h = record { parameters = parameter_shapes h.parameters.items; priors = dependency_shapes h.priors.items; subsequents = dependency_shapes h.subsequents.items }

-- whether the set has a name
abbrev pub has_name : BTreeSet (Bor (List ℕ)) → List ℕ → Bool
has_name set name = contains_by (λ k. slice_cmp nat_cmp name k.now) set

-- the set has just these names
abbrev pub HasNames : BTreeSet (Bor (List ℕ)) → List (List ℕ) → Type 0
HasNames set names = (name : List ℕ) → has_name set name ≡ is_named names name

-- whether a name is the one that was read first
abbrev pub is_first : Option (Bor (List ℕ)) → List ℕ → Bool
is_first None name = false
is_first (Some first) name = bytes_eq name first.now

-- whether a parameter of this name was read
abbrev pub is_read : ParameterNames → List ℕ → Bool
is_read names name = is_first names.first name || has_name names.others name

-- just parameters of these names were read
abbrev pub HasRead : ParameterNames → List (List ℕ) → Type 0
HasRead read names = (name : List ℕ) → is_read read name ≡ is_named names name

-- a new name before others, or why it is refused
abbrev pub with_name : List (List ℕ) → Token → Result (List (List ℕ)) (Stop Token)
with_name names t = if is_named names (lexeme t) then Err (refused t (kinds.DuplicateParameter (lexeme t))) else Ok (lexeme t ∷ names)

-- what is left where it was taken
abbrev pub if_taken : {T : Type 0} → Bool → List T → Option (List T)
if_taken true rest = Some rest
if_taken false rest = None

module _ {T : Type 0} (word : T → Word) where
  -- what follows a line on which nothing stands but a comment, if it comes here
  unfoldable pub blank_line_at : List T → Option (List T)
  blank_line_at ts = on (accept word Eol ts) (on (accept word Comment ts) None (λ c. on (accept word Eol c.1) None (λ p. Some p.1))) (λ p. Some p.1)
