-- What a recipe's parameters and `env` attributes come to.
use Rattle.std.specs.Prelude.{ℕ, ◌==◌, ◌||◌, not, if◌then◌else◌, length, List, [], ◌∷◌, ◌++◌, Option, Some, None, Result, Ok, Err, Bool, true, false, codes}
use Rattle.std.specs.List.{flat_map}
use Rattle.std.specs.Option.{option_map}
use Rattle.just_text.specs.Tokens.{lexeme}
use Rattle.just_host.specs.declared.job.Pair.{Pair}
use Rattle.tree_items.specs.declared.recipe.Parameter.{Parameter}
use Rattle.tree_items.specs.declared.recipe.ParameterKind.{ParameterKind}
use Rattle.tree_items.specs.declared.recipe.ParameterKind.TheVariants.{Plus, Singular, Star}
use Rattle.tree_items.specs.Recipes.{is_variadic}
use Rattle.just_value.specs.Values.{joined}
use Rattle.meaning_dialogues.specs.Faults.{Fault, env_key, empty_argument, value_count, internal}
use Rattle.meaning_dialogues.specs.Dialogue.{Dialogue, Ends, Asks, Reads, ◌>>=◌, around, in_module, Variable}
use Rattle.meaning_dialogues.specs.Terms.{Term, term_of}
use Rattle.meaning_dialogues.specs.Evaluation.{Value, Stage, dialogue, text_dialogue}
use Rattle.evaluate_context.specs.Surroundings.{by_name}
use Rattle.meaning_dialogues.specs.Calls.{Frame, empty, bound, in_frame}

-- a parameter of a recipe
pub record Formal : Type 0 where
  pub name : List ℕ
  pub number : ℕ
  pub default : Option Term
  -- what its option stands for, where it takes no value
  pub value : Option Term
  pub takes_none : Bool
  pub is_each : Bool

abbrev pub is_star : ParameterKind → Bool
is_star Plus = false
is_star Singular = false
is_star Star = true

abbrev pub formal_of : Parameter → Formal
formal_of p = record {
  name = lexeme p.name.token;
  number = p.number;
  default = option_map term_of p.default;
  value = option_map term_of p.value;
  takes_none = is_star p.kind || p.flag;
  is_each = is_variadic p.kind || p.multiple;
}

abbrev pub or_around : {A : Type 0} → Option Value → (Value → Dialogue A) → Variable → Dialogue A
or_around (Some value) next variable = next value
or_around None next variable = Reads around variable next

-- what reads the frame first
abbrev pub under : {A : Type 0} → Frame → Dialogue A → Dialogue A
under frame (Ends end) = Ends end
under frame (Asks question next) = Asks question (λ answer. under frame (next answer))
under frame (Reads around variable next) = or_around (in_frame frame variable.number) (λ value. under frame (next value)) variable
under frame (Reads in_module variable next) = Reads in_module variable (λ value. under frame (next value))

-- a pair, but none where the value has no element
abbrev pub pair_of : List ℕ → Value → List Pair
pair_of name [] = []
pair_of name (text ∷ texts) = (record { name = name; value = joined (text ∷ texts) }) ∷ []

-- what a parameter is bound to: the value under `lists`, else its join
abbrev pub bound_value : Bool → Value → Value
bound_value lists value = if lists || (length value == 1) then value else joined value ∷ []

-- the words that a parameter gives: each element, or the join
abbrev pub positional_words : Formal → Value → List (List ℕ)
positional_words formal value = if formal.is_each then value else joined value ∷ []

abbrev pub unless_given : List ℕ → Formal → Result Value Fault
unless_given recipe formal = if formal.takes_none then Ok [] else Err (empty_argument recipe formal.name)

-- the value of a recipe's parameter by the stage at its place
module _ (stage : Stage) (is_dependency : Bool) (recipe : List ℕ) where
  abbrev pub default_dialogue : Formal → Option Term → Dialogue Value
  default_dialogue formal (Some default) = dialogue stage default
  default_dialogue formal None = Ends (unless_given recipe formal)

  -- outside a dependency an option that takes no value stands for this, once for each element
  abbrev pub given_dialogue : Value → Option Term → Bool → Dialogue Value
  given_dialogue group (Some term) false = do
    value ← dialogue stage term
    Ends (Ok (flat_map (λ text. value) group))
  given_dialogue group (Some term) true = Ends (Ok group)
  given_dialogue group None is_dependency = Ends (Ok group)

  abbrev pub parameter_dialogue : Formal → Value → Dialogue Value
  parameter_dialogue formal [] = default_dialogue formal formal.default
  parameter_dialogue formal (text ∷ texts) = given_dialogue (text ∷ texts) formal.value is_dependency

  -- a number of elements that the check lets pass
  abbrev pub counted : (Formal → ℕ → Bool) → Formal → Value → Result Value Fault
  counted check formal value = if check formal (length value) then Ok value else Err (value_count recipe formal.name (length value))

  -- the parameters' values in order, each read by those after it
  abbrev pub values_dialogue : (Formal → ℕ → Bool) → Bool → Frame → List Formal → List Value → Dialogue (List Value)
  values_dialogue check lists frame [] groups = Ends (Ok [])
  values_dialogue check lists frame (formal ∷ formals) [] = Ends (Ok [])
  values_dialogue check lists frame (formal ∷ formals) (group ∷ groups) = do
    given ← under frame (parameter_dialogue formal group)
    value ← Ends (counted check formal given)
    values ← values_dialogue check lists (bound frame formal.number (bound_value lists value)) formals groups
    Ends (Ok (value ∷ values))

-- the pairs of `env` attributes, each evaluated with those before it
abbrev pub env_dialogue : (List Pair → Stage) → List Pair → List (Term × Term) → Dialogue (List Pair)
env_dialogue stage_with so_far [] = Ends (Ok so_far)
env_dialogue stage_with so_far ((key, value) ∷ others) = do
  name ← text_dialogue env_key (dialogue (stage_with so_far) key)
  given ← dialogue (stage_with so_far) value
  env_dialogue stage_with (so_far ++ pair_of name given) others

-- what a recipe is bound to: the pairs, each name once with its last value, and the values of its parameters
pub record Bound : Type 0 where
  pub env : List Pair
  pub values : List Value

-- the pairs, then the number of groups, then the parameters
abbrev pub bound_dialogue : (List Pair → Stage) → (Formal → ℕ → Bool) → Bool → Bool → List ℕ → List (Term × Term) → List Formal → List Value → Dialogue Bound
bound_dialogue stage_with check lists is_dependency recipe attributes formals groups = do
  env ← env_dialogue stage_with [] attributes
  values ← if length groups == length formals then values_dialogue (stage_with env) is_dependency recipe check lists empty formals groups else Ends (Err (internal (codes "arguments do not match parameter count")))
  Ends (Ok (record { env = by_name env; values = values }))
