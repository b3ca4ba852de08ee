-- What an expression means, as a dialogue.
use Rattle.std.specs.Prelude.{ℕ, ◌++◌, List, [], ◌∷◌, Option, Some, None, Result, Ok, Err, Bool, true, false, not, if◌then◌else◌, codes}
use Rattle.std.specs.List.{flat_map}
use Rattle.tree_expressions.specs.Indentation.{unindented}
use Rattle.tree_expressions.specs.Operators.{list_separator}
use Rattle.tree_expressions.specs.declared.operator.ListOperator.{ListOperator}
use Rattle.tree_expressions.specs.declared.operator.ListOperator.TheVariants.{Join}
use Rattle.tree_expressions.specs.declared.operator.ConditionalOperator.{ConditionalOperator}
use Rattle.tree_expressions.specs.declared.operator.ConditionalOperator.TheVariants.{Equality, Inequality, RegexMatch, RegexMismatch}
use Rattle.just_value.specs.Values.{joined, applied}
use Rattle.just_value.specs.Order.{values_eq}
use Rattle.meaning_dialogues.specs.Faults.{Fault, TextPlace, assertion_failed, empty_interpreter, list_in_text_place, list_operation, pattern_left_out}
use Rattle.meaning_dialogues.specs.Dialogue.{Dialogue, Ends, Reads, ◌>>=◌, around}
use Rattle.meaning_dialogues.specs.Terms.{Term, Terms, Holes, literal, command, format, variable, call, assertion, assertion_alone, both, either, negation, comparison, paired, rooted, appended, choice, choice_alone, listing, group, end, more, closed, hole, printed}

abbrev pub Value : Type 0
Value = List (List ℕ)

-- a value has an element, be it the empty text
abbrev pub is_truthy : Value → Bool
is_truthy [] = false
is_truthy (text ∷ texts) = true

-- a boolean value: `true` alone, or the empty list
abbrev pub truth : Bool → Value
truth true = codes "true" ∷ []
truth false = []

-- the values of a row, from the left
abbrev pub row : List (Dialogue Value) → Dialogue (List Value)
row [] = Ends (Ok [])
row (first ∷ others) = do
  value ← first
  values ← row others
  Ends (Ok (value ∷ values))

-- the values of two sides, from the left
abbrev pub sides : Dialogue Value → Dialogue Value → Dialogue (Value × Value)
sides left right = do
  a ← left
  b ← right
  Ends (Ok (a, b))

-- a value, or the fault where there is none
abbrev pub or_fault : {A : Type 0} → Option A → Fault → Result A Fault
or_fault (Some value) fault = Ok value
or_fault None fault = Err fault

-- what an operator gives of two values
abbrev pub operated : ListOperator → Value → Value → Result Value Fault
operated operator a b = or_fault (applied (list_separator operator) a b) (list_operation a operator b)

-- what a comparison says of two values
abbrev pub compared : ConditionalOperator → Value → Value → Result Bool Fault
compared Equality a b = Ok (values_eq a b)
compared Inequality a b = Ok (not (values_eq a b))
compared RegexMatch a b = Err (pattern_left_out RegexMatch)
compared RegexMismatch a b = Err (pattern_left_out RegexMismatch)

abbrev pub comparing : ConditionalOperator → Dialogue Value → Dialogue Value → Dialogue Bool
comparing operator left right = do
  values ← sides left right
  Ends (compared operator values.0 values.1)

-- whether a condition holds
abbrev pub holding : Dialogue Value → Dialogue Bool
holding condition = do
  value ← condition
  Ends (Ok (is_truthy value))

-- what an assertion gives whose condition holds
abbrev pub asserted : Bool → Value → Value
asserted lists value = if lists then value else [] ∷ []

-- the refusal of an assertion with a message
abbrev pub failing : Dialogue Value → Dialogue Value
failing message = do
  value ← message
  Ends (Err (assertion_failed (joined value)))

abbrev pub ticked : List ℕ → List ℕ
ticked text = codes "`" ++ (text ++ codes "`")

-- a format string with three marks is unindented once all is put together
abbrev pub laid_out : Bool → List ℕ → List ℕ
laid_out tripled text = if tripled then unindented text else text

-- one text, where one alone may stand
abbrev pub one_text : TextPlace → Value → Result (List ℕ) Fault
one_text place (text ∷ []) = Ok text
one_text place value = Err (list_in_text_place place value)

-- what evaluation rests on: whether lists are on; what a command gives, by its text and as it is written; and what a call gives, by its
-- name, the path of the file that it stands in and its arguments
pub record Stage : Type 0 where
  pub lists : Bool
  pub command : List ℕ → List ℕ → Dialogue Value
  pub call : List ℕ → List ℕ → List (Dialogue Value) → Dialogue Value

module _ (stage : Stage) where
  abbrev mutual
    -- the cases
    pub dialogue : Term → Dialogue Value
    dialogue (literal cooked text) = Ends (Ok (cooked ∷ []))
    dialogue (command contents text) = stage.command contents text
    dialogue (format cooked text tripled holes) = do
      whole ← filled cooked holes
      Ends (Ok (laid_out tripled whole ∷ []))
    dialogue (variable name number) = Reads around (record { name = name; number = number }) (λ value. Ends (Ok value))
    dialogue (call name file arguments) = stage.call name file (dialogues arguments)
    dialogue (assertion condition message) = do
      value ← dialogue condition
      if is_truthy value then Ends (Ok (asserted stage.lists value)) else failing (dialogue message)
    dialogue (assertion_alone condition) = do
      value ← dialogue condition
      Ends (if is_truthy value then Ok (asserted stage.lists value) else Err (assertion_failed (ticked (printed condition))))
    dialogue (both lhs rhs) = do
      value ← dialogue lhs
      if is_truthy value then dialogue rhs else Ends (Ok [])
    dialogue (either lhs rhs) = do
      value ← dialogue lhs
      if is_truthy value then Ends (Ok value) else dialogue rhs
    dialogue (negation operand) = do
      value ← dialogue operand
      Ends (Ok (truth (not (is_truthy value))))
    dialogue (comparison operator lhs rhs) = do
      holds ← comparing operator (dialogue lhs) (dialogue rhs)
      Ends (Ok (truth holds))
    dialogue (paired operator lhs rhs) = do
      values ← sides (dialogue lhs) (dialogue rhs)
      Ends (operated operator values.0 values.1)
    dialogue (rooted rhs) = do
      value ← dialogue rhs
      Ends (operated Join ([] ∷ []) value)
    dialogue (appended lhs rhs) = do
      values ← sides (dialogue lhs) (dialogue rhs)
      Ends (Ok (values.0 ++ values.1))
    dialogue (choice condition then_ otherwise) = do
      holds ← holding (dialogue condition)
      if holds then dialogue then_ else dialogue otherwise
    dialogue (choice_alone condition then_) = do
      holds ← holding (dialogue condition)
      if holds then dialogue then_ else Ends (Ok [])
    dialogue (listing elements) = do
      values ← row (dialogues elements)
      Ends (Ok (flat_map (λ value. value) values))
    dialogue (group contents) = dialogue contents

    pub dialogues : Terms → List (Dialogue Value)
    dialogues end = []
    dialogues (more e es) = dialogue e ∷ dialogues es

    -- the text of a format string after what it begins with
    pub filled : List ℕ → Holes → Dialogue (List ℕ)
    filled so_far closed = Ends (Ok so_far)
    filled so_far (hole e cooked text es) = do
      value ← dialogue e
      filled (so_far ++ (joined value ++ cooked)) es

-- one text, where one alone may stand
abbrev pub text_dialogue : TextPlace → Dialogue Value → Dialogue (List ℕ)
text_dialogue place given = do
  value ← given
  Ends (one_text place value)

-- an interpreter: of all elements in order the first is the command, the others are its arguments
abbrev pub interpreter_words : List ℕ → Value → Result (List ℕ × List (List ℕ)) Fault
interpreter_words setting [] = Err (empty_interpreter setting)
interpreter_words setting (first ∷ others) = Ok (first, others)

abbrev pub interpreter_dialogue : List ℕ → List (Dialogue Value) → Dialogue (List ℕ × List (List ℕ))
interpreter_dialogue setting given = do
  values ← row given
  Ends (interpreter_words setting (flat_map (λ value. value) values))
