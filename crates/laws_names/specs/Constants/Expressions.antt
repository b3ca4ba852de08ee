-- What expressions settle to by the numbers of their variables, and by their names.
use Rattle.std.specs.Prelude.{◌≡◌, ℕ, Bool, List, Option, Some, Contains}
use Rattle.tree_expressions.specs.declared.expression.Expression.{Expression}
use Rattle.tree_expressions.specs.Shape.{shape_of}
use Rattle.parse_expressions.specs.Literals.{Origin}
use Rattle.just_value.specs.Frames.{BoundRow}
use Rattle.meaning_dialogues.specs.Calls.{Frame, const_stage}
use Rattle.meaning_dialogues.specs.Constants.{constant, settled}
use Rattle.meaning_dialogues.specs.Dialogue.{Reading, Lookup, Variable, around}
use Rattle.meaning_dialogues.specs.Evaluation.{Value, dialogue}
use Rattle.meaning_dialogues.specs.Meaning.{Meaning}
use Rattle.meaning_dialogues.specs.Terms.{term_of}
use Rattle.laws_evaluation.specs.Terms.Own.{IsWrittenIn}
use Rattle.evaluate_variables.specs.Settled.{const_reading}
use Rattle.meaning_rules.specs.Worlds.Given.{Text}
use Rattle.meaning_rules.specs.Constants.{as_read, reading_of, said_by}
use Rattle.meaning_rules.specs.Naming.{a_variable, occurrences}

-- what the variable of a name means by what its number gives
abbrev pub known : Reading → (Text → Option ℕ) → Text → Meaning Value
known reading number name = constant (Some (reading around (record { name = name; number = number name })))

-- of what is no constant a reading tells the name alone
abbrev pub TellsNames : Reading → Type 0
TellsNames reading = (place : Lookup) (x : Variable) → as_read x.name (constant (Some (reading place x))) ≡ reading place x

-- what variables give to the expression of a constant is so
abbrev pub ConstantsTellNames : Type 0
ConstantsTellNames = (outer : List (List BoundRow)) (frame : Frame) (excluded : ℕ → Bool) → TellsNames (const_reading outer frame excluded)

-- What an expression settles to by numbers, where each of its variables has the number of its name, it settles to by what these numbers give for the names that it names.
abbrev pub ExpressionsSettle : Type 0
ExpressionsSettle = (x : Origin) (number : Text → Option ℕ) (reading : Reading) → TellsNames reading → (lists : Bool) (variables : Text → Meaning Value) (e : Expression) → IsWrittenIn x number e
    → ((name : Text) → Contains (occurrences (shape_of e)) (a_variable name) → known reading number name ≡ variables name)
    → settled reading (dialogue (const_stage lists) (term_of e)) ≡ settled (reading_of variables) (said_by x.expansion lists variables (shape_of e))
