-- Which variables of a module are constants, and which values they have.
use Rattle.std.specs.Prelude.{◌≡◌, ◌≢◌, ◌⊎◌, ℕ, Bool, true, false, if◌then◌else◌, List, ◌∷◌, Option, Some, None, Result, Ok, Err, String, codes}
use Rattle.std.specs.BTreeMap.{BTreeMap}
use Rattle.std.specs.BTreeSet.{contains}
use Rattle.std.specs.Option.{option_map, option_or}
use Rattle.std.specs.Ordering.{nat_cmp}
use Rattle.tree_attributes.specs.declared.setting.Interpreter.{Interpreter}
use Rattle.just_value.specs.Frames.{BoundRow, Frames, bound_in, found_in}
use Rattle.evaluate_context.specs.Refusals.{fault_of, seen_as}
use Rattle.evaluate_context.specs.declared.error.Error.{Error}
use Rattle.meaning_dialogues.specs.Calls.{Frame, empty, unreadable, reading_in_frames}
use Rattle.meaning_dialogues.specs.Dialogue.{Reading}
use Rattle.meaning_dialogues.specs.Evaluation.{Value}
use Rattle.meaning_dialogues.specs.Faults.{Fault, memory, not_constant, a_variable}
use Rattle.meaning_evaluation.specs.Stages.Assigned.{Assigned, Settles}
use Rattle.evaluate_variables.specs.Opened.{overridden}
use Rattle.evaluate_variables.specs.declared.const_evaluator.ConstEvaluator.{ConstEvaluator}

-- the values that bindings have by their numbers
abbrev pub values_of : List BoundRow → Frame
values_of own number = option_map (λ binding. binding.value) (bound_in own number)

-- the values of the constants that were found, and the numbers of the variables that are none
abbrev pub values_in : ConstEvaluator → Frame
values_in constants = values_of constants.scope.own

abbrev pub excluded_in : ConstEvaluator → ℕ → Bool
excluded_in constants = contains nat_cmp constants.non_const

-- what a variable gives to the expression of a constant
abbrev pub found_value : List ℕ → Option Value → Result Value Fault
found_value name (Some value) = Ok value
found_value name None = Err (unreadable (codes "unevaluated") name)

abbrev pub read_constant : List (List BoundRow) → Frame → (ℕ → Bool) → List ℕ → Option ℕ → Result Value Fault
read_constant outer frame excluded name None = Err (unreadable (codes "unresolved") name)
read_constant outer frame excluded name (Some number) = if excluded number then Err (not_constant (a_variable name)) else found_value name (option_or (frame number) (option_map (λ binding. binding.value) (found_in outer number)))

abbrev pub const_reading : List (List BoundRow) → Frame → (ℕ → Bool) → Reading
const_reading outer frame excluded place variable = read_constant outer frame excluded variable.name variable.number

abbrev pub reading_in : ConstEvaluator → Reading
reading_in constants = reading_in_frames (excluded_in constants) constants.scope constants.scope

-- an interpreter: its command, then its arguments
abbrev pub seen_words : Result (Interpreter (List ℕ)) Error → Result (List ℕ × List (List ℕ)) Fault
seen_words = seen_as (λ words. (words.command, words.arguments.items))

-- whether a fault only says that something is no constant
abbrev pub is_no_constant : Fault → Bool
is_no_constant (not_constant what) = true
is_no_constant fault = false

-- a value, a fault, or none: not constant
abbrev pub seen_constant : Result (Option Value) Error → Option (Result Value Fault)
seen_constant (Ok (Some value)) = Some (Ok value)
seen_constant (Ok None) = None
seen_constant (Err error) = Some (Err (fault_of error))

-- the variable has the value, or is no constant, and all others are as they were
abbrev pub Keeps : ConstEvaluator → ℕ → Option Value → ConstEvaluator → Type 0
Keeps old number (Some value) new = (values_in new number ≡ Some value) × ((n : ℕ) → (n ≡ number) ⊎ (values_in new n ≡ values_in old n)) × (new.non_const.keys ≡ old.non_const.keys)
Keeps old number None new = (excluded_in new number ≡ true) × ((n : ℕ) → (n ≡ number) ⊎ (excluded_in new n ≡ excluded_in old n)) × (new.scope.own ≡ old.scope.own)

-- in order, from the constants so far to those that are found, with the frames around theirs
abbrev pub SettlesTo : {A : Type 0} → BTreeMap ℕ (String A) → (ℕ → Bool) → List Assigned → ConstEvaluator → ConstEvaluator → Option Fault → Type 0
SettlesTo overrides is_read variables old new fault = Settles old.lists (const_reading old.scope.outer) (overridden overrides) is_read variables (values_in old) (excluded_in old) (values_in new) (excluded_in new) fault

-- a refused one leaves some values and some numbers
pub record FailsIn {A : Type 0} (lists : Bool) (scope : Frames) (overrides : BTreeMap ℕ (String A)) (is_read : ℕ → Bool) (variables : List Assigned) (fault : Fault) : Type 0 where
  pub frame : Frame
  pub excluded : ℕ → Bool
  pub settles : Settles lists (const_reading (scope.own ∷ scope.outer)) (overridden overrides) is_read variables empty (λ number. false) frame excluded (Some fault)

-- the constants that are found in a frame inside the scope, where memory suffices
abbrev pub FindsConstants : {A : Type 0} → Bool → Frames → BTreeMap ℕ (String A) → (ℕ → Bool) → List Assigned → Result ConstEvaluator Error → Type 0
FindsConstants lists scope overrides is_read variables (Ok c) =
    (c.lists ≡ lists) × (c.scope.outer ≡ scope.own ∷ scope.outer) × Settles lists (const_reading (scope.own ∷ scope.outer)) (overridden overrides) is_read variables empty (λ number. false) (values_in c) (excluded_in c) None
FindsConstants lists scope overrides is_read variables (Err error) = fault_of error ≢ memory → FailsIn lists scope overrides is_read variables (fault_of error)
