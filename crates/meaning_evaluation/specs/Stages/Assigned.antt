-- How a module's variables are opened, and which of them are constants.
use Rattle.std.specs.Prelude.{◌≡◌, ℕ, ◌⊎◌, ◌||◌, Bool, true, false, List, [], ◌∷◌, ◌++◌, Option, Some, None, IsSome, Result, Ok, Err}
use Rattle.just_host.specs.declared.entry.Entry.{Entry}
use Rattle.just_value.specs.Frames.{BoundRow, ByNumber, WrittenName, written_name, found_in, Rebinds}
use Rattle.evaluate_context.specs.declared.context.AssignmentRef.{AssignmentRef}
use Rattle.meaning_dialogues.specs.Faults.{Fault}
use Rattle.meaning_dialogues.specs.Dialogue.{Dialogue, Ends, DialogueGoes, Reading}
use Rattle.meaning_dialogues.specs.Terms.{Term, term_of}
use Rattle.meaning_dialogues.specs.Evaluation.{Value, Stage, dialogue}
use Rattle.meaning_dialogues.specs.Constants.{settled, constant}
use Rattle.meaning_dialogues.specs.Calls.{const_stage, Frame}

-- a variable as it is assigned
pub record Assigned : Type 0 where
  pub name : WrittenName
  pub number : ℕ
  pub export : Bool
  pub value : Term

abbrev pub assigned_of : AssignmentRef → Assigned
assigned_of a = record {
  name = written_name a.assignment.now.name;
  number = a.assignment.now.number;
  export = a.assignment.now.export;
  value = term_of a.assignment.now.value;
}

-- what the frame holds of it
abbrev pub row_of : Bool → Assigned → Value → BoundRow
row_of export a value = record { export = a.export || export; name = a.name; number = a.number; prelude = false; value = value }

-- its override as one element, else its right side
abbrev pub assigned_dialogue : Option (List ℕ) → Stage → Term → Dialogue Value
assigned_dialogue (Some text) stage term = Ends (Ok (text ∷ []))
assigned_dialogue None stage term = dialogue stage term

-- the stage and the reading are those of the frame so far; `export` is the setting; what is bound in the frame or around it is not evaluated again
module _ (outer : List (List BoundRow)) (stage_with : List BoundRow → Stage) (reading_with : List BoundRow → Reading) (export : Bool) (overrides : ℕ → Option (List ℕ)) (is_read : ℕ → Bool) where
  -- in this order, from one frame and record to another; a fault ends it, and leaves those before it bound
  pub data Assigns : List Assigned → List BoundRow → List Entry → List BoundRow → List Entry → Option Fault → Type 0 where
    all : {own : List BoundRow} {old : List Entry} → Assigns [] own old own old None
    skipped : {a : Assigned} {more : List Assigned} {own last : List BoundRow} {old new : List Entry} {fault : Option Fault}
        → (is_read a.number ≡ false) ⊎ IsSome (found_in (own ∷ outer) a.number) → Assigns more own old last new fault → Assigns (a ∷ more) own old last new fault
    opened : {a : Assigned} {more : List Assigned} {own next last : List BoundRow} {old mid new : List Entry} {fault : Option Fault} (value : Value)
        → is_read a.number ≡ true → found_in (own ∷ outer) a.number ≡ None → DialogueGoes (reading_with own) (assigned_dialogue (overrides a.number) (stage_with own) a.value) old mid (Ok value)
        → Rebinds own (row_of export a value) next → ByNumber next → Assigns more next mid last new fault → Assigns (a ∷ more) own old last new fault
    refused : {a : Assigned} {more : List Assigned} {own : List BoundRow} {old new : List Entry} {fault : Fault}
        → is_read a.number ≡ true → found_in (own ∷ outer) a.number ≡ None → DialogueGoes (reading_with own) (assigned_dialogue (overrides a.number) (stage_with own) a.value) old new (Err fault)
        → Assigns (a ∷ more) own old own new (Some fault)

  -- what was recorded is the beginning of what variables in this order record: behind it they can go on to an end
  pub record BeginsAssigning (variables : List Assigned) (own : List BoundRow) (old new : List Entry) : Type 0 where
    pub rest : List Entry
    pub last : List BoundRow
    pub fault : Option Fault
    pub assigns : Assigns variables own old last (new ++ rest) fault

-- a constant stage by what is constant so far, and by which numbers are not
module _ (lists : Bool) (reading_with : Frame → (ℕ → Bool) → Reading) (overrides : ℕ → Option (List ℕ)) (is_read : ℕ → Bool) where
  abbrev pub settling : Frame → (ℕ → Bool) → Assigned → Option (Result Value Fault)
  settling frame excluded a = constant (settled (reading_with frame excluded) (assigned_dialogue (overrides a.number) (const_stage lists) a.value))

  pub data Settles : List Assigned → Frame → (ℕ → Bool) → Frame → (ℕ → Bool) → Option Fault → Type 0 where
    all_settled : {frame : Frame} {excluded : ℕ → Bool} → Settles [] frame excluded frame excluded None
    passed : {a : Assigned} {more : List Assigned} {frame last : Frame} {excluded outside : ℕ → Bool} {fault : Option Fault}
        → is_read a.number ≡ false → Settles more frame excluded last outside fault → Settles (a ∷ more) frame excluded last outside fault
    settles_to : {a : Assigned} {more : List Assigned} {frame next last : Frame} {excluded outside : ℕ → Bool} {fault : Option Fault} {value : Value}
        → is_read a.number ≡ true → settling frame excluded a ≡ Some (Ok value) → next a.number ≡ Some value → ((n : ℕ) → (n ≡ a.number) ⊎ (next n ≡ frame n))
        → Settles more next excluded last outside fault → Settles (a ∷ more) frame excluded last outside fault
    is_none : {a : Assigned} {more : List Assigned} {frame last : Frame} {excluded wider outside : ℕ → Bool} {fault : Option Fault}
        → is_read a.number ≡ true → settling frame excluded a ≡ None → wider a.number ≡ true → ((n : ℕ) → (n ≡ a.number) ⊎ (wider n ≡ excluded n))
        → Settles more frame wider last outside fault → Settles (a ∷ more) frame excluded last outside fault
    fails : {a : Assigned} {more : List Assigned} {frame : Frame} {excluded : ℕ → Bool} {fault : Fault}
        → is_read a.number ≡ true → settling frame excluded a ≡ Some (Err fault) → Settles (a ∷ more) frame excluded frame excluded (Some fault)
