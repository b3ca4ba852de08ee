-- What finding the constants of a module rests on.
use Rattle.std.specs.Prelude.{◌≡◌, ◌⊎◌, ℕ, Bool, true, List, ◌∷◌, ◌++◌, Option, Some, None, Result, Ok, Err, IsSome}
use Rattle.std.specs.List.{AllByRecursion}
use Rattle.meaning_dialogues.specs.Faults.{Fault, Inconstant, not_constant}
use Rattle.meaning_dialogues.specs.Dialogue.{Dialogue, Reading, Lookup, Variable}
use Rattle.meaning_dialogues.specs.Evaluation.{Value, Stage}
use Rattle.meaning_dialogues.specs.Meaning.{QuestionAnswers}
use Rattle.meaning_dialogues.specs.Calls.{const_stage, Frame}
use Rattle.meaning_dialogues.specs.Constants.{settled}
use Rattle.meaning_evaluation.specs.Stages.Assigned.{Assigned, Settles, settling, assigned_dialogue}
use Rattle.laws_evaluation.specs.Opening.Opened.{ReadsOnly, HasNumber, Means, MeansAs, of_number}

-- what is read of a variable is its value in the frame, or in those around it
pub record ConstantsAreRead (reading_with : Frame → (ℕ → Bool) → Reading) (around : Frame) (names : ℕ → List ℕ) : Type 0 where
  pub read : (frame : Frame) (excluded : ℕ → Bool) (place : Lookup) (n : ℕ) (value : Value) → reading_with frame excluded place (of_number names n) ≡ Ok value → (frame n ≡ Some value) ⊎ (around n ≡ Some value)

module _ (right_side : Variable → Option (Dialogue Value)) (answers : QuestionAnswers) (names : ℕ → List ℕ) where
  -- each value of a frame is what the variable of its number means
  abbrev pub ValuesAreMeant : Frame → Type 0
  ValuesAreMeant frame = (n : ℕ) (value : Value) → frame n ≡ Some value → Means right_side answers (of_number names n) (Ok value)

  -- a variable that has a number; where frames around hold a value of it, it means that
  pub record IsNumbered (around : Frame) (x : Variable) : Type 0 where
    pub number : ℕ
    pub is : x ≡ of_number names number
    pub means : (value : Value) → around number ≡ Some value → Means right_side answers (of_number names number) (Ok value)

  -- a variable means what some stage evaluates it to, with lists or without them as in constants; and what its right side reads as a constant has numbers
  pub record CanSettle (lists : Bool) (overrides : ℕ → Option (List ℕ)) (around : Frame) (a : Assigned) : Type 0 where
    pub stage : Stage
    pub same_lists : stage.lists ≡ lists
    pub means : MeansAs right_side answers (of_number names a.number) (assigned_dialogue (overrides a.number) stage a.value)
    pub reads : ReadsOnly (λ place x. IsNumbered around x) (assigned_dialogue (overrides a.number) (const_stage lists) a.value)

  -- each variable that is asked for
  abbrev pub AllCanSettle : Bool → (ℕ → Option (List ℕ)) → (ℕ → Bool) → Frame → List Assigned → Type 0
  AllCanSettle lists overrides is_read around variables = AllByRecursion (λ a. is_read a.number ≡ true → CanSettle lists overrides around a) variables

module _ (lists : Bool) (reading_with : Frame → (ℕ → Bool) → Reading) (overrides : ℕ → Option (List ℕ)) (is_read : ℕ → Bool) where
  -- what the constants before it settle the right side of a variable to
  abbrev pub settled_side : Frame → (ℕ → Bool) → Assigned → Option (Result Value Fault)
  settled_side frame excluded a = settled (reading_with frame excluded) (assigned_dialogue (overrides a.number) (const_stage lists) a.value)

  -- one of these variables has this number, is asked for, and stops at what is no constant, by the constants before it
  pub record StopsIn (frame : Frame) (excluded : ℕ → Bool) (variables : List Assigned) (n : ℕ) : Type 0 where
    pub earlier : List Assigned
    pub it : Assigned
    pub later : List Assigned
    pub then_frame : Frame
    pub then_excluded : ℕ → Bool
    pub what : Inconstant
    pub order : variables ≡ earlier ++ it ∷ later
    pub is : n ≡ it.number
    pub read : is_read it.number ≡ true
    pub before : Settles lists reading_with overrides is_read earlier frame excluded then_frame then_excluded None
    pub stops : settled_side then_frame then_excluded it ≡ Some (Err (not_constant what))

  -- one of these variables is asked for, and its right side comes to the fault, by the constants before it
  pub record FailsAt (frame : Frame) (excluded : ℕ → Bool) (last : Frame) (outside : ℕ → Bool) (fault : Fault) (variables : List Assigned) : Type 0 where
    pub earlier : List Assigned
    pub it : Assigned
    pub later : List Assigned
    pub order : variables ≡ earlier ++ it ∷ later
    pub read : is_read it.number ≡ true
    pub before : Settles lists reading_with overrides is_read earlier frame excluded last outside None
    pub fails : settling lists reading_with overrides is_read last outside it ≡ Some (Err fault)

-- a variable that stands before and is asked for, or that frames around hold
pub record IsFound (is_read : ℕ → Bool) (names : ℕ → List ℕ) (around : Frame) (earlier : List Assigned) (x : Variable) : Type 0 where
  pub number : ℕ
  pub is : x ≡ of_number names number
  pub there : (HasNumber earlier number × (is_read number ≡ true)) ⊎ IsSome (around number)

-- each variable that is asked for reads what is found before it; and of what has a value or is excluded no other fault is read than that it is no constant
pub record ReadWhatIsFound (lists : Bool) (reading_with : Frame → (ℕ → Bool) → Reading) (overrides : ℕ → Option (List ℕ)) (is_read : ℕ → Bool) (names : ℕ → List ℕ) (around : Frame) (variables : List Assigned) : Type 0 where
  pub reads : (earlier later : List Assigned) (a : Assigned) → variables ≡ earlier ++ a ∷ later → is_read a.number ≡ true → ReadsOnly (λ place x. IsFound is_read names around earlier x) (assigned_dialogue (overrides a.number) (const_stage lists) a.value)
  pub refused : (frame : Frame) (excluded : ℕ → Bool) (place : Lookup) (n : ℕ) (fault : Fault) → IsSome (frame n) ⊎ (excluded n ≡ true) ⊎ IsSome (around n) → reading_with frame excluded place (of_number names n) ≡ Err fault → (what : Inconstant) × (fault ≡ not_constant what)

-- one of these variables is asked for, and means the fault
pub record ConstantFault (right_side : Variable → Option (Dialogue Value)) (answers : QuestionAnswers) (names : ℕ → List ℕ) (is_read : ℕ → Bool) (variables : List Assigned) (fault : Fault) : Type 0 where
  pub earlier : List Assigned
  pub it : Assigned
  pub later : List Assigned
  pub order : variables ≡ earlier ++ it ∷ later
  pub read : is_read it.number ≡ true
  pub means : Means right_side answers (of_number names it.number) (Err fault)
