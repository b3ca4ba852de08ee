-- The variables that are opened: which they are, what they read, and what they mean.
use Rattle.std.specs.Prelude.{◌≡◌, ◌≤◌, ◌⊎◌, ℕ, Bool, true, List, [], ◌∷◌, ◌++◌, Option, Some, None, Result, Ok, Err}
use Rattle.just_host.specs.declared.entry.Entry.{Entry}
use Rattle.just_host.specs.declared.host.Answer.{Answer}
use Rattle.just_value.specs.Frames.{BoundRow, found_in, Rebinds}
use Rattle.meaning_dialogues.specs.Faults.{Fault}
use Rattle.meaning_dialogues.specs.Dialogue.{Dialogue, Ends, Asks, Reads, DialogueGoes, Reading, Lookup, Variable}
use Rattle.meaning_dialogues.specs.Evaluation.{Value, Stage}
use Rattle.meaning_dialogues.specs.Meaning.{QuestionAnswers, meaning, AgreesWith, variable_meaning}
use Rattle.meaning_evaluation.specs.Stages.Assigned.{Assigned, Assigns, assigned_dialogue, row_of}

-- one record begins with the other
pub record Grows (old new : List Entry) : Type 0 where
  pub piece : List Entry
  pub entries : new ≡ old ++ piece

-- what the record grew by has the answers that are given
pub record AgreesFrom (answers : QuestionAnswers) (old new : List Entry) : Type 0 where
  pub piece : List Entry
  pub entries : new ≡ old ++ piece
  pub agrees : AgreesWith answers piece

-- it reads only these variables, whatever it is answered
abbrev pub ReadsOnly : {A : Type 0} → (Lookup → Variable → Type 0) → Dialogue A → Type 0
ReadsOnly P (Ends end) = Unit {0}
ReadsOnly P (Asks question next) = (answer : Answer) → ReadsOnly P (next answer)
ReadsOnly P (Reads place x next) = P place x × ((value : Value) → ReadsOnly P (next value))

-- the number is that of one of these variables
abbrev pub HasNumber : List Assigned → ℕ → Type 0
HasNumber [] n = ⊥
HasNumber (a ∷ others) n = (n ≡ a.number) ⊎ HasNumber others n

-- what one frame binds with those around it, the other binds to the same row
abbrev pub Keeps : List (List BoundRow) → List BoundRow → List BoundRow → Type 0
Keeps outer own last = (n : ℕ) (row : BoundRow) → found_in (own ∷ outer) n ≡ Some row → found_in (last ∷ outer) n ≡ Some row

-- what a variable means
module _ (right_side : Variable → Option (Dialogue Value)) (answers : QuestionAnswers) where
  -- from some depth on it means this
  pub record Means (x : Variable) (result : Result Value Fault) : Type 0 where
    pub deep : ℕ
    pub is : (n : ℕ) (place : Lookup) → deep ≤ n → variable_meaning right_side answers n place x ≡ Some result

  -- its right side means what this dialogue means, at every depth
  pub record MeansAs (x : Variable) (d : Dialogue Value) : Type 0 where
    pub side : Dialogue Value
    pub is : right_side x ≡ Some side
    pub alike : (n : ℕ) → meaning answers (variable_meaning right_side answers n) d ≡ meaning answers (variable_meaning right_side answers n) side

-- the variable of a number, by the names of numbers
abbrev pub of_number : (ℕ → List ℕ) → ℕ → Variable
of_number names n = record { name = names n; number = Some n }

-- which variables are opened, from a frame inside others
module _ (outer : List (List BoundRow)) (own : List BoundRow) (is_read : ℕ → Bool) where
  -- a number that is opened: it is asked for, and nothing binds it before
  pub record IsOpened (n : ℕ) : Type 0 where
    pub read : is_read n ≡ true
    pub unbound : found_in (own ∷ outer) n ≡ None

  -- a variable that is opened after these and before those: no earlier one has its number
  pub record OpensBetween (variables earlier : List Assigned) (a : Assigned) (later : List Assigned) : Type 0 where
    pub order : variables ≡ earlier ++ a ∷ later
    pub opened : IsOpened a.number
    pub first : HasNumber earlier a.number → ⊥

module _ (outer : List (List BoundRow)) (stage_with : List BoundRow → Stage) (reading_with : List BoundRow → Reading) (export : Bool) (overrides : ℕ → Option (List ℕ)) (is_read : ℕ → Bool) where
  -- what a variable is evaluated by in a frame
  abbrev pub side_in : List BoundRow → Assigned → Dialogue Value
  side_in frame a = assigned_dialogue (overrides a.number) (stage_with frame) a.value

  -- between the earlier ones and the later ones its dialogue leads to the value, which it has at the end
  pub record HasValue (own : List BoundRow) (old : List Entry) (last : List BoundRow) (new : List Entry) (fault : Option Fault) (earlier : List Assigned) (a : Assigned) (later : List Assigned) : Type 0 where
    pub value : Value
    pub frame : List BoundRow
    pub next : List BoundRow
    pub from : List Entry
    pub till : List Entry
    pub before : Assigns outer stage_with reading_with export overrides is_read earlier own old frame from None
    pub goes : DialogueGoes (reading_with frame) (side_in frame a) from till (Ok value)
    pub binds : Rebinds frame (row_of export a value) next
    pub after : Assigns outer stage_with reading_with export overrides is_read later next till last new fault
    pub begins : Grows old from
    pub goes_on : Grows from till
    pub ends : Grows till new
    pub found : found_in (last ∷ outer) a.number ≡ Some (row_of export a value)

  -- the right side of one that is opened leads to the fault after the earlier ones, in the frame that is left
  pub record FaultsAt (own : List BoundRow) (old : List Entry) (last : List BoundRow) (new : List Entry) (fault : Fault) (variables : List Assigned) : Type 0 where
    pub earlier : List Assigned
    pub it : Assigned
    pub later : List Assigned
    pub from : List Entry
    pub opens : OpensBetween outer own is_read variables earlier it later
    pub before : Assigns outer stage_with reading_with export overrides is_read earlier own old last from None
    pub goes : DialogueGoes (reading_with last) (side_in last it) from new (Err fault)
