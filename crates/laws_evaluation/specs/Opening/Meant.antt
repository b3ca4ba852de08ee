-- What opening variables rests on: what is bound is read, right sides mean what is evaluated, and each reads what stands before it.
use Rattle.std.specs.Prelude.{◌≡◌, ◌⊎◌, ℕ, Bool, List, ◌∷◌, Option, Some, None, Ok, Err}
use Rattle.just_host.specs.declared.entry.Entry.{Entry}
use Rattle.just_value.specs.Frames.{BoundRow, found_in}
use Rattle.meaning_dialogues.specs.Faults.{Fault}
use Rattle.meaning_dialogues.specs.Dialogue.{Dialogue, Reading, Lookup, Variable}
use Rattle.meaning_dialogues.specs.Evaluation.{Value, Stage}
use Rattle.meaning_dialogues.specs.Meaning.{QuestionAnswers}
use Rattle.meaning_evaluation.specs.Stages.Assigned.{Assigned, Assigns}
use Rattle.laws_evaluation.specs.Opening.Opened.{ReadsOnly, HasNumber, Means, MeansAs, of_number, IsOpened, OpensBetween, side_in}

module _ (outer : List (List BoundRow)) (right_side : Variable → Option (Dialogue Value)) (answers : QuestionAnswers) (names : ℕ → List ℕ) where
  -- the frame, or one around it, holds a value that the variable of the number means
  pub record HoldsMeant (frame : List BoundRow) (n : ℕ) : Type 0 where
    pub row : BoundRow
    pub found : found_in (frame ∷ outer) n ≡ Some row
    pub means : Means right_side answers (of_number names n) (Ok row.value)

  -- each of these variables that is opened from one frame holds in another a value that it means
  abbrev pub AreMeant : List BoundRow → (ℕ → Bool) → List Assigned → List BoundRow → Type 0
  AreMeant own is_read variables last = (n : ℕ) → HasNumber variables n → IsOpened outer own is_read n → HoldsMeant last n

  -- one of these variables that is opened means the fault, and those before it hold values that they mean
  pub record FaultMeant (own : List BoundRow) (is_read : ℕ → Bool) (variables : List Assigned) (last : List BoundRow) (fault : Fault) : Type 0 where
    pub earlier : List Assigned
    pub it : Assigned
    pub later : List Assigned
    pub opens : OpensBetween outer own is_read variables earlier it later
    pub means : Means right_side answers (of_number names it.number) (Err fault)
    pub others : AreMeant own is_read earlier last

  -- a variable that may be read after these: one of them that is opened, or one that is bound before and means its value
  pub record IsThere (own : List BoundRow) (is_read : ℕ → Bool) (earlier : List Assigned) (x : Variable) : Type 0 where
    pub number : ℕ
    pub is : x ≡ of_number names number
    pub there : (HasNumber earlier number × IsOpened outer own is_read number) ⊎ HoldsMeant own number

-- a variable that is bound gives its value where it is read
pub record BoundAreRead (outer : List (List BoundRow)) (reading_with : List BoundRow → Reading) (names : ℕ → List ℕ) : Type 0 where
  pub read : (frame : List BoundRow) (place : Lookup) (n : ℕ) (row : BoundRow) → found_in (frame ∷ outer) n ≡ Some row → reading_with frame place (of_number names n) ≡ Ok row.value

module _ (outer : List (List BoundRow)) (stage_with : List BoundRow → Stage) (reading_with : List BoundRow → Reading) (export : Bool) (overrides : ℕ → Option (List ℕ)) (is_read : ℕ → Bool)
    (right_side : Variable → Option (Dialogue Value)) (answers : QuestionAnswers) (names : ℕ → List ℕ) where
  -- each variable that is opened means what it is evaluated by in the frame that the earlier ones lead to, and that reads only what is there
  pub record AreOrdered (own : List BoundRow) (old : List Entry) (variables : List Assigned) : Type 0 where
    pub means : (earlier later : List Assigned) (a : Assigned) (frame : List BoundRow) (from : List Entry) → OpensBetween outer own is_read variables earlier a later
        → Assigns outer stage_with reading_with export overrides is_read earlier own old frame from None → MeansAs right_side answers (of_number names a.number) (side_in outer stage_with reading_with export overrides is_read frame a)
    pub reads : (earlier later : List Assigned) (a : Assigned) (frame : List BoundRow) (from : List Entry) → OpensBetween outer own is_read variables earlier a later
        → Assigns outer stage_with reading_with export overrides is_read earlier own old frame from None
        → ReadsOnly (λ place x. IsThere outer right_side answers names own is_read earlier x) (side_in outer stage_with reading_with export overrides is_read frame a)
