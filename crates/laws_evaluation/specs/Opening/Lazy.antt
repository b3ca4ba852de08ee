-- Variables that are not asked for.
use Rattle.std.specs.Prelude.{◌≡◌, ◌⊎◌, ℕ, Bool, true, List, ◌∷◌, ◌++◌, Option, None, IsSome}
use Rattle.just_host.specs.declared.entry.Entry.{Entry}
use Rattle.just_value.specs.Frames.{BoundRow, found_in}
use Rattle.meaning_dialogues.specs.Dialogue.{Dialogue, Reading, Variable}
use Rattle.meaning_dialogues.specs.Evaluation.{Value, Stage}
use Rattle.meaning_dialogues.specs.Meaning.{QuestionAnswers}
use Rattle.meaning_evaluation.specs.Stages.Assigned.{Assigned, Assigns}
use Rattle.laws_evaluation.specs.Opening.Opened.{ReadsOnly, HasNumber, MeansAs, of_number, OpensBetween, side_in}
use Rattle.laws_evaluation.specs.Opening.Meant.{HoldsMeant}

-- a variable whose number is one that is read from this one
pub record IsNeeded (names : ℕ → List ℕ) (Needs : ℕ → ℕ → Type 0) (n : ℕ) (x : Variable) : Type 0 where
  pub number : ℕ
  pub is : x ≡ of_number names number
  pub needed : Needs n number

module _ (outer : List (List BoundRow)) (stage_with : List BoundRow → Stage) (reading_with : List BoundRow → Reading) (export : Bool) (overrides : ℕ → Option (List ℕ)) (is_read : ℕ → Bool)
    (right_side : Variable → Option (Dialogue Value)) (answers : QuestionAnswers) (names : ℕ → List ℕ) where
  -- all variables stand after those that they read, asked for or not; what is asked for reads what is asked for; and what is bound before is meant
  pub record AreClosed (Needs : ℕ → ℕ → Type 0) (own : List BoundRow) (old : List Entry) (variables : List Assigned) : Type 0 where
    pub means : (earlier later : List Assigned) (a : Assigned) (frame : List BoundRow) (from : List Entry) → OpensBetween outer own is_read variables earlier a later
        → Assigns outer stage_with reading_with export overrides is_read earlier own old frame from None → MeansAs right_side answers (of_number names a.number) (side_in outer stage_with reading_with export overrides is_read frame a)
    pub reads : (earlier later : List Assigned) (a : Assigned) (frame : List BoundRow) (from : List Entry) → OpensBetween outer own is_read variables earlier a later
        → Assigns outer stage_with reading_with export overrides is_read earlier own old frame from None
        → ReadsOnly (λ place x. IsNeeded names Needs a.number x) (side_in outer stage_with reading_with export overrides is_read frame a)
    pub order : (earlier later : List Assigned) (a : Assigned) (m : ℕ) → variables ≡ earlier ++ a ∷ later → Needs a.number m → HasNumber earlier m ⊎ HoldsMeant outer right_side answers names own m
    pub closed : (n m : ℕ) → is_read n ≡ true → Needs n m → (is_read m ≡ true) ⊎ HoldsMeant outer right_side answers names own m
    pub bound : (n : ℕ) → HasNumber variables n → IsSome (found_in (own ∷ outer) n) → HoldsMeant outer right_side answers names own n
