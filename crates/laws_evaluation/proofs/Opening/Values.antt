-- One value of each variable: in every run by the same answers, and as a constant.
use Rattle.std.proofs.Common.{◌≡◌, ◌⊎◌, inl, inr, ⊎_elim, ℕ, Bool, List, [], ◌∷◌, Option, Some, Result, Ok, Err, refl, ap, subst, ◌∙◌}
use Rattle.std.proofs.lemmas.Bool.{cases_eq}
use Rattle.just_value.specs.Frames.{BoundRow}
use Rattle.meaning_dialogues.specs.Faults.{Fault}
use Rattle.meaning_dialogues.specs.Dialogue.{Dialogue, Ends, Variable}
use Rattle.meaning_dialogues.specs.Evaluation.{Value}
use Rattle.meaning_dialogues.specs.Meaning.{QuestionAnswers}
use Rattle.meaning_dialogues.specs.Calls.{Frame}
use Rattle.meaning_evaluation.specs.Stages.Assigned.{Assigned}
use Rattle.laws_evaluation.specs.Opening.Opened.{HasNumber, Means, of_number, IsOpened, OpensBetween}
use Rattle.laws_evaluation.specs.Opening.Meant.{HoldsMeant}
use Rattle.laws_evaluation.specs.Opening.Settled.{ValuesAreMeant}
use Rattle.laws_evaluation.proofs.Opening.Depths.{one_meaning, means_by}

module _ (right_side : Variable → Option (Dialogue Value)) (answers : QuestionAnswers) (names : ℕ → List ℕ) where
  -- an override, or a constant's text, is what its variable means
  pub stands_for : (x : Variable) (r : Result Value Fault) → right_side x ≡ Some (Ends r) → Means right_side answers x r
  stands_for x r e = means_by right_side answers x (Ends r) r 0 (record { side = Ends r; is = e; alike = λ n. refl }) (λ n le. refl)

  one_value : (x : Variable) (v w : Value) → Means right_side answers x (Ok v) → Means right_side answers x (Ok w) → v ≡ w
  one_value x v w m n = let e = one_meaning right_side answers x (Ok v) (Ok w) m n in cc

  -- two runs by the same answers hold the same value of a variable
  pub runs_hold_one : (outer other : List (List BoundRow)) (frame last : List BoundRow) (n : ℕ) (h : HoldsMeant outer right_side answers names frame n) (g : HoldsMeant other right_side answers names last n) → h.row.value ≡ g.row.value
  runs_hold_one outer other frame last n h g = one_value (of_number names n) h.row.value g.row.value h.means g.means

  -- a constant has the value that a run holds
  pub constant_is_held : (constants : Frame) (outer : List (List BoundRow)) (last : List BoundRow) (n : ℕ) (value : Value) → ValuesAreMeant right_side answers names constants → constants n ≡ Some value → (h : HoldsMeant outer right_side answers names last n) → h.row.value ≡ value
  constant_is_held constants outer last n value meant e h = one_value (of_number names n) h.row.value value h.means (meant n value e)

  -- a variable of which a run holds a value means no fault
  pub held_is_no_fault : (outer : List (List BoundRow)) (last : List BoundRow) (n : ℕ) (fault : Fault) → HoldsMeant outer right_side answers names last n → Means right_side answers (of_number names n) (Err fault) → ⊥
  held_is_no_fault outer last n fault h m = let e = one_meaning right_side answers (of_number names n) (Ok h.row.value) (Err fault) h.means m in absurd (cc)

-- the first of these variables that has the number, opened there
pub record IsFirst (outer : List (List BoundRow)) (own : List BoundRow) (is_read : ℕ → Bool) (variables : List Assigned) (n : ℕ) : Type 0 where
  pub earlier : List Assigned
  pub it : Assigned
  pub later : List Assigned
  pub is : n ≡ it.number
  pub opens : OpensBetween outer own is_read variables earlier it later

-- a number that is opened is that of a variable that is opened
pub first_of : (outer : List (List BoundRow)) (own : List BoundRow) (is_read : ℕ → Bool) (variables : List Assigned) (n : ℕ) → HasNumber variables n → IsOpened outer own is_read n → IsFirst outer own is_read variables n
first_of outer own is_read [] n h o = absurd h
first_of outer own is_read (a ∷ as') n h o = at (cases_eq n a.number) (λ i. first_of outer own is_read as' n i o)
  where
    at : (n ≡ a.number) ⊎ (n ≡ a.number → ⊥) → (HasNumber as' n → IsFirst outer own is_read as' n) → IsFirst outer own is_read (a ∷ as') n
    at (inl e) go = record { earlier = []; it = a; later = as'; is = e; opens = record { order = refl; opened = subst (IsOpened outer own is_read) e o; first = λ i. i } }
    at (inr other) go =
        let f = go (⊎_elim (λ e. absurd (other e)) (λ i. i) h) in
        record {
          earlier = a ∷ f.earlier;
          it = f.it;
          later = f.later;
          is = f.is;
          opens = record { order = ap (λ l. a ∷ l) f.opens.order; opened = f.opens.opened; first = λ i. ⊎_elim (λ e. other (f.is ∙ e)) f.opens.first i };
        }
