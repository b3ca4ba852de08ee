-- What the premises of the opening come from: frames, names, and places of a run.
use Rattle.std.proofs.Common.{◌≡◌, ◌≤◌, ℕ, zero, suc, List, ◌∷◌, false, Option, Some, None, option_and_then, Result, Ok, refl, sym, ap, subst, ◌∙◌}
use Rattle.just_value.specs.Frames.{BoundRow, found_in}
use Rattle.evaluate_context.specs.Surroundings.{Surroundings, Standing}
use Rattle.meaning_dialogues.specs.Faults.{Fault}
use Rattle.meaning_dialogues.specs.Dialogue.{Dialogue, Ends, Asks, Reads, Lookup, around, in_module, Variable}
use Rattle.meaning_dialogues.specs.Evaluation.{Value, dialogue}
use Rattle.meaning_dialogues.specs.Meaning.{QuestionAnswers, Meaning, with_meaning, meaning, variable_meaning}
use Rattle.meaning_dialogues.specs.Calls.{DefinedFunction, value_found, reading_in_frames}
use Rattle.meaning_dialogues.specs.Terms.{Term}
use Rattle.laws_evaluation.specs.Terms.Alike.{Alike}
use Rattle.laws_evaluation.specs.Terms.Renumbering.{renumbered}
use Rattle.meaning_evaluation.specs.Stages.Assigned.{assigned_dialogue}
use Rattle.meaning_evaluation.specs.Stages.Stages.{run_stage, calls_left}
use Rattle.laws_evaluation.specs.Opening.Alike.{AnsweredAlike, StandAlike}
use Rattle.laws_evaluation.specs.Opening.Opened.{Means, MeansAs, of_number}
use Rattle.laws_evaluation.specs.Opening.Meant.{BoundAreRead}
use Rattle.laws_evaluation.proofs.Opening.Alike.{alike_means, same_answer, places_alike}
use Rattle.laws_evaluation.proofs.Opening.ByNames.{terms_by_names}
use Rattle.laws_evaluation.proofs.Opening.Names.{SameFunctions, CorrespondIn}
use Rattle.laws_evaluation.proofs.Opening.Lazy.{same_read}

-- a variable with the same right side means the same
pub same_side_means : (right_side : Variable → Option (Dialogue Value)) (answers : QuestionAnswers) (x y : Variable) (r : Result Value Fault) → right_side x ≡ right_side y → Means right_side answers x r → Means right_side answers y r
same_side_means right_side answers x y r same m = record { deep = m.deep; is = at }
  where
    at : (n : ℕ) (place : Lookup) → m.deep ≤ n → variable_meaning right_side answers n place y ≡ Some r
    at zero place le = let e = m.is zero place le in absurd (cc)
    at (suc n) place le = ap (option_and_then (λ side. meaning answers (variable_meaning right_side answers n) side)) (sym same) ∙ m.is (suc n) place le

-- dialogues that are alike but for numbers mean the same, by variables that mean the same where they correspond
pub renumbered_means : {A : Type 0} (C : Lookup → Variable → Variable → Type 0) (answers : QuestionAnswers) (variables : Lookup → Variable → Meaning Value) → ((place : Lookup) (x y : Variable) → C place x y → variables place x ≡ variables place y) → (t u : Dialogue A) → Alike C t u → meaning answers variables t ≡ meaning answers variables u
renumbered_means C answers variables same (Ends a) (Ends b) h = ap Some h
renumbered_means C answers variables same (Asks q next) (Asks p after) h =
    ap (λ question. option_and_then (λ answer. meaning answers variables (next answer)) (answers question)) h.0 ∙ same_answer _ _ (answers p) (λ answer. renumbered_means C answers variables same (next answer) (after answer) (h.1 answer))
renumbered_means C answers variables same (Reads place x next) (Reads there y after) h =
    let one : variables place x ≡ variables there y = subst (λ it. variables place x ≡ variables it y) h.0 (same place x y h.1) in
    ap (λ m. with_meaning m (λ value. meaning answers variables (next value))) one ∙ same_read _ _ (variables there y) (λ value. renumbered_means C answers variables same (next value) (after value) (h.2 value))
renumbered_means C answers variables same (Ends a) (Asks p after) h = absurd h
renumbered_means C answers variables same (Ends a) (Reads there y after) h = absurd h
renumbered_means C answers variables same (Asks q next) (Ends b) h = absurd h
renumbered_means C answers variables same (Asks q next) (Reads there y after) h = absurd h
renumbered_means C answers variables same (Reads place x next) (Ends b) h = absurd h
renumbered_means C answers variables same (Reads place x next) (Asks p after) h = absurd h

same_sides : (right_side : Variable → Option (Dialogue Value)) (answers : QuestionAnswers) (n : ℕ) (place : Lookup) (x y : Variable) → right_side x ≡ right_side y → variable_meaning right_side answers n place x ≡ variable_meaning right_side answers n place y
same_sides right_side answers zero place x y e = refl
same_sides right_side answers (suc n) place x y e = ap (option_and_then (λ side. meaning answers (variable_meaning right_side answers n) side)) e

-- a variable means what is evaluated where its right side is that in questions answered the same, and in numbers of variables with one right side
pub means_as_alike : (C : Lookup → Variable → Variable → Type 0) (right_side : Variable → Option (Dialogue Value)) (answers : QuestionAnswers) (x : Variable) (d e side : Dialogue Value) → right_side x ≡ Some side → AnsweredAlike answers d e → Alike C e side
    → ((place : Lookup) (y z : Variable) → C place y z → right_side y ≡ right_side z) → MeansAs right_side answers x d
means_as_alike C right_side answers x d e side is answered alike same = record {
  side = side;
  is = is;
  alike = λ n. alike_means answers (variable_meaning right_side answers n) answered ∙ renumbered_means C answers (variable_meaning right_side answers n) (λ place y z c. same_sides right_side answers n place y z (same place y z c)) e side alike;
}

-- in frames, what is bound is read as its value
pub frames_read : (outer : List (List BoundRow)) (names : ℕ → List ℕ) → BoundAreRead outer (λ own. reading_in_frames (λ number. false) (record { own = own; outer = outer }) (record { own = own; outer = outer })) names
frames_read outer names = record { read = at }
  where
    at : (frame : List BoundRow) (place : Lookup) (n : ℕ) (row : BoundRow) → found_in (frame ∷ outer) n ≡ Some row → reading_in_frames (λ number. false) (record { own = frame; outer = outer }) (record { own = frame; outer = outer }) place (of_number names n) ≡ Ok row.value
    at frame around n row e = ap (value_found (names n)) e
    at frame in_module n row e = ap (value_found (names n)) e

-- In a run the right side of a variable is evaluated by numbers, at a place of its own; the variable means it where its right side by names, at one
-- place for all, is that with other numbers: where commands are answered the same at both, functions are the same, and what corresponds has one right side.
pub run_side_means : (right_side : Variable → Option (Dialogue Value)) (answers : QuestionAnswers) (m : Surroundings) (fs gs : List DefinedFunction) (s body s' body' : Standing) (n : ℕ) (x : Variable) (text : Option (List ℕ)) (numbers : List ℕ → Option ℕ) (term : Term)
    → StandAlike answers m s s' → StandAlike answers m body body' → SameFunctions (λ place y z. right_side y ≡ right_side z) fs gs → (text ≡ None → CorrespondIn (λ place y z. right_side y ≡ right_side z) numbers term)
    → right_side x ≡ Some (assigned_dialogue text (run_stage m gs s' (calls_left m gs body' n)) (renumbered numbers term))
    → MeansAs right_side answers x (assigned_dialogue text (run_stage m fs s (calls_left m fs body n)) term)
run_side_means right_side answers m fs gs s body s' body' n x (Some text) numbers term here there same correspond is = record { side = _; is = is; alike = λ k. refl }
run_side_means right_side answers m fs gs s body s' body' n x None numbers term here there same correspond is =
    means_as_alike (λ place y z. right_side y ≡ right_side z) right_side answers x (dialogue (run_stage m fs s (calls_left m fs body n)) term) (dialogue (run_stage m fs s' (calls_left m fs body' n)) term)
    (dialogue (run_stage m gs s' (calls_left m gs body' n)) (renumbered numbers term)) is (places_alike answers m fs body body' there n s s' here term)
    (terms_by_names m body' (λ place y z. right_side y ≡ right_side z) fs gs same n s' numbers term (correspond refl)) (λ place y z e. e)
