-- How the variables of a module are opened in a run, by numbers, and what they mean, by names.
use Rattle.std.proofs.Common.{◌≡◌, ◌⊎◌, ℕ, Bool, true, false, List, ◌∷◌, ◌++◌, Option, Some, None}
use Rattle.std.specs.Prelude.{IsSome}
use Rattle.just_host.specs.declared.entry.Entry.{Entry}
use Rattle.just_value.specs.Frames.{BoundRow, found_in}
use Rattle.evaluate_context.specs.Surroundings.{Surroundings, Standing}
use Rattle.meaning_dialogues.specs.Faults.{Fault}
use Rattle.meaning_dialogues.specs.Dialogue.{Dialogue, Reading, Variable}
use Rattle.meaning_dialogues.specs.Evaluation.{Value, Stage}
use Rattle.meaning_dialogues.specs.Meaning.{QuestionAnswers}
use Rattle.meaning_dialogues.specs.Calls.{DefinedFunction, reading_in_frames}
use Rattle.laws_evaluation.specs.Terms.Renumbering.{renumbered}
use Rattle.meaning_evaluation.specs.Stages.Assigned.{Assigned, Assigns, assigned_dialogue}
use Rattle.meaning_evaluation.specs.Stages.Stages.{run_stage, calls_left}
use Rattle.laws_evaluation.specs.Opening.Alike.{StandAlike}
use Rattle.laws_evaluation.specs.Opening.Lazy.{IsNeeded, AreClosed}
use Rattle.laws_evaluation.specs.Opening.Meant.{HoldsMeant, AreMeant, FaultMeant}
use Rattle.laws_evaluation.specs.Opening.Opened.{AgreesFrom, HasNumber, of_number, OpensBetween}
use Rattle.laws_evaluation.proofs.Opening.Lazy.{lazy_means, lazy_fault}
use Rattle.laws_evaluation.proofs.Opening.Names.{CorrespondIn, SameFunctions}
use Rattle.laws_evaluation.proofs.Opening.Reached.{NamesOnly, BodiesNameOnly, run_reads}
use Rattle.laws_evaluation.proofs.Opening.Sides.{frames_read, run_side_means}

module _ (m : Surroundings) (fs gs : List DefinedFunction) (here body : List BoundRow → Standing) (here' body' : Standing) (n : ℕ) (outer : List (List BoundRow)) (export : Bool) (overrides : ℕ → Option (List ℕ)) (is_read : ℕ → Bool)
    (right_side : Variable → Option (Dialogue Value)) (answers : QuestionAnswers) (names : ℕ → List ℕ) (Needs : ℕ → ℕ → Type 0) (Calls : ℕ → List ℕ → Type 0) where
  -- by numbers, at the place that a frame gives
  abbrev pub stage_with : List BoundRow → Stage
  stage_with frame = run_stage m fs (here frame) (calls_left m fs (body frame) n)

  -- variables are read in the frame and those around it
  abbrev pub reading_with : List BoundRow → Reading
  reading_with own = reading_in_frames (λ number. false) (record { own = own; outer = outer }) (record { own = own; outer = outer })

  abbrev Leads : List Assigned → List BoundRow → List Entry → List BoundRow → List Entry → Option Fault → Type 0
  Leads = Assigns outer stage_with reading_with export overrides is_read

  -- by names, at one place for all
  abbrev pub stage_by_names : Stage
  stage_by_names = run_stage m gs here' (calls_left m gs body' n)

  -- two variables have the same right side
  abbrev pub HaveOneSide : Variable → Variable → Type 0
  HaveOneSide y z = right_side y ≡ right_side z

  -- the right side of a variable is its override, or else the term by names; that names what the variable needs and calls what it calls
  pub record IsSideOf (a : Assigned) : Type 0 where
    pub numbers : List ℕ → Option ℕ
    pub side : right_side (of_number names a.number) ≡ Some (assigned_dialogue (overrides a.number) stage_by_names (renumbered numbers a.value))
    pub correspond : overrides a.number ≡ None → CorrespondIn (λ place y z. HaveOneSide y z) numbers a.value
    pub named : overrides a.number ≡ None → NamesOnly fs (Calls a.number) (λ x. IsNeeded names Needs a.number x) a.value
    pub bodies : BodiesNameOnly fs (Calls a.number) (λ x. IsNeeded names Needs a.number x)

  -- what an opening in a run rests on
  pub record OpensInRun (own : List BoundRow) (old : List Entry) (variables : List Assigned) : Type 0 where
    -- commands are answered the same at the places of the run and at that of the meaning; functions are the same; each variable has its right side
    pub places : (earlier later : List Assigned) (frame : List BoundRow) (from : List Entry) → variables ≡ earlier ++ later → Leads earlier own old frame from None → StandAlike answers m (here frame) here' × StandAlike answers m (body frame) body'
    pub functions : SameFunctions (λ place y z. HaveOneSide y z) fs gs
    pub sides : (earlier later : List Assigned) (a : Assigned) → OpensBetween outer own is_read variables earlier a later → IsSideOf a
    -- each stands after what it needs; what is asked for needs what is asked for; what is bound before is meant
    pub order : (earlier later : List Assigned) (a : Assigned) (k : ℕ) → variables ≡ earlier ++ a ∷ later → Needs a.number k → HasNumber earlier k ⊎ HoldsMeant outer right_side answers names own k
    pub closed : (k l : ℕ) → is_read k ≡ true → Needs k l → (is_read l ≡ true) ⊎ HoldsMeant outer right_side answers names own l
    pub bound : (k : ℕ) → HasNumber variables k → IsSome (found_in (own ∷ outer) k) → HoldsMeant outer right_side answers names own k

  run_closed : (own : List BoundRow) (old : List Entry) (variables : List Assigned) → OpensInRun own old variables → AreClosed outer stage_with reading_with export overrides is_read right_side answers names Needs own old variables
  run_closed own old variables r = record {
    means = λ earlier later a frame from o before.
        let side = r.sides earlier later a o in
        let places = r.places earlier (a ∷ later) frame from o.order before in
        run_side_means right_side answers m fs gs (here frame) (body frame) here' body' n (of_number names a.number) (overrides a.number) side.numbers a.value places.0 places.1 r.functions side.correspond side.side;
    reads = λ earlier later a frame from o before.
        let side = r.sides earlier later a o in
        run_reads m fs (body frame) (λ place x. IsNeeded names Needs a.number x) (Calls a.number) side.bodies n (here frame) (overrides a.number) a.value side.named;
    order = r.order;
    closed = r.closed;
    bound = r.bound;
  }

  -- in a run each variable that is opened has the value that it means
  pub run_means : (own last : List BoundRow) (old new : List Entry) (variables : List Assigned) → OpensInRun own old variables → AgreesFrom answers old new → Leads variables own old last new None → AreMeant outer right_side answers names own is_read variables last
  run_means own last old new variables r agrees h =
      lazy_means outer stage_with reading_with export overrides is_read right_side answers names Needs variables own last old new (frames_read outer names) (run_closed own old variables r) agrees h

  -- and a fault that ends the opening is what one variable means that is opened
  pub run_fault : (own last : List BoundRow) (old new : List Entry) (variables : List Assigned) (fault : Fault) → OpensInRun own old variables → AgreesFrom answers old new → Leads variables own old last new (Some fault) → FaultMeant outer right_side answers names own is_read variables last fault
  run_fault own last old new variables fault r agrees h =
      lazy_fault outer stage_with reading_with export overrides is_read right_side answers names Needs variables own last old new fault (frames_read outer names) (run_closed own old variables r) agrees h
