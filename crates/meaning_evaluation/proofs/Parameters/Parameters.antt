-- The loop over parameters: the values of those before are bound in the innermost frame, and their words are put in order.
use Rattle.std.proofs.Common.{◌≡◌, ◌⊎◌, inl, inr, ℕ, ◌+◌, ◌<◌, Bool, true, false, if◌then◌else◌, List, [], ◌∷◌, ◌++◌, length, get_or, drop, map, Result, Ok, Err, ap}
use Rattle.just_host.specs.declared.entry.Entry.{Entry}
use Rattle.just_value.specs.Frames.{BoundRow, Frames, Rebinds}
use Rattle.tree_items.specs.declared.recipe.Parameter.{Parameter}
use Rattle.meaning_dialogues.specs.Faults.{Fault, memory, value_count}
use Rattle.meaning_dialogues.specs.Dialogue.{Evaluates}
use Rattle.meaning_dialogues.specs.Evaluation.{Value, Stage}
use Rattle.meaning_dialogues.specs.Calls.{HasValues, empty}
use Rattle.meaning_evaluation.specs.Stages.Parameters.{Formal, formal_of, bound_value, positional_words, parameter_dialogue, values_dialogue}
use Rattle.meaning_evaluation.specs.Parameters.Bindings.{GivesParameters, HasParameters, frame_after, run_reading}
use Rattle.meaning_evaluation.proofs.Parameters.Frames.{at_place, has_more, has_none, place_from}
use Rattle.meaning_evaluation.proofs.Parameters.Under.{under_goes}
use Rattle.meaning_evaluation.proofs.Parameters.Values.{LeadsParameters, parameters_first, parameters_memory, parameters_more, parameters_stop, parameters_refused, parameters_end}

-- of parameters as their dialogue has them, what is left from a place on begins with the one there
pub formals_at : (parameters : List Parameter) (i : ℕ) (x : Parameter) → i < length parameters → x ≡ get_or parameters i x → map formal_of (drop i parameters) ≡ formal_of x ∷ map formal_of (drop (i + 1) parameters)
formals_at parameters i x lt is = ap (map formal_of) (at_place parameters i x lt is)

-- no parameter is left, or no group
pub none_left : (parameters : List Parameter) (groups : List Value) → (parameters ≡ []) ⊎ (groups ≡ []) → (map formal_of parameters ≡ []) ⊎ (groups ≡ [])
none_left parameters groups (inl e) = inl (ap (map formal_of) e)
none_left parameters groups (inr e) = inr e

-- the frames outside the innermost one, those of the module, the stage, the parameters and their groups
module _ (here there : Frames) (stage : Stage) (is_dependency : Bool) (recipe : List ℕ) (check : Formal → ℕ → Bool) (passes lists : Bool) (formals : List Formal) (groups : List Value) where
  -- so far the values of the parameters before those that are left are in the innermost frame and in the words
  pub record BindsParameters (left : List Formal) (rest : List Value) (old now : List Entry) (own : List BoundRow) (words : List (List ℕ)) : Type 0 where
    pub values : List Value
    pub leads : LeadsParameters (run_reading here there) stage is_dependency recipe check lists formals groups left rest old now values
    pub is : HasParameters passes lists formals values own words

  -- before the first parameter nothing is bound
  pub binds_first : (old : List Entry) (own : List BoundRow) (words : List (List ℕ)) → HasValues own empty → words ≡ [] → BindsParameters formals groups old old own words
  binds_first old own words has none = record {
    values = [];
    leads = parameters_first (run_reading here there) stage is_dependency recipe check lists formals groups old;
    is = has_none passes lists formals own words has none;
  }

  -- no parameter is left, or no group
  pub binds_end : (old new : List Entry) (own : List BoundRow) (words : List (List ℕ)) (left : List Formal) (rest : List Value) → BindsParameters left rest old new own words → (left ≡ []) ⊎ (rest ≡ [])
      → GivesParameters (run_reading here there) (values_dialogue stage is_dependency recipe check lists empty formals groups) old new passes lists formals own words
  binds_end old new own words left rest h over = record {
    values = h.values;
    evaluates = parameters_end (run_reading here there) stage is_dependency recipe check lists formals groups old new h.values left rest h.leads over;
    is = h.is;
  }

  -- in frames of which the innermost one has the parameters before, and the others are those here, where the innermost one has none
  module _ (none : HasValues here.own empty) (inner : Frames) (lies : inner.outer ≡ here.outer) (old mid new : List Entry) (words : List (List ℕ)) (left : List Formal) (rest : List Value) (h : BindsParameters left rest old mid inner.own words) (x : Formal) (after : List Formal) (group : Value) (others : List Value) (is : left ≡ x ∷ after) (of : rest ≡ group ∷ others) where
    leads : LeadsParameters (run_reading here there) stage is_dependency recipe check lists formals groups (x ∷ after) (group ∷ others) old mid h.values
    leads = rw (← is, ← of) h.leads

    -- a parameter's value that the check lets pass is bound, and its words are put after those before
    pub binds_more : (next : List BoundRow) (more : List (List ℕ)) (b : BoundRow) (v : Value) → Evaluates (run_reading inner there) (parameter_dialogue stage is_dependency recipe x group) mid new (Ok v) → check x (length v) ≡ true
        → Rebinds inner.own b next → b.number ≡ x.number → b.value ≡ bound_value lists v → more ≡ words ++ (if passes then positional_words x v else []) → BindsParameters after others old new next more
    binds_more next more b v g let_pass binds number value grown =
        let place = place_from formals (length h.values) x after leads.left_is in
        let given = under_goes here inner there (frame_after lists formals h.values) none h.is.has lies (parameter_dialogue stage is_dependency recipe x group) mid new (Ok v) g in
        record {
          values = h.values ++ v ∷ [];
          leads = parameters_more (run_reading here there) stage is_dependency recipe check lists formals groups old mid new h.values x after group others v leads given let_pass;
          is = has_more passes lists formals h.values inner.own next words more b x v h.is place.0 place.1 binds number value grown;
        }

    -- a parameter with a fault
    pub binds_stop : (f : Fault) → Evaluates (run_reading inner there) (parameter_dialogue stage is_dependency recipe x group) mid new (Err f) → Evaluates (run_reading here there) (values_dialogue stage is_dependency recipe check lists empty formals groups) old new (Err f)
    binds_stop f g =
        let given = under_goes here inner there (frame_after lists formals h.values) none h.is.has lies (parameter_dialogue stage is_dependency recipe x group) mid new (Err f) g in
        parameters_stop (run_reading here there) stage is_dependency recipe check lists formals groups old mid new h.values x after group others f leads given

    -- memory ran out behind a parameter's value
    pub binds_memory : (r : Result Value Fault) → Evaluates (run_reading inner there) (parameter_dialogue stage is_dependency recipe x group) mid new r → Evaluates (run_reading here there) (values_dialogue stage is_dependency recipe check lists empty formals groups) old new (Err memory)
    binds_memory r g =
        let given = under_goes here inner there (frame_after lists formals h.values) none h.is.has lies (parameter_dialogue stage is_dependency recipe x group) mid new r g in
        parameters_memory (run_reading here there) stage is_dependency recipe check lists formals groups old mid new h.values x after group others r leads given

    -- a parameter's value that the check refuses
    pub binds_refused : (v : Value) → Evaluates (run_reading inner there) (parameter_dialogue stage is_dependency recipe x group) mid new (Ok v) → check x (length v) ≡ false
        → Evaluates (run_reading here there) (values_dialogue stage is_dependency recipe check lists empty formals groups) old new (Err (value_count recipe x.name (length v)))
    binds_refused v g refused =
        let given = under_goes here inner there (frame_after lists formals h.values) none h.is.has lies (parameter_dialogue stage is_dependency recipe x group) mid new (Ok v) g in
        parameters_refused (run_reading here there) stage is_dependency recipe check lists formals groups old mid new h.values x after group others v leads given refused
