-- The values of parameters, one after another.
use Rattle.std.proofs.Common.{◌≡◌, ◌⊎◌, inl, inr, ℕ, Bool, true, false, List, [], ◌∷◌, ◌++◌, length, drop, map, Result, Ok, Err, refl, sym, ap, append_assoc, append-nil, add-one, length-append}
use Rattle.just_host.specs.declared.entry.Entry.{Entry}
use Rattle.meaning_dialogues.specs.Faults.{Fault, memory, value_count}
use Rattle.meaning_dialogues.specs.Dialogue.{Dialogue, Ends, ◌>>=◌, Begins, DialogueGoes, Evaluates, Reading}
use Rattle.meaning_dialogues.specs.Evaluation.{Value, Stage}
use Rattle.meaning_dialogues.specs.Calls.{Frame, bound, empty}
use Rattle.meaning_evaluation.specs.Stages.Parameters.{Formal, under, bound_value, counted, parameter_dialogue, values_dialogue}
use Rattle.meaning_dialogues.proofs.Dialogues.{goes_on, stops, begins_first, whole_begins}
use Rattle.meaning_dialogues.proofs.Rows.{after, Leads, leads_begins, leads_first}
use Rattle.meaning_evaluation.specs.Parameters.Bindings.{frame_after}
use Rattle.meaning_evaluation.proofs.Parameters.Frames.{frame_more, nothing_bound, place_from}

after_after : (vs : List Value) (v : Value) (r : Result (List Value) Fault) → after vs (after (v ∷ []) r) ≡ after (vs ++ v ∷ []) r
after_after vs v (Ok ws) = ap Ok (sym (append_assoc vs (v ∷ []) ws))
after_after vs v (Err e) = refl

-- the values of parameters by the stage at its place, in the order of parameters and groups
module _ (reading : Reading) (stage : Stage) (is_dependency : Bool) (recipe : List ℕ) (check : Formal → ℕ → Bool) (lists : Bool) (formals : List Formal) (groups : List Value) where
  abbrev pub all_values : Dialogue (List Value)
  all_values = values_dialogue stage is_dependency recipe check lists empty formals groups

  -- whatever the parameters that are left give by the groups that are left after these values, all give with these values in front
  pub record LeadsParameters (left : List Formal) (rest : List Value) (old now : List Entry) (values : List Value) : Type 0 where
    pub left_is : left ≡ drop (length values) formals
    pub leads : Leads reading all_values (values_dialogue stage is_dependency recipe check lists (frame_after lists formals values) left rest) old now values

  -- the value of a parameter that reads those before it
  abbrev pub next_value : List Value → Formal → Value → Dialogue Value
  next_value values x group = under (frame_after lists formals values) (parameter_dialogue stage is_dependency recipe x group)

  abbrev with_given : List Value → Formal → List Formal → List Value → Value → Dialogue (List Value)
  with_given values x left rest given = Ends (counted stage is_dependency recipe check x given) >>= λ value. values_dialogue stage is_dependency recipe check lists (bound (frame_after lists formals values) x.number (bound_value lists value)) left rest >>= λ values. Ends (Ok (value ∷ values))

  value_first : (values : List Value) (x : Formal) (left : List Formal) (rest : List Value) (v : Value) (mid new : List Entry) (r : Result (List Value) Fault) → check x (length v) ≡ true
      → DialogueGoes reading (values_dialogue stage is_dependency recipe check lists (bound (frame_after lists formals values) x.number (bound_value lists v)) left rest) mid new r → DialogueGoes reading (with_given values x left rest v) mid new (after (v ∷ []) r)
  value_first values x left rest v mid new (Ok ws) passes h = rw passes (goes_on reading _ _ mid new new ws (Ok (v ∷ ws)) h (refl, refl))
  value_first values x left rest v mid new (Err e) passes h = rw passes (stops reading _ _ mid new e h)

  -- before the first parameter
  pub parameters_first : (old : List Entry) → LeadsParameters formals groups old old []
  parameters_first old = record { left_is = refl; leads = rw (nothing_bound empty (map (λ formal. formal.number) formals)) (leads_first reading all_values old) }

  -- a parameter's value that the check lets pass
  pub parameters_more : (old mid new : List Entry) (values : List Value) (x : Formal) (left : List Formal) (group : Value) (rest : List Value) (v : Value) → LeadsParameters (x ∷ left) (group ∷ rest) old mid values
      → Evaluates reading (next_value values x group) mid new (Ok v) → check x (length v) ≡ true → LeadsParameters left rest old new (values ++ v ∷ [])
  parameters_more old mid new values x left group rest v h g passes =
      let place = place_from formals (length values) x left h.left_is in
      record {
        left_is = rw (length-append values (v ∷ []), add-one) place.2;
        leads = record {
          on = λ last r d.
              let here = value_first values x left rest v new last r passes (rw (frame_more lists formals values x v place.0 place.1) at d) in
              let whole = goes_on reading (next_value values x group) (with_given values x left rest) mid new last v (after (v ∷ []) r) (g.goes (λ q. cc)) here in
              rw (← after_after values v r) (h.leads.on last (after (v ∷ []) r) whole);
        };
      }

  -- what begins a parameter begins all of them
  parameters_begin : (old mid new : List Entry) (values : List Value) (x : Formal) (left : List Formal) (group : Value) (rest : List Value) → LeadsParameters (x ∷ left) (group ∷ rest) old mid values
      → Begins reading (next_value values x group) mid new → Begins reading all_values old new
  parameters_begin old mid new values x left group rest h b =
      leads_begins reading all_values (values_dialogue stage is_dependency recipe check lists (frame_after lists formals values) (x ∷ left) (group ∷ rest)) old mid new values h.leads
      (begins_first reading (next_value values x group) (with_given values x left rest) mid new b)

  -- a parameter with a fault
  pub parameters_stop : (old mid new : List Entry) (values : List Value) (x : Formal) (left : List Formal) (group : Value) (rest : List Value) (f : Fault) → LeadsParameters (x ∷ left) (group ∷ rest) old mid values
      → Evaluates reading (next_value values x group) mid new (Err f) → Evaluates reading all_values old new (Err f)
  parameters_stop old mid new values x left group rest f h g = record {
    goes = λ n. h.leads.on new (Err f) (stops reading (next_value values x group) (with_given values x left rest) mid new f (g.goes (λ q. n (cc))));
    begins = parameters_begin old mid new values x left group rest h g.begins;
  }

  -- memory ran out behind a parameter's value
  pub parameters_memory : (old mid new : List Entry) (values : List Value) (x : Formal) (left : List Formal) (group : Value) (rest : List Value) (r : Result Value Fault) → LeadsParameters (x ∷ left) (group ∷ rest) old mid values
      → Evaluates reading (next_value values x group) mid new r → Evaluates reading all_values old new (Err memory)
  parameters_memory old mid new values x left group rest r h g = record {
    goes = λ n. absurd (n refl);
    begins = parameters_begin old mid new values x left group rest h g.begins;
  }

  -- a parameter's value that the check refuses
  pub parameters_refused : (old mid new : List Entry) (values : List Value) (x : Formal) (left : List Formal) (group : Value) (rest : List Value) (v : Value) → LeadsParameters (x ∷ left) (group ∷ rest) old mid values
      → Evaluates reading (next_value values x group) mid new (Ok v) → check x (length v) ≡ false → Evaluates reading all_values old new (Err (value_count recipe x.name (length v)))
  parameters_refused old mid new values x left group rest v h g refused = record {
    goes = λ n.
        let f = value_count recipe x.name (length v) in
        let here : DialogueGoes reading (with_given values x left rest v) new new (Err f) = rw refused (refl, refl) in
        h.leads.on new (Err f) (goes_on reading (next_value values x group) (with_given values x left rest) mid new new v (Err f) (g.goes (λ q. cc)) here);
    begins = parameters_begin old mid new values x left group rest h g.begins;
  }

  no_values : (frame : Frame) (left : List Formal) (rest : List Value) (now : List Entry) → (left ≡ []) ⊎ (rest ≡ []) → DialogueGoes reading (values_dialogue stage is_dependency recipe check lists frame left rest) now now (Ok [])
  no_values frame [] rest now e = (refl, refl)
  no_values frame (x ∷ left) [] now e = (refl, refl)
  no_values frame (x ∷ left) (group ∷ rest) now e = absurd (elim e [ inl a ↦ cc | inr b ↦ cc ])

  -- no parameter is left, or no group
  pub parameters_end : (old new : List Entry) (values : List Value) (left : List Formal) (rest : List Value) → LeadsParameters left rest old new values → (left ≡ []) ⊎ (rest ≡ []) → Evaluates reading all_values old new (Ok values)
  parameters_end old new values left rest h over =
      let whole : DialogueGoes reading all_values old new (Ok values) = rw (← append-nil values) (h.leads.on new (Ok []) (no_values (frame_after lists formals values) left rest new over)) in
      record { goes = λ n. whole; begins = whole_begins reading all_values old new (Ok values) whole }
