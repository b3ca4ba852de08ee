-- Each variable of a module leads by names where it leads by numbers, as they are opened one after another.
use Rattle.std.proofs.Common.{◌≡◌, ◌⊎◌, inl, inr, refl, sym, ◌∙◌, ap, ap₂, subst, Bool, true, false, cond, ◌||◌, List, [], ◌∷◌, map, length, Option, Some, None, Result, ℕ, ◌≤◌}
use Rattle.std.specs.Prelude.{Contains, ◌==◌}
use Rattle.std.specs.List.{AllByRecursion}
use Rattle.std.specs.Option.{option_map, option_or}
use Rattle.std.proofs.lemmas.Bool.Decides.{Decides-eqb}
use Rattle.just_host.specs.declared.entry.Entry.{Entry}
use Rattle.just_host.specs.declared.job.Pair.{Pair}
use Rattle.just_value.specs.Constants.{constant_rows}
use Rattle.just_value.specs.Frames.{BindsRows, BoundRow, ByNumber, Frames, Rebinds, bound_in, constant_binding, found_in}
use Rattle.parse_expressions.specs.Literals.{Expansion, IsCooked, from_file}
use Rattle.evaluate_context.specs.Environment.{variable}
use Rattle.evaluate_context.specs.Surroundings.{by_name}
use Rattle.evaluate_context.specs.declared.context.AssignmentRef.{AssignmentRef}
use Rattle.evaluate_context.specs.declared.context.ExecutionContext.{ExecutionContext}
use Rattle.evaluate_expressions.specs.Situations.{functions_in}
use Rattle.evaluate_variables.specs.Opened.{framed, opening_reading, opening_stage, overridden}
use Rattle.modules_compilation.specs.declared.compilation.Compilation.{Compilation}
use Rattle.resolve_analysis.specs.declared.known_values.KnownValues.{KnownValues}
use Rattle.meaning_dialogues.specs.Calls.{DefinedFunction, function_named}
use Rattle.meaning_dialogues.specs.Dialogue.{DialogueGoes, Variable, around}
use Rattle.meaning_dialogues.specs.Evaluation.{Value}
use Rattle.meaning_dialogues.specs.Faults.{Fault}
use Rattle.meaning_dialogues.specs.Terms.{term_of}
use Rattle.meaning_dialogues.proofs.Soundness.{Each}
use Rattle.meaning_evaluation.specs.Stages.Assigned.{Assigned, Assigns, assigned_dialogue, assigned_of, row_of}
use Rattle.meaning_rules.specs.Worlds.Given.{Overrides, Text, World}
use Rattle.meaning_evaluation.specs.Named.{Definitions}
use Rattle.meaning_evaluation.specs.Scopes.{Configuration, Scene}
use Rattle.just_meaning.specs.Opening.{Held, held, is_exported, named, pairs_of, reading_in, scene_in, side_of}
use Rattle.laws_evaluation.proofs.Opening.Names.{AnyCall, SameFunctions}
use Rattle.laws_evaluation.specs.Soundness.Known.{IsBoundIn, IsCallable, OneForEach}
use Rattle.meaning_evaluation.proofs.Stages.Depth.{HasNumber}
use Rattle.laws_evaluation.specs.Soundness.Opening.{IsNumbered, SideKnown}
use Rattle.laws_runs.specs.Settings.Settled.{AllSettle}
use Rattle.laws_runs.specs.ByName.Variables.{unnumbered}
use Rattle.laws_runs.proofs.ByName.Variables.{each_up}
use Rattle.just_meaning.specs.Configured.{configuration_of}
use Rattle.laws_runs.proofs.Running.Opening.Filled.{AreSteps, EndByName, GoesByName, after, filled, read_names}
use Rattle.laws_runs.proofs.Running.Opening.Known.{AreKnown, IsFound, each_both, known_bound, known_passed, numbers_bound}
use Rattle.laws_runs.proofs.Running.Opening.Orders.{AreFree, AreLent}
use Rattle.laws_runs.proofs.Running.Opening.Pairs.{exported_same}
use Rattle.laws_runs.proofs.Running.Opening.Places.{same_here, same_in_functions, same_module}
use Rattle.laws_runs.proofs.Running.Opening.Reading.{beyond, gives_alike, numbered}
use Rattle.laws_runs.proofs.Running.Opening.Requests.{HasRow}
use Rattle.laws_runs.proofs.Running.Opening.Sides.{GivesAlike, IsSide, StandsAlike, side_written, variable_goes}
use Rattle.laws_runs.proofs.Running.Opening.Values.{AreApart, HoldAlike, name_of, number_of, one_more_held}

module _ (w : World) (o : Overrides) (compilation : Compilation) (values : KnownValues) (settled : AllSettle w o compilation values.settings.items) (k : ℕ) (path : List Text) (context : ExecutionContext)
    (h : HasRow w o compilation values settled context.config.now k path context.module.now) (expansion : Expansion) (defined : Definitions)
    (pairs : List Pair) (pairs_are : map variable context.dotenv.now.entries ≡ by_name pairs) (assignments : List AssignmentRef) (constants : List BoundRow) (is_read : ℕ → Bool) where
  abbrev export : Bool
  export = context.module.now.settings.now.export

  abbrev overrides : ℕ → Option (List ℕ)
  overrides = overridden context.overrides.now

  abbrev pub configuration : Configuration
  configuration = configuration_of context.config.now context.root.now expansion

  abbrev pub scene_with : List Held → Scene
  scene_with held = scene_in configuration defined path h.row pairs (pairs_of defined path held)

  abbrev pub frames_of : List BoundRow → Frames
  frames_of own = framed (constants ∷ []) own

  -- a variable as it is assigned in its file, and what it stands for by name
  pub record IsAssignment (lent : AssignmentRef) : Type 0 where
    pub file : List ℕ
    pub side : side_of configuration defined path (record { name = name_of lent; number = None }) ≡ Some (side_written configuration (overrides (number_of lent)) file lent.assignment.now.value)
    pub cooked : IsCooked (from_file file expansion) lent.assignment.now.value
    pub numbers : Each (λ x. x.number ≡ numbered assignments x.name) AnyCall (term_of lent.assignment.now.value)

  -- ---- the state between two variables

  -- what is so of the variables that are left, the frame and the values by names
  pub record IsSoFar (list : List Assigned) (own : List BoundRow) (held : List Held) : Type 0 where
    pub alike : HoldAlike assignments export own held
    pub sorted : ByNumber own
    pub known : AreKnown (constants ∷ []) overrides is_read (functions_in context) own list
    pub lent : AreLent assignments list
    pub free : AreFree own list

  free_after : (own next : List BoundRow) (row : BoundRow) (rest : List Assigned) → Rebinds own row next → AllByRecursion (λ b. b.number ≡ row.number → ⊥) rest → AreFree own rest → AreFree next rest
  free_after own next row [] rebinds apart free = tt
  free_after own next row (a ∷ rest) rebinds apart free = (
    rebinds a.number ∙ by_test (a.number == row.number) refl,
    free.1,
    free_after own next row rest rebinds apart.1 free.2,
  )
    where
      by_test : (b : Bool) → (a.number == row.number) ≡ b → cond b (Some row) (bound_in own a.number) ≡ None
      by_test true e = absurd (apart.0 ((Decides-eqb a.number row.number).0 e))
      by_test false e = free.0

  module _ (language : BindsRows constant_rows constants) (constants_sorted : ByNumber constants) (above : (lent : AssignmentRef) → Contains assignments lent → length constant_rows ≤ number_of lent) (apart : AreApart assignments export)
      (exports : (lent : AssignmentRef) → Contains assignments lent → is_exported defined (named path (name_of lent)) ≡ lent.assignment.now.export || export) (each : (lent : AssignmentRef) → Contains assignments lent → IsAssignment lent)
      (functions : (own : List BoundRow) (held : List Held) → HoldAlike assignments export own held → SameFunctions (GivesAlike context (frames_of own) configuration (scene_with held) (reading_in held)) (functions_in context) (scene_with held).functions) where
    stands : (own : List BoundRow) (held : List Held) → HoldAlike assignments export own held → ByNumber own → StandsAlike context (frames_of own) configuration (scene_with held) (reading_in held)
    stands own held alike sorted = record {
      module_is = same_module w o compilation values settled k path context h expansion defined pairs pairs_are (pairs_of defined path held);
      here = same_here w o compilation values settled k path context h expansion defined pairs pairs_are (pairs_of defined path held) constants language constants_sorted own;
      in_functions = same_in_functions w o compilation values settled k path context h expansion defined pairs pairs_are (pairs_of defined path held) constants language constants_sorted own
          (exported_same defined path assignments export apart exports own held alike sorted);
      functions = functions own held alike;
    }

    module _ (own : List BoundRow) (held : List Held) (alike : HoldAlike assignments export own held) (lent : AssignmentRef) (listed : Contains assignments lent) where
      abbrev N : ℕ → Type 0
      N = IsFound (constants ∷ []) own

      abbrev here : Frames
      here = frames_of own

      or_bound : (numbers : List ℕ) (x : Variable) → HasNumber numbers x.number ⊎ IsNumbered N x.number → HasNumber numbers x.number ⊎ IsBoundIn here x.number
      or_bound numbers x (inl i) = inl i
      or_bound numbers x (inr i) = inr (numbers_bound here x.number i)

      -- a right side that is known is one by names
      side_known : SideKnown (functions_in context) N (term_of lent.assignment.now.value) → IsSide context here configuration (scene_with held) (reading_in held) (each lent listed).file lent.assignment.now.value
      side_known s = record {
        reached = s.reached;
        bodies = record {
          body = λ name f e r. each_up (λ x. HasNumber f.parameters x.number ⊎ IsNumbered N x.number) (λ x. HasNumber f.parameters x.number ⊎ IsBoundIn here x.number)
              (λ called arguments. IsCallable (OneForEach (λ (g : DefinedFunction). s.reached g ≡ true)) (function_named called (functions_in context)) called arguments) (or_bound f.parameters) f.body (s.bodies.body name f e r);
        };
        cooked = (each lent listed).cooked;
        names = each_up (λ x. IsNumbered N x.number × (x.number ≡ numbered assignments x.name)) (λ x. IsBoundIn here x.number × GivesAlike context here configuration (scene_with held) (reading_in held) around x (unnumbered x))
            (λ called arguments. IsCallable (OneForEach (λ (g : DefinedFunction). s.reached g ≡ true)) (function_named called (functions_in context)) called arguments)
            (λ x v. (numbers_bound here x.number v.0, λ bound. gives_alike assignments export constants language above own held alike around x v.1 bound)) (term_of lent.assignment.now.value)
            (each_both (λ x. IsNumbered N x.number) (λ x. x.number ≡ numbered assignments x.name) (λ called arguments. IsCallable (OneForEach (λ (g : DefinedFunction). s.reached g ≡ true)) (function_named called (functions_in context)) called arguments) AnyCall
            (term_of lent.assignment.now.value) s.names (each lent listed).numbers);
      }

      goes_lent : ByNumber own → (overrides (number_of lent) ≡ None → SideKnown (functions_in context) N (term_of lent.assignment.now.value)) → (old new : List Entry) (r : Result Value Fault)
          → DialogueGoes (opening_reading here) (assigned_dialogue (overrides (number_of lent)) (opening_stage context here) (term_of lent.assignment.now.value)) old new r
          → GoesByName configuration defined path h.row pairs (constants ∷ []) (λ own. opening_stage context (frames_of own)) (λ own. opening_reading (frames_of own)) export overrides is_read (assigned_of lent) held old new r
      goes_lent sorted known old new r d = record {
        side = side_written configuration (overrides (number_of lent)) (each lent listed).file lent.assignment.now.value;
        is = (each lent listed).side;
        goes = variable_goes context here configuration (scene_with held) (reading_in held) (stands own held alike sorted) (overrides (number_of lent)) (each lent listed).file lent.assignment.now.value (λ none. side_known (known none)) old new r d;
      }

    abbrev Steps : Type 0
    Steps = AreSteps configuration defined path h.row pairs (constants ∷ []) (λ own. opening_stage context (frames_of own)) (λ own. opening_reading (frames_of own)) export overrides is_read IsSoFar

    abbrev ByName : Assigned → List Held → List Entry → List Entry → Result Value Fault → Type 0
    ByName = GoesByName configuration defined path h.row pairs (constants ∷ []) (λ own. opening_stage context (frames_of own)) (λ own. opening_reading (frames_of own)) export overrides is_read

    abbrev After : List Held → Assigned → Value → List Held
    After = after configuration defined path h.row pairs (constants ∷ []) (λ own. opening_stage context (frames_of own)) (λ own. opening_reading (frames_of own)) export overrides is_read

    passes : (a : Assigned) (rest : List Assigned) (own : List BoundRow) (held : List Held) → IsSoFar (a ∷ rest) own held → is_read a.number ≡ false → IsSoFar rest own held
    passes a rest own held p unread = record {
      alike = p.alike;
      sorted = p.sorted;
      known = known_passed (constants ∷ []) overrides is_read (functions_in context) own a rest unread p.known;
      lent = p.lent.1;
      free = p.free.2;
    }

    unbound : (a : Assigned) (rest : List Assigned) (own : List BoundRow) (held : List Held) → IsSoFar (a ∷ rest) own held → is_read a.number ≡ true → found_in (own ∷ constants ∷ []) a.number ≡ None
    unbound a rest own held p read =
        let l = p.lent.0 in
        let le : length constant_rows ≤ a.number = subst (λ (b : Assigned). length constant_rows ≤ b.number) (sym l.2) (above l.0 l.1) in
        ap₂ (λ first second. option_or first (option_or second None)) p.free.0 (language a.number ∙ ap (option_map (constant_binding a.number)) (beyond constant_rows a.number le))

    goes : (a : Assigned) (rest : List Assigned) (own : List BoundRow) (held : List Held) → IsSoFar (a ∷ rest) own held → is_read a.number ≡ true
        → (old new : List Entry) (r : Result Value Fault) → DialogueGoes (opening_reading (frames_of own)) (assigned_dialogue (overrides a.number) (opening_stage context (frames_of own)) a.value) old new r → ByName a held old new r
    goes a rest own held p read old new r d =
        let l = p.lent.0 in
        subst (λ (b : Assigned). (is_read b.number ≡ true → overrides b.number ≡ None → SideKnown (functions_in context) (IsFound (constants ∷ []) own) b.value) → is_read b.number ≡ true
        → DialogueGoes (opening_reading (frames_of own)) (assigned_dialogue (overrides b.number) (opening_stage context (frames_of own)) b.value) old new r → ByName b held old new r) (sym l.2)
        (λ known is. goes_lent own held p.alike l.0 l.1 p.sorted (known is) old new r) p.known.0 read d

    opens : (a : Assigned) (rest : List Assigned) (own : List BoundRow) (held : List Held) → IsSoFar (a ∷ rest) own held → is_read a.number ≡ true
        → (value : Value) (next : List BoundRow) → Rebinds own (row_of export a value) next → ByNumber next → IsSoFar rest next (After held a value)
    opens a rest own held p read value next rebinds sorted =
        let l = p.lent.0 in
        record {
          alike = subst (λ (b : Assigned). bound_in own b.number ≡ None → Rebinds own (row_of export b value) next → HoldAlike assignments export next (After held b value)) (sym l.2)
              (λ free again. one_more_held assignments export apart own held p.alike l.0 l.1 free value next again) p.free.0 rebinds;
          sorted = sorted;
          known = known_bound (constants ∷ []) overrides is_read (functions_in context) own next (row_of export a value) a rest refl rebinds p.known;
          lent = p.lent.1;
          free = free_after own next (row_of export a value) rest rebinds p.free.1 p.free.2;
        }

    steps : Steps
    steps = record { passes = passes; unbound = unbound; goes = goes; opens = opens }

    -- the module's variables in their order: what is assigned by numbers is filled by names, or refused for the same fault
    pub module_filled : {list : List Assigned} {last : List BoundRow} {old new : List Entry} {fault : Option Fault}
        → Assigns (constants ∷ []) (λ own. opening_stage context (frames_of own)) (λ own. opening_reading (frames_of own)) export overrides is_read list [] old last new fault
        → IsSoFar list [] []
        → EndByName configuration defined path h.row pairs (constants ∷ []) (λ own. opening_stage context (frames_of own)) (λ own. opening_reading (frames_of own)) export overrides is_read IsSoFar [] (read_names is_read list) last old new fault
    module_filled assigns p =
        filled configuration defined path h.row pairs (constants ∷ []) (λ own. opening_stage context (frames_of own)) (λ own. opening_reading (frames_of own)) export overrides is_read IsSoFar steps [] assigns p
