-- No binding of a recipe's parameters ends with `internal` where each parameter has a group.
use Rattle.std.proofs.Common.{◌≡◌, ℕ, suc, List, [], ◌∷◌, ◌++◌, length, Bool, true, false, Option, Some, None, Result, Ok, Err, ◌⊎◌, inl, inr, ⊎_elim, refl, ap, eq-eqb, arith}
use Rattle.std.proofs.lemmas.Bool.{cases_eq}
use Rattle.std.proofs.lemmas.Bool.Decides.{nat_tests}
use Rattle.std.specs.Prelude.{IsSome}
use Rattle.std.specs.List.{AllByRecursion}
use Rattle.just_host.specs.declared.entry.Entry.{Entry}
use Rattle.just_host.specs.declared.job.Pair.{Pair}
use Rattle.just_value.specs.Frames.{Frames}
use Rattle.evaluate_context.specs.Surroundings.{Surroundings, Standing}
use Rattle.meaning_dialogues.specs.Faults.{Fault, env_key, empty_argument, value_count}
use Rattle.meaning_dialogues.specs.Dialogue.{Dialogue, Ends, Asks, Reads, Evaluates, Lookup, around, in_module, Variable}
use Rattle.meaning_dialogues.specs.Evaluation.{Value, Stage, dialogue, text_dialogue}
use Rattle.meaning_dialogues.specs.Terms.{Term}
use Rattle.meaning_dialogues.specs.Calls.{DefinedFunction, Frame, empty, bound, with_parameters, in_frame, reading_in_frames}
use Rattle.meaning_evaluation.specs.Stages.Parameters.{Formal, Bound, or_around, under, pair_of, bound_value, default_dialogue, given_dialogue, parameter_dialogue, counted, values_dialogue, env_dialogue, bound_dialogue}
use Rattle.meaning_evaluation.specs.Stages.Stages.{run_stage, calls_left}
use Rattle.meaning_evaluation.proofs.Stages.Depth.{IsIn, HasNumber, has_value}
use Rattle.laws_evaluation.specs.Soundness.Endings.{GivesProperly, NotInternal, ReadsAndEnds, Proper, NeverInternal, AnyVariable}
use Rattle.laws_evaluation.specs.Soundness.Known.{IsBoundIn, IsBoundAt, CallsKnown, NamesKnown, BodiesCallKnown, BodiesKnown, FormalKnown, FormalsKnown, PairKnown, RecipeKnown}
use Rattle.laws_evaluation.proofs.Soundness.Endings.{then_ends, then_proper, either_proper, wider, weaker_ends, any_value}
use Rattle.laws_evaluation.proofs.Soundness.Terms.{text_proper}
use Rattle.laws_evaluation.proofs.Soundness.Calls.{run_never_internal}
use Rattle.laws_evaluation.proofs.Soundness.Frames.{names_read, evaluates_in_frames}

around_read : {A : Type 0} (W : Lookup → Variable → Type 0) (P : Result A Fault → Type 0) (frame : Frame) (x : Variable) (next : Value → Dialogue A) (o : Option Value) → IsSome o ⊎ W around x
    → ((v : Value) → ReadsAndEnds W P (under frame (next v))) → ReadsAndEnds W P (or_around o (λ v. under frame (next v)) x)
around_read W P frame x next (Some v) h go = go v
around_read W P frame x next None h go = (⊎_elim (λ s. absurd (cc)) (λ p. p) h, go)

-- what reads a frame first reads around it what the frame hasn't, and ends as before
pub under_ends : {A : Type 0} (V W : Lookup → Variable → Type 0) (P : Result A Fault → Type 0) (frame : Frame) → ((x : Variable) → V around x → IsSome (in_frame frame x.number) ⊎ W around x)
    → ((x : Variable) → V in_module x → W in_module x) → (t : Dialogue A) → ReadsAndEnds V P t → ReadsAndEnds W P (under frame t)
under_ends V W P frame up over (Ends end) h = h
under_ends V W P frame up over (Asks q next) h = λ answer. under_ends V W P frame up over (next answer) (h answer)
under_ends V W P frame up over (Reads around x next) h =
    around_read W P frame x next (in_frame frame x.number) (up x h.0) (λ v. under_ends V W P frame up over (next v) (h.1 v))
under_ends V W P frame up over (Reads in_module x next) h = (over x h.0, λ value. under_ends V W P frame up over (next value) (h.1 value))

-- these numbers are bound in the frame
abbrev pub Binds : List ℕ → Frame → Type 0
Binds numbers frame = (n : ℕ) → IsIn n numbers → IsSome (frame n)

binds_none : Binds [] empty
binds_none n h = absurd h

binds_more : (numbers : List ℕ) (frame : Frame) (m : ℕ) (v : Value) → Binds numbers frame → Binds (m ∷ numbers) (bound frame m v)
binds_more numbers frame m v h n i =
    let here : n ≡ m → IsSome (bound frame m v n) = λ e. let b : bound frame m v n ≡ Some v = rw (eq-eqb n m e) refl in rw b refl in
    ⊎_elim here (λ k. ⊎_elim here (λ ne. let b : bound frame m v n ≡ frame n = grind (arith, nat_tests) in rw b (h n k)) (cases_eq n m)) i

has_number : (numbers : List ℕ) (frame : Frame) (number : Option ℕ) → Binds numbers frame → HasNumber numbers number → IsSome (in_frame frame number)
has_number numbers frame None binds h = absurd h
has_number numbers frame (Some n) binds h = binds n h

-- where an expression stands it is one of these numbers, or may be read around them
abbrev pub Among : List ℕ → (Lookup → Variable → Type 0) → Lookup → Variable → Type 0
Among numbers W around x = HasNumber numbers x.number ⊎ W around x
Among numbers W in_module x = W in_module x

no_number : (number : Option ℕ) → ¬ HasNumber [] number
no_number None h = h
no_number (Some n) h = h

among_none : (W : Lookup → Variable → Type 0) (place : Lookup) (x : Variable) → Among [] W place x → W place x
among_none W around x h = ⊎_elim (λ i. absurd (no_number x.number i)) (λ w. w) h
among_none W in_module x h = h

among_any : (numbers : List ℕ) (place : Lookup) (x : Variable) → AnyVariable place x → Among numbers AnyVariable place x
among_any numbers around x h = inr tt
among_any numbers in_module x h = tt

-- the parameters of a recipe are bound in the frame of their values
pub parameters_bind : (numbers : List ℕ) (values : List Value) → length values ≡ length numbers → Binds numbers (with_parameters empty numbers values)
parameters_bind numbers values e n i = has_value numbers values (Some n) e i

module _ (W : Lookup → Variable → Type 0) where
  -- under a frame that binds these numbers the others alone are read around it
  pub under_proper : {A : Type 0} (P : Result A Fault → Type 0) (numbers : List ℕ) (frame : Frame) → Binds numbers frame → (t : Dialogue A) → ReadsAndEnds (Among numbers W) P t → ReadsAndEnds W P (under frame t)
  under_proper P numbers frame binds t h = under_ends (Among numbers W) W P frame (λ x a. ⊎_elim (λ i. inl (has_number numbers frame x.number binds i)) (λ w. inr w) a) (λ x w. w) t h

  module _ (stage : Stage) (is_dependency : Bool) (recipe : List ℕ) where
    module _ (V : Lookup → Variable → Type 0) (K : Term → Type 0) (proper : (t : Term) → K t → Proper V (dialogue stage t)) where
      default_proper : (formal : Formal) (o : Option Term) → ((e : Term) → o ≡ Some e → K e) → Proper V (default_dialogue stage is_dependency recipe formal o)
      default_proper formal (Some e) h = proper e (h e refl)
      default_proper formal None h = either_proper formal.takes_none (Ok []) (Err (empty_argument recipe formal.name)) tt refl

      given_proper : (group : Value) (o : Option Term) (flag : Bool) → ((e : Term) → o ≡ Some e → K e) → Proper V (given_dialogue stage is_dependency recipe group o flag)
      given_proper group (Some e) false h = then_proper V (dialogue stage e) _ (proper e (h e refl)) (λ value. tt)
      given_proper group (Some e) true h = tt
      given_proper group None flag h = tt

      -- the value of a parameter never ends with `internal` where its default and what its option stands for don't
      pub parameter_proper : (formal : Formal) (group : Value) → FormalKnown K formal → Proper V (parameter_dialogue stage is_dependency recipe formal group)
      parameter_proper formal [] h = default_proper formal formal.default h.default
      parameter_proper formal (t ∷ ts) h = given_proper (t ∷ ts) formal.value is_dependency h.value

    counted_proper : (check : Formal → ℕ → Bool) (formal : Formal) (value : Value) → NotInternal (counted stage is_dependency recipe check formal value)
    counted_proper check formal value = either_proper (check formal (length value)) (Ok value) (Err (value_count recipe formal.name (length value))) tt refl

    module _ (K : List ℕ → Term → Type 0) (proper : (numbers : List ℕ) (t : Term) → K numbers t → Proper (Among numbers W) (dialogue stage t)) (check : Formal → ℕ → Bool) (lists : Bool) where
      -- the values of parameters are one for each, or end with a fault other than `internal`, where each parameter has a group, and its terms don't end so, which may read the parameters before it
      pub values_proper : (numbers : List ℕ) (frame : Frame) → Binds numbers frame → (formals : List Formal) (groups : List Value) → FormalsKnown K numbers formals → length groups ≡ length formals
          → ReadsAndEnds W (GivesProperly (λ values. length values ≡ length formals)) (values_dialogue stage is_dependency recipe check lists frame formals groups)
      values_proper numbers frame binds [] groups h e = refl
      values_proper numbers frame binds (formal ∷ formals) [] h e = absurd (omega arith)
      values_proper numbers frame binds (formal ∷ formals) (group ∷ groups) h e =
          then_ends W NotInternal _ (under frame (parameter_dialogue stage is_dependency recipe formal group)) _ (λ fault k. k)
          (under_proper NotInternal numbers frame binds (parameter_dialogue stage is_dependency recipe formal group) (parameter_proper (Among numbers W) (K numbers) (proper numbers) formal group h.0))
          (λ given _. then_ends W NotInternal _ (Ends (counted stage is_dependency recipe check formal given)) _ (λ fault k. k) (counted_proper check formal given)
          (λ value _. then_ends W (GivesProperly (λ values. length values ≡ length formals)) _ (values_dialogue stage is_dependency recipe check lists (bound frame formal.number (bound_value lists value)) formals groups) _ (λ fault k. k)
          (values_proper (formal.number ∷ numbers) (bound frame formal.number (bound_value lists value)) (binds_more numbers frame formal.number (bound_value lists value) binds) formals groups h.1 (omega (arith, e)))
          (λ values k. ap suc k)))

  module _ (stage_with : List Pair → Stage) (K : Term → Type 0) (proper : (env : List Pair) (t : Term) → K t → Proper W (dialogue (stage_with env) t)) where
    -- pairs of attributes never end with `internal` where their terms don't
    pub env_proper : (so_far : List Pair) (attributes : List (Term × Term)) → AllByRecursion (PairKnown K) attributes → Proper W (env_dialogue stage_with so_far attributes)
    env_proper so_far [] h = tt
    env_proper so_far ((key, value) ∷ others) h =
        then_proper W (text_dialogue env_key (dialogue (stage_with so_far) key)) _ (text_proper W env_key (dialogue (stage_with so_far) key) (proper so_far key h.0.0))
        (λ name. then_proper W (dialogue (stage_with so_far) value) _ (proper so_far value h.0.1) (λ given. env_proper (so_far ++ pair_of name given) others h.1))

module _ (W : Lookup → Variable → Type 0) (stage_with : List Pair → Stage) (K : List ℕ → Term → Type 0) (proper : (env : List Pair) (numbers : List ℕ) (t : Term) → K numbers t → Proper (Among numbers W) (dialogue (stage_with env) t)) where
  -- the binding of a recipe gives a value for each parameter, or a fault other than `internal`, where its terms don't end so and each parameter has a group
  pub bound_proper : (check : Formal → ℕ → Bool) (lists is_dependency : Bool) (recipe : List ℕ) (attributes : List (Term × Term)) (formals : List Formal) (groups : List Value) → RecipeKnown K attributes formals groups
      → ReadsAndEnds W (GivesProperly (λ bound. length bound.values ≡ length formals)) (bound_dialogue stage_with check lists is_dependency recipe attributes formals groups)
  bound_proper check lists is_dependency recipe attributes formals groups known =
      then_ends W NotInternal _ (env_dialogue stage_with [] attributes) _ (λ fault k. k)
      (env_proper W stage_with (K []) (λ env t h. wider (Among [] W) W NotInternal (among_none W) (dialogue (stage_with env) t) (proper env [] t h)) [] attributes known.env)
      (λ env _. rw (eq-eqb (length groups) (length formals) known.count)
      (then_ends W (GivesProperly (λ values. length values ≡ length formals)) _ (values_dialogue (stage_with env) is_dependency recipe check lists empty formals groups) _ (λ fault k. k)
      (values_proper W (stage_with env) is_dependency recipe K (proper env) check lists [] empty binds_none formals groups known.parameters known.count) (λ values k. k)))

module _ (m : Surroundings) (functions : List DefinedFunction) (in_body : Standing) (standing : List Pair → Standing) (n : ℕ)
    (check : Formal → ℕ → Bool) (lists is_dependency : Bool) (recipe : List ℕ) (attributes : List (Term × Term)) (formals : List Formal) (groups : List Value) where
  abbrev binding : Dialogue Bound
  binding = bound_dialogue (λ env. run_stage m functions (standing env) (calls_left m functions in_body n)) check lists is_dependency recipe attributes formals groups

  -- one for each parameter
  abbrev pub Counted : Bound → Type 0
  Counted bound = length bound.values ≡ length formals

  -- the binding of a recipe with known calls never ends with `internal` in a run, whatever it reads, where each parameter has a group
  pub bound_never_internal : BodiesCallKnown functions → RecipeKnown (λ numbers. CallsKnown functions) attributes formals groups → NeverInternal binding
  bound_never_internal bodies known =
      weaker_ends AnyVariable (GivesProperly Counted) NotInternal (any_value Counted) binding
      (bound_proper AnyVariable _ (λ numbers. CallsKnown functions)
      (λ env numbers t h. wider AnyVariable (Among numbers AnyVariable) NotInternal (among_any numbers) _ (run_never_internal m functions in_body (standing env) n bodies t h)) check lists is_dependency recipe attributes formals groups known)

  module _ (reached : DefinedFunction → Type 0) (here there : Frames) (bodies : BodiesKnown functions reached (λ x. IsBoundIn there x.number))
      (known : RecipeKnown (λ numbers. NamesKnown functions reached (λ x. HasNumber numbers x.number ⊎ IsBoundIn here x.number)) attributes formals groups) where
    -- it reads bound variables alone where each variable in its terms is that of a parameter before it, or bound where the recipe stands
    pub bound_names_proper : ReadsAndEnds (IsBoundAt here there) (GivesProperly Counted) binding
    bound_names_proper =
        bound_proper (IsBoundAt here there) _ (λ numbers. NamesKnown functions reached (λ x. HasNumber numbers x.number ⊎ IsBoundIn here x.number))
        (λ env numbers t h. names_read m functions reached in_body (standing env) n (λ x. IsBoundIn there x.number) bodies (Among numbers (IsBoundAt here there)) _ (λ x p. p) (λ x p. p) t h) check lists is_dependency recipe attributes formals groups known

    -- the evaluation of a recipe's binding gives a value for each parameter, or a fault other than `internal`, where its names are known in the frames and each parameter has a group
    pub bound_in_frames : (excluded : ℕ → Bool) (old new : List Entry) (r : Result Bound Fault) → Evaluates (reading_in_frames excluded here there) binding old new r → GivesProperly Counted r
    bound_in_frames excluded old new r g = evaluates_in_frames Counted excluded here there binding old new r bound_names_proper g
