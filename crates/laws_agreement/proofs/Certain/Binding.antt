-- A call's recipe is bound to as many values as it has parameters, or its binding ends with a fault other than `internal`.
use Rattle.std.proofs.Common.{◌≡◌, ℕ, suc, ◌==◌, List, [], ◌∷◌, ◌++◌, append-nil, append_assoc, map, length, Bool, true, false, if◌then◌else◌, codes, Option, Some, None, Ok, Err, inr, refl, sym, ap, ◌∙◌, subst, arith, length-append, eq-eqb}
use Rattle.std.proofs.lemmas.List.{length-map}
use Rattle.std.specs.List.{AllByRecursion}
use Rattle.std.specs.Option.{option_map}
use Rattle.std.specs.Prelude.{slice_get}
use Rattle.tree_expressions.specs.Shape.{Shape}
use Rattle.just_host.specs.declared.job.Pair.{Pair}
use Rattle.meaning_dialogues.specs.Faults.{Fault, env_key, internal, empty_argument, value_count}
use Rattle.meaning_dialogues.specs.Dialogue.{Dialogue, Ends, Lookup, Variable}
use Rattle.meaning_dialogues.specs.Evaluation.{Value, Stage, dialogue, text_dialogue}
use Rattle.meaning_dialogues.specs.Calls.{Frame, empty, bound}
use Rattle.meaning_dialogues.specs.Terms.{Term}
use Rattle.meaning_dialogues.specs.Written.{numbered, unnumbered}
use Rattle.meaning_dialogues.proofs.Soundness.{Any}
use Rattle.meaning_evaluation.specs.Stages.Parameters.{Formal, Bound, under, bound_value, pair_of, given_dialogue, default_dialogue, parameter_dialogue, counted, values_dialogue, env_dialogue}
use Rattle.meaning_evaluation.specs.Named.{ParameterRow, RecipeRow, ModuleRow}
use Rattle.meaning_evaluation.specs.Scopes.{Configuration, Scene, may_count, parameter_names, around as around_in, standing, stage_at, term, free_term, formal_in, formals_from, formals, binding, frame_of, own_pairs, body_stage, valued}
use Rattle.meaning_evaluation.specs.Calling.{Ground, scene_of}
use Rattle.just_meaning.specs.Reading.{shapes_of, hiding, in_parameters, in_env}
use Rattle.laws_agreement.proofs.Agreement.Lists.{all_left, all_right, all_unmap}
use Rattle.laws_agreement.proofs.Agreement.Under.{IsSeen, HasBelow, below_more, below_all, sees_before}
use Rattle.laws_evaluation.proofs.Soundness.Endings.{either_proper}
use Rattle.laws_evaluation.proofs.Soundness.Terms.{text_proper}
use Rattle.laws_evaluation.proofs.Soundness.Parameters.{under_ends}
use Rattle.laws_evaluation.specs.Soundness.Endings.{GivesProperly}
use Rattle.laws_agreement.proofs.Certain.Dialogues.{EndsWell, then_well}
use Rattle.laws_agreement.proofs.Certain.Functions.{IsCertain, expression_proper}

module _ (g : Ground) (path : List (List ℕ)) (row : ModuleRow) (name : List ℕ) (recipe : RecipeRow) (flag : Bool) (Named : List ℕ → Type 0) (P : Variable → Type 0)
    (meant : (x : List ℕ) (number : Option ℕ) → Named x → P (record { name = x; number = number })) where
  abbrev c' : Configuration
  c' = g.configuration

  abbrev scene : Scene
  scene = scene_of g path row

  abbrev all : List (List ℕ)
  all = parameter_names recipe

  -- the names of an expression of the module that hides these stand for something
  abbrev pub Fine : Shape → List (List ℕ) → Type 0
  Fine e hidden = IsCertain (g.defined.functions path) Named e hidden

  -- wherever it is read
  abbrev pub Q : Lookup → Variable → Type 0
  Q place x = P x

  -- what reads the frame first ends as before
  pub under_well : {A : Type 0} (R : A → Type 0) (frame : Frame) (d : Dialogue A) → EndsWell (IsSeen frame P) R d → EndsWell Q R (under frame d)
  under_well R frame d h = under_ends (IsSeen frame P) Q (GivesProperly R) frame (λ x s. s) (λ x p. p) d h

  -- ---- expressions

  -- so ends an expression that sees the first parameters
  seen_well : (own env : List Pair) (frame : Frame) (e : Shape) (earlier more : List (List ℕ)) → all ≡ earlier ++ more → HasBelow frame (length earlier) → Fine e earlier
      → EndsWell (IsSeen frame P) Any (dialogue (stage_at c' scene name recipe flag own env) (term c' scene name recipe flag e))
  seen_well own env frame e earlier more is below h =
      let m = around_in c' scene name recipe flag in
      expression_proper c'.expansion (g.defined.functions path) Named m (standing c' scene name recipe flag [] []) P meant (standing c' scene name recipe flag own env) _ recipe.file (numbered all)
      (IsSeen frame P) e earlier (λ x p. p) (λ x p. inr p) h (sees_before frame P all earlier more is below)

  -- so ends one that sees none
  free_well : (own env : List Pair) (e : Shape) → Fine e [] → EndsWell Q Any (dialogue (stage_at c' scene name recipe flag own env) (free_term c' scene name recipe flag e))
  free_well own env e h =
      let m = around_in c' scene name recipe flag in
      expression_proper c'.expansion (g.defined.functions path) Named m (standing c' scene name recipe flag [] []) P meant (standing c' scene name recipe flag own env) _ recipe.file unnumbered Q e [] (λ x p. p) (λ x p. p) h (λ other. inr refl)

  -- as many values as the recipe has parameters
  abbrev pub FitsRow : Bound → Type 0
  FitsRow b = length b.values ≡ length recipe.parameters

  -- the frame of what a recipe is bound to has a value for each parameter
  frame_below : (b : Bound) → FitsRow b → HasBelow (frame_of c' scene name recipe flag b) (length all)
  frame_below b fits =
      let e : length (map (bound_value row.lists) b.values) ≡ length recipe.parameters = length-map b.values (bound_value row.lists) ∙ fits in
      subst (HasBelow (frame_of c' scene name recipe flag b)) (sym (length-map recipe.parameters (λ p. p.name))) (below_all recipe.parameters (map (bound_value row.lists) b.values) e)

  -- so ends an expression that sees all parameters
  pub body_seen : (b : Bound) → FitsRow b → (e : Shape) → Fine e all → EndsWell (IsSeen (frame_of c' scene name recipe flag b) P) Any (dialogue (body_stage c' scene name recipe flag b) (term c' scene name recipe flag e))
  body_seen b fits e h = seen_well (own_pairs c' scene name recipe flag b) b.env (frame_of c' scene name recipe flag b) e all [] (sym (append-nil all)) (frame_below b fits) h

  -- so it ends after the binding
  pub valued_well : (b : Bound) → FitsRow b → (e : Shape) → Fine e all → EndsWell Q Any (valued c' scene name recipe flag b e)
  valued_well b fits e h = under_well Any (frame_of c' scene name recipe flag b) _ (body_seen b fits e h)

  -- ---- pairs

  -- so end the pairs of attributes
  env_well : (so_far : List Pair) (pairs : List (Shape × Shape)) → AllByRecursion (λ e. Fine e []) (in_env pairs)
      → EndsWell Q Any (env_dialogue (stage_at c' scene name recipe flag []) so_far (map (λ pair. (free_term c' scene name recipe flag pair.0, free_term c' scene name recipe flag pair.1)) pairs))
  env_well so_far [] h = tt
  env_well so_far ((key, value) ∷ pairs) h =
      then_well Q Any Any (text_dialogue env_key (dialogue (stage_at c' scene name recipe flag [] so_far) (free_term c' scene name recipe flag key))) _
      (text_proper Q env_key (dialogue (stage_at c' scene name recipe flag [] so_far) (free_term c' scene name recipe flag key)) (free_well [] so_far key h.0))
      (λ text u. then_well Q Any Any (dialogue (stage_at c' scene name recipe flag [] so_far) (free_term c' scene name recipe flag value)) _ (free_well [] so_far value h.1.0)
      (λ given w. env_well (so_far ++ pair_of text given) pairs h.1.1))

  -- ---- values

  module _ (env : List Pair) (check : Formal → ℕ → Bool) (lists : Bool) where
    abbrev stage : Stage
    stage = stage_at c' scene name recipe flag [] env

    -- so ends the default of a parameter
    default_well : (frame : Frame) (formal : Formal) (o : Option Shape) (earlier more : List (List ℕ)) → all ≡ earlier ++ more → HasBelow frame (length earlier) → AllByRecursion (λ e. Fine e earlier) (shapes_of o)
        → EndsWell (IsSeen frame P) Any (default_dialogue stage flag name formal (option_map (term c' scene name recipe flag) o))
    default_well frame formal None earlier more is below h = either_proper formal.takes_none (Ok []) (Err (empty_argument name formal.name)) tt refl
    default_well frame formal (Some e) earlier more is below h = seen_well [] env frame e earlier more is below h.0

    -- so ends what an option stands for
    given_well : (frame : Frame) (group : Value) (o : Option Shape) (b : Bool) (earlier more : List (List ℕ)) → all ≡ earlier ++ more → HasBelow frame (length earlier) → AllByRecursion (λ e. Fine e earlier) (shapes_of o)
        → EndsWell (IsSeen frame P) Any (given_dialogue stage flag name group (option_map (term c' scene name recipe flag) o) b)
    given_well frame group None b earlier more is below h = tt
    given_well frame group (Some e) true earlier more is below h = tt
    given_well frame group (Some e) false earlier more is below h = then_well (IsSeen frame P) Any Any (dialogue stage (term c' scene name recipe flag e)) _ (seen_well [] env frame e earlier more is below h.0) (λ v u. tt)

    -- so ends the value of a parameter
    parameter_well : (frame : Frame) (n : ℕ) (p : ParameterRow) (group : Value) (earlier more : List (List ℕ)) → all ≡ earlier ++ more → HasBelow frame (length earlier)
        → AllByRecursion (λ e. Fine e earlier) (shapes_of p.default) → AllByRecursion (λ e. Fine e earlier) (shapes_of p.value)
        → EndsWell Q Any (under frame (parameter_dialogue stage flag name (formal_in c' scene name recipe flag n p) group))
    parameter_well frame n p [] earlier more is below h k = under_well Any frame _ (default_well frame (formal_in c' scene name recipe flag n p) p.default earlier more is below h)
    parameter_well frame n p (text ∷ texts) earlier more is below h k = under_well Any frame _ (given_well frame (text ∷ texts) p.value flag earlier more is below k)

    -- so ends the check of its number of elements
    checked : (formal : Formal) (given : Value) → EndsWell Q Any (Ends (counted stage flag name check formal given))
    checked formal given = either_proper (check formal (length given)) (Ok given) (Err (value_count name formal.name (length given))) tt refl

    -- so end the values of parameters, one for each
    values_well : (ps : List ParameterRow) (n : ℕ) (earlier : List (List ℕ)) (frame : Frame) (groups : List Value) → n ≡ length earlier → all ≡ earlier ++ map (λ p. p.name) ps → HasBelow frame n
        → AllByRecursion (λ e. Fine e.0 e.1) (in_parameters earlier ps) → length groups ≡ length ps → EndsWell Q (λ vs. length vs ≡ length ps) (values_dialogue stage flag name check lists frame (formals_from c' scene name recipe flag n ps) groups)
    values_well [] n earlier frame groups e is below h long = refl
    values_well (p ∷ ps) n earlier frame [] e is below h long = absurd (omega (arith, long))
    values_well (p ∷ ps) n earlier frame (group ∷ groups) e is below h long =
        let here = all_unmap (λ e. Fine e.0 e.1) (λ e. (e, earlier)) (shapes_of p.default ++ shapes_of p.value) (all_left _ (hiding earlier (shapes_of p.default ++ shapes_of p.value)) (in_parameters (earlier ++ p.name ∷ []) ps) h) in
        then_well Q Any (λ vs. length vs ≡ length (p ∷ ps)) (under frame (parameter_dialogue stage flag name (formal_in c' scene name recipe flag n p) group)) _
        (parameter_well frame n p group earlier (map (λ q. q.name) (p ∷ ps)) is (subst (HasBelow frame) e below) (all_left _ (shapes_of p.default) (shapes_of p.value) here) (all_right _ (shapes_of p.default) (shapes_of p.value) here))
        (λ given u. then_well Q Any (λ vs. length vs ≡ length (p ∷ ps)) (Ends (counted stage flag name check (formal_in c' scene name recipe flag n p) given)) _ (checked (formal_in c' scene name recipe flag n p) given)
        (λ value w. then_well Q (λ vs. length vs ≡ length ps) (λ vs. length vs ≡ length (p ∷ ps)) (values_dialogue stage flag name check lists (bound frame n (bound_value lists value)) (formals_from c' scene name recipe flag (suc n) ps) groups) _
        (values_well ps (suc n) (earlier ++ p.name ∷ []) (bound frame n (bound_value lists value)) groups (omega (arith, e, length-append earlier (p.name ∷ []))) (is ∙ sym (append_assoc earlier (p.name ∷ []) (map (λ q. q.name) ps)))
        (below_more frame n (bound_value lists value) below) (all_right _ (hiding earlier (shapes_of p.default ++ shapes_of p.value)) (in_parameters (earlier ++ p.name ∷ []) ps) h) (omega (arith, long)))
        (λ vs k. ap suc k)))

  -- ---- both

  -- one formal for each parameter
  length_formals : (ps : List ParameterRow) (n : ℕ) → length (formals_from c' scene name recipe flag n ps) ≡ length ps
  length_formals [] n = refl
  length_formals (p ∷ ps) n = ap suc (length_formals ps (suc n))

  -- so ends what is taken
  if_well : {A : Type 0} (R : A → Type 0) (b : Bool) (d : Dialogue A) (fault : Fault) → b ≡ true → EndsWell Q R d → EndsWell Q R (if b then d else Ends (Err fault))
  if_well R true d fault e h = h
  if_well R false d fault e h = absurd (cc)

  -- A binding ends so where each parameter has a group.
  pub binding_well : (groups : List Value) → length groups ≡ length recipe.parameters → AllByRecursion (λ e. Fine e.0 e.1) (in_parameters [] recipe.parameters) → AllByRecursion (λ e. Fine e []) (in_env recipe.env)
      → EndsWell Q FitsRow (binding c' scene name recipe flag groups)
  binding_well groups long h k =
      let check : Formal → ℕ → Bool = λ (formal : Formal) (n : ℕ). may_count (slice_get recipe.parameters formal.number) n in
      let fs : List Formal = formals c' scene name recipe flag in
      let pairs : List (Term × Term) = map (λ pair. (free_term c' scene name recipe flag pair.0, free_term c' scene name recipe flag pair.1)) recipe.env in
      then_well Q Any FitsRow (env_dialogue (stage_at c' scene name recipe flag []) [] pairs) _ (env_well [] recipe.env k)
      (λ env u. then_well Q (λ vs. length vs ≡ length recipe.parameters) FitsRow
      (if length groups == length fs then values_dialogue (stage_at c' scene name recipe flag [] env) flag name check row.lists empty fs groups else Ends (Err (internal (codes "arguments do not match parameter count")))) _
      (if_well (λ vs. length vs ≡ length recipe.parameters) (length groups == length fs) _ _ (eq-eqb (length groups) (length fs) (long ∙ sym (length_formals recipe.parameters 0)))
      (values_well env check row.lists recipe.parameters 0 [] empty groups refl refl (λ i lt. absurd (omega (arith, lt))) h long))
      (λ vs e. e))
