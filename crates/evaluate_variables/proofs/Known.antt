-- No evaluation of variables, constants and parameters ends with `internal` where names are known.
use Rattle.std.proofs.Common.{◌≡◌, ◌≢◌, ℕ, Bool, true, false, List, [], ◌∷◌, ◌-◌, if◌then◌else◌, map, Option, Some, None, Result, Ok, Err, IfErr, ◌⊎◌, inl, inr, ⊎_elim, refl, sym, ◌∙◌, ap}
use Rattle.std.specs.Prelude.{IsSome, String}
use Rattle.std.specs.BTreeMap.{BTreeMap}
use Rattle.std.specs.Option.{option_map, option_or}
use Rattle.just_text.specs.Tokens.{lexeme}
use Rattle.tree_attributes.specs.Sets.Sets.{items_of}
use Rattle.tree_items.specs.declared.recipe.Recipe.{Recipe}
use Rattle.just_host.specs.declared.entry.Entry.{Entry}
use Rattle.just_host.specs.declared.job.Pair.{Pair}
use Rattle.just_value.specs.Frames.{BoundRow, Frames, found_in}
use Rattle.evaluate_context.specs.Refusals.{fault_of}
use Rattle.evaluate_context.specs.Surroundings.{Standing, surroundings_of, standing_in}
use Rattle.evaluate_context.specs.declared.context.ExecutionContext.{ExecutionContext}
use Rattle.evaluate_context.specs.declared.error.Error.{Error}
use Rattle.evaluate_expressions.specs.Situations.{functions_in, around_body}
use Rattle.meaning_dialogues.specs.Evaluation.{Value}
use Rattle.meaning_dialogues.specs.Faults.{Fault, memory, not_constant, a_variable}
use Rattle.meaning_evaluation.specs.Stages.Assigned.{Assigned}
use Rattle.meaning_evaluation.specs.Stages.Parameters.{Formal, formal_of}
use Rattle.meaning_evaluation.specs.Parameters.Bindings.{env_terms}
use Rattle.meaning_dialogues.specs.Internal.{is_internal}
use Rattle.laws_evaluation.specs.Soundness.Opening.{IsNumbered, ReadsProperly}
use Rattle.laws_evaluation.proofs.Soundness.Constants.{constants_proper}
use Rattle.laws_evaluation.proofs.Soundness.Opening.{opening_proper}
use Rattle.laws_evaluation.proofs.Soundness.Parameters.{bound_in_frames}
use Rattle.evaluate_variables.specs.Given.{BoundRecipe}
use Rattle.evaluate_variables.specs.Known.{IsProper, VariablesKnown, ConstantsKnown, ParametersKnown, IsFound}
use Rattle.evaluate_variables.specs.Opened.{OpensFrame, framed, overridden, ordered}
use Rattle.evaluate_variables.specs.declared.const_evaluator.ConstEvaluator.{ConstEvaluator}
use Rattle.evaluate_variables.specs.declared.parameters.BoundParameters.{BoundParameters}
use Rattle.evaluate_variables.specs.Settled.{FindsConstants, const_reading, found_value, read_constant}

-- what is `internal` is no want of memory
other_than_memory : (fault : Fault) (b : Bool) → is_internal fault ≡ b → (fault ≢ memory → is_internal fault ≡ false) → is_internal fault ≡ false
other_than_memory fault false e h = e
other_than_memory fault true e h = h (λ m. let f : fault ≡ memory = m in let i : is_internal fault ≡ false = rw f refl in absurd (cc))

-- a frame in which nothing is bound
abbrev frame_with : ExecutionContext → List BoundRow → Frames
frame_with context own = framed (context.scope.now.own ∷ context.scope.now.outer) own

variables_known : (context : ExecutionContext) (is_read : ℕ → Bool) (old new : List Entry) (error : Error) → OpensFrame context is_read old new (Err error) → VariablesKnown context is_read → IsProper error
variables_known context is_read old new error opens known =
    other_than_memory (fault_of error) (is_internal (fault_of error)) refl
    (λ other. opening_proper (surroundings_of context) (functions_in context) (λ own. standing_in context [] (frame_with context own) false None) (λ own. standing_in context [] (around_body (frame_with context own)) false None)
    (context.config.now.recursion_limit - 1) (context.scope.now.own ∷ context.scope.now.outer) context.module.now.settings.now.export (overridden context.overrides.now) is_read (IsFound context.scope.now) (λ number found. found) known ((opens other).opens))

constant_read : (b : Bool) (o : Option Value) (p : Option BoundRow) (name : List ℕ) (fault : Fault) → (b ≡ true) ⊎ (IsSome o ⊎ IsSome p)
    → (if b then Err (not_constant (a_variable name)) else found_value name (option_or o (option_map (λ binding. binding.value) p))) ≡ Err fault → is_internal fault ≡ false
constant_read true o p name fault h e = let f : not_constant (a_variable name) ≡ fault = cc in rw (← f) refl
constant_read false (Some value) p name fault h e = absurd (cc)
constant_read false None (Some binding) name fault h e = absurd (cc)
constant_read false None None name fault h e = absurd (⊎_elim (λ t. cc) (λ s. ⊎_elim (λ a. cc) (λ b. cc) s) h)

number_read : (outer : List (List BoundRow)) (frame : ℕ → Option Value) (excluded : ℕ → Bool) (name : List ℕ) (number : Option ℕ) → IsNumbered (λ n. (excluded n ≡ true) ⊎ (IsSome (frame n) ⊎ IsSome (found_in outer n))) number
    → (fault : Fault) → read_constant outer frame excluded name number ≡ Err fault → is_internal fault ≡ false
number_read outer frame excluded name None h fault e = absurd h
number_read outer frame excluded name (Some n) h fault e = constant_read (excluded n) (frame n) (found_in outer n) name fault h e

constants_read : (outer : List (List BoundRow)) → ReadsProperly (const_reading outer) (λ number. IsSome (found_in outer number))
constants_read outer = record { at = λ frame excluded place x h fault e. number_read outer frame excluded x.name x.number h fault e }

constants_known : {A : Type 0} (lists : Bool) (scope : Frames) (overrides : BTreeMap ℕ (String A)) (is_read : ℕ → Bool) (variables : List Assigned) (error : Error)
    → FindsConstants lists scope overrides is_read variables (Err error) → ConstantsKnown scope overrides is_read variables → IsProper error
constants_known lists scope overrides is_read variables error finds known =
    other_than_memory (fault_of error) (is_internal (fault_of error)) refl
    (λ other. constants_proper lists (const_reading (scope.own ∷ scope.outer)) (overridden overrides) is_read (IsFound scope) (constants_read (scope.own ∷ scope.outer)) (IsFound scope) (λ number found. inr (inr found)) known ((finds other).settles))

parameters_known : {D : Type 0} (context : ExecutionContext) (is_dependency : Bool) (recipe : Recipe D) (counts : Formal → ℕ → Bool) (groups : List Value) (here : Frames) (old new : List Entry) (after : Frames) (error : Error)
    → BoundRecipe context is_dependency recipe counts groups here old new after (Err error) → ParametersKnown context recipe groups here → IsProper error
parameters_known context is_dependency recipe counts groups here old new after error bound known =
    bound_in_frames (surroundings_of context) (functions_in context) (standing_in context [] (around_body context.scope.now) is_dependency (Some recipe.name)) (λ env. standing_in context env here is_dependency (Some recipe.name))
    (context.config.now.recursion_limit - 1) counts context.module.now.settings.now.lists is_dependency (lexeme recipe.name.token) (env_terms (items_of recipe.attributes)) (map formal_of recipe.parameters.items) groups
    (λ f. known.reached f ≡ true) here context.scope.now known.bodies known.names (λ number. false) old new (Err (fault_of error)) bound

pub frames_known : (context : ExecutionContext) (is_read : ℕ → Bool) (old new : List Entry) (result : Result Frames Error) → OpensFrame context is_read old new result → VariablesKnown context is_read → IfErr result IsProper
frames_known context is_read old new (Ok frames) opens known = tt
frames_known context is_read old new (Err error) opens known = variables_known context is_read old new error opens known

pub evaluator_known : {A : Type 0} (lists : Bool) (scope : Frames) (overrides : BTreeMap ℕ (String A)) (is_read : ℕ → Bool) (variables : List Assigned) (result : Result ConstEvaluator Error)
    → FindsConstants lists scope overrides is_read variables result → ConstantsKnown scope overrides is_read variables → IfErr result IsProper
evaluator_known lists scope overrides is_read variables (Ok constants) finds known = tt
evaluator_known lists scope overrides is_read variables (Err error) finds known = constants_known lists scope overrides is_read variables error finds known

pub recipe_known : {D : Type 0} (context : ExecutionContext) (is_dependency : Bool) (recipe : Recipe D) (counts : Formal → ℕ → Bool) (groups : List Value) (here : Frames) (old new : List Entry) (after : Frames) (result : Result BoundParameters Error)
    → BoundRecipe context is_dependency recipe counts groups here old new after result → ParametersKnown context recipe groups here → IfErr result IsProper
recipe_known context is_dependency recipe counts groups here old new after (Ok given) bound known = tt
recipe_known context is_dependency recipe counts groups here old new after (Err error) bound known = parameters_known context is_dependency recipe counts groups here old new after error bound known
