-- Names that are known where variables, constants and parameters are evaluated.
use Rattle.std.specs.Prelude.{◌≡◌, ◌⊎◌, ℕ, Bool, true, false, List, ◌∷◌, IsSome, map, String}
use Rattle.std.specs.BTreeMap.{BTreeMap}
use Rattle.just_value.specs.Frames.{Frames, found_in}
use Rattle.tree_attributes.specs.Sets.Sets.{items_of}
use Rattle.tree_items.specs.declared.recipe.Recipe.{Recipe}
use Rattle.evaluate_context.specs.Refusals.{fault_of}
use Rattle.evaluate_context.specs.declared.context.ExecutionContext.{ExecutionContext}
use Rattle.evaluate_context.specs.declared.error.Error.{Error}
use Rattle.evaluate_expressions.specs.Situations.{functions_in}
use Rattle.meaning_dialogues.specs.Calls.{DefinedFunction}
use Rattle.meaning_dialogues.specs.Evaluation.{Value}
use Rattle.meaning_evaluation.specs.Stages.Assigned.{Assigned}
use Rattle.meaning_evaluation.specs.Stages.Parameters.{formal_of}
use Rattle.meaning_evaluation.proofs.Stages.Depth.{HasNumber}
use Rattle.meaning_evaluation.specs.Parameters.Bindings.{env_terms}
use Rattle.meaning_dialogues.specs.Internal.{is_internal}
use Rattle.laws_evaluation.specs.Soundness.Known.{IsBoundIn, NamesKnown, BodiesKnown, RecipeKnown}
use Rattle.laws_evaluation.specs.Soundness.Opening.{SideKnown, ConstantKnown, InOrder}
use Rattle.evaluate_variables.specs.Opened.{ordered, overridden}

-- a refusal other than `internal`
abbrev pub IsProper : Error → Type 0
IsProper error = is_internal (fault_of error) ≡ false

-- the numbers that are bound in a frame and those around it
abbrev pub IsFound : Frames → ℕ → Type 0
IsFound frames number = IsSome (found_in (frames.own ∷ frames.outer) number)

-- each variable of the module that is read names what is bound around, or variables before it
abbrev pub VariablesKnown : ExecutionContext → (ℕ → Bool) → Type 0
VariablesKnown context is_read = InOrder (overridden context.overrides.now) is_read (SideKnown (functions_in context)) (IsFound context.scope.now) (ordered context.module.now.assignments.now context.module.now.evaluation_order.now)

-- the same of constants
abbrev pub ConstantsKnown : {A : Type 0} → Frames → BTreeMap ℕ (String A) → (ℕ → Bool) → List Assigned → Type 0
ConstantsKnown scope overrides is_read variables = InOrder (overridden overrides) is_read ConstantKnown (IsFound scope) variables

-- each parameter of the recipe has a group, and what `env` attributes and parameters name is known: parameters before them, what is bound around, and functions of the module, whose bodies name what is bound there
pub record ParametersKnown {D : Type 0} (context : ExecutionContext) (recipe : Recipe D) (groups : List Value) (here : Frames) : Type 0 where
  pub reached : DefinedFunction → Bool
  pub bodies : BodiesKnown (functions_in context) (λ f. reached f ≡ true) (λ x. IsBoundIn context.scope.now x.number)
  pub names : RecipeKnown (λ numbers. NamesKnown (functions_in context) (λ f. reached f ≡ true) (λ x. HasNumber numbers x.number ⊎ IsBoundIn here x.number)) (env_terms (items_of recipe.attributes)) (map formal_of recipe.parameters.items) groups
