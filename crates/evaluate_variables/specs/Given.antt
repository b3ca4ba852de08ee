-- What a recipe's parameters are given.
use Rattle.std.specs.Prelude.{ℕ, zero, suc, Bool, false, List, [], ◌++◌, map, ◌≡◌, ◌||◌, ◌∷◌, ⊤, Vec, String, IfSome, Some, Result, Ok, Err}
use Rattle.std.specs.Global.{Global}
use Rattle.std.specs.String.{string_bytes}
use Rattle.just_text.specs.Tokens.{lexeme}
use Rattle.just_text.specs.declared.name.Name.{Name}
use Rattle.std.specs.List.{Contains, list_any}
use Rattle.tree_attributes.specs.declared.attribute.AttributeKind.TheVariants.{PositionalArguments}
use Rattle.tree_attributes.specs.Sets.Sets.{is_of, items_of}
use Rattle.tree_attributes.specs.declared.attribute_set.AttributeSet.{AttributeSet}
use Rattle.tree_items.specs.declared.recipe.Parameter.{Parameter}
use Rattle.tree_items.specs.declared.recipe.Recipe.{Recipe}
use Rattle.just_host.specs.declared.entry.Entry.{Entry}
use Rattle.evaluate_context.specs.Refusals.{fault_of}
use Rattle.evaluate_context.specs.declared.context.ExecutionContext.{ExecutionContext}
use Rattle.evaluate_context.specs.declared.error.Error.{Error}
use Rattle.evaluate_context.specs.declared.settings.Settings.{Settings}
use Rattle.just_host.specs.declared.job.Pair.{Pair}
use Rattle.just_value.specs.Frames.{BoundRow, ByNumber, Frames, bound_in, value_binding}
use Rattle.evaluate_expressions.specs.Situations.{running_stage}
use Rattle.meaning_dialogues.specs.Calls.{empty, reading_in_frames}
use Rattle.meaning_dialogues.specs.Dialogue.{Dialogue, Evaluates, Reading}
use Rattle.meaning_dialogues.specs.Evaluation.{Stage, Value}
use Rattle.meaning_evaluation.specs.Stages.Parameters.{Bound, Formal, bound_dialogue, formal_of, values_dialogue}
use Rattle.meaning_evaluation.specs.Parameters.Bindings.{GivesBound, GivesParameters, env_terms}
use Rattle.evaluate_variables.specs.declared.parameters.BoundParameters.{BoundParameters}
use Rattle.evaluate_variables.specs.declared.parameters.Site.{Site}

-- the value so often, one after the other
abbrev pub times_over : ℕ → Value → Value
times_over zero value = []
times_over (suc n) value = value ++ times_over n value

-- by which stage a recipe's parameters are evaluated with these pairs in these frames, and what variables give
abbrev pub stage_with : ExecutionContext → Bool → Name → List Pair → Frames → Stage
stage_with context is_dependency recipe env frames = running_stage context env frames context.scope.now is_dependency (Some recipe)

abbrev pub stage_for : Site → List Pair → Frames → Stage
stage_for site env frames = stage_with site.context.now site.is_dependency site.recipe env frames

abbrev pub reading_for : Site → Frames → Reading
reading_for site frames = reading_in_frames (λ number. false) frames site.context.now.scope.now

abbrev pub lists_of : Site → Bool
lists_of site = site.context.now.module.now.settings.now.lists

-- the values of parameters by their groups, with these pairs, from these frames on, where a test says how many elements each may have
abbrev pub values_at : Site → List Pair → (Formal → ℕ → Bool) → List Parameter → List Value → Frames → Dialogue (List Value)
values_at site env may parameters groups here = values_dialogue (stage_for site env here) site.is_dependency (lexeme site.recipe.token) may (lists_of site) empty (map formal_of parameters) groups

-- the parameters were bound in the innermost frame, and their words put in order; or the fault of one of them
abbrev pub GivenParameters : Site → List Pair → (Formal → ℕ → Bool) → List Parameter → List Value → Frames → List Entry → List Entry → Frames → Result (Vec (String Global) Global) Error → Type 0
GivenParameters site env may parameters groups here old new after (Ok words) =
    GivesParameters (reading_for site here) (values_at site env may parameters groups here) old new site.passes_words (lists_of site) (map formal_of parameters) after.own (map string_bytes words.items)
GivenParameters site env may parameters groups here old new after (Err error) = Evaluates (reading_for site here) (values_at site env may parameters groups here) old new (Err (fault_of error))

-- a test of parameters is one of what evaluation sees of them
abbrev pub AreCounted : (Parameter → ℕ → Bool) → (Formal → ℕ → Bool) → List Parameter → Type 0
AreCounted may counts [] = ⊤
AreCounted may counts (p ∷ ps) = ((n : ℕ) → may p n ≡ counts (formal_of p) n) × AreCounted may counts ps

-- whether the commands of a recipe with these attributes get the parameters' values as words
abbrev pub passes_in : Settings → AttributeSet → Bool
passes_in settings attributes = settings.positional_arguments || list_any (is_of PositionalArguments) (items_of attributes)

-- what a recipe is bound to by the groups of its parameters, from these frames on
abbrev pub bound_at : {D : Type 0} → ExecutionContext → Bool → Recipe D → (Formal → ℕ → Bool) → List Value → Frames → Dialogue Bound
bound_at context is_dependency recipe counts groups here =
    bound_dialogue (λ pairs. stage_with context is_dependency recipe.name pairs here) counts context.module.now.settings.now.lists is_dependency (lexeme recipe.name.token) (env_terms (items_of recipe.attributes)) (map formal_of recipe.parameters.items) groups

-- the recipe's parameters were bound in the innermost frame, and their words and the pairs put in order; or a fault
abbrev pub BoundRecipe : {D : Type 0} → ExecutionContext → Bool → Recipe D → (Formal → ℕ → Bool) → List Value → Frames → List Entry → List Entry → Frames → Result BoundParameters Error → Type 0
BoundRecipe context is_dependency recipe counts groups here old new after (Ok given) =
    GivesBound (reading_in_frames (λ number. false) here context.scope.now) (bound_at context is_dependency recipe counts groups here) old new (passes_in context.module.now.settings.now recipe.attributes) context.module.now.settings.now.lists (map formal_of recipe.parameters.items) after.own (map string_bytes given.positional.items) given.env.items
BoundRecipe context is_dependency recipe counts groups here old new after (Err error) = Evaluates (reading_in_frames (λ number. false) here context.scope.now) (bound_at context is_dependency recipe counts groups here) old new (Err (fault_of error))

-- a binding is that of one of these parameters: it has the parameter's name, number and export
abbrev pub IsRowOf : List Parameter → BoundRow → Type 0
IsRowOf parameters row = (p : Parameter) × Contains parameters p × (row ≡ value_binding p.name p.number p.export row.value)

-- what a number is bound to in the frame is a binding of one of these parameters, and the bindings lie by their numbers
pub record HasRowsOf (parameters : List Parameter) (own : List BoundRow) : Type 0 where
  pub at : (number : ℕ) → IfSome (bound_in own number) (IsRowOf parameters)
  pub sorted : ByNumber own
