-- An evaluator of a run, which knows variables by number, is that of a recipe's body by name.
use Rattle.std.specs.Prelude.{◌≡◌, ℕ, Bool, true, false, List, [], Option, Some, None, Result, Ok}
use Rattle.std.specs.List.{AllByRecursion}
use Rattle.just_text.specs.declared.name.Name.{Name}
use Rattle.just_host.specs.declared.job.Pair.{Pair}
use Rattle.just_value.specs.Frames.{Frames}
use Rattle.tree_expressions.specs.declared.expression.Expression.{Expression}
use Rattle.tree_items.specs.declared.line.Fragment.{Fragment}
use Rattle.tree_items.specs.declared.line.Fragment.TheVariants.{Interpolation, Text}
use Rattle.parse_expressions.specs.Literals.{IsCooked, from_file}
use Rattle.evaluate_context.specs.Surroundings.{standing_in, surroundings_of}
use Rattle.evaluate_context.specs.declared.context.ExecutionContext.{ExecutionContext}
use Rattle.evaluate_expressions.specs.Situations.{around_body, functions_in, reading_at, running_stage, stage_at}
use Rattle.evaluate_expressions.specs.declared.evaluator.Evaluator.{Evaluator}
use Rattle.meaning_dialogues.specs.Calls.{DefinedFunction, Frame, in_frame, reading_in_frames}
use Rattle.meaning_dialogues.specs.Dialogue.{Lookup, Reading, Variable, around, in_module}
use Rattle.meaning_dialogues.specs.Evaluation.{Value}
use Rattle.meaning_dialogues.specs.Faults.{Fault}
use Rattle.meaning_dialogues.specs.Terms.{term_of}
use Rattle.meaning_dialogues.specs.Written.{numbered}
use Rattle.meaning_evaluation.specs.Scopes.{around as around_recipe, body_standing, frame_of, parameter_names, standing}
use Rattle.laws_evaluation.proofs.Opening.Names.{SameFunctions}
use Rattle.laws_evaluation.specs.Soundness.Known.{BodiesKnown, IsBoundIn, NamesKnown}
use Rattle.justfile_evaluator.specs.Bodies.{NamedBody}
use Rattle.laws_runs.specs.ByName.Places.{SameModule, SamePlace}

-- where a run evaluates: in which context and with which pairs of attributes, in which frames, and in which ones of the module; and which functions its names may reach
pub record RunPlace : Type 0 where
  pub context : ExecutionContext
  pub env : List Pair
  pub here : Frames
  pub there : Frames
  pub is_dependency : Bool
  pub recipe : Option Name
  pub reached : DefinedFunction → Bool

-- what the frame holds, or else what is read otherwise
abbrev pub or_else : Option Value → Result Value Fault → Result Value Fault
or_else (Some value) other = Ok value
or_else None other = other

-- a reading that looks into a frame first, but not for the body of a function
abbrev pub reading_under : Frame → Reading → Reading
reading_under frame reading around variable = or_else (in_frame frame variable.number) (reading around variable)
reading_under frame reading in_module variable = reading in_module variable

module _ (b : NamedBody) (p : RunPlace) where
  -- what variables give by number, and by name: the parameters' values first
  abbrev pub by_number : Reading
  by_number = reading_in_frames (λ number. false) p.here p.there

  abbrev pub in_body : Reading
  in_body = reading_under (frame_of b.configuration b.scene b.name b.recipe b.flag b.bound) b.reading

  -- parameters are numbered in their order, and other names have no number
  abbrev pub number_of : List ℕ → Option ℕ
  number_of = numbered (parameter_names b.recipe)

  -- A variable by number gives what the other gives by name; in the body of a function one that is bound in the module does.
  abbrev pub GivesAlike : Lookup → Variable → Variable → Type 0
  GivesAlike around x y = by_number around x ≡ in_body around y
  GivesAlike in_module x y = IsBoundIn p.there x.number → by_number in_module x ≡ in_body in_module y

  -- the module around it is the same, and so are the place and that of the bodies of functions
  pub record HasPlace : Type 0 where
    pub module_is : SameModule (surroundings_of p.context) (around_recipe b.configuration b.scene b.name b.recipe b.flag)
    pub here : SamePlace (surroundings_of p.context) (around_recipe b.configuration b.scene b.name b.recipe b.flag) (standing_in p.context p.env p.here p.is_dependency p.recipe) (body_standing b.configuration b.scene b.name b.recipe b.flag b.bound)
    pub in_functions : SamePlace (surroundings_of p.context) (around_recipe b.configuration b.scene b.name b.recipe b.flag) (standing_in p.context [] (around_body p.there) p.is_dependency p.recipe) (standing b.configuration b.scene b.name b.recipe b.flag [] [])

  -- a name calls the same function, but for the numbers of variables; and what bodies name that may be reached is known
  pub record HasFunctions : Type 0 where
    pub same : SameFunctions GivesAlike (functions_in p.context) b.scene.functions
    pub known : BodiesKnown (functions_in p.context) (λ f. p.reached f ≡ true) (λ x. IsBoundIn p.there x.number)

  -- the evaluator stands at the place, which is that of the body by name
  pub record IsEvaluatorOf (evaluator : Evaluator) : Type 0 where
    pub stage : stage_at evaluator ≡ running_stage p.context p.env p.here p.there p.is_dependency p.recipe
    pub reading : reading_at evaluator ≡ by_number
    pub place : HasPlace
    pub functions : HasFunctions

  -- the variable gives what the one of its name gives by name
  abbrev pub IsNamed : Variable → Type 0
  IsNamed x = GivesAlike around x (record { name = x.name; number = number_of x.name })

  -- An expression as it was read in the recipe's file: each variable is that of its name, and calls are known.
  pub record IsKnown (e : Expression) : Type 0 where
    pub cooked : IsCooked (from_file b.recipe.file b.configuration.expansion) e
    pub names : NamesKnown (functions_in p.context) (λ f. p.reached f ≡ true) IsNamed (term_of e)

  abbrev pub FragmentKnown : Fragment → Type 0
  FragmentKnown (Interpolation e) = IsKnown e
  FragmentKnown (Text token) = Unit {0}

  -- each expression of a line, and of a row
  abbrev pub FragmentsKnown : List Fragment → Type 0
  FragmentsKnown fragments = AllByRecursion FragmentKnown fragments

  abbrev pub AllKnown : List Expression → Type 0
  AllKnown es = AllByRecursion IsKnown es
