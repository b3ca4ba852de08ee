-- The right side of a variable leads by names where it leads by numbers.
use Rattle.std.proofs.Common.{◌≡◌, ◌-◌, refl, subst, Bool, true, false, List, [], Option, Some, None, ℕ}
use Rattle.just_value.specs.Frames.{Frames}
use Rattle.tree_expressions.specs.Shape.{shape_of}
use Rattle.tree_expressions.specs.declared.expression.Expression.{Expression}
use Rattle.parse_expressions.specs.Literals.{IsCooked, from_file}
use Rattle.evaluate_context.specs.Surroundings.{standing_in, surroundings_of}
use Rattle.evaluate_context.specs.declared.context.ExecutionContext.{ExecutionContext}
use Rattle.evaluate_expressions.specs.Situations.{around_body, functions_in}
use Rattle.evaluate_variables.specs.Opened.{opening_reading, opening_stage}
use Rattle.meaning_dialogues.specs.Calls.{DefinedFunction, function_named}
use Rattle.meaning_dialogues.specs.Dialogue.{Lookup, Reading, Variable, around}
use Rattle.meaning_dialogues.specs.Evaluation.{Stage, dialogue}
use Rattle.meaning_dialogues.specs.Terms.{Term, term_of}
use Rattle.meaning_dialogues.specs.Written.{term_in, unnumbered}
use Rattle.meaning_evaluation.specs.Stages.Assigned.{assigned_dialogue}
use Rattle.meaning_evaluation.specs.Stages.Stages.{calls_left, run_stage}
use Rattle.meaning_evaluation.specs.Scopes.{Configuration, Scene, surroundings_in}
use Rattle.just_meaning.specs.Opening.{evaluates, opening_standing, side_dialogue, stands, Side}
use Rattle.laws_evaluation.specs.Terms.Alike.{Alike}
use Rattle.laws_evaluation.specs.Terms.Renumbering.{renumbered}
use Rattle.laws_evaluation.proofs.Terms.Alike.{goes_alike}
use Rattle.laws_evaluation.proofs.Terms.Terms.{term_by_names}
use Rattle.laws_evaluation.proofs.Opening.Names.{SameFunctions}
use Rattle.laws_evaluation.specs.Soundness.Endings.{NotInternal}
use Rattle.laws_evaluation.specs.Soundness.Known.{BodiesKnown, IsBoundIn, IsCallable, NamesKnown, OneForEach}
use Rattle.laws_evaluation.proofs.Soundness.Frames.{names_read}
use Rattle.laws_runs.specs.ByName.Places.{SameModule, SamePlace}
use Rattle.laws_runs.specs.ByName.Variables.{unnumbered as by_name}
use Rattle.laws_runs.proofs.ByName.Calls.{term_alike}
use Rattle.laws_runs.proofs.ByName.Goes.{GoesAs, alike_reading}

-- a variable's text, or its right side as it is written in a file
abbrev pub side_written : Configuration → Option (List ℕ) → List ℕ → Expression → Side
side_written c (Some text) file e = stands text
side_written c None file e = evaluates (term_in c.expansion file unnumbered (shape_of e))

module _ (context : ExecutionContext) (frames : Frames) (c : Configuration) (scene : Scene) (second : Reading) where
  -- a variable that is bound gives what the other one gives
  abbrev pub GivesAlike : Lookup → Variable → Variable → Type 0
  GivesAlike place x y = IsBoundIn frames x.number → opening_reading frames place x ≡ second place y

  abbrev IsRead : Lookup → Variable → Type 0
  IsRead place x = IsBoundIn frames x.number

  abbrev Same : Lookup → Variable → Variable → Type 0
  Same place x y = GivesAlike place x y × IsRead place x

  gives_same : (place : Lookup) (x y : Variable) → Same place x y → opening_reading frames place x ≡ second place y
  gives_same place x y h = h.0 h.1

  -- the module and the places in it are the same, and so are its functions but for the numbers of variables
  pub record StandsAlike : Type 0 where
    pub module_is : SameModule (surroundings_of context) (surroundings_in c scene)
    pub here : SamePlace (surroundings_of context) (surroundings_in c scene) (standing_in context [] frames false None) (opening_standing [])
    pub in_functions : SamePlace (surroundings_of context) (surroundings_in c scene) (standing_in context [] (around_body frames) false None) (opening_standing scene.exported)
    pub functions : SameFunctions GivesAlike (functions_in context) scene.functions

  abbrev IsNamed : Variable → Type 0
  IsNamed x = IsBoundIn frames x.number × GivesAlike around x (by_name x)

  -- the expression stands in this file, its variables are bound, and give what their names give
  pub record IsSide (file : List ℕ) (e : Expression) : Type 0 where
    pub reached : DefinedFunction → Bool
    pub bodies : BodiesKnown (functions_in context) (λ f. reached f ≡ true) (λ x. IsBoundIn frames x.number)
    pub cooked : IsCooked (from_file file c.expansion) e
    pub names : NamesKnown (functions_in context) (λ f. reached f ≡ true) IsNamed (term_of e)

  abbrev stage_by : ℕ → Stage
  stage_by limit = run_stage (surroundings_in c scene) scene.functions (opening_standing []) (calls_left (surroundings_in c scene) scene.functions (opening_standing scene.exported) (limit - 1))

  module _ (stands_alike : StandsAlike) where
    renumbered_alike : (file : List ℕ) (e : Expression) → IsSide file e → Alike Same (dialogue (opening_stage context frames) (term_of e)) (dialogue (stage_by context.config.now.recursion_limit) (renumbered unnumbered (term_of e)))
    renumbered_alike file e h =
        alike_reading GivesAlike IsRead NotInternal (dialogue (opening_stage context frames) (term_of e)) (dialogue (stage_by context.config.now.recursion_limit) (renumbered unnumbered (term_of e)))
        (term_alike (surroundings_of context) (surroundings_in c scene) stands_alike.module_is (standing_in context [] (around_body frames) false None) (opening_standing scene.exported) stands_alike.in_functions
        GivesAlike (functions_in context) scene.functions stands_alike.functions (context.config.now.recursion_limit - 1) IsNamed
        (λ name arguments. IsCallable (OneForEach (λ (f : DefinedFunction). h.reached f ≡ true)) (function_named name (functions_in context)) name arguments) unnumbered (λ x v. v.1)
        (standing_in context [] frames false None) (opening_standing []) stands_alike.here (term_of e) h.names)
        (names_read (surroundings_of context) (functions_in context) (λ f. h.reached f ≡ true) (standing_in context [] (around_body frames) false None) (standing_in context [] frames false None)
        (context.config.now.recursion_limit - 1) (λ x. IsBoundIn frames x.number) h.bodies IsRead IsNamed (λ x u. u) (λ x v. v.0) (term_of e) h.names)

    side_alike : (file : List ℕ) (e : Expression) → IsSide file e → Alike Same (dialogue (opening_stage context frames) (term_of e)) (side_dialogue c scene (evaluates (term_in c.expansion file unnumbered (shape_of e))))
    side_alike file e h =
        subst (λ (limit : ℕ). Alike Same (dialogue (opening_stage context frames) (term_of e)) (dialogue (stage_by limit) (term_in c.expansion file unnumbered (shape_of e)))) stands_alike.module_is.limit
        (subst (λ (t : Term). Alike Same (dialogue (opening_stage context frames) (term_of e)) (dialogue (stage_by context.config.now.recursion_limit) t)) (term_by_names (from_file file c.expansion) unnumbered e h.cooked) (renumbered_alike file e h))

    -- where a right side leads by numbers, it leads by names
    pub side_goes : (file : List ℕ) (e : Expression) → IsSide file e
        → GoesAs (opening_reading frames) second (dialogue (opening_stage context frames) (term_of e)) (side_dialogue c scene (evaluates (term_in c.expansion file unnumbered (shape_of e))))
    side_goes file e h old new r d =
        goes_alike Same (opening_reading frames) second gives_same (dialogue (opening_stage context frames) (term_of e)) (side_dialogue c scene (evaluates (term_in c.expansion file unnumbered (shape_of e)))) old new r (side_alike file e h) d

    -- so does a variable, by its override or by its right side
    pub variable_goes : (override : Option (List ℕ)) (file : List ℕ) (e : Expression) → (override ≡ None → IsSide file e)
        → GoesAs (opening_reading frames) second (assigned_dialogue override (opening_stage context frames) (term_of e)) (side_dialogue c scene (side_written c override file e))
    variable_goes (Some text) file e h old new r d = d
    variable_goes None file e h old new r d = side_goes file e (h refl) old new r d
