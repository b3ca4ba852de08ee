-- An expression whose names are known means by number what it means by name, and so does a line.
use Rattle.std.proofs.Common.{◌≡◌, ℕ, ◌-◌, List, [], ◌∷◌, ◌++◌, map, Bool, true, false, Result, refl, subst}
use Rattle.just_host.specs.declared.entry.Entry.{Entry}
use Rattle.tree_expressions.specs.Shape.{shape_of}
use Rattle.tree_expressions.specs.declared.expression.Expression.{Expression}
use Rattle.tree_items.specs.Lines.{pieces_of, piece_of as piece_by_name}
use Rattle.tree_items.specs.declared.line.Fragment.{Fragment}
use Rattle.tree_items.specs.declared.line.Fragment.TheVariants.{Interpolation, Text}
use Rattle.tree_items.specs.declared.line.Line.{Line}
use Rattle.parse_expressions.specs.Literals.{from_file}
use Rattle.evaluate_context.specs.Surroundings.{standing_in, surroundings_of}
use Rattle.evaluate_expressions.specs.Situations.{around_body, functions_in, reading_at, running_stage, stage_at}
use Rattle.evaluate_expressions.specs.declared.evaluator.Evaluator.{Evaluator}
use Rattle.meaning_dialogues.specs.Calls.{DefinedFunction, function_named}
use Rattle.meaning_dialogues.specs.Dialogue.{Evaluates, Lookup, Reading, Variable, around, in_module}
use Rattle.meaning_dialogues.specs.Evaluation.{Stage, Value, dialogue}
use Rattle.meaning_dialogues.specs.Faults.{Fault}
use Rattle.meaning_dialogues.specs.Terms.{Term, term_of}
use Rattle.meaning_evaluation.specs.Stages.Lines.{line_dialogue, piece_dialogue, piece_of}
use Rattle.meaning_evaluation.specs.Stages.Stages.{calls_left, run_stage}
use Rattle.meaning_evaluation.specs.Bodies.{line_text}
use Rattle.meaning_evaluation.specs.Scopes.{around as around_recipe, body_stage, body_standing, frame_of, piece_in, standing, term, valued}
use Rattle.laws_evaluation.specs.Terms.Alike.{Alike}
use Rattle.laws_evaluation.specs.Terms.Renumbering.{renumbered}
use Rattle.laws_evaluation.proofs.Terms.Alike.{goes_alike, then_alike}
use Rattle.laws_evaluation.proofs.Terms.Terms.{term_by_names}
use Rattle.laws_evaluation.specs.Soundness.Endings.{NotInternal}
use Rattle.laws_evaluation.specs.Soundness.Known.{IsBoundIn, IsCallable, OneForEach}
use Rattle.laws_evaluation.proofs.Soundness.Frames.{names_read}
use Rattle.justfile_evaluator.specs.Bodies.{MeansLine, NamedBody}
use Rattle.laws_runs.specs.ByName.Evaluators.{FragmentKnown, FragmentsKnown, GivesAlike, HasFunctions, HasPlace, IsEvaluatorOf, IsKnown, IsNamed, RunPlace, by_number, in_body, number_of}
use Rattle.laws_runs.proofs.ByName.Calls.{term_alike}
use Rattle.laws_runs.proofs.ByName.Goes.{GoesAs, alike_reading, evaluates_as, goes_under}

module _ (b : NamedBody) (p : RunPlace) where
  -- in the bodies of functions what is read in the module is bound there
  abbrev IsRead : Lookup → Variable → Type 0
  IsRead around x = Unit {0}
  IsRead in_module x = IsBoundIn p.there x.number

  -- what corresponds gives the same
  abbrev Same : Lookup → Variable → Variable → Type 0
  Same place x y = GivesAlike b p place x y × IsRead place x

  gives_same : (place : Lookup) (x y : Variable) → Same place x y → by_number b p place x ≡ in_body b p place y
  gives_same around x y h = h.0
  gives_same in_module x y h = h.0 h.1

  -- a function that may be reached, with as many arguments as it has parameters, or a built-in one
  abbrev Callable : List ℕ → ℕ → Type 0
  Callable name arguments = IsCallable (OneForEach (λ (f : DefinedFunction). p.reached f ≡ true)) (function_named name (functions_in p.context)) name arguments

  -- by which stages it is evaluated by number and by name, where one call less than the limit may lie in each other
  abbrev pub run : Stage
  run = running_stage p.context p.env p.here p.there p.is_dependency p.recipe

  abbrev named_by : ℕ → Stage
  named_by limit = run_stage (around_recipe b.configuration b.scene b.name b.recipe b.flag) b.scene.functions (body_standing b.configuration b.scene b.name b.recipe b.flag b.bound)
      (calls_left (around_recipe b.configuration b.scene b.name b.recipe b.flag) b.scene.functions (standing b.configuration b.scene b.name b.recipe b.flag [] []) (limit - 1))

  abbrev named : Stage
  named = body_stage b.configuration b.scene b.name b.recipe b.flag b.bound

  -- an expression as it is written in the recipe
  abbrev written : Expression → Term
  written e = term b.configuration b.scene b.name b.recipe b.flag (shape_of e)

  module _ (at : HasPlace b p) (has : HasFunctions b p) where
    renumbered_alike : (e : Expression) → IsKnown b p e → Alike Same (dialogue run (term_of e)) (dialogue (named_by p.context.config.now.recursion_limit) (renumbered (number_of b p) (term_of e)))
    renumbered_alike e h =
        alike_reading (GivesAlike b p) IsRead NotInternal (dialogue run (term_of e)) (dialogue (named_by p.context.config.now.recursion_limit) (renumbered (number_of b p) (term_of e)))
        (term_alike (surroundings_of p.context) (around_recipe b.configuration b.scene b.name b.recipe b.flag) at.module_is
        (standing_in p.context [] (around_body p.there) p.is_dependency p.recipe) (standing b.configuration b.scene b.name b.recipe b.flag [] []) at.in_functions
        (GivesAlike b p) (functions_in p.context) b.scene.functions has.same (p.context.config.now.recursion_limit - 1) (IsNamed b p) Callable (number_of b p) (λ x v. v)
        (standing_in p.context p.env p.here p.is_dependency p.recipe) (body_standing b.configuration b.scene b.name b.recipe b.flag b.bound) at.here (term_of e) h.names)
        (names_read (surroundings_of p.context) (functions_in p.context) (λ f. p.reached f ≡ true) (standing_in p.context [] (around_body p.there) p.is_dependency p.recipe) (standing_in p.context p.env p.here p.is_dependency p.recipe)
        (p.context.config.now.recursion_limit - 1) (λ x. IsBoundIn p.there x.number) has.known IsRead (IsNamed b p) (λ x u. u) (λ x v. tt) (term_of e) h.names)

    expression_alike : (e : Expression) → IsKnown b p e → Alike Same (dialogue run (term_of e)) (dialogue named (written e))
    expression_alike e h =
        subst (λ (limit : ℕ). Alike Same (dialogue run (term_of e)) (dialogue (named_by limit) (written e))) at.module_is.limit
        (subst (λ (t : Term). Alike Same (dialogue run (term_of e)) (dialogue (named_by p.context.config.now.recursion_limit) t)) (term_by_names (from_file b.recipe.file b.configuration.expansion) (number_of b p) e h.cooked) (renumbered_alike e h))

    -- where an expression leads by number, it leads by name
    pub expression_goes : (e : Expression) → IsKnown b p e → GoesAs (by_number b p) b.reading (dialogue run (term_of e)) (valued b.configuration b.scene b.name b.recipe b.flag b.bound (shape_of e))
    expression_goes e h old new r d =
        goes_under (frame_of b.configuration b.scene b.name b.recipe b.flag b.bound) b.reading (dialogue named (written e)) old new r
        (goes_alike Same (by_number b p) (in_body b p) gives_same (dialogue run (term_of e)) (dialogue named (written e)) old new r (expression_alike e h) d)

    fragment_alike : (continued : Bool) (f : Fragment) → FragmentKnown b p f → Alike Same (piece_dialogue run continued (piece_of f)) (piece_dialogue named continued (piece_in b.configuration.expansion b.recipe.file (number_of b p) (piece_by_name f)))
    fragment_alike continued (Text token) h = refl
    fragment_alike continued (Interpolation e) h = then_alike Same (dialogue run (term_of e)) (dialogue named (written e)) _ _ (expression_alike e h) (λ value. refl)

    line_alike : (continued : Bool) (so_far : List ℕ) (fs : List Fragment) → FragmentsKnown b p fs
        → Alike Same (line_dialogue run continued so_far (map piece_of fs)) (line_dialogue named continued so_far (map (piece_in b.configuration.expansion b.recipe.file (number_of b p)) (map piece_by_name fs)))
    line_alike continued so_far [] h = refl
    line_alike continued so_far (f ∷ fs) h =
        then_alike Same (piece_dialogue run continued (piece_of f)) (piece_dialogue named continued (piece_in b.configuration.expansion b.recipe.file (number_of b p) (piece_by_name f))) _ _ (fragment_alike continued f h.0)
        (λ more. line_alike false (so_far ++ more) fs h.1)

    line_goes : (continued : Bool) (fs : List Fragment) → FragmentsKnown b p fs
        → GoesAs (by_number b p) b.reading (line_dialogue run continued [] (map piece_of fs)) (line_text b.configuration b.scene b.name b.recipe b.flag b.bound continued (map piece_by_name fs))
    line_goes continued fs h old new r d =
        goes_under (frame_of b.configuration b.scene b.name b.recipe b.flag b.bound) b.reading (line_dialogue named continued [] (map (piece_in b.configuration.expansion b.recipe.file (number_of b p)) (map piece_by_name fs))) old new r
        (goes_alike Same (by_number b p) (in_body b p) gives_same (line_dialogue run continued [] (map piece_of fs)) (line_dialogue named continued [] (map (piece_in b.configuration.expansion b.recipe.file (number_of b p)) (map piece_by_name fs))) old new r
        (line_alike continued [] fs h) d)

  -- An expression whose names are known, by an evaluator that is that of the body by name.
  pub expression_means : (evaluator : Evaluator) (e : Expression) → IsEvaluatorOf b p evaluator → IsKnown b p e → (old new : List Entry) (r : Result Value Fault)
      → Evaluates (reading_at evaluator) (dialogue (stage_at evaluator) (term_of e)) old new r → Evaluates b.reading (valued b.configuration b.scene b.name b.recipe b.flag b.bound (shape_of e)) old new r
  expression_means evaluator e is known old new r h =
      evaluates_as (by_number b p) b.reading (dialogue run (term_of e)) (valued b.configuration b.scene b.name b.recipe b.flag b.bound (shape_of e)) old new r (expression_goes is.place is.functions e known)
      (subst (λ (reading : Reading). Evaluates reading (dialogue run (term_of e)) old new r) is.reading (subst (λ (stage : Stage). Evaluates (reading_at evaluator) (dialogue stage (term_of e)) old new r) is.stage h))

  -- A line of which each expression is known.
  pub line_means : (evaluator : Evaluator) (line : Line) → IsEvaluatorOf b p evaluator → FragmentsKnown b p line.fragments.items → MeansLine b evaluator line
  line_means evaluator line is known = record { by_name = by }
    where
      by : (continued : Bool) (old new : List Entry) (r : Result (List ℕ) Fault) → Evaluates (reading_at evaluator) (line_dialogue (stage_at evaluator) continued [] (map piece_of line.fragments.items)) old new r
          → Evaluates b.reading (line_text b.configuration b.scene b.name b.recipe b.flag b.bound continued (pieces_of line)) old new r
      by continued old new r h =
          evaluates_as (by_number b p) b.reading (line_dialogue run continued [] (map piece_of line.fragments.items)) (line_text b.configuration b.scene b.name b.recipe b.flag b.bound continued (pieces_of line)) old new r
          (line_goes is.place is.functions continued line.fragments.items known)
          (subst (λ (reading : Reading). Evaluates reading (line_dialogue run continued [] (map piece_of line.fragments.items)) old new r) is.reading
          (subst (λ (stage : Stage). Evaluates (reading_at evaluator) (line_dialogue stage continued [] (map piece_of line.fragments.items)) old new r) is.stage h))
