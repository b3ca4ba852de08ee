-- Interpreters, words and environments of bodies by name, and so whole bodies.
use Rattle.std.proofs.Common.{◌≡◌, ℕ, All, List, [], ◌∷◌, ◌++◌, map, Bool, if◌then◌else◌, Some, Result, refl, sym, ap, ap₂, subst, ◌∙◌}
use Rattle.std.specs.String.{string_bytes}
use Rattle.std.proofs.lemmas.List.Elements.{All-weaker}
use Rattle.std.specs.Prelude.{codes}
use Rattle.just_host.specs.declared.entry.Entry.{Entry}
use Rattle.tree_expressions.specs.Shape.{shape_of}
use Rattle.tree_expressions.specs.declared.expression.Expression.{Expression}
use Rattle.tree_attributes.specs.Settings.{interpreter_shape}
use Rattle.tree_attributes.specs.declared.setting.Interpreter.{Interpreter}
use Rattle.tree_attributes.specs.declared.attribute_set.AttributeSet.{AttributeSet}
use Rattle.tree_items.specs.Lines.{pieces_of}
use Rattle.tree_items.specs.declared.line.Line.{Line}
use Rattle.evaluate_context.specs.Surroundings.{surroundings_of}
use Rattle.evaluate_expressions.specs.Situations.{reading_at, stage_at}
use Rattle.evaluate_expressions.specs.declared.evaluator.Evaluator.{Evaluator}
use Rattle.meaning_dialogues.specs.Dialogue.{Evaluates, Reading}
use Rattle.meaning_dialogues.specs.Evaluation.{Stage, Value, dialogues, interpreter_dialogue, row}
use Rattle.meaning_dialogues.specs.Faults.{Fault}
use Rattle.meaning_dialogues.specs.Terms.{terms_of}
use Rattle.meaning_evaluation.specs.Scopes.{around as around_recipe, formals, valued}
use Rattle.meaning_evaluation.specs.Parameters.Bindings.{words_for, words_passed}
use Rattle.meaning_evaluation.specs.Stages.Parameters.{Formal}
use Rattle.just_value.specs.Values.{joined}
use Rattle.justfile_evaluator.specs.Bodies.{HasEnvironment, IsBodyOf, IsSiteOf, MeansInterpreter, MeansLine, NamedBody, interpreter_of}
use Rattle.justfile_evaluator.specs.Sites.{interpreter_in}
use Rattle.justfile_evaluator.specs.declared.site.Site.{Site}
use Rattle.laws_runs.specs.ByName.Evaluators.{AllKnown, FragmentsKnown, HasFunctions, HasPlace, IsEvaluatorOf, RunPlace, by_number}
use Rattle.laws_runs.specs.ByName.Laws.{HasWords, IsScriptKnown, IsSiteAt}
use Rattle.laws_runs.proofs.ByName.Goes.{EachGoesAs, GoesAs, evaluates_as, row_goes_as, then_goes_as}
use Rattle.laws_runs.proofs.ByName.Lines.{expression_goes, line_means, run}

-- the words of parameters rest only on which of them give each of their elements
same_words : (fs gs : List Formal) (values : List Value) → map (λ formal. formal.is_each) fs ≡ map (λ formal. formal.is_each) gs → words_for fs values ≡ words_for gs values
same_words [] [] values e = refl
same_words [] (g ∷ gs) values e = absurd (cc)
same_words (f ∷ fs) [] values e = absurd (cc)
same_words (f ∷ fs) (g ∷ gs) [] e = refl
same_words (f ∷ fs) (g ∷ gs) (v ∷ vs) e =
    let first : f.is_each ≡ g.is_each = cc in
    let others : map (λ formal. formal.is_each) fs ≡ map (λ formal. formal.is_each) gs = cc in
    ap₂ ◌++◌ (ap (λ is_each. if is_each then v else joined v ∷ []) first) (same_words fs gs vs others)

-- The words of a body's parameters, where they are passed.
pub words_are : (b : NamedBody) (here : Site) (read : List Formal) → map (λ formal. formal.is_each) read ≡ map (λ formal. formal.is_each) (formals b.configuration b.scene b.name b.recipe b.flag)
    → map string_bytes here.positional.now ≡ words_passed b.recipe.passes_words read b.bound.values → HasWords b here
words_are b here read same e = record {
  words = λ passed. e ∙ (ap (λ (passes : Bool). words_passed passes read b.bound.values) passed ∙ same_words read (formals b.configuration b.scene b.name b.recipe b.flag) b.bound.values same);
}

module _ (b : NamedBody) (p : RunPlace) where
  module _ (at : HasPlace b p) (has : HasFunctions b p) where
    each_goes : (es : List Expression) → AllKnown b p es → EachGoesAs (by_number b p) b.reading (dialogues (run b p) (terms_of es)) (map (valued b.configuration b.scene b.name b.recipe b.flag b.bound) (map shape_of es))
    each_goes [] h = tt
    each_goes (e ∷ es) h = (expression_goes b p at has e h.0, each_goes es h.1)

    interpreter_goes : (i : Interpreter Expression) → AllKnown b p (i.command ∷ i.arguments.items)
        → GoesAs (by_number b p) b.reading (interpreter_dialogue (codes "script") (dialogues (run b p) (terms_of (i.command ∷ i.arguments.items)))) (interpreter_of b (interpreter_shape i))
    interpreter_goes i h =
        let values = map (valued b.configuration b.scene b.name b.recipe b.flag b.bound) (map shape_of (i.command ∷ i.arguments.items)) in
        then_goes_as (by_number b p) b.reading (row (dialogues (run b p) (terms_of (i.command ∷ i.arguments.items)))) (row values) _ _
        (row_goes_as (by_number b p) b.reading (dialogues (run b p) (terms_of (i.command ∷ i.arguments.items))) values (each_goes (i.command ∷ i.arguments.items) h)) (λ vs old new r d. d)

  -- The interpreter that the attribute `script` names, by an evaluator that is that of the body by name.
  pub interpreter_means : (evaluator : Evaluator) (attributes : AttributeSet) → IsEvaluatorOf b p evaluator → IsScriptKnown b p attributes → MeansInterpreter b evaluator attributes
  interpreter_means evaluator attributes is known = record { written = known.written; by_name = by }
    where
      by : (i : Interpreter Expression) → interpreter_in attributes ≡ Some i → (old new : List Entry) (r : Result (List ℕ × List (List ℕ)) Fault)
          → Evaluates (reading_at evaluator) (interpreter_dialogue (codes "script") (dialogues (stage_at evaluator) (terms_of (i.command ∷ i.arguments.items)))) old new r → Evaluates b.reading (interpreter_of b (interpreter_shape i)) old new r
      by i e old new r h =
          evaluates_as (by_number b p) b.reading (interpreter_dialogue (codes "script") (dialogues (run b p) (terms_of (i.command ∷ i.arguments.items)))) (interpreter_of b (interpreter_shape i)) old new r
          (interpreter_goes is.place is.functions i (known.known i e))
          (subst (λ (reading : Reading). Evaluates reading (interpreter_dialogue (codes "script") (dialogues (run b p) (terms_of (i.command ∷ i.arguments.items)))) old new r) is.reading
          (subst (λ (stage : Stage). Evaluates (reading_at evaluator) (interpreter_dialogue (codes "script") (dialogues stage (terms_of (i.command ∷ i.arguments.items)))) old new r) is.stage h))

  -- A body at a site that is that of the body by name.
  pub body_is : (evaluator : Evaluator) (here : Site) (read : List Line) → IsEvaluatorOf b p evaluator → IsSiteOf b here → map pieces_of read ≡ b.recipe.body → All (λ line. FragmentsKnown b p line.fragments.items) read
      → IsScriptKnown b p here.attributes.now → IsBodyOf b here evaluator read
  body_is evaluator here read is site body known script = record {
    site = site;
    body = body;
    lines = All-weaker (λ line. FragmentsKnown b p line.fragments.items) (MeansLine b evaluator) (λ line h. line_means b p evaluator line is h) read known;
    interpreter = interpreter_means evaluator here.attributes.now is script;
  }

  -- The environment of a body's commands at the place.
  pub environment_is : (here : Site) → HasPlace b p → IsSiteAt p here → HasWords b here → HasEnvironment b here
  environment_is here at is words = record {
    shell = subst (λ context. (surroundings_of context).shell ≡ (around_recipe b.configuration b.scene b.name b.recipe b.flag).shell) (sym is.context) at.module_is.shell;
    folder = subst (λ context. (surroundings_of context).folder ≡ b.scene.row.folder) (sym is.context) at.module_is.folder;
    pairs = rw (is.context, is.env, is.scope) at.here.pairs;
    removed = rw (is.context, is.env, is.scope) at.here.lacking;
    words = words.words;
  }
