-- What expressions, lines and interpreters of a recipe are evaluated to by number, they are evaluated to by name.
use Rattle.std.specs.Prelude.{◌≡◌, ℕ, true, All, List, ◌∷◌, Some, Result, codes, find, map}
use Rattle.std.specs.String.{string_bytes}
use Rattle.just_text.specs.Tokens.{lexeme}
use Rattle.tree_expressions.specs.Shape.{shape_of}
use Rattle.tree_expressions.specs.declared.expression.Expression.{Expression}
use Rattle.tree_attributes.specs.declared.attribute.AttributeKind.TheVariants.{Script as ScriptKind}
use Rattle.tree_attributes.specs.declared.setting.Interpreter.{Interpreter}
use Rattle.tree_attributes.specs.Sets.Sets.{is_of, items_of}
use Rattle.tree_attributes.specs.declared.attribute_item.AttributeItem.{AttributeItem}
use Rattle.tree_attributes.specs.declared.attribute_set.AttributeSet.{AttributeSet}
use Rattle.tree_items.specs.Lines.{pieces_of}
use Rattle.tree_items.specs.declared.line.Line.{Line}
use Rattle.just_host.specs.declared.entry.Entry.{Entry}
use Rattle.just_value.specs.Frames.{BoundRow}
use Rattle.parse_expressions.specs.Literals.{IsCooked, from_file}
use Rattle.evaluate_expressions.specs.Situations.{functions_in, reading_at, stage_at}
use Rattle.evaluate_expressions.specs.declared.evaluator.Evaluator.{Evaluator}
use Rattle.meaning_dialogues.specs.Dialogue.{Evaluates}
use Rattle.meaning_dialogues.specs.Evaluation.{Value, dialogue}
use Rattle.meaning_dialogues.specs.Faults.{Fault}
use Rattle.meaning_dialogues.specs.Terms.{term_of}
use Rattle.meaning_evaluation.specs.Stages.Parameters.{Formal}
use Rattle.meaning_evaluation.specs.Parameters.Bindings.{words_for, words_passed}
use Rattle.meaning_evaluation.specs.Named.{FunctionRow}
use Rattle.meaning_evaluation.specs.Scopes.{formals, valued}
use Rattle.laws_evaluation.proofs.Opening.Names.{SameFunctions}
use Rattle.laws_evaluation.specs.Soundness.Known.{NamesKnown}
use Rattle.justfile_evaluator.specs.Bodies.{HasEnvironment, IsBodyOf, IsSiteOf, MeansInterpreter, MeansLine, NamedBody}
use Rattle.justfile_evaluator.specs.Sites.{interpreter_in}
use Rattle.justfile_evaluator.specs.declared.site.Site.{Site}
use Rattle.laws_runs.specs.ByName.Evaluators.{AllKnown, FragmentsKnown, GivesAlike, HasPlace, IsEvaluatorOf, IsKnown, RunPlace}
use Rattle.laws_runs.specs.ByName.Variables.{HasParameters, HasRows, IsVariable}

-- an expression whose names are known means by number what it means by name
abbrev pub ExpressionsMean : Type 0
ExpressionsMean = (b : NamedBody) (p : RunPlace) (evaluator : Evaluator) (e : Expression) → IsEvaluatorOf b p evaluator → IsKnown b p e → (old new : List Entry) (result : Result Value Fault)
    → Evaluates (reading_at evaluator) (dialogue (stage_at evaluator) (term_of e)) old new result → Evaluates b.reading (valued b.configuration b.scene b.name b.recipe b.flag b.bound (shape_of e)) old new result

-- so does a line whose names are known
abbrev pub LinesMean : Type 0
LinesMean = (b : NamedBody) (p : RunPlace) (evaluator : Evaluator) (line : Line) → IsEvaluatorOf b p evaluator → FragmentsKnown b p line.fragments.items → MeansLine b evaluator line

-- the attribute `script` has its name, and what the interpreter that it names says is known
pub record IsScriptKnown (b : NamedBody) (p : RunPlace) (attributes : AttributeSet) : Type 0 where
  pub written : (item : AttributeItem) → find (is_of ScriptKind) (items_of attributes) ≡ Some item → lexeme item.name.token ≡ codes "script"
  pub known : (i : Interpreter Expression) → interpreter_in attributes ≡ Some i → AllKnown b p (i.command ∷ i.arguments.items)

-- and so does such an interpreter
abbrev pub InterpretersMean : Type 0
InterpretersMean = (b : NamedBody) (p : RunPlace) (evaluator : Evaluator) (attributes : AttributeSet) → IsEvaluatorOf b p evaluator → IsScriptKnown b p attributes → MeansInterpreter b evaluator attributes

-- the site of a body stands where its evaluator does
pub record IsSiteAt (p : RunPlace) (here : Site) : Type 0 where
  pub context : here.context.now ≡ p.context
  pub env : here.env.now ≡ p.env
  pub scope : here.scope.now ≡ p.here

-- the parameters' values as words are those by name, where they are passed
pub record HasWords (b : NamedBody) (here : Site) : Type 0 where
  pub words : b.recipe.passes_words ≡ true → map string_bytes here.positional.now ≡ words_for (formals b.configuration b.scene b.name b.recipe b.flag) b.bound.values

-- So a body is that by name where its site is, its lines are those of the row, and what they and the attribute say is known.
abbrev pub BodiesMean : Type 0
BodiesMean = (b : NamedBody) (p : RunPlace) (evaluator : Evaluator) (here : Site) (read : List Line) → IsEvaluatorOf b p evaluator → IsSiteOf b here → map pieces_of read ≡ b.recipe.body
    → All (λ line. FragmentsKnown b p line.fragments.items) read → IsScriptKnown b p here.attributes.now → IsBodyOf b here evaluator read

-- An expression as it was read is known where each of its variables is a parameter, or gives in the other frames what its name gives.
abbrev pub VariablesMean : Type 0
VariablesMean = (b : NamedBody) (p : RunPlace) (numbers : List ℕ) (own : List BoundRow) (others : List (List BoundRow)) → HasParameters b p numbers own others → (e : Expression) → IsCooked (from_file b.recipe.file b.configuration.expansion) e
    → NamesKnown (functions_in p.context) (λ f. p.reached f ≡ true) (IsVariable b p numbers others) (term_of e) → IsKnown b p e

-- Functions that are those of rows, but for the numbers of variables, are the same by name.
abbrev pub FunctionsMean : Type 0
FunctionsMean = (b : NamedBody) (p : RunPlace) (rows : List FunctionRow) → HasRows b p rows → SameFunctions (GivesAlike b p) (functions_in p.context) b.scene.functions

-- what commands of a body are given is what they are given by name, where the site stands at the place
abbrev pub EnvironmentsMean : Type 0
EnvironmentsMean = (b : NamedBody) (p : RunPlace) (here : Site) → HasPlace b p → IsSiteAt p here → HasWords b here → HasEnvironment b here

-- so are the words of parameters that were bound with the same values, where the same of them give each of their elements
abbrev pub WordsMean : Type 0
WordsMean = (b : NamedBody) (here : Site) (read : List Formal) → map (λ formal. formal.is_each) read ≡ map (λ formal. formal.is_each) (formals b.configuration b.scene b.name b.recipe b.flag)
    → map string_bytes here.positional.now ≡ words_passed b.recipe.passes_words read b.bound.values → HasWords b here
