-- What a call does before its body, in it, and after it.
use Rattle.std.specs.Prelude.{◌≡◌, Bool, Err, List, Ok, Result, [], map, true, false}
use Rattle.std.specs.String.{string_bytes}
use Rattle.just_text.specs.Tokens.{lexeme}
use Rattle.tree_attributes.specs.declared.attribute.AttributeKind.TheVariants.{Confirm}
use Rattle.just_host.specs.declared.config.Config.{Config}
use Rattle.just_host.specs.declared.entry.Entry.{Entry}
use Rattle.just_host.specs.Record.{Record}
use Rattle.evaluate_context.specs.declared.context.ExecutionContext.{ExecutionContext}
use Rattle.evaluate_expressions.specs.Situations.{reading_at, stage_at}
use Rattle.evaluate_expressions.specs.declared.evaluator.Evaluator.{Evaluator}
use Rattle.evaluate_variables.specs.Given.{stage_with}
use Rattle.justfile_evaluator.specs.Bodies.{IsBodyOf, NamedBody, task_of}
use Rattle.justfile_evaluator.specs.Ended.{SaysSo}
use Rattle.justfile_evaluator.specs.Sites.{attribute_in, is_silent, manner_of}
use Rattle.justfile_evaluator.specs.declared.fault.RunFault.{RunFault}
use Rattle.justfile_evaluator.specs.declared.site.Site.{Site}
use Rattle.laws_evaluation.specs.Bodies.Performing.{Performs}
use Rattle.meaning_dialogues.specs.Dialogue.{Dialogue, Ends, Reading}
use Rattle.meaning_dialogues.specs.Evaluation.{Stage}
use Rattle.meaning_evaluation.specs.Parameters.Bindings.{run_reading}
use Rattle.meaning_runs.specs.Failures.{Failure}
use Rattle.meaning_runs.specs.Task.{Task, TaskBegins, TaskLeads, ends, lift, ◌>>=◌}
use Rattle.analyze_calls.specs.Binding.{Grew}
use Rattle.analyze_calls.specs.Blocks.{block}
use Rattle.analyze_calls.specs.Calls.{CallRow}
use Rattle.analyze_calls.specs.Confirming.{confirming, prompt_in}
use Rattle.analyze_calls.specs.Entered.{EnteredRow, inside}
use Rattle.analyze_calls.specs.declared.plan.Planned.{Planned}
use Rattle.analyze_calls.specs.declared.plan.Runner.{Runner}

-- the calls of a block, none where dependencies are left out
abbrev pub calls_unless : Bool → Dialogue (List CallRow) → Dialogue (List CallRow)
calls_unless true calls = Ends (Ok [])
calls_unless false calls = calls

-- a confirmation, none where all are confirmed
abbrev pub asked_unless : Bool → Task (Unit {0}) → Task (Unit {0})
asked_unless true asked = ends (Ok tt)
asked_unless false asked = asked

-- what a recipe does around its body, where its expressions are evaluated by a stage
module _ (runner : Runner) (planned : Planned) (config : Config) (stage : Stage) where
  abbrev pub confirmation : Task (Unit {0})
  confirmation = asked_unless config.yes (confirming stage (lexeme planned.recipe.now.name.token) (prompt_in (attribute_in Confirm planned.recipe.now.attributes)))

  abbrev pub prior_calls : Dialogue (List CallRow)
  prior_calls = calls_unless config.no_dependencies (block runner stage planned.recipe.now.priors.items planned.priors.now)

  -- it is asked for, and then come the calls before its body
  abbrev pub head_task : Task (List CallRow)
  head_task = do
    u ← confirmation
    lift prior_calls

  -- the calls after its body
  abbrev pub subsequent_calls : Dialogue (List CallRow)
  subsequent_calls = calls_unless config.no_dependencies (block runner stage planned.recipe.now.subsequents.items planned.subsequents.now)

-- a command's failure is the recipe's, and nothing is said of it where the recipe's attributes and its module's settings say so
abbrev pub SaysOwn : Planned → ExecutionContext → RunFault → Type 0
SaysOwn planned context = SaysSo planned.recipe.now.name (is_silent context.module.now.settings.now planned.recipe.now.attributes)

module _ (planned : Planned) (context : ExecutionContext) (flag : Bool) (entered : EnteredRow) where
  -- by which stage its expressions are evaluated in a frame inside that of its parameters, and what variables give there
  abbrev pub own_stage : Stage
  own_stage = stage_with context flag planned.recipe.now.name entered.env (inside entered.frames)

  abbrev pub own_reading : Reading
  own_reading = run_reading (inside entered.frames) context.scope.now

  -- a body runs where its recipe was entered
  pub record IsOwnSite (site : Site) : Type 0 where
    pub context_is : site.context.now ≡ context
    pub env : site.env.now ≡ entered.env
    pub positional : map string_bytes site.positional.now ≡ entered.positional
    pub scope : site.scope.now ≡ inside entered.frames
    pub attributes : site.attributes.now ≡ planned.recipe.now.attributes
    pub name : site.name ≡ planned.recipe.now.name
    pub manner : site.manner ≡ manner_of context.module.now.settings.now planned.recipe.now.attributes planned.recipe.now.quiet planned.recipe.now.body.items

  -- its body by an evaluator, where memory suffices
  pub record PerformsBody {H : Type 0} (evaluator : Evaluator) (old new : Record H) (result : Result (Unit {0}) Failure) : Type 0 where
    pub site : Site
    pub is_own : IsOwnSite site
    pub performs : (b : NamedBody) → IsBodyOf b site evaluator planned.recipe.now.body.items → Performs b.reading (task_of b) old new result

  -- its body runs where it was entered, with its own frame, as its task by name does
  pub record RunsBody (old new : List Entry) (result : Result (Unit {0}) Failure) : Type 0 where
    pub grew : Grew old new
    pub evaluator : Evaluator
    pub stage : stage_at evaluator ≡ own_stage
    pub reading : reading_at evaluator ≡ own_reading
    pub site : Site
    pub is_own : IsOwnSite site
    pub goes : (b : NamedBody) → IsBodyOf b site evaluator planned.recipe.now.body.items → TaskLeads b.reading (task_of b) old new result

  -- what was recorded is the beginning of what its body records where it was entered, with its own frame
  pub record BodyBegins (old new : List Entry) : Type 0 where
    pub grew : Grew old new
    pub evaluator : Evaluator
    pub stage : stage_at evaluator ≡ own_stage
    pub reading : reading_at evaluator ≡ own_reading
    pub site : Site
    pub is_own : IsOwnSite site
    pub begins : (b : NamedBody) → IsBodyOf b site evaluator planned.recipe.now.body.items → TaskBegins b.reading (task_of b) old new

  module _ (runner : Runner) where
    -- it is confirmed, and brings about the calls before its body
    abbrev pub Heads : List Entry → List Entry → Result (List CallRow) Failure → Type 0
    Heads old new result = TaskLeads own_reading (head_task runner planned context.config.now own_stage) old new result

    -- what was recorded is the beginning of what its confirmation, and then the calls before its body, record
    abbrev pub HeadsBegin : List Entry → List Entry → Type 0
    HeadsBegin old new = TaskBegins own_reading (head_task runner planned context.config.now own_stage) old new

    -- its body runs, and brings about the calls after it
    pub data Tails (old new : List Entry) : Result (List CallRow) Failure → Type 0 where
      fails : {failure : Failure} → RunsBody old new (Err failure) → Tails old new (Err failure)
      runs : {mid : List Entry} {result : Result (List CallRow) Failure} → RunsBody old mid (Ok tt)
          → TaskLeads own_reading (lift (subsequent_calls runner planned context.config.now own_stage)) mid new result → Tails old new result

    -- what was recorded is the beginning of what its body, and then the calls after it, record: nothing, a beginning of its body, or the whole of it and a beginning of the calls
    pub data TailsBegin (old new : List Entry) : Type 0 where
      nothing : new ≡ old → TailsBegin old new
      in_body : BodyBegins old new → TailsBegin old new
      after_it : {mid : List Entry} → RunsBody old mid (Ok tt)
          → TaskBegins own_reading (lift (subsequent_calls runner planned context.config.now own_stage)) mid new → TailsBegin old new
