-- The stages of evaluation: a run, a dry run, and constants.
use Rattle.std.specs.Prelude.{ℕ, zero, suc, ◌-◌, map, List, [], ◌∷◌, Option, Some, None, Ok, Err, Bool, true, false, codes}
use Rattle.just_text.specs.Tokens.{lexeme}
use Rattle.tree_items.specs.declared.item.FunctionDefinition.{FunctionDefinition}
use Rattle.just_host.specs.declared.host.Question.TheVariants.{Command}
use Rattle.evaluate_functions.specs.Arguments.{takes_text}
use Rattle.evaluate_functions.specs.Names.{function_of}
use Rattle.evaluate_functions.specs.declared.function.Function.{Function}
use Rattle.evaluate_context.specs.declared.context.FunctionRef.{FunctionRef}
use Rattle.meaning_dialogues.specs.Faults.{internal}
use Rattle.meaning_dialogues.specs.Dialogue.{Dialogue, Ends, Asks, ◌>>=◌}
use Rattle.meaning_dialogues.specs.Terms.{term_of}
use Rattle.meaning_dialogues.specs.Evaluation.{Value, Stage, dialogue, ticked}
use Rattle.evaluate_context.specs.Surroundings.{Surroundings, Standing, job_of}
use Rattle.meaning_dialogues.specs.Answers.{text_in, output}
use Rattle.meaning_dialogues.specs.Calls.{arguments, DefinedFunction, function_named, empty, with_parameters, inside, Calls, call_defined}
use Rattle.evaluate_builtins.specs.Builtins.{builtin}

abbrev pub defined_of : FunctionDefinition → DefinedFunction
defined_of f = record { name = lexeme f.name.token; parameters = map (λ p. p.1) f.parameters.items; body = term_of f.body }

abbrev pub definitions : List FunctionRef → List DefinedFunction
definitions functions = map (λ f. defined_of f.definition.now) functions

module _ (module_around : Surroundings) where
  -- a call of a built-in function, each argument in its place
  abbrev pub call_builtin : Standing → Option Function → List ℕ → List ℕ → List (Dialogue Value) → Dialogue Value
  call_builtin standing None name file given = Ends (Err (internal (codes "unknown function")))
  call_builtin standing (Some function) name file given = arguments (takes_text function) name 0 given >>= builtin module_around standing name file function

  -- a function of the justfile hides a built-in one
  abbrev pub call_named : Standing → Calls → Option DefinedFunction → List ℕ → List ℕ → List (Dialogue Value) → Dialogue Value
  call_named standing calls (Some function) name file given = call_defined calls function given
  call_named standing calls None name file given = call_builtin standing (function_of name) name file given

  -- a command between backticks: in a dry run it stands for itself, and nothing is asked
  abbrev pub command_dialogue : Standing → Bool → List ℕ → List ℕ → Dialogue Value
  command_dialogue standing true contents written = Ends (Ok (ticked contents ∷ []))
  command_dialogue standing false contents written = Asks (Command (job_of module_around standing contents [])) (λ answer. Ends (output written (text_in answer)))

  module _ (functions : List DefinedFunction) where
    -- a run at a place, where such calls may lie in each other
    abbrev pub run_stage : Standing → Calls → Stage
    run_stage standing calls = record {
      lists = module_around.lists;
      command = command_dialogue standing module_around.dry_run;
      call = λ name file given. call_named standing calls (function_named name functions) name file given;
    }

    -- so many more calls may lie in each other; a body stands where the module's variables are around it, with no pairs of attributes, for the caller's recipe
    abbrev pub calls_left : Standing → ℕ → Calls
    calls_left in_body zero = None
    calls_left in_body (suc n) = Some (λ function values. inside (with_parameters empty function.parameters values) (dialogue (run_stage in_body (calls_left in_body n)) function.body))

-- at depth 0: one call less than the limit may lie in each other
abbrev pub calls_allowed : Surroundings → List DefinedFunction → Standing → Calls
calls_allowed here functions in_body = calls_left here functions in_body (here.limit - 1)
