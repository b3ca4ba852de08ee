-- What a recipe asks the user before it runs.
use Rattle.std.specs.Prelude.{ℕ, ◌++◌, List, Option, Some, None, Result, Ok, Err, String, codes}
use Rattle.std.specs.Global.{Global}
use Rattle.std.specs.String.{string_bytes}
use Rattle.just_value.specs.Values.{joined}
use Rattle.tree_attributes.specs.declared.attribute.Attribute.{Attribute}
use Rattle.tree_attributes.specs.declared.attribute.Attribute.TheVariants.{Confirm}
use Rattle.tree_expressions.specs.declared.expression.Expression.{Expression}
use Rattle.meaning_dialogues.specs.Evaluation.{Stage, dialogue}
use Rattle.meaning_dialogues.specs.Terms.{term_of}
use Rattle.meaning_runs.specs.Failures.{Failure, confirmed}
use Rattle.meaning_runs.specs.Task.{Task, ends, confirms, lift, ◌>>=◌}
use Rattle.justfile_evaluator.specs.Ended.{failure_of}
use Rattle.justfile_evaluator.specs.declared.fault.RunFault.{RunFault}

-- what an attribute of confirmation asks: a prompt, if it has one
abbrev pub prompt_in : Option Attribute → Option (Option Expression)
prompt_in (Some (Confirm prompt)) = Some prompt
prompt_in (Some other) = Some None
prompt_in None = None

-- the usual words
abbrev pub usual_prompt : List ℕ → List ℕ
usual_prompt recipe = codes "Run recipe `" ++ (recipe ++ codes "`?")

-- the text of a prompt: its value, joined, or the usual words
abbrev pub prompt_text : Stage → List ℕ → Option Expression → Task (List ℕ)
prompt_text stage recipe (Some prompt) = do
  texts ← lift (dialogue stage (term_of prompt))
  ends (Ok (joined texts))
prompt_text stage recipe None = ends (Ok (usual_prompt recipe))

-- the user is asked, and only `yes` goes on
abbrev pub asking : List ℕ → List ℕ → Task (Unit {0})
asking recipe text = confirms text (λ answer. ends (confirmed recipe answer))

-- the confirmation, where the recipe wants one
abbrev pub confirming : Stage → List ℕ → Option (Option Expression) → Task (Unit {0})
confirming stage recipe None = ends (Ok tt)
confirming stage recipe (Some prompt) = prompt_text stage recipe prompt >>= asking recipe

-- a text as it was come to
abbrev pub with_text : Result (String Global) RunFault → Result (List ℕ) Failure
with_text (Ok text) = Ok (string_bytes text)
with_text (Err fault) = Err (failure_of fault)
