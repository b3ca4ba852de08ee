-- The text of a plan.
use Rattle.std.specs.Prelude.{ℕ, List, [], ◌∷◌, ◌++◌, codes}
use Rattle.std.specs.List.{flat_map}
use Rattle.just_value.specs.Values.{value_text}
use Rattle.just_host.specs.declared.job.CommandJob.{CommandJob}
use Rattle.just_host.specs.declared.job.ScriptJob.{ScriptJob}
use Rattle.just_host.specs.declared.entry.Entry.{Entry}
use Rattle.just_host.specs.declared.entry.Entry.TheVariants.{Asked, Line, Script, Confirm, Show, Dotenv}

-- the words after a command, where there are any
abbrev pub positional_text : List (List ℕ) → List ℕ
positional_text [] = []
positional_text (word ∷ words) = codes " positional " ++ value_text (word ∷ words)

-- a command's line
abbrev pub line_text : CommandJob → List ℕ
line_text job = codes "line " ++ (value_text (job.command ∷ []) ++ (positional_text job.positional ++ codes "\n"))

-- a script's line
abbrev pub script_text : ScriptJob → List ℕ
script_text job = codes "script " ++ (value_text job.lines ++ codes "\n")

-- a prompt's line
abbrev pub confirmation_text : List ℕ → List ℕ
confirmation_text prompt = codes "confirm " ++ (value_text (prompt ∷ []) ++ codes "\n")

-- an entry's line; questions, texts that are shown and requests for files of variables have none
abbrev pub entry_text : Entry → List ℕ
entry_text (Line job status) = line_text job
entry_text (Script job status) = script_text job
entry_text (Confirm prompt answer) = confirmation_text prompt
entry_text (Asked question answer) = []
entry_text (Show text) = []
entry_text (Dotenv request answer) = []

-- the lines of all entries
abbrev pub plan_text : List Entry → List ℕ
plan_text entries = flat_map entry_text entries
