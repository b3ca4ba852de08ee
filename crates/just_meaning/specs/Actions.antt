-- What `Evaluate` writes and what `Command` hands over, over what was opened.
use Rattle.std.specs.Prelude.{◌≡◌, ℕ, ◌-◌, List, [], ◌∷◌, ◌++◌, Bool, true, false, cond, length, replicate, Option, Some, None, Result, Ok, Err, codes}
use Rattle.std.proofs.Common.{nat_lt}
use Rattle.std.specs.List.{flat_map}
use Rattle.std.specs.Str.{bytes_eq}
use Rattle.just_host.specs.declared.entry.Entry.{Entry}
use Rattle.just_host.specs.declared.job.CommandJob.{CommandJob}
use Rattle.tree_items.specs.Lines.{no_sigils}
use Rattle.just_value.specs.Values.{joined, value_text}
use Rattle.meaning_dialogues.specs.Evaluation.{Value}
use Rattle.evaluate_context.specs.Surroundings.{by_name, given, removed}
use Rattle.meaning_runs.specs.Failures.{Failure, next_by}
use Rattle.meaning_evaluation.specs.Named.{VariableName, VariableRow, ModuleRow, Modules, no_module, a_module, Definitions, paths_of}
use Rattle.modules_compilation.specs.Modulepaths.{pieces}
use Rattle.meaning_evaluation.specs.Scopes.{Configuration, Scene, surroundings_in}
use Rattle.just_meaning.specs.Opening.{reading_in, Held, held, Opened, OpensAll, named, opening_standing, scene_in, pairs_of, variable_says, IsOpened}
use Rattle.meaning_evaluation.specs.Requests.{OpeningFailure}
use Rattle.just_meaning.specs.Runs.{pairs_at, values_at}
use Rattle.meaning_evaluation.specs.Calling.{without_next}
use Rattle.meaning_runs.specs.Task.{Task, TaskLeads, ends, hands, line}

-- ---- what is evaluated

-- all variables of all modules open
pub record IsKept (defined : Definitions) (x : VariableName) : Type 0 where
  pub row : VariableRow
  pub there : defined.variable x ≡ Some row

-- what a word names: a module, or a variable of one
pub data Target : Type 0 where
  of_module : List (List ℕ) → Target
  of_variable : VariableName → Target

abbrev pub submodules_of : List ℕ → Modules → Option Modules
submodules_of name no_module = None
submodules_of name (a_module other inner others) = cond (bytes_eq other name) (Some inner) (submodules_of name others)

module _ (defined : Definitions) where
  abbrev pub if_variable : VariableName → Option VariableRow → Option Target
  if_variable x None = None
  if_variable x (Some row) = Some (of_variable x)

  -- by the names between each two `::`: submodules, and last a submodule or a variable
  abbrev pub target_from : List (List ℕ) → Modules → List (List ℕ) → Option Target
  target_from path modules [] = Some (of_module path)
  target_from path modules (name ∷ names) = by_name (submodules_of name modules) (λ inner. target_from (path ++ name ∷ []) inner names) (last_variable names)
    where
      by_name : Option Modules → (Modules → Option Target) → Option Target → Option Target
      by_name (Some inner) within variable = within inner
      by_name None within variable = variable

      last_variable : List (List ℕ) → Option Target
      last_variable [] = if_variable (named path name) (defined.variable (named path name))
      last_variable (other ∷ others) = None

  -- the root without a word; none of a second word
  abbrev pub target_of : List (List ℕ) → Option Target
  target_of [] = Some (of_module [])
  target_of (word ∷ []) = target_from [] defined.modules (pieces word)
  target_of (word ∷ other ∷ others) = None

abbrev pub greater : ℕ → ℕ → ℕ
greater a b = cond (nat_lt a b) b a

abbrev pub widest : List (List ℕ) → ℕ
widest [] = 0
widest (name ∷ names) = greater (length name) (widest names)

-- the names that are written: those that aren't private, in byte order
abbrev pub public_names : Definitions → List (List ℕ) → List (List ℕ) → List (List ℕ)
public_names defined path [] = []
public_names defined path (name ∷ names) = cond (variable_says (defined.variable (named path name)) (λ row. row.private)) (public_names defined path names) (name ∷ public_names defined path names)

abbrev pub value_line : ℕ → List ℕ → Option Value → List ℕ
value_line width name None = []
value_line width name (Some value) = name ++ (replicate (width - length name) 32 ++ (codes " := " ++ (value_text value ++ codes "\n")))

abbrev pub value_lines : List Held → List (List ℕ) → List ℕ
value_lines values names = flat_map (λ name. value_line (widest names) name (held name values)) names

abbrev pub joined_or_none : Option Value → List ℕ
joined_or_none None = []
joined_or_none (Some value) = joined value

abbrev pub evaluated_text : Definitions → List Opened → Target → List ℕ
evaluated_text defined opened (of_module path) = value_lines (values_at path opened) (public_names defined path (defined.names path))
evaluated_text defined opened (of_variable x) = joined_or_none (held x.name (values_at x.path opened))

-- ---- what is handed over as one command

module _ (c : Configuration) (defined : Definitions) (row : ModuleRow) (opened : List Opened) where
  abbrev pub root_scene : Scene
  root_scene = scene_in c defined [] row (pairs_at [] opened) (pairs_of defined [] (values_at [] opened))

  abbrev pub command_job : List ℕ → List (List ℕ) → CommandJob
  command_job command words = record {
    shell = [];
    command = command;
    positional = words;
    pairs = by_name (given (surroundings_in c root_scene) (opening_standing root_scene.exported));
    removed = removed (surroundings_in c root_scene) (opening_standing root_scene.exported);
    folder = Some row.folder;
    quiet = c.quiet;
  }

  -- the first word with the others as its words, under the root's pairs; none in a dry run
  abbrev pub command_by : Bool → List (List ℕ) → Task (Unit {0})
  command_by dry [] = ends (Ok tt)
  command_by true (command ∷ words) = ends (Ok tt)
  command_by false (command ∷ words) = hands (line (command_job command words)) (λ status. ends (without_next (next_by command no_sigils status)))

  abbrev pub command_task : List (List ℕ) → Task (Unit {0})
  command_task words = command_by c.dry_run words

-- ---- rules of the words of these actions, and how they end

pub data ActionRule : Type 0 where
  unknown_variable : List ℕ → ActionRule
  extra_word : List ℕ → ActionRule
  missing_command : ActionRule

-- `--evaluate` takes one word at most, which names a module or a variable
pub data BreaksEvaluate (defined : Definitions) : List (List ℕ) → ActionRule → Type 0 where
  unknown : {word : List ℕ} {words : List (List ℕ)} → target_of defined (word ∷ []) ≡ None → BreaksEvaluate defined (word ∷ words) (unknown_variable word)
  extra : {word other : List ℕ} {words : List (List ℕ)} → BreaksEvaluate defined (word ∷ other ∷ words) (extra_word other)

-- `--command` takes one at least
pub data BreaksCommand : List (List ℕ) → ActionRule → Type 0 where
  none : BreaksCommand [] missing_command

-- `--dump`, `--fmt` and `--list` take none
pub data BreaksText : List (List ℕ) → ActionRule → Type 0 where
  any : {word : List ℕ} {words : List (List ℕ)} → BreaksText (word ∷ words) (extra_word word)

pub data ActionEnd : Type 0 where
  refused : ActionRule → ActionEnd
  not_opened : OpeningFailure → ActionEnd
  command_failed : Failure → ActionEnd
  written : List ℕ → ActionEnd
  unwritten : ActionEnd
  done : ActionEnd

-- the text is written, where the output takes it
abbrev pub writing : Bool → List ℕ → ActionEnd
writing true text = written text
writing false text = unwritten

abbrev pub end_of : Result (Unit {0}) Failure → ActionEnd
end_of (Ok u) = done
end_of (Err failure) = command_failed failure

module _ (c : Configuration) (defined : Definitions) where
  -- Evaluating: all variables of all modules open; then the text of what the word names is written.
  pub data EvaluateGoes (writes : Bool) (words : List (List ℕ)) : List Entry → List Entry → ActionEnd → Type 0 where
    by_word : {old : List Entry} {rule : ActionRule} → BreaksEvaluate defined words rule → EvaluateGoes writes words old old (refused rule)
    by_opening : {old new : List Entry} {target : Target} {fault : OpeningFailure} → target_of defined words ≡ Some target → OpensAll c defined (IsKept defined) (paths_of defined.modules) old new (Err fault)
        → EvaluateGoes writes words old new (not_opened fault)
    evaluated : {old new : List Entry} {target : Target} (opened : List Opened) → target_of defined words ≡ Some target → OpensAll c defined (IsKept defined) (paths_of defined.modules) old new (Ok opened)
        → EvaluateGoes writes words old new (writing writes (evaluated_text defined opened target))

  -- Handing over one command: the variables open that open where no recipe is invoked; then the command.
  pub data CommandGoes (words : List (List ℕ)) : List Entry → List Entry → ActionEnd → Type 0 where
    by_word : {old : List Entry} {rule : ActionRule} → BreaksCommand words rule → CommandGoes words old old (refused rule)
    by_opening : {old new : List Entry} {word : List ℕ} {others : List (List ℕ)} {fault : OpeningFailure} → words ≡ word ∷ others
        → OpensAll c defined (IsOpened defined c.no_dependencies []) (paths_of defined.modules) old new (Err fault) → CommandGoes words old new (not_opened fault)
    commanded : {old mid new : List Entry} {word : List ℕ} {others : List (List ℕ)} {row : ModuleRow} {end : Result (Unit {0}) Failure} (opened : List Opened) → words ≡ word ∷ others
        → defined.inside [] ≡ Some row → OpensAll c defined (IsOpened defined c.no_dependencies []) (paths_of defined.modules) old mid (Ok opened)
        → TaskLeads (reading_in []) (command_task c defined row opened words) mid new end → CommandGoes words old new (end_of end)
