-- What a call tells of the root file, of the files, modules, definitions and names that it leads to, and of the words.
use Rattle.std.specs.Prelude.{◌≡◌, ◌⊎◌, ℕ, IfErr, List, Some, Result, Err}
use Rattle.std.specs.String.{string_bytes}
use Rattle.just_host.specs.declared.config.Config.{Config}
use Rattle.just_value.specs.declared.positional.Positional.{Positional}
use Rattle.modules_compilation.specs.declared.compilation.Compilation.{Compilation}
use Rattle.resolve_analysis.specs.declared.analysis.Analysis.{Analysis}
use Rattle.analyze_words.specs.declared.fault.WordFault.{WordFault}
use Rattle.meaning_evaluation.specs.Named.{Definitions}
use Rattle.just_meaning.specs.Defining.{AreDefined}
use Rattle.run_tasks.specs.Requested.Words.{BreaksNamed, BreaksPlaced, MeansNamed, MeansPlaced}
use Rattle.modules_compilation.specs.declared.error.Error.{Error}
use Rattle.just_run.specs.Root.{Inputs, IsUnread}
use Rattle.just_run.specs.declared.root.RootFault.{RootFault}
use Rattle.meaning_rules.specs.Worlds.Given.{Given, Text, World}
use Rattle.meaning_rules.specs.Worlds.Standing.{StandsFor}
use Rattle.meaning_rules.specs.Worlds.Inhabited.{HasWorld}
use Rattle.just_modules.specs.Worlds.{BreaksNone, BreaksTold}
use Rattle.meaning_rules.specs.Overrides.{overrides_of}
use Rattle.just_resolve.specs.Rules as names
use Rattle.just_resolve.specs.declared.error.Error.{Error as NameError}
use Rattle.just_run.specs.Early.{IsOfNoRule}
use Rattle.just_run.specs.Named.{GoesNamed, Left}
use Rattle.just_run.specs.Ran.{GoesPlaced}
use Rattle.just_meaning.specs.Configured.{configuration_of}
use Rattle.just_meaning.specs.Known.{HaveRows, IsRead}
use Rattle.just_run.specs.Passed.{file_fault, name_fault, root_fault, word_fault}
use Rattle.just_run.specs.declared.fault.Fault.{Fault}
use Rattle.run_tasks.specs.declared.action.Action.{Action}
use Rattle.run_tasks.specs.declared.action.Action.TheVariants as actions
use Rattle.just_run.specs.declared.outcome.Outcome.{Outcome}

-- what is asked for, the words, and the configuration
pub record Asked : Type 0 where
  pub action : Action
  pub words : Positional
  pub config : Config

abbrev pub asked_of : Action → Positional → Config → Asked
asked_of action words config = record { action = action; words = words; config = config }

module _ (source : Given) (asked : Asked) (root : Text) (left : Left) (result : Result Outcome Fault) where
  -- the words break a rule of what is asked for that the fault names, unless memory ran out; or they break none, a fault is of no rule, and what is asked for is done by what is defined
  pub data TellsWords (w : World) (defined : Definitions) : Type 0 where
    broken : (fault : WordFault) → result ≡ Err (word_fault fault) → BreaksNamed defined asked.words.arguments asked.action fault → TellsWords w defined
    clear : MeansNamed defined asked.words.arguments asked.action → IfErr result IsOfNoRule
        → GoesNamed source w root (configuration_of asked.config root w.expansion) defined asked.words.arguments left result asked.action → TellsWords w defined

  -- so it is by what the world defines, which is one, whose files are read and whose modules have rows
  pub record TellsDefined (w : World) : Type 0 where
    pub defined : Definitions
    pub are : AreDefined w (overrides_of asked.words.overrides) (string_bytes asked.config.base) (string_bytes asked.config.working_directory) defined
    pub one : (other : Definitions) → AreDefined w (overrides_of asked.words.overrides) (string_bytes asked.config.base) (string_bytes asked.config.working_directory) other → other ≡ defined
    pub read : IsRead w
    pub rows : HaveRows defined
    pub words : TellsWords w defined

  -- the world breaks a rule of names that the fault names, unless memory ran out; or it breaks none, and so it is of rules of words
  pub data TellsNames (w : World) : Type 0 where
    broken : (error : NameError) → result ≡ Err (name_fault error) → names.IsNamed w (overrides_of asked.words.overrides) error → TellsNames w
    clear : names.BreaksNone w (overrides_of asked.words.overrides) → TellsDefined w → TellsNames w

  -- the world breaks a rule of files, modules and definitions that the fault names, unless memory or numbers ran out; or it breaks none, and so it is of rules of names
  pub data TellsSources (w : World) : Type 0 where
    broken : (error : Error) → result ≡ Err (file_fault error) → BreaksTold error w → TellsSources w
    clear : BreaksNone w → TellsNames w → TellsSources w

-- The root file can't be read, and the fault names why; or it is read: the sources stand for a world, and so it is in each that they stand for.
pub data AnswersSources (given : Text → Given) (i : Inputs) (asked : Asked) (left : Left) (result : Result Outcome Fault) : Type 0 where
  unread : (fault : RootFault) → result ≡ Err (root_fault fault) → IsUnread i fault → AnswersSources given i asked left result
  read : (path : List ℕ) → i.root ≡ Some path → HasWorld (given path) → ((w : World) → StandsFor (given path) w → TellsSources (given path) asked path left result w) → AnswersSources given i asked left result

-- ---- by places

-- the words break a rule of what is asked for that the fault names, unless memory ran out; or they break none, a fault is of no rule, and what is asked for is done
pub data TellsPlaced (compilation : Compilation) (analysis : Analysis) (asked : Asked) (root : Text) (left : Left) (result : Result Outcome Fault) : Type 0 where
  broken : (fault : WordFault) → result ≡ Err (word_fault fault) → BreaksPlaced compilation analysis asked.words.arguments asked.action fault → TellsPlaced compilation analysis asked root left result
  clear : MeansPlaced compilation analysis asked.words.arguments asked.action → IfErr result IsOfNoRule
      → GoesPlaced compilation analysis asked.config root asked.words.arguments left result asked.action → TellsPlaced compilation analysis asked root left result
