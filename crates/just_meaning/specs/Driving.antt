-- A whole call: what is given, the rules that it may break, and its run.
use Rattle.std.specs.Prelude.{◌≡◌, Bool, List, map, Option, Some, None}
use Rattle.just_host.specs.declared.entry.Entry.{Entry}
use Rattle.just_value.specs.declared.positional.Positional.{Positional}
use Rattle.semver.specs.declared.Version.{Version}
use Rattle.meaning_rules.specs.Worlds.Given.{Text, Given, World, Overrides}
use Rattle.meaning_rules.specs.Worlds.Standing.{StandsFor}
use Rattle.meaning_rules.specs.Rules.{Rule, Broken}
use Rattle.meaning_runs.specs.Tallies.{Tally}
use Rattle.meaning_evaluation.specs.Named.{Definitions}
use Rattle.meaning_evaluation.specs.Scopes.{Configuration}
use Rattle.just_meaning.specs.Defining.{AreDefined}
use Rattle.just_meaning.specs.Runs.{Outcome, broken, RunGoes}

-- the configuration, whose root is that of this call; whether unstable features are on; the version that reads; texts and roots by their paths; the words by what they are for
pub record Inputs : Type 0 where
  pub configuration : Configuration
  pub unstable : Bool
  pub version : Version
  pub source : Text → Option Text
  pub root : Option Text → Option Text
  pub words : Positional

-- a rule of a call: the search directory has no root file, or a rule of files and names
pub data CallRule : Type 0 where
  no_root : Option Text → CallRule
  of_files : Rule → CallRule

module _ (i : Inputs) where
  abbrev pub root_found : Option Text
  root_found = i.root i.words.search_directory

  abbrev pub given_at : Text → Given
  given_at root = record { os = i.configuration.os; unstable = i.unstable; expansion = i.configuration.expansion; version = i.version; source = i.source; root = root }

  abbrev pub overrides_in : Overrides
  overrides_in = map (λ override. (override.name, override.value)) i.words.overrides

  -- the world of the call's root
  pub record HasWorld (root : Text) (w : World) : Type 0 where
    pub found : root_found ≡ Some root
    pub stands : StandsFor (given_at root) w

  -- a rule is broken; without a root no other is
  pub data BreaksCall : CallRule → Type 0 where
    rootless : root_found ≡ None → BreaksCall (no_root i.words.search_directory)
    of_world : {root : Text} {w : World} {rule : Rule} → HasWorld root w → Broken w overrides_in rule → BreaksCall (of_files rule)

  -- the configuration for this root
  abbrev pub configured : Text → Configuration
  configured root = record i.configuration { root = root }

  -- what is defined in the call's world
  pub record HasDefinitions (root : Text) (defined : Definitions) : Type 0 where
    pub world : World
    pub has : HasWorld root world
    pub are : AreDefined world overrides_in i.configuration.base i.configuration.working_directory defined

  -- A whole call: a broken rule ends it with nothing asked, else it runs by what is defined.
  pub data CallGoes (writes : Bool) : List Entry → Tally → List Entry → Tally → Outcome CallRule → Type 0 where
    by_rule : {old : List Entry} {t : Tally} {rule : CallRule} → BreaksCall rule → CallGoes writes old t old t (broken rule)
    by_words : {old new : List Entry} {t t' : Tally} {root : Text} {defined : Definitions} {outcome : Outcome CallRule} → ((rule : CallRule) → BreaksCall rule → ⊥) → HasDefinitions root defined
        → RunGoes writes (configured root) defined i.words.arguments old t new t' outcome → CallGoes writes old t new t' outcome
