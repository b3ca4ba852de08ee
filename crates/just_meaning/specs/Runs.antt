-- A run for every host: refused by a rule, listed, or from its opening on.
use Rattle.std.specs.Prelude.{◌≡◌, ℕ, List, [], ◌∷◌, Bool, true, false, cond, map, Option, Some, None, Result, Ok, Err}
use Rattle.std.specs.Str.{bytes_eq}
use Rattle.std.specs.Cmp.Lexicographic.{pointwise}
use Rattle.just_host.specs.declared.entry.Entry.{Entry}
use Rattle.just_host.specs.declared.job.Pair.{Pair}
use Rattle.meaning_dialogues.specs.Dialogue.{Reading}
use Rattle.meaning_evaluation.specs.Stages.Parameters.{Bound}
use Rattle.evaluate_context.specs.Surroundings.{by_name}
use Rattle.meaning_runs.specs.Failures.{Failure}
use Rattle.meaning_evaluation.specs.Named.{RecipeName, Call, Definitions, paths_of}
use Rattle.just_meaning.specs.Menus.{menu_of}
use Rattle.meaning_runs.specs.Invokes.{WordRule, Invoke, BreaksWords}
use Rattle.meaning_evaluation.specs.Scopes.{Configuration}
use Rattle.just_meaning.specs.Opening.{Held, Opened, OpensAll, IsOpened, reading_in, pairs_of}
use Rattle.meaning_evaluation.specs.Requests.{OpeningFailure}
use Rattle.meaning_evaluation.specs.Calling.{Ground, acts}
use Rattle.meaning_runs.specs.Acts.{host_parts}
use Rattle.meaning_runs.specs.Parts.{Parts}
use Rattle.meaning_runs.specs.Tallies.{Tally}
use Rattle.meaning_runs.specs.Goes.{Goes}
use Rattle.meaning_runs.specs.Counts.{IsCounted}

abbrev pub same_path : List (List ℕ) → List (List ℕ) → Bool
same_path a b = pointwise bytes_eq a b

-- what a module was opened with
abbrev pub pairs_at : List (List ℕ) → List Opened → List Pair
pairs_at path [] = []
pairs_at path (o ∷ os) = cond (same_path o.path path) o.pairs (pairs_at path os)

abbrev pub values_at : List (List ℕ) → List Opened → List Held
values_at path [] = []
values_at path (o ∷ os) = cond (same_path o.path path) o.values (values_at path os)

-- the recipes of calls
abbrev pub recipes_of : List Call → List RecipeName
recipes_of calls = map (λ call. call.recipe) calls

module _ (c : Configuration) (defined : Definitions) where
  abbrev pub ground_of : List Opened → Ground
  ground_of opened = record { configuration = c; defined = defined; dotenv = λ path. pairs_at path opened; exported = λ path. by_name (pairs_of defined path (values_at path opened)) }

  abbrev pub reading_at : List Opened → Call → Reading
  reading_at opened call = reading_in (values_at call.recipe.path opened)

  -- the steps of calls over what was opened
  abbrev pub steps : List Opened → Parts Call Bound Entry Failure
  steps opened = host_parts (acts (ground_of opened)) (reading_at opened)

  -- a run of calls with nothing done at first, which meets few calls and enters none twice under one set
  pub record HasRun (opened : List Opened) (calls : List Call) (old : List Entry) (t : Tally) (new : List Entry) (t' : Tally) (failure : Option Failure) : Type 0 where
    pub done : List Call
    pub run : Goes (steps opened) false [] old t calls done new t' failure
    pub counted : IsCounted (steps opened) run

  abbrev pub Opens : List Call → List Entry → List Entry → Result (List Opened) OpeningFailure → Type 0
  Opens calls = OpensAll c defined (IsOpened defined c.no_dependencies (map (λ call. call.recipe) calls)) (paths_of defined.modules)

-- how a run ends: a rule is broken, the listing is written, or not, its opening was refused, a recipe failed, or it ran
pub data Outcome (Rule : Type 0) : Type 0 where
  broken : Rule → Outcome Rule
  broken_word : WordRule → Outcome Rule
  listed : Outcome Rule
  unwritten : Outcome Rule
  not_opened : OpeningFailure → Outcome Rule
  failed : Failure → Outcome Rule
  ran : Outcome Rule

abbrev pub outcome_of : {Rule : Type 0} → Option Failure → Outcome Rule
outcome_of None = ran
outcome_of (Some failure) = failed failure

-- The opening, and after it, where nothing was refused, the run of the invocations over what was opened.
pub data Runs {Rule : Type 0} (c : Configuration) (defined : Definitions) (calls : List Call) : List Entry → Tally → List Entry → Tally → Outcome Rule → Type 0 where
  refused : {old new : List Entry} {t : Tally} {fault : OpeningFailure} → Opens c defined calls old new (Err fault) → Runs c defined calls old t new t (not_opened fault)
  opened : {old mid new : List Entry} {t t' : Tally} {opened : List Opened} {failure : Option Failure} → Opens c defined calls old mid (Ok opened) → HasRun c defined opened calls mid t new t' failure
      → Runs c defined calls old t new t' (outcome_of failure)

abbrev pub call_in : RecipeName × List (List (List ℕ)) → Call
call_in invocation = record { recipe = invocation.0; groups = invocation.1 }

-- A run by its words, where no rule of files is broken: a broken rule of words ends it with nothing asked; without words the root may list; else it runs.
pub data RunGoes {Rule : Type 0} (writes : Bool) (c : Configuration) (defined : Definitions) (words : List (List ℕ))
    : List Entry → Tally → List Entry → Tally → Outcome Rule → Type 0 where
  by_word : {old : List Entry} {t : Tally} {rule : WordRule} → BreaksWords (menu_of defined) words rule → RunGoes writes c defined words old t old t (broken_word rule)
  lists : {old : List Entry} {t : Tally} → words ≡ [] → (menu_of defined).lists ≡ true → RunGoes writes c defined words old t old t (cond writes listed unwritten)
  runs : {old new : List Entry} {t t' : Tally} {invocations : List (RecipeName × List (List (List ℕ)))} {outcome : Outcome Rule} → (words ≡ [] → (menu_of defined).lists ≡ false)
      → Invoke (menu_of defined) words invocations → Runs c defined (map call_in invocations) old t new t' outcome → RunGoes writes c defined words old t new t' outcome
