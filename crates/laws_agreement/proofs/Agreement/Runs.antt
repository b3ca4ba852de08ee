-- A run for every host is the naive run, where reached recipes read only what means what is read.
use Rattle.std.proofs.Common.{◌≡◌, ◌<◌, ◌≤◌, ◌+◌, ◌-◌, ℕ, suc, List, [], ◌∷◌, ◌++◌, map, false, Option, Some, Ok, subst, arith}
use Rattle.std.specs.Prelude.{Contains}
use Rattle.std.specs.List.{AllByRecursion}
use Rattle.just_host.specs.declared.entry.Entry.{Entry}
use Rattle.meaning_dialogues.specs.Dialogue.{Lookup, Variable}
use Rattle.meaning_dialogues.proofs.Unfolding.{IsMeant}
use Rattle.meaning_runs.specs.Failures.{Failure}
use Rattle.meaning_runs.specs.Told.{Answers, Agrees}
use Rattle.meaning_runs.specs.Meant.{is_event}
use Rattle.meaning_runs.specs.Acts.{host_parts}
use Rattle.meaning_runs.specs.Tallies.{Tally}
use Rattle.meaning_runs.specs.Goes.{Goes}
use Rattle.meaning_runs.specs.Laws.{events_of, end_by}
use Rattle.meaning_evaluation.specs.Named.{RecipeName, VariableName, Call, ModuleRow, Definitions, paths_of}
use Rattle.meaning_evaluation.specs.Scopes.{Configuration}
use Rattle.meaning_evaluation.specs.Calling.{acts}
use Rattle.meaning_evaluation.proofs.Calls.{calls_decide}
use Rattle.just_meaning.specs.Opening.{Opened, IsOpened, IsReached, by_words, reading_in}
use Rattle.just_meaning.specs.Runs.{HasRun, Opens, ground_of, reading_at, pairs_at, values_at}
use Rattle.just_meaning.specs.Meanings.{dotenv_at, variables_at, meant_ground, naive_run, IsSteadyRun, IsNaive}
use Rattle.just_meaning.specs.Agreement.{AgreesBehind, AgreesAll}
use Rattle.just_meaning.specs.Steady.{AreSteady}
use Rattle.laws_agreement.specs.Agreement.Kinds.{FallsAlong}
use Rattle.laws_agreement.specs.Agreement.Opened.{AreResolved, HoldsMeaning, AreOpened, AreListed, AreRunnable, IsHeldMeant}
use Rattle.laws_agreement.specs.Agreement.Readable.{AreReadable, FitsCall}
use Rattle.laws_agreement.proofs.Agreement.Lists.{all_more, all_contained, contains_map}
use Rattle.laws_agreement.proofs.Agreement.Ranked.{calls_ranked}
use Rattle.laws_agreement.proofs.Agreement.Reached.{reached_fitting, reached_sound}
use Rattle.laws_agreement.proofs.Agreement.Fitting.{fitting_are_naive}
use Rattle.laws_agreement.proofs.Agreement.Steady.{calls_steady}
use Rattle.laws_agreement.proofs.Agreement.Opened.{IsReadName, resolved_readable, names_meant}
use Rattle.laws_agreement.proofs.Agreement.Grounds.{grounds_agree}
use Rattle.laws_agreement.proofs.Agreement.Depths.{deep_enough}
use Rattle.laws_agreement.proofs.Agreement.Openings.{opens_only, opens_once, pairs_answered}

module _ (c : Configuration) (defined : Definitions) (f : Answers) (n : ℕ) (opened : List Opened) (calls : List Call) where
  -- the recipes that are invoked
  abbrev pub recipes : List RecipeName
  recipes = map (λ call. call.recipe) calls

  -- what is read of a variable in a module is what it means
  abbrev pub IsMeantAt : List (List ℕ) → Variable → Type 0
  IsMeantAt path x = (place : Lookup) → IsMeant (reading_in (values_at path opened)) (variables_at c defined f n path) place x

  calls_reached : AllByRecursion (λ call. IsReached defined c.no_dependencies recipes call.recipe) calls
  calls_reached = all_more (λ call. Contains calls call) _ (λ call stands. by_words (contains_map (λ other. other.recipe) calls call stands)) calls (all_contained calls)

  -- A run of calls over what was opened, whose record agrees with the answers, is the naive run.
  pub reached_runs_mean : (Named : List (List ℕ) → List ℕ → Type 0) (rank : RecipeName → ℕ) → ground_of c defined opened ≡ meant_ground c defined f n
      → AreReadable defined (IsReached defined c.no_dependencies recipes) Named → ((path : List (List ℕ)) (name : List ℕ) (number : Option ℕ) → Named path name → IsMeantAt path (record { name = name; number = number })) → FallsAlong defined rank
      → (old new piece : List Entry) (t t' : Tally) (failure : Option Failure) → IsSteadyRun c defined f n calls → AllByRecursion (λ call. rank call.recipe < n) calls
      → HasRun c defined opened calls old t new t' failure → new ≡ old ++ piece → Agrees f piece → naive_run c defined f n calls ≡ record { events = events_of is_event piece; end = end_by failure }
  reached_runs_mean Named rank same readable meant falling old new piece t t' failure steady lie run grows agrees =
      fitting_are_naive (λ call. IsReached defined c.no_dependencies recipes call.recipe) (FitsCall defined) (acts (meant_ground c defined f n)) f (reading_at c defined opened) (λ call. variables_at c defined f n call.recipe.path)
      (reached_sound (meant_ground c defined f n) recipes Named readable IsMeantAt meant (reading_at c defined opened) (λ call. variables_at c defined f n call.recipe.path) (λ call place x h. h place)) calls_decide (λ call. rank call.recipe)
      (reached_fitting (meant_ground c defined f n) recipes Named readable IsMeantAt meant (reading_at c defined opened)) (calls_ranked (meant_ground c defined f n) rank falling f (λ call. variables_at c defined f n call.recipe.path))
      n calls run.done old new piece t t' failure steady lie calls_reached
      (subst (λ g. Goes (host_parts (acts g) (reading_at c defined opened)) false [] old t calls run.done new t' failure) same run.run) grows agrees

  one_more : (k : ℕ) → 0 < k → k ≡ suc (k - 1)
  one_more k h = omega arith

  -- The same from what the rules of files say, from steadiness as it is written, and from what was opened.
  pub steady_runs_mean : (rank : RecipeName → ℕ) → AreResolved defined (IsReached defined c.no_dependencies recipes) → AreSteady defined → AreListed defined → FallsAlong defined rank → AreOpened c defined f n opened recipes
      → ((path : List (List ℕ)) → pairs_at path opened ≡ dotenv_at c defined f path) → 0 < n
      → (old new piece : List Entry) (t t' : Tally) (failure : Option Failure) → AllByRecursion (λ call. rank call.recipe < n) calls
      → HasRun c defined opened calls old t new t' failure → new ≡ old ++ piece → Agrees f piece → naive_run c defined f n calls ≡ record { events = events_of is_event piece; end = end_by failure }
  steady_runs_mean rank resolved steady listed falling are pairs deep old new piece t t' failure lie run grows agrees =
      reached_runs_mean (IsReadName c defined f opened recipes) rank (grounds_agree c defined f n opened recipes are listed pairs) (resolved_readable c defined f opened recipes resolved)
      (λ path name number h. names_meant c defined f opened recipes n are (n - 1) (one_more n deep) path name number h) falling old new piece t t' failure
      (λ call u. calls_steady (meant_ground c defined f n) steady call f (λ other. variables_at c defined f n other.recipe.path)) lie run grows agrees

  -- The same from an opening that agrees with the answers, where each variable that opens means the value that it is held with.
  pub opening_runs_mean : {first : List Entry} (rank : RecipeName → ℕ) {old : List Entry} (opening : Opens c defined calls first old (Ok opened)) → AgreesAll f c defined opening
      → AreResolved defined (IsReached defined c.no_dependencies recipes) → AreSteady defined → AreListed defined → ((path : List (List ℕ)) (row : ModuleRow) → defined.inside path ≡ Some row → Contains (paths_of defined.modules) path) → FallsAlong defined rank
      → ((x : VariableName) → IsOpened defined c.no_dependencies recipes x → HoldsMeaning c defined f n opened x) → 0 < n
      → (new piece : List Entry) (t t' : Tally) (failure : Option Failure) → AllByRecursion (λ call. rank call.recipe < n) calls
      → HasRun c defined opened calls old t new t' failure → new ≡ old ++ piece → Agrees f piece → naive_run c defined f n calls ≡ record { events = events_of is_event piece; end = end_by failure }
  opening_runs_mean rank {old = old} opening agreed resolved steady listed there falling means deep new piece t t' failure lie run grows agrees =
      steady_runs_mean rank resolved steady listed falling
      (record { means = means; only = λ x value e. opens_only c defined (IsOpened defined c.no_dependencies recipes) opened opening x.path x.name value e; once = opens_once c defined (IsOpened defined c.no_dependencies recipes) opened opening })
      (pairs_answered c defined f (IsOpened defined c.no_dependencies recipes) opened opening agreed there) deep old new piece t t' failure lie run grows agrees

-- From a depth on at which each variable that opens means the value that it is held with, what follows the opening is the naive run.
pub naive_from : (c : Configuration) (defined : Definitions) (f : Answers) (calls : List Call) (rank : RecipeName → ℕ) → AreRunnable c defined calls rank
    → {old mid new : List Entry} (opened : List Opened) (opening : Opens c defined calls old mid (Ok opened)) → AgreesAll f c defined opening
    → (deep : ℕ) → 0 < deep → AllByRecursion (λ call. rank call.recipe < deep) calls
    → ((n : ℕ) → deep ≤ n → (x : VariableName) → IsOpened defined c.no_dependencies (map (λ call. call.recipe) calls) x → HoldsMeaning c defined f n opened x)
    → (t t' : Tally) (failure : Option Failure) → HasRun c defined opened calls mid t new t' failure → (behind : AgreesBehind f mid new) → IsNaive c defined f calls (record { events = events_of is_event behind.piece; end = end_by failure })
naive_from c defined f calls rank are {new = new} opened opening agreed deep some lie means t t' failure run behind = record {
  deep = deep;
  is = λ n le.
      opening_runs_mean c defined f n opened calls rank opening agreed are.resolved are.steady are.listed are.inside are.falling (means n le) (omega (arith, some, le)) new behind.piece t t' failure
      (all_more _ (λ call. rank call.recipe < n) (λ call lt. omega (arith, lt, le)) calls lie) run behind.entries behind.agrees;
}

-- a number above the rank of each of these calls
above : (rank : RecipeName → ℕ) (calls : List Call) → (k : ℕ) × AllByRecursion (λ call. rank call.recipe < k) calls
above rank [] = (1, tt)
above rank (call ∷ calls) = let r = above rank calls in (suc (rank call.recipe) + r.0, (omega arith, all_more _ (λ other. rank other.recipe < suc (rank call.recipe) + r.0) (λ other lt. omega (arith, lt)) calls r.1))

-- A run from its opening on, whose record agrees with the answers, is naive, where each variable that opens means the value that it is held with.
pub runs_are_naive : (c : Configuration) (defined : Definitions) (f : Answers) (calls : List Call) (rank : RecipeName → ℕ) → AreRunnable c defined calls rank
    → {old mid new : List Entry} (opened : List Opened) (opening : Opens c defined calls old mid (Ok opened)) → AgreesAll f c defined opening
    → ((x : VariableName) → IsOpened defined c.no_dependencies (map (λ call. call.recipe) calls) x → IsHeldMeant c defined f opened x)
    → (t t' : Tally) (failure : Option Failure) → HasRun c defined opened calls mid t new t' failure → (behind : AgreesBehind f mid new) → IsNaive c defined f calls (record { events = events_of is_event behind.piece; end = end_by failure })
runs_are_naive c defined f calls rank are opened opening agreed means t t' failure run behind =
    let Open = IsOpened defined c.no_dependencies (map (λ call. call.recipe) calls) in
    let d = deep_enough c defined f opened Open means (opens_only c defined Open opened opening) in
    let a = above rank calls in
    naive_from c defined f calls rank are opened opening agreed (suc (d.0 + a.0)) (omega arith) (all_more _ (λ call. rank call.recipe < suc (d.0 + a.0)) (λ call lt. omega (arith, lt)) calls a.1) (λ n le. d.1 n (omega (arith, le))) t t' failure run behind
