-- Which runs agree with fixed answers: each piece of the record with the answers of its tag.
use Rattle.std.specs.Prelude.{◌≡◌, ℕ, List, ◌++◌, Result}
use Rattle.just_host.specs.declared.entry.Entry.{Entry}
use Rattle.just_host.specs.declared.job.Pair.{Pair}
use Rattle.meaning_dialogues.specs.Faults.{Fault}
use Rattle.meaning_evaluation.specs.Named.{VariableName, Call, ModuleRow, Definitions}
use Rattle.meaning_evaluation.specs.Scopes.{Configuration}
use Rattle.meaning_runs.specs.Told.{Answers, Agrees, AgreesThere}
use Rattle.just_meaning.specs.Opening.{Held, Opened, exported_names, Fills, all, has_value, has_none, OpensOne, not_told, opened, refused, OpensAll, none_left, one_more, fault_here, fault_later}
use Rattle.meaning_evaluation.specs.Requests.{OpeningFailure}
use Rattle.meaning_runs.specs.Tallies.{Tally}
use Rattle.just_meaning.specs.Runs.{Outcome, Runs}
use Rattle.just_meaning.specs.Runs as runs

-- what the record grew by agrees with the answers of a module's variables
pub record AgreesFrom (f : Answers) (names : List (List ℕ)) (old new : List Entry) : Type 0 where
  pub piece : List Entry
  pub entries : new ≡ old ++ piece
  pub agrees : AgreesThere f names piece

-- what it grew by agrees with those of recipes
pub record AgreesBehind (f : Answers) (old new : List Entry) : Type 0 where
  pub piece : List Entry
  pub entries : new ≡ old ++ piece
  pub agrees : Agrees f piece

module _ (f : Answers) (c : Configuration) (defined : Definitions) where
  abbrev pub AgreesFills : {path : List (List ℕ)} {row : ModuleRow} {pairs : List Pair} {values : List Held} {names : List (List ℕ)} {old new : List Entry} {r : Result (List Held) Fault}
      → Fills c defined path row pairs values names old new r → Type 0
  AgreesFills all = Unit {0}
  AgreesFills {path = path} (has_value {old = old} {mid = mid} value side goes others) = AgreesFrom f (exported_names defined path) old mid × AgreesFills others
  AgreesFills {path = path} (has_none {old = old} {new = new} side goes) = AgreesFrom f (exported_names defined path) old new

  abbrev pub AgreesOne : {Open : VariableName → Type 0} {path : List (List ℕ)} {old new : List Entry} {r : Result Opened OpeningFailure} → OpensOne c defined Open path old new r → Type 0
  AgreesOne {path = path} (not_told {old = old} {new = new} row request) = AgreesFrom f (exported_names defined path) old new
  AgreesOne {path = path} (opened {old = old} {mid = mid} row request order fills) = AgreesFrom f (exported_names defined path) old mid × AgreesFills fills
  AgreesOne {path = path} (refused {old = old} {mid = mid} row request order fills) = AgreesFrom f (exported_names defined path) old mid × AgreesFills fills

  abbrev pub AgreesAll : {Open : VariableName → Type 0} {paths : List (List (List ℕ))} {old new : List Entry} {r : Result (List Opened) OpeningFailure} → OpensAll c defined Open paths old new r → Type 0
  AgreesAll none_left = Unit {0}
  AgreesAll (one_more o os) = AgreesOne o × AgreesAll os
  AgreesAll (fault_here o) = AgreesOne o
  AgreesAll (fault_later o os) = AgreesOne o × AgreesAll os

  -- a run from its opening on
  abbrev pub AgreesRun : {Rule : Type 0} {calls : List Call} {old new : List Entry} {t t' : Tally} {outcome : Outcome Rule} → Runs c defined calls old t new t' outcome → Type 0
  AgreesRun (runs.refused o) = AgreesAll o
  AgreesRun (runs.opened {mid = mid} {new = new} o run) = AgreesAll o × AgreesBehind f mid new
