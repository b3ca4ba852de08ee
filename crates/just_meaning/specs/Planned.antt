-- What plans of runs write by fixed answers.
use Rattle.std.specs.Prelude.{◌≡◌, ℕ, List, [], Option}
use Rattle.just_host.specs.declared.entry.Entry.{Entry}
use Rattle.meaning_runs.specs.Failures.{Failure}
use Rattle.meaning_runs.specs.Laws.{end_by}
use Rattle.meaning_runs.specs.Told.{Answers}
use Rattle.meaning_evaluation.specs.Named.{Call, Definitions}
use Rattle.meaning_evaluation.specs.Scopes.{Configuration}
use Rattle.just_meaning.specs.Meanings.{IsNaive}
use Rattle.just_meaning.specs.Runs.{Outcome, outcome_of}
use Rattle.just_meaning.specs.Naively.{AreAllSteady, IsRefused}
use Rattle.run_plan.specs.Plans.{plan_text}

module _ (f : Answers) (c : Configuration) (defined : Definitions) (calls : List Call) where
  -- The naive run ends so, and the bytes are the text of its lines, scripts and confirmations.
  pub record IsNaivePlan (bytes : List ℕ) (failure : Option Failure) : Type 0 where
    pub events : List Entry
    pub naive : IsNaive c defined f calls (record { events = events; end = end_by failure })
    pub text : bytes ≡ plan_text events

  -- What a plan of a run that ended so writes by answers: nothing where they refuse the opening; and else, where all is steady, the text of the naive run.
  pub data WritesNaively {Rule : Type 0} (bytes : List ℕ) (outcome : Outcome Rule) : Type 0 where
    refused : IsRefused f c defined calls → bytes ≡ [] → WritesNaively bytes outcome
    tells : (failure : Option Failure) → outcome ≡ outcome_of failure → (IsRefused f c defined calls → ⊥) → (AreAllSteady f c defined calls → IsNaivePlan bytes failure) → WritesNaively bytes outcome
