-- What was recorded of a run of calls by places, however it ended, is the beginning of what a run by names records.
use Rattle.std.proofs.Common.{ℕ, Bool, List, map}
use Rattle.std.specs.List.{AllByRecursion}
use Rattle.just_host.specs.declared.config.Config.{Config}
use Rattle.just_host.specs.declared.entry.Entry.{Entry}
use Rattle.just_value.specs.declared.positional.Override.{Override}
use Rattle.modules_compilation.specs.declared.compilation.Compilation.{Compilation}
use Rattle.resolve_analysis.specs.declared.analysis.Analysis.{Analysis}
use Rattle.analyze_calls.specs.Calls.{CallRow}
use Rattle.analyze_calls.specs.declared.plan.Runner.{Runner}
use Rattle.analyze_calls.specs.Runs.Cut as by_place
use Rattle.analyze_calls.specs.Runs.Steps.{parts}
use Rattle.meaning_runs.specs.Tallies.{Tally}
use Rattle.meaning_rules.specs.Worlds.Given.{Text, World}
use Rattle.meaning_rules.specs.Overrides.{overrides_of}
use Rattle.laws_runs.proofs.Alike.Counted.{counted}
use Rattle.laws_runs.proofs.Alike.Cut.{all_told, cut_alike, cut_ranked}
use Rattle.laws_runs.proofs.Alike.Runs.{counted_there}
use Rattle.just_meaning.specs.Begun.{BeginsCalls, cuts, steps_cut}
use Rattle.just_meaning.specs.Opening.{Opened}
use Rattle.just_meaning.specs.Runs.{steps}
use Rattle.laws_runs.specs.Settings.Settled.{AllSettle}
use Rattle.just_meaning.specs.Configured.{configuration_of}
use Rattle.laws_runs.specs.Running.Entered.{IsEnteredAlike}
use Rattle.laws_runs.specs.Running.Steps.{IsRunning, RestsOn, defined, named}
use Rattle.laws_runs.proofs.Running.Steps.Alike.{steps_alike}
use Rattle.laws_runs.proofs.Running.Steps.BegunAlike.{cuts_alike}
use Rattle.laws_runs.proofs.Running.Steps.Named.{decides_by_place}
use Rattle.laws_runs.proofs.Running.Steps.Runs.{are_ranked}

module _ (w : World) (compilation : Compilation) (given : List Override) (base : Text) (analysis : Analysis) (settled : AllSettle w (overrides_of given) compilation analysis.values.value.settings.items) (config : Config) (root_key : List ℕ)
    (called : List ℕ) (is_read : ℕ → Bool) (runner : Runner) (opened : List Opened) (rests : RestsOn w compilation given base analysis settled config root_key called is_read runner opened) where
  -- a run of calls that run, counted as the meaning has it
  pub runs_begin : (calls : List CallRow) (old new : List Entry) (t : Tally) → AllByRecursion (IsRunning w compilation given base analysis settled config root_key called) calls → by_place.BeginsRun runner calls old t new
      → BeginsCalls (configuration_of config root_key w.expansion) (defined w compilation given base analysis settled config root_key) opened (map (named w compilation given base analysis settled config root_key) calls) old t new
  runs_begin calls old new t all begins =
      let there = counted_there (by_place.parts_cut runner) (steps_cut (configuration_of config root_key w.expansion) (defined w compilation given base analysis settled config root_key) opened)
      (IsRunning w compilation given base analysis settled config root_key called) (named w compilation given base analysis settled config root_key) (IsEnteredAlike runner) (λ failure. Unit {0})
      (cut_alike (parts runner) (steps (configuration_of config root_key w.expansion) (defined w compilation given base analysis settled config root_key) opened) (by_place.cuts runner)
      (cuts (configuration_of config root_key w.expansion) (defined w compilation given base analysis settled config root_key) opened)
      (IsRunning w compilation given base analysis settled config root_key called) (named w compilation given base analysis settled config root_key) (IsEnteredAlike runner)
      (steps_alike w compilation given base analysis settled config root_key called is_read runner opened rests) (cuts_alike w compilation given base analysis settled config root_key called is_read runner opened rests))
      begins.goes (all_told begins.failure) tt all
      (counted (by_place.parts_cut runner) decides_by_place (λ (c : CallRow). c.recipe) (cut_ranked (parts runner) (by_place.cuts runner) (λ (c : CallRow). c.recipe) (are_ranked runner)) begins.goes) in
      record { done = map (named w compilation given base analysis settled config root_key) begins.done; last = begins.last; failure = begins.failure; run = there.0; counted = there.1 }
