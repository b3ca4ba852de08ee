-- A run of calls by places is one by names.
use Rattle.std.proofs.Common.{◌≡◌, ◌<◌, ◌∙◌, sym, ap, subst, refl, ℕ, Bool, true, false, List, [], ◌∷◌, map, Option, Result, Ok, nat_lt, true≢false}
use Rattle.std.specs.Prelude.{IfSome, ◌||◌, not}
use Rattle.std.specs.List.{AllByRecursion}
use Rattle.just_host.specs.declared.config.Config.{Config}
use Rattle.just_host.specs.declared.entry.Entry.{Entry}
use Rattle.just_value.specs.declared.positional.Override.{Override}
use Rattle.modules_compilation.specs.declared.compilation.Compilation.{Compilation}
use Rattle.resolve_analysis.specs.declared.analysis.Analysis.{Analysis}
use Rattle.analyze_calls.specs.Calls.{CallRow}
use Rattle.analyze_calls.specs.Entered.{EnteredRow}
use Rattle.evaluate_context.specs.declared.context.ExecutionContext.{ExecutionContext}
use Rattle.analyze_calls.specs.declared.plan.Planned.{Planned}
use Rattle.analyze_calls.specs.declared.plan.Runner.{Runner}
use Rattle.analyze_calls.specs.Runs.Rest as by_place
use Rattle.analyze_calls.specs.Runs.Steps.{Begins, BeginsAt, Ends, HeadsBelow, any_from, begins, brought, failed, headless, here, here_ends, nowhere, nowhere_ends, parts, unbound, unranked}
use Rattle.meaning_runs.specs.Failures.{Failure}
use Rattle.meaning_runs.specs.Parts.{AreRanked}
use Rattle.meaning_runs.specs.Tallies.{Tally}
use Rattle.meaning_rules.specs.Worlds.Given.{Text, World}
use Rattle.meaning_rules.specs.Overrides.{overrides_of}
use Rattle.laws_runs.proofs.Alike.Counted.{counted}
use Rattle.laws_runs.proofs.Alike.Runs.{counted_there}
use Rattle.laws_runs.proofs.Menus.Lists.{less_told}
use Rattle.just_meaning.specs.Opening.{Opened}
use Rattle.just_meaning.specs.Runs.{HasRun, steps}
use Rattle.laws_runs.specs.Settings.Settled.{AllSettle}
use Rattle.just_meaning.specs.Configured.{configuration_of}
use Rattle.laws_runs.specs.Running.Entered.{IsEnteredAlike}
use Rattle.laws_runs.specs.Running.Steps.{IsRunning, IsTold, RestsOn, defined, named}
use Rattle.laws_runs.proofs.Running.Steps.Alike.{steps_alike}
use Rattle.laws_runs.proofs.Running.Steps.Named.{decides_by_place}

-- ---- calls bring about calls of earlier recipes

none_both : (a b : Bool) → (a || b) ≡ false → (a ≡ false) × (b ≡ false)
none_both true b e = absurd (true≢false e)
none_both false b e = (refl, e)

is_before : (a b : ℕ) → not (nat_lt a b) ≡ false → a < b
is_before a b e = less_told a b (by_test (nat_lt a b) e)
  where
    by_test : (t : Bool) → not t ≡ false → t ≡ true
    by_test true e = refl
    by_test false e = absurd (true≢false e)

all_before : (place : ℕ) (calls : List CallRow) → any_from place calls ≡ false → AllByRecursion (λ (c : CallRow). c.recipe < place) calls
all_before place [] e = tt
all_before place (c ∷ calls) e = let both = none_both (not (nat_lt c.recipe place)) (any_from place calls) e in (is_before c.recipe place both.0, all_before place calls both.1)

below_before : (place : ℕ) (H : Result (List CallRow) Failure → Type 0) (result : Result (List CallRow) Failure) (calls : List CallRow) → result ≡ Ok calls → HeadsBelow place H result → AllByRecursion (λ (c : CallRow). c.recipe < place) calls
below_before place H _ calls e (brought {calls = found} gives low) = let same : found ≡ calls = cc e in subst (λ cs. AllByRecursion (λ (c : CallRow). c.recipe < place) cs) same (all_before place found low)
below_before place H _ calls e (failed gives) = absurd (cc e)
below_before place H _ calls e (unranked gives later) = absurd (cc e)

module _ (runner : Runner) where
  at_before : {planned : Planned} {context : ExecutionContext} {call : CallRow} {flag : Bool} {old new : List Entry} (result : Result (EnteredRow × List CallRow) Failure) (entered : EnteredRow) (calls : List CallRow)
      → result ≡ Ok (entered, calls)
      → BeginsAt runner planned context call flag old new result → AllByRecursion (λ (c : CallRow). c.recipe < call.recipe) calls
  at_before _ entered calls e (unbound binds) = absurd (cc e)
  at_before _ entered calls e (headless binds heads) = absurd (cc e)
  at_before {call = call} _ entered calls e (begins {entered = first} {priors} binds heads) = below_before call.recipe _ (Ok priors) calls (ok_same (first, priors) (entered, calls) e) heads
    where
      ok_same : (a b : EnteredRow × List CallRow) → (◌≡◌ {A = Result (EnteredRow × List CallRow) Failure} (Ok a) (Ok b)) → (◌≡◌ {A = Result (List CallRow) Failure} (Ok a.1) (Ok b.1))
      ok_same a b e = let same : a ≡ b = cc e in ap (λ (p : EnteredRow × List CallRow). let r : Result (List CallRow) Failure = Ok p.1 in r) same

  pub are_ranked : AreRanked (parts runner) (λ (c : CallRow). c.recipe)
  are_ranked = record { begins = λ call flag old new entered calls b. of_begins call flag old new (Ok (entered, calls)) entered calls refl b; ends = λ call flag entered old new calls b. of_ends call flag entered old new (Ok calls) calls refl b }
    where
      of_begins : (call : CallRow) (flag : Bool) (old new : List Entry) (result : Result (EnteredRow × List CallRow) Failure) (entered : EnteredRow) (calls : List CallRow) → result ≡ Ok (entered, calls) → Begins runner call flag old new result
          → AllByRecursion (λ (c : CallRow). c.recipe < call.recipe) calls
      of_begins call flag old new result entered calls e (here there at) = at_before result entered calls e at
      of_begins call flag old new result entered calls e (nowhere there same is) = absurd (let none = sym e ∙ is in cc none)

      of_ends : (call : CallRow) (flag : Bool) (entered : EnteredRow) (old new : List Entry) (result : Result (List CallRow) Failure) (calls : List CallRow) → result ≡ Ok calls → Ends runner call flag entered old new result
          → AllByRecursion (λ (c : CallRow). c.recipe < call.recipe) calls
      of_ends call flag entered old new result calls e (here_ends there at) = below_before call.recipe _ result calls e at
      of_ends call flag entered old new result calls e (nowhere_ends there same is) = absurd (let none = sym e ∙ is in cc none)

module _ (w : World) (compilation : Compilation) (given : List Override) (base : Text) (analysis : Analysis) (settled : AllSettle w (overrides_of given) compilation analysis.values.value.settings.items) (config : Config) (root_key : List ℕ)
    (called : List ℕ) (is_read : ℕ → Bool) (runner : Runner) (opened : List Opened) (rests : RestsOn w compilation given base analysis settled config root_key called is_read runner opened) where
  -- a run of calls that run, counted as the meaning has it
  pub runs_named : (calls : List CallRow) (old new : List Entry) (t t' : Tally) (failure : Option Failure) → AllByRecursion (IsRunning w compilation given base analysis settled config root_key called) calls → IfSome failure IsTold
      → by_place.HasRun (parts runner) calls old t new t' failure
      → HasRun (configuration_of config root_key w.expansion) (defined w compilation given base analysis settled config root_key) opened (map (named w compilation given base analysis settled config root_key) calls) old t new t' failure
  runs_named calls old new t t' failure all told run =
      let there = counted_there (parts runner) (steps (configuration_of config root_key w.expansion) (defined w compilation given base analysis settled config root_key) opened)
      (IsRunning w compilation given base analysis settled config root_key called)
      (named w compilation given base analysis settled config root_key) (IsEnteredAlike runner) IsTold (steps_alike w compilation given base analysis settled config root_key called is_read runner opened rests) run.1 told tt all
      (counted (parts runner) decides_by_place (λ (c : CallRow). c.recipe) (are_ranked runner) run.1) in
      record { done = map (named w compilation given base analysis settled config root_key) run.0; run = there.0; counted = there.1 }
