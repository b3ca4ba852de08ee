-- How calls begin and end, by the places of their recipes.
use Rattle.std.specs.Prelude.{◌≡◌, ℕ, Bool, true, false, List, Option, Some, None, Result, Ok, Err, not}
use Rattle.std.proofs.Common.{nat_lt}
use Rattle.std.specs.List.{list_any}
use Rattle.just_host.specs.declared.entry.Entry.{Entry}
use Rattle.evaluate_context.specs.declared.context.ExecutionContext.{ExecutionContext}
use Rattle.meaning_runs.specs.Failures.{Failure}
use Rattle.meaning_runs.specs.Parts.{Parts}
use Rattle.analyze_calls.specs.Calls.{CallRow, row_of, rows, same_call}
use Rattle.analyze_calls.specs.Placed.{placed_in}
use Rattle.analyze_calls.specs.Around.{Heads, Tails}
use Rattle.analyze_calls.specs.Binding.{Binds}
use Rattle.analyze_calls.specs.Entered.{EnteredRow, entered_of}
use Rattle.analyze_calls.specs.declared.call.Call.{Call}
use Rattle.analyze_calls.specs.declared.enter.Entered.{Entered}
use Rattle.analyze_calls.specs.declared.plan.Planned.{Planned}
use Rattle.analyze_calls.specs.declared.plan.Runner.{Runner}

-- whether the calls after its body run among those done: as its module's setting says
abbrev pub shares_of : Option (Planned × ExecutionContext) → Bool
shares_of None = false
shares_of (Some (planned, context)) = context.module.now.settings.now.share_subsequents

abbrev pub shares_at : Runner → CallRow → Bool
shares_at runner call = shares_of (placed_in runner call.recipe)

-- whether a call is of no earlier recipe than the one at this place
abbrev pub is_from : ℕ → CallRow → Bool
is_from place call = not (nat_lt call.recipe place)

abbrev pub any_from : ℕ → List CallRow → Bool
any_from place calls = list_any (is_from place) calls

abbrev pub any_call_from : ℕ → List Call → Bool
any_call_from place calls = list_any (λ c. is_from place (row_of c)) calls

-- calls that are brought about are of earlier recipes; others are refused
pub data HeadsBelow (place : ℕ) (Gives : Result (List CallRow) Failure → Type 0) : Result (List CallRow) Failure → Type 0 where
  brought : {calls : List CallRow} → Gives (Ok calls) → any_from place calls ≡ false → HeadsBelow place Gives (Ok calls)
  failed : {failure : Failure} → Gives (Err failure) → HeadsBelow place Gives (Err failure)
  unranked : {calls : List CallRow} {failure : Failure} → Gives (Ok calls) → any_from place calls ≡ true → HeadsBelow place Gives (Err failure)

-- the recipe is bound, then come its confirmation and the calls before its body
pub data BeginsAt (runner : Runner) (planned : Planned) (context : ExecutionContext) (call : CallRow) (flag : Bool) (old new : List Entry) : Result (EnteredRow × List CallRow) Failure → Type 0 where
  unbound : {failure : Failure} → Binds planned context flag call.groups old new (Err failure) → BeginsAt runner planned context call flag old new (Err failure)
  headless : {mid : List Entry} {entered : EnteredRow} {failure : Failure} → Binds planned context flag call.groups old mid (Ok entered)
      → HeadsBelow call.recipe (Heads planned context flag entered runner mid new) (Err failure) → BeginsAt runner planned context call flag old new (Err failure)
  begins : {mid : List Entry} {entered : EnteredRow} {priors : List CallRow} → Binds planned context flag call.groups old mid (Ok entered)
      → HeadsBelow call.recipe (Heads planned context flag entered runner mid new) (Ok priors) → BeginsAt runner planned context call flag old new (Ok (entered, priors))

-- a call begins by its recipe; one of no recipe fails
pub data Begins (runner : Runner) (call : CallRow) (flag : Bool) (old new : List Entry) (result : Result (EnteredRow × List CallRow) Failure) : Type 0 where
  here : {planned : Planned} {context : ExecutionContext} → placed_in runner call.recipe ≡ Some (planned, context) → BeginsAt runner planned context call flag old new result → Begins runner call flag old new result
  nowhere : {failure : Failure} → placed_in runner call.recipe ≡ None → new ≡ old → result ≡ Err failure → Begins runner call flag old new result

-- it ends by its body, and the calls after that
pub data Ends (runner : Runner) (call : CallRow) (flag : Bool) (entered : EnteredRow) (old new : List Entry) (result : Result (List CallRow) Failure) : Type 0 where
  here_ends : {planned : Planned} {context : ExecutionContext} → placed_in runner call.recipe ≡ Some (planned, context)
      → HeadsBelow call.recipe (Tails planned context flag entered runner old new) result → Ends runner call flag entered old new result
  nowhere_ends : {failure : Failure} → placed_in runner call.recipe ≡ None → new ≡ old → result ≡ Err failure → Ends runner call flag entered old new result

abbrev pub begun : Entered × List Call → EnteredRow × List CallRow
begun (entered, priors) = (entered_of entered, rows priors)

-- what calls do, by the places of their recipes
abbrev pub parts : Runner → Parts CallRow EnteredRow Entry Failure
parts runner = record { same = same_call; shares = shares_at runner; Begins = Begins runner; Ends = Ends runner }
