-- What a run of calls is made of, for every host.
use Rattle.std.specs.Prelude.{◌≡◌, ◌<◌, ℕ, List, Bool, ◌||◌, Result, Ok}
use Rattle.std.specs.List.{list_any, AllByRecursion}

-- The steps of one call, each from one record to the next: how it begins (what it is bound to, its confirmation, and the
-- calls before its body), and how it ends (its body, and the calls after that). A call is one of a recipe with its groups.
pub record Parts (Call Bound Entry Failure : Type 0) : Type 1 where
  pub same : Call → Call → Bool
  -- whether the calls after its body run among those done
  pub shares : Call → Bool
  pub Begins : Call → Bool → List Entry → List Entry → Result (Bound × List Call) Failure → Type 0
  pub Ends : Call → Bool → Bound → List Entry → List Entry → Result (List Call) Failure → Type 0

-- whether a call is among those that are done
abbrev pub is_met : {Call : Type 0} → (Call → Call → Bool) → Call → List Call → Bool
is_met same call done = list_any (λ d. same call d) done

-- the call joins those that are done
abbrev pub Joins : {Call : Type 0} → (Call → Call → Bool) → Call → List Call → List Call → Type 0
Joins {Call = Call} same call old new = (c : Call) → is_met same c new ≡ (same call c || is_met same c old)

-- each call brings about calls of lower rank alone
pub record AreRanked {Call Bound Entry Failure : Type 0} (p : Parts Call Bound Entry Failure) (rank : Call → ℕ) : Type 0 where
  pub begins : (call : Call) (flag : Bool) (old new : List Entry) (bound : Bound) (calls : List Call) → p.Begins call flag old new (Ok (bound, calls)) → AllByRecursion (λ c. rank c < rank call) calls
  pub ends : (call : Call) (flag : Bool) (bound : Bound) (old new : List Entry) (calls : List Call) → p.Ends call flag bound old new (Ok calls) → AllByRecursion (λ c. rank c < rank call) calls
