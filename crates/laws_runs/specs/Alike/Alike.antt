-- Runs of calls whose steps go alike under other names.
use Rattle.std.specs.Prelude.{◌≡◌, ◌↔◌, List, Bool, true, map, Option, Ok, Err, IfSome}
use Rattle.std.specs.List.{AllByRecursion}
use Rattle.meaning_runs.specs.Parts.{Parts}
use Rattle.meaning_runs.specs.Goes.{Goes}
use Rattle.meaning_runs.specs.Tallies.{Tally}

-- calls are the same exactly where they are equal
abbrev pub Decides : {Call : Type 0} → (Call → Call → Bool) → Type 0
Decides {Call = Call} same = (a b : Call) → (same a b ≡ true) ↔ (a ≡ b)

module _ {Call Bound Call' Bound' Entry Failure : Type 0} (p : Parts Call Bound Entry Failure) (p' : Parts Call' Bound' Entry Failure) (Of : Call → Type 0) (name : Call → Call') (Same : Call → Bool → Bound → Bound' → Type 0) (Told : Failure → Type 0) where
  -- Steps of calls of a kind go alike under the names there: no two calls have one name, and what a call is bound to here is the same there; so do failures of a kind. They bring about calls of the kind alone.
  pub record StepsAlike : Type 0 where
    pub decides : Decides p.same
    pub decides' : Decides p'.same
    pub injective : (a b : Call) → Of a → Of b → name a ≡ name b → a ≡ b
    pub shares : (call : Call) → Of call → p'.shares (name call) ≡ p.shares call
    pub begun : (call : Call) (flag : Bool) (old new : List Entry) (bound : Bound) (calls : List Call) → Of call → p.Begins call flag old new (Ok (bound, calls))
        → (bound' : Bound') × p'.Begins (name call) flag old new (Ok (bound', map name calls)) × Same call flag bound bound' × AllByRecursion Of calls
    pub not_begun : (call : Call) (flag : Bool) (old new : List Entry) (failure : Failure) → Of call → Told failure → p.Begins call flag old new (Err failure) → p'.Begins (name call) flag old new (Err failure)
    pub ended : (call : Call) (flag : Bool) (bound : Bound) (bound' : Bound') (old new : List Entry) (calls : List Call) → Of call → Same call flag bound bound' → p.Ends call flag bound old new (Ok calls)
        → p'.Ends (name call) flag bound' old new (Ok (map name calls)) × AllByRecursion Of calls
    pub not_ended : (call : Call) (flag : Bool) (bound : Bound) (bound' : Bound') (old new : List Entry) (failure : Failure) → Of call → Same call flag bound bound' → Told failure → p.Ends call flag bound old new (Err failure)
        → p'.Ends (name call) flag bound' old new (Err failure)

  -- a run of calls of the kind that ends with no other failure is one there, under their names
  pub record RunsThere : Type 0 where
    pub goes : (flag : Bool) (done : List Call) (old : List Entry) (t : Tally) (calls done' : List Call) (new : List Entry) (t' : Tally) (failure : Option Failure) → IfSome failure Told → AllByRecursion Of done → AllByRecursion Of calls
        → Goes p flag done old t calls done' new t' failure → Goes p' flag (map name done) old t (map name calls) (map name done') new t' failure

-- where steps go alike, runs do
abbrev pub RunsAlike : Type 0 → Type 0 → Type 0 → Type 0 → Type 0 → Type 0 → Type 1
RunsAlike Call Bound Call' Bound' Entry Failure = (p : Parts Call Bound Entry Failure) (p' : Parts Call' Bound' Entry Failure) (Of : Call → Type 0) (name : Call → Call') (Same : Call → Bool → Bound → Bound' → Type 0) (Told : Failure → Type 0)
    → StepsAlike p p' Of name Same Told → RunsThere p p' Of name Same Told
