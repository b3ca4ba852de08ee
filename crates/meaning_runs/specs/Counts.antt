-- How often a run meets and enters calls.
use Rattle.std.specs.Prelude.{◌≡◌, List, [], ◌∷◌, ◌++◌, ℕ, ◌+◌, ◌≤◌, ◌&&◌, not, Bool, true, false, length, Option}
use Rattle.meaning_runs.specs.Parts.{Parts, is_met}
use Rattle.meaning_runs.specs.Goes.{Goes, over, again, entered, not_begun, prior_failed, not_ended, subsequent_failed}
use Rattle.meaning_runs.specs.Tallies.{Tally}

-- no call stands twice
abbrev pub each_once : {Call : Type 0} → (Call → Call → Bool) → List Call → Bool
each_once same [] = true
each_once same (c ∷ cs) = not (is_met same c cs) && each_once same cs

-- those under the same set alone
abbrev pub late : {Call : Type 0} → Bool → List Call → List Call
late true calls = calls
late false calls = []

module _ {Call Bound Entry Failure : Type 0} (p : Parts Call Bound Entry Failure) where
  -- how many priors and subsequents the calls that were entered brought about
  abbrev pub brought : {flag : Bool} {done : List Call} {old : List Entry} {t : Tally} {calls done' : List Call} {new : List Entry} {t' : Tally} {failure : Option Failure} → Goes p flag done old t calls done' new t' failure → ℕ
  brought over = 0
  brought (again u r) = brought r
  brought (entered {priors = ps} {subsequents = ss} u b g e s j r) = (length ps + length ss) + (brought g + brought s + brought r)
  brought (not_begun u b) = 0
  brought (prior_failed {priors = ps} u b g) = length ps + brought g
  brought (not_ended {priors = ps} u b g e) = length ps + brought g
  brought (subsequent_failed {priors = ps} {subsequents = ss} u b g e s) = (length ps + length ss) + (brought g + brought s)

  -- the calls that are entered under the set that was given
  abbrev pub entries_here : {flag : Bool} {done : List Call} {old : List Entry} {t : Tally} {calls done' : List Call} {new : List Entry} {t' : Tally} {failure : Option Failure} → Goes p flag done old t calls done' new t' failure → List Call
  entries_here over = []
  entries_here (again u r) = entries_here r
  entries_here (entered {call = c} u b g e s j r) = c ∷ ((entries_here g ++ late (p.shares c) (entries_here s)) ++ entries_here r)
  entries_here (not_begun {call = c} u b) = c ∷ []
  entries_here (prior_failed {call = c} u b g) = c ∷ entries_here g
  entries_here (not_ended {call = c} u b g e) = c ∷ entries_here g
  entries_here (subsequent_failed {call = c} u b g e s) = c ∷ (entries_here g ++ late (p.shares c) (entries_here s))

  -- no call is entered twice under one set: not under those that subsequents begin with
  abbrev pub OnceBelow : {flag : Bool} {done : List Call} {old : List Entry} {t : Tally} {calls done' : List Call} {new : List Entry} {t' : Tally} {failure : Option Failure} → Goes p flag done old t calls done' new t' failure → Type 0
  OnceBelow over = Unit {0}
  OnceBelow (again u r) = OnceBelow r
  OnceBelow (entered u b g e s j r) = OnceBelow g × ((each_once p.same (entries_here s) ≡ true) × OnceBelow s) × OnceBelow r
  OnceBelow (not_begun u b) = Unit {0}
  OnceBelow (prior_failed u b g) = OnceBelow g
  OnceBelow (not_ended u b g e) = OnceBelow g
  OnceBelow (subsequent_failed u b g e s) = OnceBelow g × ((each_once p.same (entries_here s) ≡ true) × OnceBelow s)

  -- What is told of every run: few calls are met, and none is entered twice under one set.
  pub record IsCounted {flag : Bool} {done : List Call} {old : List Entry} {t : Tally} {calls done' : List Call} {new : List Entry} {t' : Tally} {failure : Option Failure} (run : Goes p flag done old t calls done' new t' failure) : Type 0 where
    pub few : t'.calls ≤ t.calls + (length calls + brought run)
    pub here : each_once p.same (entries_here run) ≡ true
    pub below : OnceBelow run
