-- Runs are naive runs, over steps that go by fixed answers.
use Rattle.std.specs.Prelude.{◌≡◌, ◌<◌, List, [], ◌∷◌, ◌++◌, ℕ, Bool, cond, Option, Some, None, Result, Ok, Err, ◌⊎◌}
use Rattle.std.specs.List.{AllByRecursion}
use Rattle.meaning_runs.specs.Parts.{Parts}
use Rattle.meaning_runs.specs.Naive.{End, went, failed, CallMeaning}

abbrev pub end_by : {Failure : Type 0} → Option Failure → End (Unit {0}) Failure
end_by None = went tt
end_by (Some failure) = failed failure

-- the events of a record: all but the questions
abbrev pub events_of : {Entry : Type 0} → (Entry → Bool) → List Entry → List Entry
events_of is_event [] = []
events_of is_event (e ∷ es) = cond (is_event e) (e ∷ events_of is_event es) (events_of is_event es)

module _ {Call Bound Entry Failure : Type 0} (is_event : Entry → Bool) (Agrees : Entry → Type 0) (m : CallMeaning Call Bound Entry Failure) where
  -- the call begins as its meaning says: head and priors are known, or one of them fails
  abbrev pub IsBegun : Call → Bool → List Entry → Result (Bound × List Call) Failure → Type 0
  IsBegun call flag events (Ok begun) = (m.head call flag ≡ record { events = events; end = went begun.0 }) × (m.priors call flag begun.0 ≡ went begun.1)
  IsBegun call flag events (Err failure) = (m.head call flag ≡ record { events = events; end = failed failure })
      ⊎ ((bound : Bound) × (m.head call flag ≡ record { events = events; end = went bound }) × (m.priors call flag bound ≡ failed failure))

  -- the call ends as its meaning says: its body goes through and its subsequents are known, or one of them fails
  abbrev pub IsEnded : Call → Bool → Bound → List Entry → Result (List Call) Failure → Type 0
  IsEnded call flag bound events (Ok calls) = (m.body call flag bound ≡ record { events = events; end = went tt }) × (m.subsequents call flag bound ≡ went calls)
  IsEnded call flag bound events (Err failure) = (m.body call flag bound ≡ record { events = events; end = failed failure })
      ⊎ ((m.body call flag bound ≡ record { events = events; end = went tt }) × (m.subsequents call flag bound ≡ failed failure))

  -- Steps go by the meaning: the record grows by a piece, and where that agrees with the answers the step is what the meaning says, with the piece's events.
  pub record GoBy (p : Parts Call Bound Entry Failure) : Type 0 where
    pub begun : (call : Call) (flag : Bool) (old new : List Entry) (r : Result (Bound × List Call) Failure) → p.Begins call flag old new r
        → (piece : List Entry) × (new ≡ old ++ piece) × (AllByRecursion Agrees piece → IsBegun call flag (events_of is_event piece) r)
    pub ended : (call : Call) (flag : Bool) (bound : Bound) (old new : List Entry) (r : Result (List Call) Failure) → p.Ends call flag bound old new r
        → (piece : List Entry) × (new ≡ old ++ piece) × (AllByRecursion Agrees piece → IsEnded call flag bound (events_of is_event piece) r)

-- each call brings about calls of lower rank alone
pub record IsRanked {Call Bound Entry Failure : Type 0} (m : CallMeaning Call Bound Entry Failure) (rank : Call → ℕ) : Type 0 where
  pub priors : (call : Call) (flag : Bool) (bound : Bound) (calls : List Call) → m.priors call flag bound ≡ went calls → AllByRecursion (λ c. rank c < rank call) calls
  pub subsequents : (call : Call) (flag : Bool) (bound : Bound) (calls : List Call) → m.subsequents call flag bound ≡ went calls → AllByRecursion (λ c. rank c < rank call) calls

-- with a call of these, those that it brings about are of these too
pub record IsClosed {Call Bound Entry Failure : Type 0} (m : CallMeaning Call Bound Entry Failure) (Of : Call → Type 0) : Type 0 where
  pub priors : (call : Call) (flag : Bool) (bound : Bound) (calls : List Call) → Of call → (m.head call flag).end ≡ went bound → m.priors call flag bound ≡ went calls → AllByRecursion Of calls
  pub subsequents : (call : Call) (flag : Bool) (bound : Bound) (calls : List Call) → Of call → (m.head call flag).end ≡ went bound → m.subsequents call flag bound ≡ went calls → AllByRecursion Of calls

abbrev pub Among : {Call : Type 0} → Call → List Call → Type 0
Among c [] = ⊥
Among c (d ∷ ds) = (c ≡ d) ⊎ Among c ds

-- the calls of the trees of these: they, and what one of them brings about
pub data OfTrees {Call Bound Entry Failure : Type 0} (m : CallMeaning Call Bound Entry Failure) (calls : List Call) : Call → Type 0 where
  called : {c : Call} → Among c calls → OfTrees m calls c
  prior : {c d : Call} (flag : Bool) (bound : Bound) (others : List Call) → OfTrees m calls c → (m.head c flag).end ≡ went bound → m.priors c flag bound ≡ went others → Among d others → OfTrees m calls d
  subsequent : {c d : Call} (flag : Bool) (bound : Bound) (others : List Call) → OfTrees m calls c → (m.head c flag).end ≡ went bound → m.subsequents c flag bound ≡ went others → Among d others → OfTrees m calls d
