-- What goes out, and what a write does.
use Rattle.std.specs.Prelude.{ℕ, List, ◌≡◌, ◌+◌, ◌<◌, ◌≤◌, ◌++◌, take, length, Option, MatchOption}

-- what went out so far, and how often a write failed
pub record Sent : Type 0 where
  pub written : List ℕ
  pub failed : ℕ

-- a beginning of the text went out, of at least one byte where there is one
pub record TakesFirst (old text : List ℕ) (count : ℕ) (new : List ℕ) : Type 0 where
  pub within : count ≤ length text
  pub moves : 0 < length text → 0 < count
  pub bytes : new ≡ old ++ take count text

-- a beginning went out and nothing failed, or nothing went out and one write more failed
abbrev pub IsWritten : Sent → List ℕ → Option ℕ → Sent → Type 0
IsWritten old text result new =
    MatchOption result ((new.written ≡ old.written) × (new.failed ≡ old.failed + 1)) (λ count. TakesFirst old.written text count new.written × (new.failed ≡ old.failed))

-- the text but for the rest went out
pub record WentOut (old text rest new : List ℕ) : Type 0 where
  pub sent : List ℕ
  pub split : text ≡ sent ++ rest
  pub bytes : new ≡ old ++ sent

-- a beginning of the text went out
pub record IsPartOf (old text new : List ℕ) : Type 0 where
  pub rest : List ℕ
  pub went : WentOut old text rest new
