-- What becomes of a recorded host as it is asked.
use Rattle.std.specs.Prelude.{List, Err, true, false, ◌≡◌, [], ◌∷◌, ◌++◌, ◌⊎◌}
use Rattle.just_host.specs.declared.entry.Entry.{Entry}
use Rattle.just_host.specs.declared.entry.Entry.TheVariants.{Asked, Line, Script, Confirm, Show, Dotenv}
use Rattle.just_host.specs.declared.host.Answer.TheVariants.{Fault}
use Rattle.just_host.specs.declared.host.HostFault.TheVariants.{Memory}
use Rattle.just_host.specs.Record.{Record}

-- the questions alone, requests for files of variables among them, which are all that a planning host passes on
abbrev pub questions : List Entry → List Entry
questions [] = []
questions (Asked question answer ∷ more) = Asked question answer ∷ questions more
questions (Dotenv request answer ∷ more) = Dotenv request answer ∷ questions more
questions (Line _ _ ∷ more) = questions more
questions (Script _ _ ∷ more) = questions more
questions (Confirm _ _ ∷ more) = questions more
questions (Show _ ∷ more) = questions more

-- what is handed out where the answer of an entry finds no memory
abbrev pub unanswered : Entry → Entry
unanswered (Asked question _) = Asked question (Fault Memory)
unanswered (Dotenv request _) = Dotenv request (Err Memory)
unanswered (Line job status) = Line job status
unanswered (Script job status) = Script job status
unanswered (Confirm prompt answer) = Confirm prompt answer
unanswered (Show text) = Show text

-- the part is a beginning of the piece, but that the piece may lack the answer of the part's last entry
abbrev pub Begins : List Entry → List Entry → Type 0
Begins [] piece = Unit {0}
Begins (kept ∷ part) [] = ⊥
Begins (kept ∷ part) (given ∷ piece) = ((given ≡ kept) × Begins part piece) ⊎ ((given ≡ unanswered kept) × (part ≡ []))

-- the record grew by a part of what was asked and the host went along by just that part, which is all of it unless memory was wanting, and nothing where it was wanting before
pub record Follows {H : Type 0} (goes : H → List Entry → H → Type 0) (old : Record H) (piece : List Entry) (new : Record H) : Type 0 where
  pub part : List Entry
  pub entries : new.entries ≡ old.entries ++ part
  pub host : goes old.host part new.host
  pub whole : new.exhausted ≡ false → part ≡ piece
  pub begins : Begins part piece
  pub stays : old.exhausted ≡ true → new ≡ old

-- asked nothing, a host may stay as it is
abbrev pub Nothing : {H : Type 0} → (H → List Entry → H → Type 0) → Type 0
Nothing {H = H} goes = (a : H) → goes a [] a

-- two rows of entries in order are one row
abbrev pub Joins : {H : Type 0} → (H → List Entry → H → Type 0) → Type 0
Joins {H = H} goes = (a b c : H) (p q : List Entry) → goes a p b → goes b q c → goes a (p ++ q) c
