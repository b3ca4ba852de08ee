-- A dialogue: what a computation asks of the host and reads of variables, one after another, until it ends.
use Rattle.std.specs.Prelude.{◌≡◌, ◌≢◌, ℕ, List, [], ◌∷◌, ◌++◌, Option, Result, Ok, Err, MatchResult}
use Rattle.just_host.specs.declared.entry.Entry.{Entry}
use Rattle.just_host.specs.declared.entry.Entry.TheVariants.{Asked}
use Rattle.just_host.specs.declared.host.Question.{Question}
use Rattle.just_host.specs.declared.host.Answer.{Answer}
use Rattle.meaning_dialogues.specs.Faults.{Fault, memory}

-- where a variable is read: where the expression stands, or in the module alone, as the body of a function does
pub data Lookup : Type 0 where
  around : Lookup
  in_module : Lookup

-- a variable by its name, and the number that it was resolved to
pub record Variable : Type 0 where
  pub name : List ℕ
  pub number : Option ℕ

pub data Dialogue (A : Type 0) : Type 0 where
  -- it ends with a value or a fault
  Ends : Result A Fault → Dialogue A
  -- it asks the host, and goes on with the answer
  Asks : Question → (Answer → Dialogue A) → Dialogue A
  -- it reads a variable, and goes on with its value
  Reads : Lookup → Variable → (List (List ℕ) → Dialogue A) → Dialogue A

-- one after the other; a fault ends both
infixl 10 ◌>>=◌
abbrev pub ◌>>=◌ : {A B : Type 0} → Dialogue A → (A → Dialogue B) → Dialogue B
Ends (Err fault) >>= f = Ends (Err fault)
Ends (Ok a) >>= f = f a
Asks question next >>= f = Asks question (λ answer. next answer >>= f)
Reads place variable next >>= f = Reads place variable (λ value. next value >>= f)

-- what a variable gives where it is read
abbrev pub Reading : Type 0
Reading = Lookup → Variable → Result (List (List ℕ)) Fault

-- the dialogue leads from one record to another, and to this result
abbrev pub DialogueGoes : {A : Type 0} → Reading → Dialogue A → List Entry → List Entry → Result A Fault → Type 0
DialogueGoes reading (Ends end) old new result = (new ≡ old) × (result ≡ end)
DialogueGoes reading (Asks question next) old new result =
    (answer : Answer) × DialogueGoes reading (next answer) (old ++ Asked question answer ∷ []) new result
DialogueGoes reading (Reads place variable next) old new result =
    MatchResult (reading place variable) (λ value. DialogueGoes reading (next value) old new result) (λ fault. (new ≡ old) × (result ≡ Err fault))

-- what was recorded is the beginning of what the dialogue records: behind it the dialogue can go on to an end
pub record Begins {A : Type 0} (reading : Reading) (dialogue : Dialogue A) (old new : List Entry) : Type 0 where
  pub rest : List Entry
  pub result : Result A Fault
  pub goes : DialogueGoes reading dialogue old (new ++ rest) result

-- an evaluation by a dialogue: where memory suffices it leads from the old record to the new one and to the result; however it ends, what was recorded is the beginning of what the dialogue records
pub record Evaluates {A : Type 0} (reading : Reading) (dialogue : Dialogue A) (old new : List Entry) (result : Result A Fault) : Type 0 where
  pub goes : result ≢ Err memory → DialogueGoes reading dialogue old new result
  pub begins : Begins reading dialogue old new
