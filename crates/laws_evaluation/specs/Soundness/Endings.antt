-- What a dialogue may read, and how it may end.
use Rattle.std.specs.Prelude.{◌≡◌, false, Result, Ok, Err}
use Rattle.just_host.specs.declared.host.Answer.{Answer}
use Rattle.meaning_dialogues.specs.Faults.{Fault}
use Rattle.meaning_dialogues.specs.Dialogue.{Dialogue, Ends, Asks, Reads, Lookup, Variable}
use Rattle.meaning_dialogues.specs.Evaluation.{Value}
use Rattle.meaning_dialogues.specs.Internal.{is_internal}

-- a value of this kind, or a fault other than `internal`
abbrev pub GivesProperly : {A : Type 0} → (A → Type 0) → Result A Fault → Type 0
GivesProperly Q (Ok value) = Q value
GivesProperly Q (Err fault) = is_internal fault ≡ false

-- any value, or a fault other than `internal`
abbrev pub NotInternal : {A : Type 0} → Result A Fault → Type 0
NotInternal result = GivesProperly (λ value. Unit {0}) result

-- it reads only such variables and each of its ends is so, whatever is answered and read
abbrev pub ReadsAndEnds : {A : Type 0} → (Lookup → Variable → Type 0) → (Result A Fault → Type 0) → Dialogue A → Type 0
ReadsAndEnds W P (Ends end) = P end
ReadsAndEnds W P (Asks question next) = (answer : Answer) → ReadsAndEnds W P (next answer)
ReadsAndEnds W P (Reads place x next) = W place x × ((value : Value) → ReadsAndEnds W P (next value))

abbrev pub AnyVariable : Lookup → Variable → Type 0
AnyVariable place x = Unit {0}

-- each of its ends is so, whatever it reads
abbrev pub EndsWith : {A : Type 0} → (Result A Fault → Type 0) → Dialogue A → Type 0
EndsWith P d = ReadsAndEnds AnyVariable P d

-- it reads only such variables, and never ends with `internal`
abbrev pub Proper : {A : Type 0} → (Lookup → Variable → Type 0) → Dialogue A → Type 0
Proper W d = ReadsAndEnds W NotInternal d

-- it never ends with `internal`, whatever it reads
abbrev pub NeverInternal : {A : Type 0} → Dialogue A → Type 0
NeverInternal d = EndsWith NotInternal d
