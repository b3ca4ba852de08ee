-- Texts that begin with the marks of a command, and texts that end with a backslash.
use Rattle.std.specs.Prelude.{◌≡◌, ℕ, ◌==◌, ◌||◌, true, false, Bool, List, [], ◌∷◌, ◌++◌, length, Ok, Err}
use Rattle.just_host.specs.declared.host.Answer.{Answer}
use Rattle.meaning_dialogues.specs.Dialogue.{Dialogue, Ends, Asks, Reads}

-- the bytes that are marks: quiet, infallible and guard
abbrev pub is_mark : ℕ → Bool
is_mark byte = (byte == 64) || ((byte == 45) || (byte == 63))

abbrev pub AreMarks : List ℕ → Type 0
AreMarks [] = Unit {0}
AreMarks (byte ∷ bytes) = (is_mark byte ≡ true) × AreMarks bytes

-- the text begins with so many marks
pub record BeginsMarked (count : ℕ) (text : List ℕ) : Type 0 where
  pub marks : List ℕ
  pub rest : List ℕ
  pub is : text ≡ marks ++ rest
  pub long : length marks ≡ count
  pub are : AreMarks marks

-- the text ends with a backslash
pub record EndsSlashed (text : List ℕ) : Type 0 where
  pub front : List ℕ
  pub is : text ≡ front ++ 92 ∷ []

-- each value that the dialogue may end with is so
abbrev pub Gives : {A : Type 0} → (A → Type 0) → Dialogue A → Type 0
Gives P (Ends (Ok a)) = P a
Gives P (Ends (Err fault)) = Unit {0}
Gives P (Asks question next) = (answer : Answer) → Gives P (next answer)
Gives P (Reads place variable next) = (value : List (List ℕ)) → Gives P (next value)

-- the text begins with `#!`
pub record BeginsShebang (text : List ℕ) : Type 0 where
  pub rest : List ℕ
  pub is : text ≡ 35 ∷ 33 ∷ rest

-- where a body begins `#!`, so does the first of its texts, if there is one
abbrev pub BeginsAs : Bool → List (List ℕ) → Type 0
BeginsAs true (text ∷ texts) = BeginsShebang text
BeginsAs true [] = Unit {0}
BeginsAs false texts = Unit {0}
