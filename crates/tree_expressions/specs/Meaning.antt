-- What a text with escapes stands for, apart from how it is read.
use Rattle.std.specs.Prelude.{◌≡◌, ◌≢◌, ℕ, ◌+◌, ◌*◌, ◌≤◌, Bool, true, false, ◌&&◌, ◌==◌, ◌⊎◌, nat_lt, List, [], ◌∷◌, ◌++◌, length, fold, Result, Ok, Err, codes}
use Rattle.std.specs.List.{list_all, list_any}
use Rattle.std.specs.Char.{digit_value}
use Rattle.tree_expressions.specs.declared.escapes.Escape.TheVariants.{Outside}
use Rattle.tree_expressions.specs.Escaping.{is_scalar, unescaped_from}

-- a hexadecimal digit
abbrev pub is_hex : ℕ → Bool
is_hex c = nat_lt (digit_value c) 16

-- the number that digits spell
abbrev pub spelled : List ℕ → ℕ
spelled digits = fold (λ value c. value * 16 + digit_value c) 0 digits

-- one or more digits that spell a character
abbrev pub spell_character : List ℕ → Bool
spell_character digits = nat_lt 0 (length digits) && is_scalar (spelled digits)

-- up to six digits
pub record AreDigits (digits : List ℕ) : Type 0 where
  pub hex : list_all is_hex digits ≡ true
  pub few : length digits ≤ 6

-- these characters are an escape, and stand for those
pub data IsEscape : List ℕ → List ℕ → Type 0 where
  newline : IsEscape (codes "\\\n") []
  letter_n : IsEscape (codes "\\n") (codes "\n")
  letter_r : IsEscape (codes "\\r") (codes "\r")
  letter_t : IsEscape (codes "\\t") (codes "\t")
  quote : IsEscape (codes "\\\"") (codes "\"")
  backslash : IsEscape (codes "\\\\") (codes "\\")
  number : (digits : List ℕ) → AreDigits digits → spell_character digits ≡ true → IsEscape (codes "\\u{" ++ digits ++ codes "}") (spelled digits ∷ [])

-- these characters stand for those
pub data StandsFor : List ℕ → List ℕ → Type 0 where
  nothing : StandsFor [] []
  plain : (c : ℕ) {cs out : List ℕ} → c ≢ 92 → StandsFor cs out → StandsFor (c ∷ cs) (c ∷ out)
  escaped : {e d cs out : List ℕ} → IsEscape e d → StandsFor cs out → StandsFor (e ++ cs) (d ++ out)

-- these characters begin an escape, and don't end it
pub data IsBegun : List ℕ → Type 0 where
  behind_backslash : IsBegun (codes "\\")
  behind_u : IsBegun (codes "\\u")
  behind_digits : (digits : List ℕ) → AreDigits digits → IsBegun (codes "\\u{" ++ digits)

-- these characters but the last begin an escape, and with the last one they don't
pub data IsBroken : List ℕ → Type 0 where
  by_letter : (c : ℕ) → list_any (λ d. c == d) (codes "u\nnrt\"\\") ≡ false → IsBroken (codes "\\" ++ c ∷ [])
  by_no_brace : (c : ℕ) → c ≢ 123 → IsBroken (codes "\\u" ++ c ∷ [])
  by_no_digit : (digits : List ℕ) (c : ℕ) → AreDigits digits → c ≢ 125 → (is_hex c && nat_lt (length digits) 6) ≡ false → IsBroken ((codes "\\u{" ++ digits) ++ c ∷ [])
  by_number : (digits : List ℕ) → AreDigits digits → spell_character digits ≡ false → IsBroken ((codes "\\u{" ++ digits) ++ codes "}")

-- after characters that stand for something, these are no escape: they break one, or the text ends in them
pub record IsRefusedAt (text bad : List ℕ) : Type 0 where
  pub front : List ℕ
  pub rest : List ℕ
  pub out : List ℕ
  pub whole : text ≡ front ++ (bad ++ rest)
  pub stands : StandsFor front out
  pub bad_is : IsBroken bad ⊎ (IsBegun bad × (rest ≡ []))

-- what the answer to a text has to be
abbrev pub Means : List ℕ → Result (List ℕ) (List ℕ) → Type 0
Means text (Ok out) = StandsFor text out
Means text (Err bad) = IsRefusedAt text bad

abbrev pub AnswersMean : Type 0
AnswersMean = (characters : List ℕ) → Means characters (unescaped_from Outside [] characters)

-- and a text that stands for something is never refused
abbrev pub MeaningsAreAnswered : Type 0
MeaningsAreAnswered = (characters out : List ℕ) → StandsFor characters out → unescaped_from Outside [] characters ≡ Ok out
