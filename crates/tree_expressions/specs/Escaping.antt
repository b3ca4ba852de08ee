-- What the escapes of a double quoted string stand for.
use Rattle.std.specs.Prelude.{ℕ, ◌+◌, ◌*◌, ◌^◌, ◌<◌, ◌≤◌, Bool, ◌&&◌, ◌||◌, ◌==◌, nat_lt, if◌then◌else◌, List, [], ◌∷◌, ◌++◌, Result, Ok, Err}
use Rattle.std.specs.Str.{chars, encode_utf8_all}
use Rattle.std.specs.Char.{digit_value}
use Rattle.just_text.specs.declared.compile_error.CompileErrorKind.{CompileErrorKind}
use Rattle.just_text.specs.declared.compile_error.CompileErrorKind.TheVariants.{InvalidEscapeSequence}
use Rattle.tree_expressions.specs.declared.escapes.Escape.{Escape}
use Rattle.tree_expressions.specs.declared.escapes.Escape.TheVariants.{Outside, Backslash, Unicode, Digits}
use Rattle.tree_expressions.specs.declared.escapes.Step.{Step}
use Rattle.tree_expressions.specs.declared.escapes.Step.TheVariants.{Adds, Skips, Reads, Breaks}

-- the number is a character: no surrogate, and none above 10FFFF
abbrev pub is_scalar : ℕ → Bool
is_scalar value = nat_lt value 0xD800 || (nat_lt 0xDFFF value && nat_lt value 0x110000)

-- what stands after a backslash: `u`, a newline, or a character with a meaning
abbrev pub behind_backslash : ℕ → Step
behind_backslash c =
    if c == 117 then Reads Unicode
    else if c == 10 then Skips
    else if c == 110 then Adds 10
    else if c == 114 then Adds 13
    else if c == 116 then Adds 9
    else if c == 34 then Adds 34
    else if c == 92 then Adds 92
    else Breaks

-- after `\u{` and so many digits of this value: up to six digits, and `}` after at least one
abbrev pub behind_digits : ℕ → ℕ → ℕ → Step
behind_digits count value c =
    if c == 125 then (if nat_lt 0 count && is_scalar value then Adds value else Breaks)
    else if nat_lt (digit_value c) 16 && nat_lt count 6 then Reads (Digits (count + 1) (value * 16 + digit_value c))
    else Breaks

-- a place in an escape: up to six digits, of four bits each
pub record IsDigits (count value : ℕ) : Type 0 where
  pub few : count ≤ 6
  pub small : value < 2 ^ (4 * count)

abbrev pub IsPlace : Escape → Type 0
IsPlace (Digits count value) = IsDigits count value
IsPlace escape = Unit {0}

abbrev pub LeadsOn : Step → Type 0
LeadsOn (Reads escape) = IsPlace escape
LeadsOn step = Unit {0}

-- what a character does at its place
unfoldable pub turn : Escape → ℕ → Step
turn Outside c = if c == 92 then Reads Backslash else Adds c
turn Backslash c = behind_backslash c
turn Unicode c = if c == 123 then Reads (Digits 0 0) else Breaks
turn (Digits count value) c = behind_digits count value c

-- a character in front of a text that stands
abbrev pub onto : ℕ → Result (List ℕ) (List ℕ) → Result (List ℕ) (List ℕ)
onto c (Ok cs) = Ok (c ∷ cs)
onto c (Err bad) = Err bad

-- the end of a text: an escape that is begun is none
abbrev pub at_end : Escape → List ℕ → Result (List ℕ) (List ℕ)
at_end Outside begun = Ok []
at_end escape begun = Err begun

-- what follows a step, where these characters are read of an escape
abbrev pub goes_on : Step → List ℕ → (Escape → List ℕ → Result (List ℕ) (List ℕ)) → Result (List ℕ) (List ℕ)
goes_on (Adds d) begun rest = onto d (rest Outside [])
goes_on Skips begun rest = rest Outside []
goes_on (Reads escape) begun rest = rest escape begun
goes_on Breaks begun rest = Err begun

-- what characters stand for, or the first escape that is none, up to its last character read
unfoldable pub unescaped_from : Escape → List ℕ → List ℕ → Result (List ℕ) (List ℕ)
unescaped_from escape begun [] = at_end escape begun
unescaped_from escape begun (c ∷ cs) = goes_on (turn escape c) (begun ++ c ∷ []) (λ next read. unescaped_from next read cs)

-- the same in bytes, as a refusal
abbrev pub encoded : Result (List ℕ) (List ℕ) → Result (List ℕ) CompileErrorKind
encoded (Ok cs) = Ok (encode_utf8_all cs)
encoded (Err bad) = Err (InvalidEscapeSequence (encode_utf8_all bad))

-- what a text with escapes stands for
unfoldable pub unescaped : List ℕ → Result (List ℕ) CompileErrorKind
unescaped text = encoded (unescaped_from Outside [] (chars text))
