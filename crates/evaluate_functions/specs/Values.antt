-- What the functions on whole values answer.
use Rattle.std.specs.Prelude.{ℕ, List, [], ◌∷◌, ◌++◌, ◌==◌, ◌||◌, Bool, true, false, cond, codes, Option, Some, None}
use Rattle.std.specs.List.{flat_map}
use Rattle.std.specs.Str.{bytes_eq}
use Rattle.evaluate_functions.specs.declared.values.Affix.{Affix}
use Rattle.evaluate_functions.specs.declared.values.Affix.TheVariants.{Before, Behind}

-- a boolean value under `lists`, else the text `true` or `false`
abbrev pub boolean : Bool → Bool → List (List ℕ)
boolean true truth = cond truth (codes "true" ∷ []) []
boolean false truth = cond truth (codes "true") (codes "false") ∷ []

abbrev pub is_false : List ℕ → Bool
is_false text = bytes_eq text (codes "") || (bytes_eq text (codes "0") || bytes_eq text (codes "false"))

abbrev pub is_true : List ℕ → Bool
is_true text = bytes_eq text (codes "1") || bytes_eq text (codes "true")

-- whether a text says that something is true, where it says either
abbrev pub said : List ℕ → Option Bool
said text = cond (is_false text) (Some false) (cond (is_true text) (Some true) None)

-- a byte between single quotes of a shell: a single quote ends them, stands alone and begins them again
abbrev pub shell_byte : ℕ → List ℕ
shell_byte byte = cond (byte == 39) (codes "'\\''") (byte ∷ [])

-- a text as one word of a shell
abbrev pub quoted : List ℕ → List ℕ
quoted text = codes "'" ++ (flat_map shell_byte text ++ codes "'")

-- a text before or after another
abbrev pub affixed : Affix → List ℕ → List ℕ
affixed (Before affix) text = affix.now ++ text
affixed (Behind affix) text = text ++ affix.now
