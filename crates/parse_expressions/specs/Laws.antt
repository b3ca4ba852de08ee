-- What reading expressions and deriving them have to do with each other.
use Rattle.std.specs.Prelude.{ℕ, ◌≡◌, ◌<◌, List, map, Option, Ok, Err}
use Rattle.just_text.specs.Tokens.{Word, word_of}
use Rattle.just_text.specs.declared.compile_error.CompileErrorKind.TheVariants.{ParsingRecursionDepthExceeded}
use Rattle.tree_expressions.specs.Shape.{Shape}
use Rattle.parse_expressions.specs.Literals.{Expansion}
use Rattle.parse_expressions.specs.Grammar.{depth, Derives}
use Rattle.parse_expressions.specs.Reading.{expression_at, unexpected, refused}

-- What is read is derived, and what is derived is read.
pub record Exactly {T : Type 0} (word : T → Word) (expansion : Expansion) (levels k : ℕ) : Type 0 where
  pub found : (ts rest : List T) (e : Shape) → expression_at word expansion levels k ts ≡ Ok (e, rest) → Derives expansion levels k (map word ts) e (map word rest)
  pub only : (ts : List T) (rest : List Word) (e : Shape) → Derives expansion levels k (map word ts) e rest → (behind : List T) × (expression_at word expansion levels k ts ≡ Ok (e, behind)) × (map word behind ≡ rest)

-- This is so of tokens, and of words alone.
abbrev pub Holds : Type 0
Holds = (expansion : Expansion) (levels k : ℕ) → Exactly word_of expansion levels k

abbrev pub HoldsOfWords : Type 0
HoldsOfWords = (expansion : Expansion) (levels k : ℕ) → Exactly (λ (w : Word). w) expansion levels k

-- Words derive at most one expression, and it ends at one place.
abbrev pub AtMostOne : Type 0
AtMostOne = (expansion : Expansion) (levels k : ℕ) (words rest rest' : List Word) (e e' : Shape) → Derives expansion levels k words e rest → Derives expansion levels k words e' rest' → (e ≡ e') × (rest ≡ rest')

-- Which refusal is told: where something is unexpected there is no expression of any depth, and one that is too deep is refused for that.
pub record TellsWhy {T : Type 0} (word : T → Word) (expansion : Expansion) (levels k : ℕ) : Type 0 where
  pub unexpected : (ts : List T) (rest : List Word) (e : Shape) (more : ℕ) (place : Option T) → expression_at word expansion levels k ts ≡ Err (unexpected place) → Derives expansion more k (map word ts) e rest → ⊥
  pub too_deep : (ts : List T) (rest : List Word) (e : Shape) (more : ℕ) → Derives expansion more k (map word ts) e rest → levels < depth e → (place : T) × (expression_at word expansion levels k ts ≡ Err (refused place ParsingRecursionDepthExceeded))

abbrev pub TellsAlways : Type 0
TellsAlways = (expansion : Expansion) (levels k : ℕ) → TellsWhy word_of expansion levels k
