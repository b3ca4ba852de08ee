-- What printing and deriving expressions have to do with each other.
use Rattle.std.specs.Prelude.{ℕ, ◌≡◌, true, List, ◌++◌}
use Rattle.just_text.specs.Tokens.{Word}
use Rattle.just_text.specs.declared.token_kind.TokenKind.TheVariants.{ParenL}
use Rattle.tree_expressions.specs.Operators.{Binary}
use Rattle.tree_expressions.specs.Shape.{Shape}
use Rattle.tree_expressions.specs.Printing.{text_of}
use Rattle.tree_items.specs.Printable.{takes_else}
use Rattle.parse_expressions.specs.Words.{Lacks, LacksKeyword, else_keyword, significant}
use Rattle.parse_expressions.specs.Operators.{sign}
use Rattle.parse_expressions.specs.Literals.{Expansion}
use Rattle.parse_expressions.specs.Grammar.{Derives}
use Rattle.laws_printing.specs.Printing.Words.{words_of}
use Rattle.justfile_syntax.specs.Words.{joined}

-- nothing that an expression would take follows in the second place and not in the first
pub record Quieter (before after : List Word) : Type 0 where
  pub calls : Lacks ParenL before → Lacks ParenL after
  pub operators : (operator : Binary) → Lacks (sign operator) before → Lacks (sign operator) after

-- an expression that would take an `else` has none after it
abbrev pub Closed : Shape → List Word → Type 0
Closed e after = takes_else e ≡ true → LacksKeyword else_keyword after

-- what is derived before the rest is derived from the words that are printed, before what is quieter
abbrev pub SpellsBack : Type 0
SpellsBack = (expansion : Expansion) (levels k : ℕ) (words rest after : List Word) (e : Shape) → Derives expansion levels k words e rest → Quieter rest (significant after) → Closed e (significant after)
    → Derives expansion levels k (significant (words_of e after)) e (significant after)

-- their text is what is printed
abbrev pub TextsOfWords : Type 0
TextsOfWords = (e : Shape) (after : List Word) (rest : List ℕ) → joined (words_of e after) rest ≡ text_of e ++ joined after rest
