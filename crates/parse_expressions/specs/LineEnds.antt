-- Ends of lines: what they are in words, and how they are read.
use Rattle.std.specs.Prelude.{◌≡◌, ◌⊎◌, List, Result, Ok, Err, if◌then◌else◌}
use Rattle.just_text.specs.Tokens.{Word}
use Rattle.just_text.specs.declared.token_kind.TokenKind.TheVariants.{Comment, Eof, Eol}
use Rattle.parse_expressions.specs.Words.{Mark}
use Rattle.parse_expressions.specs.Reading.{on, Stop, unexpected, first, accept, is_next}
use Rattle.parse_expressions.specs.Strings.{IsAside}

-- Up to rest a line ends, perhaps after a comment. The end of the file serves too, and is not taken.
abbrev pub IsEol : List Word → List Word → Type 0
IsEol words rest = (a : List Word) × IsAside words a × (Mark Eol a rest ⊎ ((a ≡ rest) × ((after : List Word) × Mark Eof a after)))

module _ {T : Type 0} (word : T → Word) where
  unfoldable pub eol_at : List T → Result (List T) (Stop T)
  eol_at ts =
      let a = on (accept word Comment ts) ts (λ p. p.1) in
      on (accept word Eol a) (if is_next word Eof a then Ok a else Err (unexpected (first a))) (λ p. Ok p.1)
