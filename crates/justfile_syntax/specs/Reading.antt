-- How files are read.
use Rattle.std.specs.Prelude.{ℕ, zero, suc, List, [], ◌∷◌, length, Some, Result, Ok, Err, if◌then◌else◌}
use Rattle.std.specs.Str.{trim_end}
use Rattle.just_text.specs.Tokens.{Word}
use Rattle.just_text.specs.declared.token_kind.TokenKind.TheVariants.{ByteOrderMark, Comment, Eof, Eol}
use Rattle.tree_items.specs.Files.{comment_item, newline_item}
use Rattle.parse_expressions.specs.Literals.{Expansion}
use Rattle.parse_expressions.specs.Reading.{◌>>=◌, on, Read, unexpected, first, accept, expect, is_next}
use Rattle.parse_expressions.specs.LineEnds.{eol_at}
use Rattle.parse_attributed_items.specs.Halting.{Halt, stopped, or_stopped}
use Rattle.parse_attributed_items.specs.Reading.{attributed_at}
use Rattle.justfile_syntax.specs.Files.{Entry}
use Rattle.semver.specs.declared.Version.{Version}

module _ {T : Type 0} (word : T → Word) where
  -- what is after a byte order mark, if there is one
  unfoldable pub behind_mark : List T → List T
  behind_mark ts = on (accept word ByteOrderMark ts) ts (λ p. p.1)

  -- the text of a comment alone on its line
  unfoldable pub comment_at : List T → Read T (List ℕ)
  comment_at ts = expect word Comment ts >>= λ c. eol_at word c.1 >>= λ rest. Ok (trim_end (word c.0).text, rest)

  -- nothing where the tokens end
  abbrev pub ended : List T → Result (List Entry) (Halt T)
  ended [] = Ok []
  ended (t ∷ ts) = Err (stopped (unexpected (Some t)))

  module _ (expansion : Expansion) (current : Version) where
    -- a comment alone on its line, or an item after its attributes
    unfoldable pub filled_at : List T → Result (Entry × List T) (Halt T)
    filled_at ts =
        if is_next word Comment ts
        then or_stopped (comment_at ts >>= λ c. Ok ((comment_item c.0, 0), c.1))
        else attributed_at word expansion current ts

    -- a blank line, or one of these
    unfoldable pub entry_at : List T → Result (Entry × List T) (Halt T)
    entry_at ts = on (accept word Eol ts) (filled_at ts) (λ p. Ok ((newline_item, 0), p.1))

    -- Entries up to the end. The number bounds the turns, for which the count of the tokens is always enough.
    unfoldable pub entries_at : ℕ → List T → Result (List Entry) (Halt T)
    entries_at zero ts = Err (stopped (unexpected (first ts)))
    entries_at (suc n) ts = on (accept word Eof ts) (entry_at ts >>= λ e. entries_at n e.1 >>= λ es. Ok (e.0 ∷ es)) (λ p. ended p.1)

    -- the entries of a file
    unfoldable pub file_at : List T → Result (List Entry) (Halt T)
    file_at ts = entries_at (suc (length ts)) (behind_mark ts)
