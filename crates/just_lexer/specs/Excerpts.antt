-- What an excerpt prints.
use Rattle.std.specs.Prelude.{ℕ, ◌+◌, List, [], ◌∷◌, ◌++◌, length, take, drop, replicate, max, codes, nat_eq, if◌then◌else◌}
use Rattle.std.specs.Char.{is_newline}
use Rattle.std.specs.Fmt.{decimal}
use Rattle.std.specs.List.{after_last, starts_with}
use Rattle.std.specs.Str.Lines.{lines}
use Rattle.just_text.specs.declared.token.Token.{Token}
use Rattle.just_text.specs.Tokens.{lexeme}
use Rattle.just_lexer.specs.Columns.{columns, shown}

-- the first of the lines, if there is one
abbrev pub first_or_empty : List (List ℕ) → List ℕ
first_or_empty [] = []
first_or_empty (line ∷ more) = line

-- the text up to its first line end
abbrev pub first_line : List ℕ → List ℕ
first_line text = first_or_empty (lines text)

-- the text after its last newline
abbrev pub last_line : List ℕ → List ℕ
last_line text = after_last is_newline text

-- the byte order mark, U+FEFF
abbrev pub byte_order_mark : List ℕ
byte_order_mark = 0xEF ∷ 0xBB ∷ 0xBF ∷ []

-- the text after the byte order mark, if it begins with one
abbrev pub behind_mark : List ℕ → List ℕ
behind_mark text = if starts_with nat_eq text byte_order_mark then drop (length byte_order_mark) text else text

-- what stands before the token on its line
abbrev pub before : Token → List ℕ
before t = last_line (behind_mark (take t.offset t.src.now))

-- what stands on the line from the token on
abbrev pub onward : Token → List ℕ
onward t = first_line (drop t.offset t.src.now)

-- the part of the token on its first line
abbrev pub covered : Token → List ℕ
covered t = first_line (lexeme t)

-- as many spaces as the line's number, from 1, has digits
abbrev pub margin : Token → List ℕ
margin t = replicate (length (decimal (t.line + 1))) 32

-- the path, the line and the column, both from 1
abbrev pub place_line : Token → List ℕ
place_line t = margin t ++ codes "--> " ++ t.path.now ++ codes ":" ++ decimal (t.line + 1) ++ codes ":" ++ decimal (t.column + 1)

-- the line's number and the line
abbrev pub source_line : Token → List ℕ
source_line t = decimal (t.line + 1) ++ codes " | " ++ shown (before t) ++ shown (onward t)

-- spaces up to the token, and a caret for each column that it takes on its line, at least one
abbrev pub mark_line : Token → List ℕ
mark_line t = margin t ++ codes " | " ++ replicate (columns (before t)) 32 ++ replicate (max (columns (covered t)) 1) 94

-- the four lines, with a newline between two
abbrev pub excerpt : Token → List ℕ
excerpt t = place_line t ++ codes "\n" ++ margin t ++ codes " |\n" ++ source_line t ++ codes "\n" ++ mark_line t
