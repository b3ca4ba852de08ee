-- Reading looks at the kinds, texts and positions of tokens alone, whatever texts and paths they borrow from.
use Rattle.std.specs.Prelude.{◌≡◌, List}
use Rattle.just_text.specs.Tokens.{word_of}
use Rattle.just_text.specs.declared.compile_error.CompileErrorKind.{CompileErrorKind}
use Rattle.just_text.specs.declared.token.Token.{Token}
use Rattle.just_lexer.specs.Lexes.{piece, piece_word, pieces}
use Rattle.parse_expressions.specs.Literals.{Expansion}
use Rattle.parse_expressions.specs.Reading.{shown}
use Rattle.justfile_syntax.specs.Files.{Entry}
use Rattle.justfile_syntax.specs.Parsed.{HaltsBy}
use Rattle.justfile_syntax.specs.Reading.{file_at}
use Rattle.semver.specs.declared.Version.{Version}
use Rattle.laws_reading.specs.Words.Mapped.{MapsTo, map_halt}

-- reading the pieces of tokens gives what reading the tokens gives, and halts where that halts
abbrev pub FilesGoAlike : Type 0
FilesGoAlike = (expansion : Expansion) (current : Version) (ts : List Token) → MapsTo (map_halt piece) (λ (es : List Entry). es) (file_at word_of expansion current ts) (file_at piece_word expansion current (pieces ts))

-- where tokens have equal pieces, reading the one halts for each reason for which reading the other does, whatever path it names
abbrev pub HaltsAlike : Type 0
HaltsAlike = (expansion : Expansion) (version : Version) (ts us : List Token) → pieces ts ≡ pieces us → (token : Token) (kind : CompileErrorKind)
    → HaltsBy ts (file_at word_of expansion version (shown ts)) token kind → (other : Token) × HaltsBy us (file_at word_of expansion version (shown us)) other kind
