-- Tokens by what they say, without where they lie in memory.
use Rattle.std.specs.Prelude.{ℕ, List, take, drop, map, Option, Some, None}
use Rattle.just_text.specs.declared.token_kind.TokenKind.{TokenKind}
use Rattle.just_text.specs.declared.token.Token.{Token}
use Rattle.just_text.specs.declared.compile_error.CompileError.{CompileError}
use Rattle.just_text.specs.declared.compile_error.CompileErrorKind.{CompileErrorKind}
use Rattle.just_text.specs.declared.compile_error.CompileErrorKind.TheVariants.{OutOfMemory, NumbersUsed}

-- the text of a token
abbrev pub lexeme : Token → List ℕ
lexeme t = take t.length (drop t.offset t.src.now)

-- a token as it is written: its kind and its text
pub record Word : Type 0 where
  pub kind : TokenKind
  pub text : List ℕ

abbrev pub word_of : Token → Word
word_of t = record { kind = t.kind; text = lexeme t }

abbrev pub words_of : List Token → List Word
words_of ts = map word_of ts

-- the place, if refusals of the kind have one
abbrev pub placed : CompileErrorKind → Token → Option Token
placed OutOfMemory token = None
placed NumbersUsed token = None
placed _ token = Some token

-- where a refusal stands, if it has a place
abbrev pub place_of : CompileError → Option Token
place_of e = placed e.kind e.token
