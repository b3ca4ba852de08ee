-- The printed texts of token kinds and of refusals.
use Rattle.std.specs.Prelude.{ℕ, List, [], ◌∷◌, ◌++◌, codes, encode_utf8}
use Rattle.std.specs.Fmt.{decimal}
use Rattle.just_text.specs.Fields.{fields_behind}
use Rattle.just_text.specs.declared.token_kind.TokenKind.{TokenKind}
use Rattle.just_text.specs.declared.token_kind.TokenKind.TheVariants.{AmpersandAmpersand, Asterisk, At, Backtick, Bang, BangEquals, BangTilde, BarBar, BraceL, BraceR, BracketL, BracketR, ByteOrderMark, Colon, ColonColon, ColonEquals, Comma, Comment, Dedent, Dollar, Eof, Eol, Equals, EqualsEquals, EqualsTilde, FormatStringContinue, FormatStringEnd, FormatStringStart, Identifier, Indent, InterpolationEnd, InterpolationStart, ParenL, ParenR, Plus, PlusPlus, QuestionMark, Slash, StringToken, Text, Whitespace}
use Rattle.just_text.specs.declared.delimiter.Delimiter.{Delimiter}
use Rattle.just_text.specs.declared.delimiter.Delimiter.TheVariants.{Brace, Bracket, Paren}
use Rattle.just_text.specs.declared.compile_error.CompileErrorKind.{CompileErrorKind}
use Rattle.just_text.specs.declared.compile_error.CompileErrorKind.TheVariants.{OutOfMemory, NumbersUsed, UnknownStartOfToken, UnpairedCarriageReturn, MixedLeadingWhitespace, InconsistentLeadingWhitespace, ExtraLeadingWhitespace, UnexpectedToken, UnexpectedCharacter, UnterminatedString, UnterminatedBacktick, UnterminatedInterpolation, InvalidEscapeSequence, MismatchedClosingDelimiter, UnexpectedClosingDelimiter, ShellExpansion, ParsingRecursionDepthExceeded, BacktickShebang, UnknownSetting, UnknownAttribute, AttributeArgumentCount, InvalidAttribute, DuplicateAttribute, DuplicateParameter, ParameterFollowsVariadic, RequiredParameterFollowsDefault, MinimumVersion, GuardAndInfallible, TwoStars, InvalidSetting}

abbrev pub kind_text : TokenKind → List ℕ
kind_text AmpersandAmpersand = codes "'&&'"
kind_text Asterisk = codes "'*'"
kind_text At = codes "'@'"
kind_text Backtick = codes "backtick"
kind_text Bang = codes "'!'"
kind_text BangEquals = codes "'!='"
kind_text BangTilde = codes "'!~'"
kind_text BarBar = codes "'||'"
kind_text BraceL = codes "'{'"
kind_text BraceR = codes "'}'"
kind_text BracketL = codes "'['"
kind_text BracketR = codes "']'"
kind_text ByteOrderMark = codes "byte order mark"
kind_text Colon = codes "':'"
kind_text ColonColon = codes "'::'"
kind_text ColonEquals = codes "':='"
kind_text Comma = codes "','"
kind_text Comment = codes "comment"
kind_text Dedent = codes "dedent"
kind_text Dollar = codes "'$'"
kind_text Eof = codes "end of file"
kind_text Eol = codes "end of line"
kind_text Equals = codes "'='"
kind_text EqualsEquals = codes "'=='"
kind_text EqualsTilde = codes "'=~'"
kind_text FormatStringContinue = codes "format string continuation"
kind_text FormatStringEnd = codes "format string end"
kind_text FormatStringStart = codes "format string"
kind_text Identifier = codes "identifier"
kind_text Indent = codes "indent"
kind_text InterpolationEnd = codes "'}}'"
kind_text InterpolationStart = codes "'{{'"
kind_text ParenL = codes "'('"
kind_text ParenR = codes "')'"
kind_text Plus = codes "'+'"
kind_text PlusPlus = codes "'++'"
kind_text QuestionMark = codes "'?'"
kind_text Slash = codes "'/'"
kind_text StringToken = codes "string"
kind_text Text = codes "command text"
kind_text Whitespace = codes "whitespace"

-- the character that opens
abbrev pub opening : Delimiter → ℕ
opening Brace = 123
opening Bracket = 91
opening Paren = 40

-- the character that closes
abbrev pub closing : Delimiter → ℕ
closing Brace = 125
closing Bracket = 93
closing Paren = 41

-- the name of a refusal
abbrev pub error_name : CompileErrorKind → List ℕ
error_name OutOfMemory = codes "out of memory"
error_name NumbersUsed = codes "numbers used"
error_name (UnknownStartOfToken _) = codes "unknown start of token"
error_name (UnexpectedCharacter _) = codes "unexpected character"
error_name UnpairedCarriageReturn = codes "unpaired carriage return"
error_name UnterminatedString = codes "unterminated string"
error_name UnterminatedBacktick = codes "unterminated backtick"
error_name UnterminatedInterpolation = codes "unterminated interpolation"
error_name (InvalidEscapeSequence _) = codes "invalid escape sequence"
error_name MixedLeadingWhitespace = codes "mixed leading whitespace"
error_name InconsistentLeadingWhitespace = codes "inconsistent leading whitespace"
error_name ExtraLeadingWhitespace = codes "extra leading whitespace"
error_name (UnexpectedToken _) = codes "unexpected token"
error_name (MismatchedClosingDelimiter _ _) = codes "mismatched closing delimiter"
error_name (UnexpectedClosingDelimiter _) = codes "unexpected closing delimiter"
error_name (ShellExpansion _) = codes "shell expansion"
error_name ParsingRecursionDepthExceeded = codes "parsing recursion depth exceeded"
error_name BacktickShebang = codes "backtick shebang"
error_name (UnknownSetting _) = codes "unknown setting"
error_name (UnknownAttribute _) = codes "unknown attribute"
error_name (AttributeArgumentCount _ _) = codes "attribute argument count"
error_name (InvalidAttribute _ _) = codes "invalid attribute"
error_name (DuplicateAttribute _) = codes "duplicate attribute"
error_name (DuplicateParameter _) = codes "duplicate parameter"
error_name (ParameterFollowsVariadic _) = codes "parameter follows variadic"
error_name (RequiredParameterFollowsDefault _) = codes "required parameter follows default"
error_name (MinimumVersion _ _) = codes "minimum version"
error_name GuardAndInfallible = codes "guard and infallible"
error_name TwoStars = codes "two stars"
error_name (InvalidSetting _ _) = codes "invalid setting"

-- what a refusal names, in order
abbrev pub error_fields : CompileErrorKind → List (List ℕ)
error_fields (UnknownStartOfToken start) = encode_utf8 start ∷ []
error_fields (UnexpectedCharacter expected) = encode_utf8 expected ∷ []
error_fields (InvalidEscapeSequence text) = text ∷ []
error_fields (UnexpectedToken found) = kind_text found ∷ []
error_fields (MismatchedClosingDelimiter opener closer) = encode_utf8 (opening opener) ∷ encode_utf8 (closing closer) ∷ []
error_fields (UnexpectedClosingDelimiter closer) = encode_utf8 (closing closer) ∷ []
error_fields (ShellExpansion text) = text ∷ []
error_fields (UnknownSetting name) = name ∷ []
error_fields (UnknownAttribute name) = name ∷ []
error_fields (AttributeArgumentCount name found) = name ∷ decimal found ∷ []
error_fields (InvalidAttribute name item) = name ∷ item ∷ []
error_fields (DuplicateAttribute name) = name ∷ []
error_fields (DuplicateParameter name) = name ∷ []
error_fields (ParameterFollowsVariadic name) = name ∷ []
error_fields (RequiredParameterFollowsDefault name) = name ∷ []
error_fields (MinimumVersion required current) = required ∷ current ∷ []
error_fields (InvalidSetting name text) = name ∷ text ∷ []
error_fields _ = []

abbrev pub error_text : CompileErrorKind → List ℕ
error_text kind = error_name kind ++ fields_behind (error_fields kind)
