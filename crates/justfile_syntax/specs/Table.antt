-- Which tokens may stand side by side.
use Rattle.std.specs.Prelude.{◌≡◌, ℕ, Bool, true, false, not, ◌||◌, ◌==◌, List, ◌++◌, Option, codes}
use Rattle.std.specs.List.{list_any}
use Rattle.just_lexer.specs.Classes.{first, is_word}
use Rattle.just_text.specs.declared.token_kind.TokenKind.{TokenKind}
use Rattle.just_text.specs.declared.token_kind.TokenKind.TheVariants.{Backtick, Bang, BraceL, Colon, ColonColon, ColonEquals, Comment, Eol, Equals, EqualsEquals, EqualsTilde, FormatStringContinue, FormatStringStart, Identifier, Indent, InterpolationStart, Plus, PlusPlus, StringToken, Text, Whitespace}
use Rattle.just_lexer.specs.declared.mode.Open.{Open}
use Rattle.justfile_syntax.specs.Fits.{is_lexeme, last_byte, takes_brace, keeps_apart}

-- whether a token of the one kind may stand right before one of the other
abbrev pub may_precede : TokenKind → TokenKind → Bool
may_precede Backtick Backtick = false
may_precede Bang Equals = false
may_precede Bang EqualsEquals = false
may_precede Bang EqualsTilde = false
may_precede Colon Colon = false
may_precede Colon ColonColon = false
may_precede Colon ColonEquals = false
may_precede Colon Equals = false
may_precede Colon EqualsEquals = false
may_precede Colon EqualsTilde = false
may_precede Comment Eol = true
may_precede Comment _ = false
may_precede Equals Equals = false
may_precede Equals EqualsEquals = false
may_precede Equals EqualsTilde = false
may_precede FormatStringContinue BraceL = false
may_precede FormatStringContinue InterpolationStart = false
may_precede FormatStringStart BraceL = false
may_precede FormatStringStart InterpolationStart = false
may_precede FormatStringStart StringToken = false
may_precede Identifier FormatStringStart = false
may_precede Identifier Identifier = false
may_precede Identifier StringToken = false
may_precede Indent Eol = false
may_precede Indent Indent = false
may_precede Indent Whitespace = false
may_precede InterpolationStart BraceL = false
may_precede InterpolationStart InterpolationStart = false
may_precede Plus Plus = false
may_precede Plus PlusPlus = false
may_precede StringToken StringToken = false
may_precede Text Eol = true
may_precede Text InterpolationStart = true
may_precede Text _ = false
may_precede Whitespace Indent = false
may_precede Whitespace Whitespace = false
may_precede _ Text = false
may_precede _ _ = true

-- the text's end doesn't run into a token of the other kind: no carriage return before a line end, and no half of four braces
abbrev pub ends_well : TokenKind → TokenKind → List ℕ → Bool
ends_well Comment _ text = not (last_byte text == 13)
ends_well Text Eol text = not (last_byte text == 13)
ends_well Text InterpolationStart text = takes_brace text
ends_well _ _ text = true

-- the table tells what keeps apart; the next token itself is apart from what follows it
abbrev pub TableHolds : Type 0
TableHolds = (inner behind : Option Open) (k j : TokenKind) (text next rest : List ℕ) → may_precede k j ≡ true → ends_well k j text ≡ true → is_lexeme inner k text ≡ true → is_lexeme behind j next ≡ true → keeps_apart j next rest ≡ true
    → keeps_apart k text (next ++ rest) ≡ true

-- a byte that runs together with no token but white space, a comment and text: none of a word, of a mark or of quotes, and no brace that opens
abbrev pub is_break : ℕ → Bool
is_break b = not (is_word b || list_any (λ c. b == c) (codes "'\"`{:=~+"))

-- neither white space, nor a comment, nor text
abbrev pub ends_at_breaks : TokenKind → Bool
ends_at_breaks Comment = false
ends_at_breaks Indent = false
ends_at_breaks Text = false
ends_at_breaks Whitespace = false
ends_at_breaks _ = true

-- such a byte keeps each token apart that ends there; so does the end of the text
abbrev pub BreaksKeepApart : Type 0
BreaksKeepApart = (inner : Option Open) (k : TokenKind) (text rest : List ℕ) → ends_at_breaks k ≡ true → is_lexeme inner k text ≡ true → is_break (first rest) ≡ true → keeps_apart k text rest ≡ true
