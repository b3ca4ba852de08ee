-- Words of code lead on before what may stand after them.
use Rattle.std.proofs.Common.{◌≡◌, ℕ, true, List, [], ◌∷◌, ◌++◌, Option, None, refl}
use Rattle.just_text.specs.Tokens.{Word}
use Rattle.just_text.specs.declared.token_kind.TokenKind.{TokenKind}
use Rattle.just_text.specs.declared.token_kind.TokenKind.TheVariants.{BraceR, BracketR, ByteOrderMark, Comment, Dedent, Eof, Eol, FormatStringContinue, FormatStringEnd, Indent, InterpolationEnd, InterpolationStart, ParenR, Text, Whitespace}
use Rattle.just_lexer.specs.declared.mode.Open.{Open}
use Rattle.just_lexer.specs.Modes.{Mode, innermost}
use Rattle.just_lexer.specs.Longest.{is_line_kind}
use Rattle.justfile_syntax.specs.Words.{LexesFrom}
use Rattle.justfile_syntax.specs.Fits.{is_lexeme, is_alone, keeps_apart}
use Rattle.justfile_syntax.specs.Table.{ends_well, ends_at_breaks}
use Rattle.justfile_syntax.specs.InCode.{word, is_code, is_plain, is_on_line}
use Rattle.justfile_syntax.specs.Beside.{is_simple, LeadsToBreaks, LeadsToNext, SpacesLeadOn}
use Rattle.justfile_syntax.specs.Lexemes.{is_anywhere}
use Rattle.justfile_syntax.proofs.Table.{both, table_holds, breaks_keep_apart}
use Rattle.justfile_syntax.proofs.InCode.{plain_words}
use Rattle.justfile_syntax.proofs.Lexemes.{lexemes_anywhere}

-- what a simple kind is
record IsSimple (inner : Option Open) (k : TokenKind) (text : List ℕ) : Type 0 where
  plain : is_plain k ≡ true
  on_line : is_on_line k text ≡ true
  allowed : is_line_kind inner k ≡ true
  anywhere : is_anywhere k ≡ true
  breaks : ends_at_breaks k ≡ true

simple : (inner : Option Open) (k : TokenKind) (text : List ℕ) → is_simple k ≡ true → IsSimple inner k text
simple inner BraceR text h = cc
simple inner BracketR text h = cc
simple inner ByteOrderMark text h = cc
simple inner Comment text h = cc
simple inner Dedent text h = cc
simple inner Eof text h = cc
simple inner Eol text h = cc
simple inner FormatStringContinue text h = cc
simple inner FormatStringEnd text h = cc
simple inner Indent text h = cc
simple inner InterpolationEnd text h = cc
simple inner InterpolationStart text h = cc
simple inner ParenR text h = cc
simple inner Text text h = cc
simple inner Whitespace text h = cc
simple inner k text h = record { plain = h; on_line = refl; allowed = refl; anywhere = refl; breaks = refl }

-- a simple word's end needs no more than the table
simple_ends : (k j : TokenKind) (text : List ℕ) → is_simple k ≡ true → ends_well k j text ≡ true
simple_ends Comment j text h = cc
simple_ends Text j text h = cc
simple_ends k j text h = refl

simple_word : (m : Mode) (w : Word) (rest : List ℕ) → is_code m ≡ true → is_simple w.kind ≡ true → is_lexeme None w.kind w.text ≡ true → keeps_apart w.kind w.text rest ≡ true → LexesFrom m (w ∷ []) rest m
simple_word m w rest there h is apart =
    let s = simple (innermost m.opened) w.kind w.text h in
    let here : is_lexeme (innermost m.opened) w.kind w.text ≡ true = lexemes_anywhere None (innermost m.opened) w.kind w.text s.anywhere is in
    plain_words m w rest there s.plain s.on_line
    (both (is_line_kind (innermost m.opened) w.kind) (is_alone (innermost m.opened) w rest) s.allowed (both (is_lexeme (innermost m.opened) w.kind w.text) (keeps_apart w.kind w.text rest) here apart))

pub leads_to_breaks : LeadsToBreaks
leads_to_breaks m w rest there h is break =
    simple_word m w rest there h is (breaks_keep_apart None w.kind w.text rest (simple None w.kind w.text h).breaks is break)

pub leads_to_next : LeadsToNext
leads_to_next m w next behind rest there h is may lexeme apart =
    simple_word m w (next.text ++ rest) there h is (table_holds None behind w.kind next.kind w.text next.text rest may (simple_ends w.kind next.kind w.text h) is lexeme apart)

pub spaces_lead_on : SpacesLeadOn
spaces_lead_on m rest there h = plain_words m (word Whitespace (32 ∷ [])) rest there refl refl h
