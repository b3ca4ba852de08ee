-- Where the code finds no token, the refusal says why.
use Rattle.std.proofs.Common.{◌≡◌, ◌≢◌, ℕ, ◌+◌, ◌<◌, ◌≤◌, Bool, true, false, not, cond, ◌&&◌, ◌||◌, ◌==◌, ◌⊎◌, List, [], ◌∷◌, ◌++◌, length, drop, IsUtf8, Ok, Err, Option, Some, None, is_some, refl, sym, ap, ◌∙◌, subst, inl, inr, arith, eqb-true}
use Rattle.std.specs.Prelude.{encode_utf8, IfSome}
use Rattle.std.specs.List.{prefix_len}
use Rattle.std.specs.Str.{chars}
use Rattle.std.proofs.Math.Utf8.{encodes}
use Rattle.std.proofs.lemmas.Bool.{cases_lt, and_parts, cond_both, eqb-false, false_from_ne_true}
use Rattle.std.proofs.lemmas.Bool.Decides.{nat_tests}
use Rattle.std.proofs.lemmas.Str.{encodes-chars, byte_from_char}
use Rattle.just_text.specs.Texts.{closing}
use Rattle.just_text.specs.declared.delimiter.Delimiter.{Delimiter}
use Rattle.just_text.specs.declared.delimiter.Delimiter.TheVariants as delimiters
use Rattle.just_text.specs.declared.token_kind.TokenKind.{TokenKind}
use Rattle.just_text.specs.declared.token_kind.TokenKind.TheVariants.{AmpersandAmpersand, Asterisk, At, Backtick, Bang, BangEquals, BangTilde, BarBar, BraceL, BracketL, ByteOrderMark, Colon, ColonColon, ColonEquals, Comma, Comment, Dedent, Dollar, Eof, Eol, Equals, EqualsEquals, EqualsTilde, FormatStringStart, Identifier, Indent, InterpolationEnd, InterpolationStart, ParenL, Plus, PlusPlus, QuestionMark, Slash, StringToken, Text, Whitespace}
use Rattle.just_lexer.specs.declared.fault.Fault.{Fault}
use Rattle.just_lexer.specs.declared.fault.Fault.TheVariants as faults
use Rattle.just_lexer.specs.declared.quotes.Quotes.{Quotes}
use Rattle.just_lexer.specs.declared.mode.Indentation.{Indentation}
use Rattle.just_lexer.specs.declared.mode.Open.{Open}
use Rattle.just_lexer.specs.declared.mode.Open.TheVariants.{Bracket, Interpolation, FormatInterpolation}
use Rattle.just_lexer.specs.declared.mode.Line.{Line}
use Rattle.just_lexer.specs.declared.mode.Line.TheVariants.{Begin, Start, Ahead, Inside, BodyStart, BodyLine, Over}
use Rattle.just_lexer.specs.Classes.{first, second, is_letter, is_word, is_blank, is_quote, line_end_len, at_line_end, continued_len, at_continuation, at_closing_braces, at_byte_order_mark, line_len, text_len, blank_len, is_blank_line, is_indented, is_mixed, breaks_off}
use Rattle.just_lexer.specs.Strings.{quotes_len, quotes_at, part_len, has_end, end_len, ended_len, opened_len, opens_string, is_unclosed}
use Rattle.just_lexer.specs.Modes.{Mode, innermost, in_brackets, has_indentation, indent_width, is_over, is_in_code, is_in_body}
use Rattle.just_lexer.specs.Lexed.{Reason, InCode, begins_token, opens_unclosed, goes_on_unclosed, is_in_bracket}
use Rattle.just_lexer.specs.Lexing.{Found, sized, mark_of, twice, single_kind, closer_of, closer_kind, close_token, part_token, closing_token, other_token, closer_token, single_or_closer, single_token, mark_token, blank_token, word_token, line_token, start_token, begin_token, body_start_token, body_line_token, interpolation_token, token_at, kind_of}
use Rattle.just_lexer.proofs.Steps.{closer_is}

-- tests

neither : (a b : Bool) → (a || b) ≡ false → (a ≡ false) × (b ≡ false)
neither true b e = cc
neither false b e = (refl, e)

or_true : (a b : Bool) → b ≡ true → (a || b) ≡ true
or_true true b e = refl
or_true false b e = e

-- a chain of tests that ends with nothing has passed none
passed_over : (t : Bool) (k : TokenKind) (more : Option TokenKind) → cond t (Some k) more ≡ None → (t ≡ false) × (more ≡ None)
passed_over true k more e = cc
passed_over false k more e = (refl, e)

closed_over : (t : Bool) (d : Delimiter) (more : Option Delimiter) → cond t (Some d) more ≡ None → (t ≡ false) × (more ≡ None)
closed_over true d more e = cc
closed_over false d more e = (refl, e)

-- the bytes that no single mark is
record NoSingle (b : ℕ) : Type 0 where
  dollar : (b == 36) ≡ false
  paren : (b == 40) ≡ false
  asterisk : (b == 42) ≡ false
  comma : (b == 44) ≡ false
  slash : (b == 47) ≡ false
  question : (b == 63) ≡ false
  at : (b == 64) ≡ false
  bracket : (b == 91) ≡ false
  brace : (b == 123) ≡ false

no_single : (b : ℕ) → single_kind b ≡ None → NoSingle b
no_single b none =
    let dollar = passed_over (b == 36) Dollar _ none in
    let paren = passed_over (b == 40) ParenL _ dollar.1 in
    let asterisk = passed_over (b == 42) Asterisk _ paren.1 in
    let comma = passed_over (b == 44) Comma _ asterisk.1 in
    let slash = passed_over (b == 47) Slash _ comma.1 in
    let question = passed_over (b == 63) QuestionMark _ slash.1 in
    let at = passed_over (b == 64) At _ question.1 in
    let bracket = passed_over (b == 91) BracketL _ at.1 in
    let brace = passed_over (b == 123) BraceL None bracket.1 in
    record { dollar = dollar.0; paren = paren.0; asterisk = asterisk.0; comma = comma.0; slash = slash.0; question = question.0; at = at.0; bracket = bracket.0; brace = brace.0 }

record NoCloser (b : ℕ) : Type 0 where
  paren : (b == 41) ≡ false
  bracket : (b == 93) ≡ false
  brace : (b == 125) ≡ false

no_closer : (b : ℕ) → closer_of b ≡ None → NoCloser b
no_closer b none =
    let paren = closed_over (b == 41) delimiters.Paren _ none in
    let bracket = closed_over (b == 93) delimiters.Bracket _ paren.1 in
    let brace = closed_over (b == 125) delimiters.Brace None bracket.1 in
    record { paren = paren.0; bracket = bracket.0; brace = brace.0 }

-- a text begins with its first character

begins_with_char : (cs text : List ℕ) → encodes cs ≡ text → 0 < length text → (more : List ℕ) × (text ≡ encode_utf8 (first cs) ++ more)
begins_with_char [] text e some = absurd (let z : length text ≡ 0 = sym (ap length e) in omega arith)
begins_with_char (c ∷ cs) text e some = (encodes cs, sym e)

both_not : (a b : Bool) → a ≡ false → b ≡ false → (a || b) ≡ false
both_not true b e f = cc
both_not false b e f = f

none_of : {a b : Bool} → a ≡ false → b ≡ false → (a || b) ≡ false
none_of {a} {b} e f = both_not a b e f

differs : (c n : ℕ) → n < c → (c == n) ≡ false
differs c n less = false_from_ne_true (c == n) (λ e. let same : c ≡ n = eqb-true c n e in omega arith)

token_ascii : (c : ℕ) → 128 ≤ c → begins_token c ≡ false
token_ascii c big =
    let letter : (is_letter c || is_blank c) ≡ false = grind (arith, nat_tests) in
    let mark : (n : ℕ) → n < 128 → (c == n) ≡ false = λ n small. differs c n (omega arith) in
    both_not (is_letter c || is_blank c) _ letter (none_of (mark 10 (omega arith)) (none_of (mark 13 (omega arith)) (none_of (mark 35 (omega arith)) (none_of (mark 39 (omega arith)) (none_of (mark 34 (omega arith)) (none_of (mark 96 (omega arith)) (none_of (mark 58 (omega arith)) (none_of (mark 61 (omega arith)) (none_of (mark 33 (omega arith)) (none_of (mark 38 (omega arith)) (none_of (mark 124 (omega arith)) (none_of (mark 43 (omega arith)) (none_of (mark 42 (omega arith)) (none_of (mark 47 (omega arith)) (none_of (mark 64 (omega arith)) (none_of (mark 36 (omega arith)) (none_of (mark 63 (omega arith)) (none_of (mark 44 (omega arith)) (none_of (mark 40 (omega arith)) (none_of (mark 41 (omega arith)) (none_of (mark 91 (omega arith)) (none_of (mark 93 (omega arith)) (none_of (mark 123 (omega arith)) (none_of (mark 125 (omega arith)) (none_of (mark 92 (omega arith)) refl)))))))))))))))))))))))))

unknown_char : (text more : List ℕ) (c : ℕ) → text ≡ encode_utf8 c ++ more → begins_token (first text) ≡ false → begins_token c ≡ false
unknown_char text more c begins unknown =
    elim (cases_lt c 128) [
      | inl ascii ↦ (let same : first text ≡ c = byte_from_char text more c begins ascii in ap begins_token (sym same) ∙ unknown)
      | inr big ↦ token_ascii c big
    ]

-- strings without an end

quotes_some : (text : List ℕ) → 0 < quotes_len (quotes_at text)
quotes_some text = cond_both ((quotes_at text).tripled) 3 1 (λ n. 0 < n) (λ _. omega arith) (λ _. omega arith)

ended_zero : (format : Bool) (text : List ℕ) (n : ℕ) → 0 < n → (q : Quotes) → (ended_len format q n text == 0) ≡ true → has_end format q (drop n text) ≡ false
unfolding ended_len
ended_zero format text n some q =
    let l : ℕ = part_len format q (drop n text) in
    cond_both (has_end format q (drop n text)) (n + l + end_len q (drop l (drop n text))) 0 (λ k. (k == 0) ≡ true → has_end format q (drop n text) ≡ false)
    (λ _ none. absurd (let zero_len : n + l + end_len q (drop l (drop n text)) ≡ 0 = eqb-true (n + l + end_len q (drop l (drop n text))) 0 none in omega arith))
    (λ e _. e)

unclosed : (format : Bool) (letters : ℕ) (text : List ℕ) → (opened_len format letters text == 0) ≡ true → is_unclosed format letters text ≡ true
unclosed format letters text none =
    let open_end : has_end format (quotes_at (drop letters text)) (drop (letters + quotes_len (quotes_at (drop letters text))) text) ≡ false = ended_zero format text (letters + quotes_len (quotes_at (drop letters text))) (let some : 0 < quotes_len (quotes_at (drop letters text)) = quotes_some (drop letters text) in omega arith) (quotes_at (drop letters text)) none in
    ap not open_end

-- what the tests of the code have passed over before the last ones
record Passed (text : List ℕ) : Type 0 where
  letter : is_letter (first text) ≡ false
  blank : is_blank (first text) ≡ false
  quote : is_quote (first text) ≡ false
  no_end : at_line_end text ≡ false
  hash : (first text == 35) ≡ false
  backtick : (first text == 96) ≡ false
  colon : (first text == 58) ≡ false
  equals : (first text == 61) ≡ false
  bang : (first text == 33) ≡ false
  plus : (first text == 43) ≡ false
  ampersand : (first text == 38) ≡ false
  bar : (first text == 124) ≡ false

no_newline : (text : List ℕ) → at_line_end text ≡ false → (first text == 10) ≡ false
no_newline text e = grind (arith, nat_tests)

unpaired : (text : List ℕ) → at_line_end text ≡ false → (first text == 13) ≡ true → second text ≢ 10
unpaired text e f newline = grind (arith, nat_tests)

unknown_byte : (text : List ℕ) → Passed text → NoSingle (first text) → NoCloser (first text) → (first text == 92) ≡ false → (first text == 13) ≡ false → begins_token (first text) ≡ false
unknown_byte text p s c backslash carriage =
    let quotes = neither (first text == 39) (first text == 34) p.quote in
    both_not (is_letter (first text) || is_blank (first text)) _ (both_not (is_letter (first text)) (is_blank (first text)) p.letter p.blank) (none_of (no_newline text p.no_end) (none_of carriage (none_of p.hash (none_of quotes.0 (none_of quotes.1 (none_of p.backtick (none_of p.colon (none_of p.equals (none_of p.bang (none_of p.ampersand (none_of p.bar (none_of p.plus (none_of s.asterisk (none_of s.slash (none_of s.at (none_of s.dollar (none_of s.question (none_of s.comma (none_of s.paren (none_of c.paren (none_of s.bracket (none_of c.bracket (none_of s.brace (none_of c.brace (none_of backslash refl)))))))))))))))))))))))))

module _ (m : Mode) (text : List ℕ) (utf8 : IsUtf8 text) where
  inner : Option Open
  inner = innermost m.opened

  Q : Found → Type 0
  Q (Ok x) = Unit {0}
  Q (Err f) = Reason (kind_of f text) m text

  sized_faults : (k : TokenKind) (f : Fault) (n : ℕ) → ((n == 0) ≡ true → Q (Err f)) → Q (sized k f n)
  unfolding Q
  sized_faults k f n reason = cond_both (n == 0) (Err f) (Ok (k, n)) Q reason (λ _. tt)

  module _ (in_code : InCode m text) (some : 0 < length text) where
    unknown_faults : Passed text → NoSingle (first text) → NoCloser (first text) → (first text == 92) ≡ false → (first text == 13) ≡ false → Q (Err faults.UnknownStart)
    unfolding Q
    unknown_faults p s c backslash carriage =
        let b : (more : List ℕ) × (text ≡ encode_utf8 (first (chars text)) ++ more) = begins_with_char (chars text) text (encodes-chars text utf8) some in
        record {
          in_code = in_code;
          more = b.0;
          begins = b.1;
          unknown = unknown_char text b.0 (first (chars text)) b.1 (unknown_byte text p s c backslash carriage);
        }

    other_faults : Passed text → NoSingle (first text) → NoCloser (first text) → Q (other_token text)
    unfolding Q other_token
    other_faults p s c =
        cond_both (at_continuation text) (Ok (Whitespace, 1 + continued_len text)) _ Q
        (λ _. tt)
        (λ no_continuation. cond_both (first text == 92) (Err faults.Escape) _ Q
        (λ e. record {
          in_code = in_code;
          backslash = eqb-true (first text) 92 e;
          no_continuation = let n : at_line_end (drop 1 text) ≡ false = rw e at no_continuation in n;
          escaped = refl;
        })
        (λ backslash. cond_both (first text == 13) (Err faults.UnpairedReturn) (Err faults.UnknownStart) Q
        (λ e. record { in_code = in_code; carriage_return = eqb-true (first text) 13 e; unpaired = unpaired text p.no_end e })
        (λ carriage. unknown_faults p s c backslash carriage)))

    unexpected : (o : Option Open) → inner ≡ o → (closer : Delimiter) → first text ≡ closing closer → is_in_bracket o ≡ false → (is_some o && at_closing_braces text) ≡ false → Q (Err (faults.Unexpected closer))
    unfolding Q inner
    unexpected o e closer closes none_open no_end = record {
      in_code = in_code;
      closes = closes;
      none_open = ap is_in_bracket e ∙ none_open;
      no_end = ap (λ x. is_some x && at_closing_braces text) e ∙ no_end;
    }

    mismatched : (opener : Delimiter) → inner ≡ Some (Bracket opener) → (closer : Delimiter) → first text ≡ closing closer → Q (close_token (Some (Bracket opener)) closer)
    unfolding Q inner
    mismatched opener e closer closes =
        cond_both (closing opener == closing closer) (Ok (closer_kind closer, 1)) (Err (faults.Mismatched opener closer)) Q
        (λ _. tt)
        (λ apart. record { in_code = in_code; closes = closes; opened = e; other = λ same. eqb-false (closing opener) (closing closer) apart (ap closing same) })

    closing_faults : (o : Option Open) → inner ≡ o → (closer : Delimiter) → first text ≡ closing closer → Q (closing_token o closer text)
    unfolding Q inner closing_token
    closing_faults None e closer closes = unexpected None e closer closes refl refl
    closing_faults (Some (Bracket opener)) e closer closes = mismatched opener e closer closes
    closing_faults (Some Interpolation) e closer closes =
        cond_both (at_closing_braces text) (Ok (InterpolationEnd, 2)) (Err (faults.Unexpected closer)) Q
        (λ _. tt)
        (λ alone. unexpected (Some Interpolation) e closer closes refl alone)
    closing_faults (Some (FormatInterpolation q around)) e closer closes =
        cond_both (at_closing_braces text) (part_token (ended_len true q 2 text) text) (Err (faults.Unexpected closer)) Q
        (λ two. sized_faults _ faults.UnclosedString (ended_len true q 2 text) (λ none.
        let open_end : has_end true q (drop 2 text) ≡ false = ended_zero true text 2 (omega arith) q none in
        let on : goes_on_unclosed (Some (FormatInterpolation q around)) text ≡ true = rw (two, open_end) refl in
        record { in_code = in_code; unclosed = or_true (opens_unclosed text) (goes_on_unclosed (innermost m.opened) text) (ap (λ o. goes_on_unclosed o text) e ∙ on) }))
        (λ alone. unexpected (Some (FormatInterpolation q around)) e closer closes refl alone)

    closer_faults : Passed text → NoSingle (first text) → (o : Option Delimiter) → closer_of (first text) ≡ o → IfSome o (λ closer. first text ≡ closing closer) → Q (closer_token o inner text)
    closer_faults p s None e is = other_faults p s (no_closer (first text) e)
    closer_faults p s (Some closer) e is = closing_faults inner refl closer is

    single_faults : Passed text → (o : Option TokenKind) → single_kind (first text) ≡ o → Q (single_or_closer o inner text)
    unfolding Q
    single_faults p (Some k) e = tt
    single_faults p None e = closer_faults p (no_single (first text) e) (closer_of (first text)) refl (closer_is (first text))

    mark_of_faults : (k : TokenKind) (a : ℕ) (k_a : TokenKind) (b : ℕ) (k_b : TokenKind) → Q (mark_of k a k_a b k_b (second text))
    unfolding Q
    mark_of_faults k a k_a b k_b = cond_both (second text == a) (Ok (k_a, 2)) _ Q (λ _. tt) (λ _. cond_both (second text == b) (Ok (k_b, 2)) (Ok (k, 1)) Q (λ _. tt) (λ _. tt))

    twice_faults : (k : TokenKind) (a : ℕ) → (a ≡ 38) ⊎ (a ≡ 124) → (first text == a) ≡ true → Q (twice k a (second text))
    unfolding Q
    twice_faults k a mark begins =
        cond_both (second text == a) (Ok (k, 2)) (Err (faults.Alone a)) Q
        (λ _. tt)
        (λ alone. record { in_code = in_code; mark = mark; begins = eqb-true (first text) a begins; alone = eqb-false (second text) a alone })

    mark_faults : is_letter (first text) ≡ false → is_blank (first text) ≡ false → is_quote (first text) ≡ false → at_line_end text ≡ false → (first text == 35) ≡ false → (first text == 96) ≡ false → Q (mark_token inner text)
    unfolding mark_token single_token
    mark_faults letter blank quote no_end hash backtick =
        cond_both (first text == 58) (mark_of Colon 58 ColonColon 61 ColonEquals (second text)) _ Q
        (λ _. mark_of_faults Colon 58 ColonColon 61 ColonEquals)
        (λ colon. cond_both (first text == 61) (mark_of Equals 61 EqualsEquals 126 EqualsTilde (second text)) _ Q
        (λ _. mark_of_faults Equals 61 EqualsEquals 126 EqualsTilde)
        (λ equals. cond_both (first text == 33) (mark_of Bang 61 BangEquals 126 BangTilde (second text)) _ Q
        (λ _. mark_of_faults Bang 61 BangEquals 126 BangTilde)
        (λ bang. cond_both (first text == 43) (mark_of Plus 43 PlusPlus 43 PlusPlus (second text)) _ Q
        (λ _. mark_of_faults Plus 43 PlusPlus 43 PlusPlus)
        (λ plus. cond_both (first text == 38) (twice AmpersandAmpersand 38 (second text)) _ Q
        (λ e. twice_faults AmpersandAmpersand 38 (inl refl) e)
        (λ ampersand. cond_both (first text == 124) (twice BarBar 124 (second text)) (single_token inner text) Q
        (λ e. twice_faults BarBar 124 (inr refl) e)
        (λ bar.
        let p : Passed text = record { letter = letter; blank = blank; quote = quote; no_end = no_end; hash = hash; backtick = backtick; colon = colon; equals = equals; bang = bang; plus = plus; ampersand = ampersand; bar = bar } in
        single_faults p (single_kind (first text)) refl))))))

    blank_faults : is_letter (first text) ≡ false → is_quote (first text) ≡ false → (first text == 96) ≡ false → Q (blank_token inner text)
    unfolding Q blank_token
    blank_faults letter quote backtick =
        cond_both (is_blank (first text)) (Ok (Whitespace, blank_len text)) _ Q
        (λ _. tt)
        (λ blank. cond_both (at_line_end text) (Ok (cond (in_brackets inner) Whitespace Eol, line_end_len text)) _ Q
        (λ _. tt)
        (λ no_end. cond_both (first text == 35) (Ok (Comment, line_len text)) (mark_token inner text) Q
        (λ _. tt)
        (λ hash. mark_faults letter blank quote no_end hash backtick)))

    string_fault : opens_unclosed text ≡ true → Q (Err faults.UnclosedString)
    unfolding Q
    string_fault opens = record { in_code = in_code; unclosed = let e : (opens_unclosed text || goes_on_unclosed (innermost m.opened) text) ≡ true = rw opens refl in e }

    word_faults : Q (word_token inner text)
    unfolding Q word_token
    word_faults =
        cond_both (is_quote (first text)) (sized StringToken faults.UnclosedString (opened_len false 0 text)) _ Q
        (λ quote. sized_faults StringToken faults.UnclosedString (opened_len false 0 text) (λ none. string_fault (rw (quote, unclosed false 0 text none) refl)))
        (λ quote. cond_both (opens_string 120 text) (sized StringToken faults.UnclosedString (opened_len false 1 text)) _ Q
        (λ opens. sized_faults StringToken faults.UnclosedString (opened_len false 1 text) (λ none. string_fault (rw (quote, opens, unclosed false 1 text none) refl)))
        (λ no_x. cond_both (opens_string 102 text) (sized FormatStringStart faults.UnclosedString (opened_len true 1 text)) _ Q
        (λ opens. sized_faults FormatStringStart faults.UnclosedString (opened_len true 1 text) (λ none. string_fault (rw (quote, no_x, opens, unclosed true 1 text none) refl)))
        (λ _. cond_both (first text == 96) (sized Backtick faults.UnclosedCommand (opened_len false 0 text)) _ Q
        (λ tick. sized_faults Backtick faults.UnclosedCommand (opened_len false 0 text) (λ none. record { in_code = in_code; backtick = eqb-true (first text) 96 tick; unclosed = unclosed false 0 text none }))
        (λ backtick. cond_both (is_letter (first text)) (Ok (Identifier, prefix_len is_word text)) (blank_token inner text) Q
        (λ _. tt)
        (λ letter. blank_faults letter quote backtick)))))

  line_faults : InCode m text → Q (line_token inner text)
  unfolding Q line_token
  line_faults in_code =
      cond_both (length text == 0) (Ok (Eof, 0)) (word_token inner text) Q
      (λ _. tt)
      (λ some. word_faults in_code (grind (arith, nat_tests)))

  start_faults : (may : Bool) → (may ≡ true → m.line ≡ Start true) → (is_indented text ≡ false → InCode m text) → Q (start_token may inner text)
  unfolding Q start_token
  start_faults may begins plain =
      cond_both (not (is_blank (first text)) || is_blank_line text) (line_token inner text) _ Q
      (λ e. line_faults (plain (grind (arith, nat_tests))))
      (λ e. cond_both (may && is_mixed text) (Err faults.MixedIndentation) (Ok (Indent, blank_len text)) Q
      (λ mixed.
      let both = and_parts may (is_mixed text) mixed in
      record { may_begin = begins both.0; indented = grind (arith, nat_tests); mixed = both.1 })
      (λ _. tt))

  here : (line : Line) → m.line ≡ line → is_in_code line inner text ≡ true → InCode m text
  unfolding inner
  here line e h = ap (λ l. is_in_code l (innermost m.opened) text) e ∙ h

  body_start_faults : (i : Indentation) → m.line ≡ BodyStart i → Q (body_start_token i text)
  unfolding Q body_start_token
  body_start_faults i e =
      cond_both (at_line_end text) (Ok (Eol, line_end_len text)) _ Q
      (λ _. tt)
      (λ _. cond_both (not (is_blank (first text))) (Ok (Dedent, 0)) _ Q
      (λ _. tt)
      (λ blank. cond_both (is_blank_line text) (Ok (Whitespace, blank_len text)) _ Q
      (λ _. tt)
      (λ more. cond_both (has_indentation i text) (Ok (Whitespace, indent_width i)) (Err faults.OtherIndentation) Q
      (λ _. tt)
      (λ other. record { indentation = i; in_body = e; indented = grind (arith, nat_tests); other = other }))))

  body_line_faults : Q (body_line_token text)
  unfolding Q body_line_token
  body_line_faults =
      cond_both (length text == 0) (Ok (Dedent, 0)) _ Q
      (λ _. tt)
      (λ _. cond_both (at_line_end text) (Ok (Eol, line_end_len text)) _ Q
      (λ _. tt)
      (λ _. cond_both (text_len text == 0) (Ok (InterpolationStart, 2)) (Ok (Text, text_len text)) Q (λ _. tt) (λ _. tt)))

  interpolation_faults : (i : Indentation) → m.line ≡ BodyLine i → is_some inner ≡ true → Q (interpolation_token inner text)
  unfolding Q inner interpolation_token
  interpolation_faults i e inside =
      cond_both (breaks_off text) (Err faults.UnclosedInterpolation) (line_token inner text) Q
      (λ breaks. record { in_body = ap is_in_body e; inside = inside; ends = breaks })
      (λ goes. line_faults (here (BodyLine i) e (rw (inside, goes) refl)))

  found_faults : (line : Line) → m.line ≡ line → is_over line ≡ false → Q (token_at line inner text)
  unfolding Q token_at begin_token
  found_faults Begin e g =
      cond_both (at_byte_order_mark text) (Ok (ByteOrderMark, 3)) (start_token false inner text) Q
      (λ _. tt)
      (λ no_mark. start_faults false (λ never. cc) (λ plain. here Begin e (rw (no_mark, plain) refl)))
  found_faults (Start may) e g = start_faults may (λ h. e ∙ ap Start h) (λ plain. here (Start may) e (rw plain refl))
  found_faults (Ahead may) e g = line_faults (here (Ahead may) e refl)
  found_faults (Inside may) e g = line_faults (here (Inside may) e refl)
  found_faults (BodyStart i) e g = body_start_faults i e
  found_faults (BodyLine i) e g = cond_both (is_some inner) (interpolation_token inner text) (body_line_token text) Q (interpolation_faults i e) (λ _. body_line_faults)
  found_faults Over e g = cc

-- the fault's reason is the refusal's
pub reason_from_token : (m : Mode) (text : List ℕ) (f : Fault) → IsUtf8 text → is_over m.line ≡ false → token_at m.line (innermost m.opened) text ≡ Err f → Reason (kind_of f text) m text
unfolding Q inner
reason_from_token m text f utf8 going e = subst (Q m text utf8) e (found_faults m text utf8 m.line refl going)
