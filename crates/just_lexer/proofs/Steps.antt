-- What the loop needs of a token: that a character ends there, that less is left, and how far the position moves.
use Rattle.std.proofs.Common.{◌≡◌, ℕ, zero, suc, ◌+◌, ◌*◌, ◌<◌, ◌≤◌, Bool, true, false, not, cond, ◌&&◌, ◌||◌, ◌==◌, nat_lt, List, [], ◌∷◌, ◌++◌, length, get_or, take, drop, IsUtf8, Ok, Err, Option, Some, None, is_some, refl, sym, ap, ◌∙◌, subst, inl, inr, arith, add-one, length-drop, eqb-true}
use Rattle.std.specs.Prelude.{IfSome}
use Rattle.std.specs.List.{prefix_len, fold}
use Rattle.std.specs.Str.{IsCharBoundary}
use Rattle.std.proofs.Math.Utf8.{encode}
use Rattle.std.proofs.lemmas.Bool.{cases_lt, cases_Bool, and_parts, cond_both}
use Rattle.std.proofs.lemmas.Bool.Decides.{nat_tests}
use Rattle.std.proofs.lemmas.List.{get_or_past, get_or-drop}
use Rattle.std.proofs.lemmas.List.Sums.{prefix_len-le-length, prefix_len_passes}
use Rattle.std.proofs.lemmas.Str.{IsUtf8-drop, IsCharBoundary-start, IsCharBoundary-end, IsCharBoundary-before_ascii, IsCharBoundary-after_ascii, IsCharBoundary-from_rest, IsCharBoundary-past_char}
use Rattle.just_text.specs.Texts.{closing}
use Rattle.just_text.specs.declared.delimiter.Delimiter.{Delimiter}
use Rattle.just_text.specs.declared.delimiter.Delimiter.TheVariants as delimiters
use Rattle.just_text.specs.declared.token_kind.TokenKind.{TokenKind}
use Rattle.just_text.specs.declared.token_kind.TokenKind.TheVariants.{AmpersandAmpersand, Asterisk, At, Backtick, Bang, BangEquals, BangTilde, BarBar, BraceL, BracketL, ByteOrderMark, Colon, ColonColon, ColonEquals, Comma, Comment, Dedent, Dollar, Eof, Eol, Equals, EqualsEquals, EqualsTilde, FormatStringStart, Identifier, Indent, InterpolationEnd, InterpolationStart, ParenL, Plus, PlusPlus, QuestionMark, Slash, StringToken, Text, Whitespace}
use Rattle.just_lexer.specs.declared.fault.Fault.{Fault}
use Rattle.just_lexer.specs.declared.fault.Fault.TheVariants as faults
use Rattle.just_lexer.specs.declared.position.Position.{Position}
use Rattle.just_lexer.specs.declared.quotes.Quote.{Quote}
use Rattle.just_lexer.specs.declared.quotes.Quote.TheVariants.{Single, Double}
use Rattle.just_lexer.specs.declared.quotes.Quotes.{Quotes}
use Rattle.just_lexer.specs.declared.mode.Indentation.{Indentation}
use Rattle.just_lexer.specs.declared.mode.Indentation.TheVariants.{Spaces, Tabs}
use Rattle.just_lexer.specs.declared.mode.Open.{Open}
use Rattle.just_lexer.specs.declared.mode.Open.TheVariants.{Bracket, Interpolation, FormatInterpolation}
use Rattle.just_lexer.specs.declared.mode.Line.{Line}
use Rattle.just_lexer.specs.declared.mode.Line.TheVariants.{Begin, Start, Ahead, Inside, BodyStart, BodyLine, Over}
use Rattle.just_lexer.specs.Classes.{first, second, at_two, is_letter, is_word, is_blank, is_quote, line_end_len, at_line_end, continued_len, at_continuation, at_closing_braces, at_byte_order_mark, opens_format_interpolation, ends_text, brace_takes, line_len, text_len, blank_len, is_blank_line, is_mixed, breaks_off}
use Rattle.just_lexer.specs.Strings.{quote_byte, quotes_len, quotes_at, at_quotes, ends_part, part_takes, part_len, has_end, end_len, ended_len, opened_len, opens_string}
use Rattle.just_lexer.specs.Modes.{indent_byte, indent_width, has_indentation, in_brackets, start_after, line_after, is_over, is_byte_order_mark, advance, moved}
use Rattle.just_lexer.specs.Lexing.{Found, sized, mark_of, twice, single_kind, closer_of, closer_kind, close_token, part_token, closing_token, other_token, closer_token, single_or_closer, single_token, mark_token, blank_token, word_token, line_token, start_token, begin_token, body_start_token, body_line_token, interpolation_token, token_at}
use Rattle.just_lexer.proofs.Scans.{until_le, until_stops, until_some, over_le, over_stops, over_some}

-- positions

-- no part of a position is more than n further
pub record WithinSteps (old new : Position) (n : ℕ) : Type 0 where
  pub offset : new.offset ≡ old.offset + n
  pub line : new.line ≤ old.line + n
  pub column : new.column ≤ old.column + n

one_step : (p : Position) (b : ℕ) → WithinSteps p (advance p b) 1
one_step p b =
    cond_both (b == 10) (record { column = 0; line = p.line + 1; offset = p.offset + 1 }) (record { column = p.column + 1; line = p.line; offset = p.offset + 1 }) (λ q. WithinSteps p q 1)
    (λ _. record { offset = refl; line = omega arith; column = omega arith })
    (λ _. record { offset = refl; line = omega arith; column = omega arith })

pub steps_within : (p : Position) (bs : List ℕ) → WithinSteps p (fold advance p bs) (length bs)
steps_within p [] = record { offset = omega arith; line = omega arith; column = omega arith }
steps_within p (b ∷ bs) =
    let one = one_step p b in
    let more = steps_within (advance p b) bs in
    record { offset = omega arith; line = omega arith; column = omega arith }

pub moved_within : (p : Position) (k : TokenKind) (bs : List ℕ) → WithinSteps p (moved p k bs) (length bs)
moved_within p k bs =
    cond_both (is_byte_order_mark k) (record { column = p.column; line = p.line; offset = p.offset + length bs }) (fold advance p bs) (λ q. WithinSteps p q (length bs))
    (λ _. record { offset = refl; line = omega arith; column = omega arith })
    (λ _. steps_within p bs)

-- the measure

-- of two places in a line with the same rest the later one weighs less
abbrev pub weight : Line → ℕ
weight (BodyStart _) = 4
weight (BodyLine _) = 3
weight Begin = 2
weight (Start _) = 2
weight (Ahead _) = 1
weight (Inside _) = 1
weight Over = 0

weight_le : (line : Line) → weight line ≤ 4
weight_le Begin = omega arith
weight_le (Start _) = omega arith
weight_le (Ahead _) = omega arith
weight_le (Inside _) = omega arith
weight_le (BodyStart _) = omega arith
weight_le (BodyLine _) = omega arith
weight_le Over = omega arith

-- what the loop needs of a token
pub record Takes (line : Line) (inner : Option Open) (text : List ℕ) (k : TokenKind) (n : ℕ) : Type 0 where
  pub boundary : IsCharBoundary text n
  pub smaller : 8 * length (drop n text) + weight (line_after line inner k (take n text)) < 8 * length text + weight line

-- of a place's token, if there is one
abbrev pub AtFound : (TokenKind → ℕ → Type 0) → Found → Type 0
AtFound P (Ok x) = P x.0 x.1
AtFound P (Err e) = Unit {0}

-- bytes at the front

pub nonempty_from_first : (text : List ℕ) → 0 < first text → 0 < length text
nonempty_from_first [] h = absurd (omega arith)
nonempty_from_first (b ∷ bs) h = omega arith

there : (text : List ℕ) (i : ℕ) → 0 < get_or text i 0 → i < length text
there text i h = elim (cases_lt i (length text)) [ inl l ↦ l | inr past ↦ absurd (omega (arith, get_or_past text i 0 past)) ]

-- after an ASCII byte that isn't 0 a text may be cut
behind_byte : (text : List ℕ) (i b : ℕ) → IsUtf8 text → get_or text i 0 ≡ b → 0 < b → b < 128 → IsCharBoundary text (i + 1)
behind_byte text i b utf8 e positive ascii = IsCharBoundary-after_ascii text i utf8 (there text i (omega arith)) (omega arith)

one_byte : (text : List ℕ) (b : ℕ) → IsUtf8 text → first text ≡ b → 0 < b → b < 128 → IsCharBoundary text 1
one_byte text b utf8 e positive ascii = behind_byte text 0 b utf8 e positive ascii

two_bytes : (text : List ℕ) (b : ℕ) → IsUtf8 text → second text ≡ b → 0 < b → b < 128 → IsCharBoundary text 2
two_bytes text b utf8 e positive ascii = behind_byte text 1 b utf8 e positive ascii

at_two_boundary : (text : List ℕ) (a b : ℕ) → IsUtf8 text → at_two a b text ≡ true → 0 < b → b < 128 → IsCharBoundary text 2
at_two_boundary text a b utf8 e positive ascii = two_bytes text b utf8 (eqb-true (second text) b (and_parts (first text == a) (second text == b) e).1) positive ascii

-- runs

after_ascii_run : (p : ℕ → Bool) (bs : List ℕ) (n : ℕ) → n ≤ prefix_len p bs → IsUtf8 bs → ((c : ℕ) → p c ≡ true → c < 128) → IsCharBoundary bs n
after_ascii_run p bs zero e utf8 ascii = IsCharBoundary-start bs utf8
after_ascii_run p bs (suc k) e utf8 ascii =
    rw (← add-one) (IsCharBoundary-after_ascii bs k utf8 (omega (arith, prefix_len-le-length p bs)) (ascii _ (prefix_len_passes p bs k 0 (omega arith))))

pub run_positive : (p : ℕ → Bool) (text : List ℕ) → p 0 ≡ false → p (first text) ≡ true → 0 < prefix_len p text
run_positive p [] none h = absurd (cc (none, h))
run_positive p (b ∷ bs) none h = rw h (omega arith)

is_word_ascii : (c : ℕ) → is_word c ≡ true → c < 128
is_word_ascii c e = grind (arith, nat_tests)

is_blank_ascii : (c : ℕ) → is_blank c ≡ true → c < 128
is_blank_ascii c e = grind (arith, nat_tests)

pub letter_is_word : (c : ℕ) → is_letter c ≡ true → is_word c ≡ true
letter_is_word c e = grind (arith, nat_tests)

-- line ends, and what runs up to one

line_end_boundary : (text : List ℕ) → IsUtf8 text → IsCharBoundary text (line_end_len text)
line_end_boundary text utf8 =
    cond_both (first text == 10) 1 _ (IsCharBoundary text)
    (λ e. one_byte text 10 utf8 (eqb-true (first text) 10 e) (omega arith) (omega arith))
    (λ _. cond_both (at_two 13 10 text) 2 0 (IsCharBoundary text)
    (λ e. at_two_boundary text 13 10 utf8 e (omega arith) (omega arith))
    (λ _. IsCharBoundary-start text utf8))

-- a place where the first byte is ASCII may be cut at
stop_boundary : (text : List ℕ) (n : ℕ) → n ≤ length text → (n < length text → first (drop n text) < 128) → IsCharBoundary text n
stop_boundary text n fits ascii =
    elim (cases_lt n (length text)) [
      | inl less ↦ IsCharBoundary-before_ascii text n less (
          let e : first (drop n text) < 128 = ascii less in
          let here : n + 0 ≡ n = omega arith in
          let same : first (drop n text) ≡ get_or text n 0 = get_or-drop n text 0 0 ∙ ap (λ k. get_or text k 0) here in
          omega arith)
      | inr past ↦ (let z : length text ≡ n = omega arith in subst (IsCharBoundary text) z (IsCharBoundary-end text))
    ]

line_end_ascii : (bs : List ℕ) → at_line_end bs ≡ true → first bs < 128
line_end_ascii bs e = grind (arith, nat_tests)

line_boundary : (text : List ℕ) → IsCharBoundary text (line_len text)
line_boundary text = stop_boundary text (line_len text) (until_le at_line_end text) (λ less. line_end_ascii (drop (line_len text) text) (until_stops at_line_end text less))

text_end_ascii : (bs : List ℕ) → ends_text bs ≡ true → first bs < 128
text_end_ascii bs e = grind (arith, nat_tests)

text_boundary : (text : List ℕ) → IsCharBoundary text (text_len text)
text_boundary text = stop_boundary text (text_len text) (over_le ends_text brace_takes 0 text) (λ less. text_end_ascii (drop (text_len text) text) (over_stops ends_text brace_takes 0 text less))

continued_boundary : (text : List ℕ) → IsUtf8 text → at_continuation text ≡ true → IsCharBoundary text (1 + continued_len text)
continued_boundary text utf8 =
    cond_both (first text == 92) (line_end_len (drop 1 text)) 0 (λ n. nat_lt 0 n ≡ true → IsCharBoundary text (1 + n))
    (λ e h.
    let slash : IsCharBoundary text 1 = one_byte text 92 utf8 (eqb-true (first text) 92 e) (omega arith) (omega arith) in
    IsCharBoundary-from_rest text 1 _ slash.0 (line_end_boundary (drop 1 text) (IsUtf8-drop text 1 utf8 slash)))
    (λ _ h. cc)

-- in front of no text two braces stand
pub braces_stand : (text : List ℕ) → 0 < length text → at_line_end text ≡ false → text_len text ≡ 0 → at_two 123 123 text ≡ true
braces_stand text some no_end none =
    elim (cases_Bool (opens_format_interpolation text)) [
      | inl format_interpolation ↦ (and_parts (at_two 123 123 text) (not (get_or text 2 0 == 123 && get_or text 3 0 == 123)) format_interpolation).0
      | inr plain ↦ absurd (let more : 0 < text_len text = over_some ends_text brace_takes text some (rw (no_end, plain) refl) in omega arith)
    ]

-- the byte order mark

mark_text : (text : List ℕ) → at_byte_order_mark text ≡ true → text ≡ encode 65279 ++ drop 3 text
unfolding encode
mark_text [] e = cc
mark_text (a ∷ []) e = absurd (grind (arith, nat_tests))
mark_text (a ∷ b ∷ []) e = absurd (grind (arith, nat_tests))
mark_text (a ∷ b ∷ c ∷ bs) e =
    let both = and_parts (at_two 239 187 (a ∷ b ∷ c ∷ bs)) (c == 191) e in
    let ab = and_parts (a == 239) (b == 187) both.0 in
    let is_a : a ≡ 239 = eqb-true a 239 ab.0 in
    let is_b : b ≡ 187 = eqb-true b 187 ab.1 in
    let is_c : c ≡ 191 = eqb-true c 191 both.1 in
    λ i. is_a i ∷ is_b i ∷ is_c i ∷ bs

mark_boundary : (text : List ℕ) → IsUtf8 text → at_byte_order_mark text ≡ true → IsCharBoundary text 3
mark_boundary text utf8 e = IsCharBoundary-past_char text (drop 3 text) 0 65279 (omega arith) utf8 (mark_text text e)

-- strings

quote_ascii : (q : Quote) → (0 < quote_byte q) × (quote_byte q < 128)
quote_ascii Single = (omega arith, omega arith)
quote_ascii Double = (omega arith, omega arith)
quote_ascii Quote.Backtick = (omega arith, omega arith)

-- what ends a part of a string has an ASCII byte at its end
record EndsAscii (bs : List ℕ) (n : ℕ) : Type 0 where
  last : ℕ
  size : n ≡ last + 1
  some : 0 < get_or bs last 0
  ascii : get_or bs last 0 < 128

quotes_end : (q : Quotes) (bs : List ℕ) → at_quotes q bs ≡ true → EndsAscii bs (quotes_len q)
quotes_end q bs e =
    let both = and_parts (first bs == quote_byte q.quote) (not q.tripled || (second bs == first bs && get_or bs 2 0 == first bs)) e in
    let here : first bs ≡ quote_byte q.quote = eqb-true (first bs) (quote_byte q.quote) both.0 in
    let ascii = quote_ascii q.quote in
    elim (cases_Bool q.tripled) [
      | inl t ↦ (
          let three : (second bs == first bs && get_or bs 2 0 == first bs) ≡ true = rw t at both.1 in
          let third : get_or bs 2 0 ≡ first bs = eqb-true (get_or bs 2 0) (first bs) (and_parts (second bs == first bs) (get_or bs 2 0 == first bs) three).1 in
          record { last = 2; size = rw t refl; some = omega (arith, ascii.0); ascii = omega (arith, ascii.1) })
      | inr t ↦ record { last = 0; size = rw t refl; some = omega (arith, ascii.0); ascii = omega (arith, ascii.1) }
    ]

braces_end : (bs : List ℕ) → opens_format_interpolation bs ≡ true → EndsAscii bs 2
braces_end bs e =
    let brace : second bs ≡ 123 = grind (arith, nat_tests) in
    record { last = 1; size = refl; some = omega arith; ascii = omega arith }

part_ends : (format : Bool) (q : Quotes) (bs : List ℕ) → ends_part format q bs ≡ true → EndsAscii bs (end_len q bs)
part_ends format q bs e =
    elim (cases_Bool (at_quotes q bs)) [
      | inl quotes ↦ (let size : end_len q bs ≡ quotes_len q = rw quotes refl in subst (EndsAscii bs) (sym size) (quotes_end q bs quotes))
      | inr none ↦ (
          let format_interpolation : (format && opens_format_interpolation bs) ≡ true = rw none at e in
          let size : end_len q bs ≡ 2 = rw none refl in
          subst (EndsAscii bs) (sym size) (braces_end bs (and_parts format (opens_format_interpolation bs) format_interpolation).1))
    ]

behind_end : (text : List ℕ) (n l e : ℕ) → IsUtf8 text → EndsAscii (drop l (drop n text)) e → IsCharBoundary text (n + l + e)
behind_end text n l e utf8 end =
    let same : get_or (drop l (drop n text)) end.last 0 ≡ get_or text (n + (l + end.last)) 0 = get_or-drop l (drop n text) end.last 0 ∙ get_or-drop n text (l + end.last) 0 in
    let place : n + (l + end.last) + 1 ≡ n + l + e = omega (arith, end.size) in
    subst (IsCharBoundary text) place (behind_byte text (n + (l + end.last)) (get_or (drop l (drop n text)) end.last 0) utf8 (sym same) end.some end.ascii)

ended_boundary : (format : Bool) (q : Quotes) (n : ℕ) (text : List ℕ) → IsUtf8 text → IsCharBoundary text (ended_len format q n text)
unfolding ended_len
ended_boundary format q n text utf8 =
    let l : ℕ = part_len format q (drop n text) in
    cond_both (has_end format q (drop n text)) (n + l + end_len q (drop l (drop n text))) 0 (IsCharBoundary text)
    (λ ends.
    let less : l < length (drop n text) = grind (arith, nat_tests) in
    behind_end text n l (end_len q (drop l (drop n text))) utf8 (part_ends format q (drop l (drop n text)) (over_stops (ends_part format q) (part_takes format q) 0 (drop n text) less)))
    (λ _. IsCharBoundary-start text utf8)

-- marks

closing_ascii : (d : Delimiter) → (0 < closing d) × (closing d < 128)
closing_ascii delimiters.Brace = (omega arith, omega arith)
closing_ascii delimiters.Bracket = (omega arith, omega arith)
closing_ascii delimiters.Paren = (omega arith, omega arith)

-- the byte is the bracket's that it closes
pub closer_is : (b : ℕ) → IfSome (closer_of b) (λ closer. b ≡ closing closer)
closer_is b =
    let P : Option Delimiter → Type 0 = λ o. IfSome o (λ closer. b ≡ closing closer) in
    cond_both (b == 41) (Some delimiters.Paren) _ P (λ e. eqb-true b 41 e)
    (λ _. cond_both (b == 93) (Some delimiters.Bracket) _ P (λ e. eqb-true b 93 e)
    (λ _. cond_both (b == 125) (Some delimiters.Brace) None P (λ e. eqb-true b 125 e) (λ _. tt)))

abbrev IsAsciiAt : ℕ → Option TokenKind → Type 0
IsAsciiAt b o = IfSome o (λ _. (0 < b) × (b < 128))

single_ascii : (b : ℕ) → IsAsciiAt b (single_kind b)
single_ascii b =
    let P : Option TokenKind → Type 0 = IsAsciiAt b in
    let some : (k : TokenKind) (n : ℕ) → 0 < n → n < 128 → (b == n) ≡ true → P (Some k) = λ k n positive ascii e. (let is : b ≡ n = eqb-true b n e in (omega arith, omega arith)) in
    cond_both (b == 36) (Some Dollar) _ P (some Dollar 36 (omega arith) (omega arith))
    (λ _. cond_both (b == 40) (Some ParenL) _ P (some ParenL 40 (omega arith) (omega arith))
    (λ _. cond_both (b == 42) (Some Asterisk) _ P (some Asterisk 42 (omega arith) (omega arith))
    (λ _. cond_both (b == 44) (Some Comma) _ P (some Comma 44 (omega arith) (omega arith))
    (λ _. cond_both (b == 47) (Some Slash) _ P (some Slash 47 (omega arith) (omega arith))
    (λ _. cond_both (b == 63) (Some QuestionMark) _ P (some QuestionMark 63 (omega arith) (omega arith))
    (λ _. cond_both (b == 64) (Some At) _ P (some At 64 (omega arith) (omega arith))
    (λ _. cond_both (b == 91) (Some BracketL) _ P (some BracketL 91 (omega arith) (omega arith))
    (λ _. cond_both (b == 123) (Some BraceL) None P (some BraceL 123 (omega arith) (omega arith)) (λ _. tt)))))))))

-- tokens

module _ (line : Line) (inner : Option Open) (text : List ℕ) (utf8 : IsUtf8 text) where
  P : Found → Type 0
  P = AtFound (Takes line inner text)

  consumes : (k : TokenKind) (n : ℕ) → IsCharBoundary text n → 0 < n → Takes line inner text k n
  consumes k n b positive = record { boundary = b; smaller = omega (arith, b.0, length-drop n text, weight_le (line_after line inner k (take n text))) }

  -- an empty token leads to a later place of the line
  passes : (k : TokenKind) → weight (line_after line inner k []) < weight line → Takes line inner text k 0
  passes k lighter = record { boundary = IsCharBoundary-start text utf8; smaller = omega (arith, length-drop 0 text) }

  sized_takes : (k : TokenKind) (f : Fault) (n : ℕ) → IsCharBoundary text n → P (sized k f n)
  unfolding P
  sized_takes k f n b = cond_both (n == 0) (Err f) (Ok (k, n)) P (λ _. tt) (λ some. consumes k n b (grind (arith, nat_tests)))

  eol_takes : (k : TokenKind) → at_line_end text ≡ true → Takes line inner text k (line_end_len text)
  eol_takes k e = consumes k _ (line_end_boundary text utf8) (grind (arith, nat_tests))

  blank_takes : (k : TokenKind) → is_blank (first text) ≡ true → Takes line inner text k (blank_len text)
  blank_takes k e = consumes k _ (after_ascii_run is_blank text _ (omega arith) utf8 is_blank_ascii) (run_positive is_blank text refl e)

  other_takes : P (other_token text)
  unfolding P other_token
  other_takes =
      cond_both (at_continuation text) (Ok (Whitespace, 1 + continued_len text)) _ P
      (λ e. consumes Whitespace _ (continued_boundary text utf8 e) (omega arith))
      (λ _. cond_both (first text == 92) (Err faults.Escape) _ P (λ _. tt)
      (λ _. cond_both (first text == 13) (Err faults.UnpairedReturn) (Err faults.UnknownStart) P (λ _. tt) (λ _. tt)))

  close_takes : (o : Option Open) (closer : Delimiter) → first text ≡ closing closer → P (close_token o closer)
  unfolding P
  close_takes None closer e = tt
  close_takes (Some Interpolation) closer e = tt
  close_takes (Some (FormatInterpolation q around)) closer e = tt
  close_takes (Some (Bracket opener)) closer e =
      let ascii = closing_ascii closer in
      cond_both (closing opener == closing closer) (Ok (closer_kind closer, 1)) (Err (faults.Mismatched opener closer)) P
      (λ _. consumes (closer_kind closer) 1 (one_byte text (closing closer) utf8 e ascii.0 ascii.1) (omega arith))
      (λ _. tt)

  closing_takes : (o : Option Open) (closer : Delimiter) → first text ≡ closing closer → P (closing_token o closer text)
  unfolding P closing_token
  closing_takes None closer e = close_takes None closer e
  closing_takes (Some (Bracket opener)) closer e = close_takes (Some (Bracket opener)) closer e
  closing_takes (Some Interpolation) closer e =
      cond_both (at_closing_braces text) (Ok (InterpolationEnd, 2)) (close_token (Some Interpolation) closer) P
      (λ two. consumes InterpolationEnd 2 (at_two_boundary text 125 125 utf8 two (omega arith) (omega arith)) (omega arith))
      (λ _. close_takes (Some Interpolation) closer e)
  closing_takes (Some (FormatInterpolation q around)) closer e =
      cond_both (at_closing_braces text) (part_token (ended_len true q 2 text) text) (close_token (Some (FormatInterpolation q around)) closer) P
      (λ _. sized_takes _ faults.UnclosedString (ended_len true q 2 text) (ended_boundary true q 2 text utf8))
      (λ _. close_takes (Some (FormatInterpolation q around)) closer e)

  closer_takes : (o : Option Delimiter) → IfSome o (λ closer. first text ≡ closing closer) → P (closer_token o inner text)
  closer_takes None h = other_takes
  closer_takes (Some closer) h = closing_takes inner closer h

  single_case : (o : Option TokenKind) → IsAsciiAt (first text) o → P (single_or_closer o inner text)
  unfolding P
  single_case None h = closer_takes (closer_of (first text)) (closer_is (first text))
  single_case (Some k) h = consumes k 1 (one_byte text (first text) utf8 refl h.0 h.1) (omega arith)

  single_takes : P (single_token inner text)
  unfolding single_token
  single_takes = single_case (single_kind (first text)) (single_ascii (first text))

  mark_of_takes : (k : TokenKind) (a : ℕ) (k_a : TokenKind) (b : ℕ) (k_b : TokenKind) → IsCharBoundary text 1 → 0 < a → a < 128 → 0 < b → b < 128 → P (mark_of k a k_a b k_b (second text))
  unfolding P
  mark_of_takes k a k_a b k_b one positive_a ascii_a positive_b ascii_b =
      cond_both (second text == a) (Ok (k_a, 2)) _ P
      (λ e. consumes k_a 2 (two_bytes text a utf8 (eqb-true (second text) a e) positive_a ascii_a) (omega arith))
      (λ _. cond_both (second text == b) (Ok (k_b, 2)) (Ok (k, 1)) P
      (λ e. consumes k_b 2 (two_bytes text b utf8 (eqb-true (second text) b e) positive_b ascii_b) (omega arith))
      (λ _. consumes k 1 one (omega arith)))

  twice_takes : (k : TokenKind) (a : ℕ) → 0 < a → a < 128 → P (twice k a (second text))
  unfolding P
  twice_takes k a positive ascii =
      cond_both (second text == a) (Ok (k, 2)) (Err (faults.Alone a)) P
      (λ e. consumes k 2 (two_bytes text a utf8 (eqb-true (second text) a e) positive ascii) (omega arith))
      (λ _. tt)

  mark_takes : P (mark_token inner text)
  unfolding mark_token
  mark_takes =
      let one : (a : ℕ) → (first text == a) ≡ true → 0 < a → a < 128 → IsCharBoundary text 1 = λ a e positive ascii. one_byte text a utf8 (eqb-true (first text) a e) positive ascii in
      cond_both (first text == 58) (mark_of Colon 58 ColonColon 61 ColonEquals (second text)) _ P
      (λ e. mark_of_takes Colon 58 ColonColon 61 ColonEquals (one 58 e (omega arith) (omega arith)) (omega arith) (omega arith) (omega arith) (omega arith))
      (λ _. cond_both (first text == 61) (mark_of Equals 61 EqualsEquals 126 EqualsTilde (second text)) _ P
      (λ e. mark_of_takes Equals 61 EqualsEquals 126 EqualsTilde (one 61 e (omega arith) (omega arith)) (omega arith) (omega arith) (omega arith) (omega arith))
      (λ _. cond_both (first text == 33) (mark_of Bang 61 BangEquals 126 BangTilde (second text)) _ P
      (λ e. mark_of_takes Bang 61 BangEquals 126 BangTilde (one 33 e (omega arith) (omega arith)) (omega arith) (omega arith) (omega arith) (omega arith))
      (λ _. cond_both (first text == 43) (mark_of Plus 43 PlusPlus 43 PlusPlus (second text)) _ P
      (λ e. mark_of_takes Plus 43 PlusPlus 43 PlusPlus (one 43 e (omega arith) (omega arith)) (omega arith) (omega arith) (omega arith) (omega arith))
      (λ _. cond_both (first text == 38) (twice AmpersandAmpersand 38 (second text)) _ P
      (λ e. twice_takes AmpersandAmpersand 38 (omega arith) (omega arith))
      (λ _. cond_both (first text == 124) (twice BarBar 124 (second text)) (single_token inner text) P
      (λ e. twice_takes BarBar 124 (omega arith) (omega arith))
      (λ _. single_takes))))))

  blanks_take : P (blank_token inner text)
  unfolding P blank_token
  blanks_take =
      cond_both (is_blank (first text)) (Ok (Whitespace, blank_len text)) _ P
      (λ e. blank_takes Whitespace e)
      (λ _. cond_both (at_line_end text) (Ok (cond (in_brackets inner) Whitespace Eol, line_end_len text)) _ P
      (λ e. eol_takes (cond (in_brackets inner) Whitespace Eol) e)
      (λ no_end. cond_both (first text == 35) (Ok (Comment, line_len text)) (mark_token inner text) P
      (λ e. let some : 0 < length text = nonempty_from_first text (grind (arith, nat_tests)) in consumes Comment _ (line_boundary text) (until_some at_line_end text some no_end))
      (λ _. mark_takes)))

  word_takes : P (word_token inner text)
  unfolding P word_token
  word_takes =
      let opened : (k : TokenKind) (f : Fault) (format : Bool) (letters : ℕ) → P (sized k f (opened_len format letters text)) = λ k f format letters. sized_takes k f (opened_len format letters text) (ended_boundary format (quotes_at (drop letters text)) (letters + quotes_len (quotes_at (drop letters text))) text utf8) in
      cond_both (is_quote (first text)) (sized StringToken faults.UnclosedString (opened_len false 0 text)) _ P (λ _. opened StringToken faults.UnclosedString false 0)
      (λ _. cond_both (opens_string 120 text) (sized StringToken faults.UnclosedString (opened_len false 1 text)) _ P (λ _. opened StringToken faults.UnclosedString false 1)
      (λ _. cond_both (opens_string 102 text) (sized FormatStringStart faults.UnclosedString (opened_len true 1 text)) _ P (λ _. opened FormatStringStart faults.UnclosedString true 1)
      (λ _. cond_both (first text == 96) (sized Backtick faults.UnclosedCommand (opened_len false 0 text)) _ P (λ _. opened Backtick faults.UnclosedCommand false 0)
      (λ _. cond_both (is_letter (first text)) (Ok (Identifier, prefix_len is_word text)) (blank_token inner text) P
      (λ e. consumes Identifier _ (after_ascii_run is_word text _ (omega arith) utf8 is_word_ascii) (run_positive is_word text refl (letter_is_word (first text) e)))
      (λ _. blanks_take)))))

  line_takes : ((length text == 0) ≡ true → weight (line_after line inner Eof []) < weight line) → P (line_token inner text)
  unfolding P line_token
  line_takes lighter =
      cond_both (length text == 0) (Ok (Eof, 0)) (word_token inner text) P
      (λ e. passes Eof (lighter e))
      (λ _. word_takes)

  start_takes : (may : Bool) → weight (line_after line inner Eof []) < weight line → P (start_token may inner text)
  unfolding P start_token
  start_takes may lighter =
      cond_both (not (is_blank (first text)) || is_blank_line text) (line_token inner text) _ P
      (λ _. line_takes (λ _. lighter))
      (λ e.
      let blank : is_blank (first text) ≡ true = grind (arith, nat_tests) in
      cond_both (may && is_mixed text) (Err faults.MixedIndentation) (Ok (Indent, blank_len text)) P
      (λ _. tt)
      (λ _. blank_takes Indent blank))

  begin_takes : weight (line_after line inner Eof []) < weight line → P (begin_token inner text)
  unfolding P begin_token
  begin_takes lighter =
      cond_both (at_byte_order_mark text) (Ok (ByteOrderMark, 3)) (start_token false inner text) P
      (λ e. consumes ByteOrderMark 3 (mark_boundary text utf8 e) (omega arith))
      (λ _. start_takes false lighter)

  interpolation_takes : P (interpolation_token inner text)
  unfolding P interpolation_token
  interpolation_takes =
      cond_both (breaks_off text) (Err faults.UnclosedInterpolation) (line_token inner text) P
      (λ _. tt)
      (λ goes. line_takes (λ none. absurd (let ends : breaks_off text ≡ true = rw none refl in cc (ends, goes))))

  body_line_takes : weight (line_after line inner Dedent []) < weight line → P (body_line_token text)
  unfolding P body_line_token
  body_line_takes lighter =
      cond_both (length text == 0) (Ok (Dedent, 0)) _ P
      (λ _. passes Dedent lighter)
      (λ some.
      let nonempty : 0 < length text = grind (arith, nat_tests) in
      cond_both (at_line_end text) (Ok (Eol, line_end_len text)) _ P
      (λ e. eol_takes Eol e)
      (λ no_end.
      cond_both (text_len text == 0) (Ok (InterpolationStart, 2)) (Ok (Text, text_len text)) P
      (λ none. consumes InterpolationStart 2 (at_two_boundary text 123 123 utf8 (braces_stand text nonempty no_end (eqb-true (text_len text) 0 none)) (omega arith) (omega arith)) (omega arith))
      (λ more. consumes Text _ (text_boundary text) (grind (arith, nat_tests)))))

indent_ascii : (i : Indentation) (c : ℕ) → (c == indent_byte i) ≡ true → c < 128
indent_ascii (Spaces n) c e = grind (arith, nat_tests)
indent_ascii (Tabs n) c e = grind (arith, nat_tests)

body_start_takes : (i : Indentation) (inner : Option Open) (text : List ℕ) → IsUtf8 text → AtFound (Takes (BodyStart i) inner text) (body_start_token i text)
unfolding body_start_token line_after
body_start_takes i inner text utf8 =
    let P : Found → Type 0 = AtFound (Takes (BodyStart i) inner text) in
    cond_both (at_line_end text) (Ok (Eol, line_end_len text)) _ P
    (λ e. eol_takes (BodyStart i) inner text utf8 Eol e)
    (λ _.
    cond_both (not (is_blank (first text))) (Ok (Dedent, 0)) _ P
    (λ _. passes (BodyStart i) inner text utf8 Dedent (omega arith))
    (λ e.
    let blank : is_blank (first text) ≡ true = grind (arith, nat_tests) in
    cond_both (is_blank_line text) (Ok (Whitespace, blank_len text)) _ P
    (λ _. blank_takes (BodyStart i) inner text utf8 Whitespace blank)
    (λ _.
    cond_both (has_indentation i text) (Ok (Whitespace, indent_width i)) (Err faults.OtherIndentation) P
    (λ has.
    let fits : indent_width i ≤ prefix_len (λ b. b == indent_byte i) text = grind (arith, nat_tests) in
    record { boundary = after_ascii_run (λ b. b == indent_byte i) text (indent_width i) fits utf8 (indent_ascii i); smaller = omega (arith, length-drop (indent_width i) text) })
    (λ _. tt))))

found_takes : (line : Line) (inner : Option Open) (text : List ℕ) → IsUtf8 text → is_over line ≡ false → AtFound (Takes line inner text) (token_at line inner text)
unfolding token_at line_after start_after P
found_takes Begin inner text utf8 going = begin_takes Begin inner text utf8 (omega arith)
found_takes (Start may) inner text utf8 going = start_takes (Start may) inner text utf8 may (omega arith)
found_takes (Ahead may) inner text utf8 going = line_takes (Ahead may) inner text utf8 (λ _. omega arith)
found_takes (Inside may) inner text utf8 going = line_takes (Inside may) inner text utf8 (λ _. omega arith)
found_takes (BodyStart i) inner text utf8 going = body_start_takes i inner text utf8
found_takes (BodyLine i) inner text utf8 going =
    cond_both (is_some inner) (interpolation_token inner text) (body_line_token text) (AtFound (Takes (BodyLine i) inner text))
    (λ _. interpolation_takes (BodyLine i) inner text utf8)
    (λ _. body_line_takes (BodyLine i) inner text utf8 (omega arith))
found_takes Over inner text utf8 going = cc

-- the token that the code finds
pub token_takes : (line : Line) (inner : Option Open) (text : List ℕ) (k : TokenKind) (n : ℕ) → IsUtf8 text → is_over line ≡ false → token_at line inner text ≡ Ok (k, n) → Takes line inner text k n
token_takes line inner text k n utf8 going e = subst (AtFound (Takes line inner text)) e (found_takes line inner text utf8 going)
