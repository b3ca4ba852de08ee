-- The table of what may stand side by side tells what keeps apart.
use Rattle.std.proofs.Common.{◌≡◌, ℕ, ◌<◌, Bool, true, false, not, cond, ◌&&◌, ◌||◌, ◌==◌, nat_lt, List, [], ◌∷◌, ◌++◌, length, get_or, Option, refl, arith}
use Rattle.std.proofs.lemmas.Bool.{and_parts, cond_both}
use Rattle.std.proofs.lemmas.Bool.Decides.{nat_tests}
use Rattle.just_text.specs.declared.token_kind.TokenKind.{TokenKind}
use Rattle.just_text.specs.declared.token_kind.TokenKind.TheVariants.{Backtick, Bang, BraceL, Colon, ColonColon, ColonEquals, Comment, Eol, Equals, EqualsEquals, EqualsTilde, FormatStringContinue, FormatStringStart, Identifier, Indent, InterpolationStart, Plus, PlusPlus, StringToken, Text, Whitespace}
use Rattle.just_lexer.specs.declared.mode.Open.{Open}
use Rattle.just_lexer.specs.Classes.{first, second, is_word, is_blank, is_quote, at_two, at_braces, at_line_end, opens_format_interpolation}
use Rattle.just_lexer.specs.Strings.{opened_len, opens_string}
use Rattle.just_lexer.specs.Longest.{two, string_len, reach}
use Rattle.justfile_syntax.specs.Fits.{last_byte, at_end, makes_line_end, makes_three, makes_four, is_string_letter, goes_no_further, keeps_apart}
use Rattle.justfile_syntax.specs.Table.{may_precede, ends_well, TableHolds, is_break, ends_at_breaks, BreaksKeepApart}
use Rattle.justfile_syntax.proofs.Begins.{begins, begins_with}
use Rattle.justfile_syntax.proofs.Stays.{end_stays}
use Rattle.justfile_syntax.proofs.Stands.{lexeme_reach}

-- by the first byte of the next token

word_apart : (j : TokenKind) (c : ℕ) → may_precede Identifier j ≡ true → begins j c ≡ true → (is_word c || is_quote c) ≡ false
word_apart FormatStringStart c m b = cc
word_apart Identifier c m b = cc
word_apart StringToken c m b = cc
word_apart Text c m b = cc
word_apart j c m b = grind (arith, nat_tests)

colon_apart : (j : TokenKind) (c : ℕ) → may_precede Colon j ≡ true → begins j c ≡ true → goes_no_further Colon c ≡ true
colon_apart Colon c m b = cc
colon_apart ColonColon c m b = cc
colon_apart ColonEquals c m b = cc
colon_apart Equals c m b = cc
colon_apart EqualsEquals c m b = cc
colon_apart EqualsTilde c m b = cc
colon_apart Text c m b = cc
colon_apart j c m b = grind (arith, nat_tests)

bang_apart : (j : TokenKind) (c : ℕ) → may_precede Bang j ≡ true → begins j c ≡ true → goes_no_further Bang c ≡ true
bang_apart Equals c m b = cc
bang_apart EqualsEquals c m b = cc
bang_apart EqualsTilde c m b = cc
bang_apart Text c m b = cc
bang_apart j c m b = grind (arith, nat_tests)

equals_apart : (j : TokenKind) (c : ℕ) → may_precede Equals j ≡ true → begins j c ≡ true → goes_no_further Equals c ≡ true
equals_apart Equals c m b = cc
equals_apart EqualsEquals c m b = cc
equals_apart EqualsTilde c m b = cc
equals_apart Text c m b = cc
equals_apart j c m b = grind (arith, nat_tests)

plus_apart : (j : TokenKind) (c : ℕ) → may_precede Plus j ≡ true → begins j c ≡ true → goes_no_further Plus c ≡ true
plus_apart Plus c m b = cc
plus_apart PlusPlus c m b = cc
plus_apart Text c m b = cc
plus_apart j c m b = grind (arith, nat_tests)

blank_apart : (j : TokenKind) (c : ℕ) → may_precede Whitespace j ≡ true → begins j c ≡ true → is_blank c ≡ false
blank_apart Indent c m b = cc
blank_apart Whitespace c m b = cc
blank_apart Text c m b = cc
blank_apart j c m b = grind (arith, nat_tests)

indent_apart : (j : TokenKind) (c : ℕ) → may_precede Indent j ≡ true → begins j c ≡ true → is_blank c ≡ false
indent_apart Eol c m b = cc
indent_apart Indent c m b = cc
indent_apart Whitespace c m b = cc
indent_apart Text c m b = cc
indent_apart j c m b = grind (arith, nat_tests)

brace_apart : (j : TokenKind) (c : ℕ) → may_precede InterpolationStart j ≡ true → begins j c ≡ true → (c == 123) ≡ false
brace_apart BraceL c m b = cc
brace_apart InterpolationStart c m b = cc
brace_apart Text c m b = cc
brace_apart j c m b = grind (arith, nat_tests)

continue_apart : (j : TokenKind) (c : ℕ) → may_precede FormatStringContinue j ≡ true → begins j c ≡ true → (c == 123) ≡ false
continue_apart BraceL c m b = cc
continue_apart InterpolationStart c m b = cc
continue_apart Text c m b = cc
continue_apart j c m b = grind (arith, nat_tests)

format_apart : (j : TokenKind) (c : ℕ) → may_precede FormatStringStart j ≡ true → begins j c ≡ true → (c == 123 || is_quote c) ≡ false
format_apart BraceL c m b = cc
format_apart InterpolationStart c m b = cc
format_apart StringToken c m b = cc
format_apart Text c m b = cc
format_apart j c m b = grind (arith, nat_tests)

string_apart : (j : TokenKind) (c : ℕ) → may_precede StringToken j ≡ true → begins j c ≡ true → is_quote c ≡ false
string_apart StringToken c m b = cc
string_apart Text c m b = cc
string_apart j c m b = grind (arith, nat_tests)

command_apart : (j : TokenKind) (c : ℕ) → may_precede Backtick j ≡ true → begins j c ≡ true → (c == 96) ≡ false
command_apart Backtick c m b = cc
command_apart Text c m b = cc
command_apart j c m b = grind (arith, nat_tests)

only_eol : (j : TokenKind) → may_precede Comment j ≡ true → j ≡ Eol
only_eol Eol m = refl
only_eol j m = cc

-- the mark that opens a string

either : (a b : Bool) → (a || b) ≡ false → (a ≡ false) × (b ≡ false)
either true b e = cc
either false b e = (refl, e)

string_mark : (c : ℕ) (cs : List ℕ) → 0 < string_len (c ∷ cs) → is_quote (get_or (c ∷ cs) (cond (is_quote c) 0 1) 0) ≡ true
string_mark c cs =
    cond_both (is_quote c) (opened_len false 0 (c ∷ cs)) _ (λ n. 0 < n → is_quote (get_or (c ∷ cs) (cond (is_quote c) 0 1) 0) ≡ true) (λ t p. rw t t)
    (λ f. cond_both (opens_string 120 (c ∷ cs)) (opened_len false 1 (c ∷ cs)) 0 (λ n. 0 < n → is_quote (get_or (c ∷ cs) (cond (is_quote c) 0 1) 0) ≡ true)
    (λ t p. rw f (and_parts (c == 120) (is_quote (second (c ∷ cs))) t).1)
    (λ t p. absurd (omega arith)))

format_mark : (c : ℕ) (cs : List ℕ) → 0 < cond (opens_string 102 (c ∷ cs)) (opened_len true 1 (c ∷ cs)) 0 → is_quote (second (c ∷ cs)) ≡ true
format_mark c cs =
    cond_both (opens_string 102 (c ∷ cs)) (opened_len true 1 (c ∷ cs)) 0 (λ n. 0 < n → is_quote (second (c ∷ cs)) ≡ true)
    (λ t p. (and_parts (c == 102) (is_quote (second (c ∷ cs))) t).1)
    (λ t p. absurd (omega arith))

other_mark : (letters c : ℕ) (text xs : List ℕ) → is_quote (get_or text letters 0) ≡ true → is_quote c ≡ false → makes_three letters text (c ∷ xs) ≡ false
other_mark letters c text xs mark no_quote = grind (arith, nat_tests)

-- what the table asks for

pub both : (a b : Bool) → a ≡ true → b ≡ true → (a && b) ≡ true
both a b e f = rw (e, f) refl

not_both : (a b : Bool) → b ≡ false → not (a && b) ≡ true
not_both true b e = rw e refl
not_both false b e = refl

line_end_there : (behind : Option Open) (j : TokenKind) (c : ℕ) (cs rest : List ℕ) → reach behind j (c ∷ cs) ≡ length (c ∷ cs) → j ≡ Eol → at_line_end (c ∷ cs ++ rest) ≡ true
line_end_there behind Eol c cs rest h e = let some : nat_lt 0 (length (c ∷ cs)) ≡ true = grind (arith, nat_tests) in rw (end_stays c cs rest h) some
line_end_there behind j c cs rest h e = cc

no_line_end : (text rest : List ℕ) → not (last_byte text == 13) ≡ true → not (makes_line_end text rest) ≡ true
no_line_end text rest h = grind (arith, nat_tests)

two_braces : (c : ℕ) (cs rest : List ℕ) → two 123 123 (c ∷ cs) ≡ length (c ∷ cs) → not (at_braces rest) ≡ true → opens_format_interpolation (c ∷ cs ++ rest) ≡ true
two_braces c [] rest h e = absurd (grind (arith, nat_tests))
two_braces c (d ∷ x ∷ cs) rest h e = absurd (cond_both (at_two 123 123 (c ∷ d ∷ x ∷ cs)) 2 0 (λ n. n ≡ length (c ∷ d ∷ x ∷ cs) → ⊥) (λ _ q. omega arith) (λ _ q. omega arith) h)
two_braces c (d ∷ []) rest h e =
    let braces : at_two 123 123 (c ∷ d ∷ []) ≡ true = grind (arith, nat_tests) in
    grind (arith, nat_tests)

first_braces : (c : ℕ) (xs : List ℕ) → (c == 123) ≡ false → at_braces (c ∷ xs) ≡ false
first_braces c xs e = rw e refl

-- text before a token
text_apart : (j : TokenKind) (behind : Option Open) (text : List ℕ) (c : ℕ) (cs rest : List ℕ) → may_precede Text j ≡ true → ends_well Text j text ≡ true → reach behind j (c ∷ cs) ≡ length (c ∷ cs) → keeps_apart j (c ∷ cs) rest ≡ true → keeps_apart Text text (c ∷ cs ++ rest) ≡ true
text_apart Eol behind text c cs rest m e r apart =
    let line : at_line_end (c ∷ cs ++ rest) ≡ true = line_end_there behind Eol c cs rest r refl in
    let more : not (makes_line_end text (c ∷ cs ++ rest)) ≡ true = no_line_end text (c ∷ cs ++ rest) e in
    let some : (length (c ∷ cs ++ rest) == 0) ≡ false = grind (arith, nat_tests) in
    rw (some, line, more) refl
text_apart InterpolationStart behind text c cs rest m e r apart =
    let format_interpolation : opens_format_interpolation (c ∷ cs ++ rest) ≡ true = two_braces c cs rest r apart in
    let no_end : at_line_end (c ∷ cs ++ rest) ≡ false = grind (arith, nat_tests) in
    let some : (length (c ∷ cs ++ rest) == 0) ≡ false = grind (arith, nat_tests) in
    rw (some, no_end, format_interpolation, e) refl
text_apart j behind text c cs rest m e r apart = cc

module _ (inner behind : Option Open) (j : TokenKind) (t : ℕ) (ts : List ℕ) (c : ℕ) (cs rest : List ℕ) where
  text : List ℕ
  text = t ∷ ts

  by_first : (k : TokenKind) → may_precede k j ≡ true → ends_well k j (t ∷ ts) ≡ true → reach inner k (t ∷ ts) ≡ length (t ∷ ts) → reach behind j (c ∷ cs) ≡ length (c ∷ cs) → keeps_apart j (c ∷ cs) rest ≡ true → begins j c ≡ true → keeps_apart k (t ∷ ts) (c ∷ cs ++ rest) ≡ true
  by_first Identifier m e h r apart b =
      let no = either (is_word c) (is_quote c) (word_apart j c m b) in
      both (not (is_word c)) (not (is_string_letter (t ∷ ts) && is_quote c)) (rw no.0 refl) (not_both (is_string_letter (t ∷ ts)) (is_quote c) no.1)
  by_first Bang m e h r apart b = bang_apart j c m b
  by_first Colon m e h r apart b = colon_apart j c m b
  by_first Equals m e h r apart b = equals_apart j c m b
  by_first Plus m e h r apart b = plus_apart j c m b
  by_first StringToken m e h r apart b = let none = other_mark (cond (is_quote t) 0 1) c (t ∷ ts) (cs ++ rest) (string_mark t ts (omega arith)) (string_apart j c m b) in rw none refl
  by_first Backtick m e h r apart b = not_both (length (t ∷ ts) == 2) (c == t) (let mark : (t == 96) ≡ true = begins_with inner Backtick t ts (omega arith) in let other : (c == 96) ≡ false = command_apart j c m b in grind (arith, nat_tests))
  by_first FormatStringStart m e h r apart b =
      let no = either (c == 123) (is_quote c) (format_apart j c m b) in
      let three = other_mark 1 c (t ∷ ts) (cs ++ rest) (format_mark t ts (omega arith)) no.1 in
      both (not (makes_three 1 (t ∷ ts) (c ∷ cs ++ rest))) (not (makes_four (t ∷ ts) (c ∷ cs ++ rest))) (rw three refl) (not_both (last_byte (t ∷ ts) == 123) (at_braces (c ∷ cs ++ rest)) (first_braces c (cs ++ rest) no.0))
  by_first FormatStringContinue m e h r apart b = not_both (last_byte (t ∷ ts) == 123) (at_braces (c ∷ cs ++ rest)) (first_braces c (cs ++ rest) (continue_apart j c m b))
  by_first Whitespace m e h r apart b = not_both (is_blank t) (is_blank c) (blank_apart j c m b)
  by_first Indent m e h r apart b = rw (indent_apart j c m b) refl
  by_first InterpolationStart m e h r apart b = rw (first_braces c (cs ++ rest) (brace_apart j c m b)) refl
  by_first Comment m e h r apart b =
      let line : at_line_end (c ∷ cs ++ rest) ≡ true = line_end_there behind j c cs rest r (only_eol j m) in
      both (at_end (c ∷ cs ++ rest)) (not (makes_line_end (t ∷ ts) (c ∷ cs ++ rest))) (grind (arith, nat_tests)) (no_line_end (t ∷ ts) (c ∷ cs ++ rest) e)
  by_first Text m e h r apart b = text_apart j behind (t ∷ ts) c cs rest m e r apart
  by_first k m e h r apart b = refl

pub table_holds : TableHolds
table_holds inner behind k j [] next rest m e h n apart = absurd (grind (arith, nat_tests))
table_holds inner behind k j (t ∷ ts) [] rest m e h n apart = absurd (grind (arith, nat_tests))
table_holds inner behind k j (t ∷ ts) (c ∷ cs) rest m e h n apart =
    let r : reach behind j (c ∷ cs) ≡ length (c ∷ cs) = lexeme_reach behind j (c ∷ cs) n in
    by_first inner behind j t ts c cs rest k m e (lexeme_reach inner k (t ∷ ts) h) r apart (begins_with behind j c cs (omega arith))

-- bytes that break

-- what such a byte is not
record Breaks (b : ℕ) : Type 0 where
  no_word : is_word b ≡ false
  no_quote : is_quote b ≡ false
  no_tick : (b == 96) ≡ false
  no_brace : (b == 123) ≡ false
  no_bang : goes_no_further Bang b ≡ true
  no_colon : goes_no_further Colon b ≡ true
  no_equals : goes_no_further Equals b ≡ true
  no_plus : goes_no_further Plus b ≡ true

breaks : (b : ℕ) → is_break b ≡ true → Breaks b
breaks b h = record {
  no_word = grind (arith, nat_tests);
  no_quote = grind (arith, nat_tests);
  no_tick = grind (arith, nat_tests);
  no_brace = grind (arith, nat_tests);
  no_bang = grind (arith, nat_tests);
  no_colon = grind (arith, nat_tests);
  no_equals = grind (arith, nat_tests);
  no_plus = grind (arith, nat_tests);
}

other_first : (letters : ℕ) (text rest : List ℕ) → is_quote (get_or text letters 0) ≡ true → is_quote (first rest) ≡ false → makes_three letters text rest ≡ false
other_first letters text rest mark no_quote = grind (arith, nat_tests)

no_tick_behind : (t : ℕ) (ts rest : List ℕ) → (t == 96) ≡ true → (first rest == 96) ≡ false → makes_three 0 (t ∷ ts) rest ≡ false
no_tick_behind t ts rest mark other = grind (arith, nat_tests)

no_braces_behind : (rest : List ℕ) → (first rest == 123) ≡ false → at_braces rest ≡ false
no_braces_behind rest e = rw e refl

break_apart : (inner : Option Open) (k : TokenKind) (t : ℕ) (ts rest : List ℕ) → ends_at_breaks k ≡ true → reach inner k (t ∷ ts) ≡ length (t ∷ ts) → Breaks (first rest) → keeps_apart k (t ∷ ts) rest ≡ true
break_apart inner Identifier t ts rest e r b = both (not (is_word (first rest))) (not (is_string_letter (t ∷ ts) && is_quote (first rest))) (rw b.no_word refl) (not_both (is_string_letter (t ∷ ts)) (is_quote (first rest)) b.no_quote)
break_apart inner Bang t ts rest e r b = b.no_bang
break_apart inner Colon t ts rest e r b = b.no_colon
break_apart inner Equals t ts rest e r b = b.no_equals
break_apart inner Plus t ts rest e r b = b.no_plus
break_apart inner StringToken t ts rest e r b = let none = other_first (cond (is_quote t) 0 1) (t ∷ ts) rest (string_mark t ts (omega arith)) b.no_quote in rw none refl
break_apart inner Backtick t ts rest e r b = let none = no_tick_behind t ts rest (begins_with inner Backtick t ts (omega arith)) b.no_tick in rw none refl
break_apart inner FormatStringStart t ts rest e r b =
    let three = other_first 1 (t ∷ ts) rest (format_mark t ts (omega arith)) b.no_quote in
    both (not (makes_three 1 (t ∷ ts) rest)) (not (makes_four (t ∷ ts) rest)) (rw three refl) (not_both (last_byte (t ∷ ts) == 123) (at_braces rest) (no_braces_behind rest b.no_brace))
break_apart inner FormatStringContinue t ts rest e r b = not_both (last_byte (t ∷ ts) == 123) (at_braces rest) (no_braces_behind rest b.no_brace)
break_apart inner InterpolationStart t ts rest e r b = rw (no_braces_behind rest b.no_brace) refl
break_apart inner Whitespace t ts rest e r b = cc
break_apart inner Indent t ts rest e r b = cc
break_apart inner Comment t ts rest e r b = cc
break_apart inner Text t ts rest e r b = cc
break_apart inner k t ts rest e r b = refl

pub breaks_keep_apart : BreaksKeepApart
breaks_keep_apart inner k [] rest e h b = absurd (grind (arith, nat_tests))
breaks_keep_apart inner k (t ∷ ts) rest e h b = break_apart inner k t ts rest e (lexeme_reach inner k (t ∷ ts) h) (breaks (first rest) b)
