-- The printed words of an expression are its tokens.
use Rattle.std.proofs.Common.{◌≡◌, ℕ, ◌<◌, Bool, true, false, ◌&&◌, List, [], ◌∷◌, ◌++◌, length, drop, Some, None, refl, arith, inl, inr}
use Rattle.std.specs.Prelude.{codes, not, ◌||◌, ◌==◌}
use Rattle.std.proofs.lemmas.Bool.{and_parts}
use Rattle.std.proofs.lemmas.Bool.Decides.{nat_tests}
use Rattle.just_text.specs.Tokens.{Word}
use Rattle.just_text.specs.declared.delimiter.Delimiter.TheVariants.{Brace, Bracket, Paren}
use Rattle.just_text.specs.declared.token_kind.TokenKind.{TokenKind}
use Rattle.just_text.specs.declared.token_kind.TokenKind.TheVariants.{Backtick, Bang, BraceL, BraceR, BracketL, BracketR, FormatStringContinue, FormatStringEnd, FormatStringStart, Identifier, Slash, StringToken}
use Rattle.just_lexer.specs.Classes.{first, is_letter, is_quote, is_blank, at_braces}
use Rattle.just_lexer.specs.declared.quotes.Quotes.{Quotes}
use Rattle.just_lexer.specs.declared.mode.Open.{Open}
use Rattle.just_lexer.specs.declared.mode.Open.TheVariants.{Bracket as BracketOpen, FormatInterpolation}
use Rattle.just_lexer.specs.Modes.{Mode, innermost, in_brackets}
use Rattle.just_lexer.specs.Strings.{quotes_at, ends_in_format_interpolation}
use Rattle.just_lexer.specs.Longest.{reach, is_line_kind}
use Rattle.tree_expressions.specs.Operators.{Binary, disjunction, conjunction, comparison, appending, concatenation, joining, mark_of}
use Rattle.tree_expressions.specs.declared.operator.ConditionalOperator.TheVariants.{Equality, Inequality, RegexMatch, RegexMismatch}
use Rattle.tree_expressions.specs.Shape.{Shape, Shapes, Interpolations, literal, command, format, variable, call, assertion, assertion_alone, group, listing, choice, choice_alone, negation, rooted, binary, end, more, closed, interpolation}
use Rattle.tree_items.specs.Printable.{is_choice}
use Rattle.parse_expressions.specs.Words.{if_keyword, else_keyword, assert_keyword}
use Rattle.parse_expressions.specs.Operators.{sign}
use Rattle.parse_expressions.specs.Grammar.{part_kind, has_interpolations}
use Rattle.parse_expressions.proofs.Taken.{test}
use Rattle.justfile_syntax.specs.Words.{LexesFrom, joined}
use Rattle.justfile_syntax.specs.Fits.{is_lexeme, keeps_apart, is_alone}
use Rattle.justfile_syntax.specs.Table.{is_break}
use Rattle.justfile_syntax.specs.Beside.{is_simple}
use Rattle.justfile_syntax.specs.InCode.{is_code, is_plain, is_on_line, within, format_interpolation}
use Rattle.justfile_syntax.specs.Lexemes.{is_anywhere}
use Rattle.justfile_syntax.proofs.Words.{joins_up}
use Rattle.justfile_syntax.proofs.Begins.{begins_with}
use Rattle.justfile_syntax.proofs.InCode.{plain_words, brackets_open, brackets_close, within_is_code, whole_formats, formats_open, formats_close, innermost_push}
use Rattle.justfile_syntax.proofs.Beside.{leads_to_breaks, spaces_lead_on}
use Rattle.justfile_syntax.proofs.Lexemes.{lexemes_anywhere, parts_anywhere}
use Rattle.justfile_syntax.proofs.Table.{breaks_keep_apart}
use Rattle.laws_printing.specs.Printing.Words.{word, space, open_paren, close_paren, comma, braced_words, other_words, words_of, words_of_all, words_of_others, words_inside}
use Rattle.laws_printing.specs.Printing.Lexed.{is_written, are_written, are_parts_written, ends_expression, Apart}

-- one word more in front
pub on_word : (m between to : Mode) (w : Word) (ws : List Word) (rest : List ℕ) → LexesFrom m (w ∷ []) (joined ws rest) between → LexesFrom between ws rest to → LexesFrom m (w ∷ ws) rest to
on_word m between to w ws rest a b = joins_up m between to (w ∷ []) ws rest a b

breaks_kind : (k : TokenKind) → ends_expression k ≡ true → Rattle.justfile_syntax.specs.Table.ends_at_breaks k ≡ true
breaks_kind Backtick h = refl
breaks_kind FormatStringStart h = refl
breaks_kind Identifier h = refl
breaks_kind StringToken h = refl
breaks_kind k h = absurd cc

-- before such a byte an expression may end
pub apart_break : (rest : List ℕ) → is_break (first rest) ≡ true → Apart rest
apart_break rest b = record { keeps = λ k text e is. breaks_keep_apart None k text rest (breaks_kind k e) is b }

both : (a b : Bool) → a ≡ true → b ≡ true → a && b ≡ true
both true b p q = q
both false b p q = cc

-- a word that ends an expression
pub ending : (m : Mode) (k : TokenKind) (text rest : List ℕ) → is_code m ≡ true → is_plain k ≡ true → is_on_line k text ≡ true → is_line_kind (innermost m.opened) k ≡ true → is_anywhere k ≡ true → is_lexeme None k text ≡ true → keeps_apart k text rest ≡ true → LexesFrom m (word k text ∷ []) rest m
ending m k text rest there plain line allowed anywhere is apart =
    let here : is_lexeme (innermost m.opened) k text ≡ true = lexemes_anywhere None (innermost m.opened) k text anywhere is in
    plain_words m (word k text) rest there plain line
    (both (is_line_kind (innermost m.opened) k) (is_alone (innermost m.opened) (word k text) rest) allowed (both (is_lexeme (innermost m.opened) k text) (keeps_apart k text rest) here apart))

sign_simple : (operator : Binary) → is_simple (sign operator) ≡ true
sign_simple disjunction = refl
sign_simple conjunction = refl
sign_simple (comparison Equality) = refl
sign_simple (comparison Inequality) = refl
sign_simple (comparison RegexMatch) = refl
sign_simple (comparison RegexMismatch) = refl
sign_simple appending = refl
sign_simple concatenation = refl
sign_simple joining = refl

sign_lexeme : (operator : Binary) → is_lexeme None (sign operator) (mark_of operator) ≡ true
sign_lexeme disjunction = refl
sign_lexeme conjunction = refl
sign_lexeme (comparison Equality) = refl
sign_lexeme (comparison Inequality) = refl
sign_lexeme (comparison RegexMatch) = refl
sign_lexeme (comparison RegexMismatch) = refl
sign_lexeme appending = refl
sign_lexeme concatenation = refl
sign_lexeme joining = refl

mark_first : (operator : Binary) (rest : List ℕ) → not (is_blank (first (mark_of operator ++ rest))) ≡ true
mark_first disjunction rest = refl
mark_first conjunction rest = refl
mark_first (comparison Equality) rest = refl
mark_first (comparison Inequality) rest = refl
mark_first (comparison RegexMatch) rest = refl
mark_first (comparison RegexMismatch) rest = refl
mark_first appending rest = refl
mark_first concatenation rest = refl
mark_first joining rest = refl

-- ---- the first byte

abbrev pub begins_expression : ℕ → Bool
begins_expression b = is_letter b || is_quote b || b == 96 || b == 40 || b == 91 || b == 33 || b == 47

lexeme_reach : (k : TokenKind) (text : List ℕ) → is_lexeme None k text ≡ true → reach None k text ≡ length text
lexeme_reach k text h = grind (arith, nat_tests, h)

pub name_first : (s rest : List ℕ) → is_lexeme None Identifier s ≡ true → begins_expression (first (s ++ rest)) ≡ true
name_first [] rest h = absurd (grind (arith, nat_tests))
name_first (c ∷ cs) rest h = let b : is_letter c ≡ true = begins_with None Identifier c cs (rw (lexeme_reach Identifier (c ∷ cs) h) (omega arith)) in grind (arith, nat_tests, b)

pub string_first : (s rest : List ℕ) → is_lexeme None StringToken s ≡ true → begins_expression (first (s ++ rest)) ≡ true
string_first [] rest h = absurd (grind (arith, nat_tests))
string_first (c ∷ cs) rest h = let b : (is_quote c || c == 120) ≡ true = begins_with None StringToken c cs (rw (lexeme_reach StringToken (c ∷ cs) h) (omega arith)) in grind (arith, nat_tests, b)

command_first : (s rest : List ℕ) → is_lexeme None Backtick s ≡ true → begins_expression (first (s ++ rest)) ≡ true
command_first [] rest h = absurd (grind (arith, nat_tests))
command_first (c ∷ cs) rest h = let b : (c == 96) ≡ true = begins_with None Backtick c cs (rw (lexeme_reach Backtick (c ∷ cs) h) (omega arith)) in grind (arith, nat_tests, b)

format_first : (s rest : List ℕ) → is_lexeme None FormatStringStart s ≡ true → begins_expression (first (s ++ rest)) ≡ true
format_first [] rest h = absurd (grind (arith, nat_tests))
format_first (c ∷ cs) rest h = let b : (c == 102) ≡ true = begins_with None FormatStringStart c cs (rw (lexeme_reach FormatStringStart (c ∷ cs) h) (omega arith)) in grind (arith, nat_tests, b)

-- a format string that stops at an expression
record IsOpened (s : List ℕ) (q : Quotes) (hs : Interpolations) : Type 0 where
  lexeme : is_lexeme None FormatStringStart s ≡ true
  stops : ends_in_format_interpolation (length s) s ≡ true
  long : (length s == 3) ≡ false
  parts : are_parts_written q hs ≡ true

opened : (s : List ℕ) (q : Quotes) (hs : Interpolations) → is_lexeme None FormatStringStart s && ends_in_format_interpolation (length s) s && not (length s == 3) && are_parts_written q hs ≡ true → IsOpened s q hs
opened s q hs w =
    let a = and_parts (is_lexeme None FormatStringStart s && ends_in_format_interpolation (length s) s && not (length s == 3)) (are_parts_written q hs) w in
    let b = and_parts (is_lexeme None FormatStringStart s && ends_in_format_interpolation (length s) s) (not (length s == 3)) a.0 in
    let c = and_parts (is_lexeme None FormatStringStart s) (ends_in_format_interpolation (length s) s) b.0 in
    record { lexeme = c.0; stops = c.1; long = grind (arith, b.1); parts = a.1 }

start_of : (s : List ℕ) (hs : Interpolations) → is_written (format s hs) ≡ true → is_lexeme None FormatStringStart s ≡ true
start_of s closed w = (and_parts (is_lexeme None FormatStringStart s) _ w).0
start_of s (interpolation e part hs) w = (opened s (quotes_at (drop 1 s)) (interpolation e part hs) w).lexeme

pub first_byte : (e : Shape) (after : List Word) (rest : List ℕ) → is_written e ≡ true → begins_expression (first (joined (words_of e after) rest)) ≡ true
unfolding words_of
first_byte (literal s) after rest w = string_first s (joined after rest) w
first_byte (command s) after rest w = command_first s (joined after rest) w
first_byte (format s hs) after rest w = format_first s (joined (words_inside hs after) rest) (start_of s hs w)
first_byte (variable x) after rest w = name_first x (joined after rest) w
first_byte (call f es) after rest w = name_first f (joined (open_paren ∷ words_of_all es (close_paren ∷ after)) rest) (and_parts (is_lexeme None Identifier f) (are_written es) w).0
first_byte (assertion c m) after rest w = refl
first_byte (assertion_alone c) after rest w = refl
first_byte (group e) after rest w = refl
first_byte (listing es) after rest w = refl
first_byte (choice c t o) after rest w = refl
first_byte (choice_alone c t) after rest w = refl
first_byte (negation e) after rest w = refl
first_byte (rooted e) after rest w = refl
first_byte (binary operator l r) after rest w = first_byte l (space ∷ word (sign operator) (mark_of operator) ∷ space ∷ words_of r after) rest (and_parts (is_written l) (is_written r) w).0

pub not_blank : (b : ℕ) → begins_expression b ≡ true → not (is_blank b) ≡ true
not_blank b h = grind (arith, nat_tests, h)

pub no_equals : (b : ℕ) → begins_expression b ≡ true → not (b == 61 || b == 126) ≡ true
no_equals b h = grind (arith, nat_tests, h)

no_brace : (l : List ℕ) → begins_expression (first l) ≡ true → at_braces l ≡ false
no_brace l h = grind (arith, nat_tests, h)

-- ---- in braces, and after `else`

-- the words lead on in code, before what they don't run together with
abbrev Leads : Shape → List ℕ → Type 0
Leads e rest = (m to : Mode) (after : List Word) → is_code m ≡ true → Apart (joined after rest) → LexesFrom m after rest to → LexesFrom m (words_of e after) rest to

pub spaced : (m to : Mode) (ws : List Word) (rest : List ℕ) → is_code m ≡ true → not (is_blank (first (joined ws rest))) ≡ true → LexesFrom m ws rest to → LexesFrom m (space ∷ ws) rest to
spaced m to ws rest there n l = on_word m m to space ws rest (spaces_lead_on m (joined ws rest) there n) l

pub spaced_expression : (m to : Mode) (e : Shape) (after : List Word) (rest : List ℕ) → is_code m ≡ true → is_written e ≡ true → LexesFrom m (words_of e after) rest to → LexesFrom m (space ∷ words_of e after) rest to
spaced_expression m to e after rest there w l = spaced m to (words_of e after) rest there (not_blank (first (joined (words_of e after) rest)) (first_byte e after rest w)) l

pub marked : (m to : Mode) (w : Word) (ws : List Word) (rest : List ℕ) → is_code m ≡ true → is_simple w.kind ≡ true → is_lexeme None w.kind w.text ≡ true → is_break (first (joined ws rest)) ≡ true → LexesFrom m ws rest to → LexesFrom m (w ∷ ws) rest to
marked m to w ws rest there simple is b l = on_word m m to w ws rest (leads_to_breaks m w (joined ws rest) there simple is b) l

braced_lexed : (m to : Mode) (e : Shape) (after : List Word) (rest : List ℕ) → is_code m ≡ true → is_written e ≡ true → Leads e rest → LexesFrom m after rest to → LexesFrom m (braced_words (words_of e) after) rest to
braced_lexed m to e after rest there w is l =
    let inner = within m (BracketOpen Brace) in
    let code = within_is_code m (BracketOpen Brace) there in
    let close = word BraceR (codes "}") ∷ after in
    let after_it = on_word inner m to (word BraceR (codes "}")) after rest (brackets_close m Brace (joined after rest) there) l in
    let inside = is inner to (space ∷ close) code (apart_break (joined (space ∷ close) rest) refl) (spaced inner to close rest code refl after_it) in
    on_word m inner to (word BraceL (codes "{")) (space ∷ words_of e (space ∷ close)) rest (brackets_open m Brace (joined (space ∷ words_of e (space ∷ close)) rest) there) (spaced_expression inner to e (space ∷ close) rest code w inside)

other_lexed : (m to : Mode) (o : Shape) (after : List Word) (rest : List ℕ) → is_code m ≡ true → is_written o ≡ true → Leads o rest → Apart (joined after rest) → LexesFrom m after rest to → LexesFrom m (space ∷ other_words o (words_of o) after) rest to
other_lexed m to o after rest there w is a l =
    elim (test (is_choice o)) [
      | inl h ↦ rw h (spaced_expression m to o after rest there w (is m to after there a l))
      | inr h ↦ rw h (spaced m to (braced_words (words_of o) after) rest there refl (braced_lexed m to o after rest there w is l))
    ]

-- ---- parts of format strings

part_first : (o : Open) (k : TokenKind) (part rest : List ℕ) → ((c : ℕ) (cs : List ℕ) → 0 < reach (Some o) k (c ∷ cs) → (c == 125) ≡ true) → is_lexeme (Some o) k part ≡ true → is_break (first (part ++ rest)) ≡ true
part_first o k [] rest f h = absurd (grind (arith, nat_tests))
part_first o k (c ∷ cs) rest f h = let b : (c == 125) ≡ true = f c cs (grind (arith, nat_tests, h)) in grind (arith, nat_tests, b)

others_break : (es : Shapes) (after : List Word) (rest : List ℕ) → is_break (first (joined after rest)) ≡ true → is_break (first (joined (words_of_others es after) rest)) ≡ true
unfolding words_of_others
others_break end after rest b = b
others_break (more e es) after rest b = refl

-- the start of a format string that stops at an expression
format_enters : (m : Mode) (s rest : List ℕ) (q : Quotes) (hs : Interpolations) → is_code m ≡ true → IsOpened s q hs → begins_expression (first rest) ≡ true → LexesFrom m (word FormatStringStart s ∷ []) rest (within m (format_interpolation m s))
format_enters m s rest q hs there o b =
    let here : is_lexeme (innermost m.opened) FormatStringStart s ≡ true = lexemes_anywhere None (innermost m.opened) FormatStringStart s refl o.lexeme in
    let n : at_braces rest ≡ false = no_brace rest b in
    let long = o.long in
    let apart : keeps_apart FormatStringStart s rest ≡ true = grind (arith, long, n) in
    formats_open m s rest there o.stops (both (is_line_kind (innermost m.opened) FormatStringStart) (is_alone (innermost m.opened) (word FormatStringStart s) rest) refl (both (is_lexeme (innermost m.opened) FormatStringStart s) (keeps_apart FormatStringStart s rest) here apart))

-- a further part leads on in the string
format_continues : (m : Mode) (o : Open) (part rest : List ℕ) → is_code m ≡ true → is_line_kind (Some o) FormatStringContinue ≡ true → is_lexeme (Some o) FormatStringContinue part ≡ true → begins_expression (first rest) ≡ true
    → LexesFrom (within m o) (word FormatStringContinue part ∷ []) rest (within m o)
format_continues m o part rest there allowed is b =
    let n : at_braces rest ≡ false = no_brace rest b in
    let apart : keeps_apart FormatStringContinue part rest ≡ true = grind (arith, n) in
    plain_words (within m o) (word FormatStringContinue part) rest (within_is_code m o there) refl refl
    (rw (innermost_push m.opened o) (both (is_line_kind (Some o) FormatStringContinue) (is_alone (Some o) (word FormatStringContinue part) rest) allowed (both (is_lexeme (Some o) FormatStringContinue part) (keeps_apart FormatStringContinue part rest) is apart)))

mutual
  unfolding words_of words_of_all words_of_others words_inside

  pub lexed : (m to : Mode) (e : Shape) (after : List Word) (rest : List ℕ) → is_code m ≡ true → is_written e ≡ true → Apart (joined after rest) → LexesFrom m after rest to → LexesFrom m (words_of e after) rest to
  lexed m to (literal s) after rest there w a l = on_word m m to (word StringToken s) after rest (ending m StringToken s (joined after rest) there refl refl refl refl w (a.keeps StringToken s refl w)) l
  lexed m to (command s) after rest there w a l = on_word m m to (word Backtick s) after rest (ending m Backtick s (joined after rest) there refl refl refl refl w (a.keeps Backtick s refl w)) l
  lexed m to (format s closed) after rest there w a l =
      let p = and_parts (is_lexeme None FormatStringStart s) (not (ends_in_format_interpolation (length s) s)) w in
      let whole : ends_in_format_interpolation (length s) s ≡ false = grind (arith, p.1) in
      let here : is_lexeme (innermost m.opened) FormatStringStart s ≡ true = lexemes_anywhere None (innermost m.opened) FormatStringStart s refl p.0 in
      on_word m m to (word FormatStringStart s) after rest
      (whole_formats m s (joined after rest) there whole
      (both (is_line_kind (innermost m.opened) FormatStringStart) (is_alone (innermost m.opened) (word FormatStringStart s) (joined after rest)) refl (both (is_lexeme (innermost m.opened) FormatStringStart s) (keeps_apart FormatStringStart s (joined after rest)) here (a.keeps FormatStringStart s refl p.0)))) l
  lexed m to (format s (interpolation e part hs)) after rest there w a l =
      let o = opened s (quotes_at (drop 1 s)) (interpolation e part hs) w in
      let ws = words_inside (interpolation e part hs) after in
      let p = and_parts (is_written e && is_lexeme (Some (FormatInterpolation (quotes_at (drop 1 s)) false)) (part_kind hs) part) (are_parts_written (quotes_at (drop 1 s)) hs) o.parts in
      let we = (and_parts (is_written e) _ p.0).0 in
      on_word m (within m (format_interpolation m s)) to (word FormatStringStart s) ws rest
      (format_enters m s (joined ws rest) (quotes_at (drop 1 s)) (interpolation e part hs) there o (first_byte e (word (part_kind hs) part ∷ words_inside hs after) rest we))
      (inside m to s (interpolation e part hs) after rest refl there o.parts l)
  lexed m to (variable x) after rest there w a l = on_word m m to (word Identifier x) after rest (ending m Identifier x (joined after rest) there refl refl refl refl w (a.keeps Identifier x refl w)) l
  lexed m to (call f es) after rest there w a l =
      let p = and_parts (is_lexeme None Identifier f) (are_written es) w in
      let inner = within m (BracketOpen Paren) in
      let after_it = on_word inner m to close_paren after rest (brackets_close m Paren (joined after rest) there) l in
      let ws = words_of_all es (close_paren ∷ after) in
      marked m to (word Identifier f) (open_paren ∷ ws) rest there refl p.0 refl
      (on_word m inner to open_paren ws rest (brackets_open m Paren (joined ws rest) there) (all inner to es (close_paren ∷ after) rest (within_is_code m (BracketOpen Paren) there) p.1 refl after_it))
  lexed m to (assertion c n) after rest there w a l =
      let p = and_parts (is_written c) (is_written n) w in
      let inner = within m (BracketOpen Paren) in
      let code = within_is_code m (BracketOpen Paren) there in
      let after_it = on_word inner m to close_paren after rest (brackets_close m Paren (joined after rest) there) l in
      let message = lexed inner to n (close_paren ∷ after) rest code p.1 (apart_break (joined (close_paren ∷ after) rest) refl) after_it in
      let ns = words_of n (close_paren ∷ after) in
      let second = marked inner to comma (space ∷ ns) rest code refl refl refl (spaced_expression inner to n (close_paren ∷ after) rest code p.1 message) in
      let condition = lexed inner to c (comma ∷ space ∷ ns) rest code p.0 (apart_break (joined (comma ∷ space ∷ ns) rest) refl) second in
      let cs = words_of c (comma ∷ space ∷ ns) in
      marked m to (word Identifier assert_keyword) (open_paren ∷ cs) rest there refl refl refl (on_word m inner to open_paren cs rest (brackets_open m Paren (joined cs rest) there) condition)
  lexed m to (assertion_alone c) after rest there w a l =
      let inner = within m (BracketOpen Paren) in
      let code = within_is_code m (BracketOpen Paren) there in
      let after_it = on_word inner m to close_paren after rest (brackets_close m Paren (joined after rest) there) l in
      let condition = lexed inner to c (close_paren ∷ after) rest code w (apart_break (joined (close_paren ∷ after) rest) refl) after_it in
      let cs = words_of c (close_paren ∷ after) in
      marked m to (word Identifier assert_keyword) (open_paren ∷ cs) rest there refl refl refl (on_word m inner to open_paren cs rest (brackets_open m Paren (joined cs rest) there) condition)
  lexed m to (group e) after rest there w a l =
      let inner = within m (BracketOpen Paren) in
      let code = within_is_code m (BracketOpen Paren) there in
      let after_it = on_word inner m to close_paren after rest (brackets_close m Paren (joined after rest) there) l in
      let es = words_of e (close_paren ∷ after) in
      on_word m inner to open_paren es rest (brackets_open m Paren (joined es rest) there) (lexed inner to e (close_paren ∷ after) rest code w (apart_break (joined (close_paren ∷ after) rest) refl) after_it)
  lexed m to (listing es) after rest there w a l =
      let inner = within m (BracketOpen Bracket) in
      let close = word BracketR (codes "]") ∷ after in
      let after_it = on_word inner m to (word BracketR (codes "]")) after rest (brackets_close m Bracket (joined after rest) there) l in
      let ws = words_of_all es close in
      on_word m inner to (word BracketL (codes "[")) ws rest (brackets_open m Bracket (joined ws rest) there) (all inner to es close rest (within_is_code m (BracketOpen Bracket) there) w refl after_it)
  lexed m to (choice c t o) after rest there w a l =
      let p = and_parts (is_written c && is_written t) (is_written o) w in
      let q = and_parts (is_written c) (is_written t) p.0 in
      let r4 = space ∷ other_words o (words_of o) after in
      let l4 = other_lexed m to o after rest there p.1 (λ m' to' after' there' a' l'. lexed m' to' o after' rest there' p.1 a' l') a l in
      let r3 = space ∷ word Identifier else_keyword ∷ r4 in
      let l3 = spaced m to (word Identifier else_keyword ∷ r4) rest there refl (marked m to (word Identifier else_keyword) r4 rest there refl refl refl l4) in
      let r2 = braced_words (words_of t) r3 in
      let l2 = braced_lexed m to t r3 rest there q.1 (λ m' to' after' there' a' l'. lexed m' to' t after' rest there' q.1 a' l') l3 in
      let l1 = lexed m to c (space ∷ r2) rest there q.0 (apart_break (joined (space ∷ r2) rest) refl) (spaced m to r2 rest there refl l2) in
      marked m to (word Identifier if_keyword) (space ∷ words_of c (space ∷ r2)) rest there refl refl refl (spaced_expression m to c (space ∷ r2) rest there q.0 l1)
  lexed m to (choice_alone c t) after rest there w a l =
      let q = and_parts (is_written c) (is_written t) w in
      let r2 = braced_words (words_of t) after in
      let l2 = braced_lexed m to t after rest there q.1 (λ m' to' after' there' a' l'. lexed m' to' t after' rest there' q.1 a' l') l in
      let l1 = lexed m to c (space ∷ r2) rest there q.0 (apart_break (joined (space ∷ r2) rest) refl) (spaced m to r2 rest there refl l2) in
      marked m to (word Identifier if_keyword) (space ∷ words_of c (space ∷ r2)) rest there refl refl refl (spaced_expression m to c (space ∷ r2) rest there q.0 l1)
  lexed m to (negation e) after rest there w a l =
      let ws = words_of e after in
      on_word m m to (word Bang (codes "!")) ws rest (ending m Bang (codes "!") (joined ws rest) there refl refl refl refl refl (no_equals (first (joined ws rest)) (first_byte e after rest w))) (lexed m to e after rest there w a l)
  lexed m to (rooted e) after rest there w a l =
      marked m to (word Slash (codes "/")) (space ∷ words_of e after) rest there refl refl refl (spaced_expression m to e after rest there w (lexed m to e after rest there w a l))
  lexed m to (binary operator l r) after rest there w a le =
      let p = and_parts (is_written l) (is_written r) w in
      let r2 = space ∷ words_of r after in
      let l2 = spaced_expression m to r after rest there p.1 (lexed m to r after rest there p.1 a le) in
      let mark = word (sign operator) (mark_of operator) in
      let l1 = marked m to mark r2 rest there (sign_simple operator) (sign_lexeme operator) refl l2 in
      lexed m to l (space ∷ mark ∷ r2) rest there p.0 (apart_break (joined (space ∷ mark ∷ r2) rest) refl) (spaced m to (mark ∷ r2) rest there (mark_first operator (joined r2 rest)) l1)

  all : (m to : Mode) (es : Shapes) (after : List Word) (rest : List ℕ) → is_code m ≡ true → are_written es ≡ true → is_break (first (joined after rest)) ≡ true → LexesFrom m after rest to → LexesFrom m (words_of_all es after) rest to
  all m to end after rest there w b l = l
  all m to (more e es) after rest there w b l =
      let p = and_parts (is_written e) (are_written es) w in
      lexed m to e (words_of_others es after) rest there p.0 (apart_break (joined (words_of_others es after) rest) (others_break es after rest b)) (others m to es after rest there p.1 b l)

  others : (m to : Mode) (es : Shapes) (after : List Word) (rest : List ℕ) → is_code m ≡ true → are_written es ≡ true → is_break (first (joined after rest)) ≡ true → LexesFrom m after rest to → LexesFrom m (words_of_others es after) rest to
  others m to end after rest there w b l = l
  others m to (more e es) after rest there w b l =
      let p = and_parts (is_written e) (are_written es) w in
      let ws = words_of_others es after in
      let le = lexed m to e ws rest there p.0 (apart_break (joined ws rest) (others_break es after rest b)) (others m to es after rest there p.1 b l) in
      marked m to comma (space ∷ words_of e ws) rest there refl refl refl (spaced_expression m to e ws rest there p.0 le)

  inside : (m to : Mode) (s : List ℕ) (hs : Interpolations) (after : List Word) (rest : List ℕ) → has_interpolations hs ≡ true → is_code m ≡ true → are_parts_written (quotes_at (drop 1 s)) hs ≡ true → LexesFrom m after rest to
      → LexesFrom (within m (format_interpolation m s)) (words_inside hs after) rest to
  inside m to s closed after rest some there w l = absurd cc
  inside m to s (interpolation e part closed) after rest some there w l =
      let q = quotes_at (drop 1 s) in
      let p = and_parts (is_written e && is_lexeme (Some (FormatInterpolation q false)) FormatStringEnd part) true w in
      let r = and_parts (is_written e) (is_lexeme (Some (FormatInterpolation q false)) FormatStringEnd part) p.0 in
      let o = format_interpolation m s in
      let is : is_lexeme (Some o) FormatStringEnd part ≡ true = parts_anywhere q false (in_brackets (innermost m.opened)) FormatStringEnd part refl r.1 in
      let after_it = on_word (within m o) m to (word FormatStringEnd part) after rest (formats_close m s part (joined after rest) there is) l in
      lexed (within m o) to e (word FormatStringEnd part ∷ after) rest (within_is_code m o there) r.0 (apart_break (part ++ joined after rest) (part_first o FormatStringEnd part (joined after rest) (λ c cs h. begins_with (Some o) FormatStringEnd c cs h) is)) after_it
  inside m to s (interpolation e part (interpolation f next hs)) after rest some there w l =
      let q = quotes_at (drop 1 s) in
      let p = and_parts (is_written e && is_lexeme (Some (FormatInterpolation q false)) FormatStringContinue part) (are_parts_written q (interpolation f next hs)) w in
      let r = and_parts (is_written e) (is_lexeme (Some (FormatInterpolation q false)) FormatStringContinue part) p.0 in
      let wf = (and_parts (is_written f) _ (and_parts (is_written f && is_lexeme (Some (FormatInterpolation q false)) (part_kind hs) next) (are_parts_written q hs) p.1).0).0 in
      let o = format_interpolation m s in
      let is : is_lexeme (Some o) FormatStringContinue part ≡ true = parts_anywhere q false (in_brackets (innermost m.opened)) FormatStringContinue part refl r.1 in
      let ws = words_inside (interpolation f next hs) after in
      let after_it = on_word (within m o) (within m o) to (word FormatStringContinue part) ws rest (format_continues m o part (joined ws rest) there refl is (first_byte f (word (part_kind hs) next ∷ words_inside hs after) rest wf)) (inside m to s (interpolation f next hs) after rest refl there p.1 l) in
      lexed (within m o) to e (word FormatStringContinue part ∷ ws) rest (within_is_code m o there) r.0 (apart_break (part ++ joined ws rest) (part_first o FormatStringContinue part (joined ws rest) (λ c cs h. begins_with (Some o) FormatStringContinue c cs h) is)) after_it
