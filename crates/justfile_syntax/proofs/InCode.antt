-- In code words lead on, into what they open and out of it.
use Rattle.std.proofs.Common.{◌≡◌, ℕ, ◌-◌, Bool, true, false, cond, List, [], ◌∷◌, ◌++◌, length, take, Option, Some, is_some, refl, ap, ◌∙◌, arith, length-append}
use Rattle.std.specs.Prelude.{slice_get}
use Rattle.std.proofs.lemmas.Bool.{and_parts}
use Rattle.std.proofs.lemmas.Bool.Decides.{nat_tests}
use Rattle.std.proofs.lemmas.List.{append-nil}
use Rattle.std.proofs.Math.Seq.{take-append_seam}
use Rattle.just_text.specs.Tokens.{Word}
use Rattle.just_text.specs.declared.delimiter.Delimiter.{Delimiter}
use Rattle.just_text.specs.declared.delimiter.Delimiter.TheVariants as delimiters
use Rattle.just_text.specs.declared.token_kind.TokenKind.{TokenKind}
use Rattle.just_text.specs.declared.token_kind.TokenKind.TheVariants.{BraceL, BraceR, BracketL, BracketR, ByteOrderMark, Colon, Dedent, Eof, Eol, FormatStringEnd, FormatStringStart, Indent, InterpolationEnd, InterpolationStart, ParenL, ParenR, Text, Whitespace}
use Rattle.just_lexer.specs.declared.mode.Open.{Open}
use Rattle.just_lexer.specs.declared.mode.Open.TheVariants.{Bracket}
use Rattle.just_lexer.specs.declared.mode.Line.{Line}
use Rattle.just_lexer.specs.declared.mode.Line.TheVariants.{Begin, Start, Ahead, Inside, BodyStart, BodyLine, Over}
use Rattle.just_lexer.specs.Modes.{Mode, innermost, closed, format_interpolations_of, line_after, open_after}
use Rattle.just_lexer.specs.Longest.{reach, is_line_kind}
use Rattle.justfile_syntax.specs.Words.{behind_word, LexesFrom}
use Rattle.justfile_syntax.specs.Fits.{is_lexeme, is_alone, keeps_apart, fits_code, fits_line, stays_in_line, fits_at, fits}
use Rattle.justfile_syntax.specs.InCode.{word, is_code_place, is_code, within, is_plain, is_on_line, PlainWords, opener_kind, closer_kind, opener, closer, BracketsOpen, BracketsClose, format_interpolation, WholeFormats, FormatsOpen, FormatsClose}
use Rattle.justfile_syntax.proofs.Begins.{begins, begins_with}
use Rattle.justfile_syntax.proofs.Stands.{lexeme_reach, stands}
use Rattle.justfile_syntax.proofs.Table.{both}

-- a word that fits leads to the mode after it
pub one_word : (m to : Mode) (w : Word) (rest : List ℕ) → fits m w rest ≡ true → behind_word m w ≡ to → LexesFrom m (w ∷ []) rest to
one_word m to w rest f e = record { each = (stands m.line (innermost m.opened) w rest f, tt); goes = e }

-- what is open

seam : (os : List Open) (o : Open) → slice_get (os ++ o ∷ []) (length os) ≡ Some o
seam [] o = refl
seam (x ∷ os) o = seam os o

pub innermost_push : (os : List Open) (o : Open) → innermost (os ++ o ∷ []) ≡ Some o
innermost_push os o =
    let n : length (os ++ o ∷ []) - 1 ≡ length os = grind (arith, length-append os (o ∷ [])) in
    ap (λ k. slice_get (os ++ o ∷ []) k) n ∙ seam os o

pub pop_push : (os : List Open) (o : Open) → closed (os ++ o ∷ []) ≡ os
pop_push os o =
    let n : length (os ++ o ∷ []) - 1 ≡ length os = grind (arith, length-append os (o ∷ [])) in
    ap (λ k. take k (os ++ o ∷ [])) n ∙ take-append_seam os (o ∷ [])

-- the kinds of code
abbrev pub is_of_code : TokenKind → Bool
is_of_code ByteOrderMark = false
is_of_code Colon = false
is_of_code Dedent = false
is_of_code Eof = false
is_of_code Eol = false
is_of_code Indent = false
is_of_code InterpolationStart = false
is_of_code Text = false
is_of_code _ = true

-- none begins with a line end or a continuation, but white space
stays : (inner : Option Open) (k : TokenKind) (c : ℕ) → is_of_code k ≡ true → is_on_line k (c ∷ []) ≡ true → begins k c ≡ true → stays_in_line (c ∷ []) ≡ true
stays inner ByteOrderMark c k on b = cc
stays inner Eol c k on b = cc
stays inner Text c k on b = cc
stays inner Whitespace c k on b = grind (arith, nat_tests)
stays inner k c is on b = grind (arith, nat_tests)

on_first : (k : TokenKind) (c : ℕ) (cs : List ℕ) → is_on_line k (c ∷ cs) ≡ true → is_on_line k (c ∷ []) ≡ true
on_first Whitespace c cs h = h
on_first k c cs h = refl

code_stays : (inner : Option Open) (k : TokenKind) (l rest : List ℕ) → is_of_code k ≡ true → is_on_line k l ≡ true → fits_code inner (word k l) rest ≡ true → stays_in_line l ≡ true
code_stays inner k [] rest is on h = absurd (let alone = (and_parts (is_line_kind inner k) (is_alone inner (word k []) rest) h).1 in grind (arith, nat_tests))
code_stays inner k (c ∷ cs) rest is on h =
    let alone = (and_parts (is_line_kind inner k) (is_alone inner (word k (c ∷ cs)) rest) h).1 in
    let r : reach inner k (c ∷ cs) ≡ length (c ∷ cs) = lexeme_reach inner k (c ∷ cs) (and_parts (is_lexeme inner k (c ∷ cs)) (keeps_apart k (c ∷ cs) rest) alone).0 in
    stays inner k c is (on_first k c cs on) (begins_with inner k c cs (omega arith))

when : (t a b : Bool) → t ≡ true → a ≡ true → cond t a b ≡ true
when true a b e h = h
when false a b e h = cc

fits_inside : (inner : Option Open) (k : TokenKind) (l rest : List ℕ) → is_of_code k ≡ true → fits_code inner (word k l) rest ≡ true → fits_line inner k (word k l) rest ≡ true
fits_inside inner Eof l rest is h = cc
fits_inside inner k l rest is h = h

-- in code a word of code fits
fits_there : (line : Line) (inner : Option Open) (k : TokenKind) (l rest : List ℕ) → is_code_place line inner ≡ true → is_of_code k ≡ true → is_on_line k l ≡ true → fits_code inner (word k l) rest ≡ true → fits_at line inner (word k l) rest ≡ true
fits_there (Inside may) inner k l rest there is on h = fits_inside inner k l rest is h
fits_there (BodyLine i) inner k l rest there is on h = when (is_some inner) _ _ there (both (stays_in_line l) (fits_code inner (word k l) rest) (code_stays inner k l rest is on h) h)
fits_there Begin inner k l rest there is on h = cc
fits_there (Start may) inner k l rest there is on h = cc
fits_there (Ahead may) inner k l rest there is on h = cc
fits_there (BodyStart i) inner k l rest there is on h = cc
fits_there Over inner k l rest there is on h = cc

-- and the line stays what it is
line_stays : (line : Line) (inner : Option Open) (k : TokenKind) (l : List ℕ) → is_code_place line inner ≡ true → is_of_code k ≡ true → line_after line inner k l ≡ line
unfolding line_after
line_stays (Inside may) inner Colon l there is = cc
line_stays (Inside may) inner Eof l there is = cc
line_stays (Inside may) inner Eol l there is = cc
line_stays (Inside may) inner k l there is = refl
line_stays (BodyLine i) inner Eol l there is = cc
line_stays (BodyLine i) inner Dedent l there is = cc
line_stays (BodyLine i) inner k l there is = refl
line_stays Begin inner k l there is = cc
line_stays (Start may) inner k l there is = cc
line_stays (Ahead may) inner k l there is = cc
line_stays (BodyStart i) inner k l there is = cc
line_stays Over inner k l there is = cc

code_word : (m : Mode) (k : TokenKind) (l rest : List ℕ) (opened : List Open) → is_code m ≡ true → is_of_code k ≡ true → is_on_line k l ≡ true → fits_code (innermost m.opened) (word k l) rest ≡ true → open_after m.opened k l ≡ opened → LexesFrom m (word k l ∷ []) rest (record { line = m.line; opened = opened })
code_word m k l rest opened there is on h o =
    let line = line_stays m.line (innermost m.opened) k l there is in
    one_word m (record { line = m.line; opened = opened }) (word k l) rest (fits_there m.line (innermost m.opened) k l rest there is on h) (λ x. record { line = line x; opened = o x })

plain_is_of_code : (k : TokenKind) → is_plain k ≡ true → is_of_code k ≡ true
plain_is_of_code ByteOrderMark h = cc
plain_is_of_code Colon h = cc
plain_is_of_code Dedent h = cc
plain_is_of_code Eof h = cc
plain_is_of_code Eol h = cc
plain_is_of_code Indent h = cc
plain_is_of_code InterpolationStart h = cc
plain_is_of_code Text h = cc
plain_is_of_code k h = refl

pub plain_opens_nothing : (opened : List Open) (k : TokenKind) (l : List ℕ) → is_plain k ≡ true → open_after opened k l ≡ opened
unfolding open_after
plain_opens_nothing opened BraceL l h = cc
plain_opens_nothing opened BraceR l h = cc
plain_opens_nothing opened BracketL l h = cc
plain_opens_nothing opened BracketR l h = cc
plain_opens_nothing opened FormatStringEnd l h = cc
plain_opens_nothing opened FormatStringStart l h = cc
plain_opens_nothing opened InterpolationEnd l h = cc
plain_opens_nothing opened InterpolationStart l h = cc
plain_opens_nothing opened ParenL l h = cc
plain_opens_nothing opened ParenR l h = cc
plain_opens_nothing opened k l h = refl

pub plain_words : PlainWords
plain_words m w rest there plain on h = code_word m w.kind w.text rest m.opened there (plain_is_of_code w.kind plain) on h (plain_opens_nothing m.opened w.kind w.text plain)

-- brackets

opener_fits : (inner : Option Open) (d : Delimiter) (rest : List ℕ) → fits_code inner (opener d) rest ≡ true
opener_fits inner delimiters.Brace rest = refl
opener_fits inner delimiters.Bracket rest = refl
opener_fits inner delimiters.Paren rest = refl

opener_is_of_code : (d : Delimiter) → (is_of_code (opener_kind d) ≡ true) × (is_on_line (opener_kind d) (opener d).text ≡ true)
opener_is_of_code delimiters.Brace = (refl, refl)
opener_is_of_code delimiters.Bracket = (refl, refl)
opener_is_of_code delimiters.Paren = (refl, refl)

pub opener_opens : (opened : List Open) (d : Delimiter) → open_after opened (opener_kind d) (opener d).text ≡ opened ++ Bracket d ∷ []
unfolding open_after
opener_opens opened delimiters.Brace = refl
opener_opens opened delimiters.Bracket = refl
opener_opens opened delimiters.Paren = refl

pub brackets_open : BracketsOpen
brackets_open m d rest there = code_word m (opener_kind d) (opener d).text rest (within m (Bracket d)).opened there (opener_is_of_code d).0 (opener_is_of_code d).1 (opener_fits (innermost m.opened) d rest) (opener_opens m.opened d)

still_code : (line : Line) (inner : Option Open) (o : Open) → is_code_place line inner ≡ true → is_code_place line (Some o) ≡ true
still_code (Inside may) inner o h = refl
still_code (BodyLine i) inner o h = refl
still_code Begin inner o h = cc
still_code (Start may) inner o h = cc
still_code (Ahead may) inner o h = cc
still_code (BodyStart i) inner o h = cc
still_code Over inner o h = cc

pub within_is_code : (m : Mode) (o : Open) → is_code m ≡ true → is_code (within m o) ≡ true
within_is_code m o h = rw (innermost_push m.opened o) (still_code m.line (innermost m.opened) o h)

closer_fits : (d : Delimiter) (rest : List ℕ) → fits_code (Some (Bracket d)) (closer d) rest ≡ true
closer_fits delimiters.Brace rest = refl
closer_fits delimiters.Bracket rest = refl
closer_fits delimiters.Paren rest = refl

closer_is_of_code : (d : Delimiter) → (is_of_code (closer_kind d) ≡ true) × (is_on_line (closer_kind d) (closer d).text ≡ true)
closer_is_of_code delimiters.Brace = (refl, refl)
closer_is_of_code delimiters.Bracket = (refl, refl)
closer_is_of_code delimiters.Paren = (refl, refl)

closer_closes : (opened : List Open) (d : Delimiter) → open_after opened (closer_kind d) (closer d).text ≡ closed opened
unfolding open_after
closer_closes opened delimiters.Brace = refl
closer_closes opened delimiters.Bracket = refl
closer_closes opened delimiters.Paren = refl

pub brackets_close : BracketsClose
brackets_close m d rest there =
    let within_it : Mode = within m (Bracket d) in
    code_word within_it (closer_kind d) (closer d).text rest m.opened (within_is_code m (Bracket d) there) (closer_is_of_code d).0 (closer_is_of_code d).1 (rw (innermost_push m.opened (Bracket d)) (closer_fits d rest))
    (closer_closes within_it.opened d ∙ pop_push m.opened (Bracket d))

-- format strings

format_opens : (opened : List Open) (l : List ℕ) → open_after opened FormatStringStart l ≡ opened ++ format_interpolations_of (innermost opened) l
unfolding open_after
format_opens opened l = refl

format_closes : (opened : List Open) (l : List ℕ) → open_after opened FormatStringEnd l ≡ closed opened
unfolding open_after
format_closes opened l = refl

pub whole_formats : WholeFormats
whole_formats m text rest there whole h =
    let none : format_interpolations_of (innermost m.opened) text ≡ [] = rw whole refl in
    code_word m FormatStringStart text rest m.opened there refl refl h (format_opens m.opened text ∙ ap (λ os. m.opened ++ os) none ∙ append-nil m.opened)

pub formats_open : FormatsOpen
formats_open m text rest there stops h =
    let one : format_interpolations_of (innermost m.opened) text ≡ format_interpolation m text ∷ [] = rw stops refl in
    code_word m FormatStringStart text rest (within m (format_interpolation m text)).opened there refl refl h (format_opens m.opened text ∙ ap (λ os. m.opened ++ os) one)

end_fits : (o : Open) (end rest : List ℕ) → is_line_kind (Some o) FormatStringEnd ≡ true → is_lexeme (Some o) FormatStringEnd end ≡ true → fits_code (Some o) (word FormatStringEnd end) rest ≡ true
end_fits o end rest k h = both (is_line_kind (Some o) FormatStringEnd) (is_alone (Some o) (word FormatStringEnd end) rest) k (both (is_lexeme (Some o) FormatStringEnd end) true h refl)

pub formats_close : FormatsClose
formats_close m text end rest there h =
    let within_it : Mode = within m (format_interpolation m text) in
    code_word within_it FormatStringEnd end rest m.opened (within_is_code m (format_interpolation m text) there) refl refl (rw (innermost_push m.opened (format_interpolation m text)) (end_fits (format_interpolation m text) end rest refl h))
    (format_closes within_it.opened end ∙ pop_push m.opened (format_interpolation m text))
