-- Lines outside bodies lead from their start to the next line's.
use Rattle.std.proofs.Common.{◌≡◌, ℕ, Bool, true, false, not, ◌&&◌, ◌==◌, List, [], ◌∷◌, ◌++◌, length, Err, None, refl, inl, inr, arith}
use Rattle.std.proofs.lemmas.Bool.{cases_Bool}
use Rattle.std.proofs.lemmas.Bool.Decides.{nat_tests}
use Rattle.just_text.specs.Tokens.{Word}
use Rattle.just_text.specs.declared.delimiter.Delimiter.{Delimiter}
use Rattle.just_text.specs.declared.delimiter.Delimiter.TheVariants as delimiters
use Rattle.just_text.specs.declared.token_kind.TokenKind.{TokenKind}
use Rattle.just_text.specs.declared.token_kind.TokenKind.TheVariants.{ByteOrderMark, Colon, Comment, Eof, Eol, Indent, Text, Whitespace}
use Rattle.just_lexer.specs.declared.fault.Fault.TheVariants as faults
use Rattle.just_lexer.specs.declared.mode.Open.TheVariants.{Bracket}
use Rattle.just_lexer.specs.declared.mode.Line.TheVariants.{Begin, Start, Ahead, Inside}
use Rattle.just_lexer.specs.Classes.{first, is_blank, at_byte_order_mark}
use Rattle.just_lexer.specs.Modes.{Mode, start_after, line_after, open_after}
use Rattle.just_lexer.specs.Longest.{reach, allows, IsLongestIn}
use Rattle.just_lexer.specs.Lexing.{line_token, start_token, token_at}
use Rattle.just_lexer.specs.Lexes.{start}
use Rattle.just_lexer.proofs.OnLongest.{none_from_token}
use Rattle.justfile_syntax.specs.Words.{joined, behind_word}
use Rattle.justfile_syntax.specs.Fits.{is_lexeme, keeps_apart, fits_code, fits_start, fits}
use Rattle.justfile_syntax.specs.InCode.{word, is_plain, opener_kind, opener, within}
use Rattle.justfile_syntax.specs.Lines.{at_line, in_line, at_text_end, StartsLikeALine, begins_line, LinesBegin, BracketsBegin, ColonsAnnounce, LinesEnd, EmptyLines, CommentLines, TextsEnd}
use Rattle.justfile_syntax.proofs.Begins.{begins, begins_with}
use Rattle.justfile_syntax.proofs.Stands.{lexeme_reach, no_token}
use Rattle.justfile_syntax.proofs.Table.{both}
use Rattle.justfile_syntax.proofs.Words.{joins_up}
use Rattle.justfile_syntax.proofs.InCode.{one_word, plain_opens_nothing, opener_opens}

-- the start of the text

-- at a line's start nothing begins with a byte order mark
no_mark : (text : List ℕ) → first text ≡ 239 → token_at (Start false) None text ≡ Err faults.UnknownStart
unfolding token_at start_token line_token
no_mark [] e = absurd (omega (arith, e))
no_mark (c ∷ cs) e =
    let plain : is_blank c ≡ false = grind (arith, nat_tests) in
    let some : (length (c ∷ cs) == 0) ≡ false = grind (arith, nat_tests) in
    rw (plain, some) (no_token None (c ∷ cs) e)

starts_at_begin : (text : List ℕ) (k : TokenKind) (n : ℕ) → IsLongestIn (Start false) None text k n → IsLongestIn Begin None text k n
starts_at_begin text k n l =
    elim (cases_Bool (at_byte_order_mark text)) [
      | inl mark ↦ absurd (let e : first text ≡ 239 = grind (arith, nat_tests) in none_from_token (Start false) None text faults.UnknownStart refl (no_mark text e) k n l)
      | inr none ↦ record {
        allowed = rw none l.allowed;
        reaches = l.reaches;
        longest = λ other allowed. l.longest other (let is : allows (Start false) None text other ≡ true = rw none at allowed in is);
      }
    ]

begin_after : (w : Word) → behind_word (start []).mode w ≡ behind_word (at_line false) w
unfolding line_after
begin_after w = refl

pub starts_like_a_line : StartsLikeALine
starts_like_a_line w ws rest to l = record {
  each = (starts_at_begin (joined (w ∷ ws) rest) w.kind (length w.text) l.each.0, rw (begin_after w) l.each.1);
  goes = rw (begin_after w) l.goes;
}

-- a line begins

first_not_blank : (k : TokenKind) (c : ℕ) → begins_line k ≡ true → begins k c ≡ true → not (is_blank c) ≡ true
first_not_blank Comment c is b = cc
first_not_blank Whitespace c is b = cc
first_not_blank Indent c is b = cc
first_not_blank Text c is b = cc
first_not_blank k c is b = grind (arith, nat_tests)

lexeme_first : (k : TokenKind) (l : List ℕ) → begins_line k ≡ true → is_lexeme None k l ≡ true → not (is_blank (first l)) ≡ true
lexeme_first k [] is h = absurd (grind (arith, nat_tests))
lexeme_first k (c ∷ cs) is h = first_not_blank k c is (begins_with None k c cs (let r : reach None k (c ∷ cs) ≡ length (c ∷ cs) = lexeme_reach None k (c ∷ cs) h in omega arith))

start_fits : (may : Bool) (k : TokenKind) (l rest : List ℕ) → begins_line k ≡ true → (not (is_blank (first l)) && fits_code None (word k l) rest) ≡ true → fits_start may None k (word k l) rest ≡ true
start_fits may Eof l rest is h = cc
start_fits may Indent l rest is h = cc
start_fits may k l rest is h = h

begins_plainly : (k : TokenKind) → begins_line k ≡ true → is_plain k ≡ true
begins_plainly Comment is = cc
begins_plainly Whitespace is = cc
begins_plainly k is = is

behind_first : (may : Bool) (k : TokenKind) (l : List ℕ) → begins_line k ≡ true → line_after (Start may) None k l ≡ Inside false
unfolding line_after start_after
behind_first may ByteOrderMark l is = cc
behind_first may Eol l is = cc
behind_first may Whitespace l is = cc
behind_first may Comment l is = cc
behind_first may Colon l is = cc
behind_first may Indent l is = cc
behind_first may Eof l is = cc
behind_first may k l is = refl

code_is_lexeme : (k : TokenKind) (l rest : List ℕ) → fits_code None (word k l) rest ≡ true → is_lexeme None k l ≡ true
code_is_lexeme k l rest h = grind (arith, nat_tests)

pub lines_begin : LinesBegin
lines_begin may w rest is h =
    let line = behind_first may w.kind w.text is in
    let opened = plain_opens_nothing [] w.kind w.text (begins_plainly w.kind is) in
    one_word (at_line may) (in_line false) w rest
    (start_fits may w.kind w.text rest is (both (not (is_blank (first w.text))) (fits_code None w rest) (lexeme_first w.kind w.text is (code_is_lexeme w.kind w.text rest h)) h))
    (λ x. record { line = line x; opened = opened x })

behind_opener : (may : Bool) (d : Delimiter) → line_after (Start may) None (opener_kind d) (opener d).text ≡ Inside false
unfolding line_after start_after
behind_opener may delimiters.Brace = refl
behind_opener may delimiters.Bracket = refl
behind_opener may delimiters.Paren = refl

opener_at_start : (may : Bool) (d : Delimiter) (rest : List ℕ) → fits (at_line may) (opener d) rest ≡ true
opener_at_start may delimiters.Brace rest = refl
opener_at_start may delimiters.Bracket rest = refl
opener_at_start may delimiters.Paren rest = refl

pub brackets_begin : BracketsBegin
brackets_begin may d rest =
    let line = behind_opener may d in
    let opened = opener_opens [] d in
    one_word (at_line may) (within (in_line false) (Bracket d)) (opener d) rest (opener_at_start may d rest) (λ x. record { line = line x; opened = opened x })

colon_leads : (may : Bool) → line_after (Inside may) None Colon (58 ∷ []) ≡ Inside true
unfolding line_after
colon_leads true = refl
colon_leads false = refl

pub colons_announce : ColonsAnnounce
unfolding open_after
colons_announce may rest h =
    let line = colon_leads may in
    one_word (in_line may) (in_line true) (word Colon (58 ∷ [])) rest h (λ x. record { line = line x; opened = [] })

-- line ends

end_alone : (end rest : List ℕ) → is_lexeme None Eol end ≡ true → fits_code None (word Eol end) rest ≡ true
end_alone end rest h = rw h refl

pub lines_end : LinesEnd
unfolding open_after line_after
lines_end may end rest h = one_word (in_line may) (at_line may) (word Eol end) rest (end_alone end rest h) refl

end_first : (end : List ℕ) → is_lexeme None Eol end ≡ true → not (is_blank (first end)) ≡ true
end_first end h = grind (arith, nat_tests)

pub empty_lines : EmptyLines
unfolding open_after line_after start_after
empty_lines may end rest h =
    one_word (at_line may) (at_line may) (word Eol end) rest (both (not (is_blank (first end))) (fits_code None (word Eol end) rest) (end_first end h) (end_alone end rest h)) refl

abbrev ahead : Bool → Mode
ahead may = record { line = Ahead may; opened = [] }

comment_first : (text : List ℕ) → is_lexeme None Comment text ≡ true → not (is_blank (first text)) ≡ true
comment_first [] h = absurd (grind (arith, nat_tests))
comment_first (c ∷ cs) h = let b : (c == 35) ≡ true = begins_with None Comment c cs (let r : reach None Comment (c ∷ cs) ≡ length (c ∷ cs) = lexeme_reach None Comment (c ∷ cs) h in omega arith) in grind (arith, nat_tests)

pub comment_lines : CommentLines
unfolding open_after line_after start_after
comment_lines may text end rest c e apart =
    let fits_c : fits_code None (word Comment text) (end ++ rest) ≡ true = both (is_lexeme None Comment text) (keeps_apart Comment text (end ++ rest)) c apart in
    joins_up (at_line may) (ahead may) (at_line may) (word Comment text ∷ []) (word Eol end ∷ []) rest
    (one_word (at_line may) (ahead may) (word Comment text) (end ++ rest) (both (not (is_blank (first text))) (fits_code None (word Comment text) (end ++ rest)) (comment_first text c) fits_c) refl)
    (one_word (ahead may) (at_line may) (word Eol end) rest (end_alone end rest e) refl)

pub texts_end : TextsEnd
unfolding open_after line_after start_after
texts_end may = one_word (at_line may) at_text_end (word Eof []) [] refl refl
