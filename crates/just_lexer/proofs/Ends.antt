-- The end of the text comes where nothing is left.
use Rattle.std.proofs.Common.{◌≡◌, ℕ, Bool, true, false, not, ◌&&◌, ◌||◌, ◌==◌, List, [], length, Option, is_some, refl, subst, inl, inr, eqb-true}
use Rattle.std.proofs.lemmas.Bool.{cond_both, cases_Bool}
use Rattle.std.proofs.lemmas.List.{nil_from_length}
use Rattle.just_text.specs.declared.token_kind.TokenKind.{TokenKind}
use Rattle.just_text.specs.declared.token_kind.TokenKind.TheVariants.{ByteOrderMark, Colon, Comment, Dedent, Eof, Eol, Indent, Whitespace}
use Rattle.just_lexer.specs.declared.mode.Open.{Open}
use Rattle.just_lexer.specs.declared.mode.Line.{Line}
use Rattle.just_lexer.specs.declared.mode.Line.TheVariants.{Begin, Start, Ahead, Inside, BodyStart, BodyLine, Over}
use Rattle.just_lexer.specs.Classes.{first, is_blank, at_line_end, at_byte_order_mark, is_indented, is_mixed, breaks_off}
use Rattle.just_lexer.specs.Modes.{indentation_of, has_indentation, start_after, line_after, is_over, is_byte_order_mark}
use Rattle.just_lexer.specs.Longest.{in_line, at_start, is_indent, is_white, is_eol, is_dedent, is_body_kind, is_line_kind, allows, IsLongestIn}

-- where a token stands, the end isn't after
pub going_on : (line : Line) (inner : Option Open) (text : List ℕ) (k : TokenKind) (n : ℕ) → IsLongestIn line inner text k n → is_over line ≡ false
going_on Over inner text k n l = cc (l.allowed)
going_on Begin inner text k n l = refl
going_on (Start may) inner text k n l = refl
going_on (Ahead may) inner text k n l = refl
going_on (Inside may) inner text k n l = refl
going_on (BodyStart i) inner text k n l = refl
going_on (BodyLine i) inner text k n l = refl

-- only the last token leads to the end

start_eof : (may : Bool) (k : TokenKind) (lexeme : List ℕ) → is_over (start_after may k lexeme) ≡ true → k ≡ Eof
unfolding start_after
start_eof may Eof lexeme h = refl
start_eof may Indent lexeme h = cond_both may (BodyLine (indentation_of lexeme)) (Inside false) (λ l. is_over l ≡ true → Indent ≡ Eof) (λ _ q. cc) (λ _ q. cc) h
start_eof may ByteOrderMark lexeme h = cc
start_eof may Eol lexeme h = cc
start_eof may Whitespace lexeme h = cc
start_eof may Comment lexeme h = cc
start_eof may Colon lexeme h = cc
start_eof may k lexeme h = cc

eof_only : (line : Line) (inner : Option Open) (k : TokenKind) (lexeme : List ℕ) → is_over line ≡ false → is_over (line_after line inner k lexeme) ≡ true → k ≡ Eof
unfolding line_after
eof_only Begin inner k lexeme g h = start_eof false k lexeme h
eof_only (Start may) inner k lexeme g h = start_eof may k lexeme h
eof_only (Ahead may) inner Eof lexeme g h = refl
eof_only (Ahead may) inner k lexeme g h = cc
eof_only (Inside may) inner Eof lexeme g h = refl
eof_only (Inside may) inner Eol lexeme g h = cond_both (is_some inner) (Inside false) (Start may) (λ l. is_over l ≡ true → Eol ≡ Eof) (λ _ q. cc) (λ _ q. cc) h
eof_only (Inside may) inner k lexeme g h = cc
eof_only (BodyStart i) inner Eol lexeme g h = cc
eof_only (BodyStart i) inner Dedent lexeme g h = cc
eof_only (BodyStart i) inner k lexeme g h = cc
eof_only (BodyLine i) inner Eol lexeme g h = cc
eof_only (BodyLine i) inner Dedent lexeme g h = cc
eof_only (BodyLine i) inner k lexeme g h = cc
eof_only Over inner k lexeme g h = cc

-- and it stands in front of nothing

eof_in_line : (inner : Option Open) (text : List ℕ) → in_line inner text Eof ≡ true → text ≡ []
eof_in_line inner text h = nil_from_length text (elim (cases_Bool (length text == 0)) [ inl e ↦ eqb-true (length text) 0 e | inr e ↦ (let is : false ≡ true = rw e at h in cc) ])

eof_at_start : (may : Bool) (inner : Option Open) (text : List ℕ) → at_start may inner text Eof ≡ true → text ≡ []
eof_at_start may inner text = cond_both (is_indented text) (is_indent Eof && not (may && is_mixed text)) (in_line inner text Eof) (λ b. b ≡ true → text ≡ []) (λ _ q. cc) (λ _ q. eof_in_line inner text q)

eof_at_end : (line : Line) (inner : Option Open) (text : List ℕ) → allows line inner text Eof ≡ true → text ≡ []
eof_at_end Begin inner text = cond_both (at_byte_order_mark text) (is_byte_order_mark Eof) (at_start false inner text Eof) (λ b. b ≡ true → text ≡ []) (λ _ q. cc) (λ _ q. eof_at_start false inner text q)
eof_at_end (Start may) inner text = eof_at_start may inner text
eof_at_end (Ahead may) inner text = eof_in_line inner text
eof_at_end (Inside may) inner text = eof_in_line inner text
eof_at_end (BodyStart i) inner text =
    cond_both (is_indented text) (is_white Eof && has_indentation i text) _ (λ b. b ≡ true → text ≡ []) (λ _ q. cc)
    (λ _. cond_both (is_blank (first text) || at_line_end text) (is_white Eof || is_eol Eof) (is_dedent Eof) (λ b. b ≡ true → text ≡ []) (λ _ q. cc) (λ _ q. cc))
eof_at_end (BodyLine i) inner text =
    cond_both (is_some inner) (is_line_kind inner Eof && not (breaks_off text)) _ (λ b. b ≡ true → text ≡ []) (λ _ q. cc)
    (λ _. cond_both (length text == 0) (is_dedent Eof) (is_body_kind Eof) (λ b. b ≡ true → text ≡ []) (λ _ q. cc) (λ _ q. cc))
eof_at_end Over inner text = λ q. cc

-- a token that leads to the end stands in front of nothing
pub over_at_end : (line : Line) (inner : Option Open) (text : List ℕ) (k : TokenKind) (n : ℕ) (lexeme : List ℕ) → is_over line ≡ false → IsLongestIn line inner text k n → is_over (line_after line inner k lexeme) ≡ true → text ≡ []
over_at_end line inner text k n lexeme going l h =
    let e : k ≡ Eof = eof_only line inner k lexeme going h in
    eof_at_end line inner text (subst (λ (x : TokenKind). allows line inner text x ≡ true) e l.allowed)
