-- The tokens of a text are, by themselves, tokens of their kinds.
use Rattle.std.proofs.Common.{◌≡◌, ℕ, ◌+◌, ◌<◌, ◌≤◌, true, false, ◌&&◌, ◌==◌, nat_lt, List, [], ◌∷◌, ◌++◌, length, Option, None, refl, sym, ◌∙◌, subst, inl, inr, arith}
use Rattle.std.specs.Prelude.{All}
use Rattle.std.proofs.lemmas.Bool.{cond_both}
use Rattle.std.proofs.lemmas.List.Elements.{All-nil, All-cons}
use Rattle.std.proofs.lemmas.Bool.Decides.{nat_tests}
use Rattle.just_text.specs.declared.token_kind.TokenKind.{TokenKind}
use Rattle.just_text.specs.declared.token_kind.TokenKind.TheVariants.{FormatStringContinue, FormatStringEnd, InterpolationStart, Text, Whitespace}
use Rattle.just_lexer.specs.declared.mode.Open.{Open}
use Rattle.just_lexer.specs.declared.mode.Line.{Line}
use Rattle.just_lexer.specs.declared.mode.Line.TheVariants.{Begin, Start, Ahead, Inside, BodyStart, BodyLine, Over}
use Rattle.just_lexer.specs.Modes.{innermost}
use Rattle.just_lexer.specs.Longest.{two, reach, reach_in, is_white, allows, IsLongestIn}
use Rattle.just_lexer.specs.Classes.{at_braces, opens_format_interpolation, text_len}
use Rattle.just_lexer.specs.declared.mode.Indentation.{Indentation}
use Rattle.just_lexer.specs.Lexes.{Piece, Place, start, behind, IsTokenAt, AllTokens}
use Rattle.justfile_syntax.specs.Fits.{is_lexeme}
use Rattle.justfile_syntax.specs.Lexemes.{TokensAreLexemes, is_anywhere, LexemesAnywhere, IsLexeme, LexedAreLexemes, PartsAnywhere, TextsEndWell}
use Rattle.justfile_syntax.proofs.Shrinks.{reach_alone, over_braced, opens_there}
use Rattle.just_lexer.proofs.Beats.{two_from}

reach_is : (line : Line) (inner : Option Open) (k : TokenKind) (text : List ℕ) → is_white k ≡ false → reach_in line inner k text ≡ reach inner k text
reach_is (BodyStart i) inner Whitespace text w = cc
reach_is (BodyStart i) inner k text w = refl
reach_is Begin inner k text w = refl
reach_is (Start may) inner k text w = refl
reach_is (Ahead may) inner k text w = refl
reach_is (Inside may) inner k text w = refl
reach_is (BodyLine i) inner k text w = refl
reach_is Over inner k text w = refl

by_length : (n m : ℕ) → 0 < n → m ≡ n → (nat_lt 0 n && m == n) ≡ true
by_length n m some e = grind (arith, nat_tests)

longest_is_lexeme : (line : Line) (inner : Option Open) (k : TokenKind) (l rest : List ℕ) → IsLongestIn line inner (l ++ rest) k (length l) → is_white k ≡ false → 0 < length l → is_lexeme inner k l ≡ true
longest_is_lexeme line inner k [] rest is w some = absurd (omega arith)
longest_is_lexeme line inner k (c ∷ cs) rest is w some =
    let r : reach inner k (c ∷ cs ++ rest) ≡ length (c ∷ cs) = sym (is.reaches ∙ reach_is line inner k (c ∷ cs ++ rest) w) in
    by_length (length (c ∷ cs)) (reach inner k (c ∷ cs)) some (reach_alone inner k c cs rest w r)

pub tokens_are_lexemes : TokensAreLexemes
tokens_are_lexemes m w rest is white some = longest_is_lexeme m.line (innermost m.opened) w.kind w.text rest is white some

pub lexemes_anywhere : LexemesAnywhere
lexemes_anywhere inner other FormatStringContinue text a h = cc
lexemes_anywhere inner other FormatStringEnd text a h = cc
lexemes_anywhere inner other Whitespace text a h = cc
lexemes_anywhere inner other k text a h = h

not_white : (k : TokenKind) → is_anywhere k ≡ true → is_white k ≡ false
not_white Whitespace a = cc
not_white k a = refl

front_is_lexeme : (p : Place) (t : Piece) → IsTokenAt p t → IsLexeme t
front_is_lexeme p t at a some =
    let is : IsLongestIn p.mode.line (innermost p.mode.opened) (t.text ++ (behind p t).rest) t.kind (length t.text) = subst (λ r. IsLongestIn p.mode.line (innermost p.mode.opened) r t.kind (length t.text)) at.front at.longest in
    lexemes_anywhere (innermost p.mode.opened) None t.kind t.text a (longest_is_lexeme p.mode.line (innermost p.mode.opened) t.kind t.text (behind p t).rest is (not_white t.kind a) some)

all_lexemes : (p : Place) (ts : List Piece) → AllTokens p ts → All IsLexeme ts
all_lexemes p [] each = All-nil IsLexeme
all_lexemes p (t ∷ ts) each = All-cons IsLexeme t ts (front_is_lexeme p t each.0) (all_lexemes (behind p t) ts each.1)

pub lexed_are_lexemes : LexedAreLexemes
lexed_are_lexemes text ts all = all_lexemes (start text) ts all.each

pub parts_anywhere : PartsAnywhere
parts_anywhere q around other Whitespace text w h = cc
parts_anywhere q around other k text w h = h

two_le : (text : List ℕ) → two 123 123 text ≤ 2
two_le text = cond_both (at_braces text) 2 0 (λ n. n ≤ 2) (λ _. omega arith) (λ _. omega arith)

same_number : (n : ℕ) → (n == n) ≡ true
same_number n = grind (arith, nat_tests)

starts_format_interpolation : (i : Indentation) (text : List ℕ) (n : ℕ) → IsLongestIn (BodyLine i) None text InterpolationStart n → opens_format_interpolation text ≡ true
starts_format_interpolation i [] n is = absurd (let a : false ≡ true = is.allowed in cc)
starts_format_interpolation i (c ∷ cs) n is =
    let text : List ℕ = c ∷ cs in
    let some : (length (c ∷ cs) == 0) ≡ false = grind (arith, nat_tests) in
    let allowed : allows (BodyLine i) None (c ∷ cs) Text ≡ true = rw some refl in
    let less : text_len (c ∷ cs) < n = elim (is.longest Text allowed) [ inl e ↦ absurd (cc e) | inr l ↦ l ] in
    let size : n ≡ two 123 123 (c ∷ cs) = is.reaches in
    let braces = two_from 123 123 (c ∷ cs) (omega arith) in
    let there : at_braces (c ∷ cs) ≡ true = rw (braces.0, braces.1) refl in
    opens_there (c ∷ cs) there (omega (arith, two_le (c ∷ cs)))

pub texts_end_well : TextsEndWell
texts_end_well i text braces rest is start =
    let format_interpolation : opens_format_interpolation (braces ++ rest) ≡ true = starts_format_interpolation i (braces ++ rest) (length braces) start in
    let size : text_len (text ++ (braces ++ rest)) ≡ length text = sym is.reaches in
    let more : text_len (text ++ 123 ∷ []) ≡ length text + 1 = over_braced 0 text (braces ++ rest) format_interpolation size in
    rw more (same_number (length text + 1))
