-- The tokens of a text by themselves, within what is open.
use Rattle.std.proofs.Common.{◌≡◌, ℕ, ◌<◌, Bool, true, false, ◌&&◌, List, [], ◌∷◌, ◌++◌, map, length, Option, refl, sym, ap, subst, ◌∙◌, arith, inl, inr, ◌⊎◌}
use Rattle.std.specs.Prelude.{◌==◌, ◌||◌, not}
use Rattle.just_text.specs.declared.token_kind.TokenKind.{TokenKind}
use Rattle.just_text.specs.declared.token_kind.TokenKind.TheVariants.{Backtick, Comment, FormatStringContinue, FormatStringEnd, FormatStringStart, Identifier, StringToken, Whitespace}
use Rattle.just_lexer.specs.Classes.{first, is_blank, at_byte_order_mark, is_indented, at_line_end, breaks_off, is_mixed}
use Rattle.just_lexer.specs.declared.mode.Open.{Open}
use Rattle.just_lexer.specs.declared.mode.Line.{Line}
use Rattle.just_lexer.specs.declared.mode.Line.TheVariants.{Begin, Start, Ahead, Inside, BodyStart, BodyLine, Over}
use Rattle.just_lexer.specs.Modes.{innermost, open_after, has_indentation, is_byte_order_mark}
use Rattle.just_lexer.specs.Longest.{is_white, is_eof, is_eol, is_indent, is_dedent, is_body_kind, is_line_kind, in_line, at_start, allows, IsLongestIn}
use Rattle.just_lexer.specs.Lexes.{Piece, piece_word, Place, behind, IsTokenAt, AllTokens}
use Rattle.parse_expressions.specs.Words.{is_kind, significant}
use Rattle.parse_expressions.proofs.Taken.{test, is_kind-same}
use Rattle.justfile_syntax.specs.InCode.{word}
use Rattle.justfile_syntax.specs.Fits.{is_lexeme}
use Rattle.justfile_syntax.proofs.Lexemes.{tokens_are_lexemes}
use Rattle.justfile_syntax.proofs.InCode.{plain_opens_nothing}
use Rattle.laws_printing.specs.Printing.Held.{Held, is_lexed}

-- where such a kind is allowed, so are names and strings
record IsFar (k : TokenKind) : Type 0 where
  mark : is_byte_order_mark k ≡ false
  indent : is_indent k ≡ false
  eof : is_eof k ≡ false
  white : is_white k ≡ false
  eol : is_eol k ≡ false
  dedent : is_dedent k ≡ false
  body : is_body_kind k ≡ false

far : (k : TokenKind) → is_lexed k ≡ true → IsFar k
far Backtick h = record { mark = refl; indent = refl; eof = refl; white = refl; eol = refl; dedent = refl; body = refl }
far Comment h = record { mark = refl; indent = refl; eof = refl; white = refl; eol = refl; dedent = refl; body = refl }
far FormatStringContinue h = record { mark = refl; indent = refl; eof = refl; white = refl; eol = refl; dedent = refl; body = refl }
far FormatStringEnd h = record { mark = refl; indent = refl; eof = refl; white = refl; eol = refl; dedent = refl; body = refl }
far FormatStringStart h = record { mark = refl; indent = refl; eof = refl; white = refl; eol = refl; dedent = refl; body = refl }
far Identifier h = record { mark = refl; indent = refl; eof = refl; white = refl; eol = refl; dedent = refl; body = refl }
far StringToken h = record { mark = refl; indent = refl; eof = refl; white = refl; eol = refl; dedent = refl; body = refl }
far k h = absurd cc

no_and : (a b : Bool) → a ≡ false → a && b ≡ true → ⊥
no_and true b e h = cc
no_and false b e h = cc

module _ (inner : Option Open) (text : List ℕ) (k other : TokenKind) (f : IsFar k) (line_kind : is_line_kind inner other ≡ true) where
  line_alike : in_line inner text k ≡ true → in_line inner text other ≡ true
  line_alike a =
      elim (test (length text == 0)) [
        | inl h ↦ let p = rw h at a in let q = f.eof in absurd cc
        | inr h ↦ rw h line_kind
      ]

  start_alike : (may : Bool) → at_start may inner text k ≡ true → at_start may inner text other ≡ true
  start_alike may a =
      elim (test (is_indented text)) [
        | inl h ↦ absurd (no_and (is_indent k) (not (may && is_mixed text)) f.indent (rw h at a))
        | inr h ↦ rw h (line_alike (rw h at a))
      ]

  allowed_alike : (line : Line) → allows line inner text k ≡ true → allows line inner text other ≡ true
  allowed_alike Begin a =
      elim (test (at_byte_order_mark text)) [
        | inl h ↦ let p = rw h at a in let q = f.mark in absurd cc
        | inr h ↦ rw h (start_alike false (rw h at a))
      ]
  allowed_alike (Start may) a = start_alike may a
  allowed_alike (Ahead may) a = line_alike a
  allowed_alike (Inside may) a = line_alike a
  allowed_alike (BodyStart i) a =
      elim (test (is_indented text)) [
        | inl h ↦ absurd (no_and (is_white k) (has_indentation i text) f.white (rw h at a))
        | inr h ↦ elim (test (is_blank (first text) || at_line_end text)) [
          | inl g ↦ let p = rw (h, g, f.white, f.eol) at a in absurd cc
          | inr g ↦ let p = rw (h, g, f.dedent) at a in absurd cc
        ]
      ]
  allowed_alike (BodyLine i) a =
      elim (test (Rattle.std.specs.Prelude.is_some inner)) [
        | inl h ↦ elim (test (breaks_off text)) [
          | inl g ↦ let p = rw (h, g) at a in absurd (grind (arith, p))
          | inr g ↦ rw (h, g, line_kind) refl
        ]
        | inr h ↦ elim (test (length text == 0)) [
          | inl g ↦ let p = rw (h, g, f.dedent) at a in absurd cc
          | inr g ↦ let p = rw (h, g, f.body) at a in absurd cc
        ]
      ]
  allowed_alike Over a = absurd cc

nothing_less : (a b : TokenKind) (n : ℕ) → (a ≡ b) ⊎ (n < 0) → a ≡ b
nothing_less a b n (inl e) = e
nothing_less a b n (inr l) = absurd (omega arith)

not_empty : (line : Line) (inner : Option Open) (text : List ℕ) (k : TokenKind) → is_lexed k ≡ true → IsLongestIn line inner text k 0 → ⊥
not_empty line inner text k t is =
    let f = far k t in
    let name : Identifier ≡ k = nothing_less Identifier k _ (is.longest Identifier (allowed_alike inner text k Identifier f refl line is.allowed)) in
    let string : StringToken ≡ k = nothing_less StringToken k _ (is.longest StringToken (allowed_alike inner text k StringToken f refl line is.allowed)) in
    let p : Identifier ≡ StringToken = name ∙ sym string in
    absurd cc

some_bytes : (line : Line) (inner : Option Open) (whole l : List ℕ) (k : TokenKind) → is_lexed k ≡ true → IsLongestIn line inner whole k (length l) → 0 < length l
some_bytes line inner whole [] k t is = absurd (not_empty line inner whole k t is)
some_bytes line inner whole (c ∷ cs) k t is = omega arith

-- such a token is one by itself
pub token_lexeme : (p : Place) (t : Piece) → IsTokenAt p t → is_lexed t.kind ≡ true → is_lexeme (innermost p.mode.opened) t.kind t.text ≡ true
token_lexeme p t at such =
    let is : IsLongestIn p.mode.line (innermost p.mode.opened) (t.text ++ (behind p t).rest) t.kind (length t.text) = subst (λ r. IsLongestIn p.mode.line (innermost p.mode.opened) r t.kind (length t.text)) at.front at.longest in
    tokens_are_lexemes p.mode (word t.kind t.text) (behind p t).rest is (far t.kind such).white (some_bytes p.mode.line (innermost p.mode.opened) _ t.text t.kind such is)

pub white_stays : (opened : List Open) (k : TokenKind) (l : List ℕ) → is_kind k Whitespace ≡ true → open_after opened k l ≡ opened
white_stays opened k l h = ap (λ j. open_after opened j l) (is_kind-same k Whitespace h) ∙ plain_opens_nothing opened Whitespace l refl

pub all_held : (p : Place) (ts : List Piece) → AllTokens p ts → Held p.mode.opened (significant (map piece_word ts))
all_held p [] each = tt
all_held p (t ∷ ts) each =
    let rest = all_held (behind p t) ts each.1 in
    elim (test (is_kind t.kind Whitespace)) [
      | inl h ↦ rw h (subst (λ os. Held os (significant (map piece_word ts))) (white_stays p.mode.opened t.kind t.text h) rest)
      | inr h ↦ rw h ((λ such. token_lexeme p t each.0 such), rest)
    ]
