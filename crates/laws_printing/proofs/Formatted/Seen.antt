-- The words of a text's tokens, by the place where the tokens begin.
use Rattle.std.proofs.Common.{◌≡◌, ℕ, Bool, true, false, List, [], ◌∷◌, ◌++◌, map, Option, refl, sym, ap, subst, ◌∙◌, inl, inr, append_assoc}
use Rattle.std.specs.Str.{IsUtf8}
use Rattle.std.specs.Prelude.{if◌then◌else◌, is_some}
use Rattle.just_text.specs.Tokens.{Word}
use Rattle.just_text.specs.declared.token_kind.TokenKind.{TokenKind}
use Rattle.just_text.specs.declared.token_kind.TokenKind.TheVariants.{ByteOrderMark, Colon, Comment, Dedent, Eof, Eol, Indent, Whitespace}
use Rattle.just_lexer.specs.declared.mode.Indentation.{Indentation}
use Rattle.just_lexer.specs.declared.mode.Open.{Open}
use Rattle.just_lexer.specs.declared.mode.Line.{Line}
use Rattle.just_lexer.specs.declared.mode.Line.TheVariants.{Begin, Start, Ahead, Inside, BodyStart, BodyLine, Over}
use Rattle.just_lexer.specs.Modes.{innermost, open_after, start_after, line_after}
use Rattle.just_lexer.specs.Longest.{is_indent}
use Rattle.just_lexer.specs.Lexes.{Piece, piece_word, Place, behind, IsTokenAt, AllTokens}
use Rattle.parse_expressions.specs.Words.{is_kind, significant}
use Rattle.parse_expressions.proofs.Taken.{test, is_kind-same}
use Rattle.justfile_syntax.specs.Fits.{is_lexeme}
use Rattle.laws_printing.specs.Printing.Held.{is_lexed}
use Rattle.laws_printing.proofs.Printing.Tokens.{token_lexeme, white_stays}

-- with something before it the text is UTF-8
abbrev pub Suffixed : List ℕ → Type 0
Suffixed r = (before : List ℕ) × IsUtf8 (before ++ r)

-- the words are those of the tokens from the place on, in a text of UTF-8
abbrev pub Seen : Place → List Word → Type 0
Seen p words = (ts : List Piece) × AllTokens p ts × (words ≡ significant (map piece_word ts)) × Suffixed p.rest

pub suffix_on : (p : Place) (t : Piece) → IsTokenAt p t → Suffixed p.rest → Suffixed (behind p t).rest
suffix_on p t at x = (x.0 ++ t.text, subst IsUtf8 (ap (λ r. x.0 ++ r) at.front ∙ sym (append_assoc x.0 t.text (behind p t).rest)) x.1)

-- the first word's token, after white space, where the line is still such a one
pub record Next (P : Line → Type 0) (opened : List Open) (w : Word) (ws : List Word) : Type 0 where
  pub at : Place
  pub line : P at.mode.line
  pub same : at.mode.opened ≡ opened
  pub token : Piece
  pub is : piece_word token ≡ w
  pub here : IsTokenAt at token
  pub suffix : Suffixed at.rest
  pub more : Seen (behind at token) ws

module _ (P : Line → Type 0) (white : (l : Line) (inner : Option Open) (x : List ℕ) → P l → P (line_after l inner Whitespace x)) where
  next_in : (ts : List Piece) (p : Place) (opened : List Open) (w : Word) (ws : List Word) → AllTokens p ts → (w ∷ ws) ≡ significant (map piece_word ts) → Suffixed p.rest → P p.mode.line → p.mode.opened ≡ opened → Next P opened w ws
  next_in [] p opened w ws each is x l o = absurd cc
  next_in (t ∷ ts) p opened w ws each is x l o =
      elim (test (is_kind t.kind Whitespace)) [
        | inl h ↦
            let there : P (behind p t).mode.line = subst (λ k. P (line_after p.mode.line (innermost p.mode.opened) k t.text)) (sym (is_kind-same t.kind Whitespace h)) (white p.mode.line (innermost p.mode.opened) t.text l) in
            next_in ts (behind p t) opened w ws each.1 (rw h at is) (suffix_on p t each.0 x) there (white_stays p.mode.opened t.kind t.text h ∙ o)
        | inr h ↦
            let both : (w ∷ ws) ≡ piece_word t ∷ significant (map piece_word ts) = rw h at is in
            let one : piece_word t ≡ w = cc in
            let others : ws ≡ significant (map piece_word ts) = cc in
            record { at = p; line = l; same = o; token = t; is = one; here = each.0; suffix = x; more = (ts, each.1, others, suffix_on p t each.0 x) }
      ]

  pub next : (p : Place) (opened : List Open) (w : Word) (ws : List Word) → Seen p (w ∷ ws) → P p.mode.line → p.mode.opened ≡ opened → Next P opened w ws
  next p opened w ws s l o = next_in s.0 p opened w ws s.1 s.2 s.3 l o

-- ---- outside bodies

abbrev pub is_out : Line → Bool
is_out (BodyStart i) = false
is_out (BodyLine i) = false
is_out line = true

start_out : (may : Bool) (k : TokenKind) (x : List ℕ) → is_indent k ≡ false → is_out (start_after may k x) ≡ true
unfolding start_after
start_out may ByteOrderMark x h = refl
start_out may Eol x h = refl
start_out may Whitespace x h = refl
start_out may Comment x h = refl
start_out may Colon x h = refl
start_out may Indent x h = absurd cc
start_out may Eof x h = refl
start_out may k x h = refl

eol_out : (b may : Bool) → is_out (if b then Inside false else Start may) ≡ true
eol_out true may = refl
eol_out false may = refl

pub out_stays : (line : Line) (inner : Option Open) (k : TokenKind) (x : List ℕ) → is_indent k ≡ false → is_out line ≡ true → is_out (line_after line inner k x) ≡ true
unfolding line_after
out_stays Begin inner k x h o = start_out false k x h
out_stays (Start may) inner k x h o = start_out may k x h
out_stays (Ahead may) inner Eol x h o = refl
out_stays (Ahead may) inner Whitespace x h o = refl
out_stays (Ahead may) inner Colon x h o = refl
out_stays (Ahead may) inner Eof x h o = refl
out_stays (Ahead may) inner k x h o = refl
out_stays (Inside may) inner Eol x h o = eol_out (is_some inner) may
out_stays (Inside may) inner Colon x h o = refl
out_stays (Inside may) inner Eof x h o = refl
out_stays (Inside may) inner k x h o = refl
out_stays Over inner k x h o = refl
out_stays (BodyStart i) inner k x h o = absurd cc
out_stays (BodyLine i) inner k x h o = absurd cc

abbrev IsOut : Line → Type 0
IsOut line = is_out line ≡ true

-- words that begin outside bodies, by what is open
abbrev pub Out : List Open → List Word → Type 0
Out opened words = (p : Place) × IsOut p.mode.line × (p.mode.opened ≡ opened) × Seen p words

pub next_out : (opened : List Open) (w : Word) (ws : List Word) → Out opened (w ∷ ws) → Next IsOut opened w ws
next_out opened w ws s = next IsOut (λ l inner x o. out_stays l inner Whitespace x refl o) s.0 opened w ws s.3 s.1 s.2

pub out_step : (opened : List Open) (w : Word) (ws : List Word) → Out opened (w ∷ ws) → is_indent w.kind ≡ false → (is_lexed w.kind ≡ true → is_lexeme (innermost opened) w.kind w.text ≡ true) × Out (open_after opened w.kind w.text) ws
out_step opened w ws s h =
    let n = next_out opened w ws s in
    let kind : n.token.kind ≡ w.kind = ap (λ (v : Word). v.kind) n.is in
    let text : n.token.text ≡ w.text = ap (λ (v : Word). v.text) n.is in (
      (λ such. subst (λ v. is_lexeme (innermost opened) v.kind v.text ≡ true) n.is (subst (λ os. is_lexeme (innermost os) n.token.kind n.token.text ≡ true) n.same (token_lexeme n.at n.token n.here (subst (λ k. is_lexed k ≡ true) (sym kind) such)))),
      (behind n.at n.token, out_stays n.at.mode.line (innermost n.at.mode.opened) n.token.kind n.token.text (subst (λ k. is_indent k ≡ false) (sym kind) h) n.line, subst (λ v. open_after n.at.mode.opened n.token.kind n.token.text ≡ open_after n.at.mode.opened v.kind v.text) n.is refl ∙ ap (λ os. open_after os w.kind w.text) n.same, n.more),
    )

-- ---- in the line of a body

abbrev pub Ins : Indentation → List Open → List Word → Type 0
Ins i opened words = (p : Place) × (p.mode.line ≡ BodyLine i) × (p.mode.opened ≡ opened) × Seen p words

-- neither the end of a line nor of a body
abbrev pub goes_on : TokenKind → Bool
goes_on Dedent = false
goes_on Eol = false
goes_on k = true

line_goes : (i : Indentation) (inner : Option Open) (k : TokenKind) (x : List ℕ) → goes_on k ≡ true → line_after (BodyLine i) inner k x ≡ BodyLine i
unfolding line_after
line_goes i inner Dedent x h = absurd cc
line_goes i inner Eol x h = absurd cc
line_goes i inner k x h = refl

pub next_ins : (i : Indentation) (opened : List Open) (w : Word) (ws : List Word) → Ins i opened (w ∷ ws) → Next (λ l. l ≡ BodyLine i) opened w ws
next_ins i opened w ws s = next (λ l. l ≡ BodyLine i) (λ l inner x e. subst (λ k. line_after k inner Whitespace x ≡ BodyLine i) (sym e) (line_goes i inner Whitespace x refl)) s.0 opened w ws s.3 s.1 s.2

pub ins_step : (i : Indentation) (opened : List Open) (w : Word) (ws : List Word) → Ins i opened (w ∷ ws) → goes_on w.kind ≡ true → (is_lexed w.kind ≡ true → is_lexeme (innermost opened) w.kind w.text ≡ true) × Ins i (open_after opened w.kind w.text) ws
ins_step i opened w ws s h =
    let n = next_ins i opened w ws s in
    let kind : n.token.kind ≡ w.kind = ap (λ (v : Word). v.kind) n.is in (
      (λ such. subst (λ v. is_lexeme (innermost opened) v.kind v.text ≡ true) n.is (subst (λ os. is_lexeme (innermost os) n.token.kind n.token.text ≡ true) n.same (token_lexeme n.at n.token n.here (subst (λ k. is_lexed k ≡ true) (sym kind) such)))),
      (behind n.at n.token, subst (λ k. line_after k (innermost n.at.mode.opened) n.token.kind n.token.text ≡ BodyLine i) (sym n.line) (line_goes i (innermost n.at.mode.opened) n.token.kind n.token.text (subst (λ k. goes_on k ≡ true) (sym kind) h)), subst (λ v. open_after n.at.mode.opened n.token.kind n.token.text ≡ open_after n.at.mode.opened v.kind v.text) n.is refl ∙ ap (λ os. open_after os w.kind w.text) n.same, n.more),
    )
