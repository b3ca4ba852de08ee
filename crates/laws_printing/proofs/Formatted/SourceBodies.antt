-- What a text's tokens say of bodies.
use Rattle.std.proofs.Common.{◌≡◌, ◌≢◌, ℕ, zero, suc, ◌+◌, ◌-◌, ◌<◌, ◌≤◌, Bool, true, false, ◌&&◌, List, [], ◌∷◌, ◌++◌, map, length, drop, get_or, None, refl, sym, ap, subst, ◌∙◌, arith, inl, inr, ◌⊎◌, length-drop, eqb-true}
use Rattle.std.specs.Prelude.{◌==◌, ◌||◌, not, nat_le, slice_get}
use Rattle.std.specs.List.{list_all, list_any, prefix_len}
use Rattle.std.proofs.lemmas.Bool.{and_parts}
use Rattle.std.proofs.lemmas.Bool.Decides.{nat_tests}
use Rattle.just_text.specs.Tokens.{Word}
use Rattle.just_text.specs.declared.token_kind.TokenKind.{TokenKind}
use Rattle.just_text.specs.declared.token_kind.TokenKind.TheVariants.{Comment, Dedent, Eol, Indent, InterpolationEnd, InterpolationStart, Text, Whitespace}
use Rattle.just_lexer.specs.Classes.{first, is_blank, at_line_end, line_end_len, opens_format_interpolation, until_over, ends_text, brace_takes, text_len, blank_len, is_blank_line, is_indented, at_byte_order_mark}
use Rattle.just_lexer.specs.declared.mode.Indentation.{Indentation}
use Rattle.just_lexer.specs.declared.mode.Indentation.TheVariants.{Spaces, Tabs}
use Rattle.just_lexer.specs.declared.mode.Line.{Line}
use Rattle.just_lexer.specs.declared.mode.Line.TheVariants.{Begin, Start, Ahead, Inside, BodyStart, BodyLine, Over}
use Rattle.just_lexer.specs.declared.mode.Open.{Open}
use Rattle.just_lexer.specs.declared.mode.Open.TheVariants.{Interpolation}
use Rattle.just_lexer.specs.Lexes.{Piece as Token, piece_word, Place, behind, IsTokenAt, AllTokens}
use Rattle.just_lexer.specs.Longest.{is_white, is_eol, is_dedent, is_indent, is_body_kind, is_eof, is_line_kind, allows, IsLongestIn}
use Rattle.just_lexer.specs.Modes.{innermost, open_after, line_after, start_after, indentation_of, indent_byte, indent_width, is_byte_order_mark}
use Rattle.parse_expressions.specs.Words.{is_kind, Mark, significant}
use Rattle.parse_expressions.proofs.Taken.{test, is_kind-same}
use Rattle.justfile_syntax.specs.Bodies.{in_body}
use Rattle.justfile_syntax.specs.Fits.{is_lexeme, last_byte, takes_brace}
use Rattle.justfile_syntax.proofs.Lexemes.{tokens_are_lexemes, texts_end_well}
use Rattle.laws_printing.specs.Printing.Words.{word}
use Rattle.laws_printing.proofs.Printing.Formats.{stops_there}
use Rattle.laws_printing.specs.Printing.Held.{is_lexed}
use Rattle.laws_printing.specs.Printing.Lexed.{is_written}
use Rattle.laws_printing.proofs.Printing.Held.{stays, held, into, out_of, braces_open, braces_close}
use Rattle.parse_expressions.specs.Literals.{Expansion}
use Rattle.parse_recipes.specs.Bodies.{ArePieces, AreLines, IsBody, unless_blank, without_blank_end, behind_blank, behind_comment}
use Rattle.tree_items.specs.Lines.{Piece, text as text_piece, interpolation, is_byte}
use Rattle.tree_items.specs.Printable.{has_return}
use Rattle.laws_printing.specs.Formatting.Written.{ends_before, are_pieces_written, shows, shows_first, is_line_written, is_body_written}
use Rattle.laws_printing.proofs.Formatting.ItemsLexed.{all_so}
use Rattle.laws_printing.proofs.Formatting.Fitting.{no_longer}
use Rattle.laws_printing.proofs.Formatted.Seen.{Suffixed, suffix_on, Seen, Ins, Out, is_out, next_out, goes_on, ins_step}
use Rattle.laws_printing.proofs.Formatted.SourceItems.{eol_mark, passed}

-- ---- one token in a line of a body, where nothing is open

-- the token of the first word, with no white space before it
record Direct (i : Indentation) (p : Place) (w : Word) (ws : List Word) : Type 0 where
  token : Token
  is : piece_word token ≡ w
  front : p.rest ≡ token.text ++ (behind p token).rest
  longest : IsLongestIn (BodyLine i) None p.rest token.kind (length token.text)
  line : (behind p token).mode.line ≡ line_after (BodyLine i) None token.kind token.text
  opened : (behind p token).mode.opened ≡ open_after [] token.kind token.text
  more : Seen (behind p token) ws

no_white : (i : Indentation) (text : List ℕ) (n : ℕ) → IsLongestIn (BodyLine i) None text Whitespace n → ⊥
no_white i text n l =
    elim (test (length text == 0)) [
      | inl h ↦ let a = rw h at l.allowed in absurd cc
      | inr h ↦ let a = rw h at l.allowed in absurd cc
    ]

longest_here : (i : Indentation) (p : Place) (t : Token) → p.mode.line ≡ BodyLine i → p.mode.opened ≡ [] → IsTokenAt p t → IsLongestIn (BodyLine i) None p.rest t.kind (length t.text)
longest_here i p t l o at = subst (λ os. IsLongestIn (BodyLine i) (innermost os) p.rest t.kind (length t.text)) o (subst (λ line. IsLongestIn line (innermost p.mode.opened) p.rest t.kind (length t.text)) l at.longest)

direct_in : (i : Indentation) (p : Place) (w : Word) (ws : List Word) (ts : List Token) → p.mode.line ≡ BodyLine i → p.mode.opened ≡ [] → AllTokens p ts → (w ∷ ws) ≡ significant (map piece_word ts) → Suffixed p.rest → Direct i p w ws
direct_in i p w ws [] l o each is x = absurd cc
direct_in i p w ws (t ∷ ts) l o each is x =
    let here = longest_here i p t l o each.0 in
    elim (test (is_kind t.kind Whitespace)) [
      | inl h ↦ absurd (no_white i p.rest (length t.text) (subst (λ k. IsLongestIn (BodyLine i) None p.rest k (length t.text)) (is_kind-same t.kind Whitespace h) here))
      | inr h ↦
          let both : (w ∷ ws) ≡ piece_word t ∷ significant (map piece_word ts) = rw h at is in
          let one : piece_word t ≡ w = cc in
          let others : ws ≡ significant (map piece_word ts) = cc in
          record {
            token = t;
            is = one;
            front = each.0.front;
            longest = here;
            line = subst (λ os. line_after p.mode.line (innermost os) t.kind t.text ≡ line_after (BodyLine i) None t.kind t.text) (sym o) (subst (λ line. line_after line None t.kind t.text ≡ line_after (BodyLine i) None t.kind t.text) (sym l) refl);
            opened = ap (λ os. open_after os t.kind t.text) o;
            more = (ts, each.1, others, suffix_on p t each.0 x);
          }
    ]

direct : (i : Indentation) (w : Word) (ws : List Word) (s : Ins i [] (w ∷ ws)) → Direct i s.0 w ws
direct i w ws s = direct_in i s.0 w ws s.3.0 s.1 s.2 s.3.1 s.3.2 s.3.3

-- ---- what the token of a text says

not_empty : (i : Indentation) (text : List ℕ) (k : TokenKind) (n : ℕ) → is_dedent k ≡ false → IsLongestIn (BodyLine i) None text k n → (length text == 0) ≡ false
not_empty i text k n d l =
    elim (test (length text == 0)) [
      | inl h ↦ let a = rw h at l.allowed in absurd cc
      | inr h ↦ h
    ]

allowed_body : (i : Indentation) (text : List ℕ) (k : TokenKind) → (length text == 0) ≡ false → is_body_kind k ≡ true → allows (BodyLine i) None text k ≡ true
allowed_body i text k h b = rw (h, b) refl

text_some : (i : Indentation) (text : List ℕ) (n : ℕ) → IsLongestIn (BodyLine i) None text Text n → 0 < n
text_some i text n l =
    elim (l.longest Eol (allowed_body i text Eol (not_empty i text Text n refl l) refl)) [
      | inl e ↦ absurd cc
      | inr lt ↦ omega arith
    ]

-- where a text ends the line ends, or an expression begins
text_stops : (i : Indentation) (text : List ℕ) (n : ℕ) → IsLongestIn (BodyLine i) None text Text n → (length (drop n text) == 0) ≡ false → ends_text (drop n text) ≡ true
text_stops i text n l h =
    let size : n ≡ text_len text = l.reaches in
    let less : text_len text < length text = (let k : (length (drop n text) == 0) ≡ false = h in let d = length-drop n text in grind (arith, nat_tests, k, d, size)) in
    rw size (stops_there ends_text brace_takes 0 text less)

no_text_at : (text : List ℕ) → ends_text text ≡ true → text_len text ≡ 0
unfolding until_over
no_text_at [] h = refl
no_text_at (b ∷ bs) h = rw h refl

-- after a token of a line that goes on, or of its end
after_in : (i : Indentation) (k : TokenKind) (x : List ℕ) → stays k ≡ true → line_after (BodyLine i) None k x ≡ BodyLine i
unfolding line_after
after_in i Dedent x h = absurd cc
after_in i Eol x h = absurd cc
after_in i Indent x h = absurd cc
after_in i k x h = refl

text_keeps : (x : List ℕ) → open_after [] Text x ≡ []
unfolding open_after
text_keeps x = refl

-- a text's token, and what is left after it
record TextAt (i : Indentation) (p : Place) (t : List ℕ) (ws : List Word) : Type 0 where
  rest : List ℕ
  front : p.rest ≡ t ++ rest
  left : rest ≡ drop (length t) p.rest
  longest : IsLongestIn (BodyLine i) None p.rest Text (length t)
  after : Place
  there : after.rest ≡ rest
  line : after.mode.line ≡ BodyLine i
  opened : after.mode.opened ≡ []
  more : Seen after ws

text_at : (i : Indentation) (t : List ℕ) (ws : List Word) (s : Ins i [] (word Text t ∷ ws)) → TextAt i s.0 t ws
text_at i t ws s =
    let d = direct i (word Text t) ws s in
    let kind : d.token.kind ≡ Text = ap (λ (v : Word). v.kind) d.is in
    let text : d.token.text ≡ t = ap (λ (v : Word). v.text) d.is in
    record {
      rest = (behind s.0 d.token).rest;
      front = d.front ∙ ap (λ x. x ++ (behind s.0 d.token).rest) text;
      left = ap (λ x. drop (length x) s.0.rest) text;
      longest = subst (λ x. IsLongestIn (BodyLine i) None s.0.rest Text (length x)) text (subst (λ k. IsLongestIn (BodyLine i) None s.0.rest k (length d.token.text)) kind d.longest);
      after = behind s.0 d.token;
      there = refl;
      line = d.line ∙ ap (λ k. line_after (BodyLine i) None k d.token.text) kind ∙ after_in i Text d.token.text refl;
      opened = d.opened ∙ ap (λ k. open_after [] k d.token.text) kind ∙ text_keeps d.token.text;
      more = d.more;
    }

abbrev next_ins : (i : Indentation) (p : Place) (t : List ℕ) (ws : List Word) → TextAt i p t ws → Ins i [] ws
next_ins i p t ws d = (d.after, d.line, d.opened, d.more)

-- what another text, or an expression, after a text says
no_text_next : (i : Indentation) (p : Place) (t u : List ℕ) (ws : List Word) → TextAt i p t (word Text u ∷ ws) → ⊥
no_text_next i p t u ws d =
    let e = text_at i u ws (next_ins i p t (word Text u ∷ ws) d) in
    let l : IsLongestIn (BodyLine i) None d.rest Text (length u) = subst (λ r. IsLongestIn (BodyLine i) None r Text (length u)) d.there e.longest in
    let some : 0 < length u = text_some i d.rest (length u) l in
    let full : (length d.rest == 0) ≡ false = not_empty i d.rest Text (length u) refl l in
    let stops : ends_text d.rest ≡ true = subst (λ r. ends_text r ≡ true) (sym d.left) (text_stops i p.rest (length t) d.longest (subst (λ r. (length r == 0) ≡ false) d.left full)) in
    let size : length u ≡ text_len d.rest = l.reaches in
    absurd (omega (arith, no_text_at d.rest stops))

takes_next : (i : Indentation) (p : Place) (t b : List ℕ) (ws : List Word) → TextAt i p t (word InterpolationStart b ∷ ws) → takes_brace t ≡ true
takes_next i p t b ws d =
    let e = direct i (word InterpolationStart b) ws (next_ins i p t (word InterpolationStart b ∷ ws) d) in
    let kind : e.token.kind ≡ InterpolationStart = ap (λ (v : Word). v.kind) e.is in
    let text : e.token.text ≡ b = ap (λ (v : Word). v.text) e.is in
    let r2 : List ℕ = (behind d.after e.token).rest in
    let whole : d.rest ≡ b ++ r2 = sym d.there ∙ e.front ∙ ap (λ x. x ++ r2) text in
    let one : IsLongestIn (BodyLine i) None (t ++ (b ++ r2)) Text (length t) = subst (λ r. IsLongestIn (BodyLine i) None r Text (length t)) (d.front ∙ ap (λ r. t ++ r) whole) d.longest in
    let here : IsLongestIn (BodyLine i) None d.after.rest InterpolationStart (length b) = subst (λ x. IsLongestIn (BodyLine i) None d.after.rest InterpolationStart (length x)) text (subst (λ k. IsLongestIn (BodyLine i) None d.after.rest k (length e.token.text)) kind e.longest) in
    let two : IsLongestIn (BodyLine i) None (b ++ r2) InterpolationStart (length b) = subst (λ r. IsLongestIn (BodyLine i) None r InterpolationStart (length b)) (d.there ∙ whole) here in
    texts_end_well i t b r2 one two

text_lexeme : (i : Indentation) (p : Place) (t : List ℕ) (ws : List Word) → TextAt i p t ws → is_lexeme None Text t ≡ true
text_lexeme i p t ws d = tokens_are_lexemes (in_body i) (word Text t) d.rest (subst (λ r. IsLongestIn (BodyLine i) None r Text (length t)) d.front d.longest) refl (text_some i p.rest (length t) d.longest)

-- ---- carriage returns

index_alike : (t : List ℕ) (n : ℕ) → is_byte 13 (slice_get t n) ≡ false → (get_or t n 0 == 13) ≡ false
index_alike [] n h = refl
index_alike (b ∷ bs) zero h = h
index_alike (b ∷ bs) (suc n) h = index_alike bs n h

return_on : (p q : Piece) (ps : List Piece) → has_return (p ∷ q ∷ ps) ≡ has_return (q ∷ ps)
return_on p q ps = let i : suc (suc (length ps)) - 1 ≡ suc (suc (length ps) - 1) = omega arith in rw i refl

return_tail : (p : Piece) (ps : List Piece) → has_return (p ∷ ps) ≡ false → has_return ps ≡ false
return_tail p [] h = refl
return_tail p (q ∷ ps) h = sym (return_on p q ps) ∙ h

-- ---- pieces

stays_on : (k : TokenKind) → stays k ≡ true → goes_on k ≡ true
stays_on Dedent h = absurd cc
stays_on Eol h = absurd cc
stays_on k h = refl

in_step : (i : Indentation) (opened : List Open) (w : Word) (ws : List Word) → Ins i opened (w ∷ ws) → stays w.kind ≡ true → (is_lexed w.kind ≡ true → is_lexeme (innermost opened) w.kind w.text ≡ true) × Ins i (open_after opened w.kind w.text) ws
in_step i opened w ws s h = ins_step i opened w ws s (stays_on w.kind h)

module _ (expansion : Expansion) (i : Indentation) where
  ends_so : (p : Place) (t : List ℕ) (ps : List Piece) (words rest : List Word) → TextAt i p t words → ArePieces expansion ps words rest → has_return (text_piece t ∷ ps) ≡ false → ends_before t ps ≡ true
  ends_so p t [] words rest d is r = let k : (last_byte t == 13) ≡ false = index_alike t (length t - 1) r in rw k refl
  ends_so p t (text_piece u ∷ ps) words rest d is r = absurd (no_text_next i p t u is.0 (subst (TextAt i p t) is.1 d))
  ends_so p t (interpolation e ∷ ps) words rest d is r = takes_next i p t is.3.0 is.0 (subst (TextAt i p t) is.3.1 d)

  pieces_in : (ps : List Piece) (words rest : List Word) → ArePieces expansion ps words rest → Ins i [] words → has_return ps ≡ false → Ins i [] rest × (are_pieces_written ps ≡ true)
  pieces_in [] words rest is s r = (subst (Ins i []) is s, refl)
  pieces_in (text_piece t ∷ ps) words rest is s r =
      let s' : Ins i [] (word Text t ∷ is.0) = subst (Ins i []) is.1 s in
      let d = text_at i t is.0 s' in
      let others = pieces_in ps is.0 rest is.2 (next_ins i s'.0 t is.0 d) (return_tail (text_piece t) ps r) in
      (others.0, all_so (is_lexeme None Text t && ends_before t ps) (are_pieces_written ps) (all_so (is_lexeme None Text t) (ends_before t ps) (text_lexeme i s'.0 t is.0 d) (ends_so s'.0 t ps is.0 rest d is.2 r)) others.1)
  pieces_in (interpolation e ∷ ps) words rest is s r =
      let inside = held (Ins i) (in_step i) expansion e is.0 is.1 ([] ++ Interpolation ∷ []) is.4.is (into (Ins i) (in_step i) [] InterpolationStart Interpolation words is.0 braces_open is.3 s) in
      let after = out_of (Ins i) (in_step i) [] InterpolationEnd Interpolation is.1 is.2 braces_close is.5 inside.0 in
      let others = pieces_in ps is.2 rest is.6 after (return_tail (interpolation e) ps r) in
      (others.0, all_so (is_written e) (are_pieces_written ps) inside.1 others.1)

-- ---- starts of lines

-- words from the start of a body's line
abbrev pub AtStart : Indentation → List Word → Type 0
AtStart i words = (p : Place) × (p.mode.line ≡ BodyStart i) × (p.mode.opened ≡ []) × Seen p words

-- white space comes first
record White (i : Indentation) (p : Place) (words : List Word) : Type 0 where
  size : ℕ
  longest : IsLongestIn (BodyStart i) None p.rest Whitespace size
  after : Place
  there : after.rest ≡ drop size p.rest
  line : after.mode.line ≡ BodyLine i
  opened : after.mode.opened ≡ []
  more : Seen after words

-- or the first word does
record Plain (i : Indentation) (p : Place) (w : Word) (ws : List Word) : Type 0 where
  longest : IsLongestIn (BodyStart i) None p.rest w.kind (length w.text)
  after : Place
  line : after.mode.line ≡ line_after (BodyStart i) None w.kind w.text
  opened : after.mode.opened ≡ open_after [] w.kind w.text
  more : Seen after ws

start_white : (i : Indentation) (k : TokenKind) (x : List ℕ) → k ≡ Whitespace → line_after (BodyStart i) None k x ≡ BodyLine i
unfolding line_after
start_white i k x e = rw e refl

white_keeps : (k : TokenKind) (x : List ℕ) → k ≡ Whitespace → open_after [] k x ≡ []
unfolding open_after
white_keeps k x e = rw e refl

start_in : (i : Indentation) (p : Place) (w : Word) (ws : List Word) (ts : List Token) → p.mode.line ≡ BodyStart i → p.mode.opened ≡ [] → AllTokens p ts → (w ∷ ws) ≡ significant (map piece_word ts) → Suffixed p.rest → White i p (w ∷ ws) ⊎ Plain i p w ws
start_in i p w ws [] l o each is x = absurd cc
start_in i p w ws (t ∷ ts) l o each is x =
    let here : IsLongestIn (BodyStart i) None p.rest t.kind (length t.text) = subst (λ os. IsLongestIn (BodyStart i) (innermost os) p.rest t.kind (length t.text)) o (subst (λ line. IsLongestIn line (innermost p.mode.opened) p.rest t.kind (length t.text)) l each.0.longest) in
    let lined : (behind p t).mode.line ≡ line_after (BodyStart i) None t.kind t.text = subst (λ os. line_after p.mode.line (innermost os) t.kind t.text ≡ line_after (BodyStart i) None t.kind t.text) (sym o) (ap (λ line. line_after line None t.kind t.text) l) in
    let open_there : (behind p t).mode.opened ≡ open_after [] t.kind t.text = ap (λ os. open_after os t.kind t.text) o in
    elim (test (is_kind t.kind Whitespace)) [
      | inl h ↦
          let kind : t.kind ≡ Whitespace = is_kind-same t.kind Whitespace h in
          inl (record {
            size = length t.text;
            longest = subst (λ k. IsLongestIn (BodyStart i) None p.rest k (length t.text)) kind here;
            after = behind p t;
            there = refl;
            line = lined ∙ start_white i t.kind t.text kind;
            opened = open_there ∙ white_keeps t.kind t.text kind;
            more = (ts, each.1, rw h at is, suffix_on p t each.0 x);
          })
      | inr h ↦
          let both : (w ∷ ws) ≡ piece_word t ∷ significant (map piece_word ts) = rw h at is in
          let one : piece_word t ≡ w = cc in
          let others : ws ≡ significant (map piece_word ts) = cc in
          inr (record {
            longest = subst (λ (v : Word). IsLongestIn (BodyStart i) None p.rest v.kind (length v.text)) one here;
            after = behind p t;
            line = subst (λ (v : Word). (behind p t).mode.line ≡ line_after (BodyStart i) None v.kind v.text) one lined;
            opened = subst (λ (v : Word). (behind p t).mode.opened ≡ open_after [] v.kind v.text) one open_there;
            more = (ts, each.1, others, suffix_on p t each.0 x);
          })
    ]

start : (i : Indentation) (w : Word) (ws : List Word) (s : AtStart i (w ∷ ws)) → White i s.0 (w ∷ ws) ⊎ Plain i s.0 w ws
start i w ws s = start_in i s.0 w ws s.3.0 s.1 s.2 s.3.1 s.3.2 s.3.3

abbrev white_ins : (i : Indentation) (p : Place) (words : List Word) → White i p words → Ins i [] words
white_ins i p words w = (w.after, w.line, w.opened, w.more)

-- a line end, or the end of the indentation, in a line and at its start

abbrev is_ending : TokenKind → Bool
is_ending Dedent = true
is_ending Eol = true
is_ending k = false

ending_keeps : (k : TokenKind) (x : List ℕ) → is_ending k ≡ true → open_after [] k x ≡ []
unfolding open_after
ending_keeps Dedent x h = refl
ending_keeps Eol x h = refl
ending_keeps k x h = absurd cc

eol_in : (i : Indentation) (words rest : List Word) → Mark Eol words rest → Ins i [] words → AtStart i rest
unfolding line_after
eol_in i words rest m s =
    let s' : Ins i [] (word Eol m.0 ∷ rest) = subst (Ins i []) m.1 s in
    let d = direct i (word Eol m.0) rest s' in
    let kind : d.token.kind ≡ Eol = ap (λ (v : Word). v.kind) d.is in
    (behind s'.0 d.token, d.line ∙ rw kind refl, d.opened ∙ ending_keeps d.token.kind d.token.text (rw kind refl), d.more)

dedent_in : (i : Indentation) (words rest : List Word) → Mark Dedent words rest → Ins i [] words → Out [] rest
unfolding line_after
dedent_in i words rest m s =
    let s' : Ins i [] (word Dedent m.0 ∷ rest) = subst (Ins i []) m.1 s in
    let d = direct i (word Dedent m.0) rest s' in
    let kind : d.token.kind ≡ Dedent = ap (λ (v : Word). v.kind) d.is in
    let line : (behind s'.0 d.token).mode.line ≡ Start false = d.line ∙ rw kind refl in
    (behind s'.0 d.token, rw line refl, d.opened ∙ ending_keeps d.token.kind d.token.text (rw kind refl), d.more)

eol_start : (i : Indentation) (words rest : List Word) → Mark Eol words rest → AtStart i words → AtStart i rest
unfolding line_after
eol_start i words rest m s =
    let s' : AtStart i (word Eol m.0 ∷ rest) = subst (AtStart i) m.1 s in
    elim (start i (word Eol m.0) rest s') [
      | inl w ↦ eol_in i (word Eol m.0 ∷ rest) rest (m.0, refl) (white_ins i s'.0 (word Eol m.0 ∷ rest) w)
      | inr d ↦ (d.after, d.line, d.opened ∙ ending_keeps Eol m.0 refl, d.more)
    ]

dedent_start : (i : Indentation) (words rest : List Word) → Mark Dedent words rest → AtStart i words → Out [] rest
unfolding line_after
dedent_start i words rest m s =
    let s' : AtStart i (word Dedent m.0 ∷ rest) = subst (AtStart i) m.1 s in
    elim (start i (word Dedent m.0) rest s') [
      | inl w ↦ dedent_in i (word Dedent m.0 ∷ rest) rest (m.0, refl) (white_ins i s'.0 (word Dedent m.0 ∷ rest) w)
      | inr d ↦ let line : d.after.mode.line ≡ Start false = d.line in (d.after, rw line refl, d.opened ∙ ending_keeps Dedent m.0 refl, d.more)
    ]

-- text and expressions come after the indentation
not_plain : (i : Indentation) (p : Place) (w : Word) (ws : List Word) → is_white w.kind ≡ false → is_eol w.kind ≡ false → is_dedent w.kind ≡ false → Plain i p w ws → ⊥
not_plain i p w ws white eol dedent d =
    elim (test (is_indented p.rest)) [
      | inl h ↦ let a = rw (h, white) at d.longest.allowed in absurd cc
      | inr h ↦ elim (test (Rattle.just_lexer.specs.Classes.is_blank (first p.rest) || at_line_end p.rest)) [
        | inl g ↦ let a = rw (h, g, white, eol) at d.longest.allowed in absurd cc
        | inr g ↦ let a = rw (h, g, dedent) at d.longest.allowed in absurd cc
      ]
    ]

white_first : (i : Indentation) (w : Word) (ws : List Word) (s : AtStart i (w ∷ ws)) → is_white w.kind ≡ false → is_eol w.kind ≡ false → is_dedent w.kind ≡ false → White i s.0 (w ∷ ws)
white_first i w ws s white eol dedent = elim (start i w ws s) [ inl v ↦ v | inr d ↦ absurd (not_plain i s.0 w ws white eol dedent d) ]

-- ---- lines that show something

no_or_parts : (a b : Bool) → (a || b) ≡ false → (a ≡ false) × (b ≡ false)
no_or_parts true b h = absurd cc
no_or_parts false b h = (refl, h)

or_true : (b : Bool) → (b || true) ≡ true
or_true true = refl
or_true false = refl

first_of_end : (r : List ℕ) → at_line_end r ≡ true → is_blank (first r) ≡ false
first_of_end r h = grind (arith, nat_tests, h)

blank_none : (r : List ℕ) → is_blank (first r) ≡ false → blank_len r ≡ 0
blank_none [] h = refl
blank_none (b ∷ bs) h = rw h refl

-- a rest that is empty or begins with a line end
abbrev Ends : List ℕ → Type 0
Ends r = ((length r == 0) ≡ true) ⊎ (at_line_end r ≡ true)

ends_blank : (r : List ℕ) → Ends r → is_blank_line r ≡ true
ends_blank [] e = refl
ends_blank (b ∷ bs) (inl e) = absurd (grind (arith, nat_tests, e))
ends_blank (b ∷ bs) (inr e) = let none : blank_len (b ∷ bs) ≡ 0 = blank_none (b ∷ bs) (first_of_end (b ∷ bs) e) in rw none (rw e (or_true (length (b ∷ bs) == 0)))

one_more : (b : ℕ) (bs : List ℕ) → is_blank b ≡ true → is_blank_line (b ∷ bs) ≡ is_blank_line bs
one_more b bs h =
    let n : blank_len (b ∷ bs) ≡ suc (blank_len bs) = rw h (omega arith) in
    rw n refl

all_blank : (t r : List ℕ) → blank_len t ≡ length t → Ends r → is_blank_line (t ++ r) ≡ true
all_blank [] r h e = ends_blank r e
all_blank (b ∷ bs) r h e =
    elim (test (is_blank b)) [
      | inl w ↦
          let n : 1 + blank_len bs ≡ length (b ∷ bs) = rw w at h in
          one_more b (bs ++ r) w ∙ all_blank bs r (omega arith) e
      | inr w ↦ absurd (let n : 0 ≡ length (b ∷ bs) = rw w at h in omega arith)
    ]

byte_blank : (i : Indentation) (b : ℕ) → (b == indent_byte i) ≡ true → is_blank b ≡ true
byte_blank (Spaces n) b h = let e : b ≡ 32 = eqb-true b 32 h in rw e refl
byte_blank (Tabs n) b h = let e : b ≡ 9 = eqb-true b 9 h in rw e refl

-- without its indentation a line is blank where it was
indentation_off : (i : Indentation) (n : ℕ) (r : List ℕ) → n ≤ prefix_len (λ b. b == indent_byte i) r → is_blank_line (drop n r) ≡ is_blank_line r
indentation_off i zero r h = refl
indentation_off i (suc n) [] h = refl
indentation_off i (suc n) (b ∷ bs) h =
    elim (test (b == indent_byte i)) [
      | inl e ↦
          let m : suc n ≤ 1 + prefix_len (λ b. b == indent_byte i) bs = rw e at h in
          indentation_off i n bs (omega arith) ∙ sym (one_more b bs (byte_blank i b e))
      | inr e ↦ absurd (let m : suc n ≤ 0 = rw e at h in omega arith)
    ]

no_text_before : (i : Indentation) (r : List ℕ) (n : ℕ) → IsLongestIn (BodyLine i) None r Text n → at_line_end r ≡ true → ⊥
no_text_before i r n l e =
    let stops : ends_text r ≡ true = rw e refl in
    let size : n ≡ text_len r = l.reaches in
    absurd (omega (arith, no_text_at r stops, text_some i r n l))

-- what follows the white space before a text isn't blank
shows_there : (i : Indentation) (p : Place) (words : List Word) (w : White i p words) (n : ℕ) → IsLongestIn (BodyLine i) None w.after.rest Text n → is_blank_line w.after.rest ≡ false
shows_there i p words w n l =
    let full = not_empty i w.after.rest Text n refl l in
    elim (test (is_indented p.rest)) [
      | inl h ↦
          let size : w.size ≡ indent_width i = rw h at w.longest.reaches in
          let wide : nat_le (indent_width i) (prefix_len (λ b. b == indent_byte i) p.rest) ≡ true = rw h at w.longest.allowed in
          let enough : w.size ≤ prefix_len (λ b. b == indent_byte i) p.rest = grind (arith, nat_tests, wide, size) in
          let there : not (is_blank_line p.rest) ≡ true = (and_parts (is_blank (first p.rest)) (not (is_blank_line p.rest)) h).1 in
          ap is_blank_line w.there ∙ indentation_off i w.size p.rest enough ∙ no_longer (is_blank_line p.rest) there
      | inr h ↦
          let size : w.size ≡ blank_len p.rest = rw h at w.longest.reaches in
          let rest : w.after.rest ≡ drop (blank_len p.rest) p.rest = w.there ∙ ap (λ k. drop k p.rest) size in
          absurd (elim (test (is_blank (first p.rest))) [
            | inl b ↦ elim (test (length (drop (blank_len p.rest) p.rest) == 0)) [
              | inl z ↦ (let k : (length w.after.rest == 0) ≡ true = ap (λ r. length r == 0) rest ∙ z in cc)
              | inr z ↦ elim (test (at_line_end (drop (blank_len p.rest) p.rest))) [
                | inl e ↦ no_text_before i w.after.rest n l (ap at_line_end rest ∙ e)
                | inr e ↦ (let k : is_indented p.rest ≡ true = rw (b, z, e) refl in cc)
              ]
            ]
            | inr b ↦ elim (test (at_line_end p.rest)) [
              | inl e ↦ (let same : w.after.rest ≡ p.rest = rest ∙ ap (λ k. drop k p.rest) (blank_none p.rest b) in no_text_before i w.after.rest n l (ap at_line_end same ∙ e))
              | inr e ↦ (let a = rw (h, b, e) at w.longest.allowed in cc)
            ]
          ])
    ]

-- the end of a line or of the indentation, and what it says of its rest
end_says : (i : Indentation) (k : TokenKind) (r : List ℕ) (n : ℕ) → is_ending k ≡ true → (length r == 0) ≡ false → IsLongestIn (BodyLine i) None r k n → opens_format_interpolation r ≡ true → at_line_end r ≡ false → ⊥
end_says i Dedent r n h full l o e = let a = rw full at l.allowed in absurd cc
end_says i Eol r n h full l o e =
    elim (l.longest InterpolationStart (allowed_body i r InterpolationStart full refl)) [
      | inl same ↦ absurd cc
      | inr less ↦
          let size : n ≡ line_end_len r = l.reaches in
          let none : line_end_len r ≡ 0 = grind (arith, nat_tests, e) in
          absurd (omega (arith, less, size, none))
    ]
end_says i k r n h full l o e = absurd cc

-- where the line ends after a text
ends_after : (i : Indentation) (p : Place) (t x : List ℕ) (k : TokenKind) (ws : List Word) → is_ending k ≡ true → (d : TextAt i p t (word k x ∷ ws)) → Ends d.rest
ends_after i p t x k ws h d =
    let e = direct i (word k x) ws (next_ins i p t (word k x ∷ ws) d) in
    let kind : e.token.kind ≡ k = ap (λ (v : Word). v.kind) e.is in
    let l : IsLongestIn (BodyLine i) None d.rest k (length e.token.text) = subst (λ j. IsLongestIn (BodyLine i) None d.rest j (length e.token.text)) kind (subst (λ r. IsLongestIn (BodyLine i) None r e.token.kind (length e.token.text)) d.there e.longest) in
    elim (test (length d.rest == 0)) [
      | inl z ↦ inl z
      | inr z ↦
          let stops : ends_text d.rest ≡ true = subst (λ r. ends_text r ≡ true) (sym d.left) (text_stops i p.rest (length t) d.longest (subst (λ r. (length r == 0) ≡ false) d.left z)) in
          elim (test (at_line_end d.rest)) [
            | inl e ↦ inr e
            | inr e ↦ (let o : opens_format_interpolation d.rest ≡ true = rw e at stops in absurd (end_says i k d.rest _ h z l o e))
          ]
    ]

-- so a text alone in its line isn't of spaces and tabs
shows_alone : (i : Indentation) (t x : List ℕ) (k : TokenKind) (ws : List Word) → is_ending k ≡ true → AtStart i (word Text t ∷ word k x ∷ ws) → shows (text_piece t ∷ []) ≡ true
shows_alone i t x k ws h s =
    let words = word Text t ∷ word k x ∷ ws in
    let w = white_first i (word Text t) (word k x ∷ ws) s refl refl refl in
    let d = text_at i t (word k x ∷ ws) (white_ins i s.0 words w) in
    let there : is_blank_line w.after.rest ≡ false = shows_there i s.0 words w (length t) d.longest in
    elim (test (blank_len t == length t)) [
      | inl b ↦
          let blank : is_blank_line (t ++ d.rest) ≡ true = all_blank t d.rest (eqb-true (blank_len t) (length t) b) (ends_after i w.after t x k ws h d) in
          let p : is_blank_line w.after.rest ≡ true = ap is_blank_line d.front ∙ blank in
          absurd cc
      | inr b ↦ rw b refl
    ]

module _ (expansion : Expansion) (i : Indentation) where
  -- a line's pieces from its start, before its end
  line_in : (p : Piece) (ps : List Piece) (words rest : List Word) (x : List ℕ) (k : TokenKind) (after : List Word) → rest ≡ word k x ∷ after → is_ending k ≡ true → ArePieces expansion (p ∷ ps) words rest → AtStart i words → has_return (p ∷ ps) ≡ false
      → Ins i [] rest × (is_line_written (p ∷ ps) ≡ true)
  line_in (text_piece t) [] words rest x k after e h is s r =
      let s' : AtStart i (word Text t ∷ is.0) = subst (AtStart i) is.1 s in
      let w = white_first i (word Text t) is.0 s' refl refl refl in
      let inside = pieces_in expansion i (text_piece t ∷ []) (word Text t ∷ is.0) rest (is.0, refl, is.2) (white_ins i s'.0 (word Text t ∷ is.0) w) r in
      let alone = shows_alone i t x k after h (subst (λ vs. AtStart i (word Text t ∷ vs)) (is.2 ∙ e) s') in
      (inside.0, all_so (are_pieces_written (text_piece t ∷ [])) (shows (text_piece t ∷ [])) inside.1 alone)
  line_in (text_piece t) (q ∷ ps) words rest x k after e h is s r =
      let s' : AtStart i (word Text t ∷ is.0) = subst (AtStart i) is.1 s in
      let w = white_first i (word Text t) is.0 s' refl refl refl in
      let inside = pieces_in expansion i (text_piece t ∷ q ∷ ps) (word Text t ∷ is.0) rest (is.0, refl, is.2) (white_ins i s'.0 (word Text t ∷ is.0) w) r in
      (inside.0, all_so (are_pieces_written (text_piece t ∷ q ∷ ps)) true inside.1 refl)
  line_in (interpolation f) ps words rest x k after e h is s r =
      let s' : AtStart i (word InterpolationStart is.3.0 ∷ is.0) = subst (AtStart i) is.3.1 s in
      let w = white_first i (word InterpolationStart is.3.0) is.0 s' refl refl refl in
      let inside = pieces_in expansion i (interpolation f ∷ ps) (word InterpolationStart is.3.0 ∷ is.0) rest (is.0, is.1, is.2, (is.3.0, refl), is.4, is.5, is.6) (white_ins i s'.0 (word InterpolationStart is.3.0 ∷ is.0) w) r in
      (inside.0, all_so (are_pieces_written (interpolation f ∷ ps)) true inside.1 refl)

  pub lines_in : (lines : List (List Piece)) (words rest : List Word) → AreLines expansion lines words rest → AtStart i words → list_any has_return lines ≡ false → Out [] rest × (list_all is_line_written lines ≡ true)
  lines_in [] words rest is s r = (dedent_start i words rest is s, refl)
  lines_in ([] ∷ lines) words rest (a, is, inl e) s r =
      let others = lines_in lines e.0 rest e.2 (eol_start i words e.0 (subst (λ vs. Mark Eol vs e.0) (sym is) e.1) s) r in
      (others.0, others.1)
  lines_in ([] ∷ lines) words rest (a, is, inr e) s r = absurd (e.0 refl)
  lines_in ((p ∷ ps) ∷ lines) words rest (a, is, inl e) s r =
      let b = no_or_parts (has_return (p ∷ ps)) (list_any has_return lines) r in
      let one = line_in p ps words a e.1.0 Eol e.0 e.1.1 refl is s b.0 in
      let others = lines_in lines e.0 rest e.2 (eol_in i a e.0 e.1 one.0) b.1 in
      (others.0, all_so (is_line_written (p ∷ ps)) (list_all is_line_written lines) one.1 others.1)
  lines_in ((p ∷ ps) ∷ lines) words rest (a, is, inr e) s r =
      let b = no_or_parts (has_return (p ∷ ps)) (list_any has_return lines) r in
      let one = line_in p ps words a e.2.0 Dedent rest e.2.1 refl is s b.0 in
      (dedent_in i a rest e.2 one.0, all_so (is_line_written (p ∷ ps)) (list_all is_line_written lines) one.1 (rw e.1 refl))

-- ---- the first line

-- the rest after an indentation: not empty, no line end, and no white space
record Shown (r : List ℕ) : Type 0 where
  full : (length r == 0) ≡ false
  ends : at_line_end r ≡ false
  white : is_blank (first r) ≡ false

white_over : (r : List ℕ) → is_blank (first (drop (blank_len r) r)) ≡ false
white_over [] = refl
white_over (b ∷ bs) = elim (test (is_blank b)) [ inl h ↦ (let n : blank_len (b ∷ bs) ≡ suc (blank_len bs) = rw h (omega arith) in rw n (white_over bs)) | inr h ↦ (let n : blank_len (b ∷ bs) ≡ 0 = rw h refl in rw n h) ]

shown_after : (r : List ℕ) → is_indented r ≡ true → Shown (drop (blank_len r) r)
shown_after r h =
    let b = no_longer (is_blank_line r) (and_parts (is_blank (first r)) (not (is_blank_line r)) h).1 in
    let both = no_or_parts (length (drop (blank_len r) r) == 0) (at_line_end (drop (blank_len r) r)) b in
    record { full = both.0; ends = both.1; white = white_over r }

first_same : (t r : List ℕ) → 0 < length t → first (t ++ r) ≡ first t
first_same [] r h = absurd (omega arith)
first_same (b ∷ bs) r h = refl

no_end_first : (i : Indentation) (p : Place) (x : List ℕ) (ws : List Word) → p.mode.line ≡ BodyLine i → p.mode.opened ≡ [] → Seen p (word Eol x ∷ ws) → Shown p.rest → ⊥
no_end_first i p x ws l o m shown =
    let d = direct i (word Eol x) ws (p, l, o, m) in
    let kind : d.token.kind ≡ Eol = ap (λ (v : Word). v.kind) d.is in
    let here : IsLongestIn (BodyLine i) None p.rest Eol (length d.token.text) = subst (λ k. IsLongestIn (BodyLine i) None p.rest k (length d.token.text)) kind d.longest in
    let size : length d.token.text ≡ line_end_len p.rest = here.reaches in
    let ends = shown.ends in
    let none : line_end_len p.rest ≡ 0 = grind (arith, nat_tests, ends) in
    elim (here.longest Text (allowed_body i p.rest Text shown.full refl)) [
      | inl same ↦ absurd cc
      | inr less ↦ absurd (omega (arith, less, size, none))
    ]

module _ (expansion : Expansion) (i : Indentation) where
  after_line : (lines : List (List Piece)) (a rest : List Word) → (((b : List Word) × Mark Eol a b × AreLines expansion lines b rest) ⊎ ((lines ≡ []) × Mark Dedent a rest)) → Ins i [] a → list_any has_return lines ≡ false → Out [] rest × (list_all is_line_written lines ≡ true)
  after_line lines a rest (inl e) s r = lines_in expansion i lines e.0 rest e.2 (eol_in i a e.0 e.1 s) r
  after_line lines a rest (inr e) s r = (dedent_in i a rest e.1 s, rw e.0 refl)

  either : (line : List Piece) (lines : List (List Piece)) (a rest : List Word) → (((b : List Word) × Mark Eol a b × AreLines expansion lines b rest) ⊎ ((line ≢ []) × (lines ≡ []) × Mark Dedent a rest)) → (((b : List Word) × Mark Eol a b × AreLines expansion lines b rest) ⊎ ((lines ≡ []) × Mark Dedent a rest))
  either line lines a rest (inl e) = inl e
  either line lines a rest (inr e) = inr (e.1, e.2)

  abbrev FirstFound : List Piece → List (List Piece) → List Word → Type 0
  FirstFound line lines rest = Out [] rest × (are_pieces_written line && shows_first line && list_all is_line_written lines ≡ true)

  -- the first line and others, after an indentation
  first_in : (line : List Piece) (lines : List (List Piece)) (p : Place) (words rest : List Word) → AreLines expansion (line ∷ lines) words rest → p.mode.line ≡ BodyLine i → p.mode.opened ≡ [] → Seen p words → Shown p.rest → list_any has_return (line ∷ lines) ≡ false → FirstFound line lines rest
  first_in [] lines p words rest (a, is, inl e) l o m shown r = absurd (no_end_first i p e.1.0 e.0 l o (subst (Seen p) (is ∙ e.1.1) m) shown)
  first_in [] lines p words rest (a, is, inr e) l o m shown r = absurd (e.0 refl)
  first_in (text_piece t ∷ ps) lines p words rest (a, is, e) l o m shown r =
      let b = no_or_parts (has_return (text_piece t ∷ ps)) (list_any has_return lines) r in
      let m' : Seen p (word Text t ∷ is.0) = subst (Seen p) is.1 m in
      let d = text_at i t is.0 (p, l, o, m') in
      let inside = pieces_in expansion i (text_piece t ∷ ps) words a is (p, l, o, m) b.0 in
      let others = after_line lines a rest (either (text_piece t ∷ ps) lines a rest e) inside.0 b.1 in
      let same : first p.rest ≡ first t = ap first d.front ∙ first_same t d.rest (text_some i p.rest (length t) d.longest) in
      let white : is_blank (first t) ≡ false = ap is_blank (sym same) ∙ shown.white in
      let shows : shows_first (text_piece t ∷ ps) ≡ true = rw white refl in
      (others.0, all_so (are_pieces_written (text_piece t ∷ ps) && shows_first (text_piece t ∷ ps)) (list_all is_line_written lines) (all_so (are_pieces_written (text_piece t ∷ ps)) (shows_first (text_piece t ∷ ps)) inside.1 shows) others.1)
  first_in (interpolation f ∷ ps) lines p words rest (a, is, e) l o m shown r =
      let b = no_or_parts (has_return (interpolation f ∷ ps)) (list_any has_return lines) r in
      let inside = pieces_in expansion i (interpolation f ∷ ps) words a is (p, l, o, m) b.0 in
      let others = after_line lines a rest (either (interpolation f ∷ ps) lines a rest e) inside.0 b.1 in
      (others.0, all_so (are_pieces_written (interpolation f ∷ ps) && true) (list_all is_line_written lines) (all_so (are_pieces_written (interpolation f ∷ ps)) true inside.1 refl) others.1)

-- ---- outside bodies nothing of a body stands

line_no : (r : List ℕ) (k : TokenKind) → is_eof k ≡ false → is_line_kind None k ≡ false → allows (Inside false) None r k ≡ true → ⊥
line_no r k e l a =
    elim (test (length r == 0)) [
      | inl h ↦ let b = rw (h, e) at a in absurd cc
      | inr h ↦ let b = rw (h, l) at a in absurd cc
    ]

start_no : (may : Bool) (r : List ℕ) (k : TokenKind) → is_indent k ≡ false → is_eof k ≡ false → is_line_kind None k ≡ false → allows (Start may) None r k ≡ true → ⊥
start_no may r k i e l a =
    elim (test (is_indented r)) [
      | inl h ↦ let b = rw (h, i) at a in absurd cc
      | inr h ↦ line_no r k e l (rw h at a)
    ]

outside_no : (line : Line) (r : List ℕ) (k : TokenKind) → is_out line ≡ true → is_byte_order_mark k ≡ false → is_indent k ≡ false → is_eof k ≡ false → is_line_kind None k ≡ false → allows line None r k ≡ true → ⊥
outside_no Begin r k o m i e l a =
    elim (test (at_byte_order_mark r)) [
      | inl h ↦ let b = rw (h, m) at a in absurd cc
      | inr h ↦ start_no false r k i e l (rw h at a)
    ]
outside_no (Start may) r k o m i e l a = start_no may r k i e l a
outside_no (Ahead may) r k o m i e l a = line_no r k e l a
outside_no (Inside may) r k o m i e l a = line_no r k e l a
outside_no Over r k o m i e l a = absurd cc
outside_no (BodyStart j) r k o m i e l a = absurd cc
outside_no (BodyLine j) r k o m i e l a = absurd cc

out_longest : (k : TokenKind) (x : List ℕ) (ws : List Word) (s : Out [] (word k x ∷ ws)) → let n = next_out [] (word k x) ws s in IsLongestIn n.at.mode.line None n.at.rest k (length x)
out_longest k x ws s =
    let n = next_out [] (word k x) ws s in
    subst (λ (v : Word). IsLongestIn n.at.mode.line None n.at.rest v.kind (length v.text)) n.is (subst (λ os. IsLongestIn n.at.mode.line (innermost os) n.at.rest n.token.kind (length n.token.text)) n.same n.here.longest)

never_out : (k : TokenKind) (x : List ℕ) (ws : List Word) → is_byte_order_mark k ≡ false → is_indent k ≡ false → is_eof k ≡ false → is_line_kind None k ≡ false → Out [] (word k x ∷ ws) → ⊥
never_out k x ws m i e l s =
    let n = next_out [] (word k x) ws s in
    outside_no n.at.mode.line n.at.rest k n.line m i e l (out_longest k x ws s).allowed

module _ (expansion : Expansion) where
  not_body : (lines : List (List Piece)) (words rest : List Word) → AreLines expansion lines words rest → Out [] words → ⊥
  not_body [] words rest is s = never_out Dedent is.0 rest refl refl refl refl (subst (Out []) is.1 s)
  not_body ([] ∷ lines) words rest (a, is, inl e) s = not_body lines e.0 rest e.2 (eol_mark [] a e.0 e.1 (subst (Out []) is s))
  not_body ([] ∷ lines) words rest (a, is, inr e) s = e.0 refl
  not_body ((text_piece t ∷ ps) ∷ lines) words rest (a, is, e) s = never_out Text t is.0 refl refl refl refl (subst (Out []) is.1 s)
  not_body ((interpolation f ∷ ps) ∷ lines) words rest (a, is, e) s = never_out InterpolationStart is.3.0 is.0 refl refl refl refl (subst (Out []) is.3.1 s)

-- ---- indentations

-- what an indentation outside bodies says: a body begins, or not
record Indented (line : Line) (r x : List ℕ) (n : ℕ) : Type 0 where
  is : is_indented r ≡ true
  size : n ≡ blank_len r
  leads : (is_out (line_after line None Indent x) ≡ true) ⊎ (line_after line None Indent x ≡ BodyLine (indentation_of x))

start_leads : (may : Bool) (x : List ℕ) → (is_out (start_after may Indent x) ≡ true) ⊎ (start_after may Indent x ≡ BodyLine (indentation_of x))
unfolding start_after
start_leads true x = inr refl
start_leads false x = inl refl

start_indented : (may : Bool) (r : List ℕ) → allows (Start may) None r Indent ≡ true → is_indented r ≡ true
start_indented may r a =
    elim (test (is_indented r)) [
      | inl h ↦ h
      | inr h ↦ elim (test (length r == 0)) [ inl z ↦ (let b = rw (h, z) at a in absurd cc) | inr z ↦ (let b = rw (h, z) at a in absurd cc) ]
    ]

line_not_indented : (r : List ℕ) → allows (Inside false) None r Indent ≡ true → ⊥
line_not_indented r a = elim (test (length r == 0)) [ inl z ↦ (let b = rw z at a in absurd cc) | inr z ↦ (let b = rw z at a in absurd cc) ]

indented_at : (line : Line) (r x : List ℕ) (n : ℕ) → is_out line ≡ true → IsLongestIn line None r Indent n → Indented line r x n
unfolding line_after
indented_at Begin r x n o l =
    elim (test (at_byte_order_mark r)) [
      | inl h ↦ let b = rw h at l.allowed in absurd cc
      | inr h ↦ let a : allows (Start false) None r Indent ≡ true = rw h at l.allowed in record { is = start_indented false r a; size = l.reaches; leads = start_leads false x }
    ]
indented_at (Start may) r x n o l = record { is = start_indented may r l.allowed; size = l.reaches; leads = start_leads may x }
indented_at (Ahead may) r x n o l = absurd (line_not_indented r l.allowed)
indented_at (Inside may) r x n o l = absurd (line_not_indented r l.allowed)
indented_at Over r x n o l = let a = l.allowed in absurd cc
indented_at (BodyStart j) r x n o l = absurd cc
indented_at (BodyLine j) r x n o l = absurd cc

indent_keeps : (x : List ℕ) → open_after [] Indent x ≡ []
unfolding open_after
indent_keeps x = refl

-- ---- whole bodies

unless_kept : (p : Piece) (ps : List Piece) (ys : List (List Piece)) → unless_blank (p ∷ ps) ys ≡ (p ∷ ps) ∷ ys
unless_kept p ps [] = refl
unless_kept p ps (y ∷ ys) = refl

kept_return : (x : List Piece) (ys : List (List Piece)) → list_any has_return (unless_blank x ys) ≡ (has_return x || list_any has_return ys)
kept_return [] [] = refl
kept_return [] (y ∷ ys) = refl
kept_return (p ∷ ps) ys = ap (list_any has_return) (unless_kept p ps ys)

returns_kept : (lines : List (List Piece)) → list_any has_return (without_blank_end lines) ≡ list_any has_return lines
returns_kept [] = refl
returns_kept (x ∷ xs) = kept_return x (without_blank_end xs) ∙ ap (λ t. has_return x || t) (returns_kept xs)

kept_written : (x : List Piece) (ys : List (List Piece)) → is_line_written x ≡ true → list_all is_line_written ys ≡ true → list_all is_line_written (unless_blank x ys) ≡ true
kept_written [] [] w ws = refl
kept_written [] (y ∷ ys) w ws = ws
kept_written (p ∷ ps) ys w ws = ap (list_all is_line_written) (unless_kept p ps ys) ∙ all_so (is_line_written (p ∷ ps)) (list_all is_line_written ys) w ws

lines_kept : (lines : List (List Piece)) → list_all is_line_written lines ≡ true → list_all is_line_written (without_blank_end lines) ≡ true
lines_kept [] w = refl
lines_kept (x ∷ xs) w = let b = and_parts (is_line_written x) (list_all is_line_written xs) w in kept_written x (without_blank_end xs) b.0 (lines_kept xs b.1)

body_kept : (line : List Piece) (lines : List (List Piece)) → are_pieces_written line && shows_first line && list_all is_line_written lines ≡ true → is_body_written (without_blank_end (line ∷ lines)) ≡ true
body_kept [] lines w = absurd (grind (arith, w))
body_kept (p ∷ ps) lines w =
    let b = and_parts (are_pieces_written (p ∷ ps) && shows_first (p ∷ ps)) (list_all is_line_written lines) w in
    ap is_body_written (unless_kept p ps (without_blank_end lines)) ∙ all_so (are_pieces_written (p ∷ ps) && shows_first (p ∷ ps)) (list_all is_line_written (without_blank_end lines)) b.0 (lines_kept lines b.1)

module _ (expansion : Expansion) where
  indented_lines : (i : Indentation) (lines : List (List Piece)) (p : Place) (words rest : List Word) → AreLines expansion lines words rest → p.mode.line ≡ BodyLine i → p.mode.opened ≡ [] → Seen p words → Shown p.rest → list_any has_return lines ≡ false
      → Out [] rest × (is_body_written (without_blank_end lines) ≡ true)
  indented_lines i [] p words rest is l o m shown r = (dedent_in i words rest is (p, l, o, m), refl)
  indented_lines i (line ∷ lines) p words rest is l o m shown r =
      let f = first_in expansion i line lines p words rest is l o m shown r in
      (f.0, body_kept line lines f.1)

  indent_out : (x : List ℕ) (lines : List (List Piece)) (inside rest : List Word) → AreLines expansion lines inside rest → Out [] (word Indent x ∷ inside) → list_any has_return lines ≡ false → Out [] rest × (is_body_written (without_blank_end lines) ≡ true)
  indent_out x lines inside rest is s r =
      let n = next_out [] (word Indent x) inside s in
      let kind : n.token.kind ≡ Indent = ap (λ (v : Word). v.kind) n.is in
      let text : n.token.text ≡ x = ap (λ (v : Word). v.text) n.is in
      let d = indented_at n.at.mode.line n.at.rest x (length x) n.line (out_longest Indent x inside s) in
      let line : (behind n.at n.token).mode.line ≡ line_after n.at.mode.line None Indent x =
      subst (λ (v : Word). line_after n.at.mode.line (innermost n.at.mode.opened) n.token.kind n.token.text ≡ line_after n.at.mode.line (innermost n.at.mode.opened) v.kind v.text) n.is refl ∙ ap (λ os. line_after n.at.mode.line (innermost os) Indent x) n.same in
      let opened : (behind n.at n.token).mode.opened ≡ [] = subst (λ (v : Word). open_after n.at.mode.opened n.token.kind n.token.text ≡ open_after n.at.mode.opened v.kind v.text) n.is refl ∙ ap (λ os. open_after os Indent x) n.same ∙ indent_keeps x in
      let left : (behind n.at n.token).rest ≡ drop (blank_len n.at.rest) n.at.rest = ap (λ t. drop (length t) n.at.rest) text ∙ ap (λ k. drop k n.at.rest) d.size in
      elim d.leads [
        | inl out ↦ absurd (not_body expansion lines inside rest is (behind n.at n.token, rw line out, opened, n.more))
        | inr in' ↦ indented_lines (indentation_of x) lines (behind n.at n.token) inside rest is (line ∙ in') opened n.more (subst Shown (sym left) (shown_after n.at.rest d.is)) r
      ]

  mutual
    unfolding behind_blank behind_comment

    blanks_out : (words : List Word) → Out [] words → Out [] (behind_blank (λ (w : Word). w) words)
    blanks_out [] s = s
    blanks_out (w ∷ ws) s =
        elim (test (is_kind w.kind Eol)) [
          | inl h ↦ rw h (blanks_out ws (eol_mark [] (w ∷ ws) ws (w.text, ap (λ k. record { kind = k; text = w.text } ∷ ws) (is_kind-same w.kind Eol h)) s))
          | inr h ↦ elim (test (is_kind w.kind Comment)) [
            | inl g ↦ rw (h, g) (comment_out w ws (is_kind-same w.kind Comment g) s)
            | inr g ↦ rw (h, g) s
          ]
        ]

    comment_out : (w : Word) (ws : List Word) → w.kind ≡ Comment → Out [] (w ∷ ws) → Out [] (behind_comment (λ (w : Word). w) w ws)
    comment_out w [] c s = s
    comment_out w (v ∷ vs) c s =
        elim (test (is_kind v.kind Eol)) [
          | inl h ↦
              let after : Out [] (v ∷ vs) = passed [] Comment (w ∷ v ∷ vs) (v ∷ vs) refl (w.text, ap (λ k. record { kind = k; text = w.text } ∷ v ∷ vs) c) s in
              rw h (blanks_out vs (eol_mark [] (v ∷ vs) vs (v.text, ap (λ k. record { kind = k; text = v.text } ∷ vs) (is_kind-same v.kind Eol h)) after))
          | inr h ↦ rw h s
        ]

  pub body_out : (body : List (List Piece)) (blanks : ℕ) (words rest : List Word) → IsBody expansion body blanks words rest → Out [] words → list_any has_return body ≡ false → Out [] rest × (is_body_written body ≡ true)
  body_out body blanks words rest (inl i) s r =
      let opened : Out [] (word Indent i.opens.0 ∷ i.inside) = subst (Out []) i.opens.1 (blanks_out words s) in
      let none : list_any has_return i.lines ≡ false = sym (returns_kept i.lines) ∙ ap (list_any has_return) (sym i.kept) ∙ r in
      let f = indent_out i.opens.0 i.lines i.inside rest i.stand opened none in
      (f.0, ap is_body_written i.kept ∙ f.1)
  body_out body blanks words rest (inr i) s r = (subst (Out []) i.2 s, rw i.0 refl)
