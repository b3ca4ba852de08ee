-- Words that lead from one mode to another compose, and from the start to the end they are the tokens.
use Rattle.std.proofs.Common.{◌≡◌, ℕ, List, [], ◌∷◌, ◌++◌, refl, sym, ap, ◌∙◌, subst}
use Rattle.std.proofs.Math.Seq.{drop-append_seam}
use Rattle.std.proofs.lemmas.List.{append_assoc}
use Rattle.std.proofs.lemmas.List.Sums.{fold-append}
use Rattle.std.specs.List.{fold}
use Rattle.just_text.specs.Tokens.{Word}
use Rattle.just_lexer.specs.declared.position.Position.{Position}
use Rattle.just_lexer.specs.Modes.{Mode, is_over, moved}
use Rattle.just_lexer.specs.Lexes.{Piece, Place, start, behind, AllTokens}
use Rattle.justfile_syntax.specs.Words.{joined, placed, behind_word, AllStand, JoinsUp, ComesApart, LexesBack}

abbrev at_place : Mode → Position → List ℕ → Place
at_place m at rest = record { mode = m; at = at; rest = rest }

abbrev piece_at : Position → Word → Piece
piece_at at w = record { kind = w.kind; text = w.text; at = at }

one_behind : (m : Mode) (at : Position) (w : Word) (rest : List ℕ) → behind (at_place m at (w.text ++ rest)) (piece_at at w) ≡ at_place (behind_word m w) (moved at w.kind w.text) rest
one_behind m at w rest = rw (drop-append_seam w.text rest) refl

tokens_back : (m : Mode) (at : Position) (ws : List Word) (rest : List ℕ) → AllStand m ws rest → AllTokens (at_place m at (joined ws rest)) (placed at ws)
tokens_back m at [] rest h = tt
tokens_back m at (w ∷ ws) rest h = (
  record { at = refl; front = ap (λ (r : List ℕ). w.text ++ r) (sym (drop-append_seam w.text (joined ws rest))); longest = h.0 },
  subst (λ p. AllTokens p (placed (moved at w.kind w.text) ws)) (sym (one_behind m at w (joined ws rest))) (tokens_back (behind_word m w) (moved at w.kind w.text) ws rest h.1),
)

mode_at_end : (m : Mode) (at : Position) (ws : List Word) (rest : List ℕ) → (fold behind (at_place m at (joined ws rest)) (placed at ws)).mode ≡ fold behind_word m ws
mode_at_end m at [] rest = refl
mode_at_end m at (w ∷ ws) rest =
    ap (λ p. (fold behind p (placed (moved at w.kind w.text) ws)).mode) (one_behind m at w (joined ws rest)) ∙ mode_at_end (behind_word m w) (moved at w.kind w.text) ws rest

pub lexes_back : LexesBack
lexes_back ws to l over = record {
  each = tokens_back (start []).mode (start []).at ws [] l.each;
  whole = ap (λ (m : Mode). is_over m.line) (mode_at_end (start []).mode (start []).at ws [] ∙ l.goes) ∙ over;
}

pub joined_rest : (ws : List Word) (rest : List ℕ) → joined ws rest ≡ joined ws [] ++ rest
joined_rest [] rest = refl
joined_rest (w ∷ ws) rest = ap (λ r. w.text ++ r) (joined_rest ws rest) ∙ sym (append_assoc w.text (joined ws []) rest)

pub joined_append : (ws vs : List Word) (rest : List ℕ) → joined (ws ++ vs) rest ≡ joined ws (joined vs rest)
joined_append [] vs rest = refl
joined_append (w ∷ ws) vs rest = ap (λ r. w.text ++ r) (joined_append ws vs rest)

stand_append : (m : Mode) (ws vs : List Word) (rest : List ℕ) → AllStand m ws (joined vs rest) → AllStand (fold behind_word m ws) vs rest → AllStand m (ws ++ vs) rest
stand_append m [] vs rest a b = b
stand_append m (w ∷ ws) vs rest a b = (rw (joined_append ws vs rest) a.0, stand_append (behind_word m w) ws vs rest a.1 b)

pub joins_up : JoinsUp
joins_up from between to ws vs rest a b = record {
  each = stand_append from ws vs rest a.each (subst (λ m. AllStand m vs rest) (sym a.goes) b.each);
  goes = fold-append behind_word from ws vs ∙ ap (λ m. fold behind_word m vs) a.goes ∙ b.goes;
}

stand_before : (m : Mode) (ws vs : List Word) (rest : List ℕ) → AllStand m (ws ++ vs) rest → AllStand m ws (joined vs rest) × AllStand (fold behind_word m ws) vs rest
stand_before m [] vs rest h = (tt, h)
stand_before m (w ∷ ws) vs rest h =
    let more = stand_before (behind_word m w) ws vs rest h.1 in
    ((rw (joined_append ws vs rest) at h.0, more.0), more.1)

pub comes_apart : ComesApart
comes_apart from to ws vs rest l =
    let parts = stand_before from ws vs rest l.each in
    record {
      between = fold behind_word from ws;
      before = record { each = parts.0; goes = refl };
      behind = record { each = parts.1; goes = sym (fold-append behind_word from ws vs) ∙ l.goes };
    }
