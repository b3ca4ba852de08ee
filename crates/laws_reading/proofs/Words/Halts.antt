-- Tokens that say the same halt alike.
use Rattle.std.proofs.Common.{◌≡◌, ℕ, zero, suc, ◌-◌, Option, Some, None, Result, Ok, Err, List, [], ◌∷◌, length, refl, sym, ap, ◌∙◌, inl, inr}
use Rattle.std.specs.Prelude.{filter, slice_get}
use Rattle.std.specs.Option.{option_map}
use Rattle.just_text.specs.Tokens.{word_of}
use Rattle.just_text.specs.declared.compile_error.CompileErrorKind.{CompileErrorKind}
use Rattle.just_text.specs.declared.compile_error.CompileErrorKind.TheVariants.{UnexpectedToken}
use Rattle.just_text.specs.declared.token.Token.{Token}
use Rattle.just_lexer.specs.Lexes.{Piece, piece, pieces, piece_word}
use Rattle.parse_expressions.specs.Words.{is_significant}
use Rattle.parse_expressions.specs.Reading.{Stop, unexpected, refused, shown}
use Rattle.parse_expressions.proofs.Taken.{test}
use Rattle.parse_attributed_items.specs.Halting.{Halt, stopped, broken}
use Rattle.justfile_syntax.specs.Files.{Entry}
use Rattle.justfile_syntax.specs.Parsed.{HaltsBy, IsHalt, IsTooFew, last_token}
use Rattle.justfile_syntax.specs.Reading.{file_at}
use Rattle.laws_reading.specs.Words.Mapped.{map_result, map_halt}
use Rattle.laws_reading.specs.Words.Laws.{HaltsAlike}
use Rattle.laws_reading.proofs.Words.Files.{file_goes}

abbrev shown_pieces : List Piece → List Piece
shown_pieces ps = filter (λ p. is_significant (piece_word p)) ps

shown_there : (ts : List Token) → pieces (shown ts) ≡ shown_pieces (pieces ts)
shown_there [] = refl
shown_there (t ∷ ts) =
    elim (test (is_significant (word_of t))) [
      | inl h ↦ let e = shown_there ts in rw (h, e) refl
      | inr h ↦ let e = shown_there ts in rw (h, e) refl
    ]

last_there : (ts : List Token) (n : ℕ) → slice_get (pieces ts) n ≡ option_map piece (slice_get ts n)
last_there [] n = refl
last_there (t ∷ ts) zero = refl
last_there (t ∷ ts) (suc n) = last_there ts n

pieces_length : (ts : List Token) → length (pieces ts) ≡ length ts
pieces_length [] = refl
pieces_length (t ∷ ts) = ap suc (pieces_length ts)

last_pieces : (ts us : List Token) → pieces ts ≡ pieces us → option_map piece (last_token ts) ≡ option_map piece (last_token us)
last_pieces ts us e =
    let n : length ts ≡ length us = sym (pieces_length ts) ∙ ap length e ∙ pieces_length us in
    sym (last_there ts (length ts - 1)) ∙ ap (λ ps. slice_get ps (length ts - 1)) e ∙ last_there us (length ts - 1) ∙ ap (λ k. option_map piece (slice_get us (k - 1))) n

few_alike : (a b : Option Token) → option_map piece a ≡ option_map piece b → (token : Token) (kind : CompileErrorKind) → IsTooFew a token kind → (other : Token) × IsTooFew b other kind
few_alike None None e token kind h = (token, h)
few_alike None (Some b) e token kind h = absurd cc
few_alike (Some a) None e token kind h = absurd cc
few_alike (Some a) (Some b) e token kind h = (b, (refl, h.1 ∙ (let same : piece a ≡ piece b = cc in ap (λ (p : Piece). UnexpectedToken p.kind) same)))

module _ (ts us : List Token) (same : pieces ts ≡ pieces us) (token : Token) (kind : CompileErrorKind) where
  stop_alike : (a b : Stop Token) → ◌≡◌ {A = Halt Piece} (map_halt piece (stopped a)) (map_halt piece (stopped b)) → IsHalt ts (stopped a) token kind → (other : Token) × IsHalt us (stopped b) other kind
  stop_alike (unexpected None) (unexpected None) e h = few_alike (last_token ts) (last_token us) (last_pieces ts us same) token kind h
  stop_alike (unexpected (Some a)) (unexpected (Some b)) e h = (b, (refl, h.1 ∙ (let p : piece a ≡ piece b = cc in ap (λ (x : Piece). UnexpectedToken x.kind) p)))
  stop_alike (refused a k) (refused b l) e h = (b, (refl, h.1 ∙ (let p : k ≡ l = cc in p)))
  stop_alike (unexpected None) (unexpected (Some b)) e h = absurd cc
  stop_alike (unexpected (Some a)) (unexpected None) e h = absurd cc
  stop_alike (unexpected None) (refused b l) e h = absurd cc
  stop_alike (unexpected (Some a)) (refused b l) e h = absurd cc
  stop_alike (refused a k) (unexpected None) e h = absurd cc
  stop_alike (refused a k) (unexpected (Some b)) e h = absurd cc

  halt_alike : (a b : Halt Token) → map_halt piece a ≡ map_halt piece b → IsHalt ts a token kind → (other : Token) × IsHalt us b other kind
  halt_alike (stopped a) (stopped b) e h = stop_alike a b e h
  halt_alike (broken k) (broken l) e h = (token, h ∙ (let p : k ≡ l = cc in p))
  halt_alike (stopped (unexpected None)) (broken l) e h = absurd cc
  halt_alike (stopped (unexpected (Some a))) (broken l) e h = absurd cc
  halt_alike (stopped (refused a k)) (broken l) e h = absurd cc
  halt_alike (broken k) (stopped (unexpected None)) e h = absurd cc
  halt_alike (broken k) (stopped (unexpected (Some b))) e h = absurd cc
  halt_alike (broken k) (stopped (refused b l)) e h = absurd cc

  abbrev As : Result (List Entry) (Halt Token) → Result (List Entry) (Halt Piece)
  As read = map_result (map_halt piece) (λ es. es) read

  reads_alike : (a b : Result (List Entry) (Halt Token)) → As a ≡ As b → HaltsBy ts a token kind → (other : Token) × HaltsBy us b other kind
  reads_alike (Ok es) b e h = absurd h
  reads_alike (Err x) (Ok es) e h = absurd cc
  reads_alike (Err x) (Err y) e h = halt_alike x y (let p : map_halt piece x ≡ map_halt piece y = cc in p) h

pub halts_alike : HaltsAlike
halts_alike expansion version ts us same token kind h =
    let shown_same : pieces (shown ts) ≡ pieces (shown us) = shown_there ts ∙ ap shown_pieces same ∙ sym (shown_there us) in
    reads_alike ts us same token kind (file_at word_of expansion version (shown ts)) (file_at word_of expansion version (shown us))
    ((file_goes piece piece_word expansion version (shown ts)).is ∙ ap (file_at piece_word expansion version) shown_same ∙ sym (file_goes piece piece_word expansion version (shown us)).is)
    h
