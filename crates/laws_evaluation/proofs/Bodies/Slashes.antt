-- The text of a line that goes on ends with a backslash.
use Rattle.std.proofs.Common.{◌≡◌, ℕ, zero, suc, ◌-◌, ◌==◌, ◌≤◌, Bool, true, false, ◌&&◌, List, [], ◌∷◌, ◌++◌, map, length, append_assoc, Option, Some, Ok, codes, refl, sym, ap, ◌∙◌, subst, arith}
use Rattle.std.specs.Prelude.{slice_get}
use Rattle.std.specs.Char.{is_whitespace}
use Rattle.std.specs.Str.{IsUtf8, trim_start, chars, encode_utf8_all, skip_leading_whitespace}
use Rattle.std.proofs.Math.Seq.{take-append_seam}
use Rattle.std.proofs.lemmas.Str.{IsCharBoundary-at_seam, IsUtf8-take, chars-append, encodes-append}
use Rattle.std.proofs.lemmas.Bool.{eqb-true}
use Rattle.just_host.specs.declared.entry.Entry.{Entry}
use Rattle.tree_items.specs.Lines.{Piece, text, interpolation, is_byte, is_continuation}
use Rattle.tree_expressions.specs.Cutting.{begins}
use Rattle.tree_expressions.specs.Parts.{halved_behind, halved}
use Rattle.parse_expressions.specs.Literals.{Expansion}
use Rattle.meaning_dialogues.specs.Written.{numbered}
use Rattle.meaning_dialogues.specs.Dialogue.{Evaluates, Reading}
use Rattle.meaning_dialogues.specs.Evaluation.{Stage}
use Rattle.meaning_evaluation.specs.Stages.Lines.{line_dialogue, piece_dialogue, piece_text}
use Rattle.meaning_evaluation.specs.Stages.Parameters.{Bound}
use Rattle.meaning_evaluation.specs.Named.{RecipeRow}
use Rattle.meaning_evaluation.specs.Scopes.{Configuration, Scene, piece_in, parameter_names, body_stage, frame_of}
use Rattle.meaning_evaluation.specs.Bodies.{last_of, goes_on_below, line_text}
use Rattle.laws_evaluation.specs.Bodies.Marked.{EndsSlashed, Gives}
use Rattle.laws_evaluation.proofs.Bodies.Marks.{both}
use Rattle.laws_evaluation.proofs.Bodies.Texts.{gives_any, gives_then, goes_gives, gives_under}

-- ---- four braces as two

four_long : (byte : ℕ) (front : List ℕ) → begins (byte ∷ (front ++ 92 ∷ [])) (codes "{{{{") ≡ true → 3 ≤ length front
four_long byte [] e = let f : false ≡ true = (both (123 == byte) false e).1 in absurd (cc f)
four_long byte (a ∷ []) e = let f : false ≡ true = (both (123 == a) false (both (123 == byte) ((123 == a) && false) e).1).1 in absurd (cc f)
four_long byte (a ∷ b ∷ []) e =
    let f : false ≡ true = (both (123 == b) false (both (123 == a) ((123 == b) && false) (both (123 == byte) ((123 == a) && ((123 == b) && false)) e).1).1).1 in
    absurd (cc f)
four_long byte (a ∷ b ∷ c ∷ front) e = omega arith

-- the last byte of two texts is that of the second
pub slashed_before : (first : List ℕ) (all : List ℕ) → EndsSlashed all → EndsSlashed (first ++ all)
slashed_before first all h = record { front = first ++ h.front; is = ap (λ l. first ++ l) h.is ∙ sym (append_assoc first h.front (92 ∷ [])) }

halved_slashed : (n : ℕ) (front : List ℕ) → n ≤ length front → EndsSlashed (halved_behind n (front ++ 92 ∷ []))
unfolding halved_behind
halved_slashed zero [] le = record { front = []; is = refl }
halved_slashed zero (b ∷ front) le = elim (begins (b ∷ (front ++ 92 ∷ [])) (codes "{{{{")) as (λ v. begins (b ∷ (front ++ 92 ∷ [])) (codes "{{{{") ≡ v → EndsSlashed (halved_behind 0 (b ∷ (front ++ 92 ∷ [])))) [
  | true ↦ λ e. rw e (slashed_before (123 ∷ 123 ∷ []) _ (halved_slashed 3 front (four_long b front e)))
  | false ↦ λ e. rw e (slashed_before (b ∷ []) _ (halved_slashed 0 front (omega arith)))
] refl
halved_slashed (suc n) [] le = absurd (omega (arith, le))
halved_slashed (suc n) (b ∷ front) le = halved_slashed n front (omega (arith, le))

-- ---- a text without its leading white space

skipped_slashed : (cs : List ℕ) → EndsSlashed (skip_leading_whitespace (cs ++ 92 ∷ []))
skipped_slashed [] = record { front = []; is = refl }
skipped_slashed (c ∷ cs) = elim (is_whitespace c) as (λ v. is_whitespace c ≡ v → EndsSlashed (skip_leading_whitespace (c ∷ (cs ++ 92 ∷ [])))) [
  | true ↦ λ e. rw e (skipped_slashed cs)
  | false ↦ λ e. rw e (record { front = c ∷ cs; is = refl })
] refl

front_utf8 : (front : List ℕ) → IsUtf8 (front ++ 92 ∷ []) → IsUtf8 front
unfolding lib.Utf8.encode
front_utf8 front u = subst IsUtf8 (take-append_seam front (92 ∷ [])) (IsUtf8-take (front ++ 92 ∷ []) (length front) u (IsCharBoundary-at_seam (front ++ 92 ∷ []) front (92 ∷ []) refl (92 ∷ [], (refl, refl))))

trimmed_slashed : (front : List ℕ) → IsUtf8 (front ++ 92 ∷ []) → EndsSlashed (trim_start (front ++ 92 ∷ []))
unfolding trim_start chars lib.Utf8.encode
trimmed_slashed front u =
    let s = skipped_slashed (chars front) in
    let e : skip_leading_whitespace (chars (front ++ 92 ∷ [])) ≡ s.front ++ 92 ∷ [] = ap skip_leading_whitespace (chars-append front (92 ∷ []) (front_utf8 front u)) ∙ s.is in
    record { front = encode_utf8_all s.front; is = ap encode_utf8_all e ∙ encodes-append s.front (92 ∷ []) }

-- ---- a line

one_less : {A : Type 0} (as' : List A) → suc (suc (length as')) - 1 ≡ suc (suc (length as') - 1)
one_less as' = omega arith

last_slashed : (t : List ℕ) → is_byte 92 (slice_get t (length t - 1)) ≡ true → EndsSlashed t
last_slashed [] e = absurd (cc e)
last_slashed (b ∷ []) e = record { front = []; is = ap (λ x. x ∷ []) (eqb-true b 92 e) }
last_slashed (a ∷ b ∷ bs) e = slashed_before (a ∷ []) (b ∷ bs) (last_slashed (b ∷ bs) (subst (λ k. is_byte 92 (slice_get (a ∷ b ∷ bs) k) ≡ true) (one_less bs) e))

halved_ends : (t : List ℕ) → EndsSlashed t → EndsSlashed (halved t)
halved_ends t h = subst (λ l. EndsSlashed (halved l)) (sym h.is) (halved_slashed 0 h.front (omega arith))

text_slashed : (goes_on : Bool) (t : List ℕ) → IsUtf8 t → EndsSlashed t → EndsSlashed (piece_text goes_on t)
text_slashed false t u h = halved_ends t h
text_slashed true t u h = halved_ends (trim_start t) (subst (λ l. EndsSlashed (trim_start l)) (sym h.is) (trimmed_slashed h.front (subst IsUtf8 h.is u)))

last_below : (x y : Piece) (line : List Piece) → last_of (x ∷ y ∷ line) ≡ last_of (y ∷ line)
last_below x y line = ap (slice_get (x ∷ y ∷ line)) (one_less line)

module _ (expansion : Expansion) (file : List ℕ) (numbers : List ℕ → Option ℕ) (stage : Stage) where
  -- the text of a line that goes on ends with a backslash, where its last part is text at all
  pub line_slashed : (goes_on : Bool) (so_far : List ℕ) (line : List Piece) → goes_on_below line ≡ true → ((t : List ℕ) → last_of line ≡ Some (text t) → IsUtf8 t) → Gives EndsSlashed (line_dialogue stage goes_on so_far (map (piece_in expansion file numbers) line))
  line_slashed goes_on so_far [] e u = absurd (cc e)
  line_slashed goes_on so_far (text t ∷ []) e u = slashed_before so_far (piece_text goes_on t) (text_slashed goes_on t (u t refl) (last_slashed t e))
  line_slashed goes_on so_far (interpolation i ∷ []) e u = absurd (cc e)
  line_slashed goes_on so_far (x ∷ y ∷ line) e u =
      gives_then (λ t. Unit {0}) EndsSlashed (piece_dialogue stage goes_on (piece_in expansion file numbers x)) (λ more. line_dialogue stage false (so_far ++ more) (map (piece_in expansion file numbers) (y ∷ line))) (gives_any (piece_dialogue stage goes_on (piece_in expansion file numbers x)))
      (λ more done. line_slashed false (so_far ++ more) (y ∷ line) (subst (λ o. is_continuation o ≡ true) (last_below x y line) e) (λ t i. u t (last_below x y line ∙ i)))

-- the text of a line that goes on ends with a backslash
pub open_slashed : (c : Configuration) (scene : Scene) (name : List ℕ) (recipe : RecipeRow) (flag : Bool) (bound : Bound) (reading : Reading) (continued : Bool) (line : List Piece) (old new : List Entry) (all : List ℕ)
    → goes_on_below line ≡ true → ((t : List ℕ) → last_of line ≡ Some (text t) → IsUtf8 t) → Evaluates reading (line_text c scene name recipe flag bound continued line) old new (Ok all) → EndsSlashed all
open_slashed c scene name recipe flag bound reading continued line old new all e u h =
    goes_gives reading EndsSlashed (line_text c scene name recipe flag bound continued line) old new all
    (gives_under EndsSlashed (frame_of c scene name recipe flag bound) (line_dialogue (body_stage c scene name recipe flag bound) continued [] (map (piece_in c.expansion recipe.file (numbered (parameter_names recipe))) line))
    (line_slashed c.expansion recipe.file (numbered (parameter_names recipe)) (body_stage c scene name recipe flag bound) continued [] line e u))
    (h.goes (λ q. cc))
