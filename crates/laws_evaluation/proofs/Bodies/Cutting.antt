-- The text of a command may be cut after its marks, and before its last backslash.
use Rattle.std.proofs.Common.{◌≡◌, ℕ, zero, suc, ◌+◌, ◌-◌, ◌==◌, ◌<◌, ◌≤◌, Bool, true, false, ◌||◌, List, [], ◌∷◌, ◌++◌, map, length, take, get_or, length-append, Ok, refl, sym, ap, ◌∙◌, subst, arith, add-one}
use Rattle.std.specs.Str.{IsUtf8, IsCharBoundary}
use Rattle.std.proofs.Math.Seq.{take-append_seam}
use Rattle.std.proofs.lemmas.Str.{IsCharBoundary-start, IsCharBoundary-after_ascii}
use Rattle.std.proofs.lemmas.Bool.{eqb-true}
use Rattle.just_host.specs.declared.entry.Entry.{Entry}
use Rattle.tree_items.specs.Lines.{Piece, sigil_count}
use Rattle.meaning_dialogues.specs.Written.{numbered}
use Rattle.meaning_dialogues.specs.Dialogue.{Evaluates, Reading}
use Rattle.meaning_evaluation.specs.Stages.Lines.{line_dialogue}
use Rattle.meaning_evaluation.specs.Stages.Parameters.{Bound}
use Rattle.meaning_evaluation.specs.Named.{RecipeRow}
use Rattle.meaning_evaluation.specs.Scopes.{Configuration, Scene, piece_in, parameter_names, body_stage, frame_of}
use Rattle.meaning_evaluation.specs.Bodies.{without_last, line_text, marks_of}
use Rattle.laws_evaluation.specs.Bodies.Marked.{is_mark, AreMarks, BeginsMarked, EndsSlashed}
use Rattle.laws_evaluation.proofs.Bodies.Texts.{goes_gives, gives_under, line_marked}

-- the text of a line that begins a command begins with its marks
pub first_marked : (c : Configuration) (scene : Scene) (name : List ℕ) (recipe : RecipeRow) (flag : Bool) (bound : Bound) (reading : Reading) (line : List Piece) (old new : List Entry) (text : List ℕ)
    → Evaluates reading (line_text c scene name recipe flag bound false line) old new (Ok text) → BeginsMarked (sigil_count (marks_of c scene name recipe flag bound (line ∷ []))) text
first_marked c scene name recipe flag bound reading line old new text h =
    goes_gives reading (BeginsMarked (sigil_count (marks_of c scene name recipe flag bound (line ∷ [])))) (line_text c scene name recipe flag bound false line) old new text
    (gives_under (BeginsMarked (sigil_count (marks_of c scene name recipe flag bound (line ∷ [])))) (frame_of c scene name recipe flag bound) (line_dialogue (body_stage c scene name recipe flag bound) false [] (map (piece_in c.expansion recipe.file (numbered (parameter_names recipe))) line))
    (line_marked c.expansion recipe.file (numbered (parameter_names recipe)) (body_stage c scene name recipe flag bound) scene.row.guards line))
    (h.goes (λ q. cc))

-- ---- the last byte

-- without its last byte a text is what stands before it
pub without_seam : (front : List ℕ) (byte : ℕ) → without_last (front ++ byte ∷ []) ≡ front
without_seam front byte =
    let n : length (front ++ byte ∷ []) ≡ length front + 1 = length-append front (byte ∷ []) in
    let m : length (front ++ byte ∷ []) - 1 ≡ length front = omega (arith, n) in
    ap (λ k. take k (front ++ byte ∷ [])) m ∙ take-append_seam front (byte ∷ [])

no_mark : (byte : ℕ) → is_mark byte ≡ true → byte ≡ 92 → ⊥
no_mark byte e b = let f : is_mark 92 ≡ true = subst (λ x. is_mark x ≡ true) b e in absurd (cc f)

marks_before : (marks rest front : List ℕ) → AreMarks marks → marks ++ rest ≡ front ++ 92 ∷ [] → (more : List ℕ) × (front ≡ marks ++ more)
marks_before [] rest front are e = (front, refl)
marks_before (m ∷ ms) rest [] are e = let b : m ≡ 92 = cc in absurd (no_mark m are.0 b)
marks_before (m ∷ ms) rest (f ∷ front) are e =
    let b : m ≡ f = cc in
    let t : ms ++ rest ≡ front ++ 92 ∷ [] = cc in
    let r = marks_before ms rest front are.1 t in
    (r.0, ap (λ l. f ∷ l) r.1 ∙ ap (λ x. x ∷ (ms ++ r.0)) (sym b))

-- a text that ends with a backslash begins with the same marks without it
pub marked_less : (count : ℕ) (text : List ℕ) → BeginsMarked count text → EndsSlashed text → BeginsMarked count (without_last text)
marked_less count text h s =
    let r = marks_before h.marks h.rest s.front h.are (sym h.is ∙ s.is) in
    record {
      marks = h.marks;
      rest = r.0;
      is = ap without_last s.is ∙ (without_seam s.front 92 ∙ r.1);
      long = h.long;
      are = h.are;
    }

-- ---- the marks

mark_small : (byte : ℕ) → is_mark byte ≡ true → byte < 128
mark_small byte e = elim (byte == 64) as (λ b. (byte == 64) ≡ b → byte < 128) [
  | true ↦ λ f. let b : byte ≡ 64 = eqb-true byte 64 f in omega (arith, b)
  | false ↦ λ f. elim (byte == 45) as (λ b. (byte == 45) ≡ b → byte < 128) [
    | true ↦ λ g. let b : byte ≡ 45 = eqb-true byte 45 g in omega (arith, b)
    | false ↦ λ g.
        let m : (byte == 63) ≡ true = sym (ap (λ x. x || ((byte == 45) || (byte == 63))) f ∙ ap (λ x. x || (byte == 63)) g) ∙ e in
        let b : byte ≡ 63 = eqb-true byte 63 m in omega (arith, b)
  ] refl
] refl

mark_at : (marks rest : List ℕ) (i : ℕ) → AreMarks marks → length marks ≡ suc i → get_or (marks ++ rest) i 0 < 128
mark_at [] rest i are e = absurd (cc e)
mark_at (m ∷ ms) rest zero are e = mark_small m are.0
mark_at (m ∷ ms) rest (suc i) are e = let n : length ms ≡ suc i = cc in mark_at ms rest i are.1 n

-- a text may be cut after its marks
pub marked_cut : (count : ℕ) (text : List ℕ) → BeginsMarked count text → IsUtf8 text → (count ≤ length text) × IsCharBoundary text count
marked_cut count text h u =
    let n : length text ≡ length h.marks + length h.rest = ap length h.is ∙ length-append h.marks h.rest in
    let within : count ≤ length text = omega (arith, n, h.long) in
    (within, at_count count refl within)
  where
    at_count : (k : ℕ) → count ≡ k → k ≤ length text → IsCharBoundary text k
    at_count zero e le = IsCharBoundary-start text u
    at_count (suc i) e le =
        let small : get_or text i 0 < 128 = rw h.is (mark_at h.marks h.rest i h.are (h.long ∙ e)) in
        subst (IsCharBoundary text) (add-one i) (IsCharBoundary-after_ascii text i u (omega (arith, le)) small)
