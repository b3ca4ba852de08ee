-- A line that is put to a command: its text, which still begins with the command's marks.
use Rattle.std.proofs.Common.{◌≡◌, ℕ, Bool, true, false, List, [], ◌∷◌, ◌++◌, append_assoc, Some, Ok, refl, sym, ap, ◌∙◌}
use Rattle.std.specs.Str.{IsUtf8}
use Rattle.std.proofs.Math.Utf8.{encode}
use Rattle.just_host.specs.declared.entry.Entry.{Entry}
use Rattle.tree_items.specs.Lines.{Piece, text, sigil_count}
use Rattle.tree_items.specs.declared.line.Sigils.{Sigils}
use Rattle.meaning_dialogues.specs.Dialogue.{Evaluates, Reading}
use Rattle.meaning_evaluation.specs.Stages.Parameters.{Bound}
use Rattle.meaning_evaluation.specs.Named.{RecipeRow}
use Rattle.meaning_evaluation.specs.Scopes.{Configuration, Scene}
use Rattle.meaning_evaluation.specs.Bodies.{last_of, goes_on_below, without_last, line_text, marks_of}
use Rattle.laws_evaluation.specs.Bodies.Left.{added, marks_with, text_with}
use Rattle.laws_evaluation.specs.Bodies.Marked.{BeginsMarked, EndsSlashed}
use Rattle.laws_evaluation.proofs.Bodies.Marks.{marked_longer}
use Rattle.laws_evaluation.proofs.Bodies.Cutting.{first_marked, marked_less, without_seam}
use Rattle.laws_evaluation.proofs.Bodies.Slashes.{slashed_before, open_slashed}
use Rattle.laws_evaluation.proofs.Bodies.Popped.{slash_popped}

-- of two texts the second alone loses its last byte
less_joined : (first second : List ℕ) → EndsSlashed second → without_last (first ++ second) ≡ first ++ without_last second
less_joined first second h =
    ap without_last (ap (λ l. first ++ l) h.is ∙ sym (append_assoc first h.front (92 ∷ []))) ∙ (without_seam (first ++ h.front) 92
    ∙ ap (λ l. first ++ l) (sym (without_seam h.front 92) ∙ ap without_last (sym h.is)))

-- a line that goes on is put to a text without its last character
pub put_open : (first second new : List ℕ) (c : ℕ) (line : List Piece) → EndsSlashed second → goes_on_below line ≡ true → first ++ second ≡ new ++ encode c → new ≡ first ++ added line second
put_open first second new c line h e is = rw e (slash_popped (first ++ second) new c (slashed_before first second h) is ∙ less_joined first second h)

-- a line that ends its command is put to a text as it is
pub put_closed : (first second : List ℕ) (line : List Piece) → goes_on_below line ≡ false → first ++ second ≡ first ++ added line second
put_closed first second line e = rw e refl

module _ (c : Configuration) (scene : Scene) (name : List ℕ) (recipe : RecipeRow) (flag : Bool) (bound : Bound) (reading : Reading) where
  -- the text of a command with this line begins with the command's marks
  pub put_marked : (inside : Bool) (sigils : Sigils) (so_far : List ℕ) (line : List Piece) (old new : List Entry) (all : List ℕ) → (inside ≡ true → BeginsMarked (sigil_count sigils) so_far)
      → ((t : List ℕ) → last_of line ≡ Some (text t) → IsUtf8 t) → Evaluates reading (line_text c scene name recipe flag bound inside line) old new (Ok all)
      → BeginsMarked (sigil_count (marks_with c scene name recipe flag bound inside sigils line)) (text_with c scene name recipe flag bound inside so_far line all)
  put_marked true sigils so_far line old new all before u h = marked_longer (sigil_count sigils) so_far (added line all) (before refl)
  put_marked false sigils so_far line old new all before u h =
      let first = first_marked c scene name recipe flag bound reading line old new all h in
      let count : ℕ = sigil_count (marks_of c scene name recipe flag bound (line ∷ [])) in
      elim (goes_on_below line) as (λ b. goes_on_below line ≡ b → BeginsMarked count (added line all)) [
        | true ↦ λ e. rw e (marked_less count all first (open_slashed c scene name recipe flag bound reading false line old new all e u h))
        | false ↦ λ e. rw e first
      ] refl
