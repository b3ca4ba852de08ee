-- Lines of bodies as they are held, and as they are said.
use Rattle.std.proofs.lemmas.Bool.{false≢true}
use Rattle.std.proofs.Common.{◌≡◌, ◌==◌, ◌∙◌, ◌<◌, ◌≤◌, ◌-◌, ◌+◌, inl, inr, ℕ, zero, suc, Bool, true, false, ◌&&◌, List, [], ◌∷◌, map, length, get_or, Some, sym, ap, subst, refl, arith}
use Rattle.std.specs.Prelude.{◌≢◌, slice_get, option_map}
use Rattle.std.proofs.lemmas.List.{length-map}
use Rattle.std.proofs.lemmas.Option.{same_Some, slice_get-map, slice_get_read, slice_get_within}
use Rattle.std.proofs.lemmas.Bool.Decides.{eqb_tells}
use Rattle.just_text.specs.declared.compile_error.CompileErrorKind.{CompileErrorKind}
use Rattle.just_text.specs.declared.compile_error.CompileErrorKind.TheVariants.{ExtraLeadingWhitespace, GuardAndInfallible}
use Rattle.tree_items.specs.declared.line.Line.{Line}
use Rattle.tree_items.specs.Lines.{Piece, begins_with_space, is_shebang, first_piece, is_continuation, last_piece, piece_of, pieces_of, sigils_of}
use Rattle.tree_items.specs.Recipes.{body_shape}
use Rattle.meaning_rules.specs.Rules.{begins_shebang, first_of, last_of, syntax}
use Rattle.just_modules.specs.ItemRules.{BreaksLine, space, marks, BreaksPlace, both_marks, continues, goes_on}
use Rattle.just_modules.proofs.Outcomes.{and_true, not_both, not_true}

first_is : (line : Line) → first_piece line ≡ first_of (pieces_of line)
first_is line = sym (slice_get-map piece_of line.fragments.items 0)

last_is : (line : Line) → last_piece line ≡ last_of (pieces_of line)
last_is line =
    let fs = line.fragments.items in
    sym (slice_get-map piece_of fs (length fs - 1)) ∙ ap (λ n. slice_get (map piece_of fs) (n - 1)) (sym (length-map fs piece_of))

at_place : (body : List Line) (place : ℕ) (line : Line) → place < length body → line ≡ get_or body place line → slice_get (body_shape body) place ≡ Some (pieces_of line)
at_place body place line lt is = slice_get-map pieces_of body place ∙ ap (option_map pieces_of) (slice_get_read body (length body) place line refl lt is)

pub goes_on_behind : (body : List Line) (place : ℕ) (before : Line) → (place ≡ 0 → ⊥) → place < length body → before ≡ get_or body (place - 1) before → is_continuation (last_piece before) ≡ goes_on (body_shape body) place
goes_on_behind body zero before ne lt is = absurd (ne refl)
goes_on_behind body (suc k) before ne lt is =
    let e : suc k - 1 ≡ k = omega arith in
    let is' : before ≡ get_or body k before = is ∙ ap (λ n. get_or body n before) e in
    ap is_continuation (last_is before) ∙ sym (ap continues (at_place body k before (omega arith) is'))

pub line_is_clear : (guards : Bool) (line : Line) → begins_with_space (first_piece line) ≡ false → (guards && both_marks (first_piece line)) ≡ false → (kind : CompileErrorKind) → BreaksLine guards (pieces_of line) kind → ⊥
line_is_clear guards line no_space no_marks kind (space e) = not_true _ no_space (ap begins_with_space (first_is line) ∙ e)
line_is_clear guards line no_space no_marks kind (marks g a b) =
    not_both guards _ no_marks g (ap both_marks (first_is line) ∙ ap (λ x. x && (sigils_of true (first_of (pieces_of line))).infallible) a ∙ b)

pub space_breaks : (guards : Bool) (line : Line) (named : CompileErrorKind) → named ≡ ExtraLeadingWhitespace → begins_with_space (first_piece line) ≡ true
    → (kind : CompileErrorKind) × (Some (syntax named) ≡ Some (syntax kind)) × BreaksLine guards (pieces_of line) kind
space_breaks guards line named is e = (ExtraLeadingWhitespace, ap (λ k. Some (syntax k)) is, space (sym (ap begins_with_space (first_is line)) ∙ e))

pub marks_break : (guards : Bool) (line : Line) (named : CompileErrorKind) → named ≡ GuardAndInfallible → (guards && both_marks (first_piece line)) ≡ true
    → (kind : CompileErrorKind) × (Some (syntax named) ≡ Some (syntax kind)) × BreaksLine guards (pieces_of line) kind
marks_break guards line named is e =
    let both = and_true guards _ e in
    let there = and_true _ _ (sym (ap both_marks (first_is line)) ∙ both.1) in
    (GuardAndInfallible, ap (λ k. Some (syntax k)) is, marks both.0 there.0 there.1)

pub place_is_clear : (guards : Bool) (body : List Line) (place : ℕ) (line : Line) → place < length body → line ≡ get_or body place line → ((kind : CompileErrorKind) → BreaksLine guards (pieces_of line) kind → ⊥)
    → (kind : CompileErrorKind) → BreaksPlace guards (body_shape body) place kind → ⊥
place_is_clear guards body place line lt is clear kind (other, at, own, b) =
    clear kind (subst (λ l. BreaksLine guards l kind) (same_Some other (pieces_of line) (sym at ∙ at_place body place line lt is)) b)

pub place_breaks : (guards : Bool) (body : List Line) (place : ℕ) (line : Line) → place < length body → line ≡ get_or body place line → goes_on (body_shape body) place ≡ false
    → (kind : CompileErrorKind) → BreaksLine guards (pieces_of line) kind → BreaksPlace guards (body_shape body) place kind
place_breaks guards body place line lt is own kind b = (pieces_of line, at_place body place line lt is, own, b)

-- ---- all places

abbrev pub AreClearBelow : Bool → List (List Piece) → ℕ → Type 0
AreClearBelow guards lines count = (place : ℕ) (kind : CompileErrorKind) → place < count → BreaksPlace guards lines place kind → ⊥

pub none_below : (guards : Bool) (lines : List (List Piece)) → AreClearBelow guards lines 0
none_below guards lines place kind lt b = omega arith

pub one_more_clear : (guards : Bool) (lines : List (List Piece)) (count : ℕ) → AreClearBelow guards lines count → ((kind : CompileErrorKind) → BreaksPlace guards lines count kind → ⊥) → AreClearBelow guards lines (count + 1)
one_more_clear guards lines count before here place kind lt b = elim (eqb_tells place count) [
  | inl p ↦ here kind (subst (λ k. BreaksPlace guards lines k kind) p.1 b)
  | inr p ↦ let ne : place ≢ count = p.1 in before place kind (omega arith) b
]

pub all_clear : (guards : Bool) (body : List Line) (count : ℕ) → length body ≤ count → AreClearBelow guards (body_shape body) count → (place : ℕ) (kind : CompileErrorKind) → BreaksPlace guards (body_shape body) place kind → ⊥
all_clear guards body count le before place kind b =
    let lt = slice_get_within (body_shape body) place b.0 b.1 in
    let same : length (body_shape body) ≡ length body = length-map body pieces_of in
    before place kind (omega arith) b

pub first_line_is : (body : List Line) (line : Line) → (length body == 0) ≡ false → line ≡ get_or body 0 line → is_shebang (first_piece line) ≡ begins_shebang (body_shape body)
first_line_is [] line there is = absurd (false≢true (sym there))
first_line_is (x ∷ xs) line there is = ap is_shebang (first_is line) ∙ ap (λ l. is_shebang (first_of (pieces_of l))) is
