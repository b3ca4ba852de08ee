-- The first line of a text ends after its first newline.
use Rattle.std.proofs.Common.{◌≡◌, ◌≢◌, ℕ, suc, zero, ◌≤◌, IsUtf8, ◌<◌, ◌+◌, ◌-◌, ◌==◌, Bool, true, false, List, [], ◌∷◌, take, drop, min, length, ◌++◌, ◌||◌, append_assoc, get_or, refl, sym, ap, ◌∙◌, arith}
use Rattle.std.specs.List.{prefix_len, common_prefix_len, slice_range}
use Rattle.std.specs.Str.{IsAscii, IsCharBoundary}
use Rattle.std.proofs.lemmas.Bool.Decides.{nat_tests}
use Rattle.std.proofs.lemmas.Str.{IsCharBoundary-start, IsCharBoundary-after_ascii}
use Rattle.std.proofs.lemmas.Str.Ascii.{IsAscii-cons, IsAscii-nil}
use Rattle.std.proofs.lemmas.List.Sums.{prefix_len_passes, prefix_len-le-length, common_prefix_len-le}
use Rattle.std.proofs.lemmas.Bool.{cond_both}
use Rattle.std.proofs.lemmas.List.{append-nil, length-drop}
use Rattle.tree_expressions.specs.Indentation.{lines_of, onto_line, is_indent, leading, are_none, kept, all_kept}

pub lines_of_nil : lines_of [] ≡ []
unfolding lines_of
lines_of_nil = refl

newline : (b : ℕ) (bs : List ℕ) → b ≡ 10 → lines_of (b ∷ bs) ≡ (b ∷ []) ∷ lines_of bs
unfolding lines_of
newline b bs e = rw e refl

other : (b : ℕ) (bs : List ℕ) → b ≢ 10 → lines_of (b ∷ bs) ≡ onto_line b (lines_of bs)
unfolding lines_of
other b bs e = let t : (b == 10) ≡ false = grind (arith, nat_tests) in rw t refl

pub lines_at : (bs : List ℕ) (k : ℕ) → k < length bs → get_or bs k 0 ≡ 10 → ((i : ℕ) → i < k → get_or bs i 0 ≢ 10) → lines_of bs ≡ take (suc k) bs ∷ lines_of (drop (suc k) bs)
lines_at [] k less at before = absurd (omega arith)
lines_at (b ∷ bs) zero less at before = newline b bs at
lines_at (b ∷ bs) (suc k) less at before =
    other b bs (before 0 (omega arith)) ∙ ap (onto_line b) (lines_at bs k (omega arith) at (λ i h. before (suc i) (omega arith)))

none_before : (b : ℕ) (bs : List ℕ) → ((i : ℕ) → i < length (b ∷ bs) → get_or (b ∷ bs) i 0 ≢ 10) → lines_of (b ∷ bs) ≡ (b ∷ bs) ∷ []
none_before b [] before = other b [] (before 0 (omega arith)) ∙ ap (onto_line b) lines_of_nil
none_before b (c ∷ bs) before =
    other b (c ∷ bs) (before 0 (omega arith)) ∙ ap (onto_line b) (none_before c bs (λ i h. before (suc i) (omega arith)))

pub lines_none : (text : List ℕ) → 0 < length text → ((i : ℕ) → i < length text → get_or text i 0 ≢ 10) → lines_of text ≡ text ∷ lines_of []
lines_none [] some before = absurd (omega arith)
lines_none (b ∷ bs) some before = rw lines_of_nil (none_before b bs before)

-- a range from the start
pub front_range : (bs : List ℕ) (n : ℕ) → slice_range bs 0 n ≡ take n bs
front_range bs n = let e : n - 0 ≡ n = omega arith in ap (λ k. take k bs) e

-- spaces and tabs are ASCII
indent_ascii : (b : ℕ) → is_indent b ≡ true → b < 128
indent_ascii b h = grind (arith, nat_tests)

pub leading_ascii : (line : List ℕ) → IsAscii (leading line)
leading_ascii [] = IsAscii-nil
leading_ascii (b ∷ bs) =
    cond_both (is_indent b) (1 + prefix_len is_indent bs) 0 (λ n. IsAscii (take n (b ∷ bs)))
    (λ e. let more : 1 + prefix_len is_indent bs ≡ suc (prefix_len is_indent bs) = omega arith in rw more (IsAscii-cons b (leading bs) (indent_ascii b e) (leading_ascii bs)))
    (λ _. IsAscii-nil)

pub leading_boundary : (line : List ℕ) (n : ℕ) → IsUtf8 line → prefix_len is_indent line ≡ n → IsCharBoundary line n
leading_boundary line zero u e = IsCharBoundary-start line u
leading_boundary line (suc n) u e =
    let le : prefix_len is_indent line ≤ length line = prefix_len-le-length is_indent line in
    let at : is_indent (get_or line n 0) ≡ true = prefix_len_passes is_indent line n 0 (omega arith) in
    let more : n + 1 ≡ suc n = omega arith in
    rw more at (IsCharBoundary-after_ascii line n u (omega arith) (indent_ascii (get_or line n 0) at))

-- what two runs share is the front of both
pub shared_of : (run other : List ℕ) → take (common_prefix_len (λ a b. a == b) run other) other ≡ take (common_prefix_len (λ a b. a == b) run other) run
shared_of [] other = refl
shared_of (a ∷ run) [] = refl
shared_of (a ∷ run) (b ∷ other) =
    cond_both (a == b) (1 + common_prefix_len (λ a b. a == b) run other) 0 (λ n. take n (b ∷ other) ≡ take n (a ∷ run))
    (λ e. let more : 1 + common_prefix_len (λ a b. a == b) run other ≡ suc (common_prefix_len (λ a b. a == b) run other) = omega arith in
    let same : b ≡ a = grind (arith, nat_tests) in rw (more, same) (ap (λ xs. a ∷ xs) (shared_of run other)))
    (λ _. refl)

onto_some : (b : ℕ) (lines : List (List ℕ)) → are_none (onto_line b lines) ≡ false
onto_some b [] = refl
onto_some b (line ∷ lines) = refl

pub lines_of_some : (text : List ℕ) → 0 < length text → are_none (lines_of text) ≡ false
unfolding lines_of
lines_of_some [] e = absurd (omega arith)
lines_of_some (b ∷ bs) e = cond_both (b == 10) ((b ∷ []) ∷ lines_of bs) (onto_line b (lines_of bs)) (λ lines. are_none lines ≡ false) (λ _. refl) (λ _. onto_some b (lines_of bs))

-- one line's turn
pub kept_on : (run out rest after line : List ℕ) (first : Bool) → lines_of rest ≡ line ∷ lines_of after
    → out ++ all_kept run first (lines_of rest) ≡ (out ++ kept run (first || are_none (lines_of after)) line) ++ all_kept run false (lines_of after)
unfolding all_kept
kept_on run out rest after line first e = rw e (sym (append_assoc out _ _))

pub kept_end : (run out rest : List ℕ) (first : Bool) → length rest ≡ 0 → out ++ all_kept run first (lines_of rest) ≡ out
unfolding all_kept
kept_end run out [] first e = rw lines_of_nil (append-nil out)
kept_end run out (b ∷ bs) first e = absurd (omega arith)

-- a loop that counts up to the shorter has seen that they are the same
pub all_shared : (left right : List ℕ) (i total : ℕ) → i ≡ min (length left) (length right) → i + common_prefix_len (λ a b. a == b) (drop i left) (drop i right) ≡ total → i ≡ total
all_shared left right i total e so_far =
    let le = common_prefix_len-le (λ a b. a == b) (drop i left) (drop i right) in
    omega (arith, le.0, le.1, length-drop i left, length-drop i right)

-- whether lines are left, as the length says it
pub are_none_is : (text : List ℕ) → (length text == 0) ≡ are_none (lines_of text)
are_none_is [] = rw lines_of_nil refl
are_none_is (b ∷ bs) = let some : (length (b ∷ bs) == 0) ≡ false = grind (arith, nat_tests) in rw (lines_of_some (b ∷ bs) (omega arith)) some

pub no_lines : (text : List ℕ) → length text ≡ 0 → lines_of text ≡ []
no_lines [] e = lines_of_nil
no_lines (b ∷ bs) e = absurd (omega arith)
