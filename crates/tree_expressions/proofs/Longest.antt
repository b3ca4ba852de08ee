-- The run to which lines are narrowed is the longest that they share.
use Rattle.std.proofs.Common.{◌≡◌, inl, inr, ℕ, ◌+◌, ◌≤◌, suc, zero, ◌==◌, Bool, true, false, ◌&&◌, List, [], ◌∷◌, ◌++◌, take, drop, length, length-append, append_assoc, Option, Some, None, refl, sym, ap, subst, ◌∙◌, arith}
use Rattle.std.specs.Prelude.{fold}
use Rattle.std.specs.List.{list_all, flat_map, prefix_len, common_prefix_len, AllByRecursion}
use Rattle.std.proofs.lemmas.Bool.{cond_both}
use Rattle.std.proofs.lemmas.Bool.Decides.{nat_tests}
use Rattle.std.proofs.lemmas.List.{append-nil, take-append-drop}
use Rattle.tree_expressions.specs.Indentation.{is_indent, is_blank, leading, shared, narrowed, lines_of, onto_line}
use Rattle.tree_expressions.specs.Longest.{Begins, TheLongestIsTaken, OnlyBlankLinesHaveNone, IsEnded, AreLines, TextsAreCut}
use Rattle.tree_expressions.proofs.Lines.{shared_of}

begins_trans : (x y z : List ℕ) → Begins x y → Begins y z → Begins x z
begins_trans x y z (s, e) (t, f) = (s ++ t, rw (f, e) (append_assoc x s t))

begins_take : (n : ℕ) (xs : List ℕ) → Begins (take n xs) xs
begins_take n xs = (drop n xs, sym (take-append-drop n xs))

begins_len : (x y : List ℕ) → Begins x y → length x ≤ length y
begins_len x y (rest, e) = omega (arith, ap length e, length-append x rest)

shared_right : (run other : List ℕ) → Begins (shared run other) other
shared_right run other = rw (← shared_of run other) (begins_take (common_prefix_len (λ a b. a == b) run other) other)

-- a run with which both begin is no longer than what they share
shared_most : (x run other : List ℕ) → Begins x run → Begins x other → Begins x (shared run other)
shared_most [] run other _ _ = (shared run other, refl)
shared_most (a ∷ x) [] other (s, e) _ = absurd (cc e)
shared_most (a ∷ x) (b ∷ run) [] _ (t, f) = absurd (cc f)
shared_most (a ∷ x) (b ∷ run) (c ∷ other) (s, e) (t, f) =
    let first : b ≡ a = cc e in
    let second : c ≡ a = cc f in
    let rest : run ≡ x ++ s = cc e in
    let behind : other ≡ x ++ t = cc f in
    let same : (b == c) ≡ true = grind (arith, nat_tests) in
    let more : 1 + common_prefix_len (λ a b. a == b) run other ≡ suc (common_prefix_len (λ a b. a == b) run other) = omega arith in
    let inner = shared_most x run other (s, rest) (t, behind) in
    (inner.0, rw (same, more, first) (ap (λ xs. a ∷ xs) inner.1))

both : (x y : Bool) → (x && y) ≡ true → (x ≡ true) × (y ≡ true)
both true y e = (refl, e)
both false y e = absurd (cc e)

white_step : (b : ℕ) (bs : List ℕ) → list_all is_indent (b ∷ bs) ≡ true → (is_indent b ≡ true) × (list_all is_indent bs ≡ true)
white_step b bs e = both (is_indent b) (list_all is_indent bs) e

white_take : (n : ℕ) (xs : List ℕ) → list_all is_indent xs ≡ true → list_all is_indent (take n xs) ≡ true
white_take zero xs e = refl
white_take (suc n) [] e = refl
white_take (suc n) (b ∷ bs) e = let w = white_step b bs e in rw w.0 (white_take n bs w.1)

leading_white : (line : List ℕ) → list_all is_indent (leading line) ≡ true
leading_white [] = refl
leading_white (b ∷ bs) =
    cond_both (is_indent b) (1 + prefix_len is_indent bs) 0 (λ n. list_all is_indent (take n (b ∷ bs)) ≡ true)
    (λ e. let more : 1 + prefix_len is_indent bs ≡ suc (prefix_len is_indent bs) = omega arith in rw (more, e) (leading_white bs))
    (λ _. refl)

leading_most : (x line : List ℕ) → list_all is_indent x ≡ true → Begins x line → Begins x (leading line)
leading_most [] line _ _ = (leading line, refl)
leading_most (a ∷ x) [] _ (s, e) = absurd (cc e)
leading_most (a ∷ x) (b ∷ bs) white (s, e) =
    let w = white_step a x white in
    let first : b ≡ a = cc e in
    let rest : bs ≡ x ++ s = cc e in
    let more : 1 + prefix_len is_indent bs ≡ suc (prefix_len is_indent bs) = omega arith in
    let inner = leading_most x bs w.1 (s, rest) in
    (inner.0, rw (first, w.0, more) (ap (λ xs. a ∷ xs) inner.1))

-- a run so far is spaces and tabs; a run begins with it
abbrev White : Option (List ℕ) → Type 0
White None = Unit {0}
White (Some run) = list_all is_indent run ≡ true

abbrev Fits : List ℕ → Option (List ℕ) → Type 0
Fits x None = Unit {0}
Fits x (Some run) = Begins x run

abbrev LineBegins : List ℕ → List ℕ → Type 0
LineBegins run line = is_blank line ≡ false → Begins run line

-- one line
white_on : (so_far : Option (List ℕ)) (line : List ℕ) → White so_far → White (narrowed so_far line)
white_on None line w = cond_both (is_blank line) None (Some (leading line)) White (λ _. tt) (λ _. leading_white line)
white_on (Some run) line w =
    cond_both (is_blank line) (Some run) (Some (shared run (leading line))) White (λ _. w) (λ _. white_take (common_prefix_len (λ a b. a == b) run (leading line)) run w)

fits_back : (x : List ℕ) (so_far : Option (List ℕ)) (line : List ℕ) → Fits x (narrowed so_far line) → Fits x so_far × LineBegins x line
fits_back x None line =
    cond_both (is_blank line) None (Some (leading line)) (λ o. Fits x o → Unit {0} × LineBegins x line)
    (λ e _. (tt, λ h. absurd (cc (e, h))))
    (λ e fits. (tt, λ _. begins_trans x (leading line) line fits (begins_take (prefix_len is_indent line) line)))
fits_back x (Some run) line =
    cond_both (is_blank line) (Some run) (Some (shared run (leading line))) (λ o. Fits x o → Begins x run × LineBegins x line)
    (λ e fits. (fits, λ h. absurd (cc (e, h))))
    (λ e fits. (
      begins_trans x (shared run (leading line)) run fits (begins_take (common_prefix_len (λ a b. a == b) run (leading line)) run),
      λ _. begins_trans x (leading line) line (begins_trans x (shared run (leading line)) (leading line) fits (shared_right run (leading line))) (begins_take (prefix_len is_indent line) line),
    ))

fits_on : (x : List ℕ) (so_far : Option (List ℕ)) (line : List ℕ) → list_all is_indent x ≡ true → Fits x so_far → LineBegins x line → Fits x (narrowed so_far line)
fits_on x None line white fits begins = cond_both (is_blank line) None (Some (leading line)) (Fits x) (λ _. tt) (λ e. leading_most x line white (begins e))
fits_on x (Some run) line white fits begins =
    cond_both (is_blank line) (Some run) (Some (shared run (leading line))) (Fits x) (λ _. fits) (λ e. shared_most x run (leading line) fits (leading_most x line white (begins e)))

-- all lines
white_fold : (lines : List (List ℕ)) (so_far : Option (List ℕ)) → White so_far → White (fold narrowed so_far lines)
white_fold [] so_far w = w
white_fold (line ∷ lines) so_far w = white_fold lines (narrowed so_far line) (white_on so_far line w)

fits_fold_back : (x : List ℕ) (lines : List (List ℕ)) (so_far : Option (List ℕ)) → Fits x (fold narrowed so_far lines) → Fits x so_far × AllByRecursion (LineBegins x) lines
fits_fold_back x [] so_far fits = (fits, tt)
fits_fold_back x (line ∷ lines) so_far fits =
    let rest = fits_fold_back x lines (narrowed so_far line) fits in
    let here = fits_back x so_far line rest.0 in
    (here.0, (here.1, rest.1))

fits_fold : (x : List ℕ) (lines : List (List ℕ)) (so_far : Option (List ℕ)) → list_all is_indent x ≡ true → Fits x so_far → AllByRecursion (LineBegins x) lines → Fits x (fold narrowed so_far lines)
fits_fold x [] so_far white fits begins = fits
fits_fold x (line ∷ lines) so_far white fits begins = fits_fold x lines (narrowed so_far line) white (fits_on x so_far line white fits begins.0) begins.1

pub the_longest : TheLongestIsTaken
the_longest lines run e = (
  record {
    white = subst White e (white_fold lines None tt);
    begins = (fits_fold_back run lines None (subst (Fits run) (sym e) ([], sym (append-nil run)))).1;
  },
  λ other common. begins_len other run (subst (Fits other) e (fits_fold other lines None common.white tt common.begins)),
)

-- what is found stays
stays : (lines : List (List ℕ)) (run : List ℕ) → fold narrowed (Some run) lines ≡ None → ⊥
stays [] run = λ e. cc e
stays (line ∷ lines) run =
    cond_both (is_blank line) (Some run) (Some (shared run (leading line))) (λ o. fold narrowed o lines ≡ None → ⊥)
    (λ _. stays lines run) (λ _. stays lines (shared run (leading line)))

pub only_blank : OnlyBlankLinesHaveNone
only_blank [] = λ _. tt
only_blank (line ∷ lines) =
    cond_both (is_blank line) None (Some (leading line)) (λ o. fold narrowed o lines ≡ None → (is_blank line ≡ true) × AllByRecursion (λ line. is_blank line ≡ true) lines)
    (λ blank e. (blank, only_blank lines e)) (λ _ e. absurd (stays lines (leading line) e))

onto_joined : (b : ℕ) (lines : List (List ℕ)) → flat_map (λ line. line) (onto_line b lines) ≡ b ∷ flat_map (λ line. line) lines
onto_joined b [] = refl
onto_joined b (line ∷ lines) = refl

join_up : (text : List ℕ) → flat_map (λ line. line) (lines_of text) ≡ text
unfolding lines_of
join_up [] = refl
join_up (b ∷ bs) =
    cond_both (b == 10) ((b ∷ []) ∷ lines_of bs) (onto_line b (lines_of bs)) (λ lines. flat_map (λ line. line) lines ≡ b ∷ bs)
    (λ _. ap (λ xs. b ∷ xs) (join_up bs))
    (λ _. onto_joined b (lines_of bs) ∙ ap (λ xs. b ∷ xs) (join_up bs))

ended_newline : (b : ℕ) → (b == 10) ≡ true → IsEnded (b ∷ [])
ended_newline b e = let is : b ≡ 10 = grind (arith, nat_tests) in record { front = []; whole = ap (λ x. x ∷ []) is; unbroken = refl }

ended_longer : (b : ℕ) (line : List ℕ) → (b == 10) ≡ false → IsEnded line → IsEnded (b ∷ line)
ended_longer b line e h = record { front = b ∷ h.front; whole = ap (λ x. b ∷ x) h.whole; unbroken = rw e h.unbroken }

cut_newline : (b : ℕ) (lines : List (List ℕ)) → (b == 10) ≡ true → AreLines lines → AreLines ((b ∷ []) ∷ lines)
cut_newline b [] e h = inl (ended_newline b e)
cut_newline b (line ∷ lines) e h = (ended_newline b e, h)

cut_onto : (b : ℕ) (lines : List (List ℕ)) → (b == 10) ≡ false → AreLines lines → AreLines (onto_line b lines)
cut_onto b [] e h = inr (omega arith, rw e refl)
cut_onto b (line ∷ []) e (inl ended) = inl (ended_longer b line e ended)
cut_onto b (line ∷ []) e (inr (some, unbroken)) = inr (omega arith, rw e unbroken)
cut_onto b (line ∷ next ∷ lines) e (ended, rest) = (ended_longer b line e ended, rest)

are_lines : (text : List ℕ) → AreLines (lines_of text)
unfolding lines_of
are_lines [] = tt
are_lines (b ∷ bs) =
    cond_both (b == 10) ((b ∷ []) ∷ lines_of bs) (onto_line b (lines_of bs)) AreLines
    (λ e. cut_newline b (lines_of bs) e (are_lines bs))
    (λ e. cut_onto b (lines_of bs) e (are_lines bs))

pub texts_are_cut : TextsAreCut
texts_are_cut text = (are_lines text, join_up text)
