-- Where blocks begin, and what an edit of one block does to all elements.
use Rattle.std.proofs.Common.{◌≡◌, ℕ, zero, suc, ◌+◌, ◌-◌, ◌<◌, ◌≤◌, inl, inr, List, [], ◌∷◌, ◌++◌, length, get_or, set, take, drop, Result, Ok, Err, OnErr, is_ok, if◌then◌else◌, refl, sym, ap, subst, ◌∙◌, arith}
use Rattle.std.specs.Global.{Vec}
use Rattle.std.specs.List.{flat_map, insert}
use Rattle.std.proofs.lemmas.Bool.{cases_lt}
use Rattle.std.proofs.lemmas.List.{take_all, take_more, take-append-drop, take-set-le, append-nil, length-append, length-set, set-append_left, set-append_right}
use Rattle.std.proofs.lemmas.List.Folds.{length-flat_map-take}
use Rattle.std.proofs.lemmas.List.Concat.{flat_map-append, get_or-flat_map}
use Rattle.std.proofs.lemmas.List.Edits.{insert-append_left, insert-append_right}
use Rattle.just_value.specs.Blocks.{elements, StartUpTo, AreStarts, IsBlockOf}

pub one_more : {T : Type 0} (blocks : List (Vec T)) (k : ℕ) (d : Vec T) → k < length blocks → length (elements (take (k + 1) blocks)) ≡ length (elements (take k blocks)) + length (get_or blocks k d).items
one_more blocks k d lt =
    let more = take_more blocks k d lt in
    ap (λ l. length (elements l)) more ∙ ap length (flat_map-append (λ b. b.items) (take k blocks) (get_or blocks k d ∷ [])) ∙ length-append (elements (take k blocks)) ((get_or blocks k d).items ++ []) ∙ ap (λ n. length (elements (take k blocks)) + n) (length-append (get_or blocks k d).items [] ∙ omega arith)

pub no_more : {T : Type 0} (blocks : List (Vec T)) (k : ℕ) (d : Vec T) → k < length blocks → length (elements (take k blocks)) + length (get_or blocks k d).items ≤ length (elements blocks)
no_more blocks k d lt = length-flat_map-take (λ b. b.items) blocks k d lt

-- a place in the block in which it stands, or at whose end it is
module _ {T : Type 0} (blocks : List (Vec T)) (starts : List ℕ) (place k s : ℕ) (are : AreStarts blocks starts) (is : IsBlockOf starts (length blocks) place k) (read : s ≡ get_or starts k s) where
  start_is : s ≡ length (elements (take k blocks))
  start_is = read ∙ are.start k s is.within

  pub begins : s ≤ place
  begins = omega (arith, read, is.from s)

  pub at_place : length (elements (take k blocks)) + (place - s) ≡ place
  at_place = omega (arith, start_is, begins)

  ends : (d : Vec T) → place < length (elements (take (k + 1) blocks)) → place - s < length (get_or blocks k d).items
  ends d below = omega (arith, below, one_more blocks k d is.within, start_is, begins)

  pub inside : (d : Vec T) → place < length (elements blocks) → place - s < length (get_or blocks k d).items
  inside d lt = elim (cases_lt (k + 1) (length blocks)) [
    | inl more ↦ ends d (omega (arith, is.below 0 more, are.start (k + 1) 0 more))
    | inr last ↦ ends d (subst (λ l. place < length (elements l)) (sym (take_all (k + 1) blocks last)) lt)
  ]

  ends_at : (d : Vec T) → place ≤ length (elements (take (k + 1) blocks)) → place - s ≤ length (get_or blocks k d).items
  ends_at d below = omega (arith, below, one_more blocks k d is.within, start_is, begins)

  pub inside_or_end : (d : Vec T) → place ≤ length (elements blocks) → place - s ≤ length (get_or blocks k d).items
  inside_or_end d le = elim (cases_lt (k + 1) (length blocks)) [
    | inl more ↦ ends_at d (omega (arith, is.below 0 more, are.start (k + 1) 0 more))
    | inr last ↦ ends_at d (subst (λ l. place ≤ length (elements l)) (sym (take_all (k + 1) blocks last)) le)
  ]

pub read_in_block : {T : Type 0} (blocks : List (Vec T)) (k o n : ℕ) (d : Vec T) (x : T) → k < length blocks → o < length (get_or blocks k d).items → length (elements (take k blocks)) + o ≡ n → get_or (get_or blocks k d).items o x ≡ get_or (elements blocks) n x
read_in_block blocks k o n d x lt within at = sym (get_or-flat_map (λ b. b.items) blocks k o d x lt within) ∙ ap (λ i. get_or (elements blocks) i x) at

-- ---- an edit of one block

pub same_lengths : {T : Type 0} (blocks : List (Vec T)) (k : ℕ) (b d : Vec T) → k < length blocks → length b.items ≡ length (get_or blocks k d).items → (j : ℕ) → length (elements (take j (set blocks k b))) ≡ length (elements (take j blocks))
same_lengths [] k b d lt is j = absurd (omega (arith, lt))
same_lengths (a ∷ blocks) k b d lt is zero = refl
same_lengths (a ∷ blocks) zero b d lt is (suc j) = omega (arith, length-append b.items (elements (take j blocks)), length-append a.items (elements (take j blocks)), is)
same_lengths (a ∷ blocks) (suc k) b d lt is (suc j) =
    omega (arith, length-append a.items (elements (take j (set blocks k b))), length-append a.items (elements (take j blocks)), same_lengths blocks k b d (omega (arith, lt)) is j)

pub same_in_all : {T : Type 0} (blocks : List (Vec T)) (k : ℕ) (b d : Vec T) → k < length blocks → length b.items ≡ length (get_or blocks k d).items → length (elements blocks) ≡ length (elements (set blocks k b))
same_in_all blocks k b d lt is =
    ap (λ l. length (elements l)) (sym (take_all (length blocks) blocks (omega arith))) ∙ sym (same_lengths blocks k b d lt is (length blocks)) ∙ ap (λ l. length (elements l)) (take_all (length blocks) (set blocks k b) (omega (arith, length-set blocks k b)))

pub starts_kept : {T : Type 0} (blocks : List (Vec T)) (starts : List ℕ) (k : ℕ) (b d : Vec T) → k < length blocks → length b.items ≡ length (get_or blocks k d).items → AreStarts blocks starts → AreStarts (set blocks k b) starts
starts_kept blocks starts k b d lt is are = record {
  enough = omega (arith, are.enough, length-set blocks k b);
  start = λ j e below. are.start j e (omega (arith, below, length-set blocks k b)) ∙ sym (same_lengths blocks k b d lt is j);
}

pub set_in_block : {T : Type 0} (blocks : List (Vec T)) (k o n : ℕ) (b d : Vec T) (x : T) → k < length blocks → o < length (get_or blocks k d).items → length (elements (take k blocks)) + o ≡ n → b.items ≡ set (get_or blocks k d).items o x → elements (set blocks k b) ≡ set (elements blocks) n x
set_in_block [] k o n b d x lt within at is = absurd (omega (arith, lt))
set_in_block (a ∷ blocks) zero o n b d x lt within at is =
    let same : o ≡ n = omega (arith, at) in
    ap (λ l. l ++ elements blocks) is ∙ sym (set-append_left a.items (elements blocks) o x within) ∙ ap (λ j. set (a.items ++ elements blocks) j x) same
set_in_block (a ∷ blocks) (suc k) o n b d x lt within at is =
    let long = length-append a.items (elements (take k blocks)) in
    ap (λ l. a.items ++ l) (set_in_block blocks k o (n - length a.items) b d x (omega (arith, lt)) within (omega (arith, at, long)) is)
    ∙ sym (set-append_right a.items (elements blocks) (length a.items) n x refl (omega (arith, at, long)))

pub insert_in_block : {T : Type 0} (blocks : List (Vec T)) (k o n : ℕ) (b d : Vec T) (x : T) → k < length blocks → o ≤ length (get_or blocks k d).items → length (elements (take k blocks)) + o ≡ n → b.items ≡ insert (get_or blocks k d).items o x → elements (set blocks k b) ≡ insert (elements blocks) n x
insert_in_block [] k o n b d x lt within at is = absurd (omega (arith, lt))
insert_in_block (a ∷ blocks) zero o n b d x lt within at is =
    let same : o ≡ n = omega (arith, at) in
    ap (λ l. l ++ elements blocks) is ∙ sym (insert-append_left a.items (elements blocks) o x within) ∙ ap (λ j. insert (a.items ++ elements blocks) j x) same
insert_in_block (a ∷ blocks) (suc k) o n b d x lt within at is =
    let long = length-append a.items (elements (take k blocks)) in
    ap (λ l. a.items ++ l) (insert_in_block blocks k o (n - length a.items) b d x (omega (arith, lt)) within (omega (arith, at, long)) is)
    ∙ sym (insert-append_right a.items (elements blocks) (length a.items) n x refl (omega (arith, at, long)))

pub same_block : {T : Type 0} (blocks : List (Vec T)) (k : ℕ) (b d : Vec T) → b.items ≡ (get_or blocks k d).items → elements (set blocks k b) ≡ elements blocks
same_block [] k b d is = refl
same_block (a ∷ blocks) zero b d is = ap (λ l. l ++ elements blocks) is
same_block (a ∷ blocks) (suc k) b d is = ap (λ l. a.items ++ l) (same_block blocks k b d is)

pub inserted_or_not : {T : Type 0} {A E : Type 0} (blocks : List (Vec T)) (k o : ℕ) (b d : Vec T) (x : T) (r : Result A E) → k < length blocks → o ≤ length (get_or blocks k d).items → b.items ≡ (if is_ok r then insert (get_or blocks k d).items o x else (get_or blocks k d).items)
    → elements (set blocks k b) ≡ (if is_ok r then insert (elements blocks) (length (elements (take k blocks)) + o) x else elements blocks)
inserted_or_not blocks k o b d x (Ok a) lt within is = insert_in_block blocks k o (length (elements (take k blocks)) + o) b d x lt within refl is
inserted_or_not blocks k o b d x (Err e) lt within is = same_block blocks k b d is

pub kept_or_not : {T : Type 0} {A E : Type 0} (blocks : List (Vec T)) (k o : ℕ) (b d : Vec T) (x : T) (r : Result A E) (starts : List ℕ) → k < length blocks → b.items ≡ (if is_ok r then insert (get_or blocks k d).items o x else (get_or blocks k d).items)
    → OnErr r (AreStarts blocks starts → AreStarts (set blocks k b) starts)
kept_or_not blocks k o b d x (Ok a) starts lt is = tt
kept_or_not blocks k o b d x (Err e) starts lt is = starts_kept blocks starts k b d lt (ap length is)

-- ---- a block in two

pub empty_block : {T : Type 0} (blocks : List (Vec T)) (k : ℕ) (e : Vec T) → e.items ≡ [] → elements (insert blocks k e) ≡ elements blocks
empty_block blocks zero e none = ap (λ l. l ++ elements blocks) none
empty_block [] (suc k) e none = ap (λ l. l ++ []) none
empty_block (a ∷ blocks) (suc k) e none = ap (λ l. a.items ++ l) (empty_block blocks k e none)

read_next : {X : Type 0} (xs : List X) (k : ℕ) (x d : X) → k < length xs → get_or (insert xs (suc k) x) k d ≡ get_or xs k d
read_next [] k x d lt = absurd (omega (arith, lt))
read_next (a ∷ xs) zero x d lt = refl
read_next (a ∷ xs) (suc k) x d lt = read_next xs k x d (omega (arith, lt))

pub read_before : {X : Type 0} (xs : List X) (k : ℕ) (x d : X) → k < length xs → get_or (insert xs (k + 1) x) k d ≡ get_or xs k d
read_before xs k x d lt = subst (λ n. get_or (insert xs n x) k d ≡ get_or xs k d) (let next : suc k ≡ k + 1 = omega arith in next) (read_next xs k x d lt)

joined : {X : Type 0} (xs ys zs : List X) → (xs ++ ys) ++ zs ≡ xs ++ (ys ++ zs)
joined [] ys zs = refl
joined (x ∷ xs) ys zs = ap (λ l. x ∷ l) (joined xs ys zs)

-- the second of two blocks is empty, and gets what the first leaves
in_two_next : {T : Type 0} (blocks : List (Vec T)) (k at : ℕ) (e low high d : Vec T) → k < length blocks → low.items ≡ take at (get_or blocks k d).items → high.items ≡ drop at (get_or blocks k d).items → elements (set (set (insert blocks (suc k) e) k low) (suc k) high) ≡ elements blocks
in_two_next [] k at e low high d lt lower upper = absurd (omega (arith, lt))
in_two_next (a ∷ blocks) zero at e low high d lt lower upper =
    ap (λ l. l ++ (high.items ++ elements blocks)) lower ∙ ap (λ l. take at a.items ++ (l ++ elements blocks)) upper ∙ sym (joined (take at a.items) (drop at a.items) (elements blocks)) ∙ ap (λ l. l ++ elements blocks) (take-append-drop at a.items)
in_two_next (a ∷ blocks) (suc k) at e low high d lt lower upper = ap (λ l. a.items ++ l) (in_two_next blocks k at e low high d (omega (arith, lt)) lower upper)

pub in_two : {T : Type 0} (blocks : List (Vec T)) (k at : ℕ) (e low high d : Vec T) → k < length blocks → low.items ≡ take at (get_or blocks k d).items → high.items ≡ drop at (get_or blocks k d).items → elements (set (set (insert blocks (k + 1) e) k low) (k + 1) high) ≡ elements blocks
in_two blocks k at e low high d lt lower upper =
    subst (λ n. elements (set (set (insert blocks n e) k low) n high) ≡ elements blocks) (let next : suc k ≡ k + 1 = omega arith in next) (in_two_next blocks k at e low high d lt lower upper)

-- ---- the first block where there are no elements

none_behind : {X : Type 0} (xs ys : List X) → xs ++ ys ≡ [] → ys ≡ []
none_behind [] ys none = none
none_behind (x ∷ xs) ys none = absurd (omega (arith, ap length none))

pub first_block : {T : Type 0} (blocks : List (Vec T)) (b : Vec T) → 0 < length blocks → elements blocks ≡ [] → elements (set blocks 0 b) ≡ b.items
first_block [] b some none = absurd (omega (arith, some))
first_block (a ∷ blocks) b some none = ap (λ l. b.items ++ l) (none_behind a.items (elements blocks) none) ∙ append-nil b.items
