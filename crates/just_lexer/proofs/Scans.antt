-- What `until` and `until_over` count, byte by byte.
use Rattle.std.proofs.Common.{◌≡◌, ℕ, zero, suc, ◌+◌, ◌-◌, ◌<◌, ◌≤◌, Bool, true, false, cond, List, [], ◌∷◌, length, drop, refl, ap, ◌∙◌, arith, rules}
use Rattle.std.proofs.lemmas.Bool.{cond_both}
use Rattle.std.proofs.lemmas.List.{drop_more}
use Rattle.std.proofs.Math.ListN.{drop_of_length-le}
use Rattle.just_lexer.specs.Classes.{until, until_over}

until_step : (stops : List ℕ → Bool) (xs : List ℕ) (i : ℕ) → i < length xs → until stops (drop i xs) ≡ cond (stops (drop i xs)) 0 (until stops (drop (i + 1) xs) + 1)
unfolding until
until_step stops xs i h = rw (drop_more xs i 0 h) refl

until_nil : (stops : List ℕ → Bool) → until stops [] ≡ 0
unfolding until
until_nil stops = refl

-- a loop that counts up has come to the first such place
pub until_here : (stops : List ℕ → Bool) (xs : List ℕ) (i total : ℕ) → i < length xs → stops (drop i xs) ≡ true → i + until stops (drop i xs) ≡ total → i ≡ total
until_here stops xs i total h here so_far = let step : until stops (drop i xs) ≡ 0 = until_step stops xs i h ∙ rw here refl in omega (arith, step, so_far)

-- or it goes on
pub until_on : (stops : List ℕ → Bool) (xs : List ℕ) (i total : ℕ) → i < length xs → stops (drop i xs) ≡ false → i + until stops (drop i xs) ≡ total → i + 1 + until stops (drop (i + 1) xs) ≡ total
until_on stops xs i total h on so_far = let step : until stops (drop i xs) ≡ until stops (drop (i + 1) xs) + 1 = until_step stops xs i h ∙ rw on refl in omega (arith, step, so_far)

-- or it has come to the end
pub until_end : (stops : List ℕ → Bool) (xs : List ℕ) (i total : ℕ) → length xs ≤ i → i ≤ length xs → i + until stops (drop i xs) ≡ total → length xs ≡ total
until_end stops xs i total h j so_far = let none : until stops (drop i xs) ≡ 0 = ap (until stops) (drop_of_length-le xs h) ∙ until_nil stops in omega (arith, none, so_far)

pub until_le : (stops : List ℕ → Bool) (xs : List ℕ) → until stops xs ≤ length xs
unfolding until
until_le stops [] = omega arith
until_le stops (b ∷ bs) = cond_both (stops (b ∷ bs)) 0 (until stops bs + 1) (λ n. n ≤ length (b ∷ bs)) (λ _. omega arith) (λ _. omega (arith, until_le stops bs))

-- where it stops, such a place begins
pub until_stops : (stops : List ℕ → Bool) (xs : List ℕ) → until stops xs < length xs → stops (drop (until stops xs) xs) ≡ true
unfolding until
until_stops stops [] h = absurd (omega arith)
until_stops stops (b ∷ bs) h =
    cond_both (stops (b ∷ bs)) 0 (until stops bs + 1) (λ n. n < length (b ∷ bs) → stops (drop n (b ∷ bs)) ≡ true)
    (λ e _. e)
    (λ _ less. let rest : stops (drop (until stops bs) bs) ≡ true = until_stops stops bs (omega arith) in let moved : drop (until stops bs + 1) (b ∷ bs) ≡ drop (until stops bs) bs = grind (arith, rules) in rw moved rest)
    h

-- nothing stands before such a place, and something before another
pub until_none : (stops : List ℕ → Bool) (xs : List ℕ) → stops xs ≡ true → until stops xs ≡ 0
unfolding until
until_none stops [] e = refl
until_none stops (b ∷ bs) e = rw e refl

pub until_some : (stops : List ℕ → Bool) (xs : List ℕ) → 0 < length xs → stops xs ≡ false → 0 < until stops xs
unfolding until
until_some stops [] some e = absurd (omega arith)
until_some stops (b ∷ bs) some e = rw e (omega arith)

-- the same where a place takes bytes along

over_step : (stops : List ℕ → Bool) (takes : List ℕ → ℕ) (xs : List ℕ) (i : ℕ) → i < length xs → until_over stops takes 0 (drop i xs) ≡ cond (stops (drop i xs)) 0 (until_over stops takes (takes (drop i xs)) (drop (i + 1) xs) + 1)
unfolding until_over
over_step stops takes xs i h = rw (drop_more xs i 0 h) refl

over_nil : (stops : List ℕ → Bool) (takes : List ℕ → ℕ) (skip : ℕ) → until_over stops takes skip [] ≡ 0
unfolding until_over
over_nil stops takes zero = refl
over_nil stops takes (suc skip) = refl

pub over_skip : (stops : List ℕ → Bool) (takes : List ℕ → ℕ) (skip : ℕ) (xs : List ℕ) (i total : ℕ) → i < length xs → 0 < skip → i + until_over stops takes skip (drop i xs) ≡ total → i + 1 + until_over stops takes (skip - 1) (drop (i + 1) xs) ≡ total
unfolding until_over
over_skip stops takes zero xs i total h p so_far = absurd (omega arith)
over_skip stops takes (suc k) xs i total h p so_far =
    let one_less : suc k - 1 ≡ k = omega arith in
    let step : until_over stops takes (suc k) (drop i xs) ≡ until_over stops takes (suc k - 1) (drop (i + 1) xs) + 1 = rw (drop_more xs i 0 h, one_less) refl in
    omega (arith, step, so_far)

pub over_here : (stops : List ℕ → Bool) (takes : List ℕ → ℕ) (skip : ℕ) (xs : List ℕ) (i total : ℕ) → i < length xs → skip ≤ 0 → stops (drop i xs) ≡ true → i + until_over stops takes skip (drop i xs) ≡ total → i ≡ total
over_here stops takes zero xs i total h z here so_far = let step : until_over stops takes 0 (drop i xs) ≡ 0 = over_step stops takes xs i h ∙ rw here refl in omega (arith, step, so_far)
over_here stops takes (suc k) xs i total h z here so_far = absurd (omega arith)

pub over_on : (stops : List ℕ → Bool) (takes : List ℕ → ℕ) (skip : ℕ) (xs : List ℕ) (i total : ℕ) → i < length xs → skip ≤ 0 → stops (drop i xs) ≡ false → i + until_over stops takes skip (drop i xs) ≡ total → i + 1 + until_over stops takes (takes (drop i xs)) (drop (i + 1) xs) ≡ total
over_on stops takes zero xs i total h z on so_far =
    let step : until_over stops takes 0 (drop i xs) ≡ until_over stops takes (takes (drop i xs)) (drop (i + 1) xs) + 1 = over_step stops takes xs i h ∙ rw on refl in
    omega (arith, step, so_far)
over_on stops takes (suc k) xs i total h z on so_far = absurd (omega arith)

pub over_end : (stops : List ℕ → Bool) (takes : List ℕ → ℕ) (skip : ℕ) (xs : List ℕ) (i total : ℕ) → length xs ≤ i → i ≤ length xs → i + until_over stops takes skip (drop i xs) ≡ total → length xs ≡ total
over_end stops takes skip xs i total h j so_far = let none : until_over stops takes skip (drop i xs) ≡ 0 = ap (until_over stops takes skip) (drop_of_length-le xs h) ∙ over_nil stops takes skip in omega (arith, none, so_far)

pub over_le : (stops : List ℕ → Bool) (takes : List ℕ → ℕ) (skip : ℕ) (xs : List ℕ) → until_over stops takes skip xs ≤ length xs
unfolding until_over
over_le stops takes zero [] = omega arith
over_le stops takes (suc k) [] = omega arith
over_le stops takes (suc k) (b ∷ bs) = omega (arith, over_le stops takes k bs)
over_le stops takes zero (b ∷ bs) =
    cond_both (stops (b ∷ bs)) 0 (until_over stops takes (takes (b ∷ bs)) bs + 1) (λ n. n ≤ length (b ∷ bs)) (λ _. omega arith) (λ _. omega (arith, over_le stops takes (takes (b ∷ bs)) bs))

pub over_stops : (stops : List ℕ → Bool) (takes : List ℕ → ℕ) (skip : ℕ) (xs : List ℕ) → until_over stops takes skip xs < length xs → stops (drop (until_over stops takes skip xs) xs) ≡ true
unfolding until_over
over_stops stops takes zero [] h = absurd (omega arith)
over_stops stops takes (suc k) [] h = absurd (omega arith)
over_stops stops takes (suc k) (b ∷ bs) h =
    let n : ℕ = until_over stops takes k bs in
    let rest : stops (drop n bs) ≡ true = over_stops stops takes k bs (omega arith) in
    let moved : drop (n + 1) (b ∷ bs) ≡ drop n bs = grind (arith, rules) in
    rw moved rest
over_stops stops takes zero (b ∷ bs) h =
    let n : ℕ = until_over stops takes (takes (b ∷ bs)) bs in
    cond_both (stops (b ∷ bs)) 0 (n + 1) (λ k. k < length (b ∷ bs) → stops (drop k (b ∷ bs)) ≡ true)
    (λ e _. e)
    (λ _ less. let rest : stops (drop n bs) ≡ true = over_stops stops takes (takes (b ∷ bs)) bs (omega arith) in let moved : drop (n + 1) (b ∷ bs) ≡ drop n bs = grind (arith, rules) in rw moved rest)
    h

pub over_none : (stops : List ℕ → Bool) (takes : List ℕ → ℕ) (xs : List ℕ) → stops xs ≡ true → until_over stops takes 0 xs ≡ 0
unfolding until_over
over_none stops takes [] e = refl
over_none stops takes (b ∷ bs) e = rw e refl

pub over_some : (stops : List ℕ → Bool) (takes : List ℕ → ℕ) (xs : List ℕ) → 0 < length xs → stops xs ≡ false → 0 < until_over stops takes 0 xs
unfolding until_over
over_some stops takes [] some e = absurd (omega arith)
over_some stops takes (b ∷ bs) some e = rw e (omega arith)
