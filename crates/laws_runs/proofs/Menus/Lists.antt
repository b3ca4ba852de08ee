-- Lists: what is found from either end, and what stands in lists that are made of others.
use Rattle.std.proofs.Common.{◌≡◌, inl, inr, sym, ◌∙◌, ap, Bool, true, false, cond, List, [], ◌∷◌, ◌++◌, ◌+◌, ◌<◌, ◌≤◌, ◌||◌, ℕ, zero, suc, Option, Some, None, Result, Ok, Err, refl, arith, reverse, get_or, nat_lt, true≢false}
use Rattle.std.specs.Prelude.{Contains, slice_get, bytes_eq}
use Rattle.std.specs.List.{find, list_any, range_with_len}
use Rattle.std.specs.List.Sorted.{IsStrictlySortedBy}
use Rattle.std.specs.Option.{option_or}
use Rattle.std.specs.Ordering.{ordering_reverse}
use Rattle.std.specs.declared.cmp.Ordering.TheVariants.{Less}
use Rattle.std.proofs.lemmas.Bool.Decides.{eqb_tells, leb_tells}
use Rattle.std.proofs.lemmas.Cmp.{nat_list_cmp_total}
use Rattle.std.proofs.lemmas.List.{reverse-append}
use Rattle.std.proofs.lemmas.List.Folds.{find-append}
use Rattle.std.proofs.lemmas.Map.Keys.{Less-from_sorted}
use Rattle.std.proofs.lemmas.Option.{get_or_from_slice_get, none-some, same_Some, slice_get_within}
use Rattle.std.proofs.lemmas.Slice.Eq.{bytes_eq-Decides}
use Rattle.modules_compilation.specs.Modulepaths.{pieces}
use Rattle.modules_compilation.specs.Tables.{text_cmp}
use Rattle.justfile_analyzer.specs.MenusOf.{is_among, is_wanted}
use Rattle.just_resolve.specs.Gathered.{all_before, gathered, one_before}
use Rattle.just_meaning.specs.Defining.{last_name, names_before}
use Rattle.laws_runs.specs.Words.Met.{IsNamed}
use Rattle.meaning_rules.specs.Worlds.Given.{Text}
use Rattle.meaning_rules.proofs.Worlds.Places.{contains_cases, contains_first, contains_later, contains_none}
use Rattle.laws_modules.proofs.Names.Found.{found_at}

-- ---- what is found

reversed_first : {X : Type 0} (x : X) (xs : List X) → reverse (x ∷ xs) ≡ reverse xs ++ x ∷ []
reversed_first x xs = reverse-append (x ∷ []) xs

-- what is found from the end on
pub found_behind : {X : Type 0} (test : X → Bool) (x : X) (xs : List X) → find test (reverse (x ∷ xs)) ≡ option_or (find test (reverse xs)) (cond (test x) (Some x) None)
found_behind test x xs = ap (find test) (reversed_first x xs) ∙ find-append test (reverse xs) (x ∷ [])

module _ {X : Type 0} (test : X → Bool) where
  -- one place at most has an element that passes
  abbrev pub IsOnce : List X → Type 0
  IsOnce xs = (i j : ℕ) (x y : X) → slice_get xs i ≡ Some x → slice_get xs j ≡ Some y → test x ≡ true → test y ≡ true → i ≡ j

  by_first : (x : X) (xs : List X) → IsOnce (x ∷ xs) → (b : Bool) → test x ≡ b → option_or (find test xs) (cond b (Some x) None) ≡ cond b (Some x) (find test xs)
  by_first x xs once true is = by_found (find test xs) refl
    where
      by_found : (o : Option X) → find test xs ≡ o → option_or o (Some x) ≡ Some x
      by_found None e = refl
      by_found (Some y) e =
          let f = found_at test xs y e in
          let same : zero ≡ suc f.0 = once zero (suc f.0) x y refl f.1 is f.2 in
          absurd (omega (arith, same))
  by_first x xs once false is = none_or (find test xs)
    where
      none_or : (o : Option X) → option_or o None ≡ o
      none_or None = refl
      none_or (Some y) = refl

  -- then it doesn't matter from which end it is looked for
  pub find_reversed : (xs : List X) → IsOnce xs → find test (reverse xs) ≡ find test xs
  find_reversed [] once = refl
  find_reversed (x ∷ xs) once =
      found_behind test x xs
      ∙ ap (λ o. option_or o (cond (test x) (Some x) None)) (find_reversed xs (λ i j a b e f p q. let s : suc i ≡ suc j = once (suc i) (suc j) a b e f p q in omega (arith, s)))
      ∙ by_first x xs once (test x) refl

-- tests that agree on a list find the same there
pub find_alike : {X : Type 0} (f g : X → Bool) (xs : List X) → ((x : X) → Contains xs x → f x ≡ g x) → find f xs ≡ find g xs
find_alike f g [] same = refl
find_alike f g (x ∷ xs) same =
    ap (λ b. cond b (Some x) (find f xs)) (same x (contains_first x xs)) ∙ ap (cond (g x) (Some x)) (find_alike f g xs (λ y c. same y (contains_later x xs y c)))

-- ---- names in strict order

irreflexive : (name : Text) → text_cmp name name ≡ Less → ⊥
irreflexive name e = absurd (cc (sym e ∙ nat_list_cmp_total.antisymm name name ∙ ap ordering_reverse e))

-- they are told apart by their places
pub one_place : (names : List Text) (i j : ℕ) (name : Text) → IsStrictlySortedBy text_cmp names → slice_get names i ≡ Some name → slice_get names j ≡ Some name → i ≡ j
one_place names i j name sorted e f = elim (eqb_tells i j) [
  | inl p ↦ p.1
  | inr p ↦ elim (leb_tells i j) [
    | inl q ↦ let apart = p.1 in let le = q.1 in absurd (not_less (below i j apart le) e f)
    | inr q ↦ let lt = q.1 in absurd (not_less (omega (arith, lt)) f e)
  ]
]
  where
    below : (a b : ℕ) → (a ≡ b → ⊥) → a ≤ b → a < b
    below zero zero apart le = absurd (apart refl)
    below zero (suc b) apart le = omega arith
    below (suc a) zero apart le = absurd (omega (arith, le))
    below (suc a) (suc b) apart le = let lt = below a b (λ s. apart (ap suc s)) (omega (arith, le)) in omega (arith, lt)

    not_less : {a b : ℕ} → a < b → slice_get names a ≡ Some name → slice_get names b ≡ Some name → ⊥
    not_less {a} {b} lt at there =
        let within = slice_get_within names b name there in
        let less = Less-from_sorted text_cmp names a b name sorted lt within in
        let same : text_cmp name name ≡ Less = sym (ap (λ x. text_cmp x name) (get_or_from_slice_get names a name name at)) ∙ sym (ap (text_cmp (get_or names a name)) (get_or_from_slice_get names b name name there)) ∙ less in
        irreflexive name same

-- ---- results that are gathered

module _ {X A E : Type 0} (of : X → Result A E) where
  all_case : (y : A) (r : Result (List A) E) (ys : List A) → all_before (y ∷ []) r ≡ Ok ys → (rest : List A) × (r ≡ Ok rest) × (y ∷ rest ≡ ys)
  all_case y (Ok rest) ys e = (rest, refl, cc e)
  all_case y (Err fault) ys e = absurd (cc e)

  one_case : (o : Result A E) (r : Result (List A) E) (ys : List A) → one_before o r ≡ Ok ys → (y : A) × (rest : List A) × (o ≡ Ok y) × (r ≡ Ok rest) × (y ∷ rest ≡ ys)
  one_case (Ok y) r ys e = let a = all_case y r ys e in (y, a.0, refl, a.1, a.2)
  one_case (Err fault) r ys e = absurd (cc e)

  -- the result of an element stands at its place
  pub gathered_at : (xs : List X) (ys : List A) → gathered of xs ≡ Ok ys → (i : ℕ) (x : X) → slice_get xs i ≡ Some x → (y : A) × (slice_get ys i ≡ Some y) × (of x ≡ Ok y)
  gathered_at [] ys e i x at = absurd (none-some x at)
  gathered_at (z ∷ zs) ys e zero x at =
      let o = one_case (of z) (gathered of zs) ys e in
      (o.0, ap (λ l. slice_get l zero) (sym o.4), ap of (sym (same_Some z x at)) ∙ o.2)
  gathered_at (z ∷ zs) ys e (suc i) x at =
      let o = one_case (of z) (gathered of zs) ys e in
      let r = gathered_at zs o.1 o.3 i x at in
      (r.0, ap (λ l. slice_get l (suc i)) (sym o.4) ∙ r.1, r.2)

pub range_at : (first many i : ℕ) → i < many → slice_get (range_with_len first many) i ≡ Some (first + i)
range_at first zero i lt = absurd (omega (arith, lt))
range_at first (suc many) zero lt = let same : first ≡ first + 0 = omega arith in ap (λ n. Some n) same
range_at first (suc many) (suc i) lt =
    let same : (first + 1) + i ≡ first + suc i = omega arith in
    range_at (first + 1) many i (omega (arith, lt)) ∙ ap (λ n. Some n) same

-- ---- numbers

pub less_true : (a b : ℕ) → a < b → nat_lt a b ≡ true
less_true a b lt = elim (leb_tells (suc a) b) [
  | inl p ↦ p.0
  | inr p ↦ let le = p.1 in absurd (omega (arith, lt, le))
]

pub less_told : (a b : ℕ) → nat_lt a b ≡ true → a < b
less_told a b e = elim (leb_tells (suc a) b) [
  | inl p ↦ let lt = p.1 in omega (arith, lt)
  | inr p ↦ absurd (true≢false (sym e ∙ p.0))
]

-- ---- names of words

any_true : {X : Type 0} (test : X → Bool) (xs : List X) (x : X) → Contains xs x → test x ≡ true → list_any test xs ≡ true
any_true test [] x c e = absurd (contains_none [] x refl c)
any_true test (y ∷ ys) x c e = elim (contains_cases y ys x c) [
  | inl is ↦ first_so (test y) (list_any test ys) (ap test is ∙ e)
  | inr d ↦ later_so (test y) (list_any test ys) (any_true test ys x d e)
]
  where
    first_so : (a b : Bool) → a ≡ true → (a || b) ≡ true
    first_so true b e = refl
    first_so false b e = absurd (cc e)

    later_so : (a b : Bool) → b ≡ true → (a || b) ≡ true
    later_so true b e = refl
    later_so false b e = e

-- a name among the words' pieces is wanted
pub wanted_if_named : (words : List Text) (name : Text) → IsNamed words name → is_wanted words name ≡ true
wanted_if_named words name (word, listed, within) =
    any_true (λ other. is_among (pieces other) name) words word listed (any_true (λ other. bytes_eq other name) (pieces word) name within ((bytes_eq-Decides name name).1 refl))

-- ---- paths

-- the last name behind others, and those before it
pub last_behind : (names : List Text) (name : Text) → last_name (names ++ name ∷ []) ≡ name
last_behind [] name = refl
last_behind (other ∷ []) name = refl
last_behind (other ∷ next ∷ names) name = last_behind (next ∷ names) name

pub before_behind : (names : List Text) (name : Text) → names_before (names ++ name ∷ []) ≡ names
before_behind [] name = refl
before_behind (other ∷ []) name = refl
before_behind (other ∷ next ∷ names) name = ap (λ ns. other ∷ ns) (before_behind (next ∷ names) name)
