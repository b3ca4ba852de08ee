-- Components of paths one by one, and where they lead.
use Rattle.std.proofs.Common.{◌≡◌, ℕ, suc, ◌<◌, ◌-◌, Bool, true, false, ◌&&◌, eqb, eqb-true, List, [], ◌∷◌, ◌++◌, take, length, get_or, Some, None, refl, ap, ◌∙◌, arith}
use Rattle.std.specs.Borrow.{Bor}
use Rattle.std.specs.List.{All, list_all}
use Rattle.std.specs.Option.{option_and_then}
use Rattle.std.specs.declared.option.Option.{Option}
use Rattle.std.proofs.lemmas.Bool.{false_from_ne_true}
use Rattle.std.proofs.lemmas.List.Elements.{All-from_get_or}
use Rattle.std.proofs.lemmas.List.Splits.{slice_split_none, slice_split_at, length-slice_split}
use Rattle.std.proofs.lemmas.Str.Pattern.{IsSplitOnceResult, split_parts}
use Rattle.modules_compilation.specs.Paths.{components, is_part, is_clean, but_last, enter, walk}

no_slash : (xs : List ℕ) → ((i : ℕ) → i < length xs → get_or xs i 0 ≡ 47 → ⊥) → All (λ b. eqb b 47 ≡ false) xs
no_slash xs h = All-from_get_or (λ b. eqb b 47 ≡ false) xs 0 (λ i lt. false_from_ne_true (eqb (get_or xs i 0) 47) (λ e. h i lt (eqb-true (get_or xs i 0) 47 e)))

-- the first component, and those after its `/`
first_component : (rest : List ℕ) (x y : Bor (List ℕ)) → IsSplitOnceResult 47 rest (Some (x, y)) → components rest ≡ x.now ∷ components y.now
first_component rest x y cut =
    let parts = split_parts 47 rest (Some (x, y)) cut (omega arith) in
    ap components parts.0 ∙ slice_split_at (λ b. eqb b 47) x.now 47 y.now (no_slash x.now parts.1) refl

-- a path without `/` is its only component
only_component : (rest : List ℕ) (r : Option (Bor (List ℕ) × Bor (List ℕ))) → IsSplitOnceResult 47 rest r → ((x : Bor (List ℕ) × Bor (List ℕ)) → r ≡ Some x → ⊥) → components rest ≡ rest ∷ []
only_component rest None cut never = slice_split_none (λ b. eqb b 47) rest (no_slash rest (split_parts 47 rest None cut (omega arith)))
only_component rest (Some x) cut never = absurd (never x refl)

and_true : (b : Bool) → (b && true) ≡ b
and_true true = refl
and_true false = refl

pub clean_on : (rest : List ℕ) (x y : Bor (List ℕ)) → IsSplitOnceResult 47 rest (Some (x, y)) → is_part x.now ≡ true → is_clean rest ≡ is_clean y.now
unfolding is_clean
clean_on rest x y cut part = ap (list_all is_part) (first_component rest x y cut) ∙ ap (λ b. b && list_all is_part (components y.now)) part

pub unclean : (rest : List ℕ) (x y : Bor (List ℕ)) → IsSplitOnceResult 47 rest (Some (x, y)) → is_part x.now ≡ false → is_clean rest ≡ false
unfolding is_clean
unclean rest x y cut part = ap (list_all is_part) (first_component rest x y cut) ∙ ap (λ b. b && list_all is_part (components y.now)) part

pub clean_end : (rest : List ℕ) (r : Option (Bor (List ℕ) × Bor (List ℕ))) → IsSplitOnceResult 47 rest r → ((x : Bor (List ℕ) × Bor (List ℕ)) → r ≡ Some x → ⊥) → is_clean rest ≡ is_part rest
unfolding is_clean
clean_end rest r cut never = ap (list_all is_part) (only_component rest r cut never) ∙ and_true (is_part rest)

abbrev Folder : Type 0
Folder = List (List ℕ)

but_last_more : (x : List ℕ) (xs : List (List ℕ)) → 0 < length xs → but_last (x ∷ xs) ≡ x ∷ but_last xs
but_last_more x xs some = let e : suc (length xs) - 1 ≡ suc (length xs - 1) = omega (arith, some) in ap (λ n. take n (x ∷ xs)) e

some_component : (path : List ℕ) → 0 < length (components path)
some_component path = omega (arith, length-slice_split (λ b. eqb b 47) path)

leads_on : (f g : Folder) (x : List ℕ) (xs : List (List ℕ)) → enter f x ≡ Some g → walk f (x ∷ xs) ≡ walk g xs
leads_on f g x xs e = ap (option_and_then (λ inner. walk inner xs)) e

leads_off : (f : Folder) (x : List ℕ) (xs : List (List ℕ)) → enter f x ≡ None → walk f (x ∷ xs) ≡ None
leads_off f x xs e = ap (option_and_then (λ inner. walk inner xs)) e

all_but_last : (rest : List ℕ) (x y : Bor (List ℕ)) → IsSplitOnceResult 47 rest (Some (x, y)) → but_last (components rest) ≡ x.now ∷ but_last (components y.now)
all_but_last rest x y cut = ap but_last (first_component rest x y cut) ∙ but_last_more x.now (components y.now) (some_component y.now)

-- one component further, both of all components and of all but the last
pub walk_on : (f g : Folder) (rest : List ℕ) (x y : Bor (List ℕ)) → IsSplitOnceResult 47 rest (Some (x, y)) → enter f x.now ≡ Some g
    → (walk f (but_last (components rest)) ≡ walk g (but_last (components y.now))) × (walk f (components rest) ≡ walk g (components y.now))
walk_on f g rest x y cut e =
    (ap (walk f) (all_but_last rest x y cut) ∙ leads_on f g x.now (but_last (components y.now)) e, ap (walk f) (first_component rest x y cut) ∙ leads_on f g x.now (components y.now) e)

pub walk_off : (f : Folder) (rest : List ℕ) (x y : Bor (List ℕ)) → IsSplitOnceResult 47 rest (Some (x, y)) → enter f x.now ≡ None
    → (walk f (but_last (components rest)) ≡ None) × (walk f (components rest) ≡ None)
walk_off f rest x y cut e =
    (ap (walk f) (all_but_last rest x y cut) ∙ leads_off f x.now (but_last (components y.now)) e, ap (walk f) (first_component rest x y cut) ∙ leads_off f x.now (components y.now) e)

as_it_is : (o : Option Folder) → option_and_then (λ f. Some f) o ≡ o
as_it_is None = refl
as_it_is (Some f) = refl

pub walk_end : (f : Folder) (rest : List ℕ) (r : Option (Bor (List ℕ) × Bor (List ℕ))) → IsSplitOnceResult 47 rest r → ((x : Bor (List ℕ) × Bor (List ℕ)) → r ≡ Some x → ⊥)
    → (walk f (but_last (components rest)) ≡ Some f) × (walk f (components rest) ≡ enter f rest)
walk_end f rest r cut never =
    let only = only_component rest r cut never in
    (ap (λ cs. walk f (but_last cs)) only, ap (walk f) only ∙ as_it_is (enter f rest))

further : (o : Option Folder) (xs ys : List (List ℕ)) → ((f : Folder) → walk f (xs ++ ys) ≡ option_and_then (λ g. walk g ys) (walk f xs))
    → option_and_then (λ f. walk f (xs ++ ys)) o ≡ option_and_then (λ g. walk g ys) (option_and_then (λ f. walk f xs) o)
further None xs ys h = refl
further (Some f) xs ys h = h f

-- where components lead, and then others
pub walk-append : (f : Folder) (xs ys : List (List ℕ)) → walk f (xs ++ ys) ≡ option_and_then (λ g. walk g ys) (walk f xs)
walk-append f [] ys = refl
walk-append f (x ∷ xs) ys = further (enter f x) xs ys (λ g. walk-append g xs ys)
