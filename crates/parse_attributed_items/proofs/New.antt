-- Names that are new one after the other are those that differ.
use Rattle.std.proofs.Common.{◌≡◌, ℕ, Bool, true, false, List, [], ◌∷◌, map, Some, None, Option, refl, sym, ap, ◌∙◌}
use Rattle.std.specs.Prelude.{not, ◌&&◌, ◌||◌, filter_map}
use Rattle.std.specs.List.{list_all}
use Rattle.std.specs.Str.{bytes_eq}
use Rattle.parse_attributed_items.specs.Names.{are_new, is_new, with_name}
use Rattle.parse_attributed_items.specs.Rules.{are_distinct, is_among}
use Rattle.parse_attributed_items.proofs.Lists.{either_way}

-- none of the names is one of those before
abbrev pub are_others : List (List ℕ) → List (List ℕ) → Bool
are_others before names = list_all (λ name. not (is_among before name)) names

-- ---- tests

not_or : (a b : Bool) → not (a || b) ≡ (not a && not b)
not_or true b = refl
not_or false b = refl

and_swap : (a b c d : Bool) → (a && (b && (c && d))) ≡ ((c && b) && (a && d))
and_swap true true true d = refl
and_swap true true false d = refl
and_swap true false true d = refl
and_swap true false false d = refl
and_swap false true true d = refl
and_swap false true false d = refl
and_swap false false true d = refl
and_swap false false false d = refl

and_pairs : (a b c d : Bool) → ((a && b) && (c && d)) ≡ ((a && c) && (b && d))
and_pairs true true c d = refl
and_pairs true false true d = refl
and_pairs true false false d = refl
and_pairs false b c d = refl

-- ---- names before

-- none is the first name, where that is none of them
others_than : (name : List ℕ) (names : List (List ℕ)) → list_all (λ x. not (bytes_eq x name)) names ≡ not (is_among names name)
others_than name [] = refl
others_than name (x ∷ names) = rw (others_than name names, either_way x name) (sym (not_or (bytes_eq name x) (is_among names name)))

others_more : (before names : List (List ℕ)) (name : List ℕ) → are_others (name ∷ before) names ≡ (not (is_among names name) && are_others before names)
others_more before [] name = refl
others_more before (x ∷ names) name =
    rw (others_more before names name, not_or (bytes_eq x name) (is_among before x), not_or (bytes_eq name x) (is_among names name), either_way x name)
    (and_pairs (not (bytes_eq name x)) (not (is_among before x)) (not (is_among names name)) (are_others before names))

module _ {X : Type 0} (f : X → Option (List ℕ)) where
  told : (n : Option (List ℕ)) (before : List (List ℕ)) (x : X) (xs : List X) → f x ≡ n → (are_new f (with_name before n) xs ≡ (are_distinct (filter_map f xs) && are_others (with_name before n) (filter_map f xs)))
      → are_new f before (x ∷ xs) ≡ (are_distinct (filter_map f (x ∷ xs)) && are_others before (filter_map f (x ∷ xs)))
  told None before x xs e h = rw e h
  told (Some name) before x xs e h =
      rw (e, h, others_more before (filter_map f xs) name)
      (and_swap (not (is_among before name)) (are_distinct (filter_map f xs)) (not (is_among (filter_map f xs) name)) (are_others before (filter_map f xs)))

  new_are_distinct : (before : List (List ℕ)) (xs : List X) → are_new f before xs ≡ (are_distinct (filter_map f xs) && are_others before (filter_map f xs))
  new_are_distinct before [] = refl
  new_are_distinct before (x ∷ xs) = told (f x) before x xs refl (new_are_distinct (with_name before (f x)) xs)

and_true : (a : Bool) → (a && true) ≡ a
and_true true = refl
and_true false = refl

-- nothing is one of no names
others_than_none : (names : List (List ℕ)) → are_others [] names ≡ true
others_than_none [] = refl
others_than_none (name ∷ names) = others_than_none names

-- names that are new one after the other differ
pub new_if_distinct : {X : Type 0} (f : X → Option (List ℕ)) (xs : List X) → are_new f [] xs ≡ are_distinct (filter_map f xs)
new_if_distinct f xs = new_are_distinct f [] xs ∙ ap (λ b. are_distinct (filter_map f xs) && b) (others_than_none (filter_map f xs)) ∙ and_true (are_distinct (filter_map f xs))

-- each says a name
pub all_named : {X : Type 0} (g : X → List ℕ) (xs : List X) → filter_map (λ x. Some (g x)) xs ≡ map g xs
all_named g [] = refl
all_named g (x ∷ xs) = ap (λ ys. g x ∷ ys) (all_named g xs)

-- ---- one name after the other

module _ {X : Type 0} (f : X → Option (List ℕ)) (before : List (List ℕ)) (x : X) (xs : List X) (total : Bool) (so_far : are_new f before (x ∷ xs) ≡ total) where
  -- a name comes again
  pub comes_again : is_new before (f x) ≡ false → true ≡ not total
  comes_again old = let e : false ≡ total = rw old at so_far in rw (sym e) refl

  -- a new name comes
  pub comes_new : is_new before (f x) ≡ true → are_new f (with_name before (f x)) xs ≡ total
  comes_new new = rw new at so_far
