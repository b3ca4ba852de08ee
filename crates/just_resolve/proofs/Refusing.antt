-- The element of a list that gives the first answer, or that is refused.
use Rattle.std.proofs.Common.{◌≡◌, ◌∙◌, List, [], ◌∷◌, Option, Some, None, Result, Ok, Err, inl, inr, refl, ap}
use Rattle.std.specs.Prelude.{Contains}
use Rattle.std.specs.List.{cons_option, filter_map}
use Rattle.std.specs.Option.{option_or}
use Rattle.std.proofs.lemmas.Option.{none-some}
use Rattle.meaning_rules.proofs.Worlds.Places.{contains_cases, contains_first, contains_later, contains_none}
use Rattle.just_resolve.specs.Gathered.{all_before, gathered, one_before}
use Rattle.just_resolve.specs.Table.{first_of}

-- an element of the list comes to this
pub record ComesOf {X Y : Type 0} (of : X → Y) (xs : List X) (y : Y) : Type 0 where
  pub x : X
  pub listed : Contains xs x
  pub is : of x ≡ y

further : {X Y : Type 0} (of : X → Y) (x : X) (xs : List X) (y : Y) → ComesOf of xs y → ComesOf of (x ∷ xs) y
further of x xs y more = record { x = more.x; listed = contains_later x xs more.x more.listed; is = more.is }

module _ {X Y : Type 0} (of : X → Option Y) where
  -- the first answer is that of an element
  pub first_answered : (xs : List X) (y : Y) → first_of of xs ≡ Some y → ComesOf of xs (Some y)
  first_answered [] y e = absurd (none-some y e)
  first_answered (x ∷ xs) y e = by_answer (of x) refl e (first_answered xs y)
    where
      by_answer : (o : Option Y) → of x ≡ o → option_or o (first_of of xs) ≡ Some y → (first_of of xs ≡ Some y → ComesOf of xs (Some y)) → ComesOf of (x ∷ xs) (Some y)
      by_answer (Some z) is so later = record { x = x; listed = contains_first x xs; is = is ∙ so }
      by_answer None is so later = further of x xs (Some y) (later so)

  -- what is kept of a list comes of one of its elements
  pub kept_comes : (xs : List X) (y : Y) → Contains (filter_map of xs) y → ComesOf of xs (Some y)
  kept_comes [] y h = absurd (contains_none [] y refl h)
  kept_comes (x ∷ xs) y h = by_option (of x) refl (kept_comes xs y) h
    where
      by_option : (o : Option Y) → of x ≡ o → (Contains (filter_map of xs) y → ComesOf of xs (Some y)) → Contains (cons_option o (filter_map of xs)) y → ComesOf of (x ∷ xs) (Some y)
      by_option None is later c = further of x xs (Some y) (later c)
      by_option (Some z) is later c = elim (contains_cases z (filter_map of xs) y c) [
        | inl same ↦ record { x = x; listed = contains_first x xs; is = is ∙ ap (λ v. Some v) same }
        | inr more ↦ further of x xs (Some y) (later more)
      ]

module _ {X A E : Type 0} (of : X → Result A E) where
  rest_refused : (a : A) (others : Result (List A) E) (fault : E) → all_before (a ∷ []) others ≡ Err fault → others ≡ Err fault
  rest_refused a (Ok all) fault e = absurd (cc e)
  rest_refused a (Err other) fault e = e

  -- what is refused, is so for one of the elements
  pub one_refused : (xs : List X) (fault : E) → gathered of xs ≡ Err fault → ComesOf of xs (Err fault)
  one_refused [] fault e = absurd (cc e)
  one_refused (x ∷ xs) fault e = by_result (of x) refl e (one_refused xs fault)
    where
      by_result : (r : Result A E) → of x ≡ r → one_before r (gathered of xs) ≡ Err fault → (gathered of xs ≡ Err fault → ComesOf of xs (Err fault)) → ComesOf of (x ∷ xs) (Err fault)
      by_result (Ok a) is so later = further of x xs (Err fault) (later (rest_refused a (gathered of xs) fault so))
      by_result (Err other) is so later =
          let same : other ≡ fault = cc so in
          record { x = x; listed = contains_first x xs; is = is ∙ ap (λ f. Err f) same }
