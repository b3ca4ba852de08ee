-- What is given of a list in byte order of names is in byte order of names.
use Rattle.std.proofs.Common.{◌≡◌, sym, subst, refl, List, [], ◌∷◌, map, Option, Some, None}
use Rattle.std.specs.Prelude.{Contains}
use Rattle.std.specs.List.{AllByRecursion, cons_option, filter_map}
use Rattle.std.specs.List.Sorted.{IsStrictlySortedBy}
use Rattle.std.specs.declared.cmp.Ordering.TheVariants.{Less}
use Rattle.modules_compilation.specs.Tables.{text_cmp}
use Rattle.meaning_rules.specs.Worlds.Given.{Text}
use Rattle.meaning_rules.proofs.Worlds.Places.{contains_at, contains_first, contains_later, place_of}
use Rattle.laws_modules.proofs.Names.Found.{mapped, mapped_at}

-- what a function makes of an element is among what it makes of the list, and what is there it made
pub made_there : {X Y : Type 0} (f : X → Y) (xs : List X) (x : X) → Contains xs x → Contains (map f xs) (f x)
made_there f xs x c = let p = place_of xs x c in contains_at (map f xs) p.0 (f x) (mapped f xs p.0 x p.1)

pub made_back : {X Y : Type 0} (f : X → Y) (xs : List X) (y : Y) → Contains (map f xs) y → (x : X) × Contains xs x × (f x ≡ y)
made_back f xs y c = let p = place_of (map f xs) y c in let m = mapped_at f xs p.0 y p.1 in (m.0, contains_at xs p.0 m.0 m.1, m.2)

module _ {X Y : Type 0} (h : X → Option Y) (f : X → Text) (g : Y → Text) where
  -- each that is given has the name of what it is given of
  abbrev pub HaveNames : List X → Type 0
  HaveNames xs = (x : X) (y : Y) → Contains xs x → h x ≡ Some y → g y ≡ f x

  names_later : (x : X) (xs : List X) → HaveNames (x ∷ xs) → HaveNames xs
  names_later x xs names = λ z y c e. names z y (contains_later x xs z c) e

  all_given : (P : Text → Type 0) (xs : List X) → HaveNames xs → AllByRecursion P (map f xs) → AllByRecursion P (map g (filter_map h xs))
  all_given P [] names all = tt
  all_given P (x ∷ xs) names all = by_given (h x) refl (all_given P xs (names_later x xs names) all.1)
    where
      by_given : (o : Option Y) → h x ≡ o → AllByRecursion P (map g (filter_map h xs)) → AllByRecursion P (map g (cons_option o (filter_map h xs)))
      by_given None e rest = rest
      by_given (Some y) e rest = (subst P (sym (names x y (contains_first x xs) e)) all.0, rest)

  pub sorted_given : (xs : List X) → HaveNames xs → IsStrictlySortedBy text_cmp (map f xs) → IsStrictlySortedBy text_cmp (map g (filter_map h xs))
  unfolding IsStrictlySortedBy
  sorted_given [] names sorted = tt
  sorted_given (x ∷ xs) names sorted = by_given (h x) refl (sorted_given xs (names_later x xs names) sorted.1)
    where
      by_given : (o : Option Y) → h x ≡ o → IsStrictlySortedBy text_cmp (map g (filter_map h xs)) → IsStrictlySortedBy text_cmp (map g (cons_option o (filter_map h xs)))
      by_given None e rest = rest
      by_given (Some y) e rest =
          (subst (λ t. AllByRecursion (λ z. text_cmp t z ≡ Less) (map g (filter_map h xs))) (sym (names x y (contains_first x xs) e)) (all_given (λ z. text_cmp (f x) z ≡ Less) xs (names_later x xs names) sorted.0), rest)
