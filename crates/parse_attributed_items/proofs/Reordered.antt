-- The options for a parameter are the same in whatever order attributes stand, where no two `arg`s are for one parameter.
use Rattle.std.proofs.Common.{◌≡◌, ℕ, Bool, true, false, List, [], ◌∷◌, map, Option, Some, None, refl, sym, ap, ◌∙◌, subst, inl, inr, if◌then◌else◌}
use Rattle.std.specs.Prelude.{find, filter_map, not, ◌&&◌, bytes_eq}
use Rattle.std.specs.List.{All, cons_option, list_any}
use Rattle.tree_attributes.specs.Attributes.{AttributeShape, OptionsShape}
use Rattle.tree_attributes.specs.Sets.Order.{in_order, is_before, put, sorted}
use Rattle.parse_attributes.specs.Seen.{options_in}
use Rattle.parse_expressions.specs.Literals.{Expansion}
use Rattle.parse_expressions.proofs.Taken.{test, text_same}
use Rattle.parse_attributed_items.specs.Options.{HaveOptions, meant_or_none}
use Rattle.parse_attributed_items.specs.Rules.{are_distinct, fault_of, for_name, is_among, is_for, name_parameters, names_of}
use Rattle.parse_attributed_items.proofs.Lists.{either_way}
use Rattle.tree_items.specs.declared.recipe.Parameter.{Parameter}
use Rattle.tree_items.specs.Recipes.{ParameterShape}
use Rattle.just_text.specs.Tokens.{lexeme}
use Rattle.parse_attributed_items.specs.Fitting.{options_among}

-- ---- elements of which one at most passes

module _ {A B : Type 0} (g : A → Option B) (f : B → Bool) (before : A → A → Bool) where
  abbrev seen : List A → Option B
  seen xs = find f (filter_map g xs)

  abbrev first_of : Option B → List A → Option B
  first_of o xs = find f (cons_option o (filter_map g xs))

  -- one that is none, or doesn't pass, doesn't count
  passed_over : (o : Option B) (xs : List A) → find f (cons_option o []) ≡ None → first_of o xs ≡ seen xs
  passed_over None xs h = refl
  passed_over (Some y) xs h = elim (test (f y)) [ inl is ↦ let no = rw is at h in absurd cc | inr is ↦ rw is refl ]

  behind_one : (y : A) (xs ys : List A) → seen xs ≡ seen ys → first_of (g y) xs ≡ first_of (g y) ys
  behind_one y xs ys same = by (g y)
    where
      by : (o : Option B) → first_of o xs ≡ first_of o ys
      by None = same
      by (Some z) = elim (test (f z)) [ inl is ↦ rw is refl | inr is ↦ rw is same ]

  put_over : (x : A) (xs : List A) → find f (cons_option (g x) []) ≡ None → seen (put before x xs) ≡ seen xs
  unfolding put
  put_over x [] h = passed_over (g x) [] h
  put_over x (y ∷ ys) h =
      elim (test (before y x)) [
        | inl is ↦ rw is (behind_one y (put before x ys) ys (put_over x ys h))
        | inr is ↦ rw is (passed_over (g x) (y ∷ ys) h)
      ]

  none_behind : (o : Option B) (xs : List A) → first_of o xs ≡ None → (find f (cons_option o []) ≡ None) × (seen xs ≡ None)
  none_behind None xs h = (refl, h)
  none_behind (Some y) xs h = elim (test (f y)) [ inl is ↦ let no = rw is at h in absurd cc | inr is ↦ (rw is refl, rw is at h) ]

  put_alone : (x : A) (o : B) (xs : List A) → g x ≡ Some o → f o ≡ true → seen xs ≡ None → seen (put before x xs) ≡ Some o
  unfolding put
  put_alone x o [] is passes none = rw (is, passes) refl
  put_alone x o (y ∷ ys) is passes none =
      let others = none_behind (g y) ys none in
      elim (test (before y x)) [
        | inl comes ↦ rw comes (passed_over (g y) (put before x ys) others.0 ∙ put_alone x o ys is passes others.1)
        | inr comes ↦ rw (comes, is, passes) refl
      ]

  -- after each that passes none does
  pub Once : List A → Type 0
  Once [] = Unit {0}
  Once (x ∷ xs) = ((o : B) → g x ≡ Some o → f o ≡ true → seen xs ≡ None) × Once xs

  found_in_order : (x : A) (o : Option B) (xs ys : List A) → g x ≡ o → seen ys ≡ seen xs → ((z : B) → g x ≡ Some z → f z ≡ true → seen xs ≡ None) → seen (put before x ys) ≡ first_of o xs
  found_in_order x None xs ys is same once = put_over x ys (rw is refl) ∙ same
  found_in_order x (Some z) xs ys is same once =
      elim (test (f z)) [
        | inl passes ↦ rw passes (put_alone x z ys is passes (same ∙ once z is passes))
        | inr passes ↦ rw passes (put_over x ys (rw (is, passes) refl) ∙ same)
      ]

  pub sorted_alike : (xs : List A) → Once xs → seen (sorted before xs) ≡ seen xs
  unfolding sorted Once
  sorted_alike [] once = refl
  sorted_alike (x ∷ xs) once = found_in_order x (g x) xs (sorted before xs) refl (sorted_alike xs once.1) once.0

-- ---- `arg`s for different parameters

module _ (x : Expansion) (name : List ℕ) where
  none_among : (os : List OptionsShape) → is_among (map (for_name x) os) name ≡ false → find (is_for x name) os ≡ None
  none_among [] h = refl
  none_among (o ∷ os) h =
      elim (test (bytes_eq name (for_name x o))) [
        | inl is ↦ let no = rw is at h in absurd cc
        | inr is ↦ rw (either_way (for_name x o) name, is) (none_among os (rw is at h))
      ]

  distinct_behind : (o : OptionsShape) (os : List OptionsShape) → are_distinct (map (for_name x) (o ∷ os)) ≡ true → (is_among (map (for_name x) os) (for_name x o) ≡ false) × (are_distinct (map (for_name x) os) ≡ true)
  distinct_behind o os h =
      elim (test (is_among (map (for_name x) os) (for_name x o))) [
        | inl is ↦ let no = rw is at h in absurd cc
        | inr is ↦ (is, rw is at h)
      ]

  abbrev option_of : AttributeShape → Option OptionsShape
  option_of a = options_in (Some a)

  once_with : (a : AttributeShape) (as' : List AttributeShape) (o : Option OptionsShape) → option_of a ≡ o → are_distinct (map (for_name x) (options_among (a ∷ as'))) ≡ true
      → (are_distinct (map (for_name x) (options_among as')) ≡ true → Once option_of (is_for x name) is_before as') → Once option_of (is_for x name) is_before (a ∷ as')
  unfolding Once
  once_with a as' None is h others = ((λ z same passes. let no : None ≡ Some z = sym is ∙ same in absurd cc), others (rw is at h))
  once_with a as' (Some o) is h others =
      let d = distinct_behind o (options_among as') (rw is at h) in (
        (λ z same passes.
            let s : Some o ≡ Some z = sym is ∙ same in
            let e : o ≡ z = cc in
            let named : for_name x o ≡ name = text_same (for_name x o) name (subst (λ v. is_for x name v ≡ true) (sym e) passes) in
            none_among (options_among as') (subst (λ n. is_among (map (for_name x) (options_among as')) n ≡ false) named d.0)),
        others d.1,
      )

  once_if_distinct : (as' : List AttributeShape) → are_distinct (map (for_name x) (options_among as')) ≡ true → Once option_of (is_for x name) is_before as'
  unfolding Once
  once_if_distinct [] h = tt
  once_if_distinct (a ∷ as') h = once_with a as' (option_of a) refl h (once_if_distinct as')

  -- the `arg` for a parameter is the same one in the attributes' order
  pub found_alike : (as' : List AttributeShape) → are_distinct (map (for_name x) (options_among as')) ≡ true → find (is_for x name) (options_among (in_order as')) ≡ find (is_for x name) (options_among as')
  found_alike as' h = sorted_alike option_of (is_for x name) is_before as' (once_if_distinct as' h)

-- where `arg`s break no rule no two are for one parameter
pub distinct_if_fits : (x : Expansion) (recipe : List ℕ) (as' : List AttributeShape) (ps : List ParameterShape) → fault_of x recipe (options_among as') ps ≡ None → are_distinct (map (for_name x) (options_among as')) ≡ true
distinct_if_fits x recipe as' ps h =
    elim (test (name_parameters x (names_of ps) (options_among as'))) [
      | inl named ↦ elim (test (are_distinct (map (for_name x) (options_among as')))) [ inl is ↦ is | inr is ↦ let no = rw (named, is) at h in absurd cc ]
      | inr named ↦ let no = rw named at h in absurd cc
    ]

-- parameters have the options that `arg`s give them, and they have them of the same `arg`s in the attributes' order
pub options_alike : (x : Expansion) (as' : List AttributeShape) (ps : List Parameter) → are_distinct (map (for_name x) (options_among as')) ≡ true → HaveOptions x (options_among as') ps → HaveOptions x (options_among (in_order as')) ps
options_alike x as' ps distinct all k d less = all k d less ∙ ap (meant_or_none x) (sym (found_alike x _ as' distinct))
