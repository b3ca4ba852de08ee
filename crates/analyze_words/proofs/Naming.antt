-- The recipes that a menu names.
use Rattle.std.proofs.Common.{◌≡◌, ◌⊎◌, inl, inr, ℕ, suc, Bool, true, false, cond, eqb-true, eq-eqb, List, [], ◌∷◌, ◌++◌, Option, Some, None, refl, sym, ap, ◌∙◌, append-nil, append_assoc, map}
use Rattle.std.specs.Prelude.{◌||◌, slice_get}
use Rattle.std.specs.BTreeMap.{IsOrdered, values}
use Rattle.std.specs.BTreeSet.{BTreeSet}
use Rattle.std.specs.Borrow.{Bor}
use Rattle.std.specs.Cmp.Lexicographic.{on_texts, slice_cmp}
use Rattle.std.specs.List.{list_any}
use Rattle.std.specs.Map.{lookup, values_of}
use Rattle.std.specs.Ordering.{nat_cmp}
use Rattle.std.proofs.lemmas.Bool.{or_left, or_right}
use Rattle.std.proofs.lemmas.List.{map-append}
use Rattle.std.proofs.lemmas.List.Folds.{list_any-append}
use Rattle.std.proofs.lemmas.Map.Entries.{btree_map_get_place}
use Rattle.analyze_words.specs.Menus.{AddsRecipes, has, is_place, meaning, recipe_of}
use Rattle.analyze_words.specs.declared.menu.Meaning.{Meaning}
use Rattle.analyze_words.specs.declared.menu.Meaning.TheVariants.{Recipe, Submodule}
use Rattle.analyze_words.specs.declared.menu.Menu.{Menu}
use Rattle.analyze_words.proofs.Groups.{by_test}

-- the recipe is one of the meanings
abbrev pub stands_for : ℕ → Meaning → Bool
stands_for recipe meaning = is_place (recipe_of meaning) recipe

is_there : (place : Option ℕ) (other : ℕ) → place ≡ Some other → is_place place other ≡ true
is_there None other e = absurd (cc e)
is_there (Some place) other e = eq-eqb place other (cc e)

there_is : (place : Option ℕ) (other : ℕ) → is_place place other ≡ true → place ≡ Some other
there_is None other e = absurd (cc e)
there_is (Some place) other e = ap (λ p. Some p) (eqb-true place other e)

recipe_is : (meaning : Meaning) (recipe : ℕ) → stands_for recipe meaning ≡ true → meaning ≡ Recipe recipe
recipe_is (Recipe place) recipe e = ap (λ p. Recipe p) (eqb-true place recipe e)
recipe_is (Submodule place) recipe e = absurd (cc e)

is_recipe : (meaning : Meaning) (recipe : ℕ) → meaning ≡ Recipe recipe → stands_for recipe meaning ≡ true
is_recipe meaning recipe e = ap (stands_for recipe) e ∙ eq-eqb recipe recipe refl

one_of_two : (a b : Bool) → (a || b) ≡ true → (a ≡ true) ⊎ (b ≡ true)
one_of_two true b e = inl refl
one_of_two false b e = inr e

same_found : (a b : Meaning) → Some a ≡ Some b → a ≡ b
same_found a b e = cc e

-- what is looked up is one of the meanings
looked_up : (test : Bor (List ℕ) → Bool) (entries : List (Bor (List ℕ) × Meaning)) (recipe : ℕ) → lookup test entries ≡ Some (Recipe recipe) → list_any (stands_for recipe) (values_of entries) ≡ true
looked_up test [] recipe e = absurd (cc e)
looked_up test (x ∷ xs) recipe e = by_test (test x.0)
    (λ t. or_left (stands_for recipe x.1) (list_any (stands_for recipe) (values_of xs)) (is_recipe x.1 recipe (same_found x.1 (Recipe recipe) (sym (ap (λ b. cond b (Some x.1) (lookup test xs)) t) ∙ e))))
    (λ t. or_right (stands_for recipe x.1) (list_any (stands_for recipe) (values_of xs)) (looked_up test xs recipe (sym (ap (λ b. cond b (Some x.1) (lookup test xs)) t) ∙ e)))

-- where one of the meanings stands
place_of : (entries : List (Bor (List ℕ) × Meaning)) (recipe : ℕ) → list_any (stands_for recipe) (values_of entries) ≡ true → (i : ℕ) × (key : Bor (List ℕ)) × (slice_get entries i ≡ Some (key, Recipe recipe))
place_of [] recipe e = absurd (cc e)
place_of (x ∷ xs) recipe e = elim (one_of_two (stands_for recipe x.1) (list_any (stands_for recipe) (values_of xs)) e) [
  | inl here ↦ (0, x.0, ap (λ m. Some (x.0, m)) (recipe_is x.1 recipe here))
  | inr later ↦ let found = place_of xs recipe later in (suc found.0, found.1, found.2)
]

-- one of the meanings is looked up by its name
named : (menu : Menu) (recipe : ℕ) → IsOrdered (λ x y. slice_cmp nat_cmp x.now y.now) menu.names → list_any (stands_for recipe) (values menu.names) ≡ true → (name : List ℕ) × (meaning menu name ≡ Some (Recipe recipe))
named menu recipe ordered e =
    let found = place_of menu.names.entries recipe e in
    (found.1.now, btree_map_get_place (on_texts (λ (key : Bor (List ℕ)). key.now)) menu.names found.0 found.1 (Recipe recipe) ordered found.2)

-- the default was added, and then each recipe for which a name stands
pub all_added : (menu : Menu) (before between after : BTreeSet ℕ) (met : List Meaning)
    → ((other : ℕ) → has between other ≡ (has before other || is_place menu.default other))
    → ((other : ℕ) → has after other ≡ (has between other || list_any (stands_for other) met))
    → met ≡ values menu.names → IsOrdered (λ x y. slice_cmp nat_cmp x.now y.now) menu.names → AddsRecipes menu before after
all_added menu before between after met first others all ordered = record {
  kept = λ recipe h. others recipe ∙ or_left (has between recipe) (list_any (stands_for recipe) met) (first recipe ∙ or_left (has before recipe) (is_place menu.default recipe) h);
  added = λ recipe n. elim n [
    | inl d ↦ others recipe ∙ or_left (has between recipe) (list_any (stands_for recipe) met) (first recipe ∙ or_right (has before recipe) (is_place menu.default recipe) (is_there menu.default recipe d))
    | inr m ↦ others recipe ∙ or_right (has between recipe) (list_any (stands_for recipe) met) (ap (list_any (stands_for recipe)) all ∙ looked_up _ menu.names.entries recipe m.1)
  ];
  sound = λ recipe h. elim (one_of_two (has between recipe) (list_any (stands_for recipe) met) (sym (others recipe) ∙ h)) [
    | inl b ↦ elim (one_of_two (has before recipe) (is_place menu.default recipe) (sym (first recipe) ∙ b)) [ inl o ↦ inl o | inr d ↦ inr (inl (there_is menu.default recipe d)) ]
    | inr m ↦ inr (inr (named menu recipe ordered (sym (ap (list_any (stands_for recipe)) all) ∙ m)))
  ];
}

-- the recipes among the meanings so far were added, and the others are left
abbrev pub AreAddedOf : BTreeSet ℕ → BTreeSet ℕ → List Meaning → List Meaning → List Meaning → Type 0
AreAddedOf before after met rest all = ((other : ℕ) → has after other ≡ (has before other || list_any (stands_for other) met)) × (met ++ rest ≡ all)

or_end : (a b c : Bool) → ((a || b) || c) ≡ (a || (b || (c || false)))
or_end true b c = refl
or_end false true c = refl
or_end false false true = refl
or_end false false false = refl

-- one meaning more
pub one_more : (before between after : BTreeSet ℕ) (met : List (Bor Meaning)) (m : Bor Meaning) (rest left all : List Meaning) (place : Option ℕ)
    → AreAddedOf before between (map (λ m. m.now) met) rest all → place ≡ recipe_of m.now → ((other : ℕ) → has after other ≡ (has between other || is_place place other)) → rest ≡ m.now ∷ left
    → AreAddedOf before after (map (λ m. m.now) (met ++ m ∷ [])) left all
one_more before between after met m rest left all place so is added next =
    let now : Bor Meaning → Meaning = λ m. m.now in
    let nows : List Meaning = map now met in
    let row : map now (met ++ m ∷ []) ≡ nows ++ m.now ∷ [] = map-append now met (m ∷ []) in (
      λ other. added other ∙ (λ k. so.0 other k || is_place (is k) other) ∙ or_end (has before other) (list_any (stands_for other) nows) (stands_for other m.now)
          ∙ ap (λ b. has before other || b) (sym (ap (list_any (stands_for other)) row ∙ list_any-append (stands_for other) nows (m.now ∷ []))),
      ap (λ ms. ms ++ left) row ∙ append_assoc nows (m.now ∷ []) left ∙ ap (λ ms. nows ++ ms) (sym next) ∙ so.1,
    )

-- no meaning is left
pub none_left : (met rest all : List Meaning) → rest ≡ [] → met ++ rest ≡ all → met ≡ all
none_left met rest all e so = sym (append-nil met) ∙ ap (λ ms. met ++ ms) (sym e) ∙ so
