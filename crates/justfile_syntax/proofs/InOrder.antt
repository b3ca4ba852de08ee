-- Numbers that are in order stay so where an item with the next ones stands after others.
use Rattle.std.proofs.Common.{◌≡◌, ℕ, zero, suc, ◌+◌, List, [], ◌∷◌, ◌++◌, length, replicate, refl, ap, ◌∙◌, arith, length-append}
use Rattle.std.proofs.lemmas.Grind.{flat_map-append}
use Rattle.std.proofs.lemmas.List.{append-nil, length-map}
use Rattle.just_text.specs.Numbers.{Numbers}
use Rattle.tree_items.specs.declared.ast.Item.{Item}
use Rattle.tree_items.specs.declared.ast.Item.TheVariants.{Newline, Recipe}
use Rattle.parse_recipes.specs.Numbering.{count_from}
use Rattle.parse_items.specs.Numbered.{binding_numbers}
use Rattle.parse_attributed_items.specs.Held.{IsItemNumbered}
use Rattle.justfile_syntax.specs.Numbered.{AreInOrder, behind, bindings_in, recipe_numbers, recipes_in}

-- ---- numbers in a row

count_both : (start a b : ℕ) → count_from start (a + b) ≡ count_from start a ++ count_from (start + a) b
count_both start zero b =
    let none : zero + b ≡ b = omega arith in
    let same : start + zero ≡ start = omega arith in
    rw (none, same) refl
count_both start (suc a) b =
    let more : suc a + b ≡ suc (a + b) = omega arith in
    let on : start + suc a ≡ (start + 1) + a = omega arith in
    rw (more, on) (ap (λ (xs : List ℕ). start ∷ xs) (count_both (start + 1) a b))

in_row : (start : ℕ) (xs ys : List ℕ) → xs ≡ count_from start (length xs) → ys ≡ count_from (start + length xs) (length ys) → xs ++ ys ≡ count_from start (length (xs ++ ys))
in_row start xs ys these those =
    let all = length-append xs ys in
    let both = count_both start (length xs) (length ys) in
    cc

-- ---- the numbers of one item

-- what an item has of both kinds of numbers
record Has (old new : Numbers) (bindings recipes : List ℕ) : Type 0 where
  in_bindings : bindings ≡ count_from old.bindings (length bindings)
  in_recipes : recipes ≡ count_from old.recipes (length recipes)
  gone_on : new ≡ behind old (length bindings) (length recipes)

none_more : (old : Numbers) (n : ℕ) → record old { bindings = old.bindings + n } ≡ behind old n 0
none_more old n =
    let same : old.recipes ≡ old.recipes + 0 = omega arith in
    ap (λ (k : ℕ). record old { bindings = old.bindings + n; recipes = k }) same

has_next : (old new : Numbers) (i : Item) → IsItemNumbered old new i → Has old new (binding_numbers i) (recipe_numbers i)
has_next old new (Recipe r) h =
    let many = length-map r.parameters.items (λ p. p.number) in
    record { in_bindings = rw many h.numbers; in_recipes = ap (λ (k : ℕ). k ∷ []) h.number; gone_on = rw many h.gone_on }
has_next old new other h = record { in_bindings = h.count; in_recipes = refl; gone_on = h.gone_on ∙ none_more old (length (binding_numbers other)) }

-- ---- items after others

no_bindings : (n : ℕ) → bindings_in (replicate n Newline) ≡ []
no_bindings zero = refl
no_bindings (suc n) = no_bindings n

no_recipes : (n : ℕ) → recipes_in (replicate n Newline) ≡ []
no_recipes zero = refl
no_recipes (suc n) = no_recipes n

pub bindings_more : (items : List Item) (i : Item) (blanks : ℕ) → bindings_in (items ++ i ∷ replicate blanks Newline) ≡ bindings_in items ++ binding_numbers i
bindings_more items i blanks = flat_map-append binding_numbers items (i ∷ replicate blanks Newline) ∙ ap (λ (xs : List ℕ). bindings_in items ++ (binding_numbers i ++ xs)) (no_bindings blanks) ∙ ap (λ (xs : List ℕ). bindings_in items ++ xs) (append-nil (binding_numbers i))

pub recipes_more : (items : List Item) (i : Item) (blanks : ℕ) → recipes_in (items ++ i ∷ replicate blanks Newline) ≡ recipes_in items ++ recipe_numbers i
recipes_more items i blanks = flat_map-append recipe_numbers items (i ∷ replicate blanks Newline) ∙ ap (λ (xs : List ℕ). recipes_in items ++ (recipe_numbers i ++ xs)) (no_recipes blanks) ∙ ap (λ (xs : List ℕ). recipes_in items ++ xs) (append-nil (recipe_numbers i))

behind_both : (old : Numbers) (a b c d : ℕ) → behind (behind old a b) c d ≡ behind old (a + c) (b + d)
behind_both old a b c d =
    let bindings : (old.bindings + a) + c ≡ old.bindings + (a + c) = omega arith in
    let recipes : (old.recipes + b) + d ≡ old.recipes + (b + d) = omega arith in
    rw (bindings, recipes) refl

has_both : (old now new : Numbers) (bs rs cs ss : List ℕ) → Has old now bs rs → Has now new cs ss → Has old new (bs ++ cs) (rs ++ ss)
has_both old now new bs rs cs ss these this =
    let at_bindings : now.bindings ≡ old.bindings + length bs = ap (λ (n : Numbers). n.bindings) these.gone_on in
    let at_recipes : now.recipes ≡ old.recipes + length rs = ap (λ (n : Numbers). n.recipes) these.gone_on in
    record {
      in_bindings = in_row old.bindings bs cs these.in_bindings (rw at_bindings at this.in_bindings);
      in_recipes = in_row old.recipes rs ss these.in_recipes (rw at_recipes at this.in_recipes);
      gone_on = this.gone_on ∙ ap (λ (n : Numbers). behind n (length cs) (length ss)) these.gone_on ∙ behind_both old (length bs) (length rs) (length cs) (length ss)
          ∙ (let many = length-append bs cs in let most = length-append rs ss in rw (many, most) refl);
    }

pub none_in_order : (numbers : Numbers) (items : List Item) → items ≡ [] → AreInOrder numbers numbers items
none_in_order numbers items none =
    let bindings : numbers.bindings ≡ numbers.bindings + 0 = omega arith in
    let recipes : numbers.recipes ≡ numbers.recipes + 0 = omega arith in
    rw none (record { bindings = refl; recipes = refl; gone_on = let e : numbers ≡ behind numbers 0 0 = rw (← bindings, ← recipes) refl in e })

pub in_order : (old now new : Numbers) (items : List Item) (i : Item) (blanks : ℕ) → AreInOrder old now items → IsItemNumbered now new i → AreInOrder old new (items ++ i ∷ replicate blanks Newline)
in_order old now new items i blanks these this =
    let h = has_both old now new (bindings_in items) (recipes_in items) (binding_numbers i) (recipe_numbers i) (record { in_bindings = these.bindings; in_recipes = these.recipes; gone_on = these.gone_on }) (has_next now new i this) in
    let bindings = bindings_more items i blanks in
    let recipes = recipes_more items i blanks in
    record { bindings = rw bindings h.in_bindings; recipes = rw recipes h.in_recipes; gone_on = rw (bindings, recipes) h.gone_on }
