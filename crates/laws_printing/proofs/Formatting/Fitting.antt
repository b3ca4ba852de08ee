-- What holds of attributes as they are written holds of them in their order.
use Rattle.std.proofs.Common.{◌≡◌, ℕ, Bool, true, false, List, [], ◌∷◌, ◌++◌, map, Option, Some, None, refl, sym, ap, subst, ◌∙◌, inl, inr}
use Rattle.std.specs.Prelude.{codes, find, filter_map, not, ◌&&◌, ◌||◌, is_some, bytes_eq}
use Rattle.std.specs.Cmp.{IsStrictWeakOrder}
use Rattle.std.specs.List.{cons_option, list_all, list_any}
use Rattle.std.proofs.lemmas.Bool.{and_parts}
use Rattle.std.proofs.lemmas.List.Sorted.{ranks_by}
use Rattle.tree_attributes.specs.declared.attribute.AttributeKind.{AttributeKind}
use Rattle.tree_attributes.specs.declared.attribute.AttributeKind.TheVariants as attributes
use Rattle.tree_attributes.specs.Attributes.{AttributeShape, OptionsShape, kind_of, kind_name, is_repeatable}
use Rattle.tree_attributes.specs.declared.item_kind.ItemKind.{ItemKind}
use Rattle.tree_attributes.specs.Sets.Order.{in_order, is_before, put, sorted, attribute_total}
use Rattle.tree_attributes.proofs.Sets.Sorted.{sorted_twice}
use Rattle.tree_items.specs.Files.{ItemShape, alias_item, assignment_item, comment_item, function_item, import_item, module_item, newline_item, recipe_item, set_item, unexport_item, kind_of as item_kind_of}
use Rattle.tree_items.specs.Recipes.{ParameterShape, is_variadic}
use Rattle.parse_expressions.specs.Literals.{Expansion}
use Rattle.parse_expressions.proofs.Taken.{test, text_same}
use Rattle.parse_attributes.specs.Seen.{options_in}
use Rattle.parse_attributed_items.specs.Fitting.{Fit, may_stand, is_misfit, is_like, repeated, options_among, argument_fault}
use Rattle.parse_attributed_items.specs.Rules.{is_among, are_distinct, names_of, for_name, long_name, short_name, name_parameters, is_for, may_lack, late, fault_of}
use Rattle.parse_attributed_items.proofs.Lists.{either_way}
use Rattle.laws_printing.specs.Printing.Attributes.{AllOf}

or_no : (a b : Bool) → (a || b) ≡ false → (a ≡ false) × (b ≡ false)
or_no true b h = absurd cc
or_no false b h = (refl, h)

no_or : (a b : Bool) → a ≡ false → b ≡ false → (a || b) ≡ false
no_or true b p q = cc
no_or false b p q = q

yes_and : (a b : Bool) → a ≡ true → b ≡ true → (a && b) ≡ true
yes_and true b p q = q
yes_and false b p q = cc

or_swapped : (a b c : Bool) → (a || (b || c)) ≡ (b || (a || c))
or_swapped true true c = refl
or_swapped true false c = refl
or_swapped false b c = refl

and_swapped : (a b c : Bool) → (a && (b && c)) ≡ (b && (a && c))
and_swapped true b c = refl
and_swapped false true c = refl
and_swapped false false c = refl

pub no_longer : (b : Bool) → not b ≡ true → b ≡ false
no_longer true h = absurd cc
no_longer false h = refl

and_no : (b : Bool) → (b && false) ≡ false
and_no true = refl
and_no false = refl

spread : (a b c : Bool) → (a && (b || c)) ≡ ((a && b) || (a && c))
spread true b c = refl
spread false b c = refl

-- the second list has each element of the first, as often as it
pub Shuffled : {A : Type 0} → List A → List A → Type 0
Shuffled [] ys = ys ≡ []
Shuffled {A} (x ∷ xs) ys = (front back : List A) × (ys ≡ front ++ x ∷ back) × Shuffled xs (front ++ back)

module _ {A : Type 0} where
  any_middle : (f : A → Bool) (front back : List A) (x : A) → list_any f (front ++ x ∷ back) ≡ (f x || list_any f (front ++ back))
  any_middle f [] back x = refl
  any_middle f (y ∷ front) back x = ap (λ t. f y || t) (any_middle f front back x) ∙ or_swapped (f y) (f x) (list_any f (front ++ back))

  all_middle : (f : A → Bool) (front back : List A) (x : A) → list_all f (front ++ x ∷ back) ≡ (f x && list_all f (front ++ back))
  all_middle f [] back x = refl
  all_middle f (y ∷ front) back x = ap (λ t. f y && t) (all_middle f front back x) ∙ and_swapped (f y) (f x) (list_all f (front ++ back))

  any_shuffled : (f : A → Bool) (xs ys : List A) → Shuffled xs ys → list_any f xs ≡ list_any f ys
  unfolding Shuffled
  any_shuffled f [] ys s = rw s refl
  any_shuffled f (x ∷ xs) ys s = ap (λ t. f x || t) (any_shuffled f xs (s.0 ++ s.1) s.3) ∙ sym (any_middle f s.0 s.1 x) ∙ ap (list_any f) (sym s.2)

  all_shuffled : (f : A → Bool) (xs ys : List A) → Shuffled xs ys → list_all f xs ≡ list_all f ys
  unfolding Shuffled
  all_shuffled f [] ys s = rw s refl
  all_shuffled f (x ∷ xs) ys s = ap (λ t. f x && t) (all_shuffled f xs (s.0 ++ s.1) s.3) ∙ sym (all_middle f s.0 s.1 x) ∙ ap (list_all f) (sym s.2)

  each_middle : (P : A → Type 0) (front back : List A) (x : A) → P x → AllOf P (front ++ back) → AllOf P (front ++ x ∷ back)
  each_middle P [] back x p ps = (p, ps)
  each_middle P (y ∷ front) back x p ps = (ps.0, each_middle P front back x p ps.1)

  each_apart : (P : A → Type 0) (front back : List A) (x : A) → AllOf P (front ++ x ∷ back) → P x × AllOf P (front ++ back)
  each_apart P [] back x ps = ps
  each_apart P (y ∷ front) back x ps = let r = each_apart P front back x ps.1 in (r.0, (ps.0, r.1))

  pub each_shuffled : (P : A → Type 0) (xs ys : List A) → Shuffled xs ys → AllOf P xs → AllOf P ys
  unfolding Shuffled
  each_shuffled P [] ys s ps = subst (AllOf P) (sym s) tt
  each_shuffled P (x ∷ xs) ys s ps = subst (AllOf P) (sym s.2) (each_middle P s.0 s.1 x ps.0 (each_shuffled P xs (s.0 ++ s.1) s.3 ps.1))

  no_find : (f : A → Bool) (xs : List A) → find f xs ≡ None → list_any f xs ≡ false
  no_find f [] h = refl
  no_find f (x ∷ xs) h = elim (test (f x)) [ inl t ↦ let n = rw t at h in absurd cc | inr t ↦ rw t (no_find f xs (rw t at h)) ]

  find_no : (f : A → Bool) (xs : List A) → list_any f xs ≡ false → find f xs ≡ None
  find_no f [] h = refl
  find_no f (x ∷ xs) h = let b = or_no (f x) (list_any f xs) h in rw b.0 (find_no f xs b.1)

  put_middle : (before : A → A → Bool) (x : A) (ys : List A) → (front back : List A) × (put before x ys ≡ front ++ x ∷ back) × (ys ≡ front ++ back)
  unfolding put
  put_middle before x [] = ([], [], refl, refl)
  put_middle before x (y ∷ ys) =
      let r = put_middle before x ys in
      elim (test (before y x)) [
        | inl t ↦ (y ∷ r.0, r.1, rw t (ap (λ zs. y ∷ zs) r.2), ap (λ zs. y ∷ zs) r.3)
        | inr t ↦ ([], y ∷ ys, rw t refl, refl)
      ]

  sorted_shuffled : (before : A → A → Bool) (xs : List A) → Shuffled xs (sorted before xs)
  unfolding Shuffled sorted
  sorted_shuffled before [] = refl
  sorted_shuffled before (x ∷ xs) =
      let r = put_middle before x (sorted before xs) in
      (r.0, r.1, r.2, subst (Shuffled xs) r.3 (sorted_shuffled before xs))

module _ {A B : Type 0} (f : A → Option B) where
  one_apart : (o : Option B) (xs ys zs : List B) → xs ≡ ys ++ zs → cons_option o xs ≡ cons_option o ys ++ zs
  one_apart None xs ys zs e = e
  one_apart (Some z) xs ys zs e = ap (λ us. z ∷ us) e

  mapped_apart : (front back : List A) → filter_map f (front ++ back) ≡ filter_map f front ++ filter_map f back
  mapped_apart [] back = refl
  mapped_apart (x ∷ front) back = one_apart (f x) (filter_map f (front ++ back)) (filter_map f front) (filter_map f back) (mapped_apart front back)

  one_shuffled : (o : Option B) (rest front back zs : List B) → Shuffled rest (front ++ back) → zs ≡ front ++ cons_option o back → Shuffled (cons_option o rest) zs
  unfolding Shuffled
  one_shuffled None rest front back zs s w = subst (Shuffled rest) (sym w) s
  one_shuffled (Some z) rest front back zs s w = (front, back, w, s)

  mapped_shuffled : (xs ys : List A) → Shuffled xs ys → Shuffled (filter_map f xs) (filter_map f ys)
  unfolding Shuffled
  mapped_shuffled [] ys s = rw s refl
  mapped_shuffled (x ∷ xs) ys s =
      let others : Shuffled (filter_map f xs) (filter_map f s.0 ++ filter_map f s.1) = subst (Shuffled (filter_map f xs)) (mapped_apart s.0 s.1) (mapped_shuffled xs (s.0 ++ s.1) s.3) in
      one_shuffled (f x) (filter_map f xs) (filter_map f s.0) (filter_map f s.1) (filter_map f ys) others (ap (filter_map f) s.2 ∙ mapped_apart s.0 (x ∷ s.1))

-- ---- names that differ

among_symmetric : (x y : List ℕ) → bytes_eq x y ≡ false → bytes_eq y x ≡ false
among_symmetric x y h = either_way y x ∙ h

distinct_middle : (front back : List (List ℕ)) (x : List ℕ) → is_among (front ++ back) x ≡ false → are_distinct (front ++ back) ≡ true → are_distinct (front ++ x ∷ back) ≡ true
distinct_middle [] back x n d = rw n d
distinct_middle (y ∷ front) back x n d =
    let b = or_no (bytes_eq x y) (is_among (front ++ back) x) n in
    let c = and_parts (not (is_among (front ++ back) y)) (are_distinct (front ++ back)) d in
    let free : is_among (front ++ back) y ≡ false = no_longer (is_among (front ++ back) y) c.0 in
    let still : is_among (front ++ x ∷ back) y ≡ false = any_middle (bytes_eq y) front back x ∙ no_or (bytes_eq y x) (is_among (front ++ back) y) (among_symmetric x y b.0) free in
    rw still (distinct_middle front back x b.1 c.1)

distinct_shuffled : (xs ys : List (List ℕ)) → Shuffled xs ys → are_distinct xs ≡ true → are_distinct ys ≡ true
unfolding Shuffled
distinct_shuffled [] ys s d = rw s refl
distinct_shuffled (x ∷ xs) ys s d =
    let c = and_parts (not (is_among xs x)) (are_distinct xs) d in
    let free : is_among (s.0 ++ s.1) x ≡ false = sym (any_shuffled (bytes_eq x) xs (s.0 ++ s.1) s.3) ∙ no_longer (is_among xs x) c.0 in
    rw s.2 (distinct_middle s.0 s.1 x free (distinct_shuffled xs (s.0 ++ s.1) s.3 c.1))

-- ---- attributes that stand twice

by_name : List ℕ → Bool
by_name name = bytes_eq name (codes "arg") || bytes_eq name (codes "env") || bytes_eq name (codes "group") || bytes_eq name (codes "metadata")

repeatable_by_name : (k : AttributeKind) → is_repeatable k ≡ by_name (kind_name k)
unfolding by_name
repeatable_by_name attributes.Android = refl
repeatable_by_name attributes.Arg = refl
repeatable_by_name attributes.Cache = refl
repeatable_by_name attributes.Confirm = refl
repeatable_by_name attributes.Default = refl
repeatable_by_name attributes.Doc = refl
repeatable_by_name attributes.Dragonfly = refl
repeatable_by_name attributes.Env = refl
repeatable_by_name attributes.ExitMessage = refl
repeatable_by_name attributes.Extension = refl
repeatable_by_name attributes.Freebsd = refl
repeatable_by_name attributes.Group = refl
repeatable_by_name attributes.Linux = refl
repeatable_by_name attributes.Macos = refl
repeatable_by_name attributes.Metadata = refl
repeatable_by_name attributes.Netbsd = refl
repeatable_by_name attributes.NoCd = refl
repeatable_by_name attributes.NoExitMessage = refl
repeatable_by_name attributes.NoQuiet = refl
repeatable_by_name attributes.Openbsd = refl
repeatable_by_name attributes.Parallel = refl
repeatable_by_name attributes.PositionalArguments = refl
repeatable_by_name attributes.Private = refl
repeatable_by_name attributes.Script = refl
repeatable_by_name attributes.Unix = refl
repeatable_by_name attributes.Windows = refl
repeatable_by_name attributes.WorkingDirectory = refl

clashes : AttributeShape → AttributeShape → Bool
clashes a b = not (is_repeatable (kind_of a)) && is_like a b

clash_symmetric : (a b : AttributeShape) → clashes a b ≡ false → clashes b a ≡ false
unfolding clashes
clash_symmetric a b h =
    elim (test (is_like b a)) [
      | inl t ↦
          let same : kind_name (kind_of a) ≡ kind_name (kind_of b) = text_same (kind_name (kind_of a)) (kind_name (kind_of b)) t in
          let alike : is_repeatable (kind_of b) ≡ is_repeatable (kind_of a) = repeatable_by_name (kind_of b) ∙ ap by_name (sym same) ∙ sym (repeatable_by_name (kind_of a)) in
          let like : is_like a b ≡ true = either_way (kind_name (kind_of b)) (kind_name (kind_of a)) ∙ t in
          rw (alike, t, ← like) h
      | inr t ↦ rw t (and_no (not (is_repeatable (kind_of b))))
    ]

clash_any : (a : AttributeShape) (as' : List AttributeShape) → (not (is_repeatable (kind_of a)) && list_any (is_like a) as') ≡ list_any (clashes a) as'
unfolding clashes
clash_any a [] = and_no (not (is_repeatable (kind_of a)))
clash_any a (b ∷ as') = spread (not (is_repeatable (kind_of a))) (is_like a b) (list_any (is_like a) as') ∙ ap (λ t. (not (is_repeatable (kind_of a)) && is_like a b) || t) (clash_any a as')

once_parts : (a : AttributeShape) (as' : List AttributeShape) → repeated (a ∷ as') ≡ None → (list_any (clashes a) as' ≡ false) × (repeated as' ≡ None)
once_parts a as' h =
    elim (test (not (is_repeatable (kind_of a)) && list_any (is_like a) as')) [
      | inl t ↦ let n = rw t at h in absurd cc
      | inr t ↦ (sym (clash_any a as') ∙ t, rw t at h)
    ]

once_joined : (a : AttributeShape) (as' : List AttributeShape) → list_any (clashes a) as' ≡ false → repeated as' ≡ None → repeated (a ∷ as') ≡ None
once_joined a as' c h = let t : (not (is_repeatable (kind_of a)) && list_any (is_like a) as') ≡ false = clash_any a as' ∙ c in rw t h

once_middle : (front back : List AttributeShape) (x : AttributeShape) → list_any (clashes x) (front ++ back) ≡ false → repeated (front ++ back) ≡ None → repeated (front ++ x ∷ back) ≡ None
once_middle [] back x n d = once_joined x back n d
once_middle (y ∷ front) back x n d =
    let b = or_no (clashes x y) (list_any (clashes x) (front ++ back)) n in
    let c = once_parts y (front ++ back) d in
    once_joined y (front ++ x ∷ back) (any_middle (clashes y) front back x ∙ no_or (clashes y x) (list_any (clashes y) (front ++ back)) (clash_symmetric x y b.0) c.0) (once_middle front back x b.1 c.1)

once_shuffled : (xs ys : List AttributeShape) → Shuffled xs ys → repeated xs ≡ None → repeated ys ≡ None
unfolding Shuffled
once_shuffled [] ys s d = rw s refl
once_shuffled (x ∷ xs) ys s d =
    let c = once_parts x xs d in
    rw s.2 (once_middle s.0 s.1 x (sym (any_shuffled (clashes x) xs (s.0 ++ s.1) s.3) ∙ c.0) (once_shuffled xs (s.0 ++ s.1) s.3 c.1))

-- ---- `arg`s

module _ (expansion : Expansion) where
  as_mapped : (os : List OptionsShape) → map (for_name expansion) os ≡ filter_map (λ o. Some (for_name expansion o)) os
  as_mapped [] = refl
  as_mapped (o ∷ os) = ap (λ ns. for_name expansion o ∷ ns) (as_mapped os)

  lack_alike : (os qs : List OptionsShape) → Shuffled os qs → (p : ParameterShape) → may_lack expansion os p ≡ may_lack expansion qs p
  lack_alike os qs s p = ap (λ t. is_some p.default || is_variadic p.kind || t) (any_shuffled (λ o. is_for expansion p.name o && (is_some o.long || is_some o.short)) os qs s)

  found_alike : (os qs : List OptionsShape) → Shuffled os qs → (ps : List ParameterShape) → find (λ q. not (may_lack expansion os q)) ps ≡ find (λ q. not (may_lack expansion qs q)) ps
  found_alike os qs s [] = refl
  found_alike os qs s (p ∷ ps) = rw (lack_alike os qs s p, found_alike os qs s ps) refl

  late_alike : (os qs : List OptionsShape) → Shuffled os qs → (ps : List ParameterShape) → late expansion os ps ≡ late expansion qs ps
  late_alike os qs s [] = refl
  late_alike os qs s (p ∷ ps) = rw (found_alike os qs s ps, late_alike os qs s ps) refl

  -- that no name stands twice is so of both
  both_distinct : (f : OptionsShape → Option (List ℕ)) (os qs : List OptionsShape) → Shuffled os qs → are_distinct (filter_map f os) ≡ true → are_distinct (filter_map f qs) ≡ true
  both_distinct f os qs s d = distinct_shuffled (filter_map f os) (filter_map f qs) (mapped_shuffled f os qs s) d

  fault_shuffled : (name : List ℕ) (os qs : List OptionsShape) (ps : List ParameterShape) → Shuffled os qs → fault_of expansion name os ps ≡ None → fault_of expansion name qs ps ≡ None
  fault_shuffled name os qs ps s h =
      elim (test (name_parameters expansion (names_of ps) os)) [
        | inr n ↦ let no = rw n at h in absurd cc
        | inl n ↦ elim (test (are_distinct (map (for_name expansion) os))) [
          | inr d ↦ let no = rw (n, d) at h in absurd cc
          | inl d ↦ elim (test (are_distinct (filter_map (long_name expansion) os))) [
            | inr l ↦ let no = rw (n, d, l) at h in absurd cc
            | inl l ↦ elim (test (are_distinct (filter_map (short_name expansion) os))) [
              | inr t ↦ let no = rw (n, d, l, t) at h in absurd cc
              | inl t ↦
                  let n' : name_parameters expansion (names_of ps) qs ≡ true = sym (all_shuffled (λ o. is_among (names_of ps) (for_name expansion o)) os qs s) ∙ n in
                  let d' : are_distinct (map (for_name expansion) qs) ≡ true = ap are_distinct (as_mapped qs) ∙ both_distinct (λ o. Some (for_name expansion o)) os qs s (ap are_distinct (sym (as_mapped os)) ∙ d) in
                  let l' = both_distinct (long_name expansion) os qs s l in
                  let t' = both_distinct (short_name expansion) os qs s t in
                  rw (n', d', l', t', sym (late_alike os qs s ps)) (rw (n, d, l, t) at h)
            ]
          ]
        ]
      ]

  fault_in_order : (xs ys : List AttributeShape) (item : ItemShape) → Shuffled xs ys → argument_fault expansion xs item ≡ None → argument_fault expansion ys item ≡ None
  fault_in_order xs ys (recipe_item old r) s h = fault_shuffled r.name (options_among xs) (options_among ys) r.parameters (mapped_shuffled (λ a. options_in (Some a)) xs ys s) h
  fault_in_order xs ys (alias_item old a) s h = refl
  fault_in_order xs ys (assignment_item old a) s h = refl
  fault_in_order xs ys (comment_item t) s h = refl
  fault_in_order xs ys (function_item f) s h = refl
  fault_in_order xs ys (import_item i) s h = refl
  fault_in_order xs ys (module_item old m) s h = refl
  fault_in_order xs ys newline_item s h = refl
  fault_in_order xs ys (set_item old t) s h = refl
  fault_in_order xs ys (unexport_item name) s h = refl

  stand_shuffled : (xs ys : List AttributeShape) (kind : ItemKind) → Shuffled xs ys → may_stand xs kind ≡ true → may_stand ys kind ≡ true
  unfolding Shuffled
  stand_shuffled [] ys kind s h = rw s refl
  stand_shuffled (x ∷ xs) [] kind s h = refl
  stand_shuffled (x ∷ xs) (y ∷ ys) kind s h = h

  pub fit_in_order : (as' : List AttributeShape) (item : ItemShape) → Fit expansion as' item → Fit expansion (in_order as') item
  fit_in_order as' item f =
      let s = sorted_shuffled is_before as' in
      record {
        stand = stand_shuffled as' (in_order as') (item_kind_of item) s f.stand;
        carried = find_no (is_misfit (item_kind_of item)) (in_order as') (sym (any_shuffled (is_misfit (item_kind_of item)) as' (in_order as') s) ∙ no_find (is_misfit (item_kind_of item)) as' f.carried);
        single = once_shuffled as' (in_order as') s f.single;
        arguments = fault_in_order as' (in_order as') item s f.arguments;
      }

before_ranks : IsStrictWeakOrder is_before
before_ranks = ranks_by attribute_total (λ a. a)

pub order_stays : (as' : List AttributeShape) → in_order (in_order as') ≡ in_order as'
order_stays as' = sorted_twice is_before before_ranks as'

pub each_in_order : (P : AttributeShape → Type 0) (as' : List AttributeShape) → AllOf P as' → AllOf P (in_order as')
each_in_order P as' ps = each_shuffled P as' (in_order as') (sorted_shuffled is_before as') ps
