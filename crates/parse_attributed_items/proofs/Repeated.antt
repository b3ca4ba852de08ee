-- The first attribute that stands again and may not, and the first that an item may not carry.
use Rattle.std.proofs.Common.{◌≡◌, ℕ, ◌+◌, ◌-◌, ◌<◌, Bool, true, false, List, [], ◌∷◌, length, take, drop, get_or, Option, Some, None, refl, sym, ap, ◌∙◌, arith, add-one, length-drop, drop-cons}
use Rattle.std.proofs.lemmas.List.{take_all}
use Rattle.std.specs.Borrow.{Bor}
use Rattle.std.specs.Prelude.{IfSome, bytes_eq, cond, find, is_some, not, ◌&&◌, ◌||◌, if◌then◌else◌}
use Rattle.std.specs.List.{cons_option, list_any}
use Rattle.std.specs.Option.{option_map}
use Rattle.just_text.specs.declared.compile_error.CompileErrorKind.{CompileErrorKind}
use Rattle.just_text.specs.declared.compile_error.CompileErrorKind.TheVariants as kinds
use Rattle.tree_attributes.specs.declared.item_kind.ItemKind.{ItemKind}
use Rattle.tree_attributes.specs.Attributes.{AttributeShape, is_repeatable, kind_name, kind_of}
use Rattle.tree_items.specs.FileIndentation.{or_next}
use Rattle.parse_attributes.specs.declared.attribute.AttributeRead.{AttributeRead}
use Rattle.parse_attributes.specs.Seen.{read_shape, read_shapes}
use Rattle.parse_attributed_items.specs.Fitting.{duplicate, invalid, is_like, is_misfit, known, misfit, repeated}
use Rattle.parse_attributed_items.specs.Refusals.{is_misplaced, is_named, is_repeated, known_fault, name_in}

-- the name of the attribute's kind
abbrev pub kind_text : AttributeShape → List ℕ
kind_text a = kind_name (kind_of a)

named_known : (name : List ℕ) (as' : List (Option AttributeShape)) → list_any (λ b. bytes_eq (kind_text b) name) (known as') ≡ list_any (is_named name) as'
named_known name [] = refl
named_known name (None ∷ as') = named_known name as'
named_known name (Some b ∷ as') = ap (λ (t : Bool). bytes_eq (kind_text b) name || t) (named_known name as')

-- whether it stands again, either way
again_same : (x : AttributeShape) (as' : List (Option AttributeShape)) → (not (is_repeatable (kind_of x)) && list_any (is_like x) (known as')) ≡ is_repeated as' (Some x)
again_same x as' =
    rw (named_known (kind_text x) as') (
    elim (is_repeatable (kind_of x)) as (λ b. (not b && list_any (is_named (kind_text x)) as') ≡ (if b then false else list_any (is_named (kind_text x)) as')) [ true ↦ refl | false ↦ refl ]
    )

pub repeated_here : (a : Option AttributeShape) (as' : List (Option AttributeShape)) → is_repeated as' a ≡ true → option_map kind_text (repeated (known (a ∷ as'))) ≡ Some (name_in a)
repeated_here None as' h = absurd cc
repeated_here (Some x) as' h = rw (again_same x as' ∙ h) refl

pub repeated_later : (a : Option AttributeShape) (as' : List (Option AttributeShape)) → is_repeated as' a ≡ false → repeated (known (a ∷ as')) ≡ repeated (known as')
repeated_later None as' h = refl
repeated_later (Some x) as' h = rw (again_same x as' ∙ h) refl

-- ---- attributes that the item may not carry

misfit_first : (kind : ItemKind) (r : AttributeRead) (rs : List AttributeRead) (a : Option AttributeShape) → read_shape r ≡ a
    → option_map kind_text (misfit kind (known (read_shapes rs))) ≡ option_map (λ r. name_in (read_shape r)) (find (λ r. is_misplaced kind (read_shape r)) rs)
    → option_map kind_text (misfit kind (cons_option a (known (read_shapes rs)))) ≡ option_map (λ r. name_in (read_shape r)) (cond (is_misplaced kind a) (Some r) (find (λ r. is_misplaced kind (read_shape r)) rs))
misfit_first kind r rs None is others = others
misfit_first kind r rs (Some x) is others =
    elim (is_misfit kind x) as (λ b. option_map kind_text (cond b (Some x) (misfit kind (known (read_shapes rs)))) ≡ option_map (λ r. name_in (read_shape r)) (cond b (Some r) (find (λ r. is_misplaced kind (read_shape r)) rs))) [
      | true ↦ ap Some (ap name_in (sym is))
      | false ↦ others
    ]

pub misfit_so : (kind : ItemKind) (rs : List AttributeRead) → option_map kind_text (misfit kind (known (read_shapes rs))) ≡ option_map (λ r. name_in (read_shape r)) (find (λ r. is_misplaced kind (read_shape r)) rs)
misfit_so kind [] = refl
misfit_so kind (r ∷ rs) = misfit_first kind r rs (read_shape r) refl (misfit_so kind rs)

-- ---- the refusals

pub invalid_so : (m : Option AttributeShape) (next : Option CompileErrorKind) (text name : List ℕ) → option_map kind_text m ≡ Some text → or_next (option_map (invalid name) m) next ≡ Some (kinds.InvalidAttribute text name)
invalid_so None next text name h = absurd cc
invalid_so (Some a) next text name h = let e : kind_text a ≡ text = cc in rw (← e) refl

pub nothing_invalid : (m : Option AttributeShape) (next : Option CompileErrorKind) (name : List ℕ) → option_map kind_text m ≡ None → or_next (option_map (invalid name) m) next ≡ next
nothing_invalid None next name h = refl
nothing_invalid (Some a) next name h = absurd cc

pub duplicate_so : (m : Option AttributeShape) (text : List ℕ) → option_map kind_text m ≡ Some text → option_map duplicate m ≡ Some (kinds.DuplicateAttribute text)
duplicate_so None text h = absurd cc
duplicate_so (Some a) text h = let e : kind_text a ≡ text = cc in rw (← e) refl

pub nothing_duplicate : (m : Option AttributeShape) → option_map kind_text m ≡ None → option_map duplicate m ≡ None
nothing_duplicate None h = refl
nothing_duplicate (Some a) h = absurd cc

-- ---- a turn

named_is : (o : Option (Bor AttributeRead)) (name : List ℕ) → is_some o ≡ true → IfSome o (λ r. name_in (read_shape r.now) ≡ name) → option_map (λ (r : Bor AttributeRead). name_in (read_shape r.now)) o ≡ Some name
named_is None name h same = absurd cc
named_is (Some r) name h same = ap Some same

module _ (reads : List AttributeRead) (i : ℕ) (r : AttributeRead) (lt : i < length reads) (is : r ≡ get_or reads i r) (o : Option (Bor AttributeRead))
    (found : is_some o ≡ is_repeated (read_shapes (take (length reads - (i + 1)) (drop (i + 1) reads))) (read_shape r)) where
  found_behind : is_some o ≡ is_repeated (read_shapes (drop (i + 1) reads)) (read_shape r)
  found_behind =
      let all : take (length reads - (i + 1)) (drop (i + 1) reads) ≡ drop (i + 1) reads = take_all _ _ (omega (arith, length-drop (i + 1) reads)) in
      rw all at found

  first_left : drop i reads ≡ r ∷ drop (i + 1) reads
  first_left = rw (add-one, drop-cons reads i r lt, ← is) refl

  pub stands_again : is_some o ≡ true → IfSome o (λ again. name_in (read_shape again.now) ≡ name_in (read_shape r))
      → option_map (λ (r : Bor AttributeRead). name_in (read_shape r.now)) o ≡ option_map kind_text (repeated (known (read_shapes (drop i reads))))
  stands_again so same =
      rw first_left (named_is o (name_in (read_shape r)) so same ∙ sym (repeated_here (read_shape r) (read_shapes (drop (i + 1) reads)) (sym found_behind ∙ so)))

  pub stands_once : is_some o ≡ false → repeated (known (read_shapes (drop i reads))) ≡ repeated (known (read_shapes (drop (i + 1) reads)))
  stands_once none = rw first_left (repeated_later (read_shape r) (read_shapes (drop (i + 1) reads)) (sym found_behind ∙ none))

-- ---- what is found

seen_through : {A B C : Type 0} (f : A → B) (g : B → C) (o : Option A) → option_map g (option_map f o) ≡ option_map (λ x. g (f x)) o
seen_through f g None = refl
seen_through f g (Some x) = refl

nothing_there : {A B : Type 0} (f : A → B) (o : Option A) → ((x : A) → o ≡ Some x → ⊥) → option_map f o ≡ None
nothing_there f None h = refl
nothing_there f (Some x) h = absurd (h x refl)

-- the name of the kind of an attribute that was found
abbrev text_found : Option (Bor AttributeRead) → Option (List ℕ)
text_found o = option_map (λ r. name_in (read_shape r.now)) o

module _ (kind : ItemKind) (name : List ℕ) (reads : List AttributeRead) (misplaced : Option (Bor AttributeRead))
    (found : option_map (λ r. r.now) misplaced ≡ find (λ r. is_misplaced kind (read_shape r)) reads) where
  misfit_text : option_map kind_text (misfit kind (known (read_shapes reads))) ≡ text_found misplaced
  misfit_text =
      misfit_so kind reads ∙ ap (option_map (λ (r : AttributeRead). name_in (read_shape r))) (sym found) ∙ seen_through (λ (r : Bor AttributeRead). r.now) (λ (r : AttributeRead). name_in (read_shape r)) misplaced

  pub misfit_refused : (r : Bor AttributeRead) → misplaced ≡ Some r → known_fault kind name (known (read_shapes reads)) ≡ Some (kinds.InvalidAttribute (name_in (read_shape r.now)) name)
  misfit_refused r is = invalid_so (misfit kind (known (read_shapes reads))) _ (name_in (read_shape r.now)) name (misfit_text ∙ ap text_found is)

  module _ (none : (r : Bor AttributeRead) → misplaced ≡ Some r → ⊥) (repeats : Option (Bor AttributeRead)) (named : text_found repeats ≡ option_map kind_text (repeated (known (read_shapes reads)))) where
    no_misfit : known_fault kind name (known (read_shapes reads)) ≡ option_map duplicate (repeated (known (read_shapes reads)))
    no_misfit = nothing_invalid (misfit kind (known (read_shapes reads))) _ name (misfit_text ∙ nothing_there _ misplaced none)

    pub repeated_refused : (r : Bor AttributeRead) → repeats ≡ Some r → known_fault kind name (known (read_shapes reads)) ≡ Some (kinds.DuplicateAttribute (name_in (read_shape r.now)))
    repeated_refused r is = no_misfit ∙ duplicate_so (repeated (known (read_shapes reads))) (name_in (read_shape r.now)) (sym named ∙ ap text_found is)

    pub nothing_refused : repeats ≡ None → known_fault kind name (known (read_shapes reads)) ≡ None
    nothing_refused is = no_misfit ∙ nothing_duplicate (repeated (known (read_shapes reads))) (sym named ∙ ap text_found is)
