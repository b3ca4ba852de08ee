-- Attributes fit an item exactly where reading finds no fault in them.
use Rattle.std.proofs.Common.{◌≡◌, true, List, [], ◌∷◌, map, Option, Some, None, refl, ap, inl, inr}
use Rattle.std.specs.List.{list_all}
use Rattle.std.specs.Option.{option_map}
use Rattle.tree_attributes.specs.declared.item_kind.ItemKind.{ItemKind}
use Rattle.tree_attributes.specs.Attributes.{AttributeShape}
use Rattle.tree_items.specs.Files.{ItemShape, kind_of as item_kind_of}
use Rattle.tree_items.specs.FileIndentation.{or_next}
use Rattle.parse_expressions.specs.Literals.{Expansion}
use Rattle.parse_expressions.proofs.Taken.{test}
use Rattle.parse_attributed_items.specs.Fitting.{Fit, may_stand, misfit, repeated, invalid, duplicate, name_of, fault_before, fault_in, is_one, known}

-- ---- what gives nothing

or_none : {A : Type 0} (o next : Option A) → or_next o next ≡ None → (o ≡ None) × (next ≡ None)
or_none None next h = (refl, h)
or_none (Some x) next h = absurd cc

map_none : {A B : Type 0} (f : A → B) (o : Option A) → option_map f o ≡ None → o ≡ None
map_none f None h = refl
map_none f (Some x) h = absurd cc

-- ---- attributes, each of which is one

known_all : {A : Type 0} (os : List (Option A)) → list_all is_one os ≡ true → os ≡ map Some (known os)
known_all [] h = refl
known_all (Some x ∷ os) h = ap (λ xs. Some x ∷ xs) (known_all os h)
known_all (None ∷ os) h = absurd cc

pub all_known : {A : Type 0} (xs : List A) → known (map Some xs) ≡ xs
all_known [] = refl
all_known (x ∷ xs) = ap (λ ys. x ∷ ys) (all_known xs)

all_one : {A : Type 0} (xs : List A) → list_all is_one (map Some xs) ≡ true
all_one [] = refl
all_one (x ∷ xs) = all_one xs

pub stand_alike : {A : Type 0} (xs : List A) (kind : ItemKind) → may_stand (map Some xs) kind ≡ may_stand xs kind
stand_alike [] kind = refl
stand_alike (x ∷ xs) kind = refl

-- ---- faults

-- no fault is found in attributes before the item
pub record IsFree (expansion : Expansion) (os : List (Option AttributeShape)) (i : ItemShape) : Type 0 where
  pub each : os ≡ map Some (known os)
  pub before : fault_before expansion (known os) i ≡ None

pub free : (expansion : Expansion) (os : List (Option AttributeShape)) (i : ItemShape) → fault_in expansion os i ≡ None → IsFree expansion os i
free expansion os i h =
    elim (test (list_all is_one os)) [
      | inl w ↦ record { each = known_all os w; before = rw w at h }
      | inr w ↦ let q = rw w at h in absurd cc
    ]

-- attributes without a fault, which may stand before the item, fit it
pub fits : (expansion : Expansion) (as' : List AttributeShape) (i : ItemShape) → may_stand as' (item_kind_of i) ≡ true → fault_before expansion as' i ≡ None → Fit expansion as' i
fits expansion as' i stand h =
    let a = or_none (option_map (invalid (name_of i)) (misfit (item_kind_of i) as')) _ h in
    let b = or_none (option_map duplicate (repeated as')) _ a.1 in
    record { stand = stand; carried = map_none (invalid (name_of i)) (misfit (item_kind_of i) as') a.0; single = map_none duplicate (repeated as') b.0; arguments = b.1 }

-- attributes that fit the item have no fault
pub no_fault : (expansion : Expansion) (as' : List AttributeShape) (i : ItemShape) → Fit expansion as' i → fault_in expansion (map Some as') i ≡ None
no_fault expansion as' i fit = rw (all_one as', all_known as', fit.carried, fit.single, fit.arguments) refl
