-- The groups of items up to a place.
use Rattle.std.proofs.Common.{◌≡◌, ℕ, ◌+◌, ◌<◌, List, [], ◌∷◌, ◌++◌, length, get_or, take, map, Some, None, refl, ap, ◌∙◌, append-nil, Bor}
use Rattle.std.proofs.lemmas.List.{take_more, map-append}
use Rattle.std.proofs.lemmas.List.Elements.{filter_map-append}
use Rattle.std.specs.List.{cons_option}
use Rattle.tree_attributes.specs.declared.attribute_item.AttributeItem.{AttributeItem}
use Rattle.tree_attributes.specs.Sets.Sets.{group_of, groups_of}

abbrev texts : List (Bor (List ℕ)) → List (List ℕ)
texts groups = map (λ (group : Bor (List ℕ)). group.now) groups

-- those up to a place and at it
groups_next : (items : List AttributeItem) (i : ℕ) (item : AttributeItem) → i < length items → item ≡ get_or items i item
    → groups_of (take (i + 1) items) ≡ groups_of (take i items) ++ cons_option (group_of item.attribute) []
groups_next items i item lt is =
    let e : take (i + 1) items ≡ take i items ++ item ∷ [] = rw (take_more items i item lt, ← is) refl in
    ap groups_of e ∙ filter_map-append (λ (item : AttributeItem). group_of item.attribute) (take i items) (item ∷ [])

-- a group at the place is one more
pub group_pushed : (items : List AttributeItem) (i : ℕ) (item : AttributeItem) (group : Bor (List ℕ)) (done : List (Bor (List ℕ))) → i < length items → item ≡ get_or items i item
    → Some group.now ≡ group_of item.attribute → texts done ≡ groups_of (take i items) → texts (done ++ group ∷ []) ≡ groups_of (take (i + 1) items)
group_pushed items i item group done lt is found more =
    map-append (λ (group : Bor (List ℕ)). group.now) done (group ∷ []) ∙ rw (groups_next items i item lt is, ← found, more) refl

-- another attribute adds none
pub group_passed : (items : List AttributeItem) (i : ℕ) (item : AttributeItem) (done : List (Bor (List ℕ))) → i < length items → item ≡ get_or items i item
    → None ≡ group_of item.attribute → texts done ≡ groups_of (take i items) → texts done ≡ groups_of (take (i + 1) items)
group_passed items i item done lt is absent more = rw (groups_next items i item lt is, ← absent, append-nil) more
