-- A module keeps one definition of a kind and name.
use Rattle.std.proofs.Common.{◌≡◌, sym, ◌∙◌, ap, subst, ℕ, ◌≤◌, Some, arith}
use Rattle.std.specs.Prelude.{slice_get}
use Rattle.std.proofs.lemmas.Option.{same_Some}
use Rattle.tree_items.specs.Files.{ItemShape}
use Rattle.meaning_rules.specs.Worlds.Given.{Text, World}
use Rattle.meaning_rules.specs.Worlds.Sources.{Has}
use Rattle.meaning_rules.specs.Worlds.Keeping.{Defines, KeepsAtMostOne}
use Rattle.meaning_rules.proofs.Worlds.Reading.{orders_are_unique}

-- a place has one item
one_item : (w : World) (key : Text) (place : ℕ) (a b : ItemShape) → Has w key place a → Has w key place b → a ≡ b
one_item w key place a b h k =
    let items : h.items ≡ k.items = same_Some h.items k.items (sym h.says ∙ k.says) in
    same_Some a b (sym h.at ∙ ap (λ xs. slice_get xs place) items ∙ k.at)

both_ways : (m n : ℕ) → m ≤ n → n ≤ m → m ≡ n
both_ways m n p q = omega arith

pub keeps_at_most_one : KeepsAtMostOne
keeps_at_most_one w own kind name key key' place place' item item' k l =
    let files : k.files ≡ l.files = orders_are_unique w own k.files l.files k.order l.order in
    let there' : slice_get k.files l.at ≡ Some key' = ap (λ fs. slice_get fs l.at) files ∙ l.found in
    let there : slice_get l.files k.at ≡ Some key = ap (λ fs. slice_get fs k.at) (sym files) ∙ k.found in
    let at : k.at ≡ l.at = both_ways k.at l.at (k.first l.at key' place' item' there' l.defines) (l.first k.at key place item there k.defines) in
    let same : key ≡ key' = same_Some key key' (sym k.found ∙ ap (slice_get k.files) at ∙ there') in
    let here : Defines w own kind name key place' item' = subst (λ q. Defines w own kind name q place' item') (sym same) l.defines in
    let back : Defines w own kind name key' place item = subst (λ q. Defines w own kind name q place item) same k.defines in
    let places : place ≡ place' = both_ways place place' (l.last place item back) (k.last place' item' here) in
    (same, places, one_item w key place item item' k.defines.has (subst (λ p. Has w key p item') (sym places) here.has))
