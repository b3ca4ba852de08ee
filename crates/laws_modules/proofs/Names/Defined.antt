-- Where a module keeps no definition of a kind and name, none of its files has one.
use Rattle.std.proofs.Common.{◌≡◌, inl, inr, sym, ◌∙◌, ap, ℕ, zero, suc, ◌<◌, ◌≤◌, ◌+◌, length, List, Some, arith}
use Rattle.std.specs.Prelude.{slice_get}
use Rattle.std.proofs.lemmas.Bool.Decides.{leb_tells}
use Rattle.std.proofs.lemmas.Option.{same_Some, slice_get_within}
use Rattle.tree_items.specs.Files.{ItemShape}
use Rattle.meaning_rules.specs.Worlds.Given.{Text, World}
use Rattle.meaning_rules.specs.Worlds.Modules.{IsReadingOrder}
use Rattle.meaning_rules.specs.Worlds.Keeping.{Defines, IsDefined, Keeps, Kind}
use Rattle.meaning_rules.proofs.Worlds.Places.{place_of}
use Rattle.meaning_rules.proofs.Worlds.Reading.{orders_have_reached}

place_within : (w : World) (own : Text) (kind : Kind) (name key : Text) (items : List ItemShape) → w.said key ≡ Some items → (place : ℕ) (item : ItemShape) → Defines w own kind name key place item → place < length items
place_within w own kind name key items says place item d =
    let same : d.has.items ≡ items = same_Some d.has.items items (sym d.has.says ∙ says) in
    slice_get_within items place item (sym (ap (λ xs. slice_get xs place) same) ∙ d.has.at)

module _ (w : World) (own : Text) (kind : Kind) (name : Text) (files : List Text) (order : IsReadingOrder w own files) (none : (item : ItemShape) → Keeps w own kind name item → ⊥) where
  -- no place of a file has one, if no earlier file has
  none_at : (at : ℕ) (key : Text) (items : List ItemShape) → slice_get files at ≡ Some key → w.said key ≡ Some items
      → ((at' : ℕ) (key' : Text) (place' : ℕ) (item' : ItemShape) → at' < at → slice_get files at' ≡ Some key' → Defines w own kind name key' place' item' → ⊥)
      → (left place : ℕ) (item : ItemShape) → length items ≤ place + left → Defines w own kind name key place item → ⊥
  none_at at key items found says earlier zero place item le d = let lt = place_within w own kind name key items says place item d in absurd (omega (arith, le, lt))
  none_at at key items found says earlier (suc left) place item le d = none item (record {
    key = key;
    place = place;
    kept = record {
      defines = d;
      files = files;
      order = order;
      at = at;
      found = found;
      first = λ at' key' place' item' found' d'. elim (leb_tells at at') [
        | inl p ↦ p.1
        | inr p ↦ absurd (earlier at' key' place' item' p.1 found' d')
      ];
      last = λ place' item' d'. elim (leb_tells place' place) [
        | inl p ↦ p.1
        | inr p ↦ let less = p.1 in absurd (none_at at key items found says earlier left place' item' (omega (arith, le, less)) d')
      ];
    };
  })

  none_from : (bound at : ℕ) → at < bound → (key : Text) → slice_get files at ≡ Some key → (place : ℕ) (item : ItemShape) → Defines w own kind name key place item → ⊥
  none_from zero at lt key found place item d = absurd (omega (arith, lt))
  none_from (suc bound) at lt key found place item d =
      let items = d.has.items in
      none_at at key items found d.has.says (λ at' key' place' item' less found' d'. none_from bound at' (omega (arith, lt, less)) key' found' place' item' d') (length items) place item (omega arith) d

  pub none_defined : IsDefined w own kind name → ⊥
  none_defined d =
      let p = place_of files d.key ((orders_have_reached w own files order d.key).1 d.defines.of) in
      none_from (suc p.0) p.0 (omega arith) d.key p.1 d.place d.item d.defines
