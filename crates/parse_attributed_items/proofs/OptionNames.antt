-- The names of the parameters that are options.
use Rattle.std.proofs.Common.{◌≡◌, ℕ, Bool, true, false, List, [], ◌∷◌, map, refl, sym, ap, ◌∙◌}
use Rattle.std.specs.Prelude.{◌&&◌, ◌||◌, is_some}
use Rattle.std.specs.List.{list_any}
use Rattle.std.specs.Borrow.{Bor}
use Rattle.std.specs.BTreeSet.{BTreeSet, insert_key}
use Rattle.std.specs.BTreeMap.{is_at}
use Rattle.std.specs.Cmp.Lexicographic.{slice_cmp}
use Rattle.std.specs.Ordering.{nat_cmp}
use Rattle.std.specs.Str.{bytes_eq}
use Rattle.std.proofs.lemmas.Map.Text.{is_eq-slice_cmp}
use Rattle.tree_attributes.specs.Attributes.{OptionsShape}
use Rattle.parse_expressions.specs.Literals.{Expansion}
use Rattle.parse_recipes.specs.Seen.{has_name}
use Rattle.parse_recipes.proofs.NameSets.{name_added, name_cmp}
use Rattle.parse_attributed_items.specs.Rules.{for_name, is_among, is_option}
use Rattle.parse_attributed_items.proofs.Lists.{either_way}

-- ---- a name more in the set

texts : List (Bor (List ℕ)) → List (List ℕ)
texts keys = map (λ key. key.now) keys

has_texts : (name : List ℕ) (keys : List (Bor (List ℕ))) → list_any (is_at (λ k. slice_cmp nat_cmp name k.now)) keys ≡ is_among (texts keys) name
unfolding texts
has_texts name [] = refl
has_texts name (key ∷ keys) = rw (is_eq-slice_cmp name key.now) (ap (λ b. bytes_eq name key.now || b) (has_texts name keys))

added : (old new : BTreeSet (Bor (List ℕ))) (key : Bor (List ℕ)) → new.keys ≡ insert_key name_cmp old.keys key → (name : List ℕ) → has_name new name ≡ (bytes_eq name key.now || has_name old name)
added old new key is name = name_added old new key (texts old.keys) is (λ n. has_texts n old.keys) name ∙ ap (λ b. bytes_eq name key.now || b) (sym (has_texts name old.keys))

-- ---- an `arg` more

or_moves : (a b c : Bool) → (a || (b || c)) ≡ ((b || a) || c)
or_moves true true c = refl
or_moves true false c = refl
or_moves false true c = refl
or_moves false false c = refl

and_true : (b : Bool) → (b && true) ≡ b
and_true true = refl
and_true false = refl

and_false : (b : Bool) → (b && false) ≡ false
and_false true = refl
and_false false = refl

module _ (expansion : Expansion) (o : OptionsShape) (os : List OptionsShape) (name : List ℕ) (total : Bool) where
  -- an `arg` that gives its parameter a name of its own
  pub names_one : (old new : BTreeSet (Bor (List ℕ))) (key : Bor (List ℕ)) → new.keys ≡ insert_key name_cmp old.keys key → for_name expansion o ≡ key.now → (is_some o.long || is_some o.short) ≡ true
      → (has_name old name || is_option expansion (o ∷ os) name) ≡ total → (has_name new name || is_option expansion os name) ≡ total
  names_one old new key is for gives so_far =
      let so : (has_name old name || ((bytes_eq key.now name && true) || is_option expansion os name)) ≡ total = rw (for, gives) at so_far in
      rw (added old new key is name)
      (sym (or_moves (has_name old name) (bytes_eq name key.now) (is_option expansion os name)) ∙ ap (λ b. has_name old name || (b || is_option expansion os name)) (either_way name key.now ∙ sym (and_true (bytes_eq key.now name))) ∙ so)

  -- another one
  pub names_none : (set : BTreeSet (Bor (List ℕ))) → (is_some o.long || is_some o.short) ≡ false
      → (has_name set name || is_option expansion (o ∷ os) name) ≡ total → (has_name set name || is_option expansion os name) ≡ total
  names_none set gives so_far =
      let so : (has_name set name || ((bytes_eq (for_name expansion o) name && false) || is_option expansion os name)) ≡ total = rw gives at so_far in
      ap (λ b. has_name set name || (b || is_option expansion os name)) (sym (and_false (bytes_eq (for_name expansion o) name))) ∙ so
