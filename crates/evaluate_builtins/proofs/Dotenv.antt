-- What files of variables give.
use Rattle.std.proofs.Common.{◌≡◌, ℕ, Bool, true, false, cond, List, [], ◌∷◌, map, Option, Some, None, refl, sym, ap, ◌∙◌, option_map}
use Rattle.std.specs.BTreeMap.{BTreeMap, IsOrdered, is_at}
use Rattle.std.specs.Cmp.Lexicographic.{slice_cmp}
use Rattle.std.specs.List.{AllByRecursion}
use Rattle.std.specs.List.Sorted.{IsStrictlySortedBy}
use Rattle.std.specs.Map.{keys_of, lookup}
use Rattle.std.specs.Option.{option_copied, option_or}
use Rattle.std.specs.Ordering.{is_eq, nat_cmp}
use Rattle.std.specs.Str.{bytes_eq}
use Rattle.std.specs.String.{string_bytes, string_cmp}
use Rattle.std.specs.declared.cmp.Ordering.{Ordering}
use Rattle.std.specs.declared.cmp.Ordering.TheVariants.{Less, Equal, Greater}
use Rattle.std.specs.declared.string.String.{String}
use Rattle.std.proofs.lemmas.Cmp.{eq_by_cmp_equiv, nat_list_cmp_total}
use Rattle.std.proofs.lemmas.Map.Text.{is_eq-slice_cmp}
use denote.Ref.{Bor}
use Rattle.evaluate_context.specs.Environment.{last_of, variable}

is_equal : (o : Ordering) → is_eq o ≡ true → o ≡ Equal
is_equal Less h = absurd (cc)
is_equal Equal h = refl
is_equal Greater h = absurd (cc)

tests : (name key : List ℕ) → bytes_eq key name ≡ is_eq (slice_cmp nat_cmp name key)
tests name key = sym (is_eq-slice_cmp key name) ∙ (eq_by_cmp_equiv nat_list_cmp_total).symm key name

module _ {Z : Type 0} where
  abbrev at : List ℕ → String Z → Bool
  at name = is_at (λ key. slice_cmp nat_cmp name (string_bytes key))

  none_after : (name : List ℕ) (key : String Z) (es : List (String Z × String Z)) → slice_cmp nat_cmp name (string_bytes key) ≡ Equal → AllByRecursion (λ other. string_cmp key other ≡ Less) (keys_of es) → lookup (at name) es ≡ None
  none_after name key [] e h = refl
  none_after name key (f ∷ fs) e h =
      let s : slice_cmp nat_cmp name (string_bytes f.0) ≡ Less = nat_list_cmp_total.congr name (string_bytes key) (string_bytes f.0) e ∙ h.0 in
      ap (λ o. cond (is_eq o) (Some f.1) (lookup (at name) fs)) s ∙ none_after name key fs e h.1

  first_or_later : (t : Bool) (value : String Z) (later : Option (String Z)) → (t ≡ true → later ≡ None) → option_or (option_map string_bytes later) (cond t (Some (string_bytes value)) None) ≡ option_map string_bytes (cond t (Some value) later)
  first_or_later true value later only = rw (only refl) refl
  first_or_later false value None only = refl
  first_or_later false value (Some other) only = refl

  -- the only value of a name is its last
  pub files_give : (name : List ℕ) (es : List (String Z × String Z)) → IsStrictlySortedBy string_cmp (keys_of es) → last_of name (map variable es) ≡ option_map string_bytes (lookup (at name) es)
  unfolding IsStrictlySortedBy
  files_give name [] sorted = refl
  files_give name (e ∷ es) sorted =
      ap (λ later. option_or later (cond (bytes_eq (string_bytes e.0) name) (Some (string_bytes e.1)) None)) (files_give name es sorted.1)
      ∙ (ap (λ t. option_or (option_map string_bytes (lookup (at name) es)) (cond t (Some (string_bytes e.1)) None)) (tests name (string_bytes e.0))
      ∙ first_or_later (at name e.0) e.1 (lookup (at name) es) (λ same. none_after name e.0 es (is_equal (slice_cmp nat_cmp name (string_bytes e.0)) same) sorted.0))

  -- what a look-up in the files gives
  pub files_read : (name : List ℕ) (m : BTreeMap (String Z) (String Z)) (r : Option (Bor (String Z))) → option_copied r ≡ lookup (at name) m.entries → IsOrdered string_cmp m → option_map (λ value. string_bytes value.now) r ≡ last_of name (map variable m.entries)
  files_read name m None e sorted = ap (option_map string_bytes) e ∙ sym (files_give name m.entries sorted)
  files_read name m (Some value) e sorted = ap (option_map string_bytes) e ∙ sym (files_give name m.entries sorted)
