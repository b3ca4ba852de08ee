-- No more files are reached than there are sources.
use Rattle.std.proofs.Common.{◌≡◌, sym, ◌∙◌, ap, Bool, true, false, ◌||◌, ◌≤◌, ◌∷◌, [], ℕ, suc, List, Some, refl, arith, length, map}
use Rattle.std.specs.Prelude.{slice_get}
use Rattle.std.specs.BTreeMap.{BTreeMap, is_at}
use Rattle.std.specs.Cmp.Lexicographic.{nat_list_eq_equiv, slice_cmp}
use Rattle.std.specs.List.{AllByRecursion, IsDistinct, list_any}
use Rattle.std.specs.Ordering.{nat_cmp}
use Rattle.std.specs.Str.{bytes_eq}
use Rattle.std.specs.String.{string_bytes}
use Rattle.std.specs.declared.string.String.{String}
use Rattle.std.proofs.lemmas.List.{length-map}
use Rattle.std.proofs.lemmas.Map.Made.{is_some-lookup, length-le_from_is_member}
use Rattle.std.proofs.lemmas.Map.Text.{is_eq-slice_cmp}
use Rattle.std.proofs.lemmas.Option.{same_Some}
use Rattle.std.proofs.lemmas.Slice.Eq.{bytes_eq-Decides}
use Rattle.modules_files.specs.Found.{is_there, source_keys}
use Rattle.modules_sources.specs.Queue.{is_among}
use Rattle.modules_sources.specs.Reached.{AreReached}
use Rattle.modules_sources.specs.declared.imports.Reached.{Reached}
use Rattle.modules_sources.proofs.Reaching.{place_among}

abbrev Text : Type 0
Text = List ℕ

apart : (key : Text) (keys : List Text) → ((j : ℕ) → slice_get keys j ≡ Some key → ⊥) → AllByRecursion (λ y. bytes_eq key y ≡ false) keys
apart key [] n = tt
apart key (y ∷ keys) n = (by_test (bytes_eq key y) refl, apart key keys (λ j e. n (suc j) e))
  where
    by_test : (b : Bool) → bytes_eq key y ≡ b → bytes_eq key y ≡ false
    by_test true same = absurd (n 0 (ap Some (sym ((bytes_eq-Decides key y).0 same))))
    by_test false other = other

-- keys of which each has one place are distinct
pub distinct_by_place : (keys : List Text) → ((i j : ℕ) (key : Text) → slice_get keys i ≡ Some key → slice_get keys j ≡ Some key → i ≡ j) → IsDistinct bytes_eq keys
unfolding IsDistinct
distinct_by_place [] h = tt
distinct_by_place (key ∷ keys) h = (apart key keys (λ j e. absurd (cc (h 0 (suc j) key refl e))), distinct_by_place keys (λ i j other a b. cc (h (suc i) (suc j) other a b)))

module _ {Y Z : Type 0} (sources : BTreeMap (String Y) (String Z)) where
  -- a key that has a text is among those of the sources
  there_among : (key : Text) → is_there sources key ≡ true → is_among (source_keys sources) key ≡ true
  there_among key e = sym (at_key_of sources.entries) ∙ sym (is_some-lookup (is_at (λ k. slice_cmp nat_cmp key (string_bytes k))) sources.entries) ∙ e
    where
      at_key_of : (entries : List (String Y × String Z)) → list_any (is_at (λ k. slice_cmp nat_cmp key (string_bytes k))) (map (λ e. e.0) entries) ≡ list_any (bytes_eq key) (map (λ e. string_bytes e.0) entries)
      at_key_of [] = refl
      at_key_of (entry ∷ entries) =
          ap (λ b. b || list_any (is_at (λ x. slice_cmp nat_cmp key (string_bytes x))) (map (λ e. e.0) entries)) (is_eq-slice_cmp key (string_bytes entry.0)) ∙ ap (λ b. bytes_eq key (string_bytes entry.0) || b) (at_key_of entries)

  -- keys that were reached and have texts are no more than the sources
  pub no_more : (keys : List Text) (reached : Reached) → AreReached keys reached → ((place : ℕ) (key : Text) → slice_get keys place ≡ Some key → is_there sources key ≡ true) → length keys ≤ length sources.entries
  no_more keys reached h texts =
      let le : length keys ≤ length (source_keys sources) =
      length-le_from_is_member nat_list_eq_equiv keys (source_keys sources) (distinct_by_place keys (λ i j key a b. same_Some i j (sym (h.placed i key a) ∙ h.placed j key b)))
      (λ key e. let p = place_among keys key e in there_among key (texts p.0 key p.1)) in
      let many : length (source_keys sources) ≡ length sources.entries = length-map sources.entries (λ entry. string_bytes entry.0) in
      omega (arith, le, many)
