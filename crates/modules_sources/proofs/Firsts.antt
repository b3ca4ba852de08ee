-- Which keys are among those that were reached.
use Rattle.std.proofs.Common.{◌≡◌, sym, ◌∙◌, ap, subst, Bool, true, false, cond, ◌++◌, ◌∷◌, [], ℕ, zero, suc, List, Some, refl, length, map}
use Rattle.std.proofs.lemmas.Bool.{false≢true}
use Rattle.std.specs.Prelude.{Contains, slice_get}
use Rattle.std.specs.List.{flat_map}
use Rattle.std.proofs.lemmas.Option.{none-some, same_Some}
use Rattle.modules_files.specs.Chosen.{File}
use Rattle.modules_sources.specs.Queue.{is_among}
use Rattle.modules_sources.specs.Reached.{new_files, with_key, with_new}
use Rattle.modules_sources.proofs.Reaching.{among_at, at_end, key_kept, kept_left, mapped_at, place_among, place_of}

abbrev Text : Type 0
Text = List ℕ

-- keys that were there stay
among_kept : (keys : List Text) (files : List File) (key : Text) → is_among keys key ≡ true → is_among (with_new keys files) key ≡ true
among_kept keys [] key e = e
among_kept keys (file ∷ files) key e = let p = place_among keys key e in among_kept (with_key keys file.0) files key (among_at (with_key keys file.0) p.0 key (key_kept keys file.0 p.0 key p.1))

with_key_among : (keys : List Text) (key : Text) → is_among (with_key keys key) key ≡ true
with_key_among keys key = by_test (is_among keys key) refl
  where
    by_test : (b : Bool) → is_among keys key ≡ b → is_among (cond b keys (keys ++ key ∷ [])) key ≡ true
    by_test true is = is
    by_test false is = among_at (keys ++ key ∷ []) (length keys) key (at_end keys key)

-- the keys of files are there
with_new_among : (keys : List Text) (files : List File) (i : ℕ) (file : File) → slice_get files i ≡ Some file → is_among (with_new keys files) file.0 ≡ true
with_new_among keys [] i file e = absurd (none-some file e)
with_new_among keys (first ∷ files) zero file e = subst (λ f. is_among (with_new keys (first ∷ files)) f.0 ≡ true) (same_Some first file e) (among_kept (with_key keys first.0) files first.0 (with_key_among keys first.0))
with_new_among keys (first ∷ files) (suc i) file e = with_new_among (with_key keys first.0) files i file e

-- a new file has none of the earlier keys
pub new_apart : (keys : List Text) (files : List File) (i : ℕ) (file : File) → slice_get (new_files keys files) i ≡ Some file → is_among keys file.0 ≡ false
new_apart keys [] i file e = absurd (none-some file e)
new_apart keys (first ∷ files) i file e = by_test (is_among keys first.0) refl i (λ k. new_apart keys files k file) (λ k. new_apart (keys ++ first.0 ∷ []) files k file) e
  where
    fewer : (b : Bool) → is_among keys file.0 ≡ b → is_among (keys ++ first.0 ∷ []) file.0 ≡ false → is_among keys file.0 ≡ false
    fewer false is e = is
    fewer true is e = let p = place_among keys file.0 is in absurd (false≢true (sym e ∙ among_at (keys ++ first.0 ∷ []) p.0 file.0 (kept_left keys (first.0 ∷ []) p.0 file.0 p.1)))

    by_test : (b : Bool) → is_among keys first.0 ≡ b → (i : ℕ) → ((k : ℕ) → slice_get (new_files keys files) k ≡ Some file → is_among keys file.0 ≡ false) → ((k : ℕ) → slice_get (new_files (keys ++ first.0 ∷ []) files) k ≡ Some file → is_among (keys ++ first.0 ∷ []) file.0 ≡ false)
        → slice_get (cond b (new_files keys files) (first ∷ new_files (keys ++ first.0 ∷ []) files)) i ≡ Some file → is_among keys file.0 ≡ false
    by_test true is i known new e = known i e
    by_test false is zero known new e = subst (λ f. is_among keys f.0 ≡ false) (same_Some first file e) is
    by_test false is (suc i) known new e = fewer (is_among keys file.0) refl (new i e)

-- the files of a row stand among those of all rows
row_there : (rows : List (List File)) (i : ℕ) (row : List File) (k : ℕ) (file : File) → slice_get rows i ≡ Some row → slice_get row k ≡ Some file → (p : ℕ) × (slice_get (flat_map (λ r. r) rows) p ≡ Some file)
row_there [] i row k file e at = absurd (none-some row e)
row_there (first ∷ rows) zero row k file e at = (k, kept_left first (flat_map (λ r. r) rows) k file (ap (λ r. slice_get r k) (same_Some first row e) ∙ at))
row_there (first ∷ rows) (suc i) row k file e at = let r = row_there rows i row k file e at in behind first (flat_map (λ r. r) rows) r.0 r.1
  where
    behind : (xs ys : List File) (i : ℕ) → slice_get ys i ≡ Some file → (p : ℕ) × (slice_get (xs ++ ys) p ≡ Some file)
    behind [] ys i e = (i, e)
    behind (x ∷ xs) ys i e = let r = behind xs ys i e in (suc r.0, r.1)

-- a key of a row is among those of all rows
pub row_among : (keys : List Text) (rows : List (List File)) (i : ℕ) (row : List File) (key : Text) → slice_get rows i ≡ Some row → Contains (map (λ f. f.0) row) key → is_among (with_new keys (flat_map (λ r. r) rows)) key ≡ true
row_among keys rows i row key e has =
    let at = place_of (map (λ f. f.0) row) key has in
    let f = mapped_at (λ f. f.0) row at.0 key at.1 in
    let p = row_there rows i row at.0 f.0 e f.1 in
    subst (λ k. is_among (with_new keys (flat_map (λ r. r) rows)) k ≡ true) f.2 (with_new_among keys (flat_map (λ r. r) rows) p.0 f.0 p.1)
