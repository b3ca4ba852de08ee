-- The files of a module among all files.
use Rattle.std.proofs.Common.{◌≡◌, sym, ◌∙◌, ap, ◌<◌, ◌≤◌, ◌+◌, ◌-◌, ◌∷◌, [], ℕ, zero, suc, List, Some, refl, arith, length, take, drop, map}
use Rattle.std.specs.Prelude.{slice_get}
use Rattle.std.proofs.lemmas.Option.{none-some, same_Some}
use Rattle.modules_compilation.specs.declared.module_node.File.{File}
use Rattle.meaning_rules.specs.Worlds.Given.{Text}
use Rattle.laws_modules.specs.Files.Files.{keys_of}

take_at : {A : Type 0} (n : ℕ) (xs : List A) (i : ℕ) → i < n → slice_get (take n xs) i ≡ slice_get xs i
take_at zero xs i lt = absurd (omega (arith, lt))
take_at (suc n) [] i lt = refl
take_at (suc n) (x ∷ xs) zero lt = refl
take_at (suc n) (x ∷ xs) (suc i) lt = take_at n xs i (omega (arith, lt))

take_before : {A : Type 0} (n : ℕ) (xs : List A) (i : ℕ) (a : A) → slice_get (take n xs) i ≡ Some a → i < n
take_before zero xs i a e = absurd (none-some a e)
take_before (suc n) [] i a e = absurd (none-some a e)
take_before (suc n) (x ∷ xs) zero a e = omega arith
take_before (suc n) (x ∷ xs) (suc i) a e = let lt = take_before n xs i a e in omega (arith, lt)

-- what stands behind the first so many
pub drop_at : {A : Type 0} (n : ℕ) (xs : List A) (i : ℕ) → slice_get (drop n xs) i ≡ slice_get xs (n + i)
drop_at zero xs i = let e : i ≡ 0 + i = omega arith in ap (slice_get xs) e
drop_at (suc n) [] i = refl
drop_at (suc n) (x ∷ xs) i = let e : suc (n + i) ≡ suc n + i = omega arith in drop_at n xs i ∙ ap (slice_get (x ∷ xs)) e

-- what stands in a list from the first place to before the end
module _ {A : Type 0} (first end : ℕ) (xs : List A) where
  pub in_range : (n : ℕ) (a : A) → first ≤ n → n < end → slice_get xs n ≡ Some a → slice_get (drop first (take end xs)) (n - first) ≡ Some a
  in_range n a from to e =
      let same : first + (n - first) ≡ n = omega (arith, from) in
      drop_at first (take end xs) (n - first) ∙ ap (slice_get (take end xs)) same ∙ take_at end xs n to ∙ e

  pub from_range : (i : ℕ) (a : A) → slice_get (drop first (take end xs)) i ≡ Some a → (slice_get xs (first + i) ≡ Some a) × (first + i < end)
  from_range i a e =
      let there : slice_get (take end xs) (first + i) ≡ Some a = sym (drop_at first (take end xs) i) ∙ e in
      let lt = take_before end xs (first + i) a there in
      (sym (take_at end xs (first + i) lt) ∙ there, lt)

pub there_within : {A : Type 0} (xs : List A) (i : ℕ) → i < length xs → (a : A) × (slice_get xs i ≡ Some a)
there_within [] i lt = absurd (omega (arith, lt))
there_within (x ∷ xs) zero lt = (x, refl)
there_within (x ∷ xs) (suc i) lt = there_within xs i (omega (arith, lt))

-- what stands in a list stands under a map
pub mapped : {A B : Type 0} (f : A → B) (xs : List A) (i : ℕ) (a : A) → slice_get xs i ≡ Some a → slice_get (map f xs) i ≡ Some (f a)
mapped f [] i a e = absurd (none-some a e)
mapped f (x ∷ xs) zero a e = ap (λ y. Some (f y)) (same_Some x a e)
mapped f (x ∷ xs) (suc i) a e = mapped f xs i a e

-- the file of a key
pub file_of_key : (files : List File) (i : ℕ) (key : Text) → slice_get (keys_of files) i ≡ Some key → (file : File) × (slice_get files i ≡ Some file) × (file.key.now ≡ key)
file_of_key [] i key e = absurd (none-some key e)
file_of_key (file ∷ files) zero key e = (file, refl, same_Some file.key.now key e)
file_of_key (file ∷ files) (suc i) key e = file_of_key files i key e
