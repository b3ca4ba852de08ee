-- A name that gets its number first, or among the others.
use Rattle.std.proofs.Common.{◌≡◌, ℕ, Bool, true, false, List, Option, Some, None, refl, sym, ◌∙◌}
use Rattle.std.specs.Bool.{if◌then◌else◌}
use Rattle.std.specs.Borrow.{Bor}
use Rattle.std.specs.Option.{option_or}
use Rattle.std.specs.Str.{bytes_eq}
use Rattle.std.proofs.lemmas.Slice.Eq.{bytes_eq-Decides}
use Rattle.tree_items.specs.Contexts.{goes_first, number_of_first}

-- what a test of one text says of the first name, whose number it was or is
given : (b : Bool) (number : ℕ) (rest : Option ℕ) → option_or (if b then Some number else None) rest ≡ (if b then Some number else rest)
given true number rest = refl
given false number rest = refl

given_anew : (b : Bool) (old number : ℕ) (rest : Option ℕ) → option_or (if b then Some number else None) rest ≡ (if b then Some number else option_or (if b then Some old else None) rest)
given_anew true old number rest = refl
given_anew false old number rest = refl

-- the first name gets a number
pub first_given : (first : Option (Bor (List ℕ) × ℕ)) (name : Bor (List ℕ)) (number : ℕ) → goes_first first name.now ≡ true → (other : List ℕ) (rest : Option ℕ)
    → option_or (number_of_first (Some (name, number)) other) rest ≡ (if bytes_eq name.now other then Some number else option_or (number_of_first first other) rest)
first_given None name number is other rest = given (bytes_eq name.now other) number rest
first_given (Some pair) name number is other rest =
    let same : pair.0.now ≡ name.now = (bytes_eq-Decides pair.0.now name.now).0 is in
    rw same (given_anew (bytes_eq name.now other) pair.1 number rest)

-- another name gets a number
pub others_given : (first : Option (Bor (List ℕ) × ℕ)) (name : List ℕ) (number : ℕ) → goes_first first name ≡ false → (other : List ℕ) (old new : Option ℕ) → new ≡ (if bytes_eq name other then Some number else old)
    → option_or (number_of_first first other) new ≡ (if bytes_eq name other then Some number else option_or (number_of_first first other) old)
others_given None name number is other old new so = absurd cc
others_given (Some pair) name number is other old new so = by_test (bytes_eq pair.0.now other) refl (bytes_eq name other) refl
  where
    by_test : (b : Bool) → bytes_eq pair.0.now other ≡ b → (d : Bool) → bytes_eq name other ≡ d → option_or (if b then Some pair.1 else None) new ≡ (if d then Some number else option_or (if b then Some pair.1 else None) old)
    by_test true is_it true is_other =
        let same : pair.0.now ≡ name = (bytes_eq-Decides pair.0.now other).0 is_it ∙ sym ((bytes_eq-Decides name other).0 is_other) in
        let again : bytes_eq pair.0.now name ≡ true = (bytes_eq-Decides pair.0.now name).1 same in
        absurd cc
    by_test true is_it false is_other = refl
    by_test false is_it true is_other = rw is_other at so
    by_test false is_it false is_other = rw is_other at so
