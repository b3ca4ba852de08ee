-- The next numbers, one more each time.
use Rattle.std.proofs.Common.{◌≡◌, ℕ, ◌+◌, List, [], ◌∷◌, ◌++◌, length, refl, sym, ap, ◌∙◌, arith, length-append}
use Rattle.std.proofs.lemmas.List.{map-append}
use Rattle.just_text.specs.Numbers.{Numbers}
use Rattle.just_text.specs.declared.name.Name.{Name}
use Rattle.parse_recipes.specs.Numbering.{behind_bindings, count_from}
use Rattle.parse_items.specs.Numbered.{AreNext, parameter_numbers}

counted : (start : ℕ) (xs : List ℕ) (x : ℕ) → xs ≡ count_from start (length xs) → x ≡ start + length xs → xs ++ x ∷ [] ≡ count_from start (length (xs ++ x ∷ []))
counted start [] x these this = ap (λ (k : ℕ). k ∷ []) (let e : x ≡ start = omega arith in e)
counted start (y ∷ ys) x these this =
    let e : y ≡ start = cc in
    let others : ys ≡ count_from (start + 1) (length ys) = cc in
    let next : x ≡ (start + 1) + length ys = omega arith in
    rw (← e) (ap (λ (xs : List ℕ). y ∷ xs) (rw e (counted (start + 1) ys x others next)))

one_next : (old now new : Numbers) (xs : List ℕ) (x : ℕ) → AreNext old now xs → AreNext now new (x ∷ []) → AreNext old new (xs ++ x ∷ [])
one_next old now new xs x these this =
    let first : x ≡ now.bindings = cc (this.count) in
    let bindings : now.bindings ≡ old.bindings + length xs = ap (λ (n : Numbers). n.bindings) these.gone_on in
    let length' : length (xs ++ x ∷ []) ≡ length xs + 1 = length-append xs (x ∷ []) in
    let all : (old.bindings + length xs) + 1 ≡ old.bindings + length (xs ++ x ∷ []) = omega (arith, length') in
    record {
      count = counted old.bindings xs x these.count (first ∙ bindings);
      gone_on = this.gone_on ∙ ap (λ (n : Numbers). behind_bindings n 1) these.gone_on ∙ ap (λ (k : ℕ). record old { bindings = k }) all;
    }

-- a parameter with the next number, after others
pub one_more : (old now new : Numbers) (ps : List (Name × ℕ)) (p : Name × ℕ) → AreNext old now (parameter_numbers ps) → AreNext now new (p.1 ∷ []) → AreNext old new (parameter_numbers (ps ++ p ∷ []))
one_more old now new ps p these this = rw map-append (one_next old now new (parameter_numbers ps) p.1 these this)
