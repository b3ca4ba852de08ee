-- What is found last in a list.
use Rattle.std.proofs.Common.{◌≡◌, inl, inr, refl, sym, ◌∙◌, ap, subst, Bool, true, false, if◌then◌else◌, nat_eq, List, [], ◌∷◌, map, length, Option, Some, None, ℕ, zero, suc, ◌+◌, arith}
use Rattle.std.specs.Prelude.{slice_get, Contains}
use Rattle.std.specs.Option.{option_or}
use Rattle.std.specs.Str.{bytes_eq}
use Rattle.std.proofs.lemmas.Bool.Decides.{Decides-eqb}
use Rattle.std.proofs.lemmas.Option.{none-some, same_Some}
use Rattle.std.proofs.lemmas.Slice.Eq.{bytes_eq-Decides}
use Rattle.just_text.specs.Tokens.{lexeme}
use Rattle.tree_expressions.specs.declared.expression.Expression.{Expression}
use Rattle.tree_items.specs.Contexts.{last_named}
use Rattle.tree_items.specs.declared.item.Binding.{Binding}
use Rattle.tree_items.specs.declared.item.FunctionDefinition.{FunctionDefinition}
use Rattle.resolve_references.specs.declared.functions.DefinedFunction.{DefinedFunction}
use Rattle.resolve_analysis.specs.Reads.{defined_if_named, last_found, place_if_numbered}
use Rattle.meaning_rules.proofs.Worlds.Places.{contains_cases, contains_first, contains_later, contains_none}

-- ---- pairs of names and numbers

module _ (name : List ℕ) where
  if_named : List ℕ × ℕ → Option ℕ
  if_named pair = if bytes_eq pair.0 name then Some pair.1 else None

  -- the pair of a name that is found is there
  pub last_named_there : (pairs : List (List ℕ × ℕ)) (number : ℕ) → last_named name pairs ≡ Some number → Contains pairs (name, number)
  last_named_there [] number e = absurd (none-some number e)
  last_named_there (pair ∷ pairs) number e = by_rest (last_named name pairs) (last_named_there pairs number) e
    where
      by_test : (b : Bool) → bytes_eq pair.0 name ≡ b → (if b then Some pair.1 else None) ≡ Some number → Contains (pair ∷ pairs) (name, number)
      by_test true is e =
          let named = (bytes_eq-Decides pair.0 name).0 is in
          let numbered = same_Some pair.1 number e in
          let same : pair ≡ (name, number) = ap (λ n. (n, pair.1)) named ∙ ap (λ n. (name, n)) numbered in
          subst (Contains (pair ∷ pairs)) same (contains_first pair pairs)
      by_test false is e = absurd (none-some number e)

      by_rest : (o : Option ℕ) → (o ≡ Some number → Contains pairs (name, number)) → option_or o (if bytes_eq pair.0 name then Some pair.1 else None) ≡ Some number → Contains (pair ∷ pairs) (name, number)
      by_rest None later e = by_test (bytes_eq pair.0 name) refl e
      by_rest (Some n) later e = contains_later pair pairs (name, number) (later e)

  -- where none is found, no pair has the name
  pub none_named : (pairs : List (List ℕ × ℕ)) → last_named name pairs ≡ None → Contains (map (λ p. p.0) pairs) name → ⊥
  none_named [] e c = contains_none [] name refl c
  none_named (pair ∷ pairs) e c = by_rest (last_named name pairs) (none_named pairs) e
    where
      by_rest : (o : Option ℕ) → (o ≡ None → Contains (map (λ p. p.0) pairs) name → ⊥) → option_or o (if bytes_eq pair.0 name then Some pair.1 else None) ≡ None → ⊥
      by_rest None later e = elim (contains_cases pair.0 (map (λ p. p.0) pairs) name c) [
        | inl same ↦ none-some pair.1 (sym e ∙ ap (λ (b : Bool). if b then Some pair.1 else None) ((bytes_eq-Decides pair.0 name).1 same))
        | inr d ↦ later refl d
      ]
      by_rest (Some n) later e = none-some n (sym e)

-- ---- elements of a list by their places

module _ {A B : Type 0} (find : ℕ → A → Option B) where
  pub found_from : (base : ℕ) (xs : List A) (y : B) → last_found find base xs ≡ Some y → (i : ℕ) × (x : A) × (slice_get xs i ≡ Some x) × (find (base + i) x ≡ Some y)
  found_from base [] y e = absurd (none-some y e)
  found_from base (x ∷ xs) y e = by_rest (last_found find (suc base) xs) (found_from (suc base) xs y) e
    where
      by_rest : (o : Option B) → (o ≡ Some y → (i : ℕ) × (z : A) × (slice_get xs i ≡ Some z) × (find (suc base + i) z ≡ Some y)) → option_or o (find base x) ≡ Some y
          → (i : ℕ) × (z : A) × (slice_get (x ∷ xs) i ≡ Some z) × (find (base + i) z ≡ Some y)
      by_rest None later e = let same : base ≡ base + 0 = omega arith in (0, x, refl, ap (λ n. find n x) (sym same) ∙ e)
      by_rest (Some z) later e =
          let r = later e in
          let i = r.0 in
          let same : base + suc i ≡ suc base + i = omega arith in
          (suc i, r.1, r.2, ap (λ n. find n r.1) same ∙ r.3)

  pub none_found : (base : ℕ) (xs : List A) → last_found find base xs ≡ None → (i : ℕ) (x : A) → slice_get xs i ≡ Some x → find (base + i) x ≡ None
  none_found base [] e i x at = absurd (none-some x at)
  none_found base (z ∷ xs) e i x at = by_rest (last_found find (suc base) xs) (none_found (suc base) xs) e i at
    where
      by_rest : (o : Option B) → (o ≡ None → (i : ℕ) (x : A) → slice_get xs i ≡ Some x → find (suc base + i) x ≡ None) → option_or o (find base z) ≡ None → (i : ℕ) → slice_get (z ∷ xs) i ≡ Some x → find (base + i) x ≡ None
      by_rest None later e zero at = let same : base + 0 ≡ base = omega arith in ap (λ n. find n x) same ∙ ap (find base) (sym (same_Some z x at)) ∙ e
      by_rest None later e (suc i) at = let same : base + suc i ≡ suc base + i = omega arith in ap (λ n. find n x) same ∙ later refl i x at
      by_rest (Some y) later e i at = absurd (none-some y (sym e))

-- the variable at a place that is found has the number
pub numbered_at : (number place : ℕ) (variables : List (Binding Expression)) → last_found (place_if_numbered number) 0 variables ≡ Some place
    → (variable : Binding Expression) × (slice_get variables place ≡ Some variable) × (variable.number ≡ number)
numbered_at number place variables e =
    let r = found_from (place_if_numbered number) 0 variables place e in
    by_test r.0 r.1 r.2 (nat_eq r.1.number number) refl r.3
  where
    by_test : (i : ℕ) (variable : Binding Expression) → slice_get variables i ≡ Some variable → (b : Bool) → nat_eq variable.number number ≡ b → (if b then Some (0 + i) else None) ≡ Some place
        → (variable : Binding Expression) × (slice_get variables place ≡ Some variable) × (variable.number ≡ number)
    by_test i variable at true is e =
        let sum = same_Some (0 + i) place e in
        let same : i ≡ place = omega (arith, sum) in
        (variable, subst (λ n. slice_get variables n ≡ Some variable) same at, (Decides-eqb variable.number number).0 is)
    by_test i variable at false is e = absurd (none-some place e)

pub none_numbered : (number : ℕ) (variables : List (Binding Expression)) → last_found (place_if_numbered number) 0 variables ≡ None → (i : ℕ) (variable : Binding Expression) → slice_get variables i ≡ Some variable → variable.number ≡ number → ⊥
none_numbered number variables e i variable at same =
    none-some (0 + i) (sym (none_found (place_if_numbered number) 0 variables e i variable at) ∙ ap (λ (b : Bool). if b then Some (0 + i) else None) ((Decides-eqb variable.number number).1 same))

-- the function at a place that is found has the name
pub defined_at : (name : List ℕ) (defined : DefinedFunction) (functions : List FunctionDefinition) → last_found (defined_if_named name) 0 functions ≡ Some defined
    → (function : FunctionDefinition) × (slice_get functions defined.place ≡ Some function) × (lexeme function.name.token ≡ name) × (defined.parameters ≡ length function.parameters.items)
defined_at name defined functions e =
    let r = found_from (defined_if_named name) 0 functions defined e in
    by_test r.0 r.1 r.2 (bytes_eq (lexeme r.1.name.token) name) refl r.3
  where
    by_test : (i : ℕ) (function : FunctionDefinition) → slice_get functions i ≡ Some function → (b : Bool) → bytes_eq (lexeme function.name.token) name ≡ b
        → (if b then Some (record { place = 0 + i; parameters = length function.parameters.items }) else None) ≡ Some defined
        → (function : FunctionDefinition) × (slice_get functions defined.place ≡ Some function) × (lexeme function.name.token ≡ name) × (defined.parameters ≡ length function.parameters.items)
    by_test i function at true is e =
        let same = same_Some _ defined e in
        let sum : 0 + i ≡ defined.place = ap (λ d. d.place) same in
        let place : i ≡ defined.place = omega (arith, sum) in
        (function, subst (λ n. slice_get functions n ≡ Some function) place at, (bytes_eq-Decides (lexeme function.name.token) name).0 is, sym (ap (λ d. d.parameters) same))
    by_test i function at false is e = absurd (none-some defined e)

pub none_defined : (name : List ℕ) (functions : List FunctionDefinition) → last_found (defined_if_named name) 0 functions ≡ None → (i : ℕ) (function : FunctionDefinition) → slice_get functions i ≡ Some function → lexeme function.name.token ≡ name → ⊥
none_defined name functions e i function at same =
    none-some _ (sym (none_found (defined_if_named name) 0 functions e i function at)
    ∙ ap (λ (b : Bool). if b then Some (record { place = 0 + i; parameters = length function.parameters.items }) else None) ((bytes_eq-Decides (lexeme function.name.token) name).1 same))
