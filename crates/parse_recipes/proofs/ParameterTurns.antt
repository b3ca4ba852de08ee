-- The parameters that were read before those that are still to be read.
use Rattle.std.proofs.Common.{◌≡◌, ℕ, zero, suc, ◌+◌, ◌-◌, ◌<◌, true, false, List, [], ◌∷◌, ◌++◌, length, map, Ok, Err, Some, None, refl, sym, ap, subst, ◌∙◌, arith, inl, inr, length-append}
use Rattle.std.proofs.lemmas.List.{map-append, append-nil}
use Rattle.just_text.specs.Numbers.{Numbers}
use Rattle.just_text.specs.Tokens.{word_of, lexeme}
use Rattle.just_text.specs.declared.token.Token.{Token}
use Rattle.tree_items.specs.Recipes.{is_variadic, ParameterShape, parameter_shape}
use Rattle.tree_items.specs.declared.recipe.Parameter.{Parameter}
use Rattle.parse_expressions.specs.Literals.{Expansion, Origin}
use Rattle.parse_expressions.specs.declared.fault.Fault.{Fault}
use Rattle.parse_expressions.specs.declared.fault.Fault.TheVariants as faults
use Rattle.parse_expressions.specs.Reading.{Read, Stop, Fails}
use Rattle.parse_recipes.specs.Numbering.{FailsUnless, count_from, behind_bindings, IsNumbered, AreNumbered}
use Rattle.parse_recipes.specs.Plain.{IsPlain, ArePlain}
use Rattle.parse_recipes.specs.Cooked.{AreParametersCooked, IsParameterCooked}
use Rattle.parse_recipes.specs.Reading.{is_named, last_at, parameter_at, parameters_at}
use Rattle.parse_recipes.specs.Seen.{HasRead, named_shape, with_name}
use Rattle.parse_recipes.specs.declared.parameter_names.ParameterNames.{ParameterNames}
use Rattle.parse_recipes.proofs.Turns.{all_none, before, nothing_before, regroup}
use Rattle.parse_expressions.proofs.Taken.{test}

-- a name that no parameter before has
new_name : (names : List (List ℕ)) (t : Token) → with_name names t ≡ Ok (lexeme t ∷ names) → is_named names (lexeme t) ≡ false
new_name names t h =
    elim (test (is_named names (lexeme t))) [
      | inl e ↦ let q = rw e at h in absurd cc
      | inr e ↦ e
    ]

module _ (x : Expansion) (fs : List Parameter) (n : ℕ) (names : List (List ℕ)) (ts : List Token) (total : Read Token (List ParameterShape)) (fuel : length ts < n)
    (so_far : before parameter_shape fs (parameters_at word_of x n names ts) ≡ total) where
  next : before parameter_shape fs (parameters_at word_of x (suc (n - 1)) names ts) ≡ total
  next = let k : n ≡ suc (n - 1) = omega arith in subst (λ (m : ℕ). before parameter_shape fs (parameters_at word_of x m names ts) ≡ total) k so_far

  pub item_fails : (used : Type 0) (e : Fault) → FailsUnless used e (parameter_at word_of x ts) → FailsUnless used e total
  unfolding parameters_at
  item_fails used faults.OutOfMemory h = h
  item_fails used faults.NumbersUsed h = h
  item_fails used (faults.Unexpected found) h = rw h at (sym next)
  item_fails used (faults.Refused token kind) h = rw h at (sym next)

  pub none_left : (rest : List Token) → parameter_at word_of x ts ≡ Ok (None, rest) → total ≡ Ok (map parameter_shape fs, rest)
  unfolding parameters_at
  none_left rest h = (rw h at (sym next)) ∙ ap (λ (xs : List ParameterShape). Ok (xs, rest)) (append-nil (map parameter_shape fs))

  module _ (p : Parameter) (rest : List Token) (read : parameter_at word_of x ts ≡ Ok (Some (named_shape p), rest)) where
    pub name_fails : (used : Type 0) (e : Fault) → Fails e (with_name names p.name.token) → FailsUnless used e total
    unfolding parameters_at
    name_fails used faults.OutOfMemory h = h
    name_fails used faults.NumbersUsed h = absurd h
    name_fails used (faults.Unexpected found) h =
        elim (test (is_named names (lexeme p.name.token))) [
          | inl e ↦ let q = rw e at h in absurd cc
          | inr e ↦ let q = rw e at h in absurd cc
        ]
    name_fails used (faults.Refused token kind) h =
        elim (test (is_named names (lexeme p.name.token))) [
          | inl e ↦ (rw (read, e) at (sym next)) ∙ ap (λ (s : Stop Token). Err s) (let q = rw e at h in cc)
          | inr e ↦ let q = rw e at h in absurd cc
        ]

    module _ (new : with_name names p.name.token ≡ Ok (lexeme p.name.token ∷ names)) where
      pub last_fails : is_variadic p.kind ≡ true → (used : Type 0) (e : Fault) → Fails e (last_at word_of rest) → FailsUnless used e total
      unfolding parameters_at
      last_fails variadic used faults.OutOfMemory h = h
      last_fails variadic used faults.NumbersUsed h = absurd h
      last_fails variadic used (faults.Unexpected found) h = rw (read, new_name names p.name.token new, variadic, h) at (sym next)
      last_fails variadic used (faults.Refused token kind) h = rw (read, new_name names p.name.token new, variadic, h) at (sym next)

      pub is_last : is_variadic p.kind ≡ true → (after : List Token) → last_at word_of rest ≡ Ok after → total ≡ Ok (map parameter_shape (fs ++ p ∷ []), after)
      unfolding parameters_at
      is_last variadic after h = (rw (read, new_name names p.name.token new, variadic, h) at (sym next)) ∙ ap (λ (xs : List ParameterShape). Ok (xs, after)) (sym (map-append parameter_shape fs (p ∷ [])))

      pub goes_on : is_variadic p.kind ≡ false → before parameter_shape (fs ++ p ∷ []) (parameters_at word_of x (n - 1) (lexeme p.name.token ∷ names) rest) ≡ total
      unfolding parameters_at
      goes_on variadic = sym (regroup parameter_shape fs p (parameters_at word_of x (n - 1) (lexeme p.name.token ∷ names) rest)) ∙ (rw (read, new_name names p.name.token new, variadic) at next)

-- ---- numbers

count_more : (start n : ℕ) → count_from start n ++ (start + n) ∷ [] ≡ count_from start (suc n)
count_more start zero = let e : start + 0 ≡ start = omega arith in ap (λ (m : ℕ). m ∷ []) e
count_more start (suc n) = let e : start + suc n ≡ (start + 1) + n = omega arith in ap (λ (ms : List ℕ). start ∷ ms) (rw e (count_more (start + 1) n))

-- a parameter with the next number after others
pub numbered : (start old new : Numbers) (fs : List Parameter) (p : Parameter) → AreNumbered start old fs → IsNumbered old new (Some p) → AreNumbered start new (fs ++ p ∷ [])
numbered start old new fs p these this =
    let l : length (fs ++ p ∷ []) ≡ suc (length fs) = let k : length (fs ++ p ∷ []) ≡ length fs + 1 = length-append fs (p ∷ []) in omega arith in
    let number : p.number ≡ start.bindings + length fs = this.0 ∙ ap (λ (o : Numbers). o.bindings) these.gone_on in
    let sum : (start.bindings + length fs) + 1 ≡ start.bindings + length (fs ++ p ∷ []) = omega arith in
    record {
      numbers =
          map-append (λ (p : Parameter). p.number) fs (p ∷ [])
          ∙ ap (λ (ns : List ℕ). ns ++ p.number ∷ []) these.numbers
          ∙ ap (λ (m : ℕ). count_from start.bindings (length fs) ++ m ∷ []) number
          ∙ count_more start.bindings (length fs)
          ∙ ap (count_from start.bindings) (sym l);
      gone_on = this.1 ∙ ap (λ (o : Numbers). behind_bindings o 1) these.gone_on ∙ ap (λ (m : ℕ). record start { bindings = m }) sum;
    }

-- before the first parameter
pub record Start (x : Origin) (numbers : Numbers) (read : ParameterNames) (fs : List Parameter) (ts : List Token) : Type 0 where
  pub names : HasRead read []
  pub so_far : before parameter_shape fs (parameters_at word_of x.expansion (suc (length ts)) [] ts) ≡ parameters_at word_of x.expansion (suc (length ts)) [] ts
  pub numbered : AreNumbered numbers numbers fs
  pub plain : ArePlain fs
  pub cooked : AreParametersCooked x fs

pub start : (x : Origin) (numbers : Numbers) (read : ParameterNames) (fs : List Parameter) (ts : List Token) → HasRead read [] → fs ≡ [] → Start x numbers read fs ts
start x numbers read fs ts unread none = record {
  names = unread;
  so_far = nothing_before parameter_shape fs (parameters_at word_of x.expansion (suc (length ts)) [] ts) none;
  numbered = let e : numbers.bindings ≡ numbers.bindings + 0 = omega arith in record { numbers = rw none refl; gone_on = rw none (ap (λ (m : ℕ). record numbers { bindings = m }) e) };
  plain = all_none IsPlain fs none;
  cooked = all_none (IsParameterCooked x) fs none;
}
