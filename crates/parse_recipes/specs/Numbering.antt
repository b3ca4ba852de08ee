-- The numbers of recipes and of their parameters.
use Rattle.std.specs.Prelude.{ℕ, zero, suc, ◌≡◌, ◌≤◌, ◌+◌, ◌^◌, ◌⊎◌, List, [], ◌∷◌, length, map, Option, Some, None, Result, Ok, Err}
use Rattle.just_text.specs.Numbers.{Numbers}
use Rattle.just_text.specs.declared.token.Token.{Token}
use Rattle.tree_items.specs.declared.recipe.Parameter.{Parameter}
use Rattle.tree_items.specs.declared.recipe.Recipe.{Recipe}
use Rattle.tree_items.specs.declared.recipe.UnresolvedDependency.{UnresolvedDependency}
use Rattle.parse_expressions.specs.declared.fault.Fault.{Fault}
use Rattle.parse_expressions.specs.declared.fault.Fault.TheVariants as faults
use Rattle.parse_expressions.specs.Reading.{Stop, unexpected, refused}

-- no number is left for a binding
abbrev pub AreBindingsUsed : Numbers → Type 0
AreBindingsUsed numbers = numbers.bindings ≡ 2 ^ 32

-- no number is left for a binding, or none for a recipe
abbrev pub AreUsed : Numbers → Type 0
AreUsed numbers = (numbers.bindings ≡ 2 ^ 32) ⊎ (numbers.recipes ≡ 2 ^ 32)

-- no more numbers of a kind were used than there are tokens
pub record IsFrugal (ts : List Token) (old new : Numbers) : Type 0 where
  pub bindings : new.bindings ≤ old.bindings + length ts
  pub recipes : new.recipes ≤ old.recipes + length ts

-- no more numbers of one kind are left than there are tokens
abbrev pub AreFew : List Token → Numbers → Type 0
AreFew ts numbers = (2 ^ 32 ≤ numbers.bindings + length ts) ⊎ (2 ^ 32 ≤ numbers.recipes + length ts)

-- reading fails with that fault, unless memory ran out, or numbers did
abbrev pub FailsUnless : {Y : Type 0} → Type 0 → Fault → Result Y (Stop Token) → Type 0
FailsUnless used faults.OutOfMemory read = Unit {0}
FailsUnless used faults.NumbersUsed read = used
FailsUnless used (faults.Unexpected found) read = read ≡ Err (unexpected found)
FailsUnless used (faults.Refused token kind) read = read ≡ Err (refused token kind)

-- What a function that hands out numbers returned, seen by view, is what reading gives, unless memory ran out, or numbers did.
abbrev pub GivesUnless : {X Y : Type 0} → Type 0 → (X → Y) → Result X Fault → Result Y (Stop Token) → Type 0
GivesUnless used view (Ok x) read = read ≡ Ok (view x)
GivesUnless used view (Err e) read = FailsUnless used e read

-- so many numbers, from one on
abbrev pub count_from : ℕ → ℕ → List ℕ
count_from start zero = []
count_from start (suc n) = start ∷ count_from (start + 1) n

abbrev pub numbers_of : List Parameter → List ℕ
numbers_of = map (λ p. p.number)

-- after so many bindings more
abbrev pub behind_bindings : Numbers → ℕ → Numbers
behind_bindings numbers n = record numbers { bindings = numbers.bindings + n }

-- the parameter, if there is one, has the next binding's number
abbrev pub IsNumbered : Numbers → Numbers → Option Parameter → Type 0
IsNumbered old new None = new ≡ old
IsNumbered old new (Some p) = (p.number ≡ old.bindings) × (new ≡ behind_bindings old 1)

-- the parameters have the next bindings' numbers in order
pub record AreNumbered (old new : Numbers) (ps : List Parameter) : Type 0 where
  pub numbers : numbers_of ps ≡ count_from old.bindings (length ps)
  pub gone_on : new ≡ behind_bindings old (length ps)

-- the recipe has the next recipe's number, and its parameters have the next bindings' numbers in order
pub record IsRecipeNumbered (old new : Numbers) (r : Recipe UnresolvedDependency) : Type 0 where
  pub number : r.number ≡ old.recipes
  pub numbers : numbers_of r.parameters.items ≡ count_from old.bindings (length r.parameters.items)
  pub gone_on : new ≡ record (behind_bindings old (length r.parameters.items)) { recipes = old.recipes + 1 }
