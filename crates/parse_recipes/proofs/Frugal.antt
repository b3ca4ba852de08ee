-- What is used of numbers by parts that are read one after another.
use Rattle.std.proofs.Common.{◌≡◌, ℕ, ◌+◌, ◌<◌, ◌≤◌, Bool, List, length, ap, arith}
use Rattle.just_text.specs.Numbers.{Numbers}
use Rattle.just_text.specs.Tokens.{word_of}
use Rattle.just_text.specs.declared.token.Token.{Token}
use Rattle.just_text.specs.declared.token_kind.TokenKind.{TokenKind}
use Rattle.tree_items.specs.declared.recipe.ParameterKind.{ParameterKind}
use Rattle.parse_recipes.specs.Numbering.{IsFrugal, behind_bindings}
use Rattle.parse_recipes.specs.Reading.{kind_at, marked_at}
use Rattle.parse_recipes.proofs.Shrinks.{kind_no_longer, marked_no_longer}

-- no number is used
pub unused : (ts : List Token) (old new : Numbers) → new ≡ old → IsFrugal ts old new
unused ts old new same =
    let bindings : new.bindings ≡ old.bindings = ap (λ (k : Numbers). k.bindings) same in
    let recipes : new.recipes ≡ old.recipes = ap (λ (k : Numbers). k.recipes) same in
    record { bindings = omega (arith, bindings); recipes = omega (arith, recipes) }

-- so many bindings, each for a token, and then what is used with the tokens that are left
pub bindings_first : (ts rest : List Token) (old now new : Numbers) (n : ℕ) → now ≡ behind_bindings old n → n + length rest ≤ length ts → IsFrugal rest now new → IsFrugal ts old new
bindings_first ts rest old now new n used less frugal =
    let bindings : now.bindings ≡ old.bindings + n = ap (λ (k : Numbers). k.bindings) used in
    let recipes : now.recipes ≡ old.recipes = ap (λ (k : Numbers). k.recipes) used in
    record { bindings = omega (arith, bindings, less, frugal.bindings); recipes = omega (arith, recipes, less, frugal.recipes) }

-- the same of a recipe
pub recipe_first : (ts rest : List Token) (old now new : Numbers) → now ≡ record old { recipes = old.recipes + 1 } → length rest < length ts → IsFrugal rest now new → IsFrugal ts old new
recipe_first ts rest old now new used less frugal =
    let bindings : now.bindings ≡ old.bindings = ap (λ (k : Numbers). k.bindings) used in
    let recipes : now.recipes ≡ old.recipes + 1 = ap (λ (k : Numbers). k.recipes) used in
    record { bindings = omega (arith, bindings, less, frugal.bindings); recipes = omega (arith, recipes, less, frugal.recipes) }

-- what is frugal with fewer tokens
pub with_more : (ts rest : List Token) (old new : Numbers) → length rest ≤ length ts → IsFrugal rest old new → IsFrugal ts old new
with_more ts rest old new less frugal = record { bindings = omega (arith, less, frugal.bindings); recipes = omega (arith, less, frugal.recipes) }

-- ---- marks take no token back

pub kind_taken : (ts : List Token) (p : ParameterKind × List Token) → kind_at word_of ts ≡ p → length p.1 ≤ length ts
kind_taken ts p is = rw (← is) (kind_no_longer word_of ts)

pub mark_taken : (kind : TokenKind) (ts : List Token) (p : Bool × List Token) → marked_at word_of kind ts ≡ p → length p.1 ≤ length ts
mark_taken kind ts p is = rw (← is) (marked_no_longer word_of kind ts)
