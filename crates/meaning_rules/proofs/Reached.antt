-- What is reached, and what a compilation begins with.
use Rattle.std.proofs.Common.{◌≡◌, ◌⊎◌, inl, inr, sym, ◌∙◌, ap, subst, List, ◌∷◌, ℕ, zero, suc, ◌-◌, ◌<◌, Some, refl, arith, length, []}
use Rattle.std.specs.Prelude.{slice_get}
use Rattle.std.proofs.lemmas.Option.{none-some, same_Some, slice_get_within}
use Rattle.meaning_rules.specs.Worlds.Given.{Text, World}
use Rattle.meaning_rules.specs.Worlds.Sources.{Reached}
use Rattle.meaning_rules.specs.Worlds.Modules.{IsModule}
use Rattle.meaning_rules.proofs.Worlds.Reached.{own_reached}
use Rattle.meaning_rules.specs.Depending.{DependsOn, RecipeWalk}
use Rattle.meaning_rules.specs.Laws.{CyclesAreReached, UnsaidBreaksNone}

-- ---- cycles

abbrev Stands : World → List Text × Text → Type 0
Stands w recipe = (own : Text) × IsModule w recipe.0 own × Reached w own

stands : (w : World) (a b : List Text × Text) → DependsOn w a.0 a.1 b.0 b.1 → Stands w a
stands w a b d = (d.own, d.is, own_reached w a.0 d.own d.is)

-- all but the last depend on another
walk_stands : (w : World) (recipes : List (List Text × Text)) (k : ℕ) (recipe : List Text × Text) → RecipeWalk w recipes → suc k < length recipes → slice_get recipes k ≡ Some recipe → Stands w recipe
walk_stands w [] k recipe walk lt e = absurd (none-some recipe e)
walk_stands w (a ∷ []) k recipe walk lt e = absurd (omega arith)
walk_stands w (a ∷ b ∷ more) zero recipe walk lt e = subst (Stands w) (same_Some a recipe e) (stands w a b walk.0)
walk_stands w (a ∷ b ∷ more) (suc k) recipe walk lt e = walk_stands w (b ∷ more) k recipe walk.1 (omega arith) e

last_or : (k n : ℕ) → k < n → (suc k < n) ⊎ (k ≡ n - 1)
last_or zero zero lt = absurd (omega arith)
last_or zero (suc zero) lt = inr refl
last_or zero (suc (suc n)) lt = inl (omega arith)
last_or (suc k) zero lt = absurd (omega arith)
last_or (suc k) (suc n) lt = elim (last_or k n (omega arith)) [
  | inl p ↦ inl (omega arith)
  | inr p ↦ inr (let some : k < n = omega arith in omega arith)
]

pub cycles_are_reached : CyclesAreReached
cycles_are_reached w recipes k recipe c e =
    let long = c.long in
    elim (last_or k (length recipes) (slice_get_within recipes k recipe e)) [
      | inl lt ↦ walk_stands w recipes k recipe c.walk lt e
      | inr is ↦ walk_stands w recipes 0 recipe c.walk (omega arith) (c.closed ∙ sym (ap (slice_get recipes) is) ∙ e)
    ]

-- ---- files that say nothing

pub unsaid_breaks_none : UnsaidBreaksNone
unsaid_breaks_none w o rule key r nothing is b =
    let said = b.said is key r in
    none-some said.0 (sym nothing ∙ said.1)
