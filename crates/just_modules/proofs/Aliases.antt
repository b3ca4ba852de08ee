-- Aliases that lead somewhere, one after the other.
use Rattle.std.proofs.Common.{◌≡◌, ◌∙◌, ◌<◌, ◌≤◌, ◌+◌, ℕ, List, Some, length, get_or, sym, ap, subst, arith, inl, inr}
use Rattle.std.specs.Prelude.{◌≢◌, slice_get}
use Rattle.std.proofs.lemmas.Bool.Decides.{eqb_tells}
use Rattle.std.proofs.lemmas.Option.{same_Some, slice_get-get_or, slice_get_within}
use Rattle.just_text.specs.declared.name.Name.{Name}
use Rattle.tree_items.specs.declared.item.Alias.{Alias}
use Rattle.modules_compilation.specs.declared.compilation.Compilation.{Compilation}
use Rattle.modules_compilation.specs.declared.compilation.Target.TheVariants.{Nothing}
use Rattle.modules_compilation.specs.declared.error.Error.{Error}
use Rattle.modules_compilation.specs.declared.error.Error.TheVariants.{UnknownAliasTarget}
use Rattle.modules_compilation.specs.declared.module_node.ModuleNode.{ModuleNode}
use Rattle.modules_compilation.specs.declared.place.Place.{Place}
use Rattle.resolve_recipes.specs.Aliases.{alias_at}
use Rattle.resolve_recipes.specs.Leading.{target_in}
use Rattle.resolve_recipes.specs.Named.{AllByName}
use Rattle.just_modules.specs.Aliases.{AllLead, IsAliasUnknown, IsUnknownAmong, IsUnknownAt, LeadsAt}
use Rattle.just_modules.specs.Keeping.{OrMemory}

-- what holds of each element before a place
abbrev pub HoldBefore : {X : Type 0} → (ℕ → X → Type 0) → List X → ℕ → Type 0
HoldBefore {X} P xs i = (j : ℕ) (x : X) → j < i → slice_get xs j ≡ Some x → P j x

-- one more
pub hold_further : {X : Type 0} (P : ℕ → X → Type 0) (xs : List X) (i : ℕ) (d : X) → i < length xs → HoldBefore P xs i → P i (get_or xs i d) → HoldBefore P xs (i + 1)
hold_further P xs i d lt h is j x before at = elim (eqb_tells j i) [
  | inl p ↦
      let there = slice_get-get_or xs i d lt in
      subst (λ n. P n x) (sym p.1) (subst (P i) (same_Some (get_or xs i d) x (sym there ∙ ap (slice_get xs) (sym p.1) ∙ at)) is)
  | inr p ↦ let ne : j ≢ i = p.1 in h j x (omega (arith, before)) at
]

-- all of them
pub hold_all : {X : Type 0} (P : ℕ → X → Type 0) (xs : List X) (i : ℕ) → length xs ≤ i → HoldBefore P xs i → (j : ℕ) (x : X) → slice_get xs j ≡ Some x → P j x
hold_all P xs i le h j x at = h j x (let lt = slice_get_within xs j x at in omega (arith, le, lt)) at

pub unknown_at : (compilation : Compilation) (place : ℕ) (at : Place) (alias : Alias (List Name)) (e : Error) → alias_at compilation at ≡ Some alias
    → OrMemory (λ e. AllByName compilation → (target_in compilation place alias.target ≡ Nothing) × (e ≡ UnknownAliasTarget alias.name alias.target)) e → OrMemory (λ e. AllByName compilation → IsUnknownAt compilation place at e) e
unknown_at compilation place at alias e there (inl m) = inl m
unknown_at compilation place at alias e there (inr u) = inr (λ all. let r = u all in record { alias = alias; there = there; nowhere = r.0; told = r.1 })

pub unknown_among : (compilation : Compilation) (place : ℕ) (items : List Place) (i : ℕ) (d : Place) (e : Error) → i < length items → (AllByName compilation → HoldBefore (λ j at. LeadsAt compilation place at) items i)
    → OrMemory (λ e. AllByName compilation → IsUnknownAt compilation place (get_or items i d) e) e → OrMemory (λ e. AllByName compilation → IsUnknownAmong compilation place items e) e
unknown_among compilation place items i d e lt h (inl m) = inl m
unknown_among compilation place items i d e lt h (inr u) = inr (λ all. record { i = i; at = get_or items i d; there = slice_get-get_or items i d lt; earlier = h all; unknown = u all })

pub alias_unknown : (compilation : Compilation) (place : ℕ) (node : ModuleNode) (e : Error) → slice_get compilation.modules.items place ≡ Some node → (AllByName compilation → HoldBefore (λ k other. AllLead compilation k other.aliases.items) compilation.modules.items place)
    → OrMemory (λ e. AllByName compilation → IsUnknownAmong compilation place node.aliases.items e) e → OrMemory (λ e. AllByName compilation → IsAliasUnknown compilation e) e
alias_unknown compilation place node e there h (inl m) = inl m
alias_unknown compilation place node e there h (inr u) = inr (λ all. record { place = place; node = node; there = there; earlier = h all; unknown = u all })
