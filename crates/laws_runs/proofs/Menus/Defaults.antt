-- The default of a module is one of its recipes.
use Rattle.std.proofs.Common.{◌≡◌, ◌⊎◌, ◌∙◌, ap, inl, inr, Bool, true, false, cond, List, [], ◌∷◌, Option, Some, None, filter, nat_eq, refl}
use Rattle.std.specs.Prelude.{Contains}
use Rattle.std.specs.Option.{option_or}
use Rattle.std.proofs.lemmas.Option.{none-some, same_Some}
use Rattle.modules_compilation.specs.declared.compilation.Compilation.{Compilation}
use Rattle.modules_compilation.specs.declared.module_node.ModuleNode.{ModuleNode}
use Rattle.modules_compilation.specs.declared.place.Place.{Place}
use Rattle.resolve_recipes.specs.Defaults.{default_of, earlier, earliest, earliest_from, has_default, is_no_later}
use Rattle.resolve_recipes.specs.Nodes.{recipe_at}
use Rattle.meaning_rules.proofs.Worlds.Places.{contains_later, contains_at}

from_earlier : (found : Option Place) (x p : Place) → earlier found x ≡ Some p → (found ≡ Some p) ⊎ (x ≡ p)
from_earlier None x p e = inr (same_Some x p e)
from_earlier (Some y) x p e = by_test (is_no_later y x) e
  where
    by_test : (b : Bool) → cond b (Some y) (Some x) ≡ Some p → (Some y ≡ Some p) ⊎ (x ≡ p)
    by_test true e = inl e
    by_test false e = inr (same_Some x p e)

module _ (counts : Place → Bool) (p : Place) where
  -- the earliest of some is among all
  earliest_there : (found : Option Place) (xs : List Place) → earliest_from found (filter counts xs) ≡ Some p → (found ≡ Some p) ⊎ Contains xs p
  earliest_there found [] e = inl e
  earliest_there found (x ∷ xs) e = by_test (counts x) (λ before e. earliest_there before xs e) e
    where
      later : (found ≡ Some p) ⊎ Contains xs p → (found ≡ Some p) ⊎ Contains (x ∷ xs) p
      later h = elim h [
        | inl is ↦ inl is
        | inr c ↦ inr (contains_later x xs p c)
      ]

      with_first : (earlier found x ≡ Some p) ⊎ Contains xs p → (found ≡ Some p) ⊎ Contains (x ∷ xs) p
      with_first h = elim h [
        | inl is ↦ elim (from_earlier found x p is) [
          | inl one ↦ inl one
          | inr here ↦ inr (contains_at (x ∷ xs) 0 p (ap (λ q. Some q) here))
        ]
        | inr c ↦ inr (contains_later x xs p c)
      ]

      by_test : (b : Bool) → ((before : Option Place) → earliest_from before (filter counts xs) ≡ Some p → (before ≡ Some p) ⊎ Contains xs p)
          → earliest_from found (cond b (x ∷ filter counts xs) (filter counts xs)) ≡ Some p → (found ≡ Some p) ⊎ Contains (x ∷ xs) p
      by_test true more e = with_first (more (earlier found x) e)
      by_test false more e = later (more found e)

  earliest_among : (xs : List Place) → earliest (filter counts xs) ≡ Some p → Contains xs p
  earliest_among xs e = elim (earliest_there None xs e) [
    | inl is ↦ absurd (none-some p is)
    | inr c ↦ c
  ]

pub default_listed : (compilation : Compilation) (node : ModuleNode) (place : Place) → default_of compilation node ≡ Some place → Contains node.recipes.items place
default_listed compilation node place e = by_marked (earliest (filter (λ item. has_default (recipe_at compilation item)) node.recipes.items)) refl e
  where
    by_marked : (o : Option Place) → earliest (filter (λ item. has_default (recipe_at compilation item)) node.recipes.items) ≡ o
        → option_or o (earliest (filter (λ item. nat_eq item.file node.first_file) node.recipes.items)) ≡ Some place → Contains node.recipes.items place
    by_marked (Some marked) is e = earliest_among (λ item. has_default (recipe_at compilation item)) place node.recipes.items (is ∙ e)
    by_marked None is e = earliest_among (λ item. nat_eq item.file node.first_file) place node.recipes.items e
