-- A recipe whose parameters have got options is the same otherwise.
use Rattle.std.proofs.Common.{◌≡◌, zero, suc, List, [], ◌∷◌, length, map, Option, refl, sym, ap, subst, ◌∙◌, arith}
use Rattle.std.specs.Prelude.{IfSome}
use Rattle.std.proofs.lemmas.List.Elements.{All-map}
use Rattle.tree_expressions.specs.declared.expression.Expression.{Expression}
use Rattle.std.specs.List.{All}
use Rattle.std.proofs.lemmas.List.{length-map}
use Rattle.tree_items.specs.declared.recipe.Parameter.{Parameter}
use Rattle.tree_items.specs.Recipes.{parameter_shape, parameter_shapes}
use Rattle.parse_expressions.specs.Literals.{Origin, IsCooked}
use Rattle.parse_recipes.specs.Cooked.{AreParametersCooked}
use Rattle.parse_recipes.specs.Numbering.{numbers_of}
use Rattle.parse_attributed_items.specs.Options.{bare, bare_all}

-- what holds of what is seen of each holds of each as it is seen
pub unmapped : {X Y : Type 0} (P : Y → Type 0) (f : X → Y) (xs : List X) → All P (map f xs) → All (λ x. P (f x)) xs
unmapped P f [] all k d h = absurd (omega arith)
unmapped P f (x ∷ xs) all zero d h = all 0 (f d) (omega arith)
unmapped P f (x ∷ xs) all (suc k) d h = unmapped P f xs (λ j e l. all (suc j) e (omega arith)) k d (omega arith)

module _ {B : Type 0} (f : Parameter → B) (blind : (p : Parameter) → f (bare p) ≡ f p) where
  seen_bare : (ps : List Parameter) → map f (bare_all ps) ≡ map f ps
  seen_bare [] = refl
  seen_bare (p ∷ ps) = rw (blind p, seen_bare ps) refl

  -- what doesn't see options sees the same
  same_seen : (new old : List Parameter) → bare_all new ≡ bare_all old → map f new ≡ map f old
  same_seen new old kept = sym (seen_bare new) ∙ ap (map f) kept ∙ seen_bare old

module _ (new old : List Parameter) (kept : bare_all new ≡ bare_all old) where
  pub same_shapes : parameter_shapes new ≡ parameter_shapes old
  same_shapes = same_seen parameter_shape (λ p. refl) new old kept

  pub same_numbers : numbers_of new ≡ numbers_of old
  same_numbers = same_seen (λ p. p.number) (λ p. refl) new old kept

  pub same_length : length new ≡ length old
  same_length = sym (length-map new bare) ∙ ap length kept ∙ length-map old bare

  pub same_cooked : (origin : Origin) → AreParametersCooked origin old → AreParametersCooked origin new
  same_cooked origin these =
      let default : Parameter → Option Expression = λ p. p.default in
      let P : Option Expression → Type 0 = λ e. IfSome e (IsCooked origin) in
      let defaults : map default new ≡ map default old = same_seen default (λ p. refl) new old kept in
      unmapped P default new (subst (All P) (sym defaults) (All-map P default old these))
