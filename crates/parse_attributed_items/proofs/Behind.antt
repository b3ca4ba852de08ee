-- The first parameter after a default that needs a value, as it is looked for.
use Rattle.std.proofs.Common.{◌≡◌, ℕ, Bool, true, false, List, ◌∷◌, Some, Option, refl}
use Rattle.std.specs.Prelude.{not, ◌&&◌, ◌||◌, find, is_some}
use Rattle.std.specs.Option.{option_map}
use Rattle.tree_attributes.specs.Attributes.{OptionsShape}
use Rattle.tree_items.specs.Recipes.{ParameterShape}
use Rattle.parse_expressions.specs.Literals.{Expansion}
use Rattle.parse_attributed_items.specs.Rules.{late, may_lack}

module _ (expansion : Expansion) (os : List OptionsShape) where
  -- the name that is told of those that are left, where a default came before or not
  abbrev pub late_from : Bool → List ParameterShape → Option (List ℕ)
  late_from true ps = option_map (λ (q : ParameterShape). q.name) (find (λ q. not (may_lack expansion os q)) ps)
  late_from false ps = late expansion os ps

  pub stops : (behind : Bool) (p : ParameterShape) (ps : List ParameterShape) → behind ≡ true → may_lack expansion os p ≡ false → late_from behind (p ∷ ps) ≡ Some p.name
  stops behind p ps b h = rw (b, h) refl

  defaults : (default : Bool) (p : ParameterShape) (ps : List ParameterShape) → is_some p.default ≡ default → late_from false (p ∷ ps) ≡ late_from default ps
  defaults true p ps h = rw h refl
  defaults false p ps h = rw h refl

  goes_behind : (lack : Bool) (p : ParameterShape) (ps : List ParameterShape) → may_lack expansion os p ≡ lack → (true && not lack) ≡ false → late_from true (p ∷ ps) ≡ late_from true ps
  goes_behind true p ps e h = rw e refl
  goes_behind false p ps e h = absurd cc

  pub goes_on : (behind : Bool) (p : ParameterShape) (ps : List ParameterShape) → (behind && not (may_lack expansion os p)) ≡ false → late_from behind (p ∷ ps) ≡ late_from (behind || is_some p.default) ps
  goes_on true p ps h = goes_behind (may_lack expansion os p) p ps refl h
  goes_on false p ps h = defaults (is_some p.default) p ps refl
