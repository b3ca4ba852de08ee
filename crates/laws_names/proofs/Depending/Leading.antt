-- The recipe to which a path leads in a compilation is found there by its name.
use Rattle.std.proofs.Common.{◌≡◌, List, [], ◌∷◌, ℕ, Option, Some, None, refl}
use Rattle.std.specs.Prelude.{slice_get}
use Rattle.std.proofs.lemmas.Option.{none-some}
use Rattle.just_text.specs.Tokens.{lexeme}
use Rattle.just_text.specs.declared.name.Name.{Name}
use Rattle.modules_compilation.specs.declared.compilation.Compilation.{Compilation}
use Rattle.modules_compilation.specs.declared.compilation.Target.{Target}
use Rattle.modules_compilation.specs.declared.compilation.Target.TheVariants.{Recipe, Module, Nothing}
use Rattle.modules_compilation.specs.declared.module_node.ModuleNode.{ModuleNode}
use Rattle.modules_compilation.specs.declared.place.Place.{Place}
use Rattle.resolve_recipes.specs.Leading.{leads_from, leads_on, recipe_or_module, target_in}
use Rattle.resolve_recipes.specs.Named.{recipe_of, submodule_in}
use Rattle.meaning_rules.specs.Worlds.Given.{Text}

module _ (compilation : Compilation) where
  -- the recipe stands in the module, where it is found by this name
  pub record IsFoundBy (inner : ℕ) (item : Place) : Type 0 where
    pub node : ModuleNode
    pub here : slice_get compilation.modules.items inner ≡ Some node
    pub name : Text
    pub found : recipe_of compilation (Some node) name ≡ Some item

  abbrev pub IsNamed : Target → Type 0
  IsNamed (Recipe inner item) = IsFoundBy inner item
  IsNamed (Module inner) = Unit {0}
  IsNamed Nothing = Unit {0}

  in_node : (place : ℕ) (name : Text) (item : Place) (o : Option ModuleNode) → slice_get compilation.modules.items place ≡ o → recipe_of compilation o name ≡ Some item → IsFoundBy place item
  in_node place name item None is e = absurd (none-some item e)
  in_node place name item (Some node) is e = record { node = node; here = is; name = name; found = e }

  by_found : (place : ℕ) (name : Text) (found : Option Place) (inner : Option ℕ) → recipe_of compilation (slice_get compilation.modules.items place) name ≡ found → IsNamed (recipe_or_module place found inner)
  by_found place name (Some item) inner e = in_node place name item (slice_get compilation.modules.items place) refl e
  by_found place name None (Some inner) e = tt
  by_found place name None None e = tt

  named_on : (target : Target) (name : Text) → IsNamed (leads_on compilation target name)
  named_on (Module place) name = by_found place name (recipe_of compilation (slice_get compilation.modules.items place) name) (submodule_in compilation.modules.items place name) refl
  named_on (Recipe place item) name = tt
  named_on Nothing name = tt

  named_from : (names : List Name) (target : Target) → IsNamed target → IsNamed (leads_from compilation target names)
  named_from [] target h = h
  named_from (name ∷ names) target h = named_from names (leads_on compilation target (lexeme name.token)) (named_on target (lexeme name.token))

  pub target_named : (k : ℕ) (names : List Name) → IsNamed (target_in compilation k names)
  target_named k names = named_from names (Module k) tt
