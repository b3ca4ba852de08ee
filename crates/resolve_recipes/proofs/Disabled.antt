-- Disabled recipes by paths.
use Rattle.std.proofs.Common.{◌≡◌, ℕ, List, [], ◌∷◌, ◌++◌, Option, Some, None, slice_get, refl, sym, ap, subst, ◌∙◌}
use Rattle.just_text.specs.Tokens.{lexeme}
use Rattle.just_text.specs.declared.name.Name.{Name}
use Rattle.std.specs.Option.{option_and_then}
use Rattle.modules_compilation.specs.declared.compilation.Compilation.{Compilation}
use Rattle.modules_compilation.specs.declared.module_node.ModuleNode.{ModuleNode}
use Rattle.modules_compilation.specs.declared.place.Place.{Place}
use Rattle.resolve_recipes.specs.Leading.{module_from, name_texts}
use Rattle.resolve_recipes.specs.Named.{AllByName, AreByName, first_named, submodule_in, text_at}
use Rattle.resolve_recipes.specs.Disabled.{disabled_by, disabled_from, disabled_in}

-- the last name is the recipe's, and those before it are the submodules'
pub from_last : (compilation : Compilation) (place : Option ℕ) (names : List Name) (last : Name) → disabled_from compilation place (names ++ last ∷ []) ≡ disabled_in compilation (module_from compilation.modules.items place (name_texts names)) (lexeme last.token)
from_last compilation place [] last = refl
from_last compilation place (name ∷ []) last = refl
from_last compilation place (name ∷ other ∷ names) last = from_last compilation (option_and_then (λ place. submodule_in compilation.modules.items place (lexeme name.token)) place) (other ∷ names) last

-- those of a module that is there
pub by_node : (compilation : Compilation) (place : ℕ) (node : ModuleNode) (places : List Place) (name : List ℕ) (found : Option Place) → Some node ≡ slice_get compilation.modules.items place → places ≡ node.disabled.items
    → (AreByName (text_at compilation) places → found ≡ first_named (text_at compilation) places name) → AllByName compilation → found ≡ disabled_in compilation (Some place) name
by_node compilation place node places name found there same is all =
    is (subst (AreByName (text_at compilation)) (sym same) (all place node (sym there)).disabled)
    ∙ ap (λ ps. first_named (text_at compilation) ps name) (same ∙ ap disabled_by there)
