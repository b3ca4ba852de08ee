-- Variables by names of modules.
use Rattle.std.proofs.Common.{◌≡◌, ℕ, ◌==◌, ◌&&◌, List, [], ◌∷◌, Option, Some, None, slice_get, refl, sym, ap, subst, ◌∙◌}
use Rattle.std.specs.List.{onto_first}
use Rattle.modules_compilation.specs.Modulepaths.{pieces}
use Rattle.modules_compilation.specs.declared.compilation.Compilation.{Compilation}
use Rattle.modules_compilation.specs.declared.module_node.ModuleNode.{ModuleNode}
use Rattle.modules_compilation.specs.declared.place.Place.{Place}
use Rattle.resolve_recipes.specs.Leading.{variable_from, variable_in, variable_of}
use Rattle.resolve_recipes.specs.Named.{AllByName, AreByName, first_named, submodule_in, text_at}
use Rattle.resolve_recipes.proofs.Pieces.{by_test}

-- those of a module that is there
pub variable_found : (compilation : Compilation) (place : ℕ) (node : ModuleNode) (places : List Place) (name : List ℕ) (found : Option Place) → Some node ≡ slice_get compilation.modules.items place → places ≡ node.assignments.items
    → (AreByName (text_at compilation) places → found ≡ first_named (text_at compilation) places name) → AllByName compilation → found ≡ variable_in compilation (Some place) name
variable_found compilation place node places name found there same is all =
    is (subst (AreByName (text_at compilation)) (sym same) (all place node (sym there)).variables)
    ∙ ap (λ ps. first_named (text_at compilation) ps name) same
    ∙ ap (λ n. variable_of compilation n name) there

pub no_variable : (compilation : Compilation) (names : List (List ℕ)) → variable_from compilation None names ≡ None
no_variable compilation [] = refl
no_variable compilation (name ∷ []) = refl
no_variable compilation (name ∷ other ∷ names) = no_variable compilation (other ∷ names)

-- a text has at least one piece
record HasPiece (text : List ℕ) : Type 0 where
  pub first : List ℕ
  pub others : List (List ℕ)
  pub are : pieces text ≡ first ∷ others

has_piece : (text : List ℕ) → HasPiece text
has_piece [] = record { first = []; others = []; are = refl }
has_piece (b ∷ []) = record { first = b ∷ []; others = []; are = refl }
has_piece (b ∷ c ∷ bs) = by_test (b == 58 && c == 58)
    (λ e. record { first = []; others = pieces bs; are = rw e refl })
    (λ e. let more = has_piece (c ∷ bs) in record { first = b ∷ more.first; others = more.others; are = rw e (ap (onto_first b) more.are) })

-- a name before others leads to a submodule
pub leads_in : (compilation : Compilation) (place : ℕ) (name text : List ℕ) → variable_from compilation (Some place) (name ∷ pieces text) ≡ variable_from compilation (submodule_in compilation.modules.items place name) (pieces text)
leads_in compilation place name text =
    let some = has_piece text in
    ap (λ ps. variable_from compilation (Some place) (name ∷ ps)) some.are ∙ sym (ap (variable_from compilation (submodule_in compilation.modules.items place name)) some.are)
