-- The submodule of a name in the tree of modules is the one that is found by places.
use Rattle.std.proofs.Common.{◌≡◌, ◌∙◌, ap, Bool, true, false, cond, List, [], ◌∷◌, ℕ, zero, suc, ◌<◌, ◌≤◌, ◌+◌, Option, Some, None, refl, arith, length}
use Rattle.std.specs.Prelude.{slice_get}
use Rattle.std.specs.Option.{option_map}
use Rattle.std.specs.Str.{bytes_eq}
use Rattle.modules_compilation.specs.declared.compilation.Compilation.{Compilation}
use Rattle.modules_compilation.specs.declared.module_node.ModuleNode.{ModuleNode}
use Rattle.resolve_recipes.specs.Named.{first_named, module_text, submodule_in, submodule_of}
use Rattle.meaning_rules.specs.Worlds.Given.{Text}
use Rattle.meaning_evaluation.specs.Named.{Modules}
use Rattle.just_meaning.specs.Actions.{submodules_of}
use Rattle.laws_runs.specs.Resolved.Definitions.{beside, modules_below, rows_of}

module _ (compilation : Compilation) (name : Text) where
  -- of modules beside each other, the first of the name
  beside_named : (below : ℕ → Modules) (ks : List ℕ) → submodules_of name (beside compilation below ks) ≡ option_map below (first_named (module_text compilation.modules.items) ks name)
  beside_named below [] = refl
  beside_named below (k ∷ ks) = by_test (bytes_eq (module_text compilation.modules.items k) name) (beside_named below ks)
    where
      by_test : (b : Bool) → submodules_of name (beside compilation below ks) ≡ option_map below (first_named (module_text compilation.modules.items) ks name)
          → cond b (Some (below k)) (submodules_of name (beside compilation below ks)) ≡ option_map below (cond b (Some k) (first_named (module_text compilation.modules.items) ks name))
      by_test true later = refl
      by_test false later = later

  -- of those below a module, the one that it has by places
  below_named : (levels k : ℕ) → submodules_of name (modules_below compilation (suc levels) k) ≡ option_map (modules_below compilation levels) (submodule_in compilation.modules.items k name)
  below_named levels k = by_node (slice_get compilation.modules.items k)
    where
      by_node : (o : Option ModuleNode) → submodules_of name (beside compilation (modules_below compilation levels) (rows_of (λ node. node.submodules.items) o))
          ≡ option_map (modules_below compilation levels) (submodule_of compilation.modules.items o name)
      by_node None = refl
      by_node (Some node) = beside_named (modules_below compilation levels) node.submodules.items

  -- where one is found by places, it is in a tree that is deep enough
  pub record IsDeeper (levels k inner : ℕ) : Type 0 where
    pub deep : ℕ
    pub enough : length compilation.modules.items ≤ deep + inner
    pub there : submodules_of name (modules_below compilation levels k) ≡ Some (modules_below compilation deep inner)

  pub inner_there : (levels k inner : ℕ) → length compilation.modules.items ≤ levels + k → k < inner → inner < length compilation.modules.items → submodule_in compilation.modules.items k name ≡ Some inner → IsDeeper levels k inner
  inner_there zero k inner le after within e = absurd (omega (arith, le, after, within))
  inner_there (suc levels) k inner le after within e =
      record { deep = levels; enough = omega (arith, le, after); there = below_named levels k ∙ ap (option_map (modules_below compilation levels)) e }

  -- where none is, none is in the tree
  pub none_there : (levels k : ℕ) → submodule_in compilation.modules.items k name ≡ None → submodules_of name (modules_below compilation levels k) ≡ None
  none_there zero k e = refl
  none_there (suc levels) k e = below_named levels k ∙ ap (option_map (modules_below compilation levels)) e
