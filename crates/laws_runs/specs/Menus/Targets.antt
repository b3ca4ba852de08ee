-- What a word names for `--evaluate` by places is what it names by paths and names.
use Rattle.std.specs.Prelude.{◌≡◌, ℕ, List, [], ◌∷◌, Some, None, Option, map, slice_get}
use Rattle.tree_expressions.specs.Shape.{Shape}
use Rattle.modules_compilation.specs.Modulepaths.{path_in}
use Rattle.modules_compilation.specs.declared.compilation.Compilation.{Compilation}
use Rattle.resolve_recipes.specs.Named.{AllByName}
use Rattle.resolve_analysis.specs.Lists.{kept_by, kept_in}
use Rattle.resolve_analysis.specs.Lists.{kept_by, kept_in}
use Rattle.resolve_analysis.specs.declared.module_lists.ModuleLists.{ModuleLists}
use Rattle.justfile_analyzer.specs.Targets.{number_named, target_of}
use Rattle.justfile_analyzer.specs.declared.target.EvaluationTarget.{EvaluationTarget}
use Rattle.justfile_analyzer.specs.declared.target.EvaluationTarget.TheVariants.{Module, Variable}
use Rattle.meaning_dialogues.specs.Evaluation.{Value}
use Rattle.meaning_rules.specs.Worlds.Given.{Overrides, Text, World}
use Rattle.laws_modules.specs.Names.Names.{AreSingle, IsOfWorld}
use Rattle.just_meaning.specs.Actions.{Target, of_module, of_variable}
use Rattle.just_meaning.specs.Actions.{target_of as target_named}
use Rattle.laws_runs.specs.Resolved.Definitions.{definitions_of}

-- the module at the path of a place, or the variable of its number there; or neither is there
abbrev pub IsNamedTarget : Compilation → List ModuleLists → Option EvaluationTarget → Option Target → Type 0
IsNamedTarget compilation lists (Some (Module k)) (Some (of_module path)) = path ≡ path_in compilation.modules.items k
IsNamedTarget compilation lists (Some (Variable k number)) (Some (of_variable x)) =
    (kept : ModuleLists) × (slice_get lists k ≡ Some kept) × (x.path ≡ path_in compilation.modules.items k) × (number_named kept.assignments.items x.name ≡ Some number)
IsNamedTarget compilation lists (Some (Module k)) (Some (of_variable x)) = ⊥
IsNamedTarget compilation lists (Some (Variable k number)) (Some (of_module path)) = ⊥
IsNamedTarget compilation lists (Some target) None = ⊥
IsNamedTarget compilation lists None (Some target) = ⊥
IsNamedTarget compilation lists None None = Unit {0}

-- what a word names
abbrev pub TargetsAreNamed : Type 0
TargetsAreNamed = (w : World) (compilation : Compilation) → IsOfWorld w compilation → AreSingle w compilation → AllByName compilation → (lists : List ModuleLists) → map kept_in lists ≡ map (kept_by compilation) compilation.modules.items
    → (o : Overrides) (settle : ℕ → Shape → Value) (base working word : Text)
    → IsNamedTarget compilation lists (target_of compilation.modules.items lists word) (target_named (definitions_of compilation w.expansion o settle base working) (word ∷ []))
