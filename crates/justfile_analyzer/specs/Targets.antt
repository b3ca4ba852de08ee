-- What a word names for `--evaluate`.
use Rattle.std.specs.Prelude.{◌≡◌, ℕ, Bool, List, [], ◌∷◌, Option, Some, None, find, slice_get}
use Rattle.std.specs.Option.{option_and_then, option_map}
use Rattle.std.specs.Str.{bytes_eq}
use Rattle.just_text.specs.Tokens.{lexeme}
use Rattle.evaluate_context.specs.declared.context.AssignmentRef.{AssignmentRef}
use Rattle.modules_compilation.specs.Modulepaths.{pieces}
use Rattle.modules_compilation.specs.declared.module_node.ModuleNode.{ModuleNode}
use Rattle.resolve_recipes.specs.Named.{AreByName, module_text, submodule_in}
use Rattle.resolve_analysis.specs.declared.module_lists.ModuleLists.{ModuleLists}
use Rattle.justfile_analyzer.specs.declared.target.EvaluationTarget.{EvaluationTarget}
use Rattle.justfile_analyzer.specs.declared.target.EvaluationTarget.TheVariants.{Module, Variable}

-- the submodules of each module stand in byte order of their names
abbrev pub AreInOrder : List ModuleNode → Type 0
AreInOrder modules = (place : ℕ) (node : ModuleNode) → slice_get modules place ≡ Some node → AreByName (module_text modules) node.submodules.items

abbrev pub has_name : List ℕ → AssignmentRef → Bool
has_name name lent = bytes_eq (lexeme lent.assignment.now.name.token) name

-- the number of the first variable of the name
abbrev pub number_named : List AssignmentRef → List ℕ → Option ℕ
number_named variables name = option_map (λ lent. lent.assignment.now.number) (find (has_name name) variables)

-- the variable of the name that the module at a place keeps
abbrev pub variable_in : List ModuleLists → ℕ → List ℕ → Option EvaluationTarget
variable_in lists place name = option_and_then (λ kept. option_map (Variable place) (number_named kept.assignments.items name)) (slice_get lists place)

abbrev pub module_or : Option ℕ → Option EvaluationTarget → Option EvaluationTarget
module_or (Some inner) variable = Some (Module inner)
module_or None variable = variable

module _ (modules : List ModuleNode) (lists : List ModuleLists) where
  -- the submodule of the name, or else the variable, in a module that was found
  abbrev pub leads_on : Option EvaluationTarget → List ℕ → Option EvaluationTarget
  leads_on (Some (Module place)) name = module_or (submodule_in modules place name) (variable_in lists place name)
  leads_on (Some (Variable place number)) name = None
  leads_on None name = None

  abbrev pub leads_from : Option EvaluationTarget → List (List ℕ) → Option EvaluationTarget
  leads_from found [] = found
  leads_from found (name ∷ names) = leads_from (leads_on found name) names

  -- what a word names from the root, by the names between each two `::`
  abbrev pub target_of : List ℕ → Option EvaluationTarget
  target_of word = leads_from (Some (Module 0)) (pieces word)
