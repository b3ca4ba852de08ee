-- What the constants of a module are found by: its variables in an order after what they read, texts given for them, and which of them its settings read.
use Rattle.std.specs.Prelude.{◌≡◌, ◌≤◌, ◌^◌, ◌↔◌, ℕ, Bool, true, List, Option, Some, Ok, Contains, String, length}
use Rattle.std.specs.BTreeMap.{BTreeMap}
use Rattle.std.specs.List.{flat_map}
use Rattle.tree_items.specs.declared.ast.Item.TheVariants.{Set as set_item}
use Rattle.tree_items.specs.declared.set.Set.{Set}
use Rattle.just_value.specs.Constants.{constant_rows}
use Rattle.just_value.specs.Frames.{BindsRows, Frames}
use Rattle.just_value.specs.declared.positional.Override.{Override}
use Rattle.evaluate_context.specs.declared.context.AssignmentRef.{AssignmentRef}
use Rattle.evaluate_variables.specs.Opened.{overridden}
use Rattle.modules_compilation.specs.Places.{item_at}
use Rattle.modules_compilation.specs.declared.compilation.Compilation.{Compilation}
use Rattle.modules_compilation.specs.declared.module_node.ModuleNode.{ModuleNode}
use Rattle.modules_compilation.specs.declared.place.Place.{Place}
use Rattle.resolve_order.specs.Flooded.{AreReached}
use Rattle.resolve_order.specs.Reads.{IsVariableOrder}
use Rattle.resolve_references.specs.ItemReferences.{references_of_set}
use Rattle.resolve_references.specs.Places.{places_of}
use Rattle.resolve_references.specs.declared.variable_resolver.VariableResolver.{VariableResolver}
use Rattle.resolve_analysis.specs.Lists.{kept_by, numbers_in, variables_at, variables_in}
use Rattle.resolve_analysis.specs.Overriding.{text_given}
use Rattle.resolve_analysis.specs.Reads.{IsResolverOf, expressions_of, overridden_by, rows_of}
use Rattle.resolve_analysis.specs.Unions.{IsMarkedNumber}
use Rattle.meaning_rules.specs.Worlds.Given.{Text, World}
use Rattle.meaning_rules.specs.Worlds.Compiled.{HasPath}
use Rattle.laws_modules.specs.Names.Names.{HasNode, nodes, views}
use Rattle.laws_names.specs.Reading.Meant.{IsNumberedWorld}
use Rattle.laws_names.specs.Reading.Places.{variable_names}

-- a module of a world is the node at a place of a compilation
pub record IsSettledModule (w : World) (compilation : Compilation) (k : ℕ) (node : ModuleNode) (path : List Text) : Type 0 where
  pub numbered : IsNumberedWorld w compilation
  pub here : HasNode w compilation k node
  pub has_path : HasPath w (views w compilation) (nodes w compilation) k path

-- the setting stands at a place that the module lists
abbrev pub IsListedSet : Compilation → ModuleNode → Set → Type 0
IsListedSet compilation node s = (place : Place) × Contains node.sets.items place × (item_at compilation place ≡ Some (set_item s))

-- the variables and settings that a module keeps, the texts that words give for them, an order of the variables, and which of them the settings read
pub record AreSought {A : Type 0} (compilation : Compilation) (node : ModuleNode) (words : List Override) (overrides : BTreeMap ℕ (String A)) (variables : List AssignmentRef) (order : List ℕ) (sets : List Set) (is_read : ℕ → Bool) : Type 0 where
  pub variables_are : variables_in variables ≡ variables_at compilation node.assignments.items
  pub sets_are : (s : Set) → Contains sets s ↔ IsListedSet compilation node s
  pub given : (number : ℕ) → overridden overrides number ≡ text_given compilation words number
  pub resolver : VariableResolver
  pub of : IsResolverOf (kept_by compilation node) resolver
  pub graph : List (List ℕ)
  pub rows : rows_of resolver (expressions_of (kept_by compilation node)) ≡ Ok graph
  pub small : length graph ≤ 2 ^ 64
  pub ordered : IsVariableOrder graph (length (variable_names compilation node)) order
  pub places : List ℕ
  pub read : places_of resolver (flat_map references_of_set sets) ≡ Ok places
  pub marks : List (Option ℕ)
  pub reached : AreReached graph (overridden_by overrides (variables_at compilation node.assignments.items)) places marks
  pub are_read : (number : ℕ) → (is_read number ≡ true) ↔ IsMarkedNumber (numbers_in variables) marks number

-- the constants of the language are bound
abbrev pub AreOfLanguage : Frames → Type 0
AreOfLanguage constants = BindsRows constant_rows constants.own
