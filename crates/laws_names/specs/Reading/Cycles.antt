-- Cycles of variables in a module's graph of reads are those by the rules.
use Rattle.std.specs.Prelude.{◌≡◌, ◌≤◌, ◌^◌, ℕ, List, Ok, Some, length, map, slice_get}
use Rattle.modules_compilation.specs.declared.compilation.Compilation.{Compilation}
use Rattle.modules_compilation.specs.declared.module_node.ModuleNode.{ModuleNode}
use Rattle.resolve_order.specs.Cycles.{IsReadCycle}
use Rattle.resolve_order.specs.Reads.{IsVariableOrder}
use Rattle.resolve_references.specs.declared.variable_resolver.VariableResolver.{VariableResolver}
use Rattle.resolve_analysis.specs.Lists.{kept_by}
use Rattle.resolve_analysis.specs.Reads.{IsResolverOf, expressions_of, rows_of}
use Rattle.meaning_rules.specs.Worlds.Given.{Overrides, Text, World}
use Rattle.meaning_rules.specs.Reading.{IsVariableCycle}
use Rattle.meaning_rules.specs.Rules.{Broken, circular_variable}
use Rattle.laws_modules.specs.Names.Names.{HasNode}
use Rattle.laws_names.specs.Reading.Meant.{IsNumberedWorld}
use Rattle.laws_names.specs.Reading.Places.{variable_names}

-- a graph has what the variables and functions of a module read and call
pub record IsGraphOf (compilation : Compilation) (node : ModuleNode) (graph : List (List ℕ)) : Type 0 where
  pub resolver : VariableResolver
  pub of : IsResolverOf (kept_by compilation node) resolver
  pub rows : rows_of resolver (expressions_of (kept_by compilation node)) ≡ Ok graph

-- the names stand at the places
abbrev pub AreNamesAt : List Text → List ℕ → List Text → Type 0
AreNamesAt variables places names = map (slice_get variables) places ≡ map (λ name. Some name) names

-- the variables of a cycle of the graph break the rule
abbrev pub CyclesAreBroken : Type 0
CyclesAreBroken = (w : World) (o : Overrides) (compilation : Compilation) → IsNumberedWorld w compilation → (k : ℕ) (node : ModuleNode) → HasNode w compilation k node
    → (graph : List (List ℕ)) → IsGraphOf compilation node graph → (places : List ℕ) → IsReadCycle graph (length (variable_names compilation node)) places
    → (names : List Text) → AreNamesAt (variable_names compilation node) places names → Broken w o (circular_variable names)

-- where the variables stand in an order after all that they read, the module has no cycle
abbrev pub OrdersHaveNoCycle : Type 0
OrdersHaveNoCycle = (w : World) (compilation : Compilation) → IsNumberedWorld w compilation → (k : ℕ) (node : ModuleNode) → HasNode w compilation k node
    → (graph : List (List ℕ)) → IsGraphOf compilation node graph → length graph ≤ 2 ^ 64
    → (order : List ℕ) → IsVariableOrder graph (length (variable_names compilation node)) order → (names : List Text) → IsVariableCycle w node.source.now names → ⊥
