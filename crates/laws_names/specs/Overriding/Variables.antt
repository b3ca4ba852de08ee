-- The variable to which names lead in a compilation, and in a world that the compilation stands for.
use Rattle.std.specs.Prelude.{◌≡◌, ℕ, List, [], ◌∷◌, ◌++◌, Option, Some, None, Contains}
use Rattle.just_text.specs.Tokens.{lexeme}
use Rattle.tree_expressions.specs.declared.expression.Expression.{Expression}
use Rattle.tree_items.specs.Files.{item_shape}
use Rattle.tree_items.specs.declared.ast.Item.TheVariants.{Assignment}
use Rattle.tree_items.specs.declared.item.Binding.{Binding}
use Rattle.modules_compilation.specs.declared.compilation.Compilation.{Compilation}
use Rattle.modules_compilation.specs.declared.module_node.ModuleNode.{ModuleNode}
use Rattle.modules_compilation.specs.declared.place.Place.{Place}
use Rattle.resolve_recipes.specs.Leading.{variable_from}
use Rattle.resolve_analysis.specs.Lists.{variable_at}
use Rattle.meaning_rules.specs.Worlds.Given.{Text, World}
use Rattle.meaning_rules.specs.Worlds.Modules.{IsModule}
use Rattle.meaning_rules.specs.Worlds.Keeping.{IsDefined, KeepsAt, a_variable}
use Rattle.meaning_rules.specs.Worlds.Compiled.{HasPath, IsAt}
use Rattle.meaning_rules.specs.Worlds.Views.{node_view}
use Rattle.laws_modules.specs.Names.Names.{AreSingle, HasNode, IsOfWorld, nodes, views}

module _ (w : World) (compilation : Compilation) where
  -- the variable of the name that the module keeps stands at the place, which the node lists
  pub record KeepsVariable (node : ModuleNode) (name : Text) (place : Place) : Type 0 where
    pub listed : Contains node.assignments.items place
    pub variable : Binding Expression
    pub stands : variable_at compilation place ≡ Some variable
    pub is_named : lexeme variable.name.token ≡ name
    pub key : Text
    pub at : ℕ
    pub there : IsAt w (views w compilation) (nodes w compilation) (node_view node) place key at (item_shape (Assignment variable))
    pub keeps : KeepsAt w node.source.now a_variable name key at (item_shape (Assignment variable))

  -- the names are the path of a module and the name of a variable that it keeps, which stands at the place
  pub record LeadsToVariable (names : List Text) (place : Place) : Type 0 where
    pub path : List Text
    pub name : Text
    pub whole : names ≡ path ++ name ∷ []
    pub k : ℕ
    pub node : ModuleNode
    pub here : HasNode w compilation k node
    pub has_path : HasPath w (views w compilation) (nodes w compilation) k path
    pub is : IsModule w path node.source.now
    pub keeps : KeepsVariable node name place

  -- the place of the variable to which names lead, or none where no module of their path defines one
  abbrev pub IsVariableFrom : List Text → Option Place → Type 0
  IsVariableFrom names (Some place) = LeadsToVariable names place
  IsVariableFrom names None = (path : List Text) (own name : Text) → names ≡ path ++ name ∷ [] → IsModule w path own → IsDefined w own a_variable name → ⊥

-- the variable to which names lead is that which the world has
abbrev pub VariablesAreFound : Type 0
VariablesAreFound = (w : World) (compilation : Compilation) → IsOfWorld w compilation → AreSingle w compilation
    → (names : List Text) → IsVariableFrom w compilation names (variable_from compilation (Some 0) names)
