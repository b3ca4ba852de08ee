-- The expressions of an item, each with the parameters that it sees.
use Rattle.std.specs.Prelude.{◌≡◌, ℕ, List, [], ◌∷◌, ◌++◌, Option, Some, None, map}
use Rattle.std.specs.List.{All, flat_map}
use Rattle.std.specs.Option.{option_or}
use Rattle.tree_expressions.specs.declared.expression.Expression.{Expression}
use Rattle.tree_expressions.specs.Numbering.{numbers_of, variables_of}
use Rattle.tree_attributes.specs.declared.attribute.Attribute.{Attribute}
use Rattle.tree_attributes.specs.declared.attribute.Attribute.TheVariants.{Confirm, Env, Script}
use Rattle.tree_attributes.specs.declared.setting.Interpreter.{Interpreter}
use Rattle.tree_attributes.specs.declared.setting.Setting.{Setting}
use Rattle.tree_attributes.specs.declared.setting.Setting.TheVariants.{DotenvCommand, DotenvFilename, DotenvPath, ScriptInterpreter, Shell, Tempdir, WindowsShell, WorkingDirectory}
use Rattle.tree_attributes.specs.declared.attribute_item.AttributeItem.{AttributeItem}
use Rattle.tree_attributes.specs.Sets.Sets.{items_of}
use Rattle.tree_items.specs.Contexts.{last_named, named_number, number_in, parameter_number}
use Rattle.tree_items.specs.declared.ast.Item.{Item}
use Rattle.tree_items.specs.declared.ast.Item.TheVariants.{Assignment, Function, Recipe as recipe_item, Set as set_item}
use Rattle.tree_items.specs.declared.line.Fragment.{Fragment}
use Rattle.tree_items.specs.declared.line.Fragment.TheVariants.{Interpolation, Text}
use Rattle.tree_items.specs.declared.line.Line.{Line}
use Rattle.tree_items.specs.declared.recipe.Parameter.{Parameter}
use Rattle.tree_items.specs.declared.recipe.Recipe.{Recipe}
use Rattle.tree_items.specs.declared.recipe.UnresolvedDependency.{UnresolvedDependency}
use Rattle.tree_items.specs.declared.variables.context.ExpressionContext.{ExpressionContext}

-- an expression, and the names of the parameters that it sees with their numbers
pub record Seen : Type 0 where
  pub parameters : List (List ℕ × ℕ)
  pub expression : Expression

abbrev pub seeing : List (List ℕ × ℕ) → Expression → Seen
seeing parameters e = record { parameters = parameters; expression = e }

abbrev pub seeing_if_there : List (List ℕ × ℕ) → Option Expression → List Seen
seeing_if_there parameters None = []
seeing_if_there parameters (Some e) = seeing parameters e ∷ []

abbrev pub seen_in_interpreter : List (List ℕ × ℕ) → Interpreter Expression → List Seen
seen_in_interpreter parameters i = seeing parameters i.command ∷ map (seeing parameters) i.arguments.items

-- an `env` sees no parameter
abbrev pub seen_in_attribute : List (List ℕ × ℕ) → Attribute → List Seen
seen_in_attribute all (Confirm prompt) = seeing_if_there all prompt
seen_in_attribute all (Env key value) = seeing [] key ∷ seeing [] value.value ∷ []
seen_in_attribute all (Script (Some i)) = seen_in_interpreter all i.value
seen_in_attribute all other = []

-- a default, and the value of an option, see the earlier parameters
abbrev pub seen_in_parameters : List (List ℕ × ℕ) → List Parameter → List Seen
seen_in_parameters earlier [] = []
seen_in_parameters earlier (p ∷ ps) = seeing_if_there earlier p.default ++ seeing_if_there earlier p.value ++ seen_in_parameters (earlier ++ parameter_number p ∷ []) ps

abbrev pub seen_in_dependency : List (List ℕ × ℕ) → UnresolvedDependency → List Seen
seen_in_dependency all d = map (λ a. seeing all a.expression) d.arguments.items

abbrev pub seen_in_fragment : List (List ℕ × ℕ) → Fragment → List Seen
seen_in_fragment all (Interpolation e) = seeing all e ∷ []
seen_in_fragment all (Text token) = []

abbrev pub seen_in_line : List (List ℕ × ℕ) → Line → List Seen
seen_in_line all line = flat_map (seen_in_fragment all) line.fragments.items

-- rows of these
abbrev pub seen_in_attributes : List (List ℕ × ℕ) → List AttributeItem → List Seen
seen_in_attributes all items = flat_map (λ (item : AttributeItem). seen_in_attribute all item.attribute) items

abbrev pub seen_in_dependencies : List (List ℕ × ℕ) → List UnresolvedDependency → List Seen
seen_in_dependencies all ds = flat_map (seen_in_dependency all) ds

abbrev pub seen_in_body : List (List ℕ × ℕ) → List Line → List Seen
seen_in_body all lines = flat_map (seen_in_line all) lines

-- what stands behind the parameters sees them all
abbrev pub seen_in_recipe : Recipe UnresolvedDependency → List Seen
seen_in_recipe r =
    let all = map parameter_number r.parameters.items in
    seen_in_attributes all (items_of r.attributes)
    ++ seen_in_parameters [] r.parameters.items
    ++ seen_in_dependencies all r.priors.items
    ++ seen_in_dependencies all r.subsequents.items
    ++ seen_in_body all r.body.items

abbrev pub seen_in_setting : Setting → List Seen
seen_in_setting (DotenvCommand e) = seeing [] e ∷ []
seen_in_setting (DotenvFilename e) = seeing [] e ∷ []
seen_in_setting (DotenvPath e) = seeing [] e ∷ []
seen_in_setting (Tempdir e) = seeing [] e ∷ []
seen_in_setting (WorkingDirectory e) = seeing [] e ∷ []
seen_in_setting (ScriptInterpreter i) = seen_in_interpreter [] i
seen_in_setting (Shell i) = seen_in_interpreter [] i
seen_in_setting (WindowsShell i) = seen_in_interpreter [] i
seen_in_setting setting = []

abbrev pub seen_in : Item → List Seen
seen_in (Assignment a) = seeing [] a.value ∷ []
seen_in (Function f) = seeing (map named_number f.parameters.items) f.body ∷ []
seen_in (recipe_item r) = seen_in_recipe r
seen_in (set_item s) = seen_in_setting s.value
seen_in other = []

-- each variable of the expression has the number of a parameter that it sees, the last of its name, else that of the bindings
abbrev pub HasNumbers : (List ℕ → Option ℕ) → Seen → Type 0
HasNumbers bindings s = numbers_of s.expression ≡ map (λ name. option_or (last_named name s.parameters) (bindings name)) (variables_of s.expression)

-- the same of all expressions of an item
abbrev pub HaveNumbers : (List ℕ → Option ℕ) → Item → Type 0
HaveNumbers bindings item = All (HasNumbers bindings) (seen_in item)

-- the context has the numbers of these names, of equal ones the last number, and no other
abbrev pub StandsFor : ExpressionContext → List (List ℕ × ℕ) → Type 0
StandsFor context names = (name : List ℕ) → number_in context name ≡ last_named name names

-- these expressions have numbers, whatever names they see that the context stands for
abbrev pub AreNumberedBy : ExpressionContext → ExpressionContext → (List (List ℕ × ℕ) → List Seen) → Type 0
AreNumberedBy context bindings seen = (names : List (List ℕ × ℕ)) → StandsFor context names → All (HasNumbers (number_in bindings)) (seen names)
