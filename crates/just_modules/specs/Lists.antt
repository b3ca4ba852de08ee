-- The features of lists that an item uses, in the order in which they are looked for.
use Rattle.std.specs.Prelude.{Bool, true, false, List, [], ◌∷◌, ◌++◌, Option, Some, None, slice_get}
use Rattle.std.specs.List.{flat_map}
use Rattle.std.specs.Option.{option_map}
use Rattle.std.specs.Global.{Box}
use Rattle.tree_expressions.specs.declared.expression.Expression.{Expression}
use Rattle.tree_expressions.specs.declared.string_literal.StringLiteral.{StringLiteral}
use Rattle.tree_expressions.specs.Shape.{shape_of}
use Rattle.tree_attributes.specs.declared.attribute.Attribute.{Attribute}
use Rattle.tree_attributes.specs.declared.attribute.Attribute.TheVariants.{Arg, Confirm, Env, Script}
use Rattle.tree_attributes.specs.declared.setting.Interpreter.{Interpreter}
use Rattle.tree_attributes.specs.declared.setting.Setting.{Setting}
use Rattle.tree_attributes.specs.declared.setting.Setting.TheVariants.{DotenvCommand, DotenvFilename, DotenvPath, ScriptInterpreter, Shell, Tempdir, WindowsShell, WorkingDirectory}
use Rattle.tree_attributes.specs.declared.attribute_item.AttributeItem.{AttributeItem}
use Rattle.tree_attributes.specs.declared.attribute_set.AttributeSet.{AttributeSet}
use Rattle.tree_attributes.specs.Sets.Sets.{items_of}
use Rattle.tree_items.specs.declared.ast.Item.{Item}
use Rattle.tree_items.specs.declared.ast.Item.TheVariants.{Assignment, Function, Recipe as RecipeItem, Set}
use Rattle.tree_items.specs.declared.ast.ListFeature.{ListFeature}
use Rattle.tree_items.specs.declared.ast.ListFeature.TheVariants.{StarredArgument}
use Rattle.tree_items.specs.declared.line.Fragment.{Fragment}
use Rattle.tree_items.specs.declared.line.Fragment.TheVariants.{Interpolation, Text}
use Rattle.tree_items.specs.declared.line.Line.{Line}
use Rattle.tree_items.specs.declared.recipe.DependencyArgument.{DependencyArgument}
use Rattle.tree_items.specs.declared.recipe.Parameter.{Parameter}
use Rattle.tree_items.specs.declared.recipe.Recipe.{Recipe}
use Rattle.tree_items.specs.declared.recipe.UnresolvedDependency.{UnresolvedDependency}
use Rattle.just_modules.specs.declared.lists.ListUse.{ListUse}
use Rattle.meaning_rules.specs.Rules.{lists_in}

-- the feature that is used, if one is
abbrev pub feature_of : Option ListUse → Option ListFeature
feature_of used = option_map (λ u. u.feature) used

abbrev pub first : List ListFeature → Option ListFeature
first features = slice_get features 0

abbrev pub in_expression : Expression → List ListFeature
in_expression e = lists_in false (shape_of e)

-- an operator that compares is no feature of lists in a condition
abbrev pub in_condition : Expression → List ListFeature
in_condition e = lists_in true (shape_of e)

abbrev pub in_boxed : Option (Box Expression) → List ListFeature
in_boxed None = []
in_boxed (Some e) = in_expression e.value

abbrev pub in_option : Option Expression → List ListFeature
in_option None = []
in_option (Some e) = in_expression e

abbrev pub in_interpolation : Expression × StringLiteral → List ListFeature
in_interpolation part = in_expression part.0

abbrev pub in_interpreter : Interpreter Expression → List ListFeature
in_interpreter i = in_expression i.command ++ flat_map in_expression i.arguments.items

abbrev pub in_attribute : Attribute → List ListFeature
in_attribute (Arg options) = in_option options.value.value
in_attribute (Confirm prompt) = in_option prompt
in_attribute (Env key value) = in_expression key ++ in_expression value.value
in_attribute (Script (Some interpreter)) = in_interpreter interpreter.value
in_attribute other = []

abbrev pub in_attribute_item : AttributeItem → List ListFeature
in_attribute_item item = in_attribute item.attribute

abbrev pub in_attributes : AttributeSet → List ListFeature
in_attributes attributes = flat_map in_attribute_item (items_of attributes)

abbrev pub in_setting : Setting → List ListFeature
in_setting (DotenvCommand value) = in_expression value
in_setting (DotenvFilename value) = in_expression value
in_setting (DotenvPath value) = in_expression value
in_setting (Tempdir value) = in_expression value
in_setting (WorkingDirectory value) = in_expression value
in_setting (ScriptInterpreter interpreter) = in_interpreter interpreter
in_setting (Shell interpreter) = in_interpreter interpreter
in_setting (WindowsShell interpreter) = in_interpreter interpreter
in_setting other = []

abbrev pub in_parameter : Parameter → List ListFeature
in_parameter p = in_option p.default ++ in_option p.value

-- a starred argument is one, whatever it holds
abbrev pub in_starred : Bool → Expression → List ListFeature
in_starred true e = StarredArgument ∷ in_expression e
in_starred false e = in_expression e

abbrev pub in_argument : DependencyArgument → List ListFeature
in_argument a = in_starred a.starred a.expression

abbrev pub in_dependency : UnresolvedDependency → List ListFeature
in_dependency d = flat_map in_argument d.arguments.items

abbrev pub in_fragment : Fragment → List ListFeature
in_fragment (Interpolation e) = in_expression e
in_fragment (Text token) = []

abbrev pub in_line : Line → List ListFeature
in_line line = flat_map in_fragment line.fragments.items

abbrev pub in_recipe : Recipe UnresolvedDependency → List ListFeature
in_recipe r =
    (in_attributes r.attributes ++ flat_map in_parameter r.parameters.items)
    ++ ((flat_map in_dependency r.priors.items ++ flat_map in_dependency r.subsequents.items) ++ flat_map in_line r.body.items)

abbrev pub lists_of : Item → List ListFeature
lists_of (Assignment a) = in_expression a.value
lists_of (Function f) = in_expression f.body
lists_of (RecipeItem r) = in_recipe r
lists_of (Set s) = in_setting s.value
lists_of other = []
