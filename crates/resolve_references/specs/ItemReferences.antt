-- The calls and variables of recipes and settings.
use Rattle.std.specs.Prelude.{List, [], ◌++◌, Option, Some, None}
use Rattle.std.specs.List.{flat_map}
use Rattle.tree_expressions.specs.declared.expression.Expression.{Expression}
use Rattle.tree_attributes.specs.declared.attribute.Attribute.{Attribute}
use Rattle.tree_attributes.specs.declared.attribute.Attribute.TheVariants.{Confirm, Env, Script}
use Rattle.tree_attributes.specs.declared.setting.Interpreter.{Interpreter}
use Rattle.tree_attributes.specs.declared.setting.Setting.{Setting}
use Rattle.tree_attributes.specs.declared.setting.Setting.TheVariants.{DotenvCommand, DotenvFilename, DotenvPath, ScriptInterpreter, Shell, Tempdir, WindowsShell, WorkingDirectory}
use Rattle.tree_attributes.specs.declared.attribute_item.AttributeItem.{AttributeItem}
use Rattle.tree_attributes.specs.Sets.Sets.{items_of}
use Rattle.tree_items.specs.declared.line.Fragment.{Fragment}
use Rattle.tree_items.specs.declared.line.Fragment.TheVariants.{Interpolation, Text}
use Rattle.tree_items.specs.declared.line.Line.{Line}
use Rattle.tree_items.specs.declared.recipe.DependencyArgument.{DependencyArgument}
use Rattle.tree_items.specs.declared.recipe.Parameter.{Parameter}
use Rattle.tree_items.specs.declared.recipe.Recipe.{Recipe}
use Rattle.tree_items.specs.declared.recipe.UnresolvedDependency.{UnresolvedDependency}
use Rattle.tree_items.specs.declared.set.Set.{Set}
use Rattle.resolve_references.specs.declared.references.Reference.{Reference}
use Rattle.resolve_references.specs.References.{references_of}

-- those of an expression that may be missing
abbrev pub references_of_optional : Option Expression → List Reference
references_of_optional None = []
references_of_optional (Some e) = references_of e

-- the command before its arguments
abbrev pub references_of_interpreter : Interpreter Expression → List Reference
references_of_interpreter interpreter = references_of interpreter.command ++ flat_map references_of interpreter.arguments.items

abbrev pub references_of_attribute : Attribute → List Reference
references_of_attribute (Confirm prompt) = references_of_optional prompt
references_of_attribute (Env key value) = references_of key ++ references_of value.value
references_of_attribute (Script (Some interpreter)) = references_of_interpreter interpreter.value
references_of_attribute attribute = []

abbrev pub references_of_attribute_item : AttributeItem → List Reference
references_of_attribute_item item = references_of_attribute item.attribute

-- the default before what the option stands for
abbrev pub references_of_parameter : Parameter → List Reference
references_of_parameter parameter = references_of_optional parameter.default ++ references_of_optional parameter.value

abbrev pub references_of_argument : DependencyArgument → List Reference
references_of_argument argument = references_of argument.expression

abbrev pub references_of_dependency : UnresolvedDependency → List Reference
references_of_dependency dependency = flat_map references_of_argument dependency.arguments.items

abbrev pub references_of_fragment : Fragment → List Reference
references_of_fragment (Interpolation e) = references_of e
references_of_fragment (Text token) = []

abbrev pub references_of_line : Line → List Reference
references_of_line line = flat_map references_of_fragment line.fragments.items

-- of the attributes, the parameters, the dependencies before and after the body, and the body
abbrev pub references_of_recipe : Recipe UnresolvedDependency → List Reference
references_of_recipe recipe = flat_map references_of_attribute_item (items_of recipe.attributes)
    ++ flat_map references_of_parameter recipe.parameters.items
    ++ flat_map references_of_dependency recipe.priors.items
    ++ flat_map references_of_dependency recipe.subsequents.items
    ++ flat_map references_of_line recipe.body.items

abbrev pub references_of_setting : Setting → List Reference
references_of_setting (DotenvCommand e) = references_of e
references_of_setting (DotenvFilename e) = references_of e
references_of_setting (DotenvPath e) = references_of e
references_of_setting (Tempdir e) = references_of e
references_of_setting (WorkingDirectory e) = references_of e
references_of_setting (ScriptInterpreter interpreter) = references_of_interpreter interpreter
references_of_setting (Shell interpreter) = references_of_interpreter interpreter
references_of_setting (WindowsShell interpreter) = references_of_interpreter interpreter
references_of_setting setting = []

abbrev pub references_of_set : Set → List Reference
references_of_set item = references_of_setting item.value
