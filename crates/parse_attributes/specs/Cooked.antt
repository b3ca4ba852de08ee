-- The cooked texts of attributes.
use Rattle.std.specs.Prelude.{IfSome, Some}
use Rattle.std.specs.List.{All}
use Rattle.tree_attributes.specs.declared.attribute.ArgumentOptions.{ArgumentOptions}
use Rattle.tree_attributes.specs.declared.attribute.Attribute.{Attribute}
use Rattle.tree_attributes.specs.declared.attribute.Attribute.TheVariants.{Arg, Confirm, Doc, Env, Extension, Group, Metadata, Script, WorkingDirectory}
use Rattle.tree_attributes.specs.declared.attribute.LongName.{LongName}
use Rattle.tree_attributes.specs.declared.attribute.LongName.TheVariants.{Named}
use Rattle.parse_expressions.specs.Literals.{Expansion, Origin, IsCooked, AreCooked}
use Rattle.parse_expressions.specs.Strings.{IsCookedString}
use Rattle.tree_expressions.specs.declared.expression.Expression.{Expression}
use Rattle.tree_attributes.specs.declared.setting.Interpreter.{Interpreter}

-- the command and its arguments hold what their strings stand for
pub record IsCookedCommand (origin : Origin) (i : Interpreter Expression) : Type 0 where
  pub command : IsCooked origin i.command
  pub arguments : AreCooked origin i.arguments.items

-- a long name that is a string holds what it stands for
abbrev pub IsCookedName : Expansion → LongName → Type 0
IsCookedName expansion (Named s) = IsCookedString expansion s
IsCookedName expansion other = Unit {0}

-- each string of the options holds what it stands for, and so does their expression
pub record AreCookedOptions (origin : Origin) (o : ArgumentOptions) : Type 0 where
  pub name : IsCookedString origin.expansion o.name
  pub help : IfSome o.help (IsCookedString origin.expansion)
  pub long : IsCookedName origin.expansion o.long
  pub max : IfSome o.max (IsCookedString origin.expansion)
  pub min : IfSome o.min (IsCookedString origin.expansion)
  pub short : IfSome o.short (IsCookedString origin.expansion)
  pub value : IfSome o.value (IsCooked origin)

-- the attribute's arguments hold what their strings stand for
abbrev pub IsCookedAttribute : Origin → Attribute → Type 0
IsCookedAttribute origin (Arg options) = AreCookedOptions origin options.value
IsCookedAttribute origin (Confirm (Some e)) = IsCooked origin e
IsCookedAttribute origin (Doc (Some s)) = IsCookedString origin.expansion s
IsCookedAttribute origin (Env key value) = IsCooked origin key × IsCooked origin value.value
IsCookedAttribute origin (Extension s) = IsCookedString origin.expansion s
IsCookedAttribute origin (Group s) = IsCookedString origin.expansion s
IsCookedAttribute origin (Metadata first others) = IsCookedString origin.expansion first × All (IsCookedString origin.expansion) others.items
IsCookedAttribute origin (Script (Some i)) = IsCookedCommand origin i.value
IsCookedAttribute origin (WorkingDirectory s) = IsCookedString origin.expansion s
IsCookedAttribute origin other = Unit {0}
