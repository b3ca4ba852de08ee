-- The calls and variables of an expression.
use Rattle.std.specs.Prelude.{List, [], ◌∷◌, length, Option, Some, None}
use Rattle.std.specs.Global.{Box}
use Rattle.tree_expressions.specs.declared.string_literal.StringLiteral.{StringLiteral}
use Rattle.tree_expressions.specs.declared.expression.Expression.{Expression, fold-Expression}
use Rattle.tree_expressions.specs.declared.expression.Expression.TheOpen.{Expression-F}
use Rattle.resolve_references.specs.declared.references.Reference.{Reference}
use Rattle.resolve_references.specs.declared.references.Reference.TheVariants.{Call, Variable}
use Rattle.tree_expressions.specs.Inside.{inside}

-- one level: a call before what its arguments have; a variable; of the other forms what the expressions inside have
abbrev pub references_step : Expression-F (List Reference) → List Reference
references_step (Expression-F.Call name es) = Call name (length es.items) ∷ inside (Expression-F.Call name es)
references_step (Expression-F.Variable name number) = Variable name number ∷ []
references_step level = inside level

-- the calls and variables of an expression in order
abbrev pub references_of : Expression → List Reference
references_of = fold-Expression (List Reference) references_step

abbrev pub references_if_there : Option (Box Expression) → List Reference
references_if_there None = []
references_if_there (Some e) = references_of e.value

abbrev pub references_in_interpolation : (Expression × StringLiteral) → List Reference
references_in_interpolation interpolation = references_of interpolation.0
