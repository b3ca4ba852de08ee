-- The expressions right inside an expression.
use Rattle.std.specs.Prelude.{Some, None}
use Rattle.std.specs.List.{AllByRecursion}
use Rattle.tree_expressions.specs.declared.expression.Expression.{Expression, roll-Expression}
use Rattle.tree_expressions.specs.declared.expression.Expression.TheOpen.{Expression-F}

-- P is true of each expression right inside the level
abbrev pub EachPart : (Expression → Type 0) → Expression-F Expression → Type 0
EachPart P (Expression-F.And l r) = P l.value × P r.value
EachPart P (Expression-F.Assert c None name) = P c.value
EachPart P (Expression-F.Assert c (Some m) name) = P c.value × P m.value
EachPart P (Expression-F.Backtick contents token) = Unit {0}
EachPart P (Expression-F.Call name es) = AllByRecursion P es.items
EachPart P (Expression-F.Comparison l operator r token) = P l.value × P r.value
EachPart P (Expression-F.Concatenation l token r) = P l.value × P r.value
EachPart P (Expression-F.Conditional c t None) = P c.value × P t.value
EachPart P (Expression-F.Conditional c t (Some o)) = P c.value × P t.value × P o.value
EachPart P (Expression-F.FormatString start es) = AllByRecursion (λ e. P e.0) es.items
EachPart P (Expression-F.Group e) = P e.value
EachPart P (Expression-F.Join None token r) = P r.value
EachPart P (Expression-F.Join (Some l) token r) = P l.value × P r.value
EachPart P (Expression-F.List es token) = AllByRecursion P es.items
EachPart P (Expression-F.ListConcatenation l token r) = P l.value × P r.value
EachPart P (Expression-F.Not e) = P e.value
EachPart P (Expression-F.Or l r) = P l.value × P r.value
EachPart P (Expression-F.StringLiteral s) = Unit {0}
EachPart P (Expression-F.Variable name number) = Unit {0}

-- Where P is true of an expression, it is true of each expression right inside, and Level is true of the outermost level.
pub record TrueOfParts (P : Expression → Type 0) (Level : Expression-F Expression → Type 0) : Type 0 where
  pub at : (level : Expression-F Expression) → P (roll-Expression level) → Level level × EachPart P level
