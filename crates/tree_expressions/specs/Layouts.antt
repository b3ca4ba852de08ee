-- What is printed for an expression, by the expressions inside it.
use Rattle.std.specs.Prelude.{ℕ, List, [], ◌++◌, max, codes}
use Rattle.tree_expressions.specs.Operators.{mark_of}
use Rattle.tree_expressions.specs.Printing.{text_of, text_of_all, text_of_interpolations, behind_else, braced}
use Rattle.tree_expressions.specs.Shape.{Shape, binary, rooted, shape_of, shapes_of, interpolations_of}
use Rattle.tree_expressions.specs.declared.expression.Expression.{Expression, size-Expression}
use Rattle.tree_expressions.specs.declared.expression.Expression.TheShapes.{weighed-Expression-FormatString-1-at-2}
use Rattle.tree_expressions.specs.declared.printing.Layout.{Layout}
use Rattle.tree_expressions.specs.declared.printing.Layout.TheVariants.{Text, Sides, Between, Pair, Choice, Row, Interpolations}
use denote.Param.Weighed.{most}

-- the operator of an expression that has one between two sides, and of a join without a left side
abbrev pub mark_between : Shape → List ℕ
mark_between (binary op l r) = mark_of op
mark_between (rooted e) = codes "/"
mark_between e = []

-- a conditional with both cases
abbrev pub choice_text : Expression → Expression → Expression → List ℕ
choice_text c t o = codes "if " ++ text_of (shape_of c) ++ codes " " ++ braced (text_of (shape_of t)) ++ codes " else " ++ behind_else (shape_of o) (text_of (shape_of o))

-- the text
abbrev pub layout_text : Layout → List ℕ
layout_text (Text text) = text.now
layout_text (Sides l mark r) = text_of (shape_of l.now) ++ codes " " ++ mark.now ++ codes " " ++ text_of (shape_of r.now)
layout_text (Between before e behind) = before.now ++ text_of (shape_of e.now) ++ behind.now
layout_text (Pair before a between b behind) = before.now ++ text_of (shape_of a.now) ++ between.now ++ text_of (shape_of b.now) ++ behind.now
layout_text (Choice c t o) = choice_text c.now t.now o.now
layout_text (Row name before es behind) = name.now ++ before.now ++ text_of_all (shapes_of es.now) ++ behind.now
layout_text (Interpolations start es) = start.now ++ text_of_interpolations (interpolations_of es.now)

-- the depth of the deepest expression inside
abbrev pub layout_size : Layout → ℕ
layout_size (Text text) = 0
layout_size (Sides l mark r) = max (size-Expression l.now) (size-Expression r.now)
layout_size (Between before e behind) = size-Expression e.now
layout_size (Pair before a between b behind) = max (size-Expression a.now) (size-Expression b.now)
layout_size (Choice c t o) = max (size-Expression c.now) (max (size-Expression t.now) (size-Expression o.now))
layout_size (Row name before es behind) = most (λ e. size-Expression e) es.now
layout_size (Interpolations start es) = most (λ x. weighed-Expression-FormatString-1-at-2.weight _ size-Expression x) es.now
