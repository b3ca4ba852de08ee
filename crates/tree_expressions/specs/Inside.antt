-- What the expressions inside an expression have.
use Rattle.std.specs.Prelude.{List, [], ◌++◌, Some, None}
use Rattle.std.specs.List.{flat_map}
use Rattle.tree_expressions.specs.declared.expression.Expression.TheOpen.{Expression-F}

-- the lists of the expressions inside, one after the other
abbrev pub inside : {A : Type 0} → Expression-F (List A) → List A
inside (Expression-F.And l r) = l.value ++ r.value
inside (Expression-F.Assert c None name) = c.value
inside (Expression-F.Assert c (Some m) name) = c.value ++ m.value
inside (Expression-F.Backtick contents token) = []
inside (Expression-F.Call name es) = flat_map (λ e. e) es.items
inside (Expression-F.Comparison l operator r token) = l.value ++ r.value
inside (Expression-F.Concatenation l token r) = l.value ++ r.value
inside (Expression-F.Conditional c t None) = c.value ++ t.value
inside (Expression-F.Conditional c t (Some o)) = c.value ++ t.value ++ o.value
inside (Expression-F.FormatString start es) = flat_map (λ e. e.0) es.items
inside (Expression-F.Group e) = e.value
inside (Expression-F.Join None token r) = r.value
inside (Expression-F.Join (Some l) token r) = l.value ++ r.value
inside (Expression-F.List es token) = flat_map (λ e. e) es.items
inside (Expression-F.ListConcatenation l token r) = l.value ++ r.value
inside (Expression-F.Not e) = e.value
inside (Expression-F.Or l r) = l.value ++ r.value
inside (Expression-F.StringLiteral s) = []
inside (Expression-F.Variable name number) = []
