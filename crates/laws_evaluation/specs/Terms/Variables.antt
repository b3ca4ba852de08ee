-- The variables of a shape.
use Rattle.std.specs.Prelude.{ℕ, List, [], ◌∷◌, ◌++◌}
use Rattle.tree_expressions.specs.Shape.{Shape, Shapes, Interpolations, literal, command, format, variable, call, assertion, assertion_alone, group, listing, choice, choice_alone, negation, rooted, binary, end, more, closed, interpolation}

abbrev mutual
  -- their names, in order
  pub variables_in : Shape → List (List ℕ)
  variables_in (literal s) = []
  variables_in (command s) = []
  variables_in (format s hs) = variables_in_interpolations hs
  variables_in (variable x) = x ∷ []
  variables_in (call f es) = variables_in_all es
  variables_in (assertion c m) = variables_in c ++ variables_in m
  variables_in (assertion_alone c) = variables_in c
  variables_in (group e) = variables_in e
  variables_in (listing es) = variables_in_all es
  variables_in (choice c t o) = variables_in c ++ variables_in t ++ variables_in o
  variables_in (choice_alone c t) = variables_in c ++ variables_in t
  variables_in (negation e) = variables_in e
  variables_in (rooted e) = variables_in e
  variables_in (binary operator l r) = variables_in l ++ variables_in r

  pub variables_in_all : Shapes → List (List ℕ)
  variables_in_all end = []
  variables_in_all (more e es) = variables_in e ++ variables_in_all es

  pub variables_in_interpolations : Interpolations → List (List ℕ)
  variables_in_interpolations closed = []
  variables_in_interpolations (interpolation e part hs) = variables_in e ++ variables_in_interpolations hs
