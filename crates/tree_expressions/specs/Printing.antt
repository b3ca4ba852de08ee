-- How an expression is printed.
use Rattle.std.specs.Prelude.{ℕ, List, [], ◌++◌, Option, Some, None, codes}
use Rattle.tree_expressions.specs.Operators.{mark_of}
use Rattle.tree_expressions.specs.Shape.{Shape, Shapes, Interpolations, literal, command, format, variable, call, assertion, assertion_alone, group, listing, choice, choice_alone, negation, rooted, binary, end, more, closed, interpolation}

-- between braces
abbrev pub braced : List ℕ → List ℕ
braced text = codes "{ " ++ text ++ codes " }"

-- what stands after `else`: a conditional without braces, all else in braces
abbrev pub behind_else : Shape → List ℕ → List ℕ
behind_else (choice c t o) text = text
behind_else (choice_alone c t) text = text
behind_else e text = braced text

unfoldable mutual
  -- an expression
  pub text_of : Shape → List ℕ
  text_of (literal s) = s
  text_of (command s) = s
  text_of (format s hs) = s ++ text_of_interpolations hs
  text_of (variable x) = x
  text_of (call f es) = f ++ codes "(" ++ text_of_all es ++ codes ")"
  text_of (assertion c m) = codes "assert(" ++ text_of c ++ codes ", " ++ text_of m ++ codes ")"
  text_of (assertion_alone c) = codes "assert(" ++ text_of c ++ codes ")"
  text_of (group e) = codes "(" ++ text_of e ++ codes ")"
  text_of (listing es) = codes "[" ++ text_of_all es ++ codes "]"
  text_of (choice c t o) = codes "if " ++ text_of c ++ codes " " ++ braced (text_of t) ++ codes " else " ++ behind_else o (text_of o)
  text_of (choice_alone c t) = codes "if " ++ text_of c ++ codes " " ++ braced (text_of t)
  text_of (negation e) = codes "!" ++ text_of e
  text_of (rooted e) = codes "/ " ++ text_of e
  text_of (binary op l r) = text_of l ++ codes " " ++ mark_of op ++ codes " " ++ text_of r

  -- a row, with a comma and a space between two
  pub text_of_all : Shapes → List ℕ
  text_of_all end = []
  text_of_all (more e es) = text_of e ++ text_of_others es

  -- the same after the first one
  pub text_of_others : Shapes → List ℕ
  text_of_others end = []
  text_of_others (more e es) = codes ", " ++ text_of e ++ text_of_others es

  -- interpolations and parts side by side
  pub text_of_interpolations : Interpolations → List ℕ
  text_of_interpolations closed = []
  text_of_interpolations (interpolation e part hs) = text_of e ++ part ++ text_of_interpolations hs

-- the rest of a call of `assert` after its condition
abbrev pub text_of_message : Option Shape → List ℕ
text_of_message None = codes ")"
text_of_message (Some m) = codes ", " ++ text_of m ++ codes ")"

-- the rest of a conditional after its first braces
abbrev pub text_of_other : Option Shape → List ℕ
text_of_other None = []
text_of_other (Some o) = codes " else " ++ behind_else o (text_of o)
