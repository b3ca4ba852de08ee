-- Operators: their kinds of tokens, and how loosely they bind.
use Rattle.std.specs.Prelude.{ℕ, Option, Some, None}
use Rattle.just_text.specs.declared.token_kind.TokenKind.{TokenKind}
use Rattle.just_text.specs.declared.token_kind.TokenKind.TheVariants.{AmpersandAmpersand, BangEquals, BangTilde, BarBar, EqualsEquals, EqualsTilde, Plus, PlusPlus, Slash}
use Rattle.tree_expressions.specs.declared.operator.ConditionalOperator.{ConditionalOperator}
use Rattle.tree_expressions.specs.declared.operator.ConditionalOperator.TheVariants.{Equality, Inequality, RegexMatch, RegexMismatch}
use Rattle.tree_expressions.specs.Operators.{Binary, disjunction, conjunction, comparison, appending, concatenation, joining}
use Rattle.tree_expressions.specs.Shape.{Shape, negation, rooted, binary}

-- the kind of an operator that compares
abbrev pub comparison_sign : ConditionalOperator → TokenKind
comparison_sign Equality = EqualsEquals
comparison_sign Inequality = BangEquals
comparison_sign RegexMatch = EqualsTilde
comparison_sign RegexMismatch = BangTilde

-- the kind of an operator's token
abbrev pub sign : Binary → TokenKind
sign disjunction = BarBar
sign conjunction = AmpersandAmpersand
sign (comparison operator) = comparison_sign operator
sign appending = PlusPlus
sign concatenation = Plus
sign joining = Slash

-- the operator whose token that is
abbrev pub operator_of : TokenKind → Option Binary
operator_of BarBar = Some disjunction
operator_of AmpersandAmpersand = Some conjunction
operator_of EqualsEquals = Some (comparison Equality)
operator_of BangEquals = Some (comparison Inequality)
operator_of EqualsTilde = Some (comparison RegexMatch)
operator_of BangTilde = Some (comparison RegexMismatch)
operator_of PlusPlus = Some appending
operator_of Plus = Some concatenation
operator_of Slash = Some joining
operator_of other = None

-- How loosely an operator binds. What stands alone or in brackets is 0, a negation 1, a whole expression 6.
abbrev pub rank : Binary → ℕ
rank disjunction = 6
rank conjunction = 5
rank (comparison operator) = 4
rank appending = 3
rank concatenation = 2
rank joining = 2

-- the rank that may stand on its left
abbrev pub left_rank : Binary → ℕ
left_rank disjunction = 5
left_rank conjunction = 4
left_rank (comparison operator) = 3
left_rank appending = 2
left_rank concatenation = 1
left_rank joining = 1

-- the rank that may stand on its right
abbrev pub right_rank : Binary → ℕ
right_rank disjunction = 6
right_rank conjunction = 5
right_rank (comparison operator) = 3
right_rank appending = 3
right_rank concatenation = 2
right_rank joining = 2

-- how loosely an expression binds
abbrev pub rank_of : Shape → ℕ
rank_of (negation e) = 1
rank_of (rooted e) = 2
rank_of (binary operator l r) = rank operator
rank_of e = 0
