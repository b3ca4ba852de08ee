-- Expressions whose variables have numbers.
use Rattle.std.specs.Prelude.{ℕ, ◌≡◌, List, [], ◌∷◌, ◌++◌, map, Option, Some, None}
use Rattle.std.specs.Global.{Box}
use Rattle.just_text.specs.Tokens.{lexeme}
use Rattle.just_text.specs.declared.token.Token.{Token}
use Rattle.tree_expressions.specs.declared.string_literal.StringLiteral.{StringLiteral}
use Rattle.tree_expressions.specs.declared.expression.Expression.{Expression, fold-Expression}
use Rattle.tree_expressions.specs.declared.expression.Expression.TheOpen.{Expression-F}
use Rattle.tree_expressions.specs.Shape.{shape_of}
use Rattle.tree_expressions.specs.Inside.{inside}

-- one level: the name of a variable
abbrev pub names_step : Expression-F (List (List ℕ)) → List (List ℕ)
names_step (Expression-F.Variable name number) = lexeme name.token ∷ []
names_step level = inside level

-- the names of all variables, in order
abbrev pub variables_of : Expression → List (List ℕ)
variables_of = fold-Expression (List (List ℕ)) names_step

-- one level: the number of a variable
abbrev pub numbers_step : Expression-F (List (Option ℕ)) → List (Option ℕ)
numbers_step (Expression-F.Variable name number) = number ∷ []
numbers_step level = inside level

-- the numbers of all variables, in order
abbrev pub numbers_of : Expression → List (Option ℕ)
numbers_of = fold-Expression (List (Option ℕ)) numbers_step

-- the tokens that a level itself has
abbrev pub own_tokens : {A : Type 0} → Expression-F A → List Token
own_tokens (Expression-F.Assert c m name) = name.token ∷ []
own_tokens (Expression-F.Backtick contents token) = token ∷ []
own_tokens (Expression-F.Call name es) = name.token ∷ []
own_tokens (Expression-F.Comparison l operator r token) = token ∷ []
own_tokens (Expression-F.Concatenation l token r) = token ∷ []
own_tokens (Expression-F.FormatString start es) = start.token ∷ map (λ e. e.1.token) es.items
own_tokens (Expression-F.Join l token r) = token ∷ []
own_tokens (Expression-F.List es token) = token ∷ []
own_tokens (Expression-F.ListConcatenation l token r) = token ∷ []
own_tokens (Expression-F.StringLiteral s) = s.token ∷ []
own_tokens (Expression-F.Variable name number) = name.token ∷ []
own_tokens level = []

-- the tokens that an expression holds, each level's own before those of the expressions inside
abbrev pub tokens_of : Expression → List Token
tokens_of = fold-Expression (List Token) (λ level. own_tokens level ++ inside level)

-- the strings and the parts of format strings that a level itself has
abbrev pub own_literals : {A : Type 0} → Expression-F A → List StringLiteral
own_literals (Expression-F.FormatString start es) = start ∷ map (λ e. e.1) es.items
own_literals (Expression-F.StringLiteral s) = s ∷ []
own_literals level = []

-- the strings and parts that an expression holds, each level's own before those of the expressions inside
abbrev pub literals_of : Expression → List StringLiteral
literals_of = fold-Expression (List StringLiteral) (λ level. own_literals level ++ inside level)

-- the texts of the interpolations of a format string, each with that of the part after it
abbrev pub interpolation_texts : List (List (List ℕ) × StringLiteral) → List (List ℕ)
interpolation_texts [] = []
interpolation_texts ((texts, part) ∷ others) = texts ++ part.cooked ∷ interpolation_texts others

-- one level: the cooked texts of strings, of parts of format strings and of commands
abbrev pub texts_step : Expression-F (List (List ℕ)) → List (List ℕ)
texts_step (Expression-F.Backtick contents token) = contents ∷ []
texts_step (Expression-F.FormatString start es) = start.cooked ∷ interpolation_texts es.items
texts_step (Expression-F.StringLiteral s) = s.cooked ∷ []
texts_step level = inside level

-- the cooked texts that an expression holds, in order
abbrev pub texts_of : Expression → List (List ℕ)
texts_of = fold-Expression (List (List ℕ)) texts_step

-- an expression before and after, where each variable has got the number of its name, and nothing else has changed
pub record IsNumbered (number : List ℕ → Option ℕ) (old new : Expression) : Type 0 where
  pub shape : shape_of new ≡ shape_of old
  pub texts : texts_of new ≡ texts_of old
  pub tokens : tokens_of new ≡ tokens_of old
  pub literals : literals_of new ≡ literals_of old
  pub numbers : numbers_of new ≡ map number (variables_of old)

-- the same of an expression that is there before and after, or neither before nor after
abbrev pub IsNumberedIfThere : (List ℕ → Option ℕ) → Option (Box Expression) → Option (Box Expression) → Type 0
IsNumberedIfThere number None None = Unit {0}
IsNumberedIfThere number (Some old) (Some new) = IsNumbered number old.value new.value
IsNumberedIfThere number old new = ⊥

-- the same of a row of expressions
pub record AreNumbered (number : List ℕ → Option ℕ) (old new : List Expression) : Type 0 where
  pub shapes : map shape_of new ≡ map shape_of old
  pub texts : map texts_of new ≡ map texts_of old
  pub tokens : map tokens_of new ≡ map tokens_of old
  pub literals : map literals_of new ≡ map literals_of old
  pub numbers : map numbers_of new ≡ map (λ e. map number (variables_of e)) old

-- what is seen of an interpolation, beside the part after it
abbrev pub beside : {A : Type 0} → (Expression → A) → (Expression × StringLiteral) → A × StringLiteral
beside seen e = (seen e.0, e.1)

-- the same of the interpolations of a format string
pub record AreInterpolationsNumbered (number : List ℕ → Option ℕ) (old new : List (Expression × StringLiteral)) : Type 0 where
  pub shapes : map (beside shape_of) new ≡ map (beside shape_of) old
  pub texts : map (beside texts_of) new ≡ map (beside texts_of) old
  pub tokens : map (beside tokens_of) new ≡ map (beside tokens_of) old
  pub literals : map (beside literals_of) new ≡ map (beside literals_of) old
  pub numbers : map (beside numbers_of) new ≡ map (beside (λ e. map number (variables_of e))) old
