-- What an expression holds beside its shape, and what the strings, parts of format strings and commands in it stand for.
use Rattle.std.specs.Prelude.{ℕ, ◌≡◌, Bool, List, [], ◌∷◌, ◌++◌, map, Option, Some, None, Result, Ok, Err, codes}
use Rattle.std.specs.List.{flat_map}
use Rattle.just_text.specs.Tokens.{lexeme}
use Rattle.just_text.specs.declared.compile_error.CompileErrorKind.{CompileErrorKind}
use Rattle.tree_expressions.specs.declared.string_literal.StringLiteral.{StringLiteral}
use Rattle.tree_expressions.specs.declared.string_kind.StringKind.{StringKind}
use Rattle.tree_expressions.specs.Cooking.{cooked, command}
use Rattle.tree_expressions.specs.Cutting.{begins, ends}
use Rattle.tree_expressions.specs.Kinds.{kind_of}
use Rattle.tree_expressions.specs.Parts.{cooked_part}
use Rattle.tree_expressions.specs.declared.expression.Expression.{Expression, fold-Expression}
use Rattle.tree_expressions.specs.declared.expression.Expression.TheOpen.{Expression-F}
use Rattle.tree_expressions.specs.Shape.{Shape, Shapes, Interpolations, literal, command as command_shape, format, variable, call, assertion, assertion_alone, group, listing, choice, choice_alone, negation, rooted, binary, end, more, closed, interpolation, shape_of, shapes_of, interpolations_of}
use Rattle.parse_expressions.specs.Words.{assert_keyword}

-- what `x` makes of a text, or the refusal's text
abbrev pub Expansion : Type 0
Expansion = List ℕ → Result (List ℕ) (List ℕ)

-- a file that is parsed: what its strings that stand after `x` expand to, and its path
pub record Origin : Type 0 where
  pub expansion : Expansion
  pub path : List ℕ

abbrev pub from_file : List ℕ → Expansion → Origin
from_file path expansion = record { expansion = expansion; path = path }

-- the string has a cooked text
abbrev pub Cooks : Expansion → List ℕ → Type 0
Cooks expansion s = (text : List ℕ) × (cooked expansion s ≡ Ok text)

-- the part of a format string of this kind has a cooked text
abbrev pub PartCooks : StringKind → List ℕ → Type 0
PartCooks kind part = (text : List ℕ) × (cooked_part kind part ≡ Ok text)

-- a command whose text begins with `#!`
abbrev pub is_script : List ℕ → Bool
is_script s = begins (command s) (codes "#!")

-- a part of a format string that an interpolation follows
abbrev pub is_open : List ℕ → Bool
is_open part = ends part (codes "{{")

abbrev pub text_or_none : Result (List ℕ) CompileErrorKind → List ℕ
text_or_none (Ok text) = text
text_or_none (Err kind) = []

-- what an expression holds of its words
pub data Held : Type 0 where
  -- the kind and the cooked text of a string, or of a part of a format string
  of_string : StringKind → List ℕ → Held
  -- the text of a command
  of_command : List ℕ → Held
  -- the name of an assertion
  of_assertion : List ℕ → Held
  -- the path that the name of a call has
  of_call : List ℕ → Held

module _ (origin : Origin) where
  abbrev mutual
    -- what an expression of that shape is to hold, in order
    pub cooked_in : Shape → List Held
    cooked_in (literal s) = of_string (kind_of s) (text_or_none (cooked origin.expansion s)) ∷ []
    cooked_in (command_shape s) = of_command (command s) ∷ []
    cooked_in (format s hs) = of_string (kind_of s) (text_or_none (cooked_part (kind_of s) s)) ∷ cooked_in_interpolations (kind_of s) hs
    cooked_in (variable x) = []
    cooked_in (call f es) = of_call origin.path ∷ cooked_in_all es
    cooked_in (assertion c m) = of_assertion assert_keyword ∷ cooked_in c ++ cooked_in m
    cooked_in (assertion_alone c) = of_assertion assert_keyword ∷ cooked_in c
    cooked_in (group e) = cooked_in e
    cooked_in (listing es) = cooked_in_all es
    cooked_in (choice c t o) = cooked_in c ++ cooked_in t ++ cooked_in o
    cooked_in (choice_alone c t) = cooked_in c ++ cooked_in t
    cooked_in (negation e) = cooked_in e
    cooked_in (rooted e) = cooked_in e
    cooked_in (binary operator l r) = cooked_in l ++ cooked_in r

    pub cooked_in_all : Shapes → List Held
    cooked_in_all end = []
    cooked_in_all (more e es) = cooked_in e ++ cooked_in_all es

    -- each part after an interpolation has the kind of the format string
    pub cooked_in_interpolations : StringKind → Interpolations → List Held
    cooked_in_interpolations kind closed = []
    cooked_in_interpolations kind (interpolation e part hs) = cooked_in e ++ of_string kind (text_or_none (cooked_part kind part)) ∷ cooked_in_interpolations kind hs

-- the kind and the text that a string holds
abbrev pub string_held : StringLiteral → Held
string_held s = of_string s.kind s.cooked

-- what the interpolations of a format string hold, each with the part after it
abbrev pub held_by_interpolations : List (List Held × StringLiteral) → List Held
held_by_interpolations [] = []
held_by_interpolations ((inside, part) ∷ others) = inside ++ string_held part ∷ held_by_interpolations others

-- one level, with what each expression inside holds
abbrev pub held_step : Expression-F (List Held) → List Held
held_step (Expression-F.And l r) = l.value ++ r.value
held_step (Expression-F.Assert c None name) = of_assertion (lexeme name.token) ∷ c.value
held_step (Expression-F.Assert c (Some m) name) = of_assertion (lexeme name.token) ∷ c.value ++ m.value
held_step (Expression-F.Backtick contents token) = of_command contents ∷ []
held_step (Expression-F.Call name es) = of_call name.token.path.now ∷ flat_map (λ inside. inside) es.items
held_step (Expression-F.Comparison l operator r token) = l.value ++ r.value
held_step (Expression-F.Concatenation l token r) = l.value ++ r.value
held_step (Expression-F.Conditional c t None) = c.value ++ t.value
held_step (Expression-F.Conditional c t (Some o)) = c.value ++ t.value ++ o.value
held_step (Expression-F.FormatString start es) = string_held start ∷ held_by_interpolations es.items
held_step (Expression-F.Group e) = e.value
held_step (Expression-F.Join None token r) = r.value
held_step (Expression-F.Join (Some l) token r) = l.value ++ r.value
held_step (Expression-F.List es token) = flat_map (λ inside. inside) es.items
held_step (Expression-F.ListConcatenation l token r) = l.value ++ r.value
held_step (Expression-F.Not e) = e.value
held_step (Expression-F.Or l r) = l.value ++ r.value
held_step (Expression-F.StringLiteral s) = string_held s ∷ []
held_step (Expression-F.Variable name number) = []

-- what an expression holds, in order
abbrev pub held_by : Expression → List Held
held_by = fold-Expression (List Held) held_step

-- what an expression holds, if there is one
abbrev pub held_if : Option Expression → List Held
held_if None = []
held_if (Some e) = held_by e

-- the strings, parts and commands of the expression hold what they stand for, strings and parts are of their kinds,
-- assertions are named `assert`, and the names of calls have the path of the file
abbrev pub IsCooked : Origin → Expression → Type 0
IsCooked origin e = held_by e ≡ cooked_in origin (shape_of e)

-- the same of a row of expressions
abbrev pub AreCooked : Origin → List Expression → Type 0
AreCooked origin es = flat_map held_by es ≡ cooked_in_all origin (shapes_of es)

-- the same of the interpolations of a format string of this kind, and of the parts after them
abbrev pub AreInterpolationsCooked : Origin → StringKind → List (Expression × StringLiteral) → Type 0
AreInterpolationsCooked origin kind es = held_by_interpolations (map (λ e. (held_by e.0, e.1)) es) ≡ cooked_in_interpolations origin kind (interpolations_of es)
