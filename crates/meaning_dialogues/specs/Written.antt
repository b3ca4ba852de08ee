-- What an expression says by what is written: strings stand for their cooked texts, calls know their file, and parameters are numbered from 0.
use Rattle.std.specs.Prelude.{ℕ, ◌+◌, List, [], ◌∷◌, Option, None}
use Rattle.std.specs.List.{position}
use Rattle.std.specs.Str.{bytes_eq}
use Rattle.tree_expressions.specs.Cooking.{cooked, command as contents_of}
use Rattle.tree_expressions.specs.Kinds.{kind_of}
use Rattle.tree_expressions.specs.Parts.{cooked_part}
use Rattle.tree_expressions.specs.Operators.{Binary, disjunction, conjunction, appending, concatenation, joining}
use Rattle.tree_expressions.specs.Operators as operators
use Rattle.tree_expressions.specs.Shape.{Shape, Shapes, Interpolations}
use Rattle.tree_expressions.specs.Shape as shapes
use Rattle.tree_expressions.specs.declared.operator.ListOperator.TheVariants.{Concatenate, Join}
use Rattle.parse_expressions.specs.Literals.{Expansion, text_or_none}
use Rattle.tree_expressions.specs.declared.string_kind.StringKind.{StringKind}
use Rattle.meaning_dialogues.specs.Terms.{Term, Terms, Holes, literal, command, format, variable, call, assertion, assertion_alone, both, either, negation, comparison, paired, rooted, appended, choice, choice_alone, listing, group, end, more, closed, hole}

-- an operator with its two sides
abbrev pub by_operator : Binary → Term → Term → Term
by_operator disjunction l r = either l r
by_operator conjunction l r = both l r
by_operator (operators.comparison operator) l r = comparison operator l r
by_operator appending l r = appended l r
by_operator concatenation l r = paired Concatenate l r
by_operator joining l r = paired Join l r

-- by what strings expand to, the file, and the numbers of names
module _ (expansion : Expansion) (file : List ℕ) (numbers : List ℕ → Option ℕ) where
  abbrev mutual
    pub term_in : Shape → Term
    term_in (shapes.literal written) = literal (text_or_none (cooked expansion written)) written
    term_in (shapes.command written) = command (contents_of written) written
    term_in (shapes.format written es) = format (text_or_none (cooked_part (kind_of written) written)) written ((kind_of written).tripled) (holes_in (kind_of written) es)
    term_in (shapes.variable name) = variable name (numbers name)
    term_in (shapes.call name es) = call name file (terms_in es)
    term_in (shapes.assertion condition message) = assertion (term_in condition) (term_in message)
    term_in (shapes.assertion_alone condition) = assertion_alone (term_in condition)
    term_in (shapes.group e) = group (term_in e)
    term_in (shapes.listing es) = listing (terms_in es)
    term_in (shapes.choice c t o) = choice (term_in c) (term_in t) (term_in o)
    term_in (shapes.choice_alone c t) = choice_alone (term_in c) (term_in t)
    term_in (shapes.negation e) = negation (term_in e)
    term_in (shapes.rooted r) = rooted (term_in r)
    term_in (shapes.binary operator l r) = by_operator operator (term_in l) (term_in r)

    pub terms_in : Shapes → Terms
    terms_in shapes.end = end
    terms_in (shapes.more e es) = more (term_in e) (terms_in es)

    pub holes_in : StringKind → Interpolations → Holes
    holes_in kind shapes.closed = closed
    holes_in kind (shapes.interpolation e written es) = hole (term_in e) (text_or_none (cooked_part kind written)) written (holes_in kind es)

-- parameters are numbered in their order; other names have no number and are read by name
abbrev pub numbered : List (List ℕ) → List ℕ → Option ℕ
numbered names name = position (bytes_eq name) names

abbrev pub unnumbered : List ℕ → Option ℕ
unnumbered name = None

abbrev pub numbers_from : {A : Type 0} → ℕ → List A → List ℕ
numbers_from n [] = []
numbers_from n (a ∷ as') = n ∷ numbers_from (n + 1) as'
