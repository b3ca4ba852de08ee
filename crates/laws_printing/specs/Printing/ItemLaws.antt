-- What printing and deriving items have to do with each other.
use Rattle.std.specs.Prelude.{ℕ, ◌≡◌, true, List, ◌∷◌}
use Rattle.std.specs.List.{list_all}
use Rattle.just_text.specs.Tokens.{Word}
use Rattle.tree_items.specs.Items.{AliasShape, AssignmentShape, ImportShape}
use Rattle.tree_items.specs.Lines.{Piece}
use Rattle.tree_items.specs.Recipes.{ParameterShape, DependencyShape}
use Rattle.tree_items.specs.Printable.{is_closed, are_separate}
use Rattle.parse_expressions.specs.Words.{Lacks, Mark, significant}
use Rattle.parse_expressions.specs.Literals.{Expansion}
use Rattle.parse_recipes.specs.Bodies.{ArePieces, AreLines}
use Rattle.parse_recipes.specs.Headers.{AreParameters, AreDependencies}
use Rattle.just_text.specs.declared.token_kind.TokenKind.TheVariants.{Colon, ColonColon}
use Rattle.parse_items.specs.Items.{IsAlias, IsAssignment, IsImport}
use Rattle.laws_printing.specs.Printing.ItemWords.{newline, alias_words, assignment_words, import_words, line_words, lines_words, dependencies_words, parameters_words}

abbrev pub AliasesSpell : Type 0
AliasesSpell = (a : AliasShape) (words rest after : List Word) → IsAlias a words rest → IsAlias a (significant (alias_words a (newline ∷ after))) (significant after)

abbrev pub AssignmentsSpell : Type 0
AssignmentsSpell = (expansion : Expansion) (a : AssignmentShape) (words rest after : List Word) → IsAssignment expansion a words rest → IsAssignment expansion a (significant (assignment_words a (newline ∷ after))) (significant after)

abbrev pub ImportsSpell : Type 0
ImportsSpell = (expansion : Expansion) (i : ImportShape) (words rest after : List Word) → IsImport expansion i words rest → IsImport expansion i (significant (import_words i (newline ∷ after))) (significant after)

abbrev pub LinesSpell : Type 0
LinesSpell = (expansion : Expansion) (ps : List Piece) (words rest after : List Word) → ArePieces expansion ps words rest → ArePieces expansion ps (significant (line_words ps after)) (significant after)

abbrev pub BodiesSpell : Type 0
BodiesSpell = (expansion : Expansion) (indentation : List ℕ) (lines : List (List Piece)) (words rest after : List Word) → AreLines expansion lines words rest → AreLines expansion lines (significant (lines_words indentation lines after)) (significant after)

-- before what no path goes on with
abbrev pub DependenciesSpell : Type 0
DependenciesSpell = (expansion : Expansion) (ds : List DependencyShape) (words rest after : List Word) → AreDependencies expansion ds words rest → list_all is_closed ds ≡ true → Lacks ColonColon (significant after)
    → AreDependencies expansion ds (significant (dependencies_words ds after)) (significant after)

-- before the colon after them
abbrev pub ParametersSpell : Type 0
ParametersSpell = (expansion : Expansion) (ps : List ParameterShape) (words rest next old after : List Word) → AreParameters expansion ps words rest → Mark Colon rest old → are_separate ps ≡ true → Mark Colon (significant after) next
    → AreParameters expansion ps (significant (parameters_words ps after)) (significant after)
