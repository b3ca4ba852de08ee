-- The calls and variables that are found in an expression, by their texts.
use Rattle.std.specs.Prelude.{◌≡◌, map}
use Rattle.just_text.specs.Tokens.{lexeme}
use Rattle.tree_expressions.specs.declared.expression.Expression.{Expression}
use Rattle.tree_expressions.specs.Shape.{shape_of}
use Rattle.resolve_references.specs.References.{references_of}
use Rattle.resolve_references.specs.declared.references.Reference.{Reference}
use Rattle.resolve_references.specs.declared.references.Reference.TheVariants.{Call, Variable}
use Rattle.meaning_rules.specs.Naming.{Occurrence, a_call, a_variable, occurrences}

-- the occurrence that was found, without where it lies and without a number
abbrev pub occurrence_of : Reference → Occurrence
occurrence_of (Call name count) = a_call (lexeme name.token) count
occurrence_of (Variable name number) = a_variable (lexeme name.token)

-- what is found in a tree is what its shape names, in the same order and as often
abbrev pub ReferencesAreOccurrences : Type 0
ReferencesAreOccurrences = (e : Expression) → map occurrence_of (references_of e) ≡ occurrences (shape_of e)
