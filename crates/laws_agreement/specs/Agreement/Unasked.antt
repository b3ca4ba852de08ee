-- Expressions that don't ask whether their recipe runs as a dependency.
use Rattle.std.specs.Prelude.{◌≡◌, ℕ, List, None, Contains, codes}
use Rattle.tree_expressions.specs.Shape.{Shape}
use Rattle.meaning_rules.specs.Naming.{a_call, occurrences}
use Rattle.meaning_evaluation.specs.Named.{FunctionRow}
use Rattle.just_meaning.specs.Reading.{Reaches, function_row}

-- nothing that it reaches calls the built-in `is_dependency`
pub record IsUnasked (functions : List FunctionRow) (e : Shape) (hidden : List (List ℕ)) : Type 0 where
  pub unasked : (inner : Shape) (others : List (List ℕ)) (count : ℕ) → Reaches functions e hidden inner others → Contains (occurrences inner) (a_call (codes "is_dependency") count) → function_row (codes "is_dependency") functions ≡ None → ⊥
