-- When what an expression reads, through the functions that it calls too, is of a kind.
use Rattle.std.specs.Prelude.{◌≡◌, ℕ, List, Some, length, Contains}
use Rattle.tree_expressions.specs.Shape.{Shape}
use Rattle.meaning_rules.specs.Naming.{a_call, occurrences}
use Rattle.meaning_evaluation.specs.Stages.Parameters.{Bound}
use Rattle.meaning_evaluation.specs.Named.{RecipeName, Call, RecipeRow, FunctionRow, Definitions}
use Rattle.meaning_evaluation.specs.Groups.{parameters_of}
use Rattle.just_meaning.specs.Reading.{Reaches, ReadsIn, RecipeReads, expressions_in, function_row}

-- each variable that it reads has such a name, and each function that it calls gets as many arguments as it has parameters
pub record IsReadable (functions : List FunctionRow) (Named : List ℕ → Type 0) (e : Shape) (hidden : List (List ℕ)) : Type 0 where
  pub reads : (name : List ℕ) → ReadsIn functions e hidden name → Named name
  pub fits : (inner : Shape) (others : List (List ℕ)) (name : List ℕ) (count : ℕ) (f : FunctionRow) → Reaches functions e hidden inner others → Contains (occurrences inner) (a_call name count) → function_row name functions ≡ Some f → count ≡ length f.parameters

-- What recipes of a kind read has such a name in their module, and their calls of functions fit.
pub record AreReadable (defined : Definitions) (Of : RecipeName → Type 0) (Named : List (List ℕ) → List ℕ → Type 0) : Type 0 where
  pub reads : (r : RecipeName) (name : List ℕ) → Of r → RecipeReads defined r name → Named r.path name
  pub fits : (r : RecipeName) (row : RecipeRow) (e : Shape) (hidden : List (List ℕ)) (inner : Shape) (others : List (List ℕ)) (name : List ℕ) (count : ℕ) (f : FunctionRow) → Of r → defined.recipe r ≡ Some row → Contains (expressions_in row) (e, hidden)
      → Reaches (defined.functions r.path) e hidden inner others → Contains (occurrences inner) (a_call name count) → function_row name (defined.functions r.path) ≡ Some f → count ≡ length f.parameters

-- as many values as the call's recipe has parameters
abbrev pub FitsCall : Definitions → Call → Bound → Type 0
FitsCall defined call bound = length bound.values ≡ length (parameters_of (defined.recipe call.recipe))
