-- Variables that have the numbers of their names: parameters, and variables of the module.
use Rattle.std.specs.Prelude.{◌≡◌, ◌⊎◌, ℕ, false, find, length, List, [], ◌∷◌, map, slice_get, Option, Some, None}
use Rattle.std.specs.Str.{bytes_eq}
use Rattle.just_value.specs.Frames.{BoundRow}
use Rattle.evaluate_expressions.specs.Situations.{functions_in}
use Rattle.meaning_dialogues.specs.Calls.{DefinedFunction, HasValues, empty, function_named, read_in, with_parameters}
use Rattle.meaning_dialogues.specs.Dialogue.{Variable, around, in_module}
use Rattle.meaning_dialogues.specs.Written.{numbered, term_in}
use Rattle.meaning_dialogues.proofs.Soundness.{Each}
use Rattle.meaning_evaluation.specs.Stages.Parameters.{bound_value}
use Rattle.meaning_evaluation.proofs.Stages.Depth.{IsIn}
use Rattle.laws_evaluation.specs.Terms.Renumbering.{renumbered}
use Rattle.meaning_evaluation.specs.Named.{FunctionRow}
use Rattle.meaning_evaluation.specs.Scopes.{defined_in, parameter_names}
use Rattle.laws_evaluation.proofs.Opening.Names.{AnyCall}
use Rattle.laws_evaluation.specs.Soundness.Known.{IsBoundIn}
use Rattle.justfile_evaluator.specs.Bodies.{NamedBody}
use Rattle.laws_runs.specs.ByName.Evaluators.{GivesAlike, RunPlace}

-- no number twice
abbrev pub AreDistinct : List ℕ → Type 0
AreDistinct [] = Unit {0}
AreDistinct (n ∷ ns) = (IsIn n ns → ⊥) × AreDistinct ns

-- the names of parameters, in order, and their numbers
module _ (names : List (List ℕ)) (numbers : List ℕ) where
  pub record AreNumbered : Type 0 where
    pub distinct : AreDistinct numbers
    pub count : length numbers ≡ length names

  -- the variable has the number that stands in the place of its name
  pub record IsParameter (x : Variable) : Type 0 where
    pub place : ℕ
    pub number : ℕ
    pub named : numbered names x.name ≡ Some place
    pub has : x.number ≡ Some number
    pub stands : slice_get numbers place ≡ Some number

  -- the variable has neither the name nor the number of a parameter
  pub record IsOther (x : Variable) : Type 0 where
    pub number : ℕ
    pub unnamed : numbered names x.name ≡ None
    pub has : x.number ≡ Some number
    pub apart : IsIn number numbers → ⊥

-- the variable as the body of a recipe or of a function reads it by name that has no parameter of its name
abbrev pub unnumbered : Variable → Variable
unnumbered x = record { name = x.name; number = None }

module _ (b : NamedBody) (p : RunPlace) where
  -- The body's frame is empty, the next one holds the parameters' values, and those around it are others.
  pub record HasParameters (numbers : List ℕ) (own : List BoundRow) (others : List (List BoundRow)) : Type 0 where
    pub parameters : AreNumbered (parameter_names b.recipe) numbers
    pub count : length b.bound.values ≡ length numbers
    pub nothing : HasValues p.here.own empty
    pub lies : p.here.outer ≡ own ∷ others
    pub values : HasValues own (with_parameters empty numbers (map (bound_value b.scene.row.lists) b.bound.values))

  -- a parameter of the recipe, or a variable that gives in the other frames what its name gives
  abbrev pub IsVariable : List ℕ → List (List BoundRow) → Variable → Type 0
  IsVariable numbers others x =
      IsParameter (parameter_names b.recipe) numbers x ⊎ (IsOther (parameter_names b.recipe) numbers x × (read_in (λ number. false) (record { own = []; outer = others }) x.name x.number ≡ b.reading around (unnumbered x)))

  -- in the body of a function: a parameter of it, which the module doesn't bind, or a variable that gives in the module what its name gives
  abbrev pub IsSeen : DefinedFunction → FunctionRow → Variable → Type 0
  IsSeen f row x = (IsParameter row.parameters f.parameters x × (IsBoundIn p.there x.number → ⊥)) ⊎ (IsOther row.parameters f.parameters x × GivesAlike b p in_module x (unnumbered x))

  -- the function is that of the row, but for the numbers of variables
  pub record IsFunctionOf (f : DefinedFunction) (row : FunctionRow) : Type 0 where
    pub name : f.name ≡ row.name
    pub parameters : AreNumbered row.parameters f.parameters
    pub body : renumbered (numbered row.parameters) f.body ≡ term_in b.configuration.expansion row.file (numbered row.parameters) row.body
    pub variables : Each (IsSeen f row) AnyCall f.body

  -- the function of a name and its row, or neither
  abbrev pub IsFunctionIfThere : Option DefinedFunction → Option FunctionRow → Type 0
  IsFunctionIfThere None None = Unit {0}
  IsFunctionIfThere (Some f) (Some row) = IsFunctionOf f row
  IsFunctionIfThere None (Some row) = ⊥
  IsFunctionIfThere (Some f) None = ⊥

  -- the functions of the module are those of these rows: each name calls the function of the first row that has it
  pub record HasRows (rows : List FunctionRow) : Type 0 where
    pub scene : b.scene.functions ≡ map (defined_in b.configuration.expansion) rows
    pub each : (name : List ℕ) → IsFunctionIfThere (function_named name (functions_in p.context)) (find (λ row. bytes_eq row.name name) rows)
