-- What functions call, by their places.
use Rattle.std.specs.Prelude.{ℕ, suc, ◌≡◌, ◌&&◌, Bool, true, false, cond, List, [], ◌∷◌, map, codes, Option, Some, None, is_none, slice_get}
use Rattle.std.specs.List.{filter_map, list_any}
use Rattle.std.specs.Str.{bytes_eq}
use Rattle.just_text.specs.Tokens.{lexeme}
use Rattle.resolve_order.specs.Flooded.{Reaches}
use Rattle.evaluate_context.specs.declared.context.FunctionRef.{FunctionRef}
use Rattle.resolve_references.specs.References.{references_of}
use Rattle.resolve_references.specs.declared.references.Reference.{Reference}
use Rattle.resolve_references.specs.declared.references.Reference.TheVariants.{Call, Variable}

-- the function has the name
abbrev pub has_name : List ℕ → FunctionRef → Bool
has_name name lent = bytes_eq (lexeme lent.definition.now.name.token) name

-- the place of the first of these functions that has the name, where the first of all is at a place
abbrev pub place_from : ℕ → List ℕ → List FunctionRef → Option ℕ
place_from place name [] = None
place_from place name (f ∷ fs) = cond (has_name name f) (Some place) (place_from (suc place) name fs)

abbrev pub place_named : List ℕ → List FunctionRef → Option ℕ
place_named name functions = place_from 0 name functions

module _ (functions : List FunctionRef) where
  -- the place of the function that is called there, if it is one of these
  abbrev pub called_at : Reference → Option ℕ
  called_at (Call name count) = place_named (lexeme name.token) functions
  called_at (Variable name number) = None

  -- the built-in `is_dependency` is called there
  abbrev pub asks_at : Reference → Bool
  asks_at (Call name count) = bytes_eq (lexeme name.token) (codes "is_dependency") && is_none (place_named (lexeme name.token) functions)
  asks_at (Variable name number) = false

  -- the places of the functions that are called in references
  abbrev pub all_called : List Reference → List ℕ
  all_called references = filter_map called_at references

  -- the same of a function's body
  abbrev pub called_by : FunctionRef → List ℕ
  called_by lent = all_called (references_of lent.definition.now.body)

  abbrev pub asks_in : FunctionRef → Bool
  asks_in lent = list_any asks_at (references_of lent.definition.now.body)

  -- a function that asks is reached from functions at these places
  pub record OneAsks (roots : List ℕ) : Type 0 where
    pub place : ℕ
    pub asks : slice_get (map asks_in functions) place ≡ Some true
    pub reached : Reaches (map called_by functions) [] roots place
