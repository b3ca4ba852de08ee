-- What words mean by what is defined.
use Rattle.std.specs.Prelude.{ℕ, List, [], ◌∷◌, ◌++◌, Bool, false, not, ◌||◌, map, Option, Some, None, is_some}
use Rattle.tree_items.specs.Recipes.{is_variadic}
use Rattle.meaning_evaluation.specs.Stages.Parameters.{is_star}
use Rattle.meaning_evaluation.specs.Named.{RecipeName, ParameterRow, RecipeRow, ModuleRow, Definitions}
use Rattle.meaning_runs.specs.Words.{Slot, Words, WordMeaning, recipe, submodule}

-- a parameter as words see it: a flag, or one with a value of its own, takes no value; one without a default has to be given, unless it is a star or a flag
abbrev pub slot_of : ParameterRow → Slot
slot_of p = record {
  long = p.long;
  short = p.short;
  takes_value = not (p.flag || is_some p.value);
  multiple = p.multiple;
  variadic = is_variadic p.kind;
  required = not ((is_some p.default || p.flag) || is_star p.kind);
}

abbrev pub slots_in : Option RecipeRow → List Slot
slots_in None = []
slots_in (Some row) = map slot_of row.parameters

abbrev pub lists_by : Option ModuleRow → Bool
lists_by None = false
lists_by (Some row) = row.default_list

-- recipes, aliases and submodules of a module share one name space
abbrev pub meant_by : RecipeName → Option RecipeRow → Option RecipeName → Option ModuleRow → List (List ℕ) → Option (WordMeaning (List (List ℕ)) RecipeName)
meant_by r (Some row) alias inner path = Some (recipe r)
meant_by r None (Some target) inner path = Some (recipe target)
meant_by r None None (Some row) path = Some (submodule path)
meant_by r None None None path = None

module _ (defined : Definitions) where
  abbrev pub meaning_in : List (List ℕ) → List ℕ → Option (WordMeaning (List (List ℕ)) RecipeName)
  meaning_in path name =
      let r : RecipeName = record { path = path; recipe = name } in
      meant_by r (defined.recipe r) (defined.alias r) (defined.inside (path ++ name ∷ [])) (path ++ name ∷ [])

  abbrev pub menu_of : Words (List (List ℕ)) RecipeName
  menu_of = record { root = []; lists = lists_by (defined.inside []); meaning = meaning_in; default = defined.default; name = λ r. r.recipe; slots = λ r. slots_in (defined.recipe r) }
