-- Which files are printed so that they are read as they were.
use Rattle.std.specs.Prelude.{◌-◌, Bool, true, false, ◌&&◌, ◌||◌, not, List, [], ◌∷◌, length, codes, slice_get}
use Rattle.std.specs.List.{list_all, list_any}
use Rattle.std.specs.Option.{option_map_or}
use Rattle.std.specs.Str.{bytes_eq}
use Rattle.tree_expressions.specs.Shape.{Shape, variable, call, choice, choice_alone, negation, rooted, binary}
use Rattle.tree_items.specs.declared.recipe.ParameterKind.{ParameterKind}
use Rattle.tree_items.specs.declared.recipe.ParameterKind.TheVariants.{Plus, Singular, Star}
use Rattle.tree_items.specs.Files.{ItemShape, recipe_item}
use Rattle.tree_items.specs.Lines.{Piece, ends_in_return}
use Rattle.tree_items.specs.Recipes.{ParameterShape, ArgumentShape, DependencyShape, RecipeShape}

abbrev pub is_choice : Shape → Bool
is_choice (choice c t o) = true
is_choice (choice_alone c t) = true
is_choice e = false

-- the printed expression ends in a conditional without `else`, which would take one that follows
unfoldable pub takes_else : Shape → Bool
takes_else (choice c t o) = is_choice o && takes_else o
takes_else (choice_alone c t) = true
takes_else (negation e) = takes_else e
takes_else (rooted e) = takes_else e
takes_else (binary operator l r) = takes_else r
takes_else e = false

-- the expression begins with the name `else`
unfoldable pub begins_with_else : Shape → Bool
begins_with_else (variable x) = bytes_eq x (codes "else")
begins_with_else (call f es) = bytes_eq f (codes "else")
begins_with_else (binary operator l r) = begins_with_else l
begins_with_else e = false

-- the first of a row is such a one
abbrev pub first_is : {A : Type 0} → (A → Bool) → List A → Bool
first_is test [] = false
first_is test (x ∷ xs) = test x

-- nothing that begins with `else` follows what would take it
abbrev pub are_apart : {A : Type 0} → (A → Bool) → (A → Bool) → List A → Bool
are_apart takes begins [] = true
are_apart takes begins (x ∷ xs) = (not (takes x) || not (first_is begins xs)) && are_apart takes begins xs

abbrev pub argument_takes_else : ArgumentShape → Bool
argument_takes_else a = takes_else a.expression

-- an argument begins with the name `else`; a star stands before it
abbrev pub argument_is_else : ArgumentShape → Bool
argument_is_else a = not a.starred && begins_with_else a.expression

abbrev pub are_closed : List ArgumentShape → Bool
are_closed arguments = are_apart argument_takes_else argument_is_else arguments

abbrev pub is_closed : DependencyShape → Bool
is_closed d = are_closed d.arguments

abbrev pub parameter_takes_else : ParameterShape → Bool
parameter_takes_else p = option_map_or takes_else p.default false

abbrev pub is_singular : ParameterKind → Bool
is_singular Plus = false
is_singular Singular = true
is_singular Star = false

-- a parameter's name is `else`; a mark stands before it
abbrev pub parameter_is_else : ParameterShape → Bool
parameter_is_else p = is_singular p.kind && not p.export && bytes_eq p.name (codes "else")

abbrev pub are_separate : List ParameterShape → Bool
are_separate parameters = are_apart parameter_takes_else parameter_is_else parameters

-- a line ends in a carriage return
abbrev pub has_return : List Piece → Bool
has_return pieces = ends_in_return (slice_get pieces (length pieces - 1))

-- no line of the body does, and no `else` of the header would be taken by what stands before it
abbrev pub is_recipe_printable : RecipeShape → Bool
is_recipe_printable r = not (list_any has_return r.body) && are_separate r.parameters && list_all is_closed r.priors && list_all is_closed r.subsequents

abbrev pub is_item_printable : ItemShape → Bool
is_item_printable (recipe_item attributes r) = is_recipe_printable r
is_item_printable item = true

-- each recipe is printed so that it is read as it was
abbrev pub printable : List ItemShape → Bool
printable items = list_all is_item_printable items
