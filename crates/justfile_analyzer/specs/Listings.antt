-- The list of a module's recipes.
use Rattle.std.specs.Prelude.{ℕ, ◌-◌, ◌==◌, false, List, [], ◌∷◌, ◌++◌, Option, Some, None, chars, codes, find, map, max, nat_le, option_map, replicate, slice_get, if◌then◌else◌}
use Rattle.std.specs.List.{flat_map}
use Rattle.std.specs.Str.{trim}
use Rattle.std.specs.String.{string_bytes}
use Rattle.unicode_width.specs.Width.{str_width}
use Rattle.just_text.specs.Tokens.{lexeme}
use Rattle.tree_expressions.specs.Cutting.{without_front}
use Rattle.tree_attributes.specs.declared.attribute.Attribute.{Attribute}
use Rattle.tree_attributes.specs.declared.attribute.Attribute.TheVariants.{Doc}
use Rattle.tree_attributes.specs.declared.attribute.AttributeKind.TheVariants.{Doc as DocKind}
use Rattle.tree_attributes.specs.Sets.Sets.{is_of, items_of}
use Rattle.tree_items.specs.Recipes.{parameter_shapes, signature_text}
use Rattle.tree_items.specs.declared.ast.Item.{Item}
use Rattle.tree_items.specs.declared.ast.Item.TheVariants.{Comment}
use Rattle.modules_compilation.specs.Places.{items_in}
use Rattle.modules_compilation.specs.declared.compilation.Compilation.{Compilation}
use Rattle.modules_compilation.specs.declared.place.Place.{Place}
use Rattle.justfile_analyzer.specs.declared.listing.Row.{Row}
use Rattle.justfile_analyzer.specs.Offers.{Written, module_name, offered_modules, offered_recipes}

-- a recipe of the list: its name and parameters, and what is said of it
pub record Listed : Type 0 where
  pub signature : List ℕ
  pub doc : Option (List ℕ)

abbrev pub listed : Row → Listed
listed row = record { signature = string_bytes row.signature; doc = option_map (λ doc. doc.now) row.doc }

-- the text after a comment's `#`, without white space around it
abbrev pub comment_text : List ℕ → List ℕ
comment_text comment = trim (without_front (codes "#") comment)

-- the item directly above a place among the items of a file
abbrev pub above : List Item → ℕ → Option Item
above items place = if place == 0 then None else slice_get items (place - 1)

abbrev pub comment_of : Option Item → Option (List ℕ)
comment_of (Some (Comment text)) = Some (comment_text text.now)
comment_of other = None

-- the comment directly above the item at a place
abbrev pub comment_above : Compilation → Place → Option (List ℕ)
comment_above compilation place = comment_of (above (items_in compilation.files.items place.file) place.item)

abbrev pub said_by : Option Attribute → Option (List ℕ) → Option (List ℕ)
said_by None comment = comment
said_by (Some (Doc text)) comment = option_map (λ text. text.cooked) text
said_by (Some other) comment = None

-- what is said of the recipe at a place: by its attribute `doc`, else by the comment directly above it
abbrev pub doc : Compilation → Place → Written → Option (List ℕ)
doc compilation place recipe = said_by (option_map (λ item. item.attribute) (find (is_of DocKind) (items_of recipe.attributes))) (comment_above compilation place)

abbrev pub listed_recipe : Compilation → Written × Place → Listed
listed_recipe compilation recipe = record {
  signature = signature_text (lexeme recipe.0.name.token) (parameter_shapes recipe.0.parameters.items);
  doc = doc compilation recipe.1 recipe.0;
}

-- the recipes that the module at a place offers
abbrev pub listed_recipes : Compilation → ℕ → List Listed
listed_recipes compilation place = map (listed_recipe compilation) (offered_recipes compilation place)

-- the names of the submodules that the module at a place offers
abbrev pub listed_modules : Compilation → ℕ → List (List ℕ)
listed_modules compilation place = map (module_name compilation) (offered_modules compilation place)

-- how many columns a text takes in a terminal
abbrev pub columns : List ℕ → ℕ
columns text = str_width false (chars text)

-- the columns of a signature up to 50; a wider one does not count
abbrev pub counted : List ℕ → ℕ
counted signature = if nat_le (columns signature) 50 then columns signature else 0

-- the greatest of the widths that count
abbrev pub column : List Listed → ℕ
column [] = 0
column (recipe ∷ recipes) = max (counted recipe.signature) (column recipes)

-- what is said of a recipe, after so many spaces and ` # `
abbrev pub doc_text : ℕ → Option (List ℕ) → List ℕ
doc_text spaces None = []
doc_text spaces (Some doc) = replicate spaces 32 ++ (codes " # " ++ doc)

-- a recipe's line: the signature after four spaces, and what is said of it after the column
abbrev pub recipe_line : ℕ → Listed → List ℕ
recipe_line column recipe = codes "    " ++ (recipe.signature ++ (doc_text (column - columns recipe.signature) recipe.doc ++ codes "\n"))

-- a line for each recipe
abbrev pub recipe_lines : List Listed → List ℕ
recipe_lines recipes = flat_map (recipe_line (column recipes)) recipes

-- a submodule's line: its name
abbrev pub module_line : List ℕ → List ℕ
module_line name = codes "    " ++ (name ++ codes " ...\n")

-- a line for each submodule
abbrev pub module_lines : List (List ℕ) → List ℕ
module_lines = flat_map module_line

abbrev pub listing_text : List Listed → List (List ℕ) → List ℕ
listing_text recipes modules = codes "Available recipes:\n" ++ (recipe_lines recipes ++ module_lines modules)

-- the list of the recipes and submodules that the module at a place offers
abbrev pub listing : Compilation → ℕ → List ℕ
listing compilation place = listing_text (listed_recipes compilation place) (listed_modules compilation place)
