-- Items at places of a compilation: what they define, their shapes, the keys of their files, and their names.
use Rattle.std.proofs.Common.{◌≡◌, ◌∙◌, ap, subst, Bool, true, false, if◌then◌else◌, List, ℕ, Option, Some, None, refl}
use Rattle.std.specs.Option.{option_and_then, option_map}
use Rattle.std.proofs.lemmas.Option.{none-some, same_Some}
use Rattle.just_text.specs.Tokens.{lexeme}
use Rattle.just_text.specs.declared.os.Os.{Os}
use Rattle.tree_attributes.specs.Attributes.{AttributeShape}
use Rattle.tree_attributes.specs.Settings.{SetShape}
use Rattle.tree_attributes.specs.Sets.Sets.{shapes_in}
use Rattle.tree_items.specs.Files.{ItemShape, alias_item, assignment_item, comment_item, function_item, import_item, item_shape, module_item, newline_item, recipe_item, set_item, unexport_item}
use Rattle.tree_items.specs.Items.{AliasShape, AssignmentShape, FunctionShape, ModuleShape}
use Rattle.tree_items.specs.Recipes.{RecipeShape}
use Rattle.tree_items.specs.declared.ast.Item.{Item}
use Rattle.tree_items.specs.declared.ast.Item.TheVariants.{Alias, Assignment, Comment, Function, Import, Module, Newline, Recipe, Set, Unexport}
use Rattle.modules_compilation.specs.Places.{name_of, text_of}
use Rattle.modules_compilation.specs.declared.compilation.Compilation.{Compilation}
use Rattle.modules_compilation.specs.declared.place.Place.{Place}
use Rattle.resolve_recipes.specs.Named.{text_at}
use Rattle.meaning_rules.specs.Worlds.Given.{Text, World}
use Rattle.meaning_rules.specs.Worlds.Keeping.{Kind, a_recipe, an_alias, a_function, a_setting, a_submodule, a_variable, an_unexport, defined_by}
use Rattle.meaning_rules.specs.Worlds.Sources.{enabled}
use Rattle.meaning_rules.specs.Worlds.Compiled.{FileView, IsAt, NodeView}
use Rattle.meaning_rules.specs.Worlds.Views.{file_view}
use Rattle.laws_modules.specs.Names.Names.{nodes, views}
use Rattle.laws_modules.proofs.Names.Found.{mapped_at}
use Rattle.laws_modules.proofs.Names.Standing.{item_there}
use Rattle.laws_runs.specs.Resolved.Definitions.{key_at, key_of, shape_at}

-- an item is one of a kind, with a name
abbrev pub IsItem : ItemShape → Kind → Text → Type 0
IsItem item a_recipe name = (attributes : List AttributeShape) × (r : RecipeShape) × (item ≡ recipe_item attributes r) × (r.name ≡ name)
IsItem item an_alias name = (attributes : List AttributeShape) × (a : AliasShape) × (item ≡ alias_item attributes a) × (a.name ≡ name)
IsItem item a_function name = (f : FunctionShape) × (item ≡ function_item f) × (f.name ≡ name)
IsItem item a_setting name = (attributes : List AttributeShape) × (s : SetShape) × (item ≡ set_item attributes s) × (s.name ≡ name)
IsItem item a_submodule name = (attributes : List AttributeShape) × (m : ModuleShape) × (item ≡ module_item attributes m) × (m.name ≡ name)
IsItem item a_variable name = (attributes : List AttributeShape) × (a : AssignmentShape) × (item ≡ assignment_item attributes a) × (a.name ≡ name)
IsItem item an_unexport name = (text : Text) × (item ≡ unexport_item text) × (text ≡ name)

-- the text of an item's name
abbrev HasText : Item → Kind → Text → Type 0
HasText item kind name = text_of (name_of item) ≡ name

module _ (kind : Kind) (name : Text) where
  abbrev said : Kind → Text → Option (Kind × Text)
  said other text = Some (other, text)

  -- what is so of the kind and name that are said is so of these
  as_said : (P : Kind → Text → Type 0) (other : Kind) (text : Text) → P other text → said other text ≡ said kind name → P kind name
  as_said P other text h e = subst (λ (p : Kind × Text). P p.0 p.1) (same_Some (other, text) (kind, name) e) h

  -- also where they are said under a condition
  if_said : (P : Kind → Text → Type 0) (b : Bool) (other : Kind) (text : Text) → P other text → (if b then said other text else None) ≡ said kind name → P kind name
  if_said P true other text h e = as_said P other text h e
  if_said P false other text h e = absurd (none-some (kind, name) e)

  -- an item that defines a name is one of the kind, with the name
  pub is_item : (os : Os) (item : ItemShape) → defined_by os item ≡ Some (kind, name) → IsItem item kind name
  is_item os (alias_item attributes a) e = as_said (IsItem (alias_item attributes a)) an_alias a.name (attributes, a, refl, refl) e
  is_item os (assignment_item attributes a) e = if_said (IsItem (assignment_item attributes a)) (enabled os attributes) a_variable a.name (attributes, a, refl, refl) e
  is_item os (comment_item text) e = absurd (none-some (kind, name) e)
  is_item os (function_item f) e = as_said (IsItem (function_item f)) a_function f.name (f, refl, refl) e
  is_item os (import_item line) e = absurd (none-some (kind, name) e)
  is_item os (module_item attributes m) e = if_said (IsItem (module_item attributes m)) (enabled os attributes) a_submodule m.name (attributes, m, refl, refl) e
  is_item os newline_item e = absurd (none-some (kind, name) e)
  is_item os (recipe_item attributes r) e = if_said (IsItem (recipe_item attributes r)) (enabled os attributes) a_recipe r.name (attributes, r, refl, refl) e
  is_item os (set_item attributes s) e = if_said (IsItem (set_item attributes s)) (enabled os attributes) a_setting s.name (attributes, s, refl, refl) e
  is_item os (unexport_item text) e = as_said (IsItem (unexport_item text)) an_unexport text (text, refl, refl) e

  -- and has its text
  pub text_defined : (os : Os) (item : Item) → defined_by os (item_shape item) ≡ Some (kind, name) → text_of (name_of item) ≡ name
  text_defined os (Alias a) e = as_said (HasText (Alias a)) an_alias (lexeme a.name.token) refl e
  text_defined os (Assignment a) e = if_said (HasText (Assignment a)) (enabled os (shapes_in a.attributes)) a_variable (lexeme a.name.token) refl e
  text_defined os (Comment text) e = absurd (none-some (kind, name) e)
  text_defined os (Function f) e = as_said (HasText (Function f)) a_function (lexeme f.name.token) refl e
  text_defined os (Import i) e = absurd (none-some (kind, name) e)
  text_defined os (Module m) e = if_said (HasText (Module m)) (enabled os (shapes_in m.attributes)) a_submodule (lexeme m.name.token) refl e
  text_defined os Newline e = absurd (none-some (kind, name) e)
  text_defined os (Recipe r) e = if_said (HasText (Recipe r)) (enabled os (shapes_in r.attributes)) a_recipe (lexeme r.name.token) refl e
  text_defined os (Set s) e = if_said (HasText (Set s)) (enabled os (shapes_in s.attributes)) a_setting (lexeme s.name.token) refl e
  text_defined os (Unexport u) e = as_said (HasText (Unexport u)) an_unexport (lexeme u.name.token) refl e

-- ---- places

module _ (w : World) (compilation : Compilation) (node : NodeView) (place : Place) (key : Text) (at : ℕ) (item : ItemShape) (there : IsAt w (views w compilation) (nodes w compilation) node place key at item) where
  -- the shape at the place
  pub shape_is : shape_at compilation place ≡ Some item
  shape_is =
      let i = item_there w compilation node place key at item there in
      ap (option_map item_shape) i.1 ∙ ap (λ s. Some s) i.2

  -- the key of its file
  pub key_is : key_at compilation place ≡ key
  key_is =
      let f = mapped_at file_view compilation.files.items place.file there.file there.found in
      ap key_of f.1 ∙ ap (λ (v : FileView). v.key) f.2 ∙ there.is

  -- the text of its name
  pub text_is : (kind : Kind) (name : Text) → defined_by w.os item ≡ Some (kind, name) → text_at compilation place ≡ name
  text_is kind name e =
      let i = item_there w compilation node place key at item there in
      ap (λ o. text_of (option_and_then name_of o)) i.1 ∙ text_defined kind name w.os i.0 (ap (defined_by w.os) i.2 ∙ e)
