-- What a compilation stands for: files, modules and lists of places, told by keys and names.
use Rattle.std.specs.Prelude.{◌≡◌, ◌⊎◌, ◌≤◌, ◌<◌, ◌+◌, ◌-◌, ◌↔◌, ℕ, min, true, false, List, ◌∷◌, ◌++◌, Option, Some, None, map, length, slice_get, take, drop, Contains, []}
use Rattle.std.specs.List.{flat_map}
use Rattle.std.specs.List.Sorted.{IsStrictlySortedBy}
use Rattle.std.specs.Ordering.{nat_cmp}
use Rattle.std.specs.declared.cmp.Ordering.TheVariants.{Less}
use Rattle.tree_items.specs.Files.{ItemShape, is_blank, module_item, recipe_item}
use Rattle.tree_items.specs.Items.{ModuleShape}
use Rattle.tree_attributes.specs.Attributes.{AttributeShape}
use Rattle.tree_items.specs.Recipes.{RecipeShape}
use Rattle.modules_compilation.specs.declared.place.Place.{Place}
use Rattle.modules_compilation.specs.Fronts.{front_of}
use Rattle.modules_compilation.specs.Tables.{text_cmp}
use Rattle.meaning_rules.specs.Worlds.Given.{Text, World, filled}
use Rattle.meaning_rules.specs.Worlds.Sources.{IsDepth, MayMean, enabled}
use Rattle.meaning_rules.specs.Worlds.Modules.{IsModule, IsReadingOrder}
use Rattle.meaning_rules.specs.Worlds.Keeping.{Kind, an_alias, a_function, a_recipe, a_setting, a_variable, an_unexport, IsDefined, IsDisabled, Keeps, KeepsAt}

-- what is seen of a file: its items with blank lines, and the numbers of the bindings and of the recipes in it
pub record FileView : Type 0 where
  pub key : Text
  pub module_number : ℕ
  pub depth : ℕ
  pub items : List ItemShape
  pub bindings : List ℕ
  pub recipes : List ℕ

-- what is seen of a module
pub record NodeView : Type 0 where
  pub parent : Option ℕ
  pub name : Option Text
  pub item : Option Place
  pub source : Text
  pub first_file : ℕ
  pub end_file : ℕ
  pub aliases : List Place
  pub assignments : List Place
  pub disabled : List Place
  pub functions : List Place
  pub recipes : List Place
  -- the front of each name, and the recipe's place
  pub recipe_names : List (ℕ × Place)
  pub sets : List Place
  pub unexports : List Text
  pub submodules : List ℕ

-- by name, file and item
abbrev pub IsBefore : Text × Place → Text × Place → Type 0
IsBefore a b = (text_cmp a.0 b.0 ≡ Less) ⊎ ((a.0 ≡ b.0) × ((a.1.file < b.1.file) ⊎ ((a.1.file ≡ b.1.file) × (a.1.item < b.1.item))))

module _ (w : World) (files : List FileView) (nodes : List NodeView) where
  -- each file says what the world says at its key
  abbrev pub AreRead : Type 0
  AreRead = (k : ℕ) (f : FileView) → slice_get files k ≡ Some f → w.said f.key ≡ Some (filled f.items)

  -- the node's own files
  abbrev pub files_of : NodeView → List FileView
  files_of node = take (node.end_file - node.first_file) (drop node.first_file files)

  -- the item at a place of the node's own files; in the world, where blank lines have no place, it stands there
  pub record IsAt (node : NodeView) (place : Place) (key : Text) (at : ℕ) (item : ItemShape) : Type 0 where
    pub from : node.first_file ≤ place.file
    pub to : place.file < node.end_file
    pub file : FileView
    pub found : slice_get files place.file ≡ Some file
    pub is : file.key ≡ key
    pub there : slice_get file.items place.item ≡ Some item
    pub no_blank : is_blank item ≡ false
    pub rank : length (filled (take place.item file.items)) ≡ at

  -- the path of a module: its names from the root on, each after that of its parent
  pub data HasPath : ℕ → List Text → Type 0 where
    root : {node : NodeView} → slice_get nodes 0 ≡ Some node → node.parent ≡ None → HasPath 0 []
    inside : {k p : ℕ} {node : NodeView} {path : List Text} {name : Text} → slice_get nodes k ≡ Some node → node.parent ≡ Some p → p < k → node.name ≡ Some name → HasPath p path → HasPath k (path ++ name ∷ [])

  -- what a node says of its parent: the root nothing, another its `mod` item there, which means its file
  pub record IsInside (node above : NodeView) : Type 0 where
    pub place : Place
    pub is : node.item ≡ Some place
    pub key : Text
    pub at : ℕ
    pub attributes : List AttributeShape
    pub line : ModuleShape
    pub there : IsAt above place key at (module_item attributes line)
    pub enabled_here : enabled w.os attributes ≡ true
    pub named : node.name ≡ Some line.name
    pub means : MayMean w key line node.source

  abbrev pub HasItem : NodeView → Option ℕ → Type 0
  HasItem node None = (node.item ≡ None) × (node.name ≡ None)
  HasItem node (Some p) = (above : NodeView) × (slice_get nodes p ≡ Some above) × IsInside node above

  -- the places of a list are those of the definitions of this kind that the module keeps, in byte order of their names
  pub record IsList (node : NodeView) (kind : Kind) (names : List Text) (places : List Place) : Type 0 where
    pub many : length names ≡ length places
    pub sorted : IsStrictlySortedBy text_cmp names
    pub sound : (k : ℕ) (name : Text) (place : Place) → slice_get names k ≡ Some name → slice_get places k ≡ Some place
        → (key : Text) × (at : ℕ) × (item : ItemShape) × IsAt node place key at item × KeepsAt w node.source kind name key at item
    pub complete : (name : Text) (item : ItemShape) → Keeps w node.source kind name item → Contains names name

  abbrev pub HasList : NodeView → Kind → List Place → Type 0
  HasList node kind places = (names : List Text) × IsList node kind names places

  -- the recipes, and the same with the fronts of their names
  pub record AreRecipes (node : NodeView) : Type 0 where
    pub names : List Text
    pub are : IsList node a_recipe names node.recipes
    pub fronts : map (λ row. row.0) node.recipe_names ≡ map front_of names
    pub places : map (λ row. row.1) node.recipe_names ≡ node.recipes

  -- the names that are unexported, in byte order
  pub record AreUnexports (node : NodeView) : Type 0 where
    pub sorted : IsStrictlySortedBy text_cmp node.unexports
    pub each : (name : Text) → Contains node.unexports name ↔ IsDefined w node.source an_unexport name

  -- a place has a recipe of the name that another system disables
  abbrev pub HasDisabled : NodeView → Text → Place → Type 0
  HasDisabled node name place =
      (key : Text) × (at : ℕ) × (attributes : List AttributeShape) × (r : RecipeShape) × IsAt node place key at (recipe_item attributes r) × IsDisabled w node.source key at attributes r × (r.name ≡ name)

  -- the recipes that another system disables, each once, by name and then by place
  pub record AreDisabled (node : NodeView) : Type 0 where
    pub rows : List (Text × Place)
    pub are : map (λ row. row.1) rows ≡ node.disabled
    pub sorted : (i j : ℕ) (a b : Text × Place) → i < j → slice_get rows i ≡ Some a → slice_get rows j ≡ Some b → IsBefore a b
    pub each : (name : Text) (place : Place) → Contains rows (name, place) ↔ HasDisabled node name place

  -- the submodules are the nodes whose parent this is, in byte order of their names
  pub record AreInner (k : ℕ) (submodules : List ℕ) : Type 0 where
    pub names : List Text
    pub many : length names ≡ length submodules
    pub sorted : IsStrictlySortedBy text_cmp names
    pub sound : (at inner : ℕ) (name : Text) → slice_get submodules at ≡ Some inner → slice_get names at ≡ Some name → (node : NodeView) × (slice_get nodes inner ≡ Some node) × (node.parent ≡ Some k) × (node.name ≡ Some name)
    pub complete : (inner : ℕ) (node : NodeView) → slice_get nodes inner ≡ Some node → node.parent ≡ Some k → Contains submodules inner

  -- the node's files stand in reading order, each with its depth (as far as 32 bits go), for this node alone
  pub record AreFiles (k : ℕ) (node : NodeView) : Type 0 where
    pub some : node.first_file < node.end_file
    pub within : node.end_file ≤ length files
    pub order : IsReadingOrder w node.source (map (λ f. f.key) (files_of node))
    pub each : (at : ℕ) (f : FileView) → slice_get (files_of node) at ≡ Some f → (f.module_number ≡ k) × ((depth : ℕ) × IsDepth w node.source f.key depth × (f.depth ≡ min depth 4294967295))

  -- a node is a module, and its lists are what it keeps
  pub record IsNode (k : ℕ) (node : NodeView) : Type 0 where
    pub path : List Text
    pub has_path : HasPath k path
    pub is : IsModule w path node.source
    pub item : HasItem node node.parent
    pub own_files : AreFiles k node
    pub aliases : HasList node an_alias node.aliases
    pub assignments : HasList node a_variable node.assignments
    pub functions : HasList node a_function node.functions
    pub recipes : AreRecipes node
    pub sets : HasList node a_setting node.sets
    pub unexports : AreUnexports node
    pub disabled : AreDisabled node
    pub inner : AreInner k node.submodules

  -- no two nodes have a file in common
  abbrev pub AreApart : Type 0
  AreApart = (k k' : ℕ) (node node' : NodeView) → slice_get nodes k ≡ Some node → slice_get nodes k' ≡ Some node' → k < k' → (node.end_file ≤ node'.first_file) ⊎ (node'.end_file ≤ node.first_file)

  -- A compilation stands for the modules of the world: each module is one node, with files of its own. Numbers rise through all files; which they are, and in which order modules stand after their parents, is left open.
  pub record IsCompiled : Type 0 where
    pub read : AreRead
    pub sound : (k : ℕ) (node : NodeView) → slice_get nodes k ≡ Some node → IsNode k node
    pub complete : (path : List Text) (own : Text) → IsModule w path own → (k : ℕ) × HasPath k path
    pub once : (k k' : ℕ) (path : List Text) → HasPath k path → HasPath k' path → k ≡ k'
    pub apart : AreApart
    pub bindings : IsStrictlySortedBy nat_cmp (flat_map (λ f. f.bindings) files)
    pub recipes : IsStrictlySortedBy nat_cmp (flat_map (λ f. f.recipes) files)
