-- What the items of a module's files define, and its submodules.
use Rattle.std.specs.Prelude.{◌≡◌, ◌≤◌, ◌<◌, ℕ, Bool, true, false, if◌then◌else◌, List, Option, Some, None, ◌⊎◌, Contains, option_map, slice_get}
use Rattle.std.specs.Option.{option_and_then}
use Rattle.just_text.specs.Tokens.{lexeme}
use Rattle.just_text.specs.declared.name.Name.{Name}
use Rattle.just_text.specs.declared.os.Os.{Os}
use Rattle.tree_attributes.specs.declared.attribute_set.AttributeSet.{AttributeSet}
use Rattle.tree_items.specs.declared.ast.Item.{Item}
use Rattle.tree_items.specs.declared.ast.Item.TheVariants.{Alias, Assignment, Comment, Function, Import, Module, Newline, Recipe, Set, Unexport}
use Rattle.modules_compilation.specs.declared.module_node.File.{File}
use Rattle.modules_compilation.specs.declared.module_node.ModuleNode.{ModuleNode}
use Rattle.modules_compilation.specs.declared.place.Place.{Place}
use Rattle.tree_attributes.specs.Sets.Sets.{is_enabled, items_of}
use Rattle.modules_compilation.specs.Places.{items_in}
use Rattle.modules_compilation.specs.Fronts.{AreBytes, front_of}
use Rattle.modules_definitions.specs.declared.definition.Definition.{Definition}
use Rattle.modules_definitions.specs.declared.definition.Kind.{Kind}
use Rattle.modules_definitions.specs.declared.definition.Kind.TheVariants.{Alias as AliasKind, Disabled as DisabledKind, Function as FunctionKind, Module as ModuleKind, Recipe as RecipeKind, Set as SetKind, Unexport as UnexportKind, Variable as VariableKind}
use Rattle.modules_definitions.specs.declared.definition.Space.{Space}
use Rattle.modules_definitions.specs.declared.definition.Space.TheVariants.{Common, Disabled as DisabledSpace, Function as FunctionSpace, Set as SetSpace, Unexport as UnexportSpace, Variable as VariableSpace}
use Rattle.modules_definitions.specs.declared.file_range.FileRange.{FileRange}
use Rattle.modules_definitions.specs.declared.found.Named.{Named}

-- the space that names of a kind belong to
abbrev pub space_of : Kind → Space
space_of AliasKind = Common
space_of DisabledKind = DisabledSpace
space_of FunctionKind = FunctionSpace
space_of (ModuleKind place) = Common
space_of RecipeKind = Common
space_of SetKind = SetSpace
space_of UnexportKind = UnexportSpace
space_of VariableKind = VariableSpace

abbrev pub if_enabled : Bool → Kind → Name → Option (Kind × Name)
if_enabled enabled kind name = if enabled then Some (kind, name) else None

abbrev pub enabled_in : Os → AttributeSet → Bool
enabled_in os attributes = is_enabled os (items_of attributes)

-- a recipe that another system disables is of a kind of its own
abbrev pub recipe_kind : Bool → Kind
recipe_kind true = RecipeKind
recipe_kind false = DisabledKind

-- what an item defines under the operating system, but for submodules
abbrev pub defined_by : Os → Item → Option (Kind × Name)
defined_by os (Alias a) = Some (AliasKind, a.name)
defined_by os (Assignment a) = if_enabled (enabled_in os a.attributes) VariableKind a.name
defined_by os (Comment _) = None
defined_by os (Function f) = Some (FunctionKind, f.name)
defined_by os (Import _) = None
defined_by os (Module _) = None
defined_by os Newline = None
defined_by os (Recipe r) = Some (recipe_kind (enabled_in os r.attributes), r.name)
defined_by os (Set s) = if_enabled (enabled_in os s.attributes) SetKind s.name
defined_by os (Unexport u) = Some (UnexportKind, u.name)

abbrev pub Defines : Os → Item → Kind → Name → Type 0
Defines os item kind name = defined_by os item ≡ Some (kind, name)

-- what is named
abbrev pub named_by : Named → Kind × Name
named_by named = (named.kind, named.name.now)

-- the item at a place is that of a submodule of this name
abbrev pub module_name : Option Item → Option Name
module_name (Some (Module m)) = Some m.name
module_name other = None

abbrev pub named_at : List File → Place → Option Name
named_at files place = module_name (slice_get (items_in files place.file) place.item)

-- the name of the submodule at a place of all modules, and where its item stands
abbrev pub submodule_at : List File → List ModuleNode → ℕ → Option (Name × Place)
submodule_at files modules inner = option_and_then (λ node. option_and_then (λ place. option_map (λ name. (name, place)) (named_at files place)) node.item) (slice_get modules inner)

module _ (os : Os) where
  abbrev pub InItem : Item → Place → Kind → Name → Place → Type 0
  InItem item at kind name place = Defines os item kind name × (place ≡ at)

  -- one of a file's items defines the name at this place
  pub record InItems (items : List Item) (file : ℕ) (kind : Kind) (name : Name) (place : Place) : Type 0 where
    pub in_file : place.file ≡ file
    pub item : Item
    pub there : slice_get items place.item ≡ Some item
    pub defines : Defines os item kind name

  -- one of the items of the files from the first place to the one before the end does
  pub record InFiles (files : List File) (first end : ℕ) (kind : Kind) (name : Name) (place : Place) : Type 0 where
    pub from : first ≤ place.file
    pub to : place.file < end
    pub item : Item
    pub there : slice_get (items_in files place.file) place.item ≡ Some item
    pub defines : Defines os item kind name

module _ (files : List File) (modules : List ModuleNode) where
  -- the name is that of the submodule at a place of all modules, and its item stands at this place
  pub record IsSubmoduleAt (inner : ℕ) (kind : Kind) (name : Name) (place : Place) : Type 0 where
    pub kind_is : kind ≡ ModuleKind inner
    pub is : submodule_at files modules inner ≡ Some (name, place)

  -- that of one of these submodules
  pub record InSubmodules (submodules : List ℕ) (kind : Kind) (name : Name) (place : Place) : Type 0 where
    pub inner : ℕ
    pub there : Contains submodules inner
    pub is : IsSubmoduleAt inner kind name place

-- what the files of the range define, and the submodules
abbrev pub Stands : Os → List File → FileRange → List ModuleNode → List ℕ → Kind → Name → Place → Type 0
Stands os files range modules submodules kind name place = InFiles os files range.first range.end kind name place ⊎ InSubmodules files modules submodules kind name place

-- the definition of a name of this kind at this place
pub record IsNew (kind : Kind) (name : Name) (place : Place) (d : Definition) : Type 0 where
  pub kind_is : d.kind ≡ kind
  pub name_is : d.name.now ≡ name
  pub place_is : d.place ≡ place
  pub space_is : d.space ≡ space_of kind
  pub text_is : d.text.now ≡ lexeme name.token
  pub front_is : d.front ≡ front_of d.text.now
  pub bytes : AreBytes d.text.now

-- these are the definitions of all that stands there
pub record AreDefinitions (Stands : Kind → Name → Place → Type 0) (ds : List Definition) : Type 0 where
  pub sound : (d : Definition) → Contains ds d → Stands d.kind d.name.now d.place × IsNew d.kind d.name.now d.place d
  pub complete : (kind : Kind) (name : Name) (place : Place) → Stands kind name place → (d : Definition) × Contains ds d × IsNew kind name place d
