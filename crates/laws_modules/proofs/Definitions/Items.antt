-- What items define, as their shapes define it.
use Rattle.std.proofs.Common.{◌≡◌, ◌⊎◌, inl, inr, sym, ◌∙◌, ap, ap₂, Bool, true, false, ◌||◌, not, if◌then◌else◌, List, Option, Some, None, refl, map}
use Rattle.std.specs.List.{list_any}
use Rattle.std.proofs.lemmas.Option.{none-some, same_Some}
use Rattle.just_text.specs.Tokens.{lexeme}
use Rattle.just_text.specs.declared.name.Name.{Name}
use Rattle.just_text.specs.declared.os.Os.{Os}
use Rattle.tree_attributes.specs.Attributes.{AttributeShape}
use Rattle.tree_attributes.specs.declared.attribute.AttributeKind.TheVariants.{Unix}
use Rattle.tree_attributes.specs.Sets.Order.{item_shape as attribute_shape}
use Rattle.tree_attributes.specs.Sets.Sets.{has_kind, items_of, kind_for, names_system, shapes_in}
use Rattle.tree_attributes.specs.declared.attribute_set.AttributeSet.{AttributeSet}
use Rattle.tree_items.specs.Files.{ItemShape, is_blank, item_shape, recipe_item}
use Rattle.tree_items.specs.Recipes.{RecipeShape, recipe_shape}
use Rattle.tree_items.specs.declared.ast.Item.{Item}
use Rattle.tree_items.specs.declared.ast.Item.TheVariants.{Alias, Assignment, Comment, Function, Import, Module, Newline, Recipe, Set, Unexport}
use Rattle.tree_items.specs.declared.item.Module.{Module as ModuleItem}
use Rattle.modules_definitions.specs.Defining.{defined_by as found_by, enabled_in, recipe_kind}
use Rattle.modules_definitions.specs.declared.definition.Kind.{Kind as FoundKind}
use Rattle.modules_definitions.specs.declared.definition.Kind.TheVariants.{Alias as AliasKind, Disabled as DisabledKind, Function as FunctionKind, Recipe as RecipeKind, Set as SetKind, Unexport as UnexportKind, Variable as VariableKind}
use Rattle.meaning_rules.specs.Worlds.Given.{Text, World}
use Rattle.meaning_rules.specs.Worlds.Sources.{enabled}
use Rattle.meaning_rules.specs.Worlds.Keeping.{IsTaken, Kind, an_alias, a_function, a_recipe, a_setting, a_submodule, a_variable, an_unexport, defined_by}
use Rattle.laws_modules.specs.Definitions.Kinds.{kind_of}
use Rattle.laws_modules.proofs.Definitions.Lists.{any_of_map}

pub enabled_same : (os : Os) (set : AttributeSet) → enabled_in os set ≡ enabled os (shapes_in set)
enabled_same os set =
    let items = items_of set in
    let named = list_any names_system (map attribute_shape items) in
    let family = list_any (has_kind Unix) (map attribute_shape items) in
    ap (λ b. not b || list_any (λ item. has_kind Unix (attribute_shape item)) items || list_any (λ item. has_kind (kind_for os) (attribute_shape item)) items) (sym (any_of_map names_system attribute_shape items))
    ∙ ap (λ b. not named || b || list_any (λ item. has_kind (kind_for os) (attribute_shape item)) items) (sym (any_of_map (has_kind Unix) attribute_shape items))
    ∙ ap (λ b. not named || family || b) (sym (any_of_map (has_kind (kind_for os)) attribute_shape items))

-- ---- a definition that is found is one of the shape

-- the shape defines the name, and stands in a world's file wherever it is
pub record IsMeant (os : Os) (item : ItemShape) (kind : Kind) (text : Text) : Type 0 where
  pub is : defined_by os item ≡ Some (kind, text)
  pub no_blank : is_blank item ≡ false
  pub taken : (w : World) (key : Text) → IsTaken w key item

-- a name of a kind
abbrev found_as : FoundKind → Name → Option (FoundKind × Name)
found_as found name = Some (found, name)

abbrev meant_as : Kind → Text → Option (Kind × Text)
meant_as kind text = Some (kind, text)

named_alike : (found one : FoundKind) (n m : Name) (kind other : Kind) → found_as found n ≡ found_as one m → kind_of found ≡ Some kind → kind_of one ≡ Some other → meant_as kind (lexeme n.token) ≡ meant_as other (lexeme m.token)
named_alike found one n m kind other e f g =
    let same = same_Some (found, n) (one, m) e in
    let kinds : kind ≡ other = same_Some kind other (sym f ∙ ap (λ p. kind_of p.0) same ∙ g) in
    ap₂ (λ k (t : Text). Some (k, t)) kinds (ap (λ p. lexeme p.1.token) same)

pub if_true : {A : Type 0} (b : Bool) (a c : A) → (if b then Some a else None) ≡ Some c → (b ≡ true) × (Some a ≡ Some c)
if_true true a c e = (refl, e)
if_true false a c e = absurd (none-some c e)

true_if : {A : Type 0} (b : Bool) (a : A) → b ≡ true → (if b then Some a else None) ≡ Some a
true_if b a e = ap (λ c. if c then Some a else None) e

recipe_enabled : (b : Bool) (n m : Name) (found : FoundKind) (kind : Kind) → found_as (recipe_kind b) n ≡ found_as found m → kind_of found ≡ Some kind → (b ≡ true) × (meant_as a_recipe (lexeme n.token) ≡ meant_as kind (lexeme m.token))
recipe_enabled true n m found kind e f = (refl, named_alike RecipeKind found n m a_recipe kind e refl f)
recipe_enabled false n m found kind e f = absurd (none-some kind (ap (λ p. kind_of p.0) (same_Some (DisabledKind, n) (found, m) e) ∙ f))

pub is_meant : (os : Os) (item : Item) (found : FoundKind) (name : Name) (kind : Kind) → found_by os item ≡ Some (found, name) → kind_of found ≡ Some kind → IsMeant os (item_shape item) kind (lexeme name.token)
is_meant os (Alias a) found name kind e f = record { is = named_alike AliasKind found a.name name an_alias kind e refl f; no_blank = refl; taken = λ w key. tt }
is_meant os (Assignment a) found name kind e f =
    let p = if_true (enabled_in os a.attributes) (VariableKind, a.name) (found, name) e in
    let is = true_if (enabled os (shapes_in a.attributes)) (a_variable, lexeme a.name.token) (sym (enabled_same os a.attributes) ∙ p.0) in
    record { is = is ∙ named_alike VariableKind found a.name name a_variable kind p.1 refl f; no_blank = refl; taken = λ w key. tt }
is_meant os (Comment text) found name kind e f = absurd (none-some (found, name) e)
is_meant os (Function g) found name kind e f = record { is = named_alike FunctionKind found g.name name a_function kind e refl f; no_blank = refl; taken = λ w key. tt }
is_meant os (Import i) found name kind e f = absurd (none-some (found, name) e)
is_meant os (Module m) found name kind e f = absurd (none-some (found, name) e)
is_meant os Newline found name kind e f = absurd (none-some (found, name) e)
is_meant os (Recipe r) found name kind e f =
    let p = recipe_enabled (enabled_in os r.attributes) r.name name found kind e f in
    record { is = true_if (enabled os (shapes_in r.attributes)) (a_recipe, lexeme r.name.token) (sym (enabled_same os r.attributes) ∙ p.0) ∙ p.1; no_blank = refl; taken = λ w key. tt }
is_meant os (Set s) found name kind e f =
    let p = if_true (enabled_in os s.attributes) (SetKind, s.name) (found, name) e in
    let is = true_if (enabled os (shapes_in s.attributes)) (a_setting, lexeme s.name.token) (sym (enabled_same os s.attributes) ∙ p.0) in
    record { is = is ∙ named_alike SetKind found s.name name a_setting kind p.1 refl f; no_blank = refl; taken = λ w key. tt }
is_meant os (Unexport u) found name kind e f = record { is = named_alike UnexportKind found u.name name an_unexport kind e refl f; no_blank = refl; taken = λ w key. tt }

-- ---- a definition of the shape is found, or is that of a submodule

pub record IsFoundIn (os : Os) (item : Item) (kind : Kind) (text : Text) : Type 0 where
  pub found : FoundKind
  pub name : Name
  pub is : found_by os item ≡ Some (found, name)
  pub kind_is : kind_of found ≡ Some kind
  pub text_is : lexeme name.token ≡ text

pub record IsModuleItem (os : Os) (item : Item) (kind : Kind) (text : Text) : Type 0 where
  pub line : ModuleItem
  pub is : item ≡ Module line
  pub enabled_here : enabled os (shapes_in line.attributes) ≡ true
  pub kind_is : kind ≡ a_submodule
  pub text_is : lexeme line.name.token ≡ text

found_here : (os : Os) (item : Item) (found : FoundKind) (name : Name) (one kind : Kind) (text : Text) → found_by os item ≡ Some (found, name) → kind_of found ≡ Some one
    → meant_as one (lexeme name.token) ≡ meant_as kind text → IsFoundIn os item kind text
found_here os item found name one kind text e f g =
    let same = same_Some (one, lexeme name.token) (kind, text) g in
    record { found = found; name = name; is = e; kind_is = f ∙ ap (λ p. Some p.0) same; text_is = ap (λ p. p.1) same }

pub is_found : (os : Os) (item : Item) (kind : Kind) (text : Text) → defined_by os (item_shape item) ≡ Some (kind, text) → IsFoundIn os item kind text ⊎ IsModuleItem os item kind text
is_found os (Alias a) kind text e = inl (found_here os (Alias a) AliasKind a.name an_alias kind text refl refl e)
is_found os (Assignment a) kind text e =
    let p = if_true (enabled os (shapes_in a.attributes)) (a_variable, lexeme a.name.token) (kind, text) e in
    inl (found_here os (Assignment a) VariableKind a.name a_variable kind text (true_if (enabled_in os a.attributes) (VariableKind, a.name) (enabled_same os a.attributes ∙ p.0)) refl p.1)
is_found os (Comment c) kind text e = absurd (none-some (kind, text) e)
is_found os (Function g) kind text e = inl (found_here os (Function g) FunctionKind g.name a_function kind text refl refl e)
is_found os (Import i) kind text e = absurd (none-some (kind, text) e)
is_found os (Module m) kind text e =
    let p = if_true (enabled os (shapes_in m.attributes)) (a_submodule, lexeme m.name.token) (kind, text) e in
    let same = same_Some (a_submodule, lexeme m.name.token) (kind, text) p.1 in
    inr (record { line = m; is = refl; enabled_here = p.0; kind_is = sym (ap (λ q. q.0) same); text_is = ap (λ q. q.1) same })
is_found os Newline kind text e = absurd (none-some (kind, text) e)
is_found os (Recipe r) kind text e =
    let p = if_true (enabled os (shapes_in r.attributes)) (a_recipe, lexeme r.name.token) (kind, text) e in
    inl (found_here os (Recipe r) RecipeKind r.name a_recipe kind text (ap (λ b. Some (recipe_kind b, r.name)) (enabled_same os r.attributes ∙ p.0)) refl p.1)
is_found os (Set s) kind text e =
    let p = if_true (enabled os (shapes_in s.attributes)) (a_setting, lexeme s.name.token) (kind, text) e in
    inl (found_here os (Set s) SetKind s.name a_setting kind text (true_if (enabled_in os s.attributes) (SetKind, s.name) (enabled_same os s.attributes ∙ p.0)) refl p.1)
is_found os (Unexport u) kind text e = inl (found_here os (Unexport u) UnexportKind u.name an_unexport kind text refl refl e)

-- ---- recipes that another system disables

pub record IsDisabledItem (os : Os) (item : ItemShape) (text : Text) : Type 0 where
  pub attributes : List AttributeShape
  pub recipe : RecipeShape
  pub is : item ≡ recipe_item attributes recipe
  pub disabled : enabled os attributes ≡ false
  pub text_is : recipe.name ≡ text

recipe_disabled : (b : Bool) (n m : Name) → found_as (recipe_kind b) n ≡ found_as DisabledKind m → (b ≡ false) × (lexeme n.token ≡ lexeme m.token)
recipe_disabled true n m e = absurd (none-some a_recipe (sym (ap (λ p. kind_of p.0) (same_Some (RecipeKind, n) (DisabledKind, m) e))))
recipe_disabled false n m e = (refl, ap (λ p. lexeme p.1.token) (same_Some (DisabledKind, n) (DisabledKind, m) e))

-- what is of a kind of the meaning is no disabled recipe
no_disabled : (found : FoundKind) (kind : Kind) (n m : Name) → kind_of found ≡ Some kind → found_as found n ≡ found_as DisabledKind m → ⊥
no_disabled found kind n m f e = none-some kind (sym (ap (λ p. kind_of p.0) (same_Some (found, n) (DisabledKind, m) e)) ∙ f)

pub is_disabled : (os : Os) (item : Item) (name : Name) → found_by os item ≡ Some (DisabledKind, name) → IsDisabledItem os (item_shape item) (lexeme name.token)
is_disabled os (Alias a) name e = absurd (no_disabled AliasKind an_alias a.name name refl e)
is_disabled os (Assignment a) name e = absurd (no_disabled VariableKind a_variable a.name name refl (if_true (enabled_in os a.attributes) (VariableKind, a.name) (DisabledKind, name) e).1)
is_disabled os (Comment c) name e = absurd (none-some (DisabledKind, name) e)
is_disabled os (Function g) name e = absurd (no_disabled FunctionKind a_function g.name name refl e)
is_disabled os (Import i) name e = absurd (none-some (DisabledKind, name) e)
is_disabled os (Module m) name e = absurd (none-some (DisabledKind, name) e)
is_disabled os Newline name e = absurd (none-some (DisabledKind, name) e)
is_disabled os (Recipe r) name e =
    let p = recipe_disabled (enabled_in os r.attributes) r.name name e in
    record { attributes = shapes_in r.attributes; recipe = recipe_shape r; is = refl; disabled = sym (enabled_same os r.attributes) ∙ p.0; text_is = p.1 }
is_disabled os (Set s) name e = absurd (no_disabled SetKind a_setting s.name name refl (if_true (enabled_in os s.attributes) (SetKind, s.name) (DisabledKind, name) e).1)
is_disabled os (Unexport u) name e = absurd (no_disabled UnexportKind an_unexport u.name name refl e)

-- the attributes and the recipe of a shape, if it is that of one
abbrev recipe_in : ItemShape → Option (List AttributeShape × Text)
recipe_in (recipe_item attributes r) = Some (attributes, r.name)
recipe_in other = None

pub record IsFoundDisabled (os : Os) (item : Item) (text : Text) : Type 0 where
  pub name : Name
  pub is : found_by os item ≡ Some (DisabledKind, name)
  pub text_is : lexeme name.token ≡ text

no_recipe : (item : ItemShape) (attributes : List AttributeShape) (r : RecipeShape) → recipe_in item ≡ None → item ≡ recipe_item attributes r → ⊥
no_recipe item attributes r none e = none-some (attributes, r.name) (sym none ∙ ap recipe_in e)

pub disabled_found : (os : Os) (item : Item) (attributes : List AttributeShape) (r : RecipeShape) → item_shape item ≡ recipe_item attributes r → enabled os attributes ≡ false → IsFoundDisabled os item r.name
disabled_found os (Alias a) attributes r e off = absurd (no_recipe (item_shape (Alias a)) attributes r refl e)
disabled_found os (Assignment a) attributes r e off = absurd (no_recipe (item_shape (Assignment a)) attributes r refl e)
disabled_found os (Comment c) attributes r e off = absurd (no_recipe (item_shape (Comment c)) attributes r refl e)
disabled_found os (Function g) attributes r e off = absurd (no_recipe (item_shape (Function g)) attributes r refl e)
disabled_found os (Import i) attributes r e off = absurd (no_recipe (item_shape (Import i)) attributes r refl e)
disabled_found os (Module m) attributes r e off = absurd (no_recipe (item_shape (Module m)) attributes r refl e)
disabled_found os Newline attributes r e off = absurd (no_recipe (item_shape Newline) attributes r refl e)
disabled_found os (Recipe s) attributes r e off =
    let same = same_Some (shapes_in s.attributes, lexeme s.name.token) (attributes, r.name) (ap recipe_in e) in
    let off_here : enabled_in os s.attributes ≡ false = enabled_same os s.attributes ∙ ap (λ p. enabled os p.0) same ∙ off in
    record { name = s.name; is = ap (λ b. Some (recipe_kind b, s.name)) off_here; text_is = ap (λ p. p.1) same }
disabled_found os (Set s) attributes r e off = absurd (no_recipe (item_shape (Set s)) attributes r refl e)
disabled_found os (Unexport u) attributes r e off = absurd (no_recipe (item_shape (Unexport u)) attributes r refl e)
