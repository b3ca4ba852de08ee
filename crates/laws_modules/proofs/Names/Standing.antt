-- Items at places, and the texts of their names.
use Rattle.std.proofs.Common.{◌≡◌, sym, ◌∙◌, ap, Bool, true, false, if◌then◌else◌, List, ℕ, Option, Some, None, refl}
use Rattle.std.specs.Prelude.{slice_get}
use Rattle.tree_attributes.specs.Sets.Sets.{shapes_in}
use Rattle.std.specs.Option.{option_and_then}
use Rattle.std.proofs.lemmas.Option.{none-some, same_Some}
use Rattle.just_text.specs.declared.name.Name.{Name}
use Rattle.just_text.specs.declared.os.Os.{Os}
use Rattle.tree_attributes.specs.Attributes.{AttributeShape}
use Rattle.tree_items.specs.Files.{ItemShape, alias_item, assignment_item, comment_item, function_item, import_item, item_shape, module_item, newline_item, recipe_item, set_item, unexport_item}
use Rattle.tree_items.specs.Items.{AliasShape, alias_shape}
use Rattle.tree_items.specs.Recipes.{RecipeShape}
use Rattle.tree_items.specs.declared.ast.Item.{Item}
use Rattle.tree_items.specs.declared.ast.Item.TheVariants.{Alias, Assignment, Comment, Function, Import, Module, Newline, Recipe, Set, Unexport}
use Rattle.tree_items.specs.declared.item.Alias.{Alias as AliasOf}
use Rattle.modules_compilation.specs.Places.{item_at, items_of, name_of, text_of}
use Rattle.modules_compilation.specs.declared.compilation.Compilation.{Compilation}
use Rattle.modules_compilation.specs.declared.place.Place.{Place}
use Rattle.resolve_recipes.specs.Aliases.{alias_at, alias_of}
use Rattle.resolve_recipes.specs.Named.{text_at}
use Rattle.meaning_rules.specs.Worlds.Given.{Text, World}
use Rattle.meaning_rules.specs.Worlds.Keeping.{Kind, a_recipe, an_alias, a_function, a_setting, a_submodule, a_variable, an_unexport, defined_by}
use Rattle.meaning_rules.specs.Worlds.Sources.{enabled}
use Rattle.meaning_rules.specs.Worlds.Compiled.{IsAt, NodeView}
use Rattle.meaning_rules.specs.Worlds.Views.{file_view}
use Rattle.laws_modules.specs.Names.Names.{nodes, views}
use Rattle.laws_modules.proofs.Names.Found.{mapped_at}

-- the item of a compilation that stands at a place
pub item_there : (w : World) (compilation : Compilation) (node : NodeView) (place : Place) (key : Text) (at : ℕ) (shape : ItemShape) → IsAt w (views w compilation) (nodes w compilation) node place key at shape
    → (item : Item) × (item_at compilation place ≡ Some item) × (item_shape item ≡ shape)
item_there w compilation node place key at shape h =
    let f = mapped_at file_view compilation.files.items place.file h.file h.found in
    let i = mapped_at item_shape f.0.ast.items.items place.item shape (ap (λ v. slice_get v.items place.item) f.2 ∙ h.there) in
    (i.0, ap (λ o. slice_get (items_of o) place.item) f.1 ∙ i.1, i.2)

module _ (name : Text) where
  abbrev said : Kind → Text → Option (Kind × Text)
  said kind text = Some (kind, text)

  other_kind : (kind : Kind) (text : Text) → said kind text ≡ said a_recipe name → kind ≡ a_recipe
  other_kind kind text e = ap (λ (p : Kind × Text). p.0) (same_Some (kind, text) (a_recipe, name) e)

  other_if : (b : Bool) (kind : Kind) (text : Text) → (if b then said kind text else None) ≡ said a_recipe name → (kind ≡ a_recipe → ⊥) → ⊥
  other_if true kind text e other = other (other_kind kind text e)
  other_if false kind text e other = none-some (a_recipe, name) e

  named_if : (b : Bool) (text : Text) → (if b then said a_recipe text else None) ≡ said a_recipe name → text ≡ name
  named_if true text e = ap (λ (p : Kind × Text). p.1) (same_Some (a_recipe, text) (a_recipe, name) e)
  named_if false text e = absurd (none-some (a_recipe, name) e)

-- what defines a recipe is one
pub is_recipe : (os : Os) (item : ItemShape) (name : Text) → defined_by os item ≡ Some (a_recipe, name) → (attributes : List AttributeShape) × (r : RecipeShape) × (item ≡ recipe_item attributes r) × (r.name ≡ name)
is_recipe os (alias_item attributes a) name e = let k = other_kind name an_alias a.name e in absurd (cc k)
is_recipe os (assignment_item attributes a) name e = absurd (other_if name (enabled os attributes) a_variable a.name e (λ s. cc s))
is_recipe os (comment_item text) name e = absurd (none-some (a_recipe, name) e)
is_recipe os (function_item f) name e = let k = other_kind name a_function f.name e in absurd (cc k)
is_recipe os (import_item line) name e = absurd (none-some (a_recipe, name) e)
is_recipe os (module_item attributes m) name e = absurd (other_if name (enabled os attributes) a_submodule m.name e (λ s. cc s))
is_recipe os newline_item name e = absurd (none-some (a_recipe, name) e)
is_recipe os (recipe_item attributes r) name e = (attributes, r, refl, named_if name (enabled os attributes) r.name e)
is_recipe os (set_item attributes s) name e = absurd (other_if name (enabled os attributes) a_setting s.name e (λ s. cc s))
is_recipe os (unexport_item text) name e = let k = other_kind name an_unexport text e in absurd (cc k)

-- the name of a recipe at a place is its text there
recipe_text : (item : Item) (attributes : List AttributeShape) (r : RecipeShape) → item_shape item ≡ recipe_item attributes r → text_of (name_of item) ≡ r.name
recipe_text (Alias a) attributes r e = absurd (cc e)
recipe_text (Assignment a) attributes r e = absurd (cc e)
recipe_text (Comment text) attributes r e = absurd (cc e)
recipe_text (Function f) attributes r e = absurd (cc e)
recipe_text (Import i) attributes r e = absurd (cc e)
recipe_text (Module m) attributes r e = absurd (cc e)
recipe_text Newline attributes r e = absurd (cc e)
recipe_text (Recipe q) attributes r e = ap named e
  where
    named : ItemShape → Text
    named (recipe_item attributes' r') = r'.name
    named (alias_item attributes' a) = a.name
    named (assignment_item attributes' a) = a.name
    named (comment_item text) = text
    named (function_item f) = f.name
    named (import_item line) = line.path
    named (module_item attributes' m) = m.name
    named newline_item = r.name
    named (set_item attributes' s) = s.name
    named (unexport_item text) = text
recipe_text (Set s) attributes r e = absurd (cc e)
recipe_text (Unexport u) attributes r e = absurd (cc e)

pub text_there : (w : World) (compilation : Compilation) (node : NodeView) (place : Place) (key : Text) (at : ℕ) (attributes : List AttributeShape) (r : RecipeShape)
    → IsAt w (views w compilation) (nodes w compilation) node place key at (recipe_item attributes r) → text_at compilation place ≡ r.name
text_there w compilation node place key at attributes r h =
    let i = item_there w compilation node place key at (recipe_item attributes r) h in
    ap (λ o. text_of (option_and_then name_of o)) i.1 ∙ recipe_text i.0 attributes r i.2

-- an alias at a place is that of its shape
alias_shaped : (item : Item) (attributes : List AttributeShape) (a : AliasShape) → item_shape item ≡ alias_item attributes a → (alias : AliasOf (List Name)) × (alias_of (Some item) ≡ Some alias) × (alias_shape alias ≡ a)
alias_shaped (Alias b) attributes a e = let same : alias_shape b ≡ a = cc e in (b, refl, same)
alias_shaped (Assignment b) attributes a e = absurd (cc e)
alias_shaped (Comment text) attributes a e = absurd (cc e)
alias_shaped (Function f) attributes a e = absurd (cc e)
alias_shaped (Import i) attributes a e = absurd (cc e)
alias_shaped (Module m) attributes a e = absurd (cc e)
alias_shaped Newline attributes a e = absurd (cc e)
alias_shaped (Recipe q) attributes a e = absurd (cc e)
alias_shaped (Set s) attributes a e = absurd (cc e)
alias_shaped (Unexport u) attributes a e = absurd (cc e)

pub alias_there : (w : World) (compilation : Compilation) (node : NodeView) (place : Place) (key : Text) (at : ℕ) (attributes : List AttributeShape) (a : AliasShape)
    → IsAt w (views w compilation) (nodes w compilation) node place key at (alias_item attributes a) → (alias : AliasOf (List Name)) × (alias_at compilation place ≡ Some alias) × (alias_shape alias ≡ a)
alias_there w compilation node place key at attributes a h =
    let i = item_there w compilation node place key at (alias_item attributes a) h in
    let s = alias_shaped i.0 attributes a i.2 in
    (s.0, ap alias_of i.1 ∙ s.1, s.2)

-- the shape at a place where an alias stands
pub shape_there : (w : World) (compilation : Compilation) (node : NodeView) (place : Place) (key : Text) (at : ℕ) (shape : ItemShape) (alias : AliasOf (List Name))
    → IsAt w (views w compilation) (nodes w compilation) node place key at shape → alias_at compilation place ≡ Some alias → shape ≡ alias_item (shapes_in alias.attributes) (alias_shape alias)
shape_there w compilation node place key at shape alias h e =
    let i = item_there w compilation node place key at shape h in
    sym i.2 ∙ shape_of i.0 (sym (ap alias_of i.1) ∙ e)
  where
    shape_of : (item : Item) → alias_of (Some item) ≡ Some alias → item_shape item ≡ alias_item (shapes_in alias.attributes) (alias_shape alias)
    shape_of (Alias b) e = ap (λ (x : AliasOf (List Name)). alias_item (shapes_in x.attributes) (alias_shape x)) (same_Some b alias e)
    shape_of (Assignment b) e = absurd (none-some alias e)
    shape_of (Comment text) e = absurd (none-some alias e)
    shape_of (Function f) e = absurd (none-some alias e)
    shape_of (Import i) e = absurd (none-some alias e)
    shape_of (Module m) e = absurd (none-some alias e)
    shape_of Newline e = absurd (none-some alias e)
    shape_of (Recipe q) e = absurd (none-some alias e)
    shape_of (Set s) e = absurd (none-some alias e)
    shape_of (Unexport u) e = absurd (none-some alias e)
