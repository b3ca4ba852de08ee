-- What the attributes of a recipe say by places is what its row says.
use Rattle.std.proofs.Common.{◌≡◌, ◌⊎◌, ◌∙◌, inl, inr, sym, ap, refl, subst, true, false, List, [], ◌∷◌, map, Option, Some, None}
use Rattle.std.specs.Prelude.{Contains, ◌||◌, cond, filter_map, find, is_some, slice_get}
use Rattle.std.specs.List.{All, cons_option, list_any}
use Rattle.std.specs.Option.{option_map}
use Rattle.tree_expressions.specs.Shape.{Shape, shape_of}
use Rattle.tree_expressions.specs.declared.expression.Expression.{Expression}
use Rattle.tree_attributes.specs.Attributes.{AttributeShape, attribute_shape}
use Rattle.tree_attributes.specs.Settings.{interpreter_shape}
use Rattle.tree_attributes.specs.declared.attribute.Attribute.{Attribute}
use Rattle.tree_attributes.specs.declared.attribute.Attribute.TheVariants as attributes
use Rattle.tree_attributes.specs.declared.attribute.AttributeKind.{AttributeKind}
use Rattle.tree_attributes.specs.declared.attribute.AttributeKind.TheVariants.{Confirm, Extension, Script, WorkingDirectory}
use Rattle.tree_attributes.specs.Sets.Order.{in_order, item_shape}
use Rattle.tree_attributes.specs.Sets.Sets.{has_kind, is_of, items_of, shapes_in}
use Rattle.tree_attributes.specs.declared.attribute_item.AttributeItem.{AttributeItem}
use Rattle.tree_attributes.specs.declared.attribute_set.AttributeSet.{AttributeSet}
use Rattle.parse_expressions.specs.Literals.{Expansion, Origin, from_file, text_or_none}
use Rattle.tree_items.specs.declared.ast.Item.TheVariants.{Recipe as RecipeItem}
use Rattle.tree_items.specs.declared.recipe.Recipe.{Recipe}
use Rattle.tree_items.specs.declared.recipe.UnresolvedDependency.{UnresolvedDependency}
use Rattle.modules_compilation.specs.Places.{item_at}
use Rattle.modules_compilation.specs.Places as places
use Rattle.modules_compilation.specs.declared.compilation.Compilation.{Compilation}
use Rattle.modules_compilation.specs.declared.module_node.File.{File}
use Rattle.modules_compilation.specs.declared.place.Place.{Place}
use Rattle.std.proofs.lemmas.Option.{none-some}
use Rattle.std.proofs.lemmas.List.Elements.{All-contains}
use Rattle.justfile_evaluator.specs.Sites.{attribute_in, extension_in, extension_text, folder_text, has_attribute, own_folder, script_in, script_shape}
use Rattle.analyze_calls.specs.Confirming.{prompt_in}
use Rattle.meaning_rules.specs.Rules.{has}
use Rattle.just_meaning.specs.Rows.{first, string_in}
use Rattle.just_meaning.specs.Rows as rows
use Rattle.meaning_rules.specs.Worlds.Given.{World}
use Rattle.meaning_rules.proofs.Worlds.Places.{contains_at, contains_first, contains_later}
use Rattle.laws_names.specs.Reading.Meant.{AreAttributesKnown, HasKnownAttributes, HasTexts, IsKnownAttribute}
use Rattle.laws_runs.specs.Resolved.Definitions.{key_at, key_of}
use Rattle.laws_runs.proofs.Menus.Slots.{in_order_already}

-- ---- whether there is one of a kind

has_same : (kind : AttributeKind) (items : List AttributeItem) → list_any (is_of kind) items ≡ has kind (map item_shape items)
has_same kind [] = refl
has_same kind (item ∷ items) = ap (λ b. is_of kind item || b) (has_same kind items)

pub attribute_there : (kind : AttributeKind) (set : AttributeSet) → has_attribute kind set ≡ has kind (in_order (shapes_in set))
attribute_there kind set = has_same kind (items_of set) ∙ ap (has kind) (sym (in_order_already set))

-- ---- what the first of a kind says

module _ (expansion : Expansion) {V : Type 0} (kind : AttributeKind) (f : AttributeShape → Option V) (g : Option Attribute → Option V) (none : g None ≡ None) where
  -- an attribute of another kind says nothing, and one of the kind says the same in its tree and in its shape
  abbrev Agrees : Attribute → Type 0
  Agrees a = ((has_kind kind (attribute_shape a) ≡ false) × (f (attribute_shape a) ≡ None)) ⊎ ((v : V) × (has_kind kind (attribute_shape a) ≡ true) × (f (attribute_shape a) ≡ Some v) × (g (Some a) ≡ Some v))

  abbrev AllAgree : List AttributeItem → Type 0
  AllAgree items = (item : AttributeItem) → Contains items item → Agrees item.attribute

  first_in : (items : List AttributeItem) → AllAgree items → g (option_map (λ item. item.attribute) (find (is_of kind) items)) ≡ first expansion (filter_map f (map item_shape items))
  first_in [] all = none
  first_in (item ∷ items) all = elim (all item (contains_first item items)) [
    | inl p ↦
        ap (λ b. g (option_map (λ (i : AttributeItem). i.attribute) (cond b (Some item) (find (is_of kind) items)))) p.0
        ∙ first_in items (λ i c. all i (contains_later item items i c))
        ∙ sym (ap (λ o. first expansion (cons_option o (filter_map f (map item_shape items)))) p.1)
    | inr p ↦
        ap (λ b. g (option_map (λ (i : AttributeItem). i.attribute) (cond b (Some item) (find (is_of kind) items)))) p.1
        ∙ p.3
        ∙ sym (ap (λ o. first expansion (cons_option o (filter_map f (map item_shape items)))) p.2)
  ]

  some_in : (items : List AttributeItem) → AllAgree items → list_any (is_of kind) items ≡ is_some (first expansion (filter_map f (map item_shape items)))
  some_in [] all = refl
  some_in (item ∷ items) all = elim (all item (contains_first item items)) [
    | inl p ↦
        ap (λ b. b || list_any (is_of kind) items) p.0
        ∙ some_in items (λ i c. all i (contains_later item items i c))
        ∙ sym (ap (λ o. is_some (first expansion (cons_option o (filter_map f (map item_shape items))))) p.1)
    | inr p ↦
        ap (λ b. b || list_any (is_of kind) items) p.1
        ∙ sym (ap (λ o. is_some (first expansion (cons_option o (filter_map f (map item_shape items))))) p.2)
  ]

  -- in a set, whose attributes stand in their order
  first_of_set : (set : AttributeSet) → AllAgree (items_of set) → g (attribute_in kind set) ≡ first expansion (filter_map f (in_order (shapes_in set)))
  first_of_set set all = first_in (items_of set) all ∙ ap (λ shapes. first expansion (filter_map f shapes)) (sym (in_order_already set))

  some_of_set : (set : AttributeSet) → AllAgree (items_of set) → has_attribute kind set ≡ is_some (first expansion (filter_map f (in_order (shapes_in set))))
  some_of_set set all = some_in (items_of set) all ∙ ap (λ shapes. is_some (first expansion (filter_map f shapes))) (sym (in_order_already set))

-- ---- scripts

script_agrees : (expansion : Expansion) (a : Attribute) → Agrees expansion Script (rows.script_in expansion) script_shape refl a
script_agrees expansion (attributes.Script None) = inr (None, refl, refl, refl)
script_agrees expansion (attributes.Script (Some i)) = inr (Some (interpreter_shape i.value), refl, refl, refl)
script_agrees expansion (attributes.Confirm None) = inl (refl, refl)
script_agrees expansion (attributes.Confirm (Some e)) = inl (refl, refl)
script_agrees expansion (attributes.Doc None) = inl (refl, refl)
script_agrees expansion (attributes.Doc (Some text)) = inl (refl, refl)
script_agrees expansion other = inl (refl, refl)

pub script_same : (expansion : Expansion) (set : AttributeSet) → script_in set ≡ first expansion (filter_map (rows.script_in expansion) (in_order (shapes_in set)))
script_same expansion set = first_of_set expansion Script (rows.script_in expansion) script_shape refl set (λ item c. script_agrees expansion item.attribute)

pub script_there : (expansion : Expansion) (set : AttributeSet) → has_attribute Script set ≡ is_some (first expansion (filter_map (rows.script_in expansion) (in_order (shapes_in set))))
script_there expansion set = some_of_set expansion Script (rows.script_in expansion) script_shape refl set (λ item c. script_agrees expansion item.attribute)

-- ---- confirmations

-- what is asked, as it is written
abbrev pub prompt_shape : Option (Option Expression) → Option (Option Shape)
prompt_shape prompt = option_map (option_map shape_of) prompt

confirm_agrees : (expansion : Expansion) (a : Attribute) → Agrees expansion Confirm (rows.prompt_in expansion) (λ o. prompt_shape (prompt_in o)) refl a
confirm_agrees expansion (attributes.Confirm None) = inr (None, refl, refl, refl)
confirm_agrees expansion (attributes.Confirm (Some e)) = inr (Some (shape_of e), refl, refl, refl)
confirm_agrees expansion (attributes.Script None) = inl (refl, refl)
confirm_agrees expansion (attributes.Script (Some i)) = inl (refl, refl)
confirm_agrees expansion (attributes.Doc None) = inl (refl, refl)
confirm_agrees expansion (attributes.Doc (Some text)) = inl (refl, refl)
confirm_agrees expansion other = inl (refl, refl)

pub prompt_same : (expansion : Expansion) (set : AttributeSet) → prompt_shape (prompt_in (attribute_in Confirm set)) ≡ first expansion (filter_map (rows.prompt_in expansion) (in_order (shapes_in set)))
prompt_same expansion set = first_of_set expansion Confirm (rows.prompt_in expansion) (λ o. prompt_shape (prompt_in o)) refl set (λ item c. confirm_agrees expansion item.attribute)

-- ---- texts that are what their strings stand for

module _ (origin : Origin) where
  folder_agrees : (a : Attribute) → HasTexts origin a → Agrees origin.expansion WorkingDirectory (string_in origin.expansion WorkingDirectory) folder_text refl a
  folder_agrees (attributes.WorkingDirectory text) is = inr (text.cooked, refl, ap (λ r. Some (text_or_none r)) is, refl)
  folder_agrees (attributes.Script None) is = inl (refl, refl)
  folder_agrees (attributes.Script (Some i)) is = inl (refl, refl)
  folder_agrees (attributes.Confirm None) is = inl (refl, refl)
  folder_agrees (attributes.Confirm (Some e)) is = inl (refl, refl)
  folder_agrees (attributes.Doc None) is = inl (refl, refl)
  folder_agrees (attributes.Doc (Some text)) is = inl (refl, refl)
  folder_agrees other is = inl (refl, refl)

  pub folder_same : (set : AttributeSet) → All (IsKnownAttribute origin) (items_of set) → own_folder set ≡ first origin.expansion (filter_map (string_in origin.expansion WorkingDirectory) (in_order (shapes_in set)))
  folder_same set are = first_of_set origin.expansion WorkingDirectory (string_in origin.expansion WorkingDirectory) folder_text refl set
      (λ item c. let own = All-contains (IsKnownAttribute origin) (items_of set) item are c in folder_agrees item.attribute own.0)

  extension_agrees : (a : Attribute) → HasTexts origin a → Agrees origin.expansion Extension (string_in origin.expansion Extension) extension_text refl a
  extension_agrees (attributes.Extension text) is = inr (text.cooked, refl, ap (λ r. Some (text_or_none r)) is, refl)
  extension_agrees (attributes.Script None) is = inl (refl, refl)
  extension_agrees (attributes.Script (Some i)) is = inl (refl, refl)
  extension_agrees (attributes.Confirm None) is = inl (refl, refl)
  extension_agrees (attributes.Confirm (Some e)) is = inl (refl, refl)
  extension_agrees (attributes.Doc None) is = inl (refl, refl)
  extension_agrees (attributes.Doc (Some text)) is = inl (refl, refl)
  extension_agrees other is = inl (refl, refl)

  pub extension_same : (set : AttributeSet) → All (IsKnownAttribute origin) (items_of set) → extension_in set ≡ first origin.expansion (filter_map (string_in origin.expansion Extension) (in_order (shapes_in set)))
  extension_same set are = first_of_set origin.expansion Extension (string_in origin.expansion Extension) extension_text refl set
      (λ item c. let own = All-contains (IsKnownAttribute origin) (items_of set) item are c in extension_agrees item.attribute own.0)

-- ---- the attributes of a recipe at its place

pub recipe_attributes : (w : World) (compilation : Compilation) → AreAttributesKnown w compilation → (place : Place) (recipe : Recipe UnresolvedDependency) → item_at compilation place ≡ Some (RecipeItem recipe)
    → All (IsKnownAttribute (from_file (key_at compilation place) w.expansion)) (items_of recipe.attributes)
recipe_attributes w compilation known place recipe there = by_file (slice_get compilation.files.items place.file) refl there
  where
    by_file : (o : Option File) → slice_get compilation.files.items place.file ≡ o → slice_get (places.items_of o) place.item ≡ Some (RecipeItem recipe)
        → All (IsKnownAttribute (from_file (key_at compilation place) w.expansion)) (items_of recipe.attributes)
    by_file None e is = absurd (none-some (RecipeItem recipe) is)
    by_file (Some file) e is =
        subst (λ o. All (IsKnownAttribute (from_file (key_of o) w.expansion)) (items_of recipe.attributes)) (sym e)
        (All-contains (HasKnownAttributes (from_file file.key.now w.expansion)) file.ast.items.items (RecipeItem recipe) (known place.file file e) (contains_at file.ast.items.items place.item (RecipeItem recipe) is))
