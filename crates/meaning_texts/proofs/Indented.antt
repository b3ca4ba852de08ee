-- The indentation that a file sets, by its items and by what these say.
use Rattle.std.proofs.Common.{◌≡◌, ◌∙◌, ◌&&◌, ◌||◌, ap, sym, refl, ℕ, Bool, true, false, not, if◌then◌else◌, List, [], ◌∷◌, map, Option, Some, None, codes}
use Rattle.std.specs.Prelude.{Contains}
use Rattle.std.specs.List.{All, list_any}
use Rattle.std.specs.Option.{option_and_then}
use Rattle.std.specs.Str.{bytes_eq}
use Rattle.std.proofs.lemmas.List.Elements.{All-contains}
use Rattle.just_text.specs.Tokens.{lexeme}
use Rattle.just_text.specs.declared.os.Os.{Os}
use Rattle.tree_attributes.specs.declared.attribute.AttributeKind.TheVariants.{Unix}
use Rattle.tree_attributes.specs.declared.setting.Setting.{Setting}
use Rattle.tree_attributes.specs.declared.setting.Setting.TheVariants.{DotenvCommand, DotenvFilename, DotenvPath, Indentation, MinimumVersion, ScriptInterpreter, Shell, Tempdir, Truth, WindowsShell, WorkingDirectory}
use Rattle.tree_attributes.specs.Settings.{value_shape}
use Rattle.tree_attributes.specs.declared.attribute_set.AttributeSet.{AttributeSet}
use Rattle.tree_attributes.specs.Sets.Order.{item_shape as attribute_shape}
use Rattle.tree_attributes.specs.Sets.Sets.{has_kind, is_enabled, is_of, items_of, kind_for, names_system, shapes_in}
use Rattle.tree_items.specs.declared.ast.Item.{Item}
use Rattle.tree_items.specs.declared.ast.Item.TheVariants as items
use Rattle.tree_items.specs.FileIndentation.{file_indentation, first_given, indentation_text, item_indentation, known, or_next}
use Rattle.tree_items.specs.Files.{item_shape, item_shapes}
use Rattle.parse_attributed_items.specs.Held.{IsOwnItem}
use Rattle.parse_expressions.specs.Literals.{Expansion, text_or_none}
use Rattle.parse_items.specs.Names.{setting_name}
use Rattle.meaning_rules.specs.Worlds.Sources.{enabled}
use Rattle.meaning_rules.proofs.Worlds.Places.{contains_first, contains_later}
use Rattle.meaning_rules.specs.Worlds.Matching.{HasIndentationText, HoldsTexts}
use Rattle.meaning_texts.specs.Texts.{indentation_said, string_said}

pub any_mapped : {A B : Type 0} (p : B → Bool) (f : A → B) (xs : List A) → list_any p (map f xs) ≡ list_any (λ x. p (f x)) xs
any_mapped p f [] = refl
any_mapped p f (x ∷ xs) = ap (λ b. p (f x) || b) (any_mapped p f xs)

-- an item is enabled by its attributes as they are held where it is by what they say
pub same_enabled : (os : Os) (set : AttributeSet) → is_enabled os (items_of set) ≡ enabled os (shapes_in set)
same_enabled os set =
    ap (λ b. not b || list_any (is_of Unix) (items_of set) || list_any (is_of (kind_for os)) (items_of set)) (sym (any_mapped names_system attribute_shape (items_of set)))
    ∙ ap (λ b. not (list_any names_system (shapes_in set)) || b || list_any (is_of (kind_for os)) (items_of set)) (sym (any_mapped (has_kind Unix) attribute_shape (items_of set)))
    ∙ ap (λ b. not (list_any names_system (shapes_in set)) || list_any (has_kind Unix) (shapes_in set) || b) (sym (any_mapped (has_kind (kind_for os)) attribute_shape (items_of set)))

-- what a setting says under its name
abbrev said_by : Expansion → List ℕ → Setting → Option (List ℕ)
said_by expansion name value = if bytes_eq name (codes "indentation") then string_said expansion (value_shape value) else None

-- a choice between one and the same
either_way : (b : Bool) (said : Option (List ℕ)) → said ≡ (if b then said else said)
either_way true said = refl
either_way false said = refl

-- the text of a setting of the indentation is what its string stands for
setting_said : (expansion : Expansion) (value : Setting) → HasIndentationText expansion value → indentation_text value ≡ said_by expansion (setting_name value) value
setting_said expansion (Truth which value) cooked = either_way (bytes_eq (setting_name (Truth which value)) (codes "indentation")) None
setting_said expansion (DotenvCommand value) cooked = refl
setting_said expansion (DotenvFilename value) cooked = refl
setting_said expansion (DotenvPath value) cooked = refl
setting_said expansion (Indentation text) cooked = ap (λ r. Some (text_or_none r)) (sym cooked)
setting_said expansion (MinimumVersion value) cooked = refl
setting_said expansion (ScriptInterpreter value) cooked = refl
setting_said expansion (Shell value) cooked = refl
setting_said expansion (Tempdir value) cooked = refl
setting_said expansion (WindowsShell value) cooked = refl
setting_said expansion (WorkingDirectory value) cooked = refl

module _ (os : Os) (expansion : Expansion) where
  by_enabled : (a b : Bool) (x y : Option (List ℕ)) (c : Bool) (z : Option (List ℕ)) → a ≡ b → x ≡ (if c then z else None) → (if a then x else None) ≡ (if b && c then z else None)
  by_enabled false false x y c z e f = refl
  by_enabled false true x y c z e f = absurd (cc e)
  by_enabled true false x y c z e f = absurd (cc e)
  by_enabled true true x y c z e f = f

  item_said : (item : Item) → IsOwnItem expansion item → HoldsTexts expansion item → item_indentation os item ≡ indentation_said os expansion (item_shape item)
  item_said (items.Alias a) own cooked = refl
  item_said (items.Assignment a) own cooked = refl
  item_said (items.Comment text) own cooked = refl
  item_said (items.Function f) own cooked = refl
  item_said (items.Import i) own cooked = refl
  item_said (items.Module m) own cooked = refl
  item_said items.Newline own cooked = refl
  item_said (items.Recipe r) own cooked = refl
  item_said (items.Set s) own cooked =
      by_enabled (is_enabled os (items_of s.attributes)) (enabled os (shapes_in s.attributes)) (indentation_text s.value) None (bytes_eq (lexeme s.name.token) (codes "indentation")) (string_said expansion (value_shape s.value))
      (same_enabled os s.attributes) (setting_said expansion s.value cooked ∙ ap (λ name. said_by expansion name s.value) own)
  item_said (items.Unexport u) own cooked = refl

  first_said : (all : List Item) → ((item : Item) → Contains all item → IsOwnItem expansion item) → ((item : Item) → Contains all item → HoldsTexts expansion item)
      → first_given (item_indentation os) all ≡ first_given (indentation_said os expansion) (item_shapes all)
  unfolding first_given
  first_said [] own cooked = refl
  first_said (item ∷ all) own cooked =
      ap (λ o. or_next o (first_given (item_indentation os) all)) (item_said item (own item (contains_first item all)) (cooked item (contains_first item all)))
      ∙ ap (or_next (indentation_said os expansion (item_shape item))) (first_said all (λ i c. own i (contains_later item all i c)) (λ i c. cooked i (contains_later item all i c)))

  -- the indentation of a file that was read is that which its items say
  pub indentation_is : (all : List Item) → All (IsOwnItem expansion) all → All (HoldsTexts expansion) all
      → file_indentation os all ≡ option_and_then known (first_given (indentation_said os expansion) (item_shapes all))
  indentation_is all own cooked = ap (option_and_then known) (first_said all (λ i c. All-contains (IsOwnItem expansion) all i own c) (λ i c. All-contains (HoldsTexts expansion) all i cooked c))
