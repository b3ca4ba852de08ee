-- Items that are neither recipes nor settings.
use Rattle.std.proofs.Common.{◌≡◌, ◌≢◌, Bool, true, false, List, [], Ok, Err, refl, ap, subst}
use Rattle.just_text.specs.Numbers.{Numbers}
use Rattle.just_text.specs.Tokens.{Word}
use Rattle.tree_items.specs.declared.ast.Item.{Item}
use Rattle.tree_items.specs.declared.ast.Item.TheVariants as items
use Rattle.tree_attributes.specs.declared.item_kind.ItemKind.{ItemKind}
use Rattle.tree_attributes.specs.declared.item_kind.ItemKind.TheVariants.{Alias, Assignment, Comment, Function, Import, Module, Newline, Recipe, Set, Unexport}
use Rattle.tree_items.specs.Files.{ItemShape, alias_item, assignment_item, function_item, import_item, module_item, recipe_item, set_item, unexport_item, item_shape}
use Rattle.parse_expressions.specs.Literals.{Expansion, Origin}
use Rattle.parse_expressions.specs.Reading.{◌>>=◌, Read}
use Rattle.parse_items.specs.Cooked.{IsCookedItem}
use Rattle.parse_items.specs.Numbered.{AreNext, binding_numbers}
use Rattle.parse_items.specs.Plain.{IsPlainItem}
use Rattle.parse_items.specs.Reading.{alias_at, assignment_at, function_at, import_at, item_of, module_at, unexport_at}
use Rattle.parse_attributed_items.specs.Bare.{bare_of}
use Rattle.parse_attributed_items.specs.Held.{IsItemNumbered}
use Rattle.parse_attributed_items.specs.Plain.{IsBareCooked, IsBareTree}
use Rattle.semver.specs.declared.Version.{Version}

abbrev pub is_other : ItemShape → Bool
is_other (recipe_item as' r) = false
is_other (set_item as' s) = false
is_other i = true

module _ {T : Type 0} (word : T → Word) (expansion : Expansion) where
  abbrev made : {A : Type 0} → (A → ItemShape) → A × List T → Read T ItemShape
  made make a = Ok (make a.0, a.1)

  made_so : {A : Type 0} (read : Read T A) (make : A → ItemShape) → ((a : A) → is_other (make a) ≡ true) → (i : ItemShape) (rest : List T) → (read >>= made make) ≡ Ok (i, rest) → is_other i ≡ true
  made_so (Ok a) make all i rest h =
      let pair : (let x : ItemShape × List T = (make a.0, a.1) in x) ≡ (i, rest) = cc in
      subst (λ (j : ItemShape). is_other j ≡ true) (ap (λ (x : ItemShape × List T). x.0) pair) (all a.0)
  made_so (Err s) make all i rest h = absurd cc

  -- no other item is read
  pub other_so : (kind : ItemKind) (ts : List T) (i : ItemShape) (rest : List T) → item_of word expansion kind ts ≡ Ok (i, rest) → is_other i ≡ true
  unfolding item_of
  other_so Alias ts i rest h = made_so (alias_at word ts) (alias_item []) (λ a. refl) i rest h
  other_so Assignment ts i rest h = made_so (assignment_at word expansion ts) (assignment_item []) (λ a. refl) i rest h
  other_so Function ts i rest h = made_so (function_at word expansion ts) function_item (λ a. refl) i rest h
  other_so Import ts i rest h = made_so (import_at word expansion ts) import_item (λ a. refl) i rest h
  other_so Module ts i rest h = made_so (module_at word expansion ts) (module_item []) (λ a. refl) i rest h
  other_so Unexport ts i rest h = made_so (unexport_at word ts) unexport_item (λ a. refl) i rest h
  other_so Comment ts i rest h = absurd cc
  other_so Newline ts i rest h = absurd cc
  other_so Recipe ts i rest h = absurd cc
  other_so Set ts i rest h = absurd cc

  -- so it is read as it is read alone
  pub bare_other : (current : Version) (kind : ItemKind) (ts : List T) → kind ≢ Recipe → kind ≢ Set → bare_of word expansion current kind ts ≡ (item_of word expansion kind ts >>= λ i. Ok ((i.0, 0), i.1))
  unfolding bare_of
  bare_other current Alias ts no_recipe no_set = refl
  bare_other current Assignment ts no_recipe no_set = refl
  bare_other current Comment ts no_recipe no_set = refl
  bare_other current Function ts no_recipe no_set = refl
  bare_other current Import ts no_recipe no_set = refl
  bare_other current Module ts no_recipe no_set = refl
  bare_other current Newline ts no_recipe no_set = refl
  bare_other current Recipe ts no_recipe no_set = absurd (no_recipe refl)
  bare_other current Set ts no_recipe no_set = absurd (no_set refl)
  bare_other current Unexport ts no_recipe no_set = refl

-- what holds of items of which none is a recipe or a setting holds of an item
pub numbered_so : (old new : Numbers) (i : Item) → is_other (item_shape i) ≡ true → AreNext old new (binding_numbers i) → IsItemNumbered old new i
numbered_so old new (items.Recipe r) other h = absurd cc
numbered_so old new i other h = h

pub plain_so : (i : Item) → is_other (item_shape i) ≡ true → IsPlainItem i → IsBareTree i
plain_so (items.Recipe r) other h = absurd cc
plain_so (items.Set s) other h = absurd cc
plain_so i other h = h

pub cooked_so : (origin : Origin) (i : Item) → is_other (item_shape i) ≡ true → IsCookedItem origin i → IsBareCooked origin i
cooked_so origin (items.Recipe r) other h = absurd cc
cooked_so origin (items.Set s) other h = absurd cc
cooked_so origin i other h = h
