-- What items break.
use Rattle.std.proofs.Common.{◌≡◌, ◌∙◌, ◌<◌, ◌≤◌, ◌+◌, ℕ, Bool, true, false, List, [], ◌∷◌, Some, None, length, get_or, sym, ap, subst, refl, arith, inl, inr, if◌then◌else◌, codes}
use Rattle.std.specs.Prelude.{◌≢◌, Contains, bytes_eq}
use Rattle.std.proofs.lemmas.Bool.Decides.{eqb_tells}
use Rattle.std.proofs.lemmas.List.{get_or_default}
use Rattle.std.proofs.lemmas.Option.{same_Some, none-some}
use Rattle.std.proofs.lemmas.Slice.Eq.{bytes_eq-Decides}
use Rattle.just_text.specs.declared.os.Os.{Os}
use Rattle.tree_attributes.specs.declared.attribute.AttributeKind.TheVariants.{Cache}
use Rattle.tree_attributes.specs.Attributes.{AttributeShape}
use Rattle.tree_attributes.specs.Settings.{SetShape}
use Rattle.tree_items.specs.declared.ast.Item.{Item}
use Rattle.tree_items.specs.declared.ast.ListFeature.{ListFeature}
use Rattle.tree_items.specs.declared.ast.UnstableFeature.{UnstableFeature}
use Rattle.tree_items.specs.declared.ast.UnstableFeature.TheVariants.{CachedRecipes, DefinedFunctions, Lists}
use Rattle.tree_items.specs.Files.{ItemShape, item_shape, alias_item, assignment_item, comment_item, function_item, import_item, module_item, newline_item, recipe_item, set_item, unexport_item}
use Rattle.tree_items.specs.Recipes.{RecipeShape}
use Rattle.modules_compilation.specs.declared.module_node.File.{File}
use Rattle.just_modules.specs.declared.truths.Truths.{Truths}
use Rattle.just_modules.specs.Lists.{first, lists_of}
use Rattle.meaning_rules.specs.Worlds.Given.{World}
use Rattle.meaning_rules.specs.Worlds.Sources.{is_enabled}
use Rattle.meaning_rules.specs.Rules.{Rule, UsesUnstable, defining, caching, setting_lists, has}
use Rattle.just_modules.specs.ItemRules.{BreaksEnabled, lists, recipe, BreaksIfRecipe, BreaksItem, unstable, there, BreaksItems, BreaksFiles, unstable_in}

some_none : {A : Type 0} (x : A) → Some x ≡ None → ⊥
some_none x e = none-some x (sym e)

pub unused : (item : ItemShape) → unstable_in item ≡ None → (feature : UnstableFeature) → UsesUnstable item feature → ⊥
unused item none feature defining = some_none DefinedFunctions none
unused item none feature (caching e) = some_none CachedRecipes (sym (ap (λ b. if b then Some CachedRecipes else None) e) ∙ none)
unused item none feature (setting_lists {s = s} e) =
    some_none Lists (sym (ap (λ b. if b then Some Lists else None) ((bytes_eq-Decides s.name (codes "lists")).1 e)) ∙ none)

used_cached : (attributes : List AttributeShape) (r : RecipeShape) (feature : UnstableFeature) (b : Bool) → has Cache attributes ≡ b → (if b then Some CachedRecipes else None) ≡ Some feature → UsesUnstable (recipe_item attributes r) feature
used_cached attributes r feature true is e = subst (UsesUnstable (recipe_item attributes r)) (same_Some CachedRecipes feature e) (caching is)
used_cached attributes r feature false is e = absurd (none-some feature e)

used_lists : (attributes : List AttributeShape) (s : SetShape) (feature : UnstableFeature) (b : Bool) → bytes_eq s.name (codes "lists") ≡ b → (if b then Some Lists else None) ≡ Some feature → UsesUnstable (set_item attributes s) feature
used_lists attributes s feature true is e = subst (UsesUnstable (set_item attributes s)) (same_Some Lists feature e) (setting_lists ((bytes_eq-Decides s.name (codes "lists")).0 is))
used_lists attributes s feature false is e = absurd (none-some feature e)

pub used : (item : ItemShape) (feature : UnstableFeature) → unstable_in item ≡ Some feature → UsesUnstable item feature
used (function_item f) feature e = subst (UsesUnstable (function_item f)) (same_Some DefinedFunctions feature e) defining
used (recipe_item attributes r) feature e = used_cached attributes r feature (has Cache attributes) refl e
used (set_item attributes s) feature e = used_lists attributes s feature (bytes_eq s.name (codes "lists")) refl e
used (alias_item attributes a) feature e = absurd (none-some feature e)
used (assignment_item attributes a) feature e = absurd (none-some feature e)
used (comment_item t) feature e = absurd (none-some feature e)
used (import_item i) feature e = absurd (none-some feature e)
used (module_item attributes m) feature e = absurd (none-some feature e)
used newline_item feature e = absurd (none-some feature e)
used (unexport_item name) feature e = absurd (none-some feature e)

pub first_there : (features : List ListFeature) (feature : ListFeature) → first features ≡ Some feature → Contains features feature
first_there [] feature e = absurd (none-some feature e)
first_there (x ∷ xs) feature e = (0, omega arith, same_Some x feature e)

pub none_there : (features : List ListFeature) → first features ≡ None → (feature : ListFeature) → Contains features feature → ⊥
none_there [] e feature c = let lt = c.1 in omega arith
none_there (x ∷ xs) e feature c = some_none x e

pub enabled_is_clear : (w : World) (truths : Truths) (item : Item) → (truths.lists ≡ false → (feature : ListFeature) → Contains (lists_of item) feature → ⊥) → ((w : World) (rule : Rule) → BreaksIfRecipe w truths item rule → ⊥) → (rule : Rule) → BreaksEnabled w truths item rule → ⊥
enabled_is_clear w truths item no_lists apart rule (lists off c) = no_lists off _ c
enabled_is_clear w truths item no_lists apart rule (recipe b) = apart w _ b

pub item_is_clear : (w : World) (truths : Truths) (item : Item) → (truths.unstable ≡ false → (feature : UnstableFeature) → UsesUnstable (item_shape item) feature → ⊥) → (is_enabled w.os (item_shape item) ≡ true → (rule : Rule) → BreaksEnabled w truths item rule → ⊥) → (rule : Rule) → BreaksItem w truths item rule → ⊥
item_is_clear w truths item stable clear rule (unstable off u) = stable off _ u
item_is_clear w truths item stable clear rule (there on b) = clear on _ b

-- ---- all items

abbrev pub AreClearBelow : Truths → Os → List Item → ℕ → Type 0
AreClearBelow truths os items count = (w : World) (rule : Rule) → w.os ≡ os → (k : ℕ) (item : Item) → k < count → item ≡ get_or items k item → BreaksItem w truths item rule → ⊥

abbrev pub AreFilesClearBelow : Truths → Os → List File → ℕ → Type 0
AreFilesClearBelow truths os files count = (w : World) (rule : Rule) → w.os ≡ os → (k : ℕ) (file : File) → k < count → file ≡ get_or files k file → BreaksItems w truths file.ast.items.items rule → ⊥

pub more_files_clear : (truths : Truths) (os : Os) (files : List File) (count : ℕ) (here : File) → count < length files → here ≡ get_or files count here → AreFilesClearBelow truths os files count → ((w : World) (rule : Rule) → w.os ≡ os → BreaksItems w truths here.ast.items.items rule → ⊥) → AreFilesClearBelow truths os files (count + 1)
more_files_clear truths os files count here within is before clear w rule same k file lt at b = elim (eqb_tells k count) [
  | inl p ↦
      let e : file ≡ here = at ∙ ap (λ n. get_or files n file) p.1 ∙ get_or_default files count file here within ∙ sym is in
      clear w rule same (subst (λ f. BreaksItems w truths f.ast.items.items rule) e b)
  | inr p ↦ let ne : k ≢ count = p.1 in before w rule same k file (omega arith) at b
]

pub all_files_clear : (truths : Truths) (os : Os) (files : List File) (count : ℕ) → length files ≤ count → AreFilesClearBelow truths os files count → (w : World) (rule : Rule) → w.os ≡ os → BreaksFiles w truths files rule → ⊥
all_files_clear truths os files count le before w rule same (file, c, b) = before w rule same c.0 file (let lt = c.1 in omega arith) (sym c.2) b
