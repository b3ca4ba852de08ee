-- What a compilation stands for stays where its variables get their numbers.
use Rattle.std.proofs.Common.{◌≡◌, refl, sym, ◌∙◌, ap, subst, List, [], ◌∷◌, ◌++◌, map, length, Option, Some, None, ℕ, suc, All, option_map, arith}
use Rattle.std.specs.Prelude.{slice_get}
use Rattle.std.specs.List.{flat_map}
use Rattle.std.proofs.lemmas.List.{length-map}
use Rattle.std.proofs.lemmas.List.Elements.{All-cons, All-head, All-map, All-nil, All-tail}
use Rattle.std.proofs.lemmas.Simd.{map-map}
use Rattle.std.proofs.lemmas.Option.{none-some, slice_get-map}
use Rattle.just_text.specs.Tokens.{lexeme}
use Rattle.tree_expressions.specs.Shape.{Shape}
use Rattle.tree_attributes.specs.Attributes.{AttributeShape, OptionsShape}
use Rattle.tree_attributes.specs.declared.setting.Setting.{Setting}
use Rattle.tree_attributes.specs.declared.setting.Setting.TheVariants as settings
use Rattle.tree_attributes.specs.Sets.Sets.{shapes_in}
use Rattle.tree_items.specs.Files.{item_shape, item_shapes, recipe_item}
use Rattle.tree_items.specs.Recipes.{recipe_shape}
use Rattle.tree_items.specs.declared.ast.Item.{Item}
use Rattle.tree_items.specs.declared.ast.Item.TheVariants.{Alias, Assignment, Comment, Function, Import, Module, Newline, Recipe, Set, Unexport}
use Rattle.tree_items.specs.declared.recipe.Parameter.{Parameter}
use Rattle.tree_items.specs.declared.recipe.Recipe.{Recipe as RecipeOf}
use Rattle.tree_items.specs.declared.recipe.UnresolvedDependency.{UnresolvedDependency}
use Rattle.parse_expressions.specs.Literals.{Expansion, Origin, from_file}
use Rattle.parse_recipes.specs.Numbering.{numbers_of}
use Rattle.parse_items.specs.Names.{setting_name}
use Rattle.parse_items.specs.Numbered.{binding_numbers}
use Rattle.parse_attributed_items.specs.Fitting.{options_among}
use Rattle.parse_attributed_items.specs.Held.{AreAscii, HasOptions, IsAscii, IsItemCooked, IsOwnItem}
use Rattle.parse_attributed_items.specs.Options.{HaveOptions, ParameterOptions, meant_for}
use Rattle.justfile_syntax.specs.Numbered.{bindings_in, recipe_numbers, recipes_in}
use Rattle.modules_compilation.specs.declared.compilation.Compilation.{Compilation}
use Rattle.modules_compilation.specs.declared.module_node.File.{File}
use Rattle.resolve_references.specs.Numbered.{IsNumberedItem, IsSameSetting, bare_parameter, bare_parameters}
use Rattle.resolve_references.specs.Seen.{seen_in}
use Rattle.resolve_analysis.specs.Numbered.{AreSameItems, IsNumbered, file_names}
use Rattle.meaning_rules.specs.Worlds.Compiled.{IsCompiled}
use Rattle.meaning_rules.specs.Worlds.Given.{World}
use Rattle.meaning_rules.specs.Worlds.Views.{file_view, node_view}
use Rattle.laws_modules.specs.Names.Meant.{IsMeantWhole}
use Rattle.laws_modules.specs.Names.Names.{nodes, views}
use Rattle.laws_names.specs.Reading.Carried.{NumberedAreMeant}
use Rattle.laws_names.specs.Reading.Meant.{AreAttributesKnown, AreExpressionsCooked, AreSeenCooked, HasKnownAttributes}
use Rattle.laws_names.proofs.Reading.Attributes.{attributes_known}
use Rattle.laws_names.proofs.Reading.Cooked.{said_cooked, seen_cooked}

-- ---- lists that are the same place by place

-- what a function gives of the elements at each place is the same
abbrev AreSameBy : {X Y : Type 0} → (X → Y) → List X → List X → Type 0
AreSameBy {X} {Y} f old new = (place : ℕ) (x y : X) → slice_get old place ≡ Some x → slice_get new place ≡ Some y → f y ≡ f x

-- so is the list of what it gives
same_map : {X Y : Type 0} (f : X → Y) (old new : List X) → length new ≡ length old → AreSameBy f old new → map f new ≡ map f old
same_map f [] [] many each = refl
same_map f [] (y ∷ ys) many each = absurd (omega (arith, many))
same_map f (x ∷ xs) [] many each = absurd (omega (arith, many))
same_map f (x ∷ xs) (y ∷ ys) many each =
    let first = each 0 x y refl refl in
    let later = same_map f xs ys (omega (arith, many)) (λ place. each (suc place)) in
    cc

-- and all that it gives in order
same_flat : {X Y : Type 0} (f : X → List Y) (old new : List X) → length new ≡ length old → AreSameBy f old new → flat_map f new ≡ flat_map f old
same_flat f [] [] many each = refl
same_flat f [] (y ∷ ys) many each = absurd (omega (arith, many))
same_flat f (x ∷ xs) [] many each = absurd (omega (arith, many))
same_flat f (x ∷ xs) (y ∷ ys) many each =
    ap (λ l. l ++ flat_map f ys) (each 0 x y refl refl) ∙ ap (λ l. f x ++ l) (same_flat f xs ys (omega (arith, many)) (λ place. each (suc place)))

-- what follows for the one at its place from what holds of each element
all_kept : {X : Type 0} (P Q : X → Type 0) (old new : List X) → length new ≡ length old
    → ((place : ℕ) (x y : X) → slice_get old place ≡ Some x → slice_get new place ≡ Some y → P x → Q y) → All P old → All Q new
all_kept P Q [] [] many each all = All-nil Q
all_kept P Q [] (y ∷ ys) many each all = absurd (omega (arith, many))
all_kept P Q (x ∷ xs) [] many each all = absurd (omega (arith, many))
all_kept P Q (x ∷ xs) (y ∷ ys) many each all =
    All-cons Q y ys (each 0 x y refl refl (All-head P x xs all)) (all_kept P Q xs ys (omega (arith, many)) (λ place. each (suc place)) (All-tail P x xs all))

-- what holds of what a function gives of each element
all_unmapped : {X Y : Type 0} (P : Y → Type 0) (f : X → Y) (xs : List X) → All P (map f xs) → All (λ x. P (f x)) xs
all_unmapped P f [] all = All-nil (λ x. P (f x))
all_unmapped P f (x ∷ xs) all = All-cons (λ x. P (f x)) x xs (All-head P (f x) (map f xs) all) (all_unmapped P f xs (All-tail P (f x) (map f xs) all))

-- ---- parameters and settings

-- what the options of a parameter say, of which its option's value is told by its shape
abbrev options_of : Parameter × Option Shape → ParameterOptions
options_of b = record {
  flag = b.0.flag;
  help = b.0.help;
  long = b.0.long;
  max = b.0.max;
  min = b.0.min;
  multiple = b.0.multiple;
  short = option_map (λ c. c ∷ []) b.0.short;
  value = b.1;
}

-- these are what the `arg` for the parameter says
abbrev HasBareOptions : Expansion → List OptionsShape → Parameter × Option Shape → Type 0
HasBareOptions expansion os b = options_of b ≡ meant_for expansion os (lexeme b.0.name.token)

-- parameters that are the same but for their expressions have the same options
options_kept : (expansion : Expansion) (os : List OptionsShape) (old new : List Parameter) → bare_parameters new ≡ bare_parameters old → HaveOptions expansion os old → HaveOptions expansion os new
options_kept expansion os old new same have =
    let bare : All (HasBareOptions expansion os) (bare_parameters old) = All-map (HasBareOptions expansion os) bare_parameter old have in
    all_unmapped (HasBareOptions expansion os) bare_parameter new (subst (All (HasBareOptions expansion os)) (sym same) bare)

abbrev HasAsciiName : Parameter × Option Shape → Type 0
HasAsciiName b = IsAscii b.0

-- and the same short names
letters_kept : (old new : List Parameter) → bare_parameters new ≡ bare_parameters old → AreAscii old → AreAscii new
letters_kept old new same ascii =
    let bare : All HasAsciiName (bare_parameters old) = All-map HasAsciiName bare_parameter old ascii in
    all_unmapped HasAsciiName bare_parameter new (subst (All HasAsciiName) (sym same) bare)

-- and the same numbers
numbers_kept : (old new : List Parameter) → bare_parameters new ≡ bare_parameters old → numbers_of new ≡ numbers_of old
numbers_kept old new same = sym (map-map number bare_parameter new) ∙ ap (map number) same ∙ map-map number bare_parameter old
  where
    number : Parameter × Option Shape → ℕ
    number b = b.0.number

-- a setting has the name that it had
name_kept : (before after : Setting) → IsSameSetting before after → setting_name after ≡ setting_name before
name_kept (settings.Truth which value) after is = ap setting_name is
name_kept (settings.DotenvCommand value) after is = ap setting_name is.1
name_kept (settings.DotenvFilename value) after is = ap setting_name is.1
name_kept (settings.DotenvPath value) after is = ap setting_name is.1
name_kept (settings.Indentation value) after is = ap setting_name is
name_kept (settings.MinimumVersion value) after is = ap setting_name is
name_kept (settings.ScriptInterpreter value) after is = ap setting_name is.1
name_kept (settings.Shell value) after is = ap setting_name is.1
name_kept (settings.Tempdir value) after is = ap setting_name is.1
name_kept (settings.WindowsShell value) after is = ap setting_name is.1
name_kept (settings.WorkingDirectory value) after is = ap setting_name is.1

-- ---- items

-- an item's bindings have the numbers that they had
bindings_kept : (before after : Item) → IsNumberedItem before after → binding_numbers after ≡ binding_numbers before
bindings_kept (Alias a) after is = ap binding_numbers is
bindings_kept (Assignment a) after is = ap binding_numbers is.1
bindings_kept (Comment c) after is = ap binding_numbers is
bindings_kept (Function f) after is = ap binding_numbers is.1
bindings_kept (Import i) after is = ap binding_numbers is
bindings_kept (Module m) after is = ap binding_numbers is
bindings_kept Newline after is = ap binding_numbers is
bindings_kept (Recipe r) after is = ap binding_numbers is.1 ∙ numbers_kept r.parameters.items is.0.parameters.items is.2.parameters
bindings_kept (Set s) after is = ap binding_numbers is.1
bindings_kept (Unexport u) after is = ap binding_numbers is

-- and a recipe has its number
recipes_kept : (before after : Item) → IsNumberedItem before after → recipe_numbers after ≡ recipe_numbers before
recipes_kept (Alias a) after is = ap recipe_numbers is
recipes_kept (Assignment a) after is = ap recipe_numbers is.1
recipes_kept (Comment c) after is = ap recipe_numbers is
recipes_kept (Function f) after is = ap recipe_numbers is.1
recipes_kept (Import i) after is = ap recipe_numbers is
recipes_kept (Module m) after is = ap recipe_numbers is
recipes_kept Newline after is = ap recipe_numbers is
recipes_kept (Recipe r) after is = ap recipe_numbers is.1 ∙ ap (λ n. n ∷ []) is.2.number
recipes_kept (Set s) after is = ap recipe_numbers is.1
recipes_kept (Unexport u) after is = ap recipe_numbers is

-- items of one shape that are recipes have attributes of the same shapes
same_attributes : (old new : RecipeOf UnresolvedDependency) → item_shape (Recipe new) ≡ item_shape (Recipe old) → shapes_in new.attributes ≡ shapes_in old.attributes
same_attributes old new same = by_shape (shapes_in new.attributes) (shapes_in old.attributes) same
  where
    by_shape : (a b : List AttributeShape) → recipe_item a (recipe_shape new) ≡ recipe_item b (recipe_shape old) → a ≡ b
    by_shape a b e = cc e

-- an item stays what its attributes make of it
own_kept : (expansion : Expansion) (before after : Item) → IsNumberedItem before after → item_shape after ≡ item_shape before → IsOwnItem expansion before → IsOwnItem expansion after
own_kept expansion (Alias a) after is shape own = subst (IsOwnItem expansion) (sym is) own
own_kept expansion (Assignment a) after is shape own = subst (IsOwnItem expansion) (sym is.1) (record { file_depth = own.file_depth; prelude = own.prelude; private = own.private })
own_kept expansion (Comment c) after is shape own = subst (IsOwnItem expansion) (sym is) own
own_kept expansion (Function f) after is shape own = subst (IsOwnItem expansion) (sym is.1) own
own_kept expansion (Import i) after is shape own = subst (IsOwnItem expansion) (sym is) own
own_kept expansion (Module m) after is shape own = subst (IsOwnItem expansion) (sym is) own
own_kept expansion Newline after is shape own = subst (IsOwnItem expansion) (sym is) own
own_kept expansion (Recipe r) after is shape own =
    let attributes : shapes_in is.0.attributes ≡ shapes_in r.attributes = same_attributes r is.0 (ap item_shape (sym is.1) ∙ shape) in
    let options : HasOptions expansion is.0 = subst (λ as'. HaveOptions expansion (options_among as') is.0.parameters.items) (sym attributes)
    (options_kept expansion (options_among (shapes_in r.attributes)) r.parameters.items is.0.parameters.items is.2.parameters own.0) in
    subst (IsOwnItem expansion) (sym is.1) (options, letters_kept r.parameters.items is.0.parameters.items is.2.parameters own.1)
own_kept expansion (Set s) after is shape own =
    subst (IsOwnItem expansion) (sym is.1) (name_kept s.value is.0.value is.3 ∙ own ∙ ap (λ n. lexeme n.token) (sym is.2))
own_kept expansion (Unexport u) after is shape own = subst (IsOwnItem expansion) (sym is) own

-- ---- files

-- what is seen of a file stays
view_kept : (old new : File) → file_names new ≡ file_names old → AreSameItems old.ast.items.items new.ast.items.items → file_view new ≡ file_view old
view_kept old new names are =
    let key : new.key.now ≡ old.key.now = ap (λ n. n.key) names in
    let owner : new.module ≡ old.module = ap (λ n. n.owner) names in
    let depth : new.depth ≡ old.depth = ap (λ n. n.depth) names in
    let shapes : item_shapes new.ast.items.items ≡ item_shapes old.ast.items.items =
    same_map item_shape old.ast.items.items new.ast.items.items are.many (λ place x y e f. (are.each place x y e f).shape) in
    let bindings : bindings_in new.ast.items.items ≡ bindings_in old.ast.items.items =
    same_flat binding_numbers old.ast.items.items new.ast.items.items are.many (λ place x y e f. bindings_kept x y (are.each place x y e f).numbered) in
    let recipes : recipes_in new.ast.items.items ≡ recipes_in old.ast.items.items =
    same_flat recipe_numbers old.ast.items.items new.ast.items.items are.many (λ place x y e f. recipes_kept x y (are.each place x y e f).numbered) in
    cc

module _ (w : World) (before after : Compilation) (is : IsNumbered before after) where
  -- a file with a new one at its place has its names
  names_at : (k : ℕ) (old new : File) → slice_get before.files.items k ≡ Some old → slice_get after.files.items k ≡ Some new → file_names new ≡ file_names old
  names_at k old new e f =
      let same : Some (file_names new) ≡ Some (file_names old) =
      sym (slice_get-map file_names after.files.items k ∙ ap (option_map file_names) f) ∙ ap (λ l. slice_get l k) is.files ∙ slice_get-map file_names before.files.items k ∙ ap (option_map file_names) e in
      cc same

  -- there are as many files
  many_files : length after.files.items ≡ length before.files.items
  many_files = sym (length-map after.files.items file_names) ∙ ap length is.files ∙ length-map before.files.items file_names

  -- what is seen of the files and of the modules stays
  same_views : views w after ≡ views w before
  same_views = same_map file_view before.files.items after.files.items many_files (λ k old new e f. view_kept old new (names_at k old new e f) (is.items k old new e f))

  same_nodes : nodes w after ≡ nodes w before
  same_nodes = ap (λ ms. map node_view ms.items) is.modules

  -- each new file had one at its place
  old_at : (k : ℕ) (new : File) → slice_get after.files.items k ≡ Some new → (old : File) × (slice_get before.files.items k ≡ Some old)
  old_at k new f = by_old (slice_get before.files.items k) refl
    where
      by_old : (o : Option File) → slice_get before.files.items k ≡ o → (old : File) × (slice_get before.files.items k ≡ Some old)
      by_old None e =
          absurd (none-some (file_names new) (sym (ap (option_map file_names) e) ∙ sym (slice_get-map file_names before.files.items k) ∙ ap (λ l. slice_get l k) (sym is.files)
          ∙ slice_get-map file_names after.files.items k ∙ ap (option_map file_names) f))
      by_old (Some old) e = (old, e)

  module _ (whole : IsMeantWhole w before) where
    -- the modules are those of the world
    compiled : IsCompiled w (views w after) (nodes w after)
    compiled = subst (λ vs. IsCompiled w vs (nodes w after)) (sym same_views) (subst (λ ns. IsCompiled w (views w before) ns) (sym same_nodes) whole.meant.of)

    -- the items are what their attributes make of them
    owned : (k : ℕ) (file : File) → slice_get after.files.items k ≡ Some file → All (IsOwnItem w.expansion) file.ast.items.items
    owned k file f =
        let o = old_at k file f in
        let are = is.items k o.0 file o.1 f in
        all_kept (IsOwnItem w.expansion) (IsOwnItem w.expansion) o.0.ast.items.items file.ast.items.items are.many
        (λ place x y e g. own_kept w.expansion x y (are.each place x y e g).numbered (are.each place x y e g).shape) (whole.meant.options k o.0 o.1)

    -- their expressions hold what their strings stand for
    cooked : AreExpressionsCooked w after
    cooked k file f =
        let o = old_at k file f in
        let are = is.items k o.0 file o.1 f in
        let same : file.key.now ≡ o.0.key.now = ap (λ n. n.key) (names_at k o.0 file o.1 f) in
        let origin : Origin = from_file o.0.key.now w.expansion in
        subst (λ key. All (AreSeenCooked (from_file key w.expansion)) file.ast.items.items) (sym same)
        (all_kept (IsItemCooked origin) (AreSeenCooked origin) o.0.ast.items.items file.ast.items.items are.many
        (λ place x y e g h. said_cooked origin (seen_in x) (seen_in y) (are.each place x y e g).said (seen_cooked origin x h))
        (whole.cooked k o.0 o.1))

    -- and so do the attributes of their recipes
    attributed : AreAttributesKnown w after
    attributed k file f =
        let o = old_at k file f in
        let are = is.items k o.0 file o.1 f in
        let same : file.key.now ≡ o.0.key.now = ap (λ n. n.key) (names_at k o.0 file o.1 f) in
        let origin : Origin = from_file o.0.key.now w.expansion in
        subst (λ key. All (HasKnownAttributes (from_file key w.expansion)) file.ast.items.items) (sym same)
        (all_kept (IsItemCooked origin) (HasKnownAttributes origin) o.0.ast.items.items file.ast.items.items are.many
        (λ place x y e g h. attributes_known origin x y (are.each place x y e g).numbered h (said_cooked origin (seen_in x) (seen_in y) (are.each place x y e g).said (seen_cooked origin x h)))
        (whole.cooked k o.0 o.1))

-- what holds before the variables get their numbers holds after
pub numbered_world : NumberedAreMeant
numbered_world w before after whole is bound = record {
  of = compiled w before after is whole;
  single = λ k node there. whole.meant.single k node (ap (λ ms. slice_get ms.items k) (sym is.modules) ∙ there);
  settings = λ k node there. whole.meant.settings k node (ap (λ ms. slice_get ms.items k) (sym is.modules) ∙ there);
  bound = bound;
  options = owned w before after is whole;
  cooked = cooked w before after is whole;
  attributes = attributed w before after is whole;
  above = λ k view there. whole.meant.above k view (ap (λ vs. slice_get vs k) (sym (same_views w before after is)) ∙ there);
}
