-- The recipe that runs in a module where none is named is that of the world.
use Rattle.std.proofs.Common.{◌≡◌, ◌⊎◌, inl, inr, refl, sym, ◌∙◌, ap, subst, Bool, true, false, cond, not, ◌||◌, arith, List, [], ◌∷◌, ℕ, zero, suc, ◌+◌, ◌-◌, ◌<◌, ◌≤◌, nat_eq, length, map, take, drop, Option, Some, None}
use Rattle.std.specs.Prelude.{filter, slice_get}
use Rattle.std.specs.List.{list_any}
use Rattle.std.specs.Option.{option_and_then, option_map, option_or}
use Rattle.std.proofs.lemmas.Bool.Decides.{Decides-eqb}
use Rattle.std.proofs.lemmas.Option.{none-some, same_Some}
use Rattle.tree_attributes.specs.Attributes.{AttributeShape}
use Rattle.tree_attributes.specs.declared.attribute.AttributeKind.TheVariants.{Default}
use Rattle.tree_attributes.specs.Sets.Sets.{has_kind, items_of, shapes_in}
use Rattle.tree_attributes.specs.Sets.Order.{item_shape as attribute_shape}
use Rattle.tree_attributes.specs.declared.attribute_item.AttributeItem.{AttributeItem}
use Rattle.tree_items.specs.Files.{ItemShape, is_blank, item_shape, recipe_item}
use Rattle.tree_items.specs.Recipes.{RecipeShape}
use Rattle.tree_items.specs.declared.ast.Item.{Item}
use Rattle.tree_items.specs.declared.ast.Item.TheVariants.{Alias, Assignment, Comment, Function, Import, Module, Newline, Recipe, Set, Unexport}
use Rattle.modules_compilation.specs.declared.compilation.Compilation.{Compilation}
use Rattle.modules_compilation.specs.declared.module_node.ModuleNode.{ModuleNode}
use Rattle.modules_compilation.specs.declared.place.Place.{Place}
use Rattle.resolve_recipes.specs.Defaults.{default_of, earliest_from, has_default}
use Rattle.resolve_recipes.specs.Named.{text_at}
use Rattle.resolve_recipes.specs.Nodes.{recipe_at, recipe_of}
use Rattle.meaning_rules.specs.Worlds.Given.{Overrides, Text, World, filled}
use Rattle.meaning_rules.specs.Worlds.Sources.{Has}
use Rattle.meaning_rules.specs.Worlds.Modules.{IsModule}
use Rattle.meaning_rules.specs.Worlds.Keeping.{KeepsAt, Kind, a_recipe, defined_by}
use Rattle.meaning_rules.specs.Worlds.Compiled.{AreFiles, FileView, HasList, IsAt, files_of}
use Rattle.meaning_rules.proofs.Worlds.Places.{contains_at, place_of as place_at}
use Rattle.meaning_rules.proofs.Worlds.Reading.{orders_are_unique, orders_have_once}
use Rattle.meaning_rules.specs.Worlds.Views.{node_view}
use Rattle.meaning_rules.specs.Rules.{has}
use Rattle.laws_modules.specs.Names.Names.{HasNode, IsOfWorld, nodes, views}
use Rattle.laws_modules.proofs.Names.Found.{mapped}
use Rattle.laws_modules.proofs.Names.Named.{node_is}
use Rattle.laws_modules.proofs.Names.Standing.{item_there}
use Rattle.meaning_evaluation.specs.Named.{RecipeName}
use Rattle.just_meaning.specs.Defining.{IsDefault, IsDefaultOf, IsMarked, IsOwn, by_attribute, by_place}
use Rattle.laws_runs.specs.Resolved.Definitions.{default_at, node_of}
use Rattle.laws_runs.specs.Resolved.Kept.{DefaultsStand, IsWorldOf}
use Rattle.laws_runs.proofs.Resolved.Items.{is_item}
use Rattle.laws_runs.proofs.Resolved.Leading.{module_of, modules_stand, node_there}
use Rattle.laws_runs.proofs.Resolved.Listed.{kept_found, listed_at}
use Rattle.laws_runs.proofs.Resolved.Settings.{one_item}
use Rattle.laws_runs.proofs.Resolved.Recipes.{recipe_list}
use Rattle.laws_runs.proofs.Resolved.Earliest.{IsNoLater, earliest_is, none_passes}

-- ---- parts of lists

drop_there : {X : Type 0} (n : ℕ) (xs : List X) (i j : ℕ) → n + i ≡ j → slice_get (drop n xs) i ≡ slice_get xs j
drop_there zero xs i j e = ap (slice_get xs) (let same : i ≡ j = omega (arith, e) in same)
drop_there (suc n) [] i j e = refl
drop_there (suc n) (x ∷ xs) i zero e = absurd (omega (arith, e))
drop_there (suc n) (x ∷ xs) i (suc j) e = drop_there n xs i j (omega (arith, e))

take_there : {X : Type 0} (n : ℕ) (xs : List X) (i : ℕ) (x : X) → i < n → slice_get xs i ≡ Some x → slice_get (take n xs) i ≡ Some x
take_there zero xs i x lt e = absurd (omega (arith, lt))
take_there (suc n) [] i x lt e = absurd (none-some x e)
take_there (suc n) (y ∷ ys) zero x lt e = e
take_there (suc n) (y ∷ ys) (suc i) x lt e = take_there n ys i x (omega (arith, lt)) e

-- no more items are left of a shorter part
both_more : {X : Type 0} (b : Bool) (x : X) (xs ys : List X) → length xs ≤ length ys → length (cond b (x ∷ xs) xs) ≤ length (cond b (x ∷ ys) ys)
both_more true x xs ys le = omega (arith, le)
both_more false x xs ys le = le

more_left : {X : Type 0} (test : X → Bool) (i j : ℕ) (xs : List X) → i ≤ j → length (filter test (take i xs)) ≤ length (filter test (take j xs))
more_left test zero j xs le = omega arith
more_left test (suc i) zero xs le = absurd (omega (arith, le))
more_left test (suc i) (suc j) [] le = omega arith
more_left test (suc i) (suc j) (x ∷ xs) le = both_more (test x) x (filter test (take i xs)) (filter test (take j xs)) (more_left test i j xs (omega (arith, le)))

more_filled : (i j : ℕ) (items : List ItemShape) → i ≤ j → length (filled (take i items)) ≤ length (filled (take j items))
unfolding filled
more_filled i j items le = more_left (λ item. not (is_blank item)) i j items le

-- ---- the attribute

any_mapped : {X Y : Type 0} (test : Y → Bool) (f : X → Y) (xs : List X) → list_any (λ x. test (f x)) xs ≡ list_any test (map f xs)
any_mapped test f [] = refl
any_mapped test f (x ∷ xs) = ap (λ b. test (f x) || b) (any_mapped test f xs)

marked_by : (item : Item) (attributes : List AttributeShape) (r : RecipeShape) → item_shape item ≡ recipe_item attributes r → has_default (recipe_of (Some item)) ≡ has Default attributes
marked_by (Alias a) attributes r e = absurd (cc e)
marked_by (Assignment a) attributes r e = absurd (cc e)
marked_by (Comment text) attributes r e = absurd (cc e)
marked_by (Function f) attributes r e = absurd (cc e)
marked_by (Import i) attributes r e = absurd (cc e)
marked_by (Module m) attributes r e = absurd (cc e)
marked_by Newline attributes r e = absurd (cc e)
marked_by (Recipe q) attributes r e = let same : shapes_in q.attributes ≡ attributes = cc e in any_mapped (has_kind Default) (λ (i : AttributeItem). attribute_shape i) (items_of q.attributes) ∙ ap (has Default) same
marked_by (Set s) attributes r e = absurd (cc e)
marked_by (Unexport u) attributes r e = absurd (cc e)

-- ---- in the world one recipe runs

module _ (w : World) (o : Overrides) (own : Text) where
  -- two recipes at one place have one name
  one_name : (a b key key' : Text) (place place' : ℕ) (item item' : ItemShape) → KeepsAt w own a_recipe a key place item → KeepsAt w own a_recipe b key' place' item' → key ≡ key' → place ≡ place' → a ≡ b
  one_name a b key key' place place' item item' h k keys places =
      let items = one_item w key' place' item item' (subst (λ t. Has w t place' item) keys (subst (λ n. Has w key n item) places h.defines.has)) k.defines.has in
      ap (λ (p : Kind × Text). p.1) (same_Some (a_recipe, a) (a_recipe, b) (sym h.defines.is ∙ ap (defined_by w.os) items ∙ k.defines.is))

  both_ways : (m n : ℕ) → m ≤ n → n ≤ m → m ≡ n
  both_ways m n p q = omega (arith, p, q)

  abbrev IsBefore : ℕ → ℕ → ℕ → ℕ → Type 0
  IsBefore file place file' place' = (file < file') ⊎ ((file ≡ file') × (place ≤ place'))

  one_place : (file place file' place' : ℕ) → IsBefore file place file' place' → IsBefore file' place' file place → (file ≡ file') × (place ≡ place')
  one_place file place file' place' (inl p) (inl q) = absurd (omega (arith, p, q))
  one_place file place file' place' (inl p) (inr q) = let same = q.0 in absurd (omega (arith, p, same))
  one_place file place file' place' (inr p) (inl q) = let same = p.0 in absurd (omega (arith, q, same))
  one_place file place file' place' (inr p) (inr q) = (p.0, both_ways place place' p.1 q.1)

  one_mark : (a b : Text) (file place file' place' : ℕ) → IsMarked w o own a file place → IsMarked w o own b file' place' → file ≡ file' → place ≡ place' → a ≡ b
  one_mark a b file place file' place' m m' files places =
      let orders = orders_are_unique w own m.kept.files m'.kept.files m.kept.order m'.kept.order in
      let at : m.kept.at ≡ m'.kept.at = m.stands ∙ files ∙ sym m'.stands in
      let keys : m.key ≡ m'.key = same_Some m.key m'.key (sym m.kept.found ∙ ap (slice_get m.kept.files) at ∙ ap (λ fs. slice_get fs m'.kept.at) orders ∙ m'.kept.found) in
      one_name a b m.key m'.key place place' (recipe_item m.attributes m.shape) (recipe_item m'.attributes m'.shape) m.kept m'.kept keys places

  pub one_default : (a b : Text) → IsDefault w o own a → IsDefault w o own b → a ≡ b
  one_default a b (by_attribute {file = file} {place = place} m least) (by_attribute {file = file'} {place = place'} m' least') =
      let same = one_place file place file' place' (least b file' place' m') (least' a file place m) in
      one_mark a b file place file' place' m m' same.0 same.1
  one_default a b (by_attribute {file = file} {place = place} m least) (by_place none h first) = absurd (none a file place m)
  one_default a b (by_place none h first) (by_attribute {file = file} {place = place} m least) = absurd (none b file place m)
  one_default a b (by_place {place = place} none h first) (by_place {place = place'} none' h' first') =
      one_name a b own own place place' (recipe_item h.attributes h.shape) (recipe_item h'.attributes h'.shape) h.kept h'.kept refl (both_ways place place' (first b place' h') (first' a place h))

module _ (w : World) (compilation : Compilation) (is : IsOfWorld w compilation) (k : ℕ) (node : ModuleNode) (here : HasNode w compilation k node) (o : Overrides) where
  abbrev own : Text
  own = node.source.now

  abbrev Stands : Place → Text → ℕ → ItemShape → Type 0
  Stands place key at item = IsAt w (views w compilation) (nodes w compilation) (node_view node) place key at item

  -- ---- files

  own_files : AreFiles w (views w compilation) (nodes w compilation) k (node_view node)
  own_files = (node_is w compilation is k node here).own_files

  abbrev files : List FileView
  files = files_of w (views w compilation) (nodes w compilation) (node_view node)

  abbrev keys : List Text
  keys = map (λ (f : FileView). f.key) files

  -- the key of a place's file stands there in reading order
  key_there : (place : Place) (key : Text) (at : ℕ) (item : ItemShape) → Stands place key at item → slice_get keys (place.file - node.first_file) ≡ Some key
  key_there place key at item h =
      let from : node.first_file ≤ place.file = h.from in
      let to : place.file < node.end_file = h.to in
      let index : node.first_file + (place.file - node.first_file) ≡ place.file = omega (arith, from) in
      let behind : slice_get (drop node.first_file (views w compilation)) (place.file - node.first_file) ≡ Some h.file = drop_there node.first_file (views w compilation) (place.file - node.first_file) place.file index ∙ h.found in
      let there : slice_get files (place.file - node.first_file) ≡ Some h.file =
      take_there (node.end_file - node.first_file) (drop node.first_file (views w compilation)) (place.file - node.first_file) h.file (omega (arith, from, to)) behind in
      mapped (λ (f : FileView). f.key) files (place.file - node.first_file) h.file there ∙ ap (λ (t : Text). Some t) h.is

  -- so a kept recipe's file has this place in reading order
  index_is : (name key : Text) (at : ℕ) (item : ItemShape) (kept : KeepsAt w own a_recipe name key at item) (place : Place) → Stands place key at item → kept.at ≡ place.file - node.first_file
  index_is name key at item kept place h =
      let same = orders_are_unique w own kept.files keys kept.order own_files.order in
      orders_have_once w own keys own_files.order kept.at (place.file - node.first_file) key (ap (λ fs. slice_get fs kept.at) (sym same) ∙ kept.found) (key_there place key at item h)

  -- the first file is the module's own
  own_key : (place : Place) (key : Text) (at : ℕ) (item : ItemShape) → Stands place key at item → place.file ≡ node.first_file → key ≡ own
  own_key place key at item h e =
      let index : place.file - node.first_file ≡ 0 = omega (arith, e) in
      same_Some key own (sym (key_there place key at item h) ∙ ap (slice_get keys) index ∙ own_files.order.first)

  own_file : (place : Place) (at : ℕ) (item : ItemShape) → Stands place own at item → place.file ≡ node.first_file
  own_file place at item h =
      let index = orders_have_once w own keys own_files.order (place.file - node.first_file) 0 own (key_there place own at item h) own_files.order.first in
      let from : node.first_file ≤ place.file = h.from in
      omega (arith, index, from)

  -- a place that is no later than another is so in the world
  is_before : (p q : Place) (key key' : Text) (at at' : ℕ) (item item' : ItemShape) → Stands p key at item → Stands q key' at' item' → IsNoLater p q
      → (p.file - node.first_file < q.file - node.first_file) ⊎ ((p.file - node.first_file ≡ q.file - node.first_file) × (at ≤ at'))
  is_before p q key key' at at' item item' h g (inl lt) = let from : node.first_file ≤ p.file = h.from in inl (omega (arith, lt, from))
  is_before p q key key' at at' item item' h g (inr e) =
      let one : h.file ≡ g.file = same_Some h.file g.file (sym h.found ∙ ap (slice_get (views w compilation)) e.0 ∙ g.found) in
      let ranks = more_filled p.item q.item h.file.items e.1 in
      let second : length (filled (take q.item h.file.items)) ≡ at' = ap (λ (f : FileView). length (filled (take q.item f.items))) one ∙ g.rank in
      inr (ap (λ n. n - node.first_file) e.0, subst (λ n. n ≤ at') h.rank (subst (λ n. length (filled (take p.item h.file.items)) ≤ n) second ranks))

  -- ---- recipes

  abbrev places : List Place
  places = node.recipes.items

  abbrev recipes : HasList w (views w compilation) (nodes w compilation) (node_view node) a_recipe places
  recipes = recipe_list w compilation is k node here

  -- a recipe of the list, by its place
  record IsRecipeAt (place : Place) : Type 0 where
    pub name : Text
    pub key : Text
    pub at : ℕ
    pub attributes : List AttributeShape
    pub shape : RecipeShape
    pub there : Stands place key at (recipe_item attributes shape)
    pub kept : KeepsAt w own a_recipe name key at (recipe_item attributes shape)
    pub text : text_at compilation place ≡ name

  recipe_listed : (n : ℕ) (place : Place) → slice_get places n ≡ Some place → IsRecipeAt place
  recipe_listed n place e =
      let l = listed_at w compilation is k node here a_recipe places recipes place (contains_at places n place e) in
      let s = l.1 in
      let q = is_item a_recipe l.0 w.os s.item s.keeps.defines.is in
      record {
        name = l.0;
        key = s.key;
        at = s.at;
        attributes = q.0;
        shape = q.1;
        there = subst (Stands place s.key s.at) q.2 s.there;
        kept = subst (KeepsAt w own a_recipe l.0 s.key s.at) q.2 s.keeps;
        text = s.texted;
      }

  abbrev marks : Place → Bool
  marks place = has_default (recipe_at compilation place)

  abbrev owns : Place → Bool
  owns place = nat_eq place.file node.first_file

  -- the attribute, as the shape has it
  marks_is : (place : Place) (key : Text) (at : ℕ) (attributes : List AttributeShape) (r : RecipeShape) → Stands place key at (recipe_item attributes r) → marks place ≡ has Default attributes
  marks_is place key at attributes r h =
      let i = item_there w compilation (node_view node) place key at (recipe_item attributes r) h in
      ap (λ x. has_default (recipe_of x)) i.1 ∙ marked_by i.0 attributes r i.2

  -- those of the world are in the list
  record IsListed (key : Text) (at : ℕ) (attributes : List AttributeShape) (shape : RecipeShape) : Type 0 where
    pub place : Place
    pub n : ℕ
    pub listed : slice_get places n ≡ Some place
    pub there : Stands place key at (recipe_item attributes shape)

  kept_listed : (name key : Text) (at : ℕ) (attributes : List AttributeShape) (shape : RecipeShape) → KeepsAt w own a_recipe name key at (recipe_item attributes shape) → IsListed key at attributes shape
  kept_listed name key at attributes shape kept =
      let f = kept_found w compilation is k node here a_recipe places recipes name key at (recipe_item attributes shape) kept in
      let p = place_at places f.place f.contained in
      record { place = f.place; n = p.0; listed = p.1; there = f.there }

  -- the earliest with the attribute runs
  by_mark : (place : Place) → earliest_from None (filter marks places) ≡ Some place → IsDefault w o own (text_at compilation place)
  by_mark place e =
      let h = earliest_is marks places place e in
      let r = recipe_listed h.n place h.listed in
      let index = index_is r.name r.key r.at (recipe_item r.attributes r.shape) r.kept place r.there in
      let marked : has Default r.attributes ≡ true = sym (marks_is place r.key r.at r.attributes r.shape r.there) ∙ h.passes in
      subst (IsDefault w o own) (sym r.text)
      (by_attribute {file = place.file - node.first_file} {place = r.at} (record { key = r.key; attributes = r.attributes; shape = r.shape; kept = r.kept; stands = index; marked = marked })
      (λ other file' place' m.
      let l = kept_listed other m.key place' m.attributes m.shape m.kept in
      let index' = index_is other m.key place' (recipe_item m.attributes m.shape) m.kept l.place l.there in
      let file : l.place.file - node.first_file ≡ file' = sym index' ∙ m.stands in
      let before = h.least l.n l.place l.listed (marks_is l.place m.key place' m.attributes m.shape l.there ∙ m.marked) in
      subst (λ n. (place.file - node.first_file < n) ⊎ ((place.file - node.first_file ≡ n) × (r.at ≤ place'))) file
      (is_before place l.place r.key m.key r.at place' (recipe_item r.attributes r.shape) (recipe_item m.attributes m.shape) r.there l.there before)))

  none_marked : earliest_from None (filter marks places) ≡ None → (other : Text) (file place : ℕ) → IsMarked w o own other file place → ⊥
  none_marked e other file place m =
      let l = kept_listed other m.key place m.attributes m.shape m.kept in
      none_passes marks places e l.n l.place l.listed (marks_is l.place m.key place m.attributes m.shape l.there ∙ m.marked)

  -- and where none has it, the earliest of the own file
  by_file : earliest_from None (filter marks places) ≡ None → (place : Place) → earliest_from None (filter owns places) ≡ Some place → IsDefault w o own (text_at compilation place)
  by_file none place e =
      let h = earliest_is owns places place e in
      let r = recipe_listed h.n place h.listed in
      let file : place.file ≡ node.first_file = (Decides-eqb place.file node.first_file).0 h.passes in
      let key = own_key place r.key r.at (recipe_item r.attributes r.shape) r.there file in
      let kept = subst (λ t. KeepsAt w own a_recipe r.name t r.at (recipe_item r.attributes r.shape)) key r.kept in
      subst (IsDefault w o own) (sym r.text)
      (by_place {place = r.at} (none_marked none) (record { attributes = r.attributes; shape = r.shape; kept = kept })
      (λ other place' m.
      let l = kept_listed other own place' m.attributes m.shape m.kept in
      let file' = own_file l.place place' (recipe_item m.attributes m.shape) l.there in
      let before = h.least l.n l.place l.listed ((Decides-eqb l.place.file node.first_file).1 file') in
      elim (is_before place l.place r.key own r.at place' (recipe_item r.attributes r.shape) (recipe_item m.attributes m.shape) r.there l.there before) [
        | inl lt ↦ absurd (omega (arith, lt, file, file'))
        | inr p ↦ p.1
      ]))

  none_own : earliest_from None (filter owns places) ≡ None → (other : Text) (place : ℕ) → IsOwn w o own other place → ⊥
  none_own e other place m =
      let l = kept_listed other own place m.attributes m.shape m.kept in
      let file = own_file l.place place (recipe_item m.attributes m.shape) l.there in
      none_passes owns places e l.n l.place l.listed ((Decides-eqb l.place.file node.first_file).1 file)

  -- what is found is the recipe that runs, and where none is found none runs
  abbrev IsDefaultHere : Option Place → Type 0
  IsDefaultHere (Some place) = IsDefault w o own (text_at compilation place)
  IsDefaultHere None = (name : Text) → IsDefault w o own name → ⊥

  no_default : earliest_from None (filter marks places) ≡ None → earliest_from None (filter owns places) ≡ None → (name : Text) → IsDefault w o own name → ⊥
  no_default e f name (by_attribute {file = file} {place = place} m least) = none_marked e name file place m
  no_default e f name (by_place {place = place} none h first) = none_own f name place h

  default_by : (marked other : Option Place) → earliest_from None (filter marks places) ≡ marked → earliest_from None (filter owns places) ≡ other → IsDefaultHere (option_or marked other)
  default_by (Some place) (Some place') e f = by_mark place e
  default_by (Some place) None e f = by_mark place e
  default_by None (Some place) e f = by_file e place f
  default_by None None e f = no_default e f

  pub default_is : IsDefaultHere (default_of compilation node)
  default_is = default_by (earliest_from None (filter marks places)) (earliest_from None (filter owns places)) refl refl

-- ---- by a path

abbrev named : List Text → Text → RecipeName
named path recipe = record { path = path; recipe = recipe }

module _ (w : World) (compilation : Compilation) (of : IsWorldOf w compilation) (o : Overrides) (path : List Text) (r : RecipeName) where
  abbrev name_at : Option Place → Option RecipeName
  name_at found = option_map (λ place. named path (text_at compilation place)) found

  -- the recipe that is found is that of the world
  to_world : (k : ℕ) (node : ModuleNode) (here : HasNode w compilation k node) → IsModule w path node.source.now → (found : Option Place) → IsDefaultHere w compilation of.of k node here o found → name_at found ≡ Some r → IsDefaultOf w o path r
  to_world k node here m (Some place) h e =
      let same : named path (text_at compilation place) ≡ r = same_Some (named path (text_at compilation place)) r e in
      record { own = node.source.now; is = m; inside = ap (λ (x : RecipeName). x.path) (sym same); default = subst (λ (x : RecipeName). IsDefault w o node.source.now x.recipe) same h }
  to_world k node here m None h e = absurd (none-some r e)

  -- and that of the world is found
  from_world : (k : ℕ) (node : ModuleNode) (here : HasNode w compilation k node) → (found : Option Place) → IsDefaultHere w compilation of.of k node here o found → r.path ≡ path → IsDefault w o node.source.now r.recipe → name_at found ≡ Some r
  from_world k node here (Some place) h inside d =
      ap (λ p. Some (named p (text_at compilation place))) (sym inside) ∙ ap (λ t. Some (named r.path t)) (one_default w o node.source.now (text_at compilation place) r.recipe h d)
  from_world k node here None h inside d = absurd (h r.recipe d)

  by_node : (node : Option ModuleNode) → node_of compilation path ≡ node → name_at (option_and_then (default_of compilation) node) ≡ Some r → IsDefaultOf w o path r
  by_node (Some node) at e =
      let m = module_of w compilation of.of of.single path node at in
      to_world m.0 node m.1 m.2 (default_of compilation node) (default_is w compilation of.of m.0 node m.1 o) e
  by_node None at e = absurd (none-some r e)

  default_found : IsDefaultOf w o path r → default_at compilation path ≡ Some r
  default_found h =
      let p = (modules_stand w compilation of.of of.single path h.own).0 h.is in
      ap (λ (x : Option ModuleNode). name_at (option_and_then (default_of compilation) x)) (node_there w compilation path h.own p)
      ∙ from_world p.k p.node p.here (default_of compilation p.node) (default_is w compilation of.of p.k p.node p.here o) h.inside (subst (λ own. IsDefault w o own r.recipe) (sym p.is) h.default)

-- the recipe that runs where none is named is that of the world
pub defaults_stand : DefaultsStand
defaults_stand w compilation of o path r = (λ e. by_node w compilation of o path r (node_of compilation path) refl e, λ h. default_found w compilation of o path r h)
