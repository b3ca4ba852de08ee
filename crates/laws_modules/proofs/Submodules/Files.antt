-- The submodules that are found in a file of a world.
use Rattle.std.proofs.Common.{◌≡◌, ◌⊎◌, inl, inr, sym, ◌∙◌, ap, subst, ℕ, zero, suc, Bool, true, false, not, ◌||◌, List, [], ◌∷◌, Option, Some, None, Ok, map, refl, length, take}
use Rattle.std.specs.Prelude.{◌↔◌, Contains, IfSome, if◌then◌else◌, is_some, option_map, slice_get}
use Rattle.std.specs.BTreeMap.{BTreeMap}
use Rattle.std.specs.List.{All, list_any}
use Rattle.std.specs.declared.string.String.{String}
use Rattle.std.proofs.lemmas.Bool.{false≢true}
use Rattle.std.proofs.lemmas.Option.{get_or_from_slice_get, none-some, same_Some, slice_get-map, slice_get_within}
use Rattle.just_text.specs.declared.os.Os.{Os}
use Rattle.tree_attributes.specs.Attributes.{AttributeShape}
use Rattle.tree_attributes.specs.declared.attribute.AttributeKind.{AttributeKind}
use Rattle.tree_attributes.specs.declared.attribute.AttributeKind.TheVariants.{Unix}
use Rattle.tree_attributes.specs.Sets.Order.{item_shape as attribute_shape}
use Rattle.tree_attributes.specs.Sets.Sets.{has_kind, is_enabled as held_enabled, is_of, items_of, kind_for, names_system, shapes_in}
use Rattle.tree_attributes.specs.declared.attribute_set.AttributeSet.{AttributeSet}
use Rattle.tree_expressions.specs.Shape.{written}
use Rattle.tree_expressions.specs.Cooking.{cooked}
use Rattle.tree_expressions.specs.declared.string_literal.StringLiteral.{StringLiteral}
use Rattle.tree_items.specs.Files.{item_shape, item_shapes, module_item}
use Rattle.tree_items.specs.Items.{ModuleShape, module_shape}
use Rattle.tree_items.specs.declared.ast.Item.{Item}
use Rattle.tree_items.specs.declared.ast.Item.TheVariants.{Alias, Assignment, Comment, Function, Import, Module as Submodule, Newline, Recipe, Set, Unexport}
use Rattle.tree_items.specs.declared.item.Module.{Module}
use Rattle.parse_expressions.specs.Literals.{Expansion, from_file}
use Rattle.parse_expressions.specs.Strings.{IsCookedString}
use Rattle.parse_attributed_items.specs.Held.{IsItemCooked}
use Rattle.modules_files.specs.Chosen.{AreMeant, File}
use Rattle.modules_files.specs.Found.{file_at, source_of}
use Rattle.modules_files.specs.declared.search.Files.{Files}
use Rattle.modules_sources.specs.Items.{ModuleParts, module_of, module_parts}
use Rattle.modules_sources.specs.Submodules.{AreFound, Found}
use Rattle.modules_sources.proofs.Reaching.{mapped_at}
use Rattle.meaning_rules.specs.Worlds.Given.{Text, World, filled}
use Rattle.meaning_rules.specs.Worlds.Sources.{HasModule, IsThere, MayMean, enabled}
use Rattle.meaning_rules.proofs.Worlds.Places.{contains_first, contains_none, place_of}
use Rattle.meaning_rules.specs.Worlds.Views.{name_text}
use Rattle.laws_modules.specs.Submodules.Submodules.{FoundAreSubmodules, IsFileOfWorld, IsFoundFor, IsFoundIn}
use Rattle.laws_modules.proofs.Submodules.Finding.{Answers, IsAnswered, IsListed, answered, comes_of, found_once, no_key, only_key}
use Rattle.laws_modules.proofs.Submodules.Meant.{IsPath, keys_mean, same_source}
use Rattle.laws_modules.proofs.Submodules.Ranks.{place_of_rank, rank_of}

-- ---- attributes as they are held, and as they are said

any_mapped : {A B : Type 0} (p : B → Bool) (f : A → B) (xs : List A) → list_any p (map f xs) ≡ list_any (λ x. p (f x)) xs
any_mapped p f [] = refl
any_mapped p f (x ∷ xs) = ap (λ b. p (f x) || b) (any_mapped p f xs)

same_kind : (kind : AttributeKind) (set : AttributeSet) → list_any (is_of kind) (items_of set) ≡ list_any (has_kind kind) (shapes_in set)
same_kind kind set = sym (any_mapped (has_kind kind) attribute_shape (items_of set))

same_enabled : (os : Os) (set : AttributeSet) → held_enabled os (items_of set) ≡ enabled os (shapes_in set)
same_enabled os set =
    ap (λ b. not b || list_any (is_of Unix) (items_of set) || list_any (is_of (kind_for os)) (items_of set)) (sym (any_mapped names_system attribute_shape (items_of set)))
    ∙ ap (λ b. not (list_any names_system (shapes_in set)) || b || list_any (is_of (kind_for os)) (items_of set)) (same_kind Unix set)
    ∙ ap (λ b. not (list_any names_system (shapes_in set)) || list_any (has_kind Unix) (shapes_in set) || b) (same_kind (kind_for os) set)

-- ---- items that are modules

abbrev IsModuleItem : Os → Item → ModuleParts → Type 0
IsModuleItem os item line = (m : Module) × (item ≡ Submodule m) × (held_enabled os (items_of m.attributes) ≡ true) × (module_parts m ≡ line)

module_item_of : (os : Os) (item : Item) (line : ModuleParts) → module_of os item ≡ Some line → IsModuleItem os item line
module_item_of os (Alias a) line e = absurd (none-some line e)
module_item_of os (Assignment a) line e = absurd (none-some line e)
module_item_of os (Comment c) line e = absurd (none-some line e)
module_item_of os (Function f) line e = absurd (none-some line e)
module_item_of os (Import i) line e = absurd (none-some line e)
module_item_of os (Submodule m) line e = by_test (held_enabled os (items_of m.attributes)) refl e
  where
    by_test : (b : Bool) → held_enabled os (items_of m.attributes) ≡ b → (if b then Some (module_parts m) else None) ≡ Some line → IsModuleItem os (Submodule m) line
    by_test true on e = (m, refl, on, same_Some (module_parts m) line e)
    by_test false off e = absurd (none-some line e)
module_item_of os Newline line e = absurd (none-some line e)
module_item_of os (Recipe r) line e = absurd (none-some line e)
module_item_of os (Set s) line e = absurd (none-some line e)
module_item_of os (Unexport u) line e = absurd (none-some line e)

abbrev IsShapeOf : Item → List AttributeShape → ModuleShape → Type 0
IsShapeOf item attributes line = (m : Module) × (item ≡ Submodule m) × (shapes_in m.attributes ≡ attributes) × (module_shape m ≡ line)

shape_of_module : (item : Item) (attributes : List AttributeShape) (line : ModuleShape) → item_shape item ≡ module_item attributes line → IsShapeOf item attributes line
shape_of_module (Alias a) attributes line e = absurd (cc e)
shape_of_module (Assignment a) attributes line e = absurd (cc e)
shape_of_module (Comment c) attributes line e = absurd (cc e)
shape_of_module (Function f) attributes line e = absurd (cc e)
shape_of_module (Import i) attributes line e = absurd (cc e)
shape_of_module (Submodule m) attributes line e = (m, refl, cc e, cc e)
shape_of_module Newline attributes line e = absurd (cc e)
shape_of_module (Recipe r) attributes line e = absurd (cc e)
shape_of_module (Set s) attributes line e = absurd (cc e)
shape_of_module (Unexport u) attributes line e = absurd (cc e)

all_at : {X : Type 0} (P : X → Type 0) (xs : List X) (i : ℕ) (x : X) → All P xs → slice_get xs i ≡ Some x → P x
all_at P xs i x all e = subst P (get_or_from_slice_get xs i x x e) (all i x (slice_get_within xs i x e))

cooked_path : (expansion : Expansion) (w : World) (path : Option StringLiteral) → w.expansion ≡ expansion → IfSome path (IsCookedString expansion) → IsPath w (option_map written path) (option_map (λ p. p.cooked) path)
cooked_path expansion w None same h = tt
cooked_path expansion w (Some s) same h = ap (λ e. cooked e (written s)) same ∙ h.text

module _ {Y Z : Type 0} (sources : BTreeMap (String Y) (String Z)) (expansion : Expansion) (w : World) (os : Os) (lookup : Files) (key : Text) (items : List Item) (of : IsFileOfWorld sources expansion w os lookup key items) where
  -- a module of the file: what it is in the world, and what was looked up for it
  pub record IsModuleOf (place : ℕ) (parts : ModuleParts) : Type 0 where
    pub line : ModuleShape
    pub attributes : List AttributeShape
    pub there : slice_get (item_shapes items) place ≡ Some (module_item attributes line)
    pub enabled_here : enabled w.os attributes ≡ true
    pub has : HasModule w key (length (filled (take place (item_shapes items)))) line
    pub named : line.name ≡ name_text parts.0
    pub path : IsPath w line.path parts.1
    pub optional : line.optional ≡ parts.2

  -- a `mod` item that is enabled is one
  pub module_is : (place : ℕ) (item : Item) (parts : ModuleParts) → slice_get items place ≡ Some item → module_of os item ≡ Some parts → IsModuleOf place parts
  module_is place item parts e is = of_item (module_item_of os item parts is)
    where
      of_item : IsModuleItem os item parts → IsModuleOf place parts
      of_item r =
          let m = r.0 in
          let there : slice_get (item_shapes items) place ≡ Some (module_item (shapes_in m.attributes) (module_shape m)) = slice_get-map item_shape items place ∙ ap (option_map item_shape) (e ∙ ap (λ i. Some i) r.1) in
          let on : enabled w.os (shapes_in m.attributes) ≡ true = ap (λ o. enabled o (shapes_in m.attributes)) of.same_os ∙ sym (same_enabled os m.attributes) ∙ r.2 in
          let held : IsItemCooked (from_file key expansion) (Submodule m) = subst (IsItemCooked (from_file key expansion)) r.1 (all_at (IsItemCooked (from_file key expansion)) items place item of.cooked e) in
          record {
            line = module_shape m;
            attributes = shapes_in m.attributes;
            there = there;
            enabled_here = on;
            has = record {
              attributes = shapes_in m.attributes;
              has = record { items = filled (item_shapes items); says = of.says; at = rank_of (item_shapes items) place (module_item (shapes_in m.attributes) (module_shape m)) there refl };
              enabled = on;
            };
            named = ap (λ (p : ModuleParts). name_text p.0) r.3;
            path = subst (λ (p : ModuleParts). IsPath w (module_shape m).path p.1) r.3 (cooked_path expansion w m.path of.has.same_expansion held.inside);
            optional = ap (λ (p : ModuleParts). p.2) r.3;
          }

  -- a module of the world's file stands at a place of the items
  pub record StandsAt (rank : ℕ) (line : ModuleShape) : Type 0 where
    pub place : ℕ
    pub item : Item
    pub at : slice_get items place ≡ Some item
    pub parts : ModuleParts
    pub is : module_of os item ≡ Some parts
    pub rank_is : length (filled (take place (item_shapes items))) ≡ rank
    pub named : line.name ≡ name_text parts.0
    pub path : IsPath w line.path parts.1
    pub optional : line.optional ≡ parts.2

  pub stands : (rank : ℕ) (line : ModuleShape) → HasModule w key rank line → StandsAt rank line
  stands rank line h =
      let all : h.has.items ≡ filled (item_shapes items) = same_Some h.has.items (filled (item_shapes items)) (sym h.has.says ∙ of.says) in
      let p = place_of_rank (item_shapes items) rank (module_item h.attributes line) (ap (λ xs. slice_get xs rank) (sym all) ∙ h.has.at) in
      let q = mapped_at item_shape items p.0 (module_item h.attributes line) p.1 in
      of_shape p.0 q.0 q.1 p.2 (shape_of_module q.0 h.attributes line q.2)
    where
      of_shape : (place : ℕ) (item : Item) → slice_get items place ≡ Some item → length (filled (take place (item_shapes items))) ≡ rank → IsShapeOf item h.attributes line → StandsAt rank line
      of_shape place item at rank_is r =
          let m = r.0 in
          let on : held_enabled os (items_of m.attributes) ≡ true = same_enabled os m.attributes ∙ ap (enabled os) r.2 ∙ ap (λ o. enabled o h.attributes) (sym of.same_os) ∙ h.enabled in
          let is : module_of os item ≡ Some (module_parts m) = ap (module_of os) r.1 ∙ ap (λ b. if b then Some (module_parts m) else None) on in
          let held : IsItemCooked (from_file key expansion) (Submodule m) = subst (IsItemCooked (from_file key expansion)) r.1 (all_at (IsItemCooked (from_file key expansion)) items place item of.cooked at) in
          record {
            place = place;
            item = item;
            at = at;
            parts = module_parts m;
            is = is;
            rank_is = rank_is;
            named = ap (λ (l : ModuleShape). l.name) (sym r.3);
            path = subst (λ (l : ModuleShape). IsPath w l.path (module_parts m).1) r.3 (cooked_path expansion w m.path of.has.same_expansion held.inside);
            optional = ap (λ (l : ModuleShape). l.optional) (sym r.3);
          }

  abbrev pub AreKeys : ModuleParts → List Text → Type 0
  AreKeys parts keys = AreMeant lookup.sources.now lookup.folders.now.justfiles key (name_text parts.0) parts.1 keys

  -- the keys that are looked up are those that the module may mean
  pub keys_are : (parts : ModuleParts) (line : ModuleShape) (keys : List Text) → line.name ≡ name_text parts.0 → IsPath w line.path parts.1 → AreKeys parts keys → (k : Text) → Contains keys k ↔ MayMean w key line k
  keys_are parts line keys named path are k = keys_mean sources expansion w of.has lookup of.looks_up key (name_text parts.0) parts.1 line keys named path are k

  only_one : (keys : List Text) (k other : Text) → keys ≡ k ∷ [] → Contains keys other → other ≡ k
  only_one keys k other are c = first (place_of (k ∷ []) other (subst (λ ks. Contains ks other) are c))
    where
      first : (i : ℕ) × (slice_get (k ∷ []) i ≡ Some other) → other ≡ k
      first (zero, e) = sym (same_Some k other e)
      first (suc i, e) = absurd (none-some other e)

  -- the keys of an answer are one at most, and one where the file must be there
  pub record IsClear (parts : ModuleParts) (file : Option File) (keys : List Text) : Type 0 where
    pub one : (f : File) → file ≡ Some f → keys ≡ f.0 ∷ []
    pub none : file ≡ None → (keys ≡ []) × (parts.2 ≡ true)

  pub clear_of : (parts : ModuleParts) (file : Option File) (a : Answers lookup os key parts (Ok file)) → (line : ModuleShape) → line.name ≡ name_text parts.0 → IsPath w line.path parts.1 → IsClear parts file a.keys
  clear_of parts file a line named path = record {
    one = λ f e. only_key lookup.sources.now parts.0 parts.2 a.keys f (ap (λ o. Ok o) (sym e) ∙ a.is);
    none = λ e. by_keys (no_key lookup.sources.now parts.0 parts.2 a.keys (ap (λ o. Ok o) (sym e) ∙ a.is));
  }
    where
      missing : (k : Text) (o : Option Text) → ◌≡◌ {A = Option File} None (option_map (λ text. (k, text)) o) → is_some o ≡ false
      missing k None e = refl
      missing k (Some text) e = let file : File = (k, text) in absurd (none-some file e)

      by_keys : ((a.keys ≡ []) × (parts.2 ≡ true)) ⊎ ((k : Text) × (a.keys ≡ k ∷ []) × (None ≡ file_at lookup.sources.now (Some k))) → (a.keys ≡ []) × (parts.2 ≡ true)
      by_keys (inl p) = p
      by_keys (inr q) =
          let there : IsThere w q.0 = ((keys_are parts line a.keys named path a.are q.0).0 (subst (λ ks. Contains ks q.0) (sym q.1) (contains_first q.0 []))).there in
          absurd (false≢true (sym (missing q.0 (source_of lookup.sources.now q.0) q.2) ∙ same_source sources expansion w of.has lookup of.looks_up q.0 ∙ there))

  module _ (found : List Found) (are : AreFound lookup os key items found) where
    sound : (i : ℕ) (f : Found) → slice_get found i ≡ Some f → IsFoundIn w key (item_shapes items) f
    sound i f e =
        let c = comes_of lookup os key items found are i f e in
        let m = module_is f.item c.item c.line c.there c.is in
        let keys = (clear_of c.line (Some f.file) c.answer m.line m.named m.path).one f.file refl in
        let mean = keys_are c.line m.line c.answer.keys m.named m.path c.answer.are in
        record {
          is = record {
            place = length (filled (take f.item (item_shapes items)));
            line = m.line;
            has = m.has;
            is_named = m.named ∙ ap name_text (sym c.named);
            means = (mean f.file.0).0 (subst (λ ks. Contains ks f.file.0) (sym keys) (contains_first f.file.0 []));
            alone = λ other h. only_one c.answer.keys f.file.0 other keys ((mean other).1 h);
          };
          attributes = m.attributes;
          there = m.there;
          enabled_here = m.enabled_here;
          rank = refl;
        }

    -- what a module of the world's file was answered
    answer_of : (rank : ℕ) (line : ModuleShape) (s : StandsAt rank line) → IsAnswered lookup os key found s.place s.parts
    answer_of rank line s = answered lookup os key items found are s.place s.item s.parts s.at s.is

    complete : (rank : ℕ) (line : ModuleShape) (k : Text) → HasModule w key rank line → MayMean w key line k → IsFoundFor w key (item_shapes items) found rank line k
    complete rank line k h mean =
        let s = stands rank line h in
        let a = answer_of rank line s in
        let c = (keys_are s.parts line a.answer.keys s.named s.path a.answer.are k).1 mean in
        let clear = clear_of s.parts a.file a.answer line s.named s.path in
        by_file s a.answer.keys a.file c clear.one clear.none a.listed
      where
        by_file : (s : StandsAt rank line) (keys : List Text) (file : Option File) → Contains keys k → ((f : File) → file ≡ Some f → keys ≡ f.0 ∷ []) → (file ≡ None → (keys ≡ []) × (s.parts.2 ≡ true))
            → IsListed lookup os key found s.place s.parts file → IsFoundFor w key (item_shapes items) found rank line k
        by_file s keys None c one none listed = absurd (contains_none keys k (none refl).0 c)
        by_file s keys (Some file) c one none listed = record {
          i = listed.0;
          f = listed.1;
          at = listed.2;
          rank = ap (λ n. length (filled (take n (item_shapes items)))) listed.3 ∙ s.rank_is;
          named = s.named ∙ ap name_text (sym listed.5);
          file = ap (λ (f : File). f.0) listed.4 ∙ sym (only_one keys file.0 k (one file refl) c);
        }

    clear : (rank : ℕ) (line : ModuleShape) → HasModule w key rank line → line.optional ≡ false → (k : Text) × MayMean w key line k
    clear rank line h must =
        let s = stands rank line h in
        let a = answer_of rank line s in
        let clear = clear_of s.parts a.file a.answer line s.named s.path in
        by_file s a.answer.keys a.file clear.one clear.none (λ k. (keys_are s.parts line a.answer.keys s.named s.path a.answer.are k).0)
      where
        by_file : (s : StandsAt rank line) (keys : List Text) (file : Option File) → ((f : File) → file ≡ Some f → keys ≡ f.0 ∷ []) → (file ≡ None → (keys ≡ []) × (s.parts.2 ≡ true)) → ((k : Text) → Contains keys k → MayMean w key line k)
            → (k : Text) × MayMean w key line k
        by_file s keys None one none means = absurd (false≢true (sym must ∙ s.optional ∙ (none refl).1))
        by_file s keys (Some file) one none means = (file.0, means file.0 (subst (λ ks. Contains ks file.0) (sym (one file refl)) (contains_first file.0 [])))

    alone : (rank : ℕ) (line : ModuleShape) → HasModule w key rank line → (k other : Text) → MayMean w key line k → MayMean w key line other → k ≡ other
    alone rank line h k other one two =
        let s = stands rank line h in
        let a = answer_of rank line s in
        let clear = clear_of s.parts a.file a.answer line s.named s.path in
        let mean = keys_are s.parts line a.answer.keys s.named s.path a.answer.are in
        by_file s a.answer.keys a.file clear.one clear.none ((mean k).1 one) ((mean other).1 two)
      where
        by_file : (s : StandsAt rank line) (keys : List Text) (file : Option File) → ((f : File) → file ≡ Some f → keys ≡ f.0 ∷ []) → (file ≡ None → (keys ≡ []) × (s.parts.2 ≡ true)) → Contains keys k → Contains keys other → k ≡ other
        by_file s keys None is none c d = absurd (contains_none keys k (none refl).0 c)
        by_file s keys (Some file) is none c d = only_one keys file.0 k (is file refl) c ∙ sym (only_one keys file.0 other (is file refl) d)

pub found_are_submodules : {Y Z : Type 0} (sources : BTreeMap (String Y) (String Z)) → FoundAreSubmodules sources
found_are_submodules sources expansion w os lookup key items found of are = record {
  sound = sound sources expansion w os lookup key items of found are;
  complete = complete sources expansion w os lookup key items of found are;
  clear = clear sources expansion w os lookup key items of found are;
  alone = alone sources expansion w os lookup key items of found are;
  once = found_once lookup os key items found are;
}
