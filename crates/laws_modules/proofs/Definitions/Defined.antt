-- What is found in a module is what it defines in the world.
use Rattle.std.proofs.Common.{◌≡◌, inl, inr, sym, ◌∙◌, ap, subst, false, if◌then◌else◌, List, ℕ, ◌<◌, ◌≤◌, Option, Some, None, refl, take, length, map}
use Rattle.std.specs.Prelude.{Contains, option_map, slice_get}
use Rattle.std.specs.Option.{option_and_then}
use Rattle.std.proofs.lemmas.Option.{none-some, same_Some}
use Rattle.just_text.specs.Tokens.{lexeme}
use Rattle.just_text.specs.declared.name.Name.{Name}
use Rattle.tree_attributes.specs.Attributes.{AttributeShape}
use Rattle.tree_attributes.specs.Sets.Sets.{shapes_in}
use Rattle.tree_items.specs.Files.{ItemShape, item_shape, item_shapes, is_blank, module_item, recipe_item}
use Rattle.tree_items.specs.Items.{ModuleShape, module_shape}
use Rattle.tree_items.specs.Recipes.{RecipeShape}
use Rattle.tree_items.specs.declared.ast.Item.{Item}
use Rattle.tree_items.specs.declared.ast.Item.TheVariants.{Alias, Assignment, Comment, Function, Import, Module, Newline, Recipe, Set, Unexport}
use Rattle.modules_compilation.specs.Places.{items_in, items_of}
use Rattle.modules_compilation.specs.declared.module_node.File.{File}
use Rattle.modules_compilation.specs.declared.module_node.ModuleNode.{ModuleNode}
use Rattle.modules_compilation.specs.declared.place.Place.{Place}
use Rattle.modules_definitions.specs.Defining.{AreDefinitions, Stands, module_name, named_at, submodule_at}
use Rattle.modules_definitions.specs.declared.definition.Definition.{Definition}
use Rattle.modules_definitions.specs.declared.definition.Kind.{Kind as FoundKind}
use Rattle.modules_definitions.specs.declared.definition.Kind.TheVariants.{Disabled as DisabledKind, Module as ModuleKind}
use Rattle.meaning_rules.specs.Worlds.Given.{Text, World, filled}
use Rattle.meaning_rules.specs.Worlds.Sources.{MayMean, enabled}
use Rattle.meaning_rules.specs.Worlds.Keeping.{Defines, IsDisabled, IsTaken, Kind, a_submodule, defined_by}
use Rattle.meaning_rules.specs.Worlds.Compiled.{HasDisabled, NodeView}
use Rattle.meaning_rules.specs.Worlds.Views.{file_view, node_view}
use Rattle.laws_modules.specs.Definitions.Kinds.{kind_of}
use Rattle.laws_modules.specs.Definitions.Nodes.{Agrees, DefinesHere, HasModuleAt, IsHere, range_of}
use Rattle.laws_modules.specs.Definitions.Laws.{AreMeant, DefinitionsAreMeant, IsAmong}
use Rattle.laws_modules.proofs.Definitions.Lists.{map_back, map_place}
use Rattle.laws_modules.proofs.Definitions.Items.{IsModuleItem, disabled_found, is_disabled, is_found, is_meant}
use Rattle.laws_modules.proofs.Definitions.Standing.{Placed, from_placed, has_placed, placed_of}

-- an item of a file's is one of a file that is there
file_there : (found : Option File) (i : ℕ) (item : Item) → slice_get (items_of found) i ≡ Some item → (file : File) × (found ≡ Some file) × (slice_get file.ast.items.items i ≡ Some item)
file_there None i item e = absurd (none-some item e)
file_there (Some file) i item e = (file, refl, e)

-- ---- submodules

abbrev named_at_place : Place → Name → Name × Place
named_at_place place name = (name, place)

pub named_if : (found : Option Name) (one : Place) (name : Name) (place : Place) → option_map (named_at_place one) found ≡ Some (named_at_place place name) → (found ≡ Some name) × (one ≡ place)
named_if None one name place e = absurd (none-some (name, place) e)
named_if (Some n) one name place e =
    let same = same_Some (n, one) (name, place) e in
    (ap (λ p. Some p.0) same, ap (λ p. p.1) same)

pub submodule_named : (files : List File) (modules : List ModuleNode) (inner : ℕ) (submodule : ModuleNode) (place : Place) → slice_get modules inner ≡ Some submodule → submodule.item ≡ Some place
    → submodule_at files modules inner ≡ option_map (λ n. (n, place)) (named_at files place)
submodule_named files modules inner submodule place found is =
    ap (option_and_then (λ (node : ModuleNode). option_and_then (λ place. option_map (λ name. (name, place)) (named_at files place)) node.item)) found
    ∙ ap (option_and_then (λ place. option_map (λ name. (name, place)) (named_at files place))) is

-- the name of a shape's submodule, if it is one
abbrev module_in : ItemShape → Option Text
module_in (module_item attributes m) = Some m.name
module_in other = None

shape_named : (item : Item) (name : Name) → module_name (Some item) ≡ Some name → module_in (item_shape item) ≡ Some (lexeme name.token)
shape_named (Alias a) name e = absurd (none-some name e)
shape_named (Assignment a) name e = absurd (none-some name e)
shape_named (Comment c) name e = absurd (none-some name e)
shape_named (Function g) name e = absurd (none-some name e)
shape_named (Import i) name e = absurd (none-some name e)
shape_named (Module m) name e = ap (λ (n : Name). Some (lexeme n.token)) (same_Some m.name name e)
shape_named Newline name e = absurd (none-some name e)
shape_named (Recipe r) name e = absurd (none-some name e)
shape_named (Set s) name e = absurd (none-some name e)
shape_named (Unexport u) name e = absurd (none-some name e)

-- the place of a `mod` item, and its name
pub line_named : (files : List File) (place : Place) (file : File) (attributes : List AttributeShape) (m : ModuleShape) (name : Name) → slice_get files place.file ≡ Some file
    → slice_get (item_shapes file.ast.items.items) place.item ≡ Some (module_item attributes m) → named_at files place ≡ Some name → m.name ≡ lexeme name.token
line_named files place file attributes m name found there e =
    let p = map_back item_shape file.ast.items.items place.item (module_item attributes m) there in
    let here : slice_get (items_in files place.file) place.item ≡ Some p.0 = ap (λ o. slice_get (items_of o) place.item) found ∙ p.1 in
    let named = shape_named p.0 name (ap module_name (sym here) ∙ e) in
    same_Some m.name (lexeme name.token) (ap module_in (sym p.2) ∙ named)

module _ (w : World) (files : List File) (node : ModuleNode) (modules : List ModuleNode) (k : ℕ) (agrees : Agrees w files node modules k) where
  abbrev StandsHere : FoundKind → Name → Place → Type 0
  StandsHere = Stands w.os files (range_of node) modules node.submodules.items

  here : (nodes : List NodeView) (place : Place) (key : Text) (at : ℕ) (item : ItemShape) (kind : Kind) (text : Text) → Placed files node place key at item → defined_by w.os item ≡ Some (kind, text) → IsTaken w key item
      → DefinesHere w files node nodes kind text place
  here nodes place key at item kind text p is taken =
      let h = has_placed w files node k agrees.own_files place key at item p in
      record { key = key; at = at; item = item; there = from_placed w files nodes node place key at item p; defines = record { of = h.0; has = h.1; is = is; taken = taken } }

  -- the shape of an item at a place
  placed_item : (place : Place) (file : File) (item : Item) → node.first_file ≤ place.file → place.file < node.end_file → slice_get files place.file ≡ Some file
      → slice_get file.ast.items.items place.item ≡ Some item → is_blank (item_shape item) ≡ false → Placed files node place file.key.now (length (filled (take place.item (item_shapes file.ast.items.items)))) (item_shape item)
  placed_item place file item from to found there no_blank = record { from = from; to = to; file = file; found = found; is = refl; there = map_place item_shape file.ast.items.items place.item item there; no_blank = no_blank; rank = refl }

  -- what stands there defines
  pub stands_meant : (nodes : List NodeView) (found : FoundKind) (name : Name) (place : Place) (kind : Kind) → StandsHere found name place → kind_of found ≡ Some kind → DefinesHere w files node nodes kind (lexeme name.token) place
  stands_meant nodes found name place kind (inl f) is =
      let p = file_there (slice_get files place.file) place.item f.item f.there in
      let m = is_meant w.os f.item found name kind f.defines is in
      here nodes place p.0.key.now (length (filled (take place.item (item_shapes p.0.ast.items.items)))) (item_shape f.item) kind (lexeme name.token)
      (placed_item place p.0 f.item f.from f.to p.1 p.2 m.no_blank) m.is (m.taken w p.0.key.now)
  stands_meant nodes found name place kind (inr s) is =
      let inner = agrees.inner.sound s.inner s.there in
      let submodule = inner.0 in
      let one = inner.1 in
      let at = inner.2 in
      let has = inner.3.has in
      let m = inner.3.line in
      let file = inner.3.file in
      let named = named_if (named_at files one) one name place (sym (submodule_named files modules s.inner submodule one at.found at.is) ∙ s.is.is) in
      let text = line_named files one file has.attributes m name has.found has.there named.0 in
      let kinds : a_submodule ≡ kind = same_Some a_submodule kind (sym (ap kind_of s.is.kind_is) ∙ is) in
      let p : Placed files node one file.key.now (length (filled (take one.item (item_shapes file.ast.items.items)))) (module_item has.attributes m)
      = record { from = has.from; to = has.to; file = file; found = has.found; is = refl; there = has.there; no_blank = refl; rank = refl } in
      subst (DefinesHere w files node nodes kind (lexeme name.token)) named.1
      (subst (λ t. DefinesHere w files node nodes kind t one) text
      (subst (λ q. DefinesHere w files node nodes q m.name one) kinds
      (here nodes one file.key.now (length (filled (take one.item (item_shapes file.ast.items.items)))) (module_item has.attributes m) a_submodule m.name p
      (ap (λ b. if b then Some (a_submodule, m.name) else None) has.enabled_here) (submodule.source.now, inner.3.means))))

  -- and what defines stands there
  pub record IsStanding (kind : Kind) (text : Text) (place : Place) : Type 0 where
    pub found : FoundKind
    pub name : Name
    pub stands : StandsHere found name place
    pub kind_is : kind_of found ≡ Some kind
    pub text_is : lexeme name.token ≡ text

  item_back : (place : Place) (key : Text) (at : ℕ) (item : ItemShape) (p : Placed files node place key at item)
      → (real : Item) × (slice_get p.file.ast.items.items place.item ≡ Some real) × (item_shape real ≡ item) × (slice_get (items_in files place.file) place.item ≡ Some real)
  item_back place key at item p =
      let q = map_back item_shape p.file.ast.items.items place.item item p.there in
      (q.0, q.1, q.2, ap (λ o. slice_get (items_of o) place.item) p.found ∙ q.1)

  pub inner_stands : (inner : ℕ) (name : Name) (place : Place) → Contains node.submodules.items inner → submodule_at files modules inner ≡ Some (name, place) → StandsHere (ModuleKind inner) name place
  inner_stands inner name place listed is = inr (record { inner = inner; there = listed; is = record { kind_is = refl; is = is } })

  -- a `mod` item is that of a submodule
  module_stands : (place : Place) (key : Text) (at : ℕ) (item : ItemShape) (kind : Kind) (text : Text) (real : Item) → Placed files node place key at item → item_shape real ≡ item → slice_get (items_in files place.file) place.item ≡ Some real
      → IsModuleItem w.os real kind text → IsTaken w key item → IsStanding kind text place
  module_stands place key at item kind text real p is there m taken =
      let line = module_shape m.line in
      let shape : item_shape (Module m.line) ≡ item = ap item_shape (sym m.is) ∙ is in
      let means = subst (IsTaken w key) (sym shape) taken in
      let has : HasModuleAt w files node place p.file line = record { from = p.from; to = p.to; found = p.found; attributes = shapes_in m.line.attributes; there = p.there ∙ ap (λ x. Some x) (sym shape); enabled_here = m.enabled_here } in
      let c = agrees.inner.complete place p.file line means.0 has (subst (λ t. MayMean w t line means.0) (sym p.is) means.1) in
      let named : named_at files place ≡ Some m.line.name = ap module_name there ∙ ap (λ x. module_name (Some x)) m.is in
      record {
        found = ModuleKind c.0;
        name = m.line.name;
        stands = inner_stands c.0 m.line.name place c.2.listed (submodule_named files modules c.0 c.1 place c.2.found c.2.is ∙ ap (option_map (named_at_place place)) named);
        kind_is = ap (λ x. Some x) (sym m.kind_is);
        text_is = m.text_is;
      }

  pub meant_stands : (place : Place) (key : Text) (at : ℕ) (item : ItemShape) (kind : Kind) (text : Text) → Placed files node place key at item → defined_by w.os item ≡ Some (kind, text) → IsTaken w key item → IsStanding kind text place
  meant_stands place key at item kind text p is taken =
      let q = item_back place key at item p in
      elim (is_found w.os q.0 kind text (ap (defined_by w.os) q.2 ∙ is)) [
        | inl f ↦ record { found = f.found; name = f.name; stands = inl (record { from = p.from; to = p.to; item = q.0; there = q.3; defines = f.is }); kind_is = f.kind_is; text_is = f.text_is }
        | inr m ↦ module_stands place key at item kind text q.0 p q.2 q.3 m taken
      ]

  -- ---- recipes that another system disables

  pub stands_disabled : (nodes : List NodeView) (name : Name) (place : Place) → StandsHere DisabledKind name place → HasDisabled w (map file_view files) nodes (node_view node) (lexeme name.token) place
  stands_disabled nodes name place (inl f) =
      let p = file_there (slice_get files place.file) place.item f.item f.there in
      let d = is_disabled w.os f.item name f.defines in
      let at = length (filled (take place.item (item_shapes p.0.ast.items.items))) in
      let placed : Placed files node place p.0.key.now at (recipe_item d.attributes d.recipe)
      = subst (Placed files node place p.0.key.now at) d.is (placed_item place p.0 f.item f.from f.to p.1 p.2 (ap is_blank d.is)) in
      let h = has_placed w files node k agrees.own_files place p.0.key.now at (recipe_item d.attributes d.recipe) placed in
      (p.0.key.now, at, d.attributes, d.recipe, from_placed w files nodes node place p.0.key.now at (recipe_item d.attributes d.recipe) placed, record { of = h.0; has = h.1; disabled = d.disabled }, d.text_is)
  stands_disabled nodes name place (inr s) = absurd (let e = s.is.kind_is in cc e)

  pub disabled_stands : (place : Place) (key : Text) (at : ℕ) (attributes : List AttributeShape) (r : RecipeShape) → Placed files node place key at (recipe_item attributes r) → enabled w.os attributes ≡ false
      → (name : Name) × StandsHere DisabledKind name place × (lexeme name.token ≡ r.name)
  disabled_stands place key at attributes r p off =
      let q = item_back place key at (recipe_item attributes r) p in
      let d = disabled_found w.os q.0 attributes r q.2 off in
      (d.name, inl (record { from = p.from; to = p.to; item = q.0; there = q.3; defines = d.is }), d.text_is)

  -- ---- the definitions

  module _ (nodes : List NodeView) (ds : List Definition) (are : AreDefinitions StandsHere ds) where
    sound : (d : Definition) (kind : Kind) → Contains ds d → kind_of d.kind ≡ Some kind → DefinesHere w files node nodes kind d.text.now d.place
    sound d kind c is =
        let s = are.sound d c in
        subst (λ t. DefinesHere w files node nodes kind t d.place) (sym s.1.text_is) (stands_meant nodes d.kind d.name.now d.place kind s.0 is)

    complete : (kind : Kind) (name key : Text) (at : ℕ) (item : ItemShape) → Defines w node.source.now kind name key at item → IsAmong w files node nodes ds kind name key at item
    complete kind name key at item defines =
        let p = placed_of w files node k agrees.own_files key at item defines.of defines.has in
        let s = meant_stands p.0 key at item kind name p.1 defines.is defines.taken in
        let d = are.complete s.found s.name p.0 s.stands in
        record {
          d = d.0;
          listed = d.1;
          kind_is = ap kind_of d.2.kind_is ∙ s.kind_is;
          text_is = d.2.text_is ∙ s.text_is;
          there = subst (λ q. IsHere w files node nodes q key at item) (sym d.2.place_is) (from_placed w files nodes node p.0 key at item p.1);
        }

    disabled : (d : Definition) → Contains ds d → d.kind ≡ DisabledKind → HasDisabled w (map file_view files) nodes (node_view node) d.text.now d.place
    disabled d c is =
        let s = are.sound d c in
        subst (λ t. HasDisabled w (map file_view files) nodes (node_view node) t d.place) (sym s.1.text_is) (stands_disabled nodes d.name.now d.place (subst (λ q. StandsHere q d.name.now d.place) is s.0))

    all_disabled : (key : Text) (at : ℕ) (attributes : List AttributeShape) (r : RecipeShape) → IsDisabled w node.source.now key at attributes r
        → (d : Definition) × Contains ds d × (d.kind ≡ DisabledKind) × (d.text.now ≡ r.name) × IsHere w files node nodes d.place key at (recipe_item attributes r)
    all_disabled key at attributes r off =
        let item = recipe_item attributes r in
        let p = placed_of w files node k agrees.own_files key at item off.of off.has in
        let s = disabled_stands p.0 key at attributes r p.1 off.disabled in
        let d = are.complete DisabledKind s.0 p.0 s.1 in
        (d.0, d.1, d.2.kind_is, d.2.text_is ∙ s.2, subst (λ q. IsHere w files node nodes q key at item) (sym d.2.place_is) (from_placed w files nodes node p.0 key at item p.1))

    pub all_meant : AreMeant w files node nodes ds
    all_meant = record { sound = sound; complete = complete; disabled = disabled; all_disabled = all_disabled }

pub definitions_are_meant : DefinitionsAreMeant
definitions_are_meant w os files modules nodes k node ds f =
    all_meant w files node modules k f.agrees nodes ds (subst (λ o. AreDefinitions (Stands o files (range_of node) modules node.submodules.items) ds) (sym f.same_os) f.are)
