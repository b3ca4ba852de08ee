-- The submodules of a module are those whose parent it is.
use Rattle.std.proofs.Common.{◌≡◌, Bool, true, false, ◌∷◌, zero, suc, inl, inr, sym, ◌∙◌, ap, subst, List, [], ℕ, ◌<◌, Option, Some, None, refl, arith, length, map, unwrap_or}
use Rattle.std.specs.Prelude.{Contains, option_map, slice_get}
use Rattle.std.proofs.lemmas.Option.{none-some, same_Some, slice_get_within}
use Rattle.just_text.specs.Tokens.{lexeme}
use Rattle.just_text.specs.declared.name.Name.{Name}
use Rattle.just_text.specs.declared.os.Os.{Os}
use Rattle.tree_attributes.specs.Attributes.{AttributeShape}
use Rattle.tree_items.specs.Files.{ItemShape, item_shape, item_shapes, module_item}
use Rattle.tree_items.specs.Items.{ModuleShape}
use Rattle.tree_items.specs.declared.ast.Item.{Item}
use Rattle.tree_items.specs.declared.ast.Item.TheVariants.{Alias, Assignment, Comment, Function, Import, Module, Newline, Recipe, Set, Unexport}
use Rattle.modules_compilation.specs.Places.{items_of}
use Rattle.modules_compilation.specs.declared.module_node.File.{File}
use Rattle.modules_compilation.specs.declared.module_node.ModuleNode.{ModuleNode}
use Rattle.modules_compilation.specs.declared.place.Place.{Place}
use Rattle.modules_definitions.specs.Defining.{InSubmodules, defined_by as found_by, enabled_in, module_name, named_at, recipe_kind, submodule_at}
use Rattle.modules_definitions.specs.Lists.{IsSameModule, submodule_of}
use Rattle.modules_definitions.specs.declared.definition.Definition.{Definition}
use Rattle.modules_definitions.specs.declared.definition.Kind.{Kind as FoundKind}
use Rattle.modules_definitions.specs.declared.definition.Kind.TheVariants.{Alias as AliasKind, Disabled as DisabledKind, Function as FunctionKind, Module as ModuleKind, Recipe as RecipeKind, Set as SetKind, Unexport as UnexportKind, Variable as VariableKind}
use Rattle.modules_definitions.proofs.Elements.{contains_at}
use Rattle.meaning_rules.specs.Worlds.Given.{Text, World}
use Rattle.meaning_rules.specs.Worlds.Keeping.{a_submodule}
use Rattle.meaning_rules.specs.Worlds.Compiled.{AreInner, NodeView}
use Rattle.meaning_rules.specs.Worlds.Views.{file_view, name_text, node_view}
use Rattle.laws_modules.specs.Definitions.Kinds.{kind_of}
use Rattle.laws_modules.specs.Definitions.Nodes.{IsInnerAt}
use Rattle.laws_modules.specs.Definitions.Laws.{AreChildren, AreSame, AreSettled, SubmodulesAreMeant}
use Rattle.laws_modules.proofs.Definitions.Defined.{line_named, named_if, submodule_named}
use Rattle.laws_modules.proofs.Definitions.Items.{if_true}
use Rattle.laws_modules.proofs.Definitions.Listed.{chosen, chosen_there, in_all, names, names_sorted, there_chosen}
use Rattle.laws_modules.proofs.Definitions.Lists.{given_numbers, map_back, map_contains, map_length, map_place}
use Rattle.laws_modules.proofs.Definitions.Single.{alone_kept}
use Rattle.laws_modules.proofs.Definitions.Tests.{is_submodule, module_alone, submodule_told}

-- ---- items and submodules

abbrev found_as : FoundKind → Name → Option (FoundKind × Name)
found_as found name = Some (found, name)

-- what items define are no submodules
other_kind : (one : FoundKind) (n m : Name) (inner : ℕ) → submodule_of one ≡ None → found_as one n ≡ found_as (ModuleKind inner) m → ⊥
other_kind one n m inner none e = none-some inner (sym none ∙ ap (λ p. submodule_of p.0) (same_Some (one, n) (ModuleKind inner, m) e))

recipe_none : (on : Bool) → submodule_of (recipe_kind on) ≡ None
recipe_none true = refl
recipe_none false = refl

no_submodule : (os : Os) (item : Item) (inner : ℕ) (name : Name) → found_by os item ≡ Some (ModuleKind inner, name) → ⊥
no_submodule os (Alias a) inner name e = other_kind AliasKind a.name name inner refl e
no_submodule os (Assignment a) inner name e = other_kind VariableKind a.name name inner refl (if_true (enabled_in os a.attributes) (VariableKind, a.name) (ModuleKind inner, name) e).1
no_submodule os (Comment c) inner name e = none-some (ModuleKind inner, name) e
no_submodule os (Function g) inner name e = other_kind FunctionKind g.name name inner refl e
no_submodule os (Import i) inner name e = none-some (ModuleKind inner, name) e
no_submodule os (Module m) inner name e = none-some (ModuleKind inner, name) e
no_submodule os Newline inner name e = none-some (ModuleKind inner, name) e
no_submodule os (Recipe r) inner name e = other_kind (recipe_kind (enabled_in os r.attributes)) r.name name inner (recipe_none (enabled_in os r.attributes)) e
no_submodule os (Set s) inner name e = other_kind SetKind s.name name inner refl (if_true (enabled_in os s.attributes) (SetKind, s.name) (ModuleKind inner, name) e).1
no_submodule os (Unexport u) inner name e = other_kind UnexportKind u.name name inner refl e

abbrev is_line : ItemShape → Option Text
is_line (module_item attributes m) = Some m.name
is_line other = None

no_line : (item : ItemShape) (attributes : List AttributeShape) (m : ModuleShape) → is_line item ≡ None → item ≡ module_item attributes m → ⊥
no_line item attributes m none e = none-some m.name (sym none ∙ ap is_line e)

line_name : (item : Item) (attributes : List AttributeShape) (m : ModuleShape) → item_shape item ≡ module_item attributes m → (name : Name) × (module_name (Some item) ≡ Some name)
line_name (Alias a) attributes m e = absurd (no_line (item_shape (Alias a)) attributes m refl e)
line_name (Assignment a) attributes m e = absurd (no_line (item_shape (Assignment a)) attributes m refl e)
line_name (Comment c) attributes m e = absurd (no_line (item_shape (Comment c)) attributes m refl e)
line_name (Function g) attributes m e = absurd (no_line (item_shape (Function g)) attributes m refl e)
line_name (Import i) attributes m e = absurd (no_line (item_shape (Import i)) attributes m refl e)
line_name (Module line) attributes m e = (line.name, refl)
line_name Newline attributes m e = absurd (no_line (item_shape Newline) attributes m refl e)
line_name (Recipe r) attributes m e = absurd (no_line (item_shape (Recipe r)) attributes m refl e)
line_name (Set s) attributes m e = absurd (no_line (item_shape (Set s)) attributes m refl e)
line_name (Unexport u) attributes m e = absurd (no_line (item_shape (Unexport u)) attributes m refl e)

by_submodule : (os : Os) (found : FoundKind) → kind_of found ≡ Some a_submodule → (name : Name) (item : Item) → found_by os item ≡ Some (found, name) → ⊥
by_submodule os AliasKind is name item e = cc is
by_submodule os DisabledKind is name item e = cc is
by_submodule os FunctionKind is name item e = cc is
by_submodule os (ModuleKind inner) is name item e = no_submodule os item inner name e
by_submodule os RecipeKind is name item e = cc is
by_submodule os SetKind is name item e = cc is
by_submodule os UnexportKind is name item e = cc is
by_submodule os VariableKind is name item e = cc is

-- the place of a `mod` item has a name
named_line : (files : List File) (place : Place) (file : File) (attributes : List AttributeShape) (m : ModuleShape) → slice_get files place.file ≡ Some file
    → slice_get (item_shapes file.ast.items.items) place.item ≡ Some (module_item attributes m) → (name : Name) × (named_at files place ≡ Some name)
named_line files place file attributes m found is =
    let real = map_back item_shape file.ast.items.items place.item (module_item attributes m) is in
    let name = line_name real.0 attributes m real.2 in
    (name.0, ap (λ o. module_name (slice_get (items_of o) place.item)) found ∙ ap module_name real.1 ∙ name.1)

-- the number of a submodule that a definition is
abbrev number : Definition → ℕ
number d = unwrap_or (submodule_of d.kind) 0

there : {X : Type 0} (xs : List X) (i : ℕ) → i < length xs → (x : X) × (slice_get xs i ≡ Some x)
there [] i lt = absurd (omega (arith, lt))
there (x ∷ xs) zero lt = (x, refl)
there (x ∷ xs) (suc i) lt = there xs i (omega (arith, lt))

module _ (w : World) (os : Os) (files : List File) (modules later : List ModuleNode) (k : ℕ) (before : ModuleNode) (ds kept : List Definition) (settled : AreSettled w os files modules k before ds kept)
    (children : AreChildren w files modules k before) (same : AreSame modules later) where
  abbrev nodes : List NodeView
  nodes = map node_view later

  abbrev inner_ones : List Definition
  inner_ones = chosen w os files modules nodes k before ds kept settled is_submodule a_submodule submodule_told

  abbrev inner_names : List Text
  inner_names = names w os files modules nodes k before ds kept settled is_submodule a_submodule submodule_told

  -- a node as it is afterwards
  abbrev IsInside : ℕ → Text → Type 0
  IsInside inner name = (node : NodeView) × (slice_get nodes inner ≡ Some node) × (node.parent ≡ Some k) × (node.name ≡ Some name)

  submodule_inside : (d : Definition) → InSubmodules files modules before.submodules.items d.kind d.name.now d.place → lexeme d.name.now.token ≡ d.text.now → IsInside (number d) d.text.now
  submodule_inside d s text =
      let one = settled.found.agrees.inner.sound s.inner s.there in
      let submodule = one.0 in
      let place = one.1 in
      let at = one.2 in
      let of = one.3 in
      let new = same.each s.inner submodule at.found in
      let parent = new.2.parent ∙ children.parents s.inner submodule s.there at.found in
      let named = named_if (named_at files place) place d.name.now d.place (sym (submodule_named files modules s.inner submodule place at.found at.is) ∙ s.is.is) in
      let line = line_named files place of.file of.has.attributes of.line d.name.now of.has.found of.has.there named.0 in
      let name = ap (option_map name_text) new.2.name ∙ children.named s.inner submodule place of.file of.line at of.has ∙ ap (λ t. Some t) (line ∙ text) in
      let number_is : s.inner ≡ number d = ap (λ q. unwrap_or (submodule_of q) 0) (sym s.is.kind_is) in
      subst (λ i. IsInside i d.text.now) number_is (node_view new.0, map_place node_view later s.inner new.0 new.1, parent, name)

  inside : (d : Definition) → Contains inner_ones d → IsInside (number d) d.text.now
  inside d c =
      let p = chosen_there w os files modules nodes k before ds kept settled is_submodule a_submodule submodule_told d c in
      let s = settled.found.are.sound d (in_all w os files modules nodes k before ds kept settled d p.0) in
      elim s.0 [
        | inl f ↦ absurd (by_submodule os d.kind p.1 d.name.now f.item f.defines)
        | inr q ↦ submodule_inside d q (sym s.1.text_is)
      ]

  -- the definition of a submodule is kept
  submodule_listed : (d : Definition) (inner : ℕ) → Contains ds d → d.kind ≡ ModuleKind inner → Contains (map number inner_ones) inner
  submodule_listed d inner c is =
      let kind_is : kind_of d.kind ≡ Some a_submodule = ap kind_of is in
      let kept_is = (settled.keeps.each d).1 (alone_kept settled.allowed ds settled.single d c (module_alone settled.allowed d.kind kind_is)) in
      subst (Contains (map number inner_ones)) (ap (λ q. unwrap_or (submodule_of q) 0) is)
      (map_contains number inner_ones d (there_chosen w os files modules nodes k before ds kept settled is_submodule a_submodule submodule_told d kept_is kind_is))

  -- each submodule has one
  submodule_found : (inner : ℕ) (submodule : ModuleNode) (place : Place) (name : Name) → IsInnerAt w files before modules inner submodule place → named_at files place ≡ Some name → Contains (map number inner_ones) inner
  submodule_found inner submodule place name at named =
      let is : submodule_at files modules inner ≡ Some (name, place) = submodule_named files modules inner submodule place at.found at.is ∙ ap (option_map (λ n. (n, place))) named in
      let d = settled.found.are.complete (ModuleKind inner) name place (inr (record { inner = inner; there = at.listed; is = record { kind_is = refl; is = is } })) in
      submodule_listed d.0 inner d.1 d.2.kind_is

  child_listed : (inner : ℕ) (old new : ModuleNode) → slice_get modules inner ≡ Some old → IsSameModule old new → new.parent ≡ Some k → Contains (map number inner_ones) inner
  child_listed inner old new found one parent =
      let s = settled.found.agrees.inner.sound inner (children.complete inner old found (sym one.parent ∙ parent)) in
      let of = s.3 in
      let name = named_line files s.1 of.file of.has.attributes of.line of.has.found of.has.there in
      submodule_found inner s.0 s.1 name.0 s.2 name.1

  listed : (inner : ℕ) (node : NodeView) → slice_get nodes inner ≡ Some node → node.parent ≡ Some k → Contains (map number inner_ones) inner
  listed inner node found parent =
      let new = map_back node_view later inner node found in
      let lt = slice_get_within later inner new.0 new.1 in
      let count = same.count in
      let old = there modules inner (omega (arith, lt, count)) in
      let one = same.each inner old.0 old.1 in
      let node_is : one.0 ≡ new.0 = same_Some one.0 new.0 (sym one.1 ∙ new.1) in
      child_listed inner old.0 one.0 old.1 one.2 (ap (λ (n : ModuleNode). n.parent) node_is ∙ ap (λ (v : NodeView). v.parent) new.2 ∙ parent)

  pub are_inner : AreInner w (map file_view files) nodes k (map number inner_ones)
  are_inner = record {
    names = inner_names;
    many = map_length (λ (d : Definition). d.text.now) inner_ones ∙ sym (map_length number inner_ones);
    sorted = names_sorted w os files modules nodes k before ds kept settled is_submodule a_submodule submodule_told;
    sound = λ at inner name e f.
        let p = map_back number inner_ones at inner e in
        let q = map_back (λ (d : Definition). d.text.now) inner_ones at name f in
        let one : p.0 ≡ q.0 = same_Some p.0 q.0 (sym p.1 ∙ q.1) in
        subst (λ i. IsInside i name) p.2 (subst (IsInside (number p.0)) (ap (λ (d : Definition). d.text.now) one ∙ q.2) (inside p.0 (contains_at inner_ones at p.0 p.1)));
    complete = listed;
  }

pub submodules_are_meant : SubmodulesAreMeant
submodules_are_meant w os files modules later k before after ds kept settled children same g =
    subst (AreInner w (map file_view files) (map node_view later) k) (sym (g.inner ∙ given_numbers (λ (d : Definition). submodule_of d.kind) kept)) (are_inner w os files modules later k before ds kept settled children same)
