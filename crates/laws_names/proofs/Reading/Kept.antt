-- What stands at the places of a module's lists.
use Rattle.std.proofs.Common.{◌≡◌, refl, sym, ◌∙◌, ap, subst, Bool, true, false, if◌then◌else◌, List, Option, Some, None, ℕ, ◌≤◌, ◌<◌, arith}
use Rattle.std.specs.Prelude.{slice_get}
use Rattle.std.specs.List.{filter_map}
use Rattle.std.proofs.lemmas.Cmp.{nat_list_cmp_total, tied_itself}
use Rattle.std.proofs.lemmas.Option.{none-some, same_Some, slice_get_within}
use Rattle.std.specs.declared.cmp.Ordering.TheVariants.{Less}
use Rattle.just_text.specs.Tokens.{lexeme}
use Rattle.just_text.specs.declared.os.Os.{Os}
use Rattle.tree_attributes.specs.Sets.Sets.{shapes_in}
use Rattle.tree_expressions.specs.declared.expression.Expression.{Expression}
use Rattle.tree_items.specs.Files.{ItemShape, item_shape}
use Rattle.tree_items.specs.declared.ast.Item.{Item}
use Rattle.tree_items.specs.declared.ast.Item.TheVariants.{Alias, Assignment, Comment, Function, Import, Module, Newline, Recipe, Set, Unexport}
use Rattle.tree_items.specs.declared.item.Binding.{Binding}
use Rattle.tree_items.specs.declared.item.FunctionDefinition.{FunctionDefinition}
use Rattle.tree_items.specs.declared.recipe.Recipe.{Recipe as RecipeOf}
use Rattle.tree_items.specs.declared.recipe.UnresolvedDependency.{UnresolvedDependency}
use Rattle.tree_items.specs.declared.set.Set.{Set as SetOf}
use Rattle.modules_compilation.specs.Places.{item_at}
use Rattle.modules_compilation.specs.Tables.{text_cmp}
use Rattle.modules_compilation.specs.declared.compilation.Compilation.{Compilation}
use Rattle.modules_compilation.specs.declared.module_node.ModuleNode.{ModuleNode}
use Rattle.modules_compilation.specs.declared.place.Place.{Place}
use Rattle.meaning_rules.specs.Worlds.Compiled.{IsList}
use Rattle.meaning_rules.specs.Worlds.Given.{Text, World}
use Rattle.meaning_rules.specs.Worlds.Keeping.{Keeps, KeepsAt, Kind, a_function, a_recipe, a_setting, a_submodule, a_variable, an_alias, an_unexport, defined_by}
use Rattle.meaning_rules.specs.Worlds.Sources.{enabled}
use Rattle.meaning_rules.proofs.Worlds.Kept.{keeps_at_most_one}
use Rattle.meaning_rules.proofs.Worlds.Places.{place_of}
use Rattle.meaning_rules.specs.Worlds.Views.{node_view}
use Rattle.laws_modules.specs.Names.Names.{nodes, views}
use Rattle.laws_modules.proofs.Names.Found.{there_within}
use Rattle.laws_modules.proofs.Names.Standing.{item_there}
use Rattle.laws_names.proofs.Reading.Lists.{GivesAll, given_at, given_from, once}

-- the item is a definition of the kind and name, where the kind has expressions
abbrev pub IsThing : Kind → Text → Item → Type 0
IsThing an_alias name item = Unit {0}
IsThing a_function name item = (f : FunctionDefinition) × (item ≡ Function f) × (lexeme f.name.token ≡ name)
IsThing a_recipe name item = (r : RecipeOf UnresolvedDependency) × (item ≡ Recipe r)
IsThing a_setting name item = (s : SetOf) × (item ≡ Set s)
IsThing a_submodule name item = Unit {0}
IsThing a_variable name item = (v : Binding Expression) × (item ≡ Assignment v) × (lexeme v.name.token ≡ name)
IsThing an_unexport name item = Unit {0}

-- what is defined
abbrev pub said : Kind → Text → Option (Kind × Text)
said kind name = Some (kind, name)

module _ (kind : Kind) (name : Text) (item : Item) where
  same_thing : (kind' : Kind) (text : Text) → IsThing kind' text item → said kind' text ≡ said kind name → IsThing kind name item
  same_thing kind' text t e = subst (λ (q : Kind × Text). IsThing q.0 q.1 item) (same_Some (kind', text) (kind, name) e) t

  if_thing : (b : Bool) (kind' : Kind) (text : Text) → IsThing kind' text item → (if b then said kind' text else None) ≡ said kind name → IsThing kind name item
  if_thing true kind' text t e = same_thing kind' text t e
  if_thing false kind' text t e = absurd (none-some (kind, name) e)

-- an item is what it defines
is_thing : (os : Os) (kind : Kind) (name : Text) (item : Item) → defined_by os (item_shape item) ≡ said kind name → IsThing kind name item
is_thing os kind name (Alias a) e = same_thing kind name (Alias a) an_alias (lexeme a.name.token) tt e
is_thing os kind name (Assignment v) e = if_thing kind name (Assignment v) (enabled os (shapes_in v.attributes)) a_variable (lexeme v.name.token) (v, refl, refl) e
is_thing os kind name (Comment text) e = absurd (none-some (kind, name) e)
is_thing os kind name (Function f) e = same_thing kind name (Function f) a_function (lexeme f.name.token) (f, refl, refl) e
is_thing os kind name (Import i) e = absurd (none-some (kind, name) e)
is_thing os kind name (Module m) e = if_thing kind name (Module m) (enabled os (shapes_in m.attributes)) a_submodule (lexeme m.name.token) tt e
is_thing os kind name Newline e = absurd (none-some (kind, name) e)
is_thing os kind name (Recipe r) e = if_thing kind name (Recipe r) (enabled os (shapes_in r.attributes)) a_recipe (lexeme r.name.token) (r, refl) e
is_thing os kind name (Set s) e = if_thing kind name (Set s) (enabled os (shapes_in s.attributes)) a_setting (lexeme s.name.token) (s, refl) e
is_thing os kind name (Unexport u) e = same_thing kind name (Unexport u) an_unexport (lexeme u.name.token) tt e

module _ (w : World) (compilation : Compilation) (node : ModuleNode) where
  -- the item stands at the place, and the module keeps it as a definition of the kind and name
  pub record IsKept (kind : Kind) (name : Text) (place : Place) (item : Item) : Type 0 where
    pub there : item_at compilation place ≡ Some item
    pub from : node.first_file ≤ place.file
    pub to : place.file < node.end_file
    pub key : Text
    pub at : ℕ
    pub keeps : KeepsAt w node.source.now kind name key at (item_shape item)
    pub thing : IsThing kind name item

  abbrev pub IsListOf : Kind → List Text → List Place → Type 0
  IsListOf kind names places = IsList w (views w compilation) (nodes w compilation) (node_view node) kind names places

  -- at each place of a list something stands that the module keeps
  module _ (kind : Kind) (names : List Text) (places : List Place) (l : IsListOf kind names places) where
    pub kept_at : (i : ℕ) (place : Place) → slice_get places i ≡ Some place → (name : Text) × (item : Item) × (slice_get names i ≡ Some name) × IsKept kind name place item
    kept_at i place e =
        let lt = slice_get_within places i place e in
        let many = l.many in
        let n = there_within names i (omega (arith, lt, many)) in
        let s = l.sound i n.0 place n.1 e in
        let it = item_there w compilation (node_view node) place s.0 s.1 s.2 s.3 in (
          n.0,
          it.0,
          n.1,
          record {
            there = it.1;
            from = s.3.from;
            to = s.3.to;
            key = s.0;
            at = s.1;
            keeps = subst (KeepsAt w node.source.now kind n.0 s.0 s.1) (sym it.2) s.4;
            thing = is_thing w.os kind n.0 it.0 (ap (defined_by w.os) it.2 ∙ s.4.defines.is);
          },
        )

    -- and what the module keeps stands at a place of the list
    pub kept_shape : (name : Text) (shape : ItemShape) → Keeps w node.source.now kind name shape → (i : ℕ) × (place : Place) × (item : Item) × (slice_get places i ≡ Some place) × IsKept kind name place item × (item_shape item ≡ shape)
    kept_shape name shape h =
        let p = place_of names name (l.complete name shape h) in
        let lt = slice_get_within names p.0 name p.1 in
        let many = l.many in
        let q = there_within places p.0 (omega (arith, lt, many)) in
        let r = kept_at p.0 q.0 q.1 in
        let same : r.0 ≡ name = same_Some r.0 name (sym r.2 ∙ p.1) in
        let kept = subst (λ n. IsKept kind n q.0 r.1) same r.3 in
        (p.0, q.0, r.1, q.1, kept, (keeps_at_most_one w node.source.now kind name kept.key h.key kept.at h.place (item_shape r.1) shape kept.keeps h.kept).2)

    -- things of one form: how one is found at a place, what its item is and what its name is
    module _ {X : Type 0} (at_place : Place → Option X) (make : X → Item) (text : X → Text)
        (things : (name : Text) (item : Item) → IsThing kind name item → (x : X) × (item ≡ make x) × (text x ≡ name))
        (found : (place : Place) (x : X) → item_at compilation place ≡ Some (make x) → at_place place ≡ Some x) where
      thing_at : (i : ℕ) (place : Place) → slice_get places i ≡ Some place → (x : X) × (at_place place ≡ Some x) × (slice_get names i ≡ Some (text x)) × IsKept kind (text x) place (make x)
      thing_at i place e =
          let r = kept_at i place e in
          let t = things r.0 r.1 r.3.thing in
          let kept = subst (λ n. IsKept kind n place (make t.0)) (sym t.2) (subst (IsKept kind r.0 place) t.1 r.3) in
          (t.0, found place t.0 kept.there, r.2 ∙ ap (λ n. Some n) (sym t.2), kept)

      all_given : GivesAll at_place places
      all_given i place e = let t = thing_at i place e in (t.0, t.1)

      -- something stands at each place of the list
      pub thing_there : (i : ℕ) (place : Place) → slice_get places i ≡ Some place → (x : X) × (slice_get (filter_map at_place places) i ≡ Some x) × (item_at compilation place ≡ Some (make x))
      thing_there i place e = let t = thing_at i place e in (t.0, given_at at_place places all_given i place t.0 e t.1, t.3.there)

      -- what stands at a place of the kept things
      pub thing_kept : (i : ℕ) (x : X) → slice_get (filter_map at_place places) i ≡ Some x → (place : Place) × (slice_get places i ≡ Some place) × (slice_get names i ≡ Some (text x)) × IsKept kind (text x) place (make x)
      thing_kept i x e =
          let g = given_from at_place places all_given i x e in
          let t = thing_at i g.0 g.1 in
          let same : t.0 ≡ x = same_Some t.0 x (sym t.1 ∙ g.2) in
          (g.0, g.1, subst (λ y. slice_get names i ≡ Some (text y)) same t.2, subst (λ y. IsKept kind (text y) g.0 (make y)) same t.3)

      -- what the module keeps stands at a place of the kept things
      pub thing_known : (name : Text) (shape : ItemShape) → Keeps w node.source.now kind name shape → (i : ℕ) × (x : X) × (slice_get (filter_map at_place places) i ≡ Some x) × (text x ≡ name) × (item_shape (make x) ≡ shape)
      thing_known name shape h =
          let s = kept_shape name shape h in
          let t = thing_at s.0 s.1 s.3 in
          let items : s.2 ≡ make t.0 = same_Some s.2 (make t.0) (sym s.4.there ∙ t.3.there) in
          let named = things name (make t.0) (subst (IsThing kind name) items s.4.thing) in
          let known = found s.1 named.0 (t.3.there ∙ ap (λ y. Some y) named.1) in
          let same : t.0 ≡ named.0 = same_Some t.0 named.0 (sym t.1 ∙ known) in
          (s.0, t.0, given_at at_place places all_given s.0 s.1 t.0 s.3 t.1, ap text same ∙ named.2, ap item_shape (sym items) ∙ s.5)

      text_apart : (name : Text) → text_cmp name name ≡ Less → ⊥
      text_apart name e = let both = sym (tied_itself nat_list_cmp_total name) ∙ e in cc both

      -- no two have one name
      pub thing_once : (i j : ℕ) (x y : X) → slice_get (filter_map at_place places) i ≡ Some x → slice_get (filter_map at_place places) j ≡ Some y → text x ≡ text y → i ≡ j
      thing_once i j x y e f same =
          let a = thing_kept i x e in
          let b = thing_kept j y f in
          once text_cmp text_apart names l.sorted i j (text y) (a.2 ∙ ap (λ n. Some n) same) b.2
