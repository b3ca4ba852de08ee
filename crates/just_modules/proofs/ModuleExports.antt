-- A variable that is exported although its name is not to be, among definitions and in a module.
use Rattle.std.proofs.Common.{◌≡◌, ◌⊎◌, inl, inr, sym, ◌∙◌, ap, subst, zero, suc, ◌≤◌, ◌<◌, ◌-◌, ℕ, Bool, true, false, cond, ◌&&◌, ◌∷◌, [], List, Option, Some, None, refl, arith, drop, take}
use Rattle.std.specs.Prelude.{Contains, bytes_eq, find, slice_get}
use Rattle.std.proofs.lemmas.Bool.{false≢true}
use Rattle.std.proofs.lemmas.Option.{none-some, same_Some}
use Rattle.std.proofs.lemmas.Slice.Eq.{bytes_eq-Decides}
use Rattle.just_text.specs.Tokens.{lexeme}
use Rattle.just_text.specs.declared.name.Name.{Name}
use Rattle.just_text.specs.declared.os.Os.{Os}
use Rattle.tree_attributes.specs.Attributes.{AttributeShape}
use Rattle.tree_attributes.specs.Sets.Sets.{shapes_in}
use Rattle.tree_items.specs.declared.ast.Item.{Item}
use Rattle.tree_items.specs.declared.ast.Item.TheVariants.{Alias, Assignment, Comment, Function, Import, Module, Newline, Recipe, Set, Unexport as UnexportItem}
use Rattle.tree_items.specs.Files.{ItemShape, is_blank, item_shape, assignment_item, unexport_item}
use Rattle.tree_items.specs.Items.{AssignmentShape, assignment_shape}
use Rattle.modules_compilation.specs.Places.{items_in, items_of}
use Rattle.modules_compilation.specs.declared.module_node.File.{File}
use Rattle.modules_compilation.specs.declared.module_node.ModuleNode.{ModuleNode}
use Rattle.modules_compilation.specs.declared.place.Place.{Place}
use Rattle.modules_definitions.specs.Defining.{AreDefinitions, Defines, InFiles, Stands as IsDefinedIn, enabled_in, if_enabled, recipe_kind}
use Rattle.modules_definitions.specs.Lists.{is_same_kind}
use Rattle.modules_definitions.specs.declared.definition.Definition.{Definition}
use Rattle.modules_definitions.specs.declared.definition.Kind.{Kind}
use Rattle.modules_definitions.specs.declared.definition.Kind.TheVariants.{Alias as AliasKind, Disabled as DisabledKind, Function as FunctionKind, Module as ModuleKind, Recipe as RecipeKind, Set as SetKind, Unexport, Variable}
use Rattle.modules_definitions.specs.declared.file_range.FileRange.{FileRange}
use Rattle.modules_definitions.proofs.Elements.{before_take}
use Rattle.meaning_rules.specs.Worlds.Given.{Overrides, Text, World}
use Rattle.meaning_rules.specs.Worlds.Modules.{IsModule}
use Rattle.meaning_rules.specs.Worlds.Sources.{AreSaid, Has, enabled}
use Rattle.meaning_rules.proofs.Worlds.Places.{contains_at, contains_cases, contains_first, contains_later, contains_none, place_of}
use Rattle.meaning_rules.specs.Rules.{Broken, InModule, Stands, export_unexported}
use Rattle.meaning_rules.specs.Told.{IsNamedBy}
use Rattle.laws_modules.specs.Files.Files.{AreFiles}
use Rattle.just_modules.specs.Exports.{export_refusal, exports, exports_at, first_unexported, is_exported, is_refused, is_unexported}
use Rattle.just_modules.specs.Keeping.{AreDefinitionsOf, files_of, range_of}
use Rattle.just_modules.proofs.Enabled.{same_enabled}
use Rattle.just_modules.proofs.Outcomes.{and_true}
use Rattle.just_modules.specs.ModuleRules.{ExportsUnexported}
use Rattle.just_modules.proofs.Contained.{any_at, any_of}
use Rattle.just_modules.proofs.ModuleFiles.{has_place, is_file_of, is_item_of}

-- ---- a part of a list

module _ {X : Type 0} where
  taken : (n : ℕ) (xs : List X) (k : ℕ) (x : X) → k < n → slice_get xs k ≡ Some x → slice_get (take n xs) k ≡ Some x
  taken n [] k x lt e = absurd (none-some x e)
  taken zero (y ∷ ys) k x lt e = absurd (omega (arith, lt))
  taken (suc n) (y ∷ ys) zero x lt e = e
  taken (suc n) (y ∷ ys) (suc k) x lt e = taken n ys k x (omega (arith, lt)) e

  dropped : (n : ℕ) (xs : List X) (k : ℕ) (x : X) → n ≤ k → slice_get xs k ≡ Some x → slice_get (drop n xs) (k - n) ≡ Some x
  dropped n [] k x le e = absurd (none-some x e)
  dropped zero (y ∷ ys) k x le e = let same : k - 0 ≡ k = omega arith in ap (slice_get (y ∷ ys)) same ∙ e
  dropped (suc n) (y ∷ ys) zero x le e = absurd (omega (arith, le))
  dropped (suc n) (y ∷ ys) (suc k) x le e =
      let same : suc k - suc n ≡ k - n = omega arith in
      ap (slice_get (drop n ys)) same ∙ dropped n ys k x (omega (arith, le)) e

  dropped_from : (n : ℕ) (xs : List X) (k : ℕ) (x : X) → slice_get (drop n xs) k ≡ Some x → (j : ℕ) × (n ≤ j) × (slice_get xs j ≡ Some x)
  dropped_from zero xs k x e = (k, omega arith, e)
  dropped_from (suc n) [] k x e = absurd (none-some x e)
  dropped_from (suc n) (y ∷ ys) k x e = let r = dropped_from n ys k x e in let le = r.1 in (suc r.0, omega (arith, le), r.2)

  find_at : (p : X → Bool) (xs : List X) (x : X) → find p xs ≡ Some x → Contains xs x × (p x ≡ true)
  find_at p [] x e = absurd (none-some x e)
  find_at p (y ∷ ys) x e = by_test (p y) refl e (λ f. find_at p ys x f)
    where
      by_test : (b : Bool) → p y ≡ b → cond b (Some y) (find p ys) ≡ Some x → (find p ys ≡ Some x → Contains ys x × (p x ≡ true)) → Contains (y ∷ ys) x × (p x ≡ true)
      by_test true is found rest = let same = same_Some y x found in (subst (Contains (y ∷ ys)) same (contains_first y ys), ap p (sym same) ∙ is)
      by_test false is found rest = let r = rest found in (contains_later y ys x r.0, r.1)

  find_none : (p : X → Bool) (xs : List X) (x : X) → find p xs ≡ None → Contains xs x → p x ≡ true → ⊥
  find_none p [] x none c is = contains_none [] x refl c
  find_none p (y ∷ ys) x none c is = elim (contains_cases y ys x c) [
    | inl e ↦ none-some y (sym none ∙ ap (λ b. cond b (Some y) (find p ys)) (ap p e ∙ is))
    | inr d ↦ by_test (p y) none (λ n. find_none p ys x n d is)
  ]
    where
      by_test : (b : Bool) → cond b (Some y) (find p ys) ≡ None → (find p ys ≡ None → ⊥) → ⊥
      by_test true n rest = none-some y (sym n)
      by_test false n rest = rest n

module _ (all : List File) (range : FileRange) where
  ranged_at : (k : ℕ) (file : File) → range.first ≤ k → k < range.end → slice_get all k ≡ Some file → Contains (files_of all range) file
  ranged_at k file from to e = contains_at (files_of all range) (k - range.first) file (dropped range.first (take range.end all) k file from (taken range.end all k file to e))

  at_ranged : (file : File) → Contains (files_of all range) file → (k : ℕ) × (range.first ≤ k) × (k < range.end) × (slice_get all k ≡ Some file)
  at_ranged file c =
      let p = place_of (files_of all range) file c in
      let d = dropped_from range.first (take range.end all) p.0 file p.1 in
      let t = before_take all range.end d.0 file d.2 in
      (d.0, d.1, t.0, t.1)

-- ---- kinds

is_variable : (kind : Kind) → is_same_kind Variable kind ≡ true → kind ≡ Variable
is_variable AliasKind e = absurd (false≢true e)
is_variable DisabledKind e = absurd (false≢true e)
is_variable FunctionKind e = absurd (false≢true e)
is_variable (ModuleKind inner) e = absurd (false≢true e)
is_variable RecipeKind e = absurd (false≢true e)
is_variable SetKind e = absurd (false≢true e)
is_variable Unexport e = absurd (false≢true e)
is_variable Variable e = refl

is_unexport : (kind : Kind) → is_same_kind Unexport kind ≡ true → kind ≡ Unexport
is_unexport AliasKind e = absurd (false≢true e)
is_unexport DisabledKind e = absurd (false≢true e)
is_unexport FunctionKind e = absurd (false≢true e)
is_unexport (ModuleKind inner) e = absurd (false≢true e)
is_unexport RecipeKind e = absurd (false≢true e)
is_unexport SetKind e = absurd (false≢true e)
is_unexport Unexport e = refl
is_unexport Variable e = absurd (false≢true e)

-- ---- what an item is that defines such a name

enabled_kind : (b : Bool) (kind other : Kind) (name told : Name) → if_enabled b kind name ≡ Some (other, told) → (b ≡ true) × (kind ≡ other) × (name ≡ told)
enabled_kind true kind other name told e =
    let same = same_Some (kind, name) (other, told) e in
    (refl, ap (λ (d : Kind × Name). d.0) same, ap (λ (d : Kind × Name). d.1) same)
enabled_kind false kind other name told e = absurd (none-some (other, told) e)

-- an enabled variable with the name, exported by its own word
record IsExportOf (os : Os) (item : Item) (name : Name) : Type 0 where
  attributes : List AttributeShape
  variable : AssignmentShape
  is : item_shape item ≡ assignment_item attributes variable
  here : enabled os attributes ≡ true
  exported : variable.export ≡ true
  is_named : variable.name ≡ lexeme name.token

exported_is : (os : Os) (item : Item) (name : Name) → Defines os item Variable name → is_exported (Some item) ≡ true → IsExportOf os item name
exported_is os (Assignment a) name d e =
    let k = enabled_kind (enabled_in os a.attributes) Variable Variable a.name name d in
    record {
      attributes = shapes_in a.attributes;
      variable = assignment_shape a;
      is = refl;
      here = sym (same_enabled os a.attributes) ∙ k.0;
      exported = e;
      is_named = ap (λ (n : Name). lexeme n.token) k.2;
    }
exported_is os (Alias a) name d e = absurd (false≢true e)
exported_is os (Comment t) name d e = absurd (false≢true e)
exported_is os (Function f) name d e = absurd (false≢true e)
exported_is os (Import i) name d e = absurd (false≢true e)
exported_is os (Module m) name d e = absurd (false≢true e)
exported_is os Newline name d e = absurd (false≢true e)
exported_is os (Recipe r) name d e = absurd (false≢true e)
exported_is os (Set s) name d e = absurd (false≢true e)
exported_is os (UnexportItem u) name d e = absurd (false≢true e)

no_recipe : (b : Bool) → recipe_kind b ≡ Unexport → ⊥
no_recipe true e = absurd (cc e)
no_recipe false e = absurd (cc e)

unexported_is : (os : Os) (item : Item) (name : Name) → Defines os item Unexport name → item_shape item ≡ unexport_item (lexeme name.token)
unexported_is os (UnexportItem u) name d = ap (λ (n : Name). unexport_item (lexeme n.token)) (ap (λ (k : Kind × Name). k.1) (same_Some (Unexport, u.name) (Unexport, name) d))
unexported_is os (Alias a) name d = let k = enabled_kind true AliasKind Unexport a.name name d in let no : AliasKind ≡ Unexport = k.1 in absurd (cc no)
unexported_is os (Assignment a) name d = let k = enabled_kind (enabled_in os a.attributes) Variable Unexport a.name name d in let no : Variable ≡ Unexport = k.1 in absurd (cc no)
unexported_is os (Comment t) name d = absurd (none-some (Unexport, name) d)
unexported_is os (Function f) name d = let k = enabled_kind true FunctionKind Unexport f.name name d in let no : FunctionKind ≡ Unexport = k.1 in absurd (cc no)
unexported_is os (Import i) name d = absurd (none-some (Unexport, name) d)
unexported_is os (Module m) name d = absurd (none-some (Unexport, name) d)
unexported_is os Newline name d = absurd (none-some (Unexport, name) d)
unexported_is os (Recipe r) name d = absurd (no_recipe (enabled_in os r.attributes) (enabled_kind true (recipe_kind (enabled_in os r.attributes)) Unexport r.name name d).1)
unexported_is os (Set s) name d = let k = enabled_kind (enabled_in os s.attributes) SetKind Unexport s.name name d in let no : SetKind ≡ Unexport = k.1 in absurd (cc no)

-- such an item of a tree defines the name
record IsVariableItem (os : Os) (item : Item) (text : Text) : Type 0 where
  name : Name
  defines : Defines os item Variable name
  exported : is_exported (Some item) ≡ true
  is_text : lexeme name.token ≡ text

variable_defines : (os : Os) (item : Item) (attributes : List AttributeShape) (a : AssignmentShape) → item_shape item ≡ assignment_item attributes a → enabled os attributes ≡ true → a.export ≡ true → IsVariableItem os item a.name
variable_defines os (Assignment b) attributes a e here exported =
    let given : shapes_in b.attributes ≡ attributes = cc e in
    let same : assignment_shape b ≡ a = cc e in
    let on : enabled_in os b.attributes ≡ true = same_enabled os b.attributes ∙ ap (enabled os) given ∙ here in
    record {
      name = b.name;
      defines = ap (λ x. if_enabled x Variable b.name) on;
      exported = ap (λ (s : AssignmentShape). s.export) same ∙ exported;
      is_text = ap (λ (s : AssignmentShape). s.name) same;
    }
variable_defines os (Alias b) attributes a e here exported = absurd (cc e)
variable_defines os (Comment t) attributes a e here exported = absurd (cc e)
variable_defines os (Function f) attributes a e here exported = absurd (cc e)
variable_defines os (Import i) attributes a e here exported = absurd (cc e)
variable_defines os (Module m) attributes a e here exported = absurd (cc e)
variable_defines os Newline attributes a e here exported = absurd (cc e)
variable_defines os (Recipe r) attributes a e here exported = absurd (cc e)
variable_defines os (Set s) attributes a e here exported = absurd (cc e)
variable_defines os (UnexportItem u) attributes a e here exported = absurd (cc e)

unexport_defines : (os : Os) (item : Item) (text : Text) → item_shape item ≡ unexport_item text → (name : Name) × Defines os item Unexport name × (lexeme name.token ≡ text)
unexport_defines os (UnexportItem u) text e =
    let same : lexeme u.name.token ≡ text = cc e in
    (u.name, refl, same)
unexport_defines os (Alias b) text e = absurd (cc e)
unexport_defines os (Assignment b) text e = absurd (cc e)
unexport_defines os (Comment t) text e = absurd (cc e)
unexport_defines os (Function f) text e = absurd (cc e)
unexport_defines os (Import i) text e = absurd (cc e)
unexport_defines os (Module m) text e = absurd (cc e)
unexport_defines os Newline text e = absurd (cc e)
unexport_defines os (Recipe r) text e = absurd (cc e)
unexport_defines os (Set s) text e = absurd (cc e)

-- ---- what stands at a place of a file

at_file : (o : Option File) (item : Item) (at : ℕ) → slice_get (items_of o) at ≡ Some item → (file : File) × (o ≡ Some file) × (slice_get file.ast.items.items at ≡ Some item)
at_file None item at e = absurd (none-some item e)
at_file (Some file) item at e = (file, refl, e)

module _ (w : World) (owner : ℕ) (own : Text) (all : List File) (range : FileRange) (are : AreFiles w owner own (files_of all range)) where
  module _ (modules : List ModuleNode) (submodules : List ℕ) (definitions : List Definition) (each : AreDefinitions (IsDefinedIn w.os all range modules submodules) definitions) where
    -- a definition that is no submodule stands in a file
    defined_in_files : (d : Definition) → Contains definitions d → (kind : Kind) → d.kind ≡ kind → ((inner : ℕ) → kind ≡ ModuleKind inner → ⊥) → InFiles w.os all range.first range.end d.kind d.name.now d.place
    defined_in_files d c kind is other = elim (each.sound d c).0 [
      | inl f ↦ f
      | inr s ↦ absurd (other s.inner (sym is ∙ s.is.kind_is))
    ]

    text_named : (d : Definition) → Contains definitions d → d.text.now ≡ lexeme d.name.now.token
    text_named d c = (each.sound d c).1.text_is

    no_submodule : (kind : Kind) → (kind ≡ Variable) ⊎ (kind ≡ Unexport) → (inner : ℕ) → kind ≡ ModuleKind inner → ⊥
    no_submodule kind (inl e) inner f = let no : Variable ≡ ModuleKind inner = sym e ∙ f in cc no
    no_submodule kind (inr e) inner f = let no : Unexport ≡ ModuleKind inner = sym e ∙ f in cc no

    -- ---- from definitions to the module

    module _ (path : List Text) (is_module : IsModule w path own) where
      in_module : (place : Place) (item : Item) (shape : ItemShape) → range.first ≤ place.file → place.file < range.end → slice_get (items_in all place.file) place.item ≡ Some item
          → item_shape item ≡ shape → is_blank shape ≡ false → InModule w own shape
      in_module place item shape from to there is no_blank =
          let f = at_file (slice_get all place.file) item place.item there in
          let c = ranged_at all range place.file f.0 from to f.1 in
          let p = has_place w owner own (files_of all range) are f.0 c item (contains_at f.0.ast.items.items place.item item f.2) (ap is_blank is ∙ no_blank) in
          record { path = path; is = is_module; file = f.0.key.now; of = is_file_of w owner own (files_of all range) are f.0 c; place = p.0; has = subst (Has w f.0.key.now p.0) is p.1 }

      unexported_in : (d : Definition) → Contains definitions d → d.kind ≡ Unexport → InModule w own (unexport_item (lexeme d.name.now.token))
      unexported_in d c kind =
          let f = defined_in_files d c d.kind refl (no_submodule d.kind (inr kind)) in
          let defines : Defines w.os f.item Unexport d.name.now = subst (λ k. Defines w.os f.item k d.name.now) kind f.defines in
          in_module d.place f.item (unexport_item (lexeme d.name.now.token)) f.from f.to f.there (unexported_is w.os f.item d.name.now defines) refl

      exported_in : (d : Definition) → Contains definitions d → d.kind ≡ Variable → exports_at all d.place ≡ true
          → (a : AssignmentShape) × (attributes : List AttributeShape) × Stands w own (assignment_item attributes a) × (a.export ≡ true) × (a.name ≡ lexeme d.name.now.token)
      exported_in d c kind exported =
          let f = defined_in_files d c d.kind refl (no_submodule d.kind (inl kind)) in
          let defines : Defines w.os f.item Variable d.name.now = subst (λ k. Defines w.os f.item k d.name.now) kind f.defines in
          let e = exported_is w.os f.item d.name.now defines (ap is_exported (sym f.there) ∙ exported) in
          (e.variable, e.attributes, (in_module d.place f.item (assignment_item e.attributes e.variable) f.from f.to f.there e.is (refl {a = false}), e.here), e.exported, e.is_named)

      -- the first definition that is refused is that of a variable of the module
      pub refused_own : (d : Definition) → first_unexported all definitions ≡ Some d → ExportsUnexported w own (lexeme d.name.now.token)
      refused_own d e =
          let found = find_at (is_refused all definitions) definitions d e in
          let both = and_true (exports all d) (is_unexported definitions d.text.now) found.1 in
          let export = and_true (is_same_kind Variable d.kind) (exports_at all d.place) both.0 in
          let v = exported_in d found.0 (is_variable d.kind export.0) export.1 in
          let u = any_of (λ (x : Definition). is_same_kind Unexport x.kind && bytes_eq x.text.now d.text.now) definitions both.1 in
          let named = and_true (is_same_kind Unexport u.0.kind) (bytes_eq u.0.text.now d.text.now) u.2 in
          let text : lexeme u.0.name.now.token ≡ lexeme d.name.now.token = sym (text_named u.0 u.1) ∙ (bytes_eq-Decides u.0.text.now d.text.now).0 named.1 ∙ text_named d found.0 in
          (v.0, v.1, v.2, v.3, v.4, subst (λ n. InModule w own (unexport_item n)) text (unexported_in u.0 u.1 (is_unexport u.0.kind named.0)))

      pub refused_broken : AreSaid w → (o : Overrides) (d : Definition) → first_unexported all definitions ≡ Some d → Broken w o (export_unexported (lexeme d.name.now.token))
      refused_broken said o d e = let r = refused_own d e in record { said = λ f. said; breaks = (own, r.0, r.1, r.2, r.3, r.4, r.5) }

    -- ---- and back

    -- what an item of the module defines is among the definitions, with where it stands
    record IsListed (kind : Kind) (name : Name) (item : Item) : Type 0 where
      d : Definition
      among : Contains definitions d
      kind_is : d.kind ≡ kind
      text_is : d.text.now ≡ lexeme name.token
      there : slice_get (items_in all d.place.file) d.place.item ≡ Some item

    listed : (file : File) → Contains (files_of all range) file → (item : Item) → Contains file.ast.items.items item → (kind : Kind) (name : Name) → Defines w.os item kind name → IsListed kind name item
    listed file c item i kind name defines =
        let r = at_ranged all range file c in
        let p = place_of file.ast.items.items item i in
        let at : Place = record { file = r.0; item = p.0 } in
        let there : slice_get (items_in all r.0) p.0 ≡ Some item = ap (λ f. slice_get (items_of f) p.0) r.3 ∙ p.1 in
        let d = each.complete kind name at (inl (record { from = r.1; to = r.2; item = item; there = there; defines = defines })) in
        record {
          d = d.0;
          among = d.1;
          kind_is = d.2.kind_is;
          text_is = d.2.text_is;
          there = ap (λ (q : Place). slice_get (items_in all q.file) q.item) d.2.place_is ∙ there;
        }

    -- where no definition is refused no variable of the module is exported although its name is not to be
    pub none_own : first_unexported all definitions ≡ None → (name : Text) → ExportsUnexported w own name → ⊥
    none_own none name (a, attributes, (m, here), exported, named, unexported) =
        let i = is_item_of w owner own (files_of all range) are m.file m.place (assignment_item attributes a) m.of m.has in
        let v = variable_defines w.os i.item attributes a i.is here exported in
        let d = listed i.file i.among i.item i.there Variable v.name v.defines in
        let j = is_item_of w owner own (files_of all range) are unexported.file unexported.place (unexport_item name) unexported.of unexported.has in
        let u = unexport_defines w.os j.item name j.is in
        let x = listed j.file j.among j.item j.there Unexport u.0 u.1 in
        let text : x.d.text.now ≡ d.d.text.now = x.text_is ∙ u.2 ∙ sym named ∙ sym v.is_text ∙ sym d.text_is in
        let says : Definition → Bool = λ (y : Definition). is_same_kind Unexport y.kind && bytes_eq y.text.now d.d.text.now in
        let one : says x.d ≡ true = ap (λ k. is_same_kind Unexport k && bytes_eq x.d.text.now d.d.text.now) x.kind_is ∙ (bytes_eq-Decides x.d.text.now d.d.text.now).1 text in
        let off : is_unexported definitions d.d.text.now ≡ true = any_at says definitions x.d x.among one in
        let on : exports all d.d ≡ true = ap (λ k. is_same_kind Variable k && exports_at all d.d.place) d.kind_is ∙ ap is_exported d.there ∙ v.exported in
        find_none (is_refused all definitions) definitions d.d none d.among (ap (λ b. b && is_unexported definitions d.d.text.now) on ∙ off)

-- ---- the definitions of a module that is loaded

module _ (w : World) (owner : ℕ) (own : Text) (os : Os) (is_unstable : Bool) (all : List File) (modules : List ModuleNode) (node : ModuleNode) (definitions : List Definition) where
  module _ (same : w.os ≡ os) (are : AreFiles w owner own (files_of all (range_of node))) (defined : AreDefinitionsOf os is_unstable all modules node definitions) where
    here : AreDefinitions (IsDefinedIn w.os all (range_of node) modules node.submodules.items) definitions
    here = subst (λ o. AreDefinitions (IsDefinedIn o all (range_of node) modules node.submodules.items) definitions) (sym same) defined.each

    -- the refusal of the first names a rule that is broken
    pub export_broken : (path : List Text) → IsModule w path own → AreSaid w → (o : Overrides) (d : Definition) → first_unexported all definitions ≡ Some d → IsNamedBy (Broken w o) (export_refusal d)
    export_broken path m said o d e = (export_unexported (lexeme d.name.now.token), refl, refused_broken w owner own all (range_of node) are modules node.submodules.items definitions here path m said o d e)

    -- where there is none no variable of the module is exported although its name is not to be
    pub exports_clear : first_unexported all definitions ≡ None → (name : Text) → ExportsUnexported w own name → ⊥
    exports_clear none name x = none_own w owner own all (range_of node) are modules node.submodules.items definitions here none name x
