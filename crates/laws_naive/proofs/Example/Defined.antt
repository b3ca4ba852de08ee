-- What the small justfile defines, and what its one word invokes.
use Rattle.std.specs.Prelude.{◌≡◌, ◌↔◌, ◌≤◌, cond, ℕ, List, [], ◌∷◌, Bool, true, false, Some, None, Contains, codes}
use Rattle.std.proofs.Common.{arith, refl, inl, inr, subst, sym, ap, ◌∙◌}
use Rattle.std.specs.Str.{bytes_eq}
use Rattle.std.specs.List.Sorted.{IsStrictlySortedBy}
use Rattle.std.proofs.lemmas.Option.{same_Some, none-some}
use Rattle.std.proofs.lemmas.Slice.Eq.{bytes_eq-Decides}
use Rattle.tree_attributes.specs.Attributes.{AttributeShape}
use Rattle.tree_attributes.specs.Settings.{SetShape}
use Rattle.tree_attributes.specs.declared.attribute.AttributeKind.TheVariants.{Default}
use Rattle.tree_attributes.specs.Sets.Order.{in_order, sorted}
use Rattle.tree_items.specs.Files.{ItemShape, assignment_item}
use Rattle.tree_items.specs.Items.{AssignmentShape}
use Rattle.meaning_rules.specs.Worlds.Given.{Text}
use Rattle.meaning_rules.specs.Worlds.Sources.{Has, AreSaid, itself}
use Rattle.meaning_rules.specs.Worlds.Modules.{IsModule, IsReadingOrder, root as root_module}
use Rattle.meaning_rules.specs.Worlds.Keeping.{Kind, an_alias, a_function, a_recipe, a_variable, an_unexport, Defines, IsDefined, IsOn, KeepsAt}
use Rattle.meaning_rules.proofs.Worlds.Places.{contains_cases, contains_first, contains_none}
use Rattle.meaning_rules.specs.Constants.{HasSetting}
use Rattle.meaning_rules.specs.Rules as rules
use Rattle.meaning_evaluation.specs.Named.{RecipeName, RecipeRow, VariableRow, ModuleRow, paths_of}
use Rattle.just_meaning.specs.Defining.{AreDefined, AreFunctions, AreNames, IsDefault, by_attribute, by_place, IsDefaultOf, IsMarked, IsModuleRow, IsRecipeRow, IsVariableRow, is_private, named_from}
use Rattle.just_meaning.specs.Menus.{menu_of}
use Rattle.just_meaning.specs.Rows.{module_row, recipe_row}
use Rattle.meaning_runs.specs.Invokes.{Invoke, last, no_more}
use Rattle.just_meaning.specs.Known.{AreInOrder, HaveRows, IsRead}
use Rattle.just_meaning.specs.Clear.{IsClear}
use Rattle.tree_expressions.specs.Parts.{halved_behind}
use Rattle.laws_naive.specs.Example.Justfile.{a, assignment, defined, items, names_in, of_root, recipe, root, row, settings, variable, world}
use Rattle.laws_naive.proofs.Example.World.{Def, def_is, i0, i1, key_is, module_root, no_rule, no_setting, not_on, reached_root, recipe_is}

-- ---- reading

said_there : AreSaid world
said_there key r = (items, ap (λ k. cond (bytes_eq k root) (Some items) None) (reached_root key r))

ordered : IsReadingOrder world root (root ∷ [])
ordered = record { first = refl; whole = refl; led = λ place file e. absurd (none-some _ e) }

pub read : IsRead world
read = record { said = said_there; orders = λ path own m. subst (λ o. (files : List Text) × IsReadingOrder world o files) (sym (module_root path own m).1) (root ∷ [], ordered) }

in_order_none : in_order [] ≡ []
unfolding sorted
in_order_none = refl

pub order : AreInOrder world
order key place attributes r reached h = let e = (recipe_is key place attributes r h).0 in ap in_order e ∙ in_order_none ∙ sym e

-- ---- what is kept

has0 : Has world root 0 i0
has0 = record { items = items; says = refl; at = refl }

has1 : Has world root 1 i1
has1 = record { items = items; says = refl; at = refl }

defines0 : Defines world root a_variable (codes "v") root 0 i0
defines0 = record { of = record { count = 0; leads = itself }; has = has0; is = refl; taken = tt }

defines1 : Defines world root a_recipe (codes "a") root 1 i1
defines1 = record { of = record { count = 0; leads = itself }; has = has1; is = refl; taken = tt }

keeps0 : KeepsAt world root a_variable (codes "v") root 0 i0
keeps0 = record { defines = defines0; files = root ∷ []; order = ordered; at = 0; found = refl; first = λ at' key' place' item' e d. omega arith; last = λ place' item' d. variable_place place' item' (def_is root a_variable _ root place' item' d) }
  where
    variable_place : (place : ℕ) (item : ItemShape) → Def a_variable (codes "v") place item → place ≤ 0
    variable_place place item (inl h) = omega (arith, h.2)
    variable_place place item (inr h) = let e : a_variable ≡ a_recipe = h.0 in absurd cc

keeps1 : KeepsAt world root a_recipe (codes "a") root 1 i1
keeps1 = record { defines = defines1; files = root ∷ []; order = ordered; at = 0; found = refl; first = λ at' key' place' item' e d. omega arith; last = λ place' item' d. recipe_place place' item' (def_is root a_recipe _ root place' item' d) }
  where
    recipe_place : (place : ℕ) (item : ItemShape) → Def a_recipe (codes "a") place item → place ≤ 1
    recipe_place place item (inl h) = let e : a_recipe ≡ a_variable = h.0 in absurd cc
    recipe_place place item (inr h) = omega (arith, h.2)

recipe_def : (own name key : Text) (place : ℕ) (item : ItemShape) → Defines world own a_recipe name key place item → (name ≡ codes "a") × (place ≡ 1) × (item ≡ i1)
recipe_def own name key place item d = by_def (def_is own a_recipe name key place item d)
  where
    by_def : Def a_recipe name place item → (name ≡ codes "a") × (place ≡ 1) × (item ≡ i1)
    by_def (inl h) = let e : a_recipe ≡ a_variable = h.0 in absurd cc
    by_def (inr h) = (h.1, h.2, h.3)

variable_def : (own name key : Text) (place : ℕ) (item : ItemShape) → Defines world own a_variable name key place item → (name ≡ codes "v") × (place ≡ 0) × (item ≡ i0)
variable_def own name key place item d = by_def (def_is own a_variable name key place item d)
  where
    by_def : Def a_variable name place item → (name ≡ codes "v") × (place ≡ 0) × (item ≡ i0)
    by_def (inl h) = (h.1, h.2, h.3)
    by_def (inr h) = let e : a_variable ≡ a_recipe = h.0 in absurd cc

no_kind : (kind : Kind) → (kind ≡ a_variable → ⊥) → (kind ≡ a_recipe → ⊥) → (own name key : Text) (place : ℕ) (item : ItemShape) → Defines world own kind name key place item → ⊥
no_kind kind n m own name key place item d = by_def (def_is own kind name key place item d)
  where
    by_def : Def kind name place item → ⊥
    by_def (inl h) = n h.0
    by_def (inr h) = m h.0

assignment_in : ItemShape → AssignmentShape
assignment_in (assignment_item attributes s) = s
assignment_in other = assignment

attributes_of_assignment : ItemShape → List AttributeShape
attributes_of_assignment (assignment_item attributes s) = attributes
attributes_of_assignment other = []

-- ---- rows

none_in : {X : Type 0} (P : X → Type 0) (xs : List X) → ((x : X) → Contains xs x → ⊥) → xs ≡ []
none_in P [] h = refl
none_in P (x ∷ xs) h = absurd (h x (contains_first x xs))

recipe_named : (name : Text) (b : Bool) → bytes_eq name (codes "a") ≡ b → (r : RecipeRow) → cond b (Some row) None ≡ Some r → (name ≡ codes "a") × (row ≡ r)
recipe_named name true e r h = ((bytes_eq-Decides name (codes "a")).0 e, same_Some _ _ h)
recipe_named name false e r h = absurd (none-some _ h)

variable_named : (name : Text) (b : Bool) → bytes_eq name (codes "v") ≡ b → (r : VariableRow) → cond b (Some variable) None ≡ Some r → (name ≡ codes "v") × (variable ≡ r)
variable_named name true e r h = ((bytes_eq-Decides name (codes "v")).0 e, same_Some _ _ h)
variable_named name false e r h = absurd (none-some _ h)

never_on : (name : Text) → (false ≡ true) ↔ IsOn world root name
never_on name = (λ e. absurd cc, λ s. absurd (not_on root name s))

recipe_there : (path : List Text) (name : Text) (r : RecipeRow) → of_root path (cond (bytes_eq name (codes "a")) (Some row) None) ≡ Some r → IsRecipeRow world [] (record { path = path; recipe = name }) r
recipe_there [] name r e = let s = recipe_named name _ refl r e in
    subst (λ (q : RecipeRow). IsRecipeRow world [] (record { path = []; recipe = name }) q) s.1 (subst (λ n. IsRecipeRow world [] (record { path = []; recipe = n }) row) (sym s.0)
    (record { own = root; is = root_module; key = root; place = 1; attributes = []; shape = recipe; kept = keeps1; passes = false; passing = never_on _; says = refl }))
recipe_there (p ∷ ps) name r e = absurd (none-some _ e)

recipe_back : (path : List Text) (name : Text) (r : RecipeRow) → IsRecipeRow world [] (record { path = path; recipe = name }) r → of_root path (cond (bytes_eq name (codes "a")) (Some row) None) ≡ Some r
recipe_back path name r h =
    let m = (module_root path h.own h.is).0 in
    let d = recipe_def h.own name h.key h.place _ h.kept.defines in
    let k = key_is h.key h.place _ h.kept.defines.has in
    let s = recipe_is h.key h.place h.attributes h.shape h.kept.defines.has in
    let p = passes_not h.passes (λ e. not_on h.own _ (h.passing.0 e)) in
    (λ i. of_root (m i) (cond (bytes_eq (d.0 i) (codes "a")) (Some row) None))
    ∙ ap Some (sym (h.says ∙ (λ i. recipe_row world.expansion (k i) (p i) (λ dependency. named_from (m i) dependency.path) (s.0 i) (s.1 i))))
  where
    passes_not : (b : Bool) → (b ≡ true → ⊥) → b ≡ false
    passes_not true n = absurd (n refl)
    passes_not false n = refl

variable_there : (path : List Text) (name : Text) (r : VariableRow) → of_root path (cond (bytes_eq name (codes "v")) (Some variable) None) ≡ Some r → IsVariableRow world [] (record { path = path; name = name }) r
variable_there [] name r e = let s = variable_named name _ refl r e in
    subst (λ (q : VariableRow). IsVariableRow world [] (record { path = []; name = name }) q) s.1 (subst (λ n. IsVariableRow world [] (record { path = []; name = n }) variable) (sym s.0)
    (record { own = root; is = root_module; key = root; place = 0; attributes = []; shape = assignment; kept = keeps0; says = refl }))
variable_there (p ∷ ps) name r e = absurd (none-some _ e)

variable_back : (path : List Text) (name : Text) (r : VariableRow) → IsVariableRow world [] (record { path = path; name = name }) r → of_root path (cond (bytes_eq name (codes "v")) (Some variable) None) ≡ Some r
unfolding assignment_in attributes_of_assignment
variable_back path name r h =
    let m = (module_root path h.own h.is).0 in
    let d = variable_def h.own name h.key h.place _ h.kept.defines in
    let k = key_is h.key h.place _ h.kept.defines.has in
    let s : h.shape ≡ assignment = ap assignment_in d.2 in
    let t : h.attributes ≡ [] = ap attributes_of_assignment d.2 in
    (λ i. of_root (m i) (cond (bytes_eq (d.0 i) (codes "v")) (Some variable) None))
    ∙ ap Some (sym (h.says ∙ (λ i. let v : VariableRow = record { file = k i; value = (s i).value; export = (s i).export; eager = (s i).eager; private = is_private (t i) (d.0 i) } in v)))

-- ---- the default

not_marked : (own name : Text) (file place : ℕ) → IsMarked world [] own name file place → ⊥
not_marked own name file place k = let e = (recipe_is k.key place k.attributes k.shape k.kept.defines.has).0 in let f : rules.has Default [] ≡ true = subst (λ l. rules.has Default l ≡ true) e k.marked in cc

default_a : IsDefault world [] root (codes "a")
default_a = by_place {place = 1} (λ other file place k. not_marked root other file place k) (record { attributes = []; shape = recipe; kept = keeps1 }) (λ other place k. let d = recipe_def root other root place _ k.kept.defines in omega (arith, d.1))

default_there : (path : List Text) (r : RecipeName) → of_root path (Some a) ≡ Some r → IsDefaultOf world [] path r
default_there [] r e = subst (λ (q : RecipeName). IsDefaultOf world [] [] q) (same_Some _ _ e) (record { own = root; is = root_module; inside = refl; default = default_a })
default_there (p ∷ ps) r e = absurd (none-some _ e)

default_name : (own name : Text) → IsDefault world [] own name → name ≡ codes "a"
default_name own name (by_attribute {file = file} {place = place} k first) = absurd (not_marked own name file place k)
default_name own name (by_place {place = place} none k least) = (recipe_def own name own place _ k.kept.defines).0

default_back : (path : List Text) (r : RecipeName) → IsDefaultOf world [] path r → of_root path (Some a) ≡ Some r
default_back path r h = let m = (module_root path h.own h.is).0 in
    ap (λ p. of_root p (Some a)) m ∙ ap Some (λ i. let q : RecipeName = record { path = sym (h.inside ∙ m) i; recipe = sym (default_name h.own r.recipe h.default) i } in q)

-- ---- modules

names_of_root : AreNames world [] root (codes "v" ∷ [])
unfolding IsStrictlySortedBy
names_of_root = record {
  sorted = (tt, tt);
  each = λ name. (
    λ c. elim (contains_cases (codes "v") [] name c) [ inl e ↦ subst (λ n. IsDefined world root a_variable n) e (record { key = root; place = 0; item = i0; defines = defines0 }) | inr n ↦ absurd (contains_none [] name refl n) ],
    λ d. subst (Contains (codes "v" ∷ [])) (sym (variable_def root name d.key d.place d.item d.defines).0) (contains_first _ []),
  );
}

functions_of_root : AreFunctions world [] root []
unfolding IsStrictlySortedBy
functions_of_root = record { sorted = tt; each = λ r. (λ c. absurd (contains_none [] r refl c), λ f. absurd (no_kind a_function (λ e. cc) (λ e. cc) root _ f.key f.place _ f.kept.defines)) }

unexports_none : (name : Text) → IsDefined world root an_unexport name → ⊥
unexports_none name d = no_kind an_unexport (λ e. cc) (λ e. cc) root name d.key d.place d.item d.defines

settings_none : (path : List Text) (own : Text) (s : SetShape) → HasSetting world [] path own s → ⊥
settings_none path own s h = no_setting own _ h.key h.place _ h.defines

module_there : (path : List Text) (r : ModuleRow) → of_root path (Some settings) ≡ Some r → IsModuleRow world [] (codes "/w") (codes "/w") path r
unfolding IsStrictlySortedBy
module_there [] r e = subst (λ (q : ModuleRow). IsModuleRow world [] (codes "/w") (codes "/w") [] q) (same_Some _ _ e) (record {
  own = root;
  is = root_module;
  unexports = [];
  unexported = record { sorted = tt; each = λ name. (λ c. absurd (contains_none [] name refl c), λ d. absurd (unexports_none name d)) };
  sets = [];
  settings = λ s. (λ c. absurd (contains_none [] s refl c), λ h. absurd (settings_none [] root s h));
  value = λ e. [];
  values = λ s p c. absurd (contains_none [] s refl c);
  is_root = true;
  rooted = (λ e. refl, λ e. refl);
  says = refl;
})
module_there (p ∷ ps) r e = absurd (none-some _ e)

module_back : (path : List Text) (r : ModuleRow) → IsModuleRow world [] (codes "/w") (codes "/w") path r → of_root path (Some settings) ≡ Some r
module_back path r h =
    let m = module_root path h.own h.is in
    let u = none_in (λ n. Unit {0}) h.unexports (λ name c. unexports_none name (subst (λ o. IsDefined world o an_unexport name) m.1 ((h.unexported.each name).0 c))) in
    let s = none_in (λ n. Unit {0}) h.sets (λ x c. settings_none path h.own x ((h.settings x).0 c)) in
    ap (λ p. of_root p (Some settings)) m.0 ∙ ap Some (sym (h.says ∙ (λ i. module_row h.value (codes "/w") (codes "/w") (h.rooted.1 m.0 i) (m.1 i) (u i) (s i))))

names_nowhere : (path : List Text) → ((own : Text) → IsModule world path own → ⊥) → (names_in path ≡ []) × (defined.functions path ≡ [])
names_nowhere [] h = absurd (h root root_module)
names_nowhere (p ∷ ps) h = (refl, refl)

pub are : AreDefined world [] (codes "/w") (codes "/w") defined
are = record {
  tree = λ path. (
    λ c. elim (contains_cases [] [] path c) [ inl e ↦ (root, subst (λ p. IsModule world p root) e root_module) | inr n ↦ absurd (contains_none [] path refl n) ],
    λ m. subst (Contains (paths_of defined.modules)) (sym (module_root path m.0 m.1).0) (contains_first [] []),
  );
  sorted = tt;
  recipes = λ r row. (recipe_there r.path r.recipe row, recipe_back r.path r.recipe row);
  aliases = λ r target. (λ e. absurd (none-some _ e), λ k. absurd (no_kind an_alias (λ e. cc) (λ e. cc) k.own _ k.kept.key k.kept.place _ k.kept.kept.defines));
  defaults = λ path r. (default_there path r, default_back path r);
  names = λ path own m. let e = module_root path own m in subst (λ (q : List Text × Text). AreNames world [] q.1 (names_in q.0)) (λ i. (sym e.0 i, sym e.1 i)) names_of_root;
  variables = λ x row. (variable_there x.path x.name row, variable_back x.path x.name row);
  overrides = λ x written. (λ e. absurd (none-some _ e), λ k. absurd (none-some _ k.overridden.found));
  functions = λ path own m. subst (λ o. AreFunctions world [] o []) (sym (module_root path own m).1) functions_of_root;
  nowhere = names_nowhere;
  modules = λ path row. (module_there path row, module_back path row);
}

pub rows : HaveRows defined
rows path there = elim (contains_cases [] [] path there) [ inl e ↦ (settings, ap (λ p. of_root p (Some settings)) (sym e)) | inr n ↦ absurd (contains_none [] path refl n) ]

pub clear : IsClear world [] (codes "/w") (codes "/w") defined
clear = record { none = no_rule; read = read; order = order; are = are; rows = rows }

-- its one word invokes the recipe
pub invokes : Invoke (menu_of defined) (codes "a" ∷ []) ((a, []) ∷ [])
unfolding halved_behind sorted
invokes = last (λ e. absurd cc) (record { behind = []; end = _; named = refl; taken = no_more refl; complete = refl; grouped = refl; left = refl })
