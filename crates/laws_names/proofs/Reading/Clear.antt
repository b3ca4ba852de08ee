-- Where nothing is refused, no rule of reading is broken.
use Rattle.std.proofs.Common.{◌≡◌, inl, inr, refl, sym, ◌∙◌, ap, subst, Bool, true, false, if◌then◌else◌, List, [], ◌++◌, length, Option, Some, None, ℕ, ◌+◌}
use Rattle.std.specs.Prelude.{slice_get, Contains, Ok}
use Rattle.std.proofs.lemmas.List.{append-nil}
use Rattle.std.proofs.lemmas.Option.{none-some, same_Some}
use Rattle.just_text.specs.declared.os.Os.{Os}
use Rattle.tree_expressions.specs.Shape.{Shape}
use Rattle.tree_expressions.specs.declared.expression.Expression.{Expression}
use Rattle.tree_attributes.specs.Attributes.{AttributeShape}
use Rattle.tree_items.specs.Files.{ItemShape, alias_item, assignment_item, comment_item, function_item, import_item, item_shape, module_item, newline_item, recipe_item, set_item, unexport_item}
use Rattle.tree_items.specs.declared.ast.Item.{Item}
use Rattle.tree_items.specs.declared.ast.Item.TheVariants.{Assignment, Function, Recipe, Set}
use Rattle.tree_items.specs.declared.item.Binding.{Binding}
use Rattle.tree_items.specs.declared.item.FunctionDefinition.{FunctionDefinition}
use Rattle.modules_compilation.specs.Places.{item_at}
use Rattle.modules_compilation.specs.declared.compilation.Compilation.{Compilation}
use Rattle.modules_compilation.specs.declared.module_node.ModuleNode.{ModuleNode}
use Rattle.modules_compilation.specs.declared.place.Place.{Place}
use Rattle.resolve_references.specs.Places.{place_of as place_of_reference, places_of}
use Rattle.resolve_references.specs.References.{references_of}
use Rattle.resolve_references.specs.Seen.{Seen, seen_in}
use Rattle.resolve_references.specs.declared.references.Reference.{Reference}
use Rattle.resolve_analysis.specs.Reads.{bodies, right_sides}
use Rattle.meaning_rules.specs.Worlds.Given.{Overrides, Text, World}
use Rattle.meaning_rules.specs.Worlds.Keeping.{Keeps, Kind, a_function, a_recipe, a_setting, a_submodule, a_variable, an_alias, an_unexport, defined_by}
use Rattle.meaning_rules.specs.Worlds.Sources.{enabled}
use Rattle.meaning_rules.proofs.Worlds.Places.{contains_at, contains_none, place_of, push_left}
use Rattle.meaning_rules.specs.Fixed.{value_of}
use Rattle.meaning_rules.specs.Naming.{Occurrence, Part, a_call, a_variable as a_variable_of, occurrences, parts_of}
use Rattle.meaning_rules.specs.Rules.{HasPart, Rule, looked}
use Rattle.laws_modules.specs.Names.Names.{HasNode}
use Rattle.laws_modules.proofs.Names.Found.{mapped}
use Rattle.laws_modules.proofs.Names.Modules.{modules_are_nodes}
use Rattle.laws_modules.specs.References.Occurrences.{occurrence_of}
use Rattle.laws_names.specs.Reading.Clear.{IsClear, ReadsAreClear}
use Rattle.laws_names.specs.Reading.Meant.{IsNumberedWorld}
use Rattle.laws_names.specs.Reading.Parts.{part_of, references_in, references_seen}
use Rattle.laws_names.specs.Reading.Places.{IsClearIn, IsPlaceMeant, Refuses, is_undefined, is_unknown, takes_other}
use Rattle.laws_names.specs.Reading.Told.{KeepsItem}
use Rattle.laws_names.proofs.Reading.Items.{kept_there, occurred, part_seen}
use Rattle.laws_names.proofs.Reading.Kept.{kept_at, kept_shape, said}
use Rattle.laws_names.proofs.Reading.Lists.{contains_flat, push_right}
use Rattle.laws_names.proofs.Reading.Module.{function_there, functions, is_node, variable_there, variables}
use Rattle.laws_names.proofs.Reading.Outcomes.{given_of, row_of}
use Rattle.laws_names.proofs.Reading.Places.{places_are_meant}
use Rattle.laws_names.proofs.Reading.References.{recipe_references_are_seen, setting_references_are_seen}

-- ---- items with parts

-- definitions of the kind have expressions
abbrev HasExpressions : Kind → Type 0
HasExpressions an_alias = ⊥
HasExpressions a_function = Unit {0}
HasExpressions a_recipe = Unit {0}
HasExpressions a_setting = Unit {0}
HasExpressions a_submodule = ⊥
HasExpressions a_variable = Unit {0}
HasExpressions an_unexport = ⊥

module _ (kind : Kind) (name : Text) where
  expressive : (kind' : Kind) (text : Text) → HasExpressions kind' → said kind' text ≡ said kind name → HasExpressions kind
  expressive kind' text h e = subst HasExpressions (ap (λ (p : Kind × Text). p.0) (same_Some (kind', text) (kind, name) e)) h

  expressive_if : (b : Bool) (kind' : Kind) (text : Text) → HasExpressions kind' → (if b then said kind' text else None) ≡ said kind name → HasExpressions kind
  expressive_if true kind' text h e = expressive kind' text h e
  expressive_if false kind' text h e = absurd (none-some (kind, name) e)

  -- what has a part is of such a kind
  has_expressions : (os : Os) (value : List AttributeShape → Text → Option Shape) (item : ItemShape) (p : Part) → defined_by os item ≡ said kind name → Contains (parts_of value item) p → HasExpressions kind
  has_expressions os value (alias_item attributes a) p e c = absurd (contains_none [] p refl c)
  has_expressions os value (assignment_item attributes a) p e c = expressive_if (enabled os attributes) a_variable a.name tt e
  has_expressions os value (comment_item text) p e c = absurd (contains_none [] p refl c)
  has_expressions os value (function_item f) p e c = expressive a_function f.name tt e
  has_expressions os value (import_item line) p e c = absurd (contains_none [] p refl c)
  has_expressions os value (module_item attributes m) p e c = absurd (contains_none [] p refl c)
  has_expressions os value newline_item p e c = absurd (contains_none [] p refl c)
  has_expressions os value (recipe_item attributes r) p e c = expressive_if (enabled os attributes) a_recipe r.name tt e
  has_expressions os value (set_item attributes s) p e c = expressive_if (enabled os attributes) a_setting s.name tt e
  has_expressions os value (unexport_item text) p e c = absurd (contains_none [] p refl c)

-- where a place is given, no rule is broken
clear_where_given : (w : World) (compilation : Compilation) (node : ModuleNode) (p : Part) (o : Occurrence) (found : Option ℕ) → IsPlaceMeant w compilation node p o (Ok found) → IsClearIn w compilation node p o
clear_where_given w compilation node p o None h = h.0
clear_where_given w compilation node p o (Some place) h = h.0

module _ (w : World) (compilation : Compilation) (n : IsNumberedWorld w compilation) (k : ℕ) (node : ModuleNode) (here : HasNode w compilation k node) where
  -- ---- what is looked at is kept

  -- an item of the shape that the module keeps
  abbrev HasKept : ItemShape → Type 0
  HasKept shape = (item : Item) × KeepsItem compilation node item × (item_shape item ≡ shape)

  looked_kept : (kind : Kind) (name : Text) (shape : ItemShape) → HasExpressions kind → Keeps w node.source.now kind name shape → HasKept shape
  looked_kept an_alias name shape h keeps = absurd h
  looked_kept a_function name shape h keeps =
      let is = is_node w compilation n k node here in
      let s = kept_shape w compilation node a_function is.functions.0 node.functions.items is.functions.1 name shape keeps in
      (s.2, record { place = s.1; kept = inr (inl (contains_at node.functions.items s.0 s.1 s.3)); there = s.4.there }, s.5)
  looked_kept a_recipe name shape h keeps =
      let is = is_node w compilation n k node here in
      let s = kept_shape w compilation node a_recipe is.recipes.names node.recipes.items is.recipes.are name shape keeps in
      (s.2, record { place = s.1; kept = inr (inr (inl (contains_at node.recipes.items s.0 s.1 s.3))); there = s.4.there }, s.5)
  looked_kept a_setting name shape h keeps =
      let is = is_node w compilation n k node here in
      let s = kept_shape w compilation node a_setting is.sets.0 node.sets.items is.sets.1 name shape keeps in
      (s.2, record { place = s.1; kept = inr (inr (inr (contains_at node.sets.items s.0 s.1 s.3))); there = s.4.there }, s.5)
  looked_kept a_submodule name shape h keeps = absurd h
  looked_kept a_variable name shape h keeps =
      let is = is_node w compilation n k node here in
      let s = kept_shape w compilation node a_variable is.assignments.0 node.assignments.items is.assignments.1 name shape keeps in
      (s.2, record { place = s.1; kept = inl (contains_at node.assignments.items s.0 s.1 s.3); there = s.4.there }, s.5)
  looked_kept an_unexport name shape h keeps = absurd h

  -- ---- what is kept is not refused

  module _ (c : IsClear compilation node) where
    abbrev vs : List (Binding Expression)
    vs = variables w compilation n k node here

    abbrev fs : List FunctionDefinition
    fs = functions w compilation n k node here

    abbrev IsGiven : Item → Type 0
    IsGiven item = (places : List ℕ) × (places_of c.resolver (references_in item) ≡ Ok places)

    given_alone : (e : Expression) (i : ℕ) → slice_get (right_sides vs ++ bodies fs) i ≡ Some e → (places : List ℕ) × (places_of c.resolver (references_of e ++ []) ≡ Ok places)
    given_alone e i at =
        let r = row_of c.resolver (right_sides vs ++ bodies fs) c.graph c.rows i e at in
        (r.0, ap (places_of c.resolver) (append-nil (references_of e)) ∙ r.2)

    variable_given : (item : Item) (place : Place) → Contains node.assignments.items place → item_at compilation place ≡ Some item → IsGiven item
    variable_given item place listed e =
        let at = place_of node.assignments.items place listed in
        let v = variable_there w compilation n k node here at.0 place at.1 in
        subst IsGiven (same_Some (Assignment v.0) item (sym v.2 ∙ e))
        (given_alone v.0.value at.0 (push_left (right_sides vs) (bodies fs) at.0 v.0.value (mapped (λ (x : Binding Expression). x.value) vs at.0 v.0 v.1)))

    function_given : (item : Item) (place : Place) → Contains node.functions.items place → item_at compilation place ≡ Some item → IsGiven item
    function_given item place listed e =
        let at = place_of node.functions.items place listed in
        let f = function_there w compilation n k node here at.0 place at.1 in
        subst IsGiven (same_Some (Function f.0) item (sym f.2 ∙ e))
        (given_alone f.0.body (length (right_sides vs) + at.0) (push_right (right_sides vs) (bodies fs) at.0 f.0.body (mapped (λ (x : FunctionDefinition). x.body) fs at.0 f.0 f.1)))

    recipe_given : (item : Item) (place : Place) → Contains node.recipes.items place → item_at compilation place ≡ Some item → IsGiven item
    recipe_given item place listed e =
        let is = is_node w compilation n k node here in
        let at = place_of node.recipes.items place listed in
        let r = kept_at w compilation node a_recipe is.recipes.names node.recipes.items is.recipes.are at.0 place at.1 in
        let t = r.3.thing in
        let there : item_at compilation place ≡ Some (Recipe t.0) = r.3.there ∙ ap (λ i. Some i) t.1 in
        let given = c.recipes place t.0 listed there in
        subst IsGiven (same_Some (Recipe t.0) item (sym there ∙ e)) (given.0, ap (places_of c.resolver) (sym (recipe_references_are_seen t.0)) ∙ given.1)

    setting_given : (item : Item) (place : Place) → Contains node.sets.items place → item_at compilation place ≡ Some item → IsGiven item
    setting_given item place listed e =
        let is = is_node w compilation n k node here in
        let at = place_of node.sets.items place listed in
        let r = kept_at w compilation node a_setting is.sets.0 node.sets.items is.sets.1 at.0 place at.1 in
        let t = r.3.thing in
        let there : item_at compilation place ≡ Some (Set t.0) = r.3.there ∙ ap (λ i. Some i) t.1 in
        let given = c.sets place t.0 listed there in
        subst IsGiven (same_Some (Set t.0) item (sym there ∙ e)) (given.0, ap (places_of c.resolver) (sym (setting_references_are_seen t.0)) ∙ given.1)

    item_given : (item : Item) → KeepsItem compilation node item → IsGiven item
    item_given item h = elim h.kept [
      | inl d ↦ variable_given item h.place d h.there
      | inr d ↦ elim d [
        | inl e ↦ function_given item h.place e h.there
        | inr e ↦ elim e [
          | inl f ↦ recipe_given item h.place f h.there
          | inr f ↦ setting_given item h.place f h.there
        ]
      ]
    ]

    -- no reference that has been given a place breaks a rule
    reference_clear : (item : Item) → KeepsItem compilation node item → (s : Seen) → Contains (seen_in item) s → (r : Reference) → Contains (references_of s.expression) r
        → (found : Option ℕ) → place_of_reference c.resolver r ≡ Ok found → IsClearIn w compilation node (part_of s) (occurrence_of r)
    reference_clear item kept s seen r listed found e =
        clear_where_given w compilation node (part_of s) (occurrence_of r) found
        (subst (IsPlaceMeant w compilation node (part_of s) (occurrence_of r)) e (places_are_meant w compilation n k node here c.resolver c.of item (kept_there w compilation n k node here item kept).0 s seen r listed))

    -- no part of an item that is kept breaks a rule
    part_clear : (shape : ItemShape) → HasKept shape → (p : Part) → Contains (parts_of (value_of w.expansion) shape) p → (o : Occurrence) → Contains (occurrences p.said) o → IsClearIn w compilation node p o
    part_clear shape h p part o occurs =
        let q = part_seen w compilation n h.1.place h.0 h.1.there p (subst (λ x. Contains (parts_of (value_of w.expansion) x) p) (sym h.2) part) in
        let r = occurred q.0 o (subst (λ (x : Part). Contains (occurrences x.said) o) (sym q.2) occurs) in
        let given = item_given h.0 h.1 in
        let found = given_of c.resolver (references_in h.0) given.0 given.1 r.0 (contains_flat references_seen (seen_in h.0) q.0 r.0 q.1 r.1) in
        let clear = reference_clear h.0 h.1 q.0 q.1 r.0 r.1 found.0 found.1 in
        subst (λ x. IsClearIn w compilation node x o) q.2 (subst (IsClearIn w compilation node (part_of q.0)) r.2 clear)

module _ (w : World) (o : Overrides) (compilation : Compilation) (n : IsNumberedWorld w compilation) (all : (k : ℕ) (node : ModuleNode) → HasNode w compilation k node → IsClear compilation node) where
  -- no occurrence in a part that is looked at breaks a rule
  none_refused : (own : Text) (p : Part) → HasPart w own p → (occurrence : Occurrence) → Contains (occurrences p.said) occurrence → (rule : Rule) → Refuses w own p occurrence rule → ⊥
  none_refused own p (shape, looked {kind} {name} {path} is keeps, part) occurrence occurs rule refused =
      let m = modules_are_nodes w compilation n.of n.single path own is in
      let kept = subst (λ t. Keeps w t kind name shape) (sym m.4) keeps in
      let h = looked_kept w compilation n m.0 m.1 m.2 kind name shape (has_expressions kind name w.os (value_of w.expansion) shape p keeps.kept.defines.is part) kept in
      part_clear w compilation n m.0 m.1 m.2 (all m.0 m.1 m.2) shape h p part occurrence occurs rule (subst (λ t. Refuses w t p occurrence rule) (sym m.4) refused)

pub reads_are_clear : ReadsAreClear
reads_are_clear w o compilation n all = record {
  variables = λ name b. let (own, p, has, occurs, unseen, none, none') = b.breaks in none_refused w o compilation n all own p has (a_variable_of name) occurs _ (is_undefined unseen none none');
  functions = λ name b. let (own, p, count, has, occurs, none) = b.breaks in none_refused w o compilation n all own p has (a_call name count) occurs _ (is_unknown none);
  counts = λ name count b. let (own, p, has, occurs, other) = b.breaks in none_refused w o compilation n all own p has (a_call name count) occurs _ (takes_other other);
}
