-- The variables of modules by their names.
use Rattle.std.proofs.Common.{◌≡◌, sym, ◌∙◌, ap, subst, List, ℕ, Option, Some, None, refl, ◌||◌, map, codes}
use Rattle.std.specs.Option.{option_and_then}
use Rattle.std.proofs.lemmas.Option.{none-some, same_Some}
use Rattle.tree_attributes.specs.Attributes.{AttributeShape}
use Rattle.tree_attributes.specs.declared.attribute.AttributeKind.TheVariants.{Private}
use Rattle.tree_expressions.specs.Cutting.{begins}
use Rattle.tree_items.specs.Files.{assignment_item}
use Rattle.tree_items.specs.Items.{AssignmentShape}
use Rattle.modules_compilation.specs.declared.compilation.Compilation.{Compilation}
use Rattle.modules_compilation.specs.declared.module_node.ModuleNode.{ModuleNode}
use Rattle.modules_compilation.specs.declared.place.Place.{Place}
use Rattle.resolve_recipes.specs.Named.{first_named, text_at}
use Rattle.meaning_rules.specs.Worlds.Given.{Overrides, Text, World}
use Rattle.meaning_rules.specs.Worlds.Modules.{IsModule}
use Rattle.meaning_rules.specs.Worlds.Keeping.{IsDefined, KeepsAt, a_variable}
use Rattle.meaning_rules.specs.Worlds.Compiled.{HasList}
use Rattle.meaning_rules.specs.Rules.{has}
use Rattle.meaning_rules.specs.Worlds.Views.{node_view}
use Rattle.laws_modules.specs.Names.Names.{AreSingle, HasNode, IsOfWorld, nodes, views}
use Rattle.laws_modules.proofs.Names.Named.{node_is}
use Rattle.meaning_evaluation.specs.Named.{VariableName, VariableRow}
use Rattle.just_meaning.specs.Defining.{AreNames, IsVariableRow}
use Rattle.laws_runs.specs.Resolved.Definitions.{key_at, names_at, node_of, rows_of, shape_at, variable_named, variable_of}
use Rattle.laws_runs.specs.Resolved.Assigned.{NamesStand, VariablesStand}
use Rattle.laws_runs.proofs.Resolved.Items.{is_item}
use Rattle.laws_runs.proofs.Resolved.Leading.{module_of, modules_stand, node_there}
use Rattle.laws_runs.proofs.Resolved.Listed.{IsFound, IsListed, first_of, found_is, kept_found, names_defined, names_sorted}

-- the row of an assignment with the name
abbrev as_row : Text → List AttributeShape → AssignmentShape → Text → VariableRow
as_row key attributes a name = record { file = key; value = a.value; export = a.export; eager = a.eager; private = has Private attributes || begins name (codes "_") }

-- the variables of a module that may be there
abbrev variables_of : Option ModuleNode → List Place
variables_of found = rows_of (λ node. node.assignments.items) found

module _ (compilation : Compilation) where
  abbrev row_there : Place → Option VariableRow
  row_there place = variable_of (key_at compilation place) (shape_at compilation place)

  -- the row at the place of an assignment
  row_is : (place : Place) (key : Text) (attributes : List AttributeShape) (a : AssignmentShape) (name : Text) → shape_at compilation place ≡ Some (assignment_item attributes a) → key_at compilation place ≡ key → a.name ≡ name
      → row_there place ≡ Some (as_row key attributes a name)
  row_is place key attributes a name shaped keyed named =
      ap (variable_of (key_at compilation place)) shaped ∙ ap (λ key. variable_of key (Some (assignment_item attributes a))) keyed ∙ ap (λ name. Some (as_row key attributes a name)) named

module _ (w : World) (compilation : Compilation) (is : IsOfWorld w compilation) (k : ℕ) (node : ModuleNode) (here : HasNode w compilation k node) where
  abbrev variables_here : HasList w (views w compilation) (nodes w compilation) (node_view node) a_variable node.assignments.items
  variables_here = (node_is w compilation is k node here).assignments

module _ (w : World) (compilation : Compilation) (is : IsOfWorld w compilation) (single : AreSingle w compilation) (o : Overrides) where
  -- the names of a module's variables are those that it defines
  names_of_module : (path : List Text) (own : Text) → IsModule w path own → AreNames w o own (names_at compilation path)
  names_of_module path own m =
      let p = (modules_stand w compilation is single path own).0 m in
      let texts : List Text = map (text_at compilation) p.node.assignments.items in
      let rows : names_at compilation path ≡ texts = ap (λ n. map (text_at compilation) (variables_of n)) (node_there w compilation path own p) in
      subst (AreNames w o own) (sym rows) (subst (λ q. AreNames w o q texts) p.is (record {
        sorted = names_sorted w compilation is p.k p.node p.here a_variable p.node.assignments.items (variables_here w compilation is p.k p.node p.here);
        each = names_defined w compilation is p.k p.node p.here a_variable p.node.assignments.items (variables_here w compilation is p.k p.node p.here);
      }))

  module _ (x : VariableName) where
    abbrev row_in : Option ModuleNode → Option VariableRow
    row_in found = option_and_then (row_there compilation) (first_named (text_at compilation) (variables_of found) x.name)

    -- the row at the place of the variable that the module keeps
    row_listed : (node : ModuleNode) (place : Place) → IsModule w x.path node.source.now → IsListed w compilation node a_variable x.name place → (row : VariableRow) × (row_there compilation place ≡ Some row) × IsVariableRow w o x row
    row_listed node place m l =
        let v = is_item a_variable x.name w.os l.item l.keeps.defines.is in (
          as_row l.key v.0 v.1 x.name,
          row_is compilation place l.key v.0 v.1 x.name (l.shaped ∙ ap (λ i. Some i) v.2) l.keyed v.3,
          record { own = node.source.now; is = m; key = l.key; place = l.at; attributes = v.0; shape = v.1; kept = subst (KeepsAt w node.source.now a_variable x.name l.key l.at) v.2 l.keeps; says = refl },
        )

    -- a row that is found is that of the variable that the module keeps
    to_row : (row : VariableRow) → variable_named compilation x ≡ Some row → IsVariableRow w o x row
    to_row row e = by_node (node_of compilation x.path) refl e
      where
        by_place : (k : ℕ) (node : ModuleNode) (here : HasNode w compilation k node) → IsModule w x.path node.source.now → (found : Option Place)
            → IsFound w compilation is k node here a_variable node.assignments.items (variables_here w compilation is k node here) x.name found → option_and_then (row_there compilation) found ≡ Some row → IsVariableRow w o x row
        by_place k node here m None f e = absurd (none-some row e)
        by_place k node here m (Some place) f e =
            let r = row_listed node place m f.1 in
            subst (IsVariableRow w o x) (same_Some r.0 row (sym r.1 ∙ e)) r.2

        by_node : (found : Option ModuleNode) → node_of compilation x.path ≡ found → row_in found ≡ Some row → IsVariableRow w o x row
        by_node None n e = absurd (none-some row e)
        by_node (Some node) n e =
            let m = module_of w compilation is single x.path node n in
            by_place m.0 node m.1 m.2 (first_named (text_at compilation) node.assignments.items x.name)
            (found_is w compilation is m.0 node m.1 a_variable node.assignments.items (variables_here w compilation is m.0 node m.1) x.name (first_named (text_at compilation) node.assignments.items x.name) refl) e

    -- the row of the variable that the module keeps is found
    from_row : (row : VariableRow) → IsVariableRow w o x row → variable_named compilation x ≡ Some row
    from_row row v =
        let p = (modules_stand w compilation is single x.path v.own).0 v.is in
        let item = assignment_item v.attributes v.shape in
        let keeps = subst (λ q. KeepsAt w q a_variable x.name v.key v.place item) (sym p.is) v.kept in
        let f = kept_found w compilation is p.k p.node p.here a_variable p.node.assignments.items (variables_here w compilation is p.k p.node p.here) x.name v.key v.place item keeps in
        let a = is_item a_variable x.name w.os item v.kept.defines.is in
        let items : item ≡ assignment_item a.0 a.1 = a.2 in
        let same : v.shape ≡ a.1 = cc items in
        ap row_in (node_there w compilation x.path v.own p) ∙ ap (option_and_then (row_there compilation)) f.found
        ∙ row_is compilation f.place v.key v.attributes v.shape x.name f.shaped f.keyed (ap (λ (s : AssignmentShape). s.name) same ∙ a.3)
        ∙ ap (λ r. Some r) (sym v.says)

    -- a variable that is defined has a row
    pub row_defined : (own : Text) → IsModule w x.path own → IsDefined w own a_variable x.name → (row : VariableRow) × (variable_named compilation x ≡ Some row)
    row_defined own m d =
        let p = (modules_stand w compilation is single x.path own).0 m in
        let defined = subst (λ q. IsDefined w q a_variable x.name) (sym p.is) d in
        let first = first_of w compilation is p.k p.node p.here a_variable p.node.assignments.items (variables_here w compilation is p.k p.node p.here) x.name defined in
        let r = row_listed p.node first.place (subst (IsModule w x.path) (sym p.is) m) first.stands in
        (r.0, from_row r.0 r.2)

-- the names of a module's variables are those of the world
pub names_stand : NamesStand
names_stand w compilation is single o path own m = names_of_module w compilation is single o path own m

-- a variable has just its row of the world
pub variables_stand : VariablesStand
variables_stand w compilation is single o x row = (to_row w compilation is single o x row, from_row w compilation is single o x row)
