-- The functions of modules by their names.
use Rattle.std.proofs.Common.{◌≡◌, sym, ◌∙◌, ap, subst, List, ℕ, Option, Some, map}
use Rattle.std.specs.Prelude.{Contains}
use Rattle.std.specs.List.{filter_map}
use Rattle.std.specs.List.Sorted.{IsStrictlySortedBy}
use Rattle.std.proofs.lemmas.Option.{same_Some}
use Rattle.tree_items.specs.Files.{function_item}
use Rattle.tree_items.specs.Items.{FunctionShape}
use Rattle.modules_compilation.specs.Tables.{text_cmp}
use Rattle.modules_compilation.specs.declared.compilation.Compilation.{Compilation}
use Rattle.modules_compilation.specs.declared.module_node.ModuleNode.{ModuleNode}
use Rattle.modules_compilation.specs.declared.place.Place.{Place}
use Rattle.meaning_rules.specs.Worlds.Given.{Overrides, Text, World}
use Rattle.meaning_rules.specs.Worlds.Keeping.{KeepsAt, a_function}
use Rattle.meaning_rules.specs.Worlds.Compiled.{HasList}
use Rattle.meaning_rules.specs.Worlds.Views.{node_view}
use Rattle.laws_modules.specs.Names.Names.{HasNode, IsOfWorld, nodes, views}
use Rattle.laws_modules.proofs.Names.Named.{node_is}
use Rattle.meaning_evaluation.specs.Named.{FunctionRow}
use Rattle.just_meaning.specs.Defining.{AreFunctions, IsFunctionRow}
use Rattle.laws_runs.specs.Resolved.Definitions.{function_of, functions_at, key_at, rows_of, shape_at}
use Rattle.laws_runs.specs.Resolved.Assigned.{FunctionsStand}
use Rattle.laws_runs.proofs.Resolved.Items.{is_item}
use Rattle.laws_runs.proofs.Resolved.Listed.{IsListed, kept_found, listed, listed_at}
use Rattle.laws_runs.proofs.Resolved.Leading.{modules_stand, node_there}
use Rattle.laws_runs.proofs.Resolved.Lists.{given_back, given_is, given_there}

-- the row of a function
abbrev as_row : Text → FunctionShape → FunctionRow
as_row key f = record { file = key; name = f.name; parameters = f.parameters; body = f.body }

abbrev row_name : FunctionRow → Text
row_name row = row.name

module _ (compilation : Compilation) where
  abbrev row_there : Place → Option FunctionRow
  row_there place = function_of (key_at compilation place) (shape_at compilation place)

  -- the row at the place of a function
  row_is : (place : Place) (key : Text) (f : FunctionShape) → shape_at compilation place ≡ Some (function_item f) → key_at compilation place ≡ key → row_there place ≡ Some (as_row key f)
  row_is place key f shaped keyed = ap (function_of (key_at compilation place)) shaped ∙ ap (λ key. function_of key (Some (function_item f))) keyed

module _ (w : World) (compilation : Compilation) (is : IsOfWorld w compilation) (k : ℕ) (node : ModuleNode) (here : HasNode w compilation k node) where
  abbrev functions_here : HasList w (views w compilation) (nodes w compilation) (node_view node) a_function node.functions.items
  functions_here = (node_is w compilation is k node here).functions

  -- the function that the module keeps at a place
  record HasFunction (name : Text) (place : Place) : Type 0 where
    key : Text
    at : ℕ
    shape : FunctionShape
    keeps : KeepsAt w node.source.now a_function name key at (function_item shape)
    given : row_there compilation place ≡ Some (as_row key shape)
    named : shape.name ≡ name

  function_there : (name : Text) (place : Place) → IsListed w compilation node a_function name place → HasFunction name place
  function_there name place l =
      let f = is_item a_function name w.os l.item l.keeps.defines.is in
      record {
        key = l.key;
        at = l.at;
        shape = f.0;
        keeps = subst (KeepsAt w node.source.now a_function name l.key l.at) f.1 l.keeps;
        given = row_is compilation place l.key f.0 (l.shaped ∙ ap (λ i. Some i) f.1) l.keyed;
        named = f.2;
      }

  rows_sorted : IsStrictlySortedBy text_cmp (map row_name (filter_map (row_there compilation) node.functions.items))
  rows_sorted = subst (IsStrictlySortedBy text_cmp) (sym (given_is (row_there compilation) row_name functions_here.0 node.functions.items functions_here.1.many (λ n name place e f.
      let h = function_there name place (listed w compilation is k node here a_function node.functions.items functions_here n name place e f) in
      (as_row h.key h.shape, h.given, h.named)))) functions_here.1.sorted

  module _ (o : Overrides) (row : FunctionRow) where
    to_row : Contains (filter_map (row_there compilation) node.functions.items) row → IsFunctionRow w o node.source.now row
    to_row c =
        let b = given_back (row_there compilation) node.functions.items row c in
        let l = listed_at w compilation is k node here a_function node.functions.items functions_here b.0 b.1 in
        let h = function_there l.0 b.0 l.1 in
        let says = same_Some row (as_row h.key h.shape) (sym b.2 ∙ h.given) in
        let name : l.0 ≡ row.name = sym (ap row_name says ∙ h.named) in
        record { key = h.key; place = h.at; shape = h.shape; kept = subst (λ n. KeepsAt w node.source.now a_function n h.key h.at (function_item h.shape)) name h.keeps; says = says }

    from_row : IsFunctionRow w o node.source.now row → Contains (filter_map (row_there compilation) node.functions.items) row
    from_row v =
        let item = function_item v.shape in
        let f = kept_found w compilation is k node here a_function node.functions.items functions_here row.name v.key v.place item v.kept in
        given_there (row_there compilation) node.functions.items f.place row f.contained (row_is compilation f.place v.key v.shape f.shaped f.keyed ∙ ap (λ r. Some r) (sym v.says))

-- the functions of a module are those of the world
pub functions_stand : FunctionsStand
functions_stand w compilation is single o path own m =
    let p = (modules_stand w compilation is single path own).0 m in
    let rows : List FunctionRow = filter_map (row_there compilation) p.node.functions.items in
    let same : functions_at compilation path ≡ rows = ap (λ n. filter_map (row_there compilation) (rows_of (λ node. node.functions.items) n)) (node_there w compilation path own p) in
    subst (AreFunctions w o own) (sym same) (subst (λ q. AreFunctions w o q rows) p.is (record {
      sorted = rows_sorted w compilation is p.k p.node p.here;
      each = λ row. (to_row w compilation is p.k p.node p.here o row, from_row w compilation is p.k p.node p.here o row);
    }))
