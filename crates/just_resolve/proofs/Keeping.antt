-- What a module keeps and reads, and the order of its variables.
use Rattle.std.proofs.Common.{◌≡◌, ◌∙◌, ◌≤◌, ◌^◌, ℕ, Some, Ok, String, length, subst, sym, ap, arith}
use Rattle.std.specs.Prelude.{slice_get}
use Rattle.std.specs.BTreeMap.{BTreeMap}
use Rattle.std.specs.Global.{Vec}
use Rattle.std.proofs.lemmas.List.{length-map}
use Rattle.std.proofs.lemmas.Option.{same_Some, slice_get_within}
use Rattle.just_text.specs.Tokens.{lexeme}
use Rattle.modules_compilation.specs.declared.compilation.Compilation.{Compilation}
use Rattle.modules_compilation.specs.declared.module_node.ModuleNode.{ModuleNode}
use Rattle.resolve_order.specs.Needs.{rows}
use Rattle.resolve_order.specs.Reads.{IsVariableOrder}
use Rattle.resolve_analysis.specs.Lists.{Kept, kept_by, kept_in}
use Rattle.resolve_analysis.specs.Reads.{IsResolverOf, expressions_of, rows_of}
use Rattle.resolve_analysis.specs.declared.module_lists.ModuleLists.{ModuleLists}
use Rattle.resolve_analysis.specs.declared.module_reads.ModuleReads.{ModuleReads}
use Rattle.resolve_analysis.specs.declared.variables.ModuleVariables.{ModuleVariables}
use Rattle.laws_modules.proofs.Names.Found.{mapped, mapped_at, there_within}
use Rattle.laws_names.specs.Reading.Cycles.{IsGraphOf}
use Rattle.laws_names.specs.Reading.Places.{variable_names}
use Rattle.just_resolve.specs.Settling.{IsModuleAt}
use Rattle.just_resolve.specs.Variables.{AreVariables, IsOrderOf, IsReads}

-- of the module at a place
pub record IsModuleOf {A : Type 0} (overrides : BTreeMap ℕ (String A)) (compilation : Compilation) (variables : ModuleVariables) (k : ℕ) (node : ModuleNode) : Type 0 where
  pub lists : ModuleLists
  pub lists_there : slice_get variables.lists.items k ≡ Some lists
  pub same : kept_in lists ≡ kept_by compilation node
  pub reads : ModuleReads
  pub reads_there : slice_get variables.reads.items k ≡ Some reads
  pub reads_are : IsReads overrides lists reads
  pub order : Vec ℕ
  pub order_there : slice_get variables.orders.items k ≡ Some order
  pub order_is : IsOrderOf lists reads order.items

module _ {A : Type 0} (overrides : BTreeMap ℕ (String A)) (compilation : Compilation) (variables : ModuleVariables) where
  -- each module has it
  pub of_module : AreVariables overrides compilation variables → (k : ℕ) (node : ModuleNode) → slice_get compilation.modules.items k ≡ Some node → IsModuleOf overrides compilation variables k node
  of_module are k node here =
      let kept = mapped_at kept_in variables.lists.items k (kept_by compilation node) (ap (λ all. slice_get all k) are.lists ∙ mapped (kept_by compilation) compilation.modules.items k node here) in
      let within = slice_get_within variables.lists.items k kept.0 kept.1 in
      let many_reads = are.of.reads.many in
      let many_orders = are.of.orders.many in
      let reads = there_within variables.reads.items k (omega (arith, within, many_reads)) in
      let order = there_within variables.orders.items k (omega (arith, within, many_orders)) in
      record {
        lists = kept.0;
        lists_there = kept.1;
        same = kept.2;
        reads = reads.0;
        reads_there = reads.1;
        reads_are = are.of.reads.each k reads.0 reads.1 kept.0 kept.1;
        order = order.0;
        order_there = order.1;
        order_is = are.of.orders.each k order.0 order.1 kept.0 reads.0 kept.1 reads.1;
      }

  -- and what stands at the place of a module is that
  abbrev pub there : AreVariables overrides compilation variables → (k : ℕ) (node : ModuleNode) (lists : ModuleLists) (reads : ModuleReads) (order : Vec ℕ)
      → IsModuleAt compilation variables.lists.items variables.reads.items variables.orders.items overrides k node lists reads order → IsModuleOf overrides compilation variables k node
  there are k node lists reads order at = record {
    lists = lists;
    lists_there = at.lists_there;
    same = same_Some (kept_in lists) (kept_by compilation node)
        (sym (mapped kept_in variables.lists.items k lists at.lists_there) ∙ ap (λ all. slice_get all k) are.lists ∙ mapped (kept_by compilation) compilation.modules.items k node at.node_there);
    reads = reads;
    reads_there = at.reads_there;
    reads_are = are.of.reads.each k reads at.reads_there lists at.lists_there;
    order = order;
    order_there = at.order_there;
    order_is = are.of.orders.each k order at.order_there lists reads at.lists_there at.reads_there;
  }

  module _ (k : ℕ) (node : ModuleNode) (m : IsModuleOf overrides compilation variables k node) where
    -- its resolver is one of what the module keeps
    pub resolver_is : IsResolverOf (kept_by compilation node) m.reads.resolver
    resolver_is = subst (λ kept. IsResolverOf kept m.reads.resolver) m.same m.reads_are.resolver

    -- and its graph has what the expressions of that read and call
    pub rows_are : rows_of m.reads.resolver (expressions_of (kept_by compilation node)) ≡ Ok (rows m.reads.graph.items)
    rows_are = ap (λ kept. rows_of m.reads.resolver (expressions_of kept)) (sym m.same) ∙ m.reads_are.graph

    -- the graph is that of the module
    pub graph_is : IsGraphOf compilation node (rows m.reads.graph.items)
    graph_is = record { resolver = m.reads.resolver; of = resolver_is; rows = rows_are }

    -- as a list in memory, it has no more rows than there are numbers of places
    pub graph_few : length (rows m.reads.graph.items) ≤ 2 ^ 64
    graph_few =
        let graph = m.reads.graph in
        let many = length-map graph.items (λ row. row.items) in
        let is = graph.ok.0 in
        let room = graph.ok.1 in
        let small = graph.small in
        omega (arith, many, is, room, small)

    -- the order is one of the module's variables
    pub order_of_names : IsVariableOrder (rows m.reads.graph.items) (length (variable_names compilation node)) m.order.items
    order_of_names =
        let names = length-map (kept_by compilation node).variables (λ variable. lexeme variable.name.token) in
        let lent = length-map m.lists.assignments.items (λ lent. lent.assignment.now) in
        let kept = ap (λ (kept : Kept). length kept.variables) m.same in
        subst (λ count. IsVariableOrder (rows m.reads.graph.items) count m.order.items) (sym lent ∙ kept ∙ sym names) m.order_is
