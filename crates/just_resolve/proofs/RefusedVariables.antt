-- Variables and functions that read what is not there, or each other in a cycle.
use Rattle.std.proofs.Common.{◌≡◌, ◌∙◌, ◌<◌, ℕ, List, [], ◌∷◌, Option, Some, String, length, map, refl, subst, sym, ap}
use Rattle.std.specs.Prelude.{slice_get, Contains}
use Rattle.std.specs.BTreeMap.{BTreeMap}
use Rattle.std.specs.List.{cons_option, filter_map}
use Rattle.std.specs.Option.{option_map}
use Rattle.std.proofs.lemmas.List.{length-map}
use Rattle.std.proofs.lemmas.Simd.{map-map}
use Rattle.just_text.specs.Tokens.{lexeme}
use Rattle.just_text.specs.declared.name.Name.{Name}
use Rattle.tree_expressions.specs.declared.expression.Expression.{Expression}
use Rattle.tree_items.specs.declared.item.Binding.{Binding}
use Rattle.evaluate_context.specs.declared.context.AssignmentRef.{AssignmentRef}
use Rattle.modules_compilation.specs.declared.compilation.Compilation.{Compilation}
use Rattle.modules_compilation.specs.declared.module_node.ModuleNode.{ModuleNode}
use Rattle.resolve_order.specs.Cycles.{IsReadCycle}
use Rattle.resolve_order.specs.Needs.{rows}
use Rattle.resolve_references.specs.declared.read_fault.ReadFault.{ReadFault}
use Rattle.resolve_analysis.specs.Lists.{Kept, kept_by, kept_in}
use Rattle.resolve_analysis.specs.Reads.{IsRefusal, IsResolverOf, expressions_of, rows_of}
use Rattle.resolve_analysis.specs.declared.module_lists.ModuleLists.{ModuleLists}
use Rattle.resolve_analysis.specs.declared.module_reads.ModuleReads.{ModuleReads}
use Rattle.meaning_rules.specs.Worlds.Given.{Overrides, World}
use Rattle.meaning_rules.proofs.Worlds.Places.{contains_first, contains_later, place_of}
use Rattle.meaning_rules.specs.Rules.{circular_variable}
use Rattle.laws_modules.proofs.Names.Found.{mapped, mapped_at, there_within}
use Rattle.laws_names.specs.Reading.Cycles.{AreNamesAt, IsGraphOf}
use Rattle.laws_names.specs.Reading.Meant.{IsNumberedWorld}
use Rattle.laws_names.specs.Reading.Places as places
use Rattle.just_resolve.specs.Cycles.{IsCircularVariable, variable_names}
use Rattle.just_resolve.specs.Faults.{reading_error}
use Rattle.just_resolve.specs.Rules.{IsNamed, texts_of}
use Rattle.just_resolve.specs.Variables.{AreListsOf, AreRefused, AreVariablesRefused, IsReadRefused, IsReads, ordering, reading}
use Rattle.just_resolve.specs.declared.error.Error.{Error}
use Rattle.just_resolve.proofs.Laws.{Laws}
use Rattle.just_resolve.proofs.Naming.{reading_named}

-- ---- the lists of a module

-- the module whose lists stand at a place stands there too, and what its lists have is what it keeps
pub record IsNodeOf (compilation : Compilation) (place : ℕ) (lists : ModuleLists) : Type 0 where
  pub node : ModuleNode
  pub here : slice_get compilation.modules.items place ≡ Some node
  pub same : kept_by compilation node ≡ kept_in lists

module _ {A : Type 0} (overrides : BTreeMap ℕ (String A)) (compilation : Compilation) (all : List ModuleLists) (are : AreListsOf overrides compilation all) where
  -- the module of lists
  pub node_of : (place : ℕ) (lists : ModuleLists) → slice_get all place ≡ Some lists → IsNodeOf compilation place lists
  node_of place lists e =
      let m = mapped_at (kept_by compilation) compilation.modules.items place (kept_in lists) (sym (ap (λ ks. slice_get ks place) are) ∙ mapped kept_in all place lists e) in
      record { node = m.0; here = m.1; same = m.2 }

  -- the lists of a module, and what they have
  pub lists_of_node : (place : ℕ) (node : ModuleNode) → slice_get compilation.modules.items place ≡ Some node → (lists : ModuleLists) × (slice_get all place ≡ Some lists) × (kept_in lists ≡ kept_by compilation node)
  lists_of_node place node e = mapped_at kept_in all place (kept_by compilation node) (ap (λ ks. slice_get ks place) are ∙ mapped (kept_by compilation) compilation.modules.items place node e)

-- ---- names at places

module _ {X : Type 0} (name : X → Name) (xs : List X) where
  abbrev name_there : ℕ → Option Name
  name_there place = option_map name (slice_get xs place)

  -- the texts of the names that stand at places, all of which are there
  names_there : (ps : List ℕ) → ((place : ℕ) → Contains ps place → place < length xs) → map (slice_get (map (λ x. lexeme (name x).token) xs)) ps ≡ map (λ t. Some t) (texts_of (filter_map name_there ps))
  names_there [] within = refl
  names_there (p ∷ ps) within =
      let there = there_within xs p (within p (contains_first p ps)) in
      by_there there.0 there.1 (names_there ps (λ place h. within place (contains_later p ps place h)))
    where
      by_there : (x : X) → slice_get xs p ≡ Some x → map (slice_get (map (λ x. lexeme (name x).token) xs)) ps ≡ map (λ t. Some t) (texts_of (filter_map name_there ps))
          → map (slice_get (map (λ x. lexeme (name x).token) xs)) (p ∷ ps) ≡ map (λ t. Some t) (texts_of (filter_map name_there (p ∷ ps)))
      by_there x at later =
          ap (λ t. t ∷ map (slice_get (map (λ x. lexeme (name x).token) xs)) ps) (mapped (λ x. lexeme (name x).token) xs p x at)
          ∙ ap (λ ts. Some (lexeme (name x).token) ∷ ts) later
          ∙ ap (λ o. map (λ t. Some t) (texts_of (cons_option (option_map name o) (filter_map name_there ps)))) (sym at)

-- ---- what is refused

module _ (laws : Laws) (w : World) (compilation : Compilation) (is : IsNumberedWorld w compilation) (o : Overrides) {A : Type 0} (overrides : BTreeMap ℕ (String A)) where
  module _ (all : List ModuleLists) (are : AreListsOf overrides compilation all) where
    -- an expression reads or calls what is not there
    read_refused : (fault : ReadFault) → IsReadRefused all fault → IsNamed w o (reading_error fault)
    read_refused fault refused =
        let at = place_of all refused.lists refused.one in
        let of = node_of overrides compilation all are at.0 refused.lists at.1 in
        reading_named w o fault (laws.refusals w o compilation is at.0 of.node of.here fault (subst (λ kept. IsRefusal kept fault) (sym of.same) refused.refused))

    -- the names of the module's variables
    named_alike : (lists : ModuleLists) (node : ModuleNode) → kept_by compilation node ≡ kept_in lists → places.variable_names compilation node ≡ map (λ (lent : AssignmentRef). lexeme lent.assignment.now.name.token) lists.assignments.items
    named_alike lists node same =
        ap (λ (kept : Kept). map (λ (variable : Binding Expression). lexeme variable.name.token) kept.variables) same
        ∙ map-map (λ (variable : Binding Expression). lexeme variable.name.token) (λ (lent : AssignmentRef). lent.assignment.now) lists.assignments.items

    -- the module's variables read each other in a cycle
    circular : (lists : ModuleLists) (reads : ModuleReads) (place : ℕ) → IsReads overrides lists reads → IsNodeOf compilation place lists → (error : Error) → IsCircularVariable lists (rows reads.graph.items) error → IsNamed w o error
    circular lists reads place read of error cycle =
        let variables = lists.assignments.items in
        let alike = named_alike lists of.node of.same in
        let many : length (places.variable_names compilation of.node) ≡ length variables = ap length alike ∙ length-map variables (λ (lent : AssignmentRef). lexeme lent.assignment.now.name.token) in
        let graph : IsGraphOf compilation of.node (rows reads.graph.items) = record {
          resolver = reads.resolver;
          of = subst (λ kept. IsResolverOf kept reads.resolver) (sym of.same) read.resolver;
          rows = ap (λ kept. rows_of reads.resolver (expressions_of kept)) of.same ∙ read.graph;
        } in
        let named : AreNamesAt (places.variable_names compilation of.node) cycle.places (texts_of (variable_names variables cycle.places)) =
        ap (λ names. map (slice_get names) cycle.places) alike ∙ names_there (λ (lent : AssignmentRef). lent.assignment.now.name) variables cycle.places (λ p h. cycle.cycle.each p h) in
        subst (IsNamed w o) (sym cycle.tells) (
          circular_variable (texts_of (variable_names variables cycle.places)),
          refl,
          laws.variable_cycles w o compilation is place of.node of.here (rows reads.graph.items) graph cycle.places
              (subst (λ count. IsReadCycle (rows reads.graph.items) count cycle.places) (sym many) cycle.cycle)
              (texts_of (variable_names variables cycle.places)) named,
        )

    either_refused : (error : Error) → AreRefused overrides all error → IsNamed w o error
    either_refused error (reading fault refused tells) = subst (IsNamed w o) (sym tells) (read_refused fault refused)
    either_refused error (ordering reads each refused) =
        circular refused.lists refused.reads refused.place (each.each refused.place refused.reads refused.read refused.lists refused.here) (node_of overrides compilation all are refused.place refused.lists refused.here) error refused.circular

  -- a rule on variables is broken
  pub variables_named : (error : Error) → AreVariablesRefused overrides compilation error → IsNamed w o error
  variables_named error refused = either_refused refused.lists refused.of error refused.refused
