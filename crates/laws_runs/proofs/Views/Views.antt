-- What evaluation sees of a module is known.
use Rattle.std.proofs.Common.{◌≡◌, ◌⊎◌, inl, inr, refl, sym, ◌∙◌, ap, subst, Bool, true, false, List, [], ◌∷◌, map, length, Option, Some, None, Ok, ℕ, suc, ◌^◌, ◌≤◌, ◌<◌, arith}
use Rattle.std.specs.Prelude.{slice_get, Contains, IsSome, String}
use Rattle.std.specs.BTreeMap.{BTreeMap}
use Rattle.std.specs.Global.{Vec}
use Rattle.std.specs.Option.{option_map, option_or}
use Rattle.std.proofs.lemmas.Bool.Decides.{leb_tells}
use Rattle.std.proofs.lemmas.List.{length-map}
use Rattle.std.proofs.lemmas.Option.{same_Some, slice_get_within}
use Rattle.tree_items.specs.declared.ast.Item.TheVariants.{Recipe as recipe_item}
use Rattle.tree_items.specs.declared.item.Binding.{Binding}
use Rattle.tree_items.specs.declared.recipe.Recipe.{Recipe}
use Rattle.tree_items.specs.declared.recipe.UnresolvedDependency.{UnresolvedDependency}
use Rattle.tree_expressions.specs.declared.expression.Expression.{Expression}
use Rattle.just_value.specs.Constants.{constant_rows}
use Rattle.just_value.specs.Frames.{Frames, constant_binding, found_in}
use Rattle.evaluate_context.specs.declared.context.AssignmentRef.{AssignmentRef}
use Rattle.evaluate_context.specs.declared.context.FunctionRef.{FunctionRef}
use Rattle.evaluate_expressions.specs.Situations.{functions_in as functions_of_context}
use Rattle.evaluate_variables.specs.Known.{IsFound}
use Rattle.evaluate_variables.specs.Opened.{ordered, overridden}
use Rattle.modules_compilation.specs.declared.compilation.Compilation.{Compilation}
use Rattle.modules_compilation.specs.declared.module_node.ModuleNode.{ModuleNode}
use Rattle.resolve_order.specs.Needs.{rows}
use Rattle.resolve_order.specs.Reads.{ReadsThrough}
use Rattle.resolve_references.specs.ItemReferences.{references_of_recipe}
use Rattle.resolve_references.specs.Places.{place_of as place_of_reference, places_of}
use Rattle.resolve_references.specs.References.{references_of}
use Rattle.resolve_references.specs.Seen.{Seen, seen_in}
use Rattle.resolve_references.specs.declared.references.Reference.{Reference}
use Rattle.resolve_analysis.specs.Lists.{Kept, functions_in, kept_by, kept_in, numbers_in, variables_in}
use Rattle.resolve_analysis.specs.declared.module_lists.ModuleLists.{ModuleLists}
use Rattle.resolve_analysis.specs.declared.module_reads.ModuleReads.{ModuleReads}
use Rattle.resolve_analysis.specs.declared.variables.ModuleVariables.{ModuleVariables}
use Rattle.just_resolve.specs.Variables.{AreVariables}
use Rattle.just_resolve.proofs.Keeping.{IsModuleOf, graph_few, order_of_names, resolver_is, rows_are}
use Rattle.meaning_dialogues.specs.Calls.{DefinedFunction}
use Rattle.meaning_dialogues.specs.Terms.{term_of}
use Rattle.meaning_evaluation.proofs.Stages.Depth.{HasNumber}
use Rattle.meaning_evaluation.specs.Stages.Stages.{defined_of, definitions}
use Rattle.laws_evaluation.specs.Soundness.Known.{BodiesKnown, NamesKnown}
use Rattle.laws_evaluation.specs.Soundness.Opening.{InOrder, IsNumbered, SideKnown}
use Rattle.meaning_rules.specs.Worlds.Given.{World}
use Rattle.laws_modules.specs.Names.Names.{HasNode}
use Rattle.laws_modules.proofs.Names.Found.{mapped, mapped_at, there_within}
use Rattle.laws_names.specs.Reading.Cycles.{IsGraphOf}
use Rattle.laws_names.specs.Reading.Meant.{IsNumberedWorld}
use Rattle.laws_names.specs.Reading.Parts.{references_seen}
use Rattle.laws_names.specs.Reading.Places.{IsItemOf, variable_names}
use Rattle.laws_names.proofs.Reading.Lists.{contains_flat}
use Rattle.laws_names.proofs.Reading.Module.{variables as variables_of}
use Rattle.laws_names.proofs.Reading.Outcomes.{given_of}
use Rattle.laws_names.proofs.Reading.References.{recipe_references_are_seen}
use Rattle.laws_names.specs.Constants.Sought.{AreOfLanguage}
use Rattle.laws_runs.specs.Views.Known.{AllVariablesAreKnown, VariablesAreKnown}
use Rattle.laws_runs.specs.Views.Read.{AreReadFrom, IsClosedIn}
use Rattle.laws_runs.specs.Views.Recipes.{IsConstantOrRead, RecipesAreKnown}
use Rattle.laws_runs.proofs.Views.Closing.{AreGood, good_places}
use Rattle.laws_runs.proofs.Views.Known.{as_many, bodies_known, calls, names_known, order_known, reached, within_graph}

-- the functions of a list as they are called
definitions_are : (list : List FunctionRef) → definitions list ≡ map defined_of (functions_in list)
definitions_are [] = refl
definitions_are (f ∷ list) = ap (λ ds. defined_of f.definition.now ∷ ds) (definitions_are list)

-- a number below that of the rows is that of a constant, which is found
pub language_found : (frames : Frames) → AreOfLanguage frames → (number : ℕ) → number < length constant_rows → IsFound frames number
language_found frames l number lt =
    let row = there_within constant_rows number lt in
    let is = ap (λ o. option_or o (found_in frames.outer number)) (l number ∙ ap (option_map (constant_binding number)) row.1) in
    subst IsSome (sym is) refl

module _ {A : Type 0} (overrides : BTreeMap ℕ (String A)) (w : World) (compilation : Compilation) (n : IsNumberedWorld w compilation) (variables : ModuleVariables) (are : AreVariables overrides compilation variables) (k : ℕ) where
  -- the node of what a module keeps
  pub node_there : (lists : ModuleLists) → slice_get variables.lists.items k ≡ Some lists → (node : ModuleNode) × HasNode w compilation k node × (kept_by compilation node ≡ kept_in lists)
  node_there lists there = mapped_at (kept_by compilation) compilation.modules.items k (kept_in lists) (ap (λ all. slice_get all k) (sym are.lists) ∙ mapped kept_in variables.lists.items k lists there)

  pub reads_there : (lists : ModuleLists) → slice_get variables.lists.items k ≡ Some lists → (reads : ModuleReads) × (slice_get variables.reads.items k ≡ Some reads)
  reads_there lists there =
      let lt = slice_get_within variables.lists.items k lists there in
      let many = are.of.reads.many in
      there_within variables.reads.items k (omega (arith, lt, many))

  -- what the module at the place keeps, reads and orders
  abbrev module_of : (node : ModuleNode) (lists : ModuleLists) → slice_get variables.lists.items k ≡ Some lists → kept_in lists ≡ kept_by compilation node → (reads : ModuleReads) → slice_get variables.reads.items k ≡ Some reads
      → (order : Vec ℕ) → slice_get variables.orders.items k ≡ Some order → IsModuleOf overrides compilation variables k node
  module_of node lists there same reads known order placed = record {
    lists = lists;
    lists_there = there;
    same = same;
    reads = reads;
    reads_there = known;
    reads_are = are.of.reads.each k reads known lists there;
    order = order;
    order_there = placed;
    order_is = are.of.orders.each k order placed lists reads there known;
  }

  module _ (node : ModuleNode) (here : HasNode w compilation k node) (m : IsModuleOf overrides compilation variables k node) where
    abbrev vs : List (Binding Expression)
    vs = variables_of w compilation n k node here

    abbrev count : ℕ
    count = length (variable_names compilation node)

    abbrev graph : List (List ℕ)
    graph = rows m.reads.graph.items

    abbrev g : IsGraphOf compilation node graph
    g = record { resolver = m.reads.resolver; of = resolver_is overrides compilation variables k node m; rows = rows_are overrides compilation variables k node m }

    small : length graph ≤ 2 ^ 64
    small = graph_few overrides compilation variables k node m

    kept_variables : variables_in m.lists.assignments.items ≡ vs
    kept_variables = ap (λ (kept : Kept). kept.variables) m.same

    kept_calls : definitions m.lists.functions.items ≡ calls w compilation n k node here
    kept_calls = definitions_are m.lists.functions.items ∙ ap (λ (kept : Kept). map defined_of kept.functions) m.same

    many_variables : length m.lists.assignments.items ≡ count
    many_variables = sym (length-map m.lists.assignments.items (λ lent. lent.assignment.now)) ∙ ap (λ (vs : List (Binding Expression)). length vs) kept_variables ∙ sym (as_many w compilation n k node here)

    -- the number of the variable at a place
    number_there : (place : ℕ) (v : Binding Expression) → slice_get vs place ≡ Some v → slice_get (numbers_in m.lists.assignments.items) place ≡ Some v.number
    number_there place v at =
        let l = mapped_at (λ (lent : AssignmentRef). lent.assignment.now) m.lists.assignments.items place v (ap (λ xs. slice_get xs place) kept_variables ∙ at) in
        mapped (λ (lent : AssignmentRef). lent.assignment.now.number) m.lists.assignments.items place l.0 l.1 ∙ ap (λ (x : Binding Expression). Some x.number) l.2

    -- ---- variables in their order

    module _ (overridden_by : ℕ → Option (List ℕ)) (is_read : ℕ → Bool) (closed : IsClosedIn m.lists m.reads overridden_by is_read) where
      pub module_known : (N : ℕ → Type 0) → ((number : ℕ) → number < length constant_rows → N number) → InOrder overridden_by is_read (SideKnown (definitions m.lists.functions.items)) N (ordered m.lists.assignments.items m.order.items)
      module_known N constants =
          subst (λ fs. InOrder overridden_by is_read (SideKnown fs) N (ordered m.lists.assignments.items m.order.items)) (sym kept_calls)
          (order_known w compilation n k node here graph g small m.order.items (order_of_names overrides compilation variables k node m) m.lists.assignments.items kept_variables overridden_by is_read
          (λ place other v u at at' read free reads. closed place other v.number u.number (number_there place v at) (number_there other u at') read free (subst (λ many. ReadsThrough graph many place other) (sym many_variables) reads))
          N constants)

    -- ---- recipes

    module _ (recipe : Recipe UnresolvedDependency) (item : IsItemOf compilation node (recipe_item recipe)) (places : List ℕ) (given : places_of m.reads.resolver (references_of_recipe recipe) ≡ Ok places)
        (is_read : ℕ → Bool) (read : AreReadFrom m.lists m.reads places is_read) where
      abbrev read_of : Option (Binding Expression) → Bool
      read_of None = false
      read_of (Some v) = is_read v.number

      abbrev allowed : ℕ → Bool
      allowed place = read_of (slice_get vs place)

      abbrev N : ℕ → Type 0
      N = IsConstantOrRead m.lists is_read

      variable_at : (place : ℕ) → place < count → (v : Binding Expression) × (slice_get vs place ≡ Some v)
      variable_at place lt = let many = as_many w compilation n k node here in there_within vs place (omega (arith, lt, many))

      goods : AreGood graph count allowed
      goods = good_places graph count allowed (within_graph w compilation n k node here graph g small)

      numbers_known : (place : ℕ) (v : Binding Expression) → slice_get vs place ≡ Some v → goods.good place ≡ true → N v.number
      numbers_known place v at is =
          let lt = slice_get_within vs place v at in
          let many = as_many w compilation n k node here in
          inr (record { place = place; here = number_there place v at; read = sym (ap read_of at) ∙ goods.variable place (omega (arith, lt, many)) is })

      good_place : (place : ℕ) → Contains places place → goods.good place ≡ true
      good_place place listed = elim (leb_tells (suc place) count) [
        | inl p ↦ let v = variable_at place p.1 in goods.variable_good place p.1 (ap read_of v.1 ∙ read.variable place v.0.number listed (number_there place v.0 v.1))
        | inr p ↦
            let past = p.1 in
            let many = many_variables in
            goods.function_good place (omega (arith, past)) (λ other lt reads.
            let u = variable_at other lt in
            ap read_of u.1 ∙ read.function place other u.0.number listed (omega (arith, past, many)) (subst (λ count. ReadsThrough graph count place other) (sym many) reads) (number_there other u.0 u.1))
      ]

      -- what its expressions name is known
      pub expressions_known : (functions : List DefinedFunction) → functions ≡ calls w compilation n k node here
          → (reached : DefinedFunction → Bool) × BodiesKnown functions (λ f. reached f ≡ true) (λ x. IsNumbered N x.number)
          × ((s : Seen) → Contains (seen_in (recipe_item recipe)) s → NamesKnown functions (λ f. reached f ≡ true) (λ x. HasNumber (map (λ p. p.1) s.parameters) x.number ⊎ IsNumbered N x.number) (term_of s.expression))
      expressions_known functions same = subst
          (λ functions. (reached : DefinedFunction → Bool) × BodiesKnown functions (λ f. reached f ≡ true) (λ x. IsNumbered N x.number)
          × ((s : Seen) → Contains (seen_in (recipe_item recipe)) s → NamesKnown functions (λ f. reached f ≡ true) (λ x. HasNumber (map (λ p. p.1) s.parameters) x.number ⊎ IsNumbered N x.number) (term_of s.expression)))
          (sym same) (
            reached w compilation n k node here graph g small N constants goods.good numbers_known,
            bodies_known w compilation n k node here graph g small N constants goods.good numbers_known goods.closed,
            λ s c. names_known w compilation n k node here graph g small N constants goods.good numbers_known (recipe_item recipe) item s c (found s c) (λ x. HasNumber (map (λ p. p.1) s.parameters) x.number ⊎ IsNumbered N x.number) (λ x h. h),
          )
        where
          constants : (number : ℕ) → number < length constant_rows → N number
          constants number lt = inl lt

          found : (s : Seen) → Contains (seen_in (recipe_item recipe)) s → (r : Reference) → Contains (references_of s.expression) r
              → (o : Option ℕ) × (place_of_reference m.reads.resolver r ≡ Ok o) × ((place : ℕ) → o ≡ Some place → goods.good place ≡ true)
          found s c r d =
              let inside = subst (λ rs. Contains rs r) (sym (recipe_references_are_seen recipe)) (contains_flat references_seen (seen_in (recipe_item recipe)) s r c d) in
              let q = given_of m.reads.resolver (references_of_recipe recipe) places given r inside in
              (q.0, q.1, λ place e. good_place place (q.2 place e))

-- ---- the laws

pub variables_are_known : {A : Type 0} (overrides : BTreeMap ℕ (String A)) → VariablesAreKnown overrides
variables_are_known overrides w compilation n variables are k context seen language is_read closed =
    let node = node_there overrides w compilation n variables are k seen.lists seen.lists_there in
    let reads = reads_there overrides w compilation n variables are k seen.lists seen.lists_there in
    let m = module_of overrides w compilation n variables are k node.0 seen.lists seen.lists_there (sym node.2) reads.0 reads.1 seen.order seen.order_there in
    let known = module_known overrides w compilation n variables are k node.0 node.1 m (overridden context.overrides.now) is_read (closed seen.lists reads.0 seen.lists_there reads.1)
    (IsFound context.scope.now) (language_found context.scope.now language) in
    subst (λ fs. InOrder (overridden context.overrides.now) is_read (SideKnown (definitions fs)) (IsFound context.scope.now) (ordered context.module.now.assignments.now context.module.now.evaluation_order.now)) (sym seen.functions)
    (subst (λ lent. InOrder (overridden context.overrides.now) is_read (SideKnown (definitions seen.lists.functions.items)) (IsFound context.scope.now) (ordered lent context.module.now.evaluation_order.now)) (sym seen.assignments)
    (subst (λ order. InOrder (overridden context.overrides.now) is_read (SideKnown (definitions seen.lists.functions.items)) (IsFound context.scope.now) (ordered seen.lists.assignments.items order)) (sym seen.evaluation_order) known))

pub all_variables_are_known : {A : Type 0} (overrides : BTreeMap ℕ (String A)) → AllVariablesAreKnown overrides
all_variables_are_known overrides w compilation n variables are k context seen language =
    variables_are_known overrides w compilation n variables are k context seen language (λ number. true) (λ lists reads there known place other number read at at' is free reads'. refl)

pub recipes_are_known : {A : Type 0} (overrides : BTreeMap ℕ (String A)) → RecipesAreKnown overrides
recipes_are_known overrides w compilation n variables are k node here context seen reads known recipe item places given is_read read =
    let found = node_there overrides w compilation n variables are k seen.lists seen.lists_there in
    let one : found.0 ≡ node = same_Some found.0 node (sym found.1 ∙ here) in
    let m = module_of overrides w compilation n variables are k node seen.lists seen.lists_there (sym found.2 ∙ ap (kept_by compilation) one) reads known seen.order seen.order_there in
    let r = expressions_known overrides w compilation n variables are k node here m recipe item places given is_read read (functions_of_context context)
    (ap definitions seen.functions ∙ kept_calls overrides w compilation n variables are k node here m) in
    record { reached = r.0; bodies = r.1; names = r.2 }
