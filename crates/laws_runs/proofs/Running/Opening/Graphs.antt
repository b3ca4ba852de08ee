-- What a variable reads by names it reads by places.
use Rattle.std.proofs.Common.{◌≡◌, inl, inr, refl, sym, ◌∙◌, ap, subst, Bool, true, false, cond, ◌||◌, List, [], ◌∷◌, length, Some, ℕ, ◌≤◌, ◌^◌, true≢false}
use Rattle.std.specs.Prelude.{Contains, slice_get}
use Rattle.std.specs.List.{list_any}
use Rattle.std.specs.Str.{bytes_eq}
use Rattle.std.proofs.lemmas.List.{length-map}
use Rattle.std.proofs.lemmas.Option.{none-some, same_Some}
use Rattle.std.proofs.lemmas.Slice.Eq.{bytes_eq-Decides}
use Rattle.just_text.specs.Tokens.{lexeme}
use Rattle.just_value.specs.declared.positional.Override.{Override}
use Rattle.tree_expressions.specs.Shape.{Shape, shape_of}
use Rattle.tree_expressions.specs.declared.expression.Expression.{Expression}
use Rattle.tree_items.specs.Files.{ItemShape, assignment_item, function_item, item_shape}
use Rattle.tree_items.specs.declared.ast.Item.TheVariants.{Assignment}
use Rattle.tree_items.specs.declared.item.Binding.{Binding}
use Rattle.evaluate_context.specs.declared.context.AssignmentRef.{AssignmentRef}
use Rattle.modules_compilation.specs.declared.compilation.Compilation.{Compilation}
use Rattle.modules_compilation.specs.declared.module_node.ModuleNode.{ModuleNode}
use Rattle.resolve_order.specs.Reads.{ReadsThrough}
use Rattle.resolve_analysis.specs.Lists.{variables_at, variables_in}
use Rattle.meaning_rules.specs.Worlds.Compiled.{HasPath}
use Rattle.meaning_rules.specs.Worlds.Given.{Text, World}
use Rattle.meaning_rules.specs.Worlds.Keeping.{Keeps, KeepsAt, a_function, a_variable}
use Rattle.meaning_rules.proofs.Worlds.Places.{contains_at, contains_first, contains_later, contains_none, contains_cases}
use Rattle.meaning_rules.specs.Naming.{a_call, occurrences, part}
use Rattle.meaning_rules.specs.Naming as naming
use Rattle.meaning_rules.specs.Reading.{PartReads}
use Rattle.meaning_rules.specs.Reading as rules
use Rattle.laws_modules.specs.Names.Names.{HasNode, nodes, views}
use Rattle.laws_modules.proofs.Names.Found.{mapped_at}
use Rattle.laws_modules.proofs.Names.Modules.{module_at, one_module}
use Rattle.meaning_rules.specs.Overrides.{overrides_of}
use Rattle.laws_names.specs.Reading.Cycles.{IsGraphOf}
use Rattle.laws_names.specs.Reading.Meant.{IsNumberedWorld}
use Rattle.laws_names.specs.Reading.Places.{variable_names}
use Rattle.laws_names.proofs.Reading.Chains.{part_of_variable, reads_complete}
use Rattle.laws_names.proofs.Reading.Module.{keeps_variable, variable_known, variable_once, variables}
use Rattle.meaning_evaluation.specs.Named.{Definitions, FunctionRow, VariableRow}
use Rattle.just_meaning.specs.Defining.{IsFunctionRow}
use Rattle.just_meaning.specs.Opening.{named}
use Rattle.just_meaning.specs.Reading.{Reaches, ReadsIn, VariableReads, function_row}
use Rattle.just_meaning.specs.Reading as reading
use Rattle.laws_runs.specs.Resolved.Definitions.{functions_at, variable_named}
use Rattle.laws_runs.proofs.Resolved.Functions.{functions_stand}
use Rattle.laws_runs.proofs.Resolved.Variables.{variables_stand}
use Rattle.laws_runs.proofs.Running.Opening.Module as kept
use Rattle.laws_runs.proofs.Running.Opening.Values.{name_of}

-- the first function of a name is one of them, and has the name
found_row : (name : List ℕ) (rows : List FunctionRow) (f : FunctionRow) → function_row name rows ≡ Some f → Contains rows f × (f.name ≡ name)
found_row name [] f e = absurd (none-some f e)
found_row name (row ∷ rows) f e = by_test (bytes_eq row.name name) refl e (found_row name rows f)
  where
    by_test : (b : Bool) → bytes_eq row.name name ≡ b → cond b (Some row) (function_row name rows) ≡ Some f → (function_row name rows ≡ Some f → Contains rows f × (f.name ≡ name)) → Contains (row ∷ rows) f × (f.name ≡ name)
    by_test true is e go =
        let same = same_Some row f e in
        (subst (Contains (row ∷ rows)) same (contains_first row rows), ap (λ (r : FunctionRow). r.name) (sym same) ∙ (bytes_eq-Decides row.name name).0 is)
    by_test false is e go = let r = go e in (contains_later row rows f r.0, r.1)

-- a name that is free is not hidden
not_hidden : (names : List (List ℕ)) (name : List ℕ) → list_any (λ other. bytes_eq other name) names ≡ false → Contains names name → ⊥
not_hidden [] name e c = contains_none [] name refl c
not_hidden (x ∷ xs) name e c = by_test (bytes_eq x name) refl e (λ rest later. not_hidden xs name rest later)
  where
    by_test : (b : Bool) → bytes_eq x name ≡ b → (b || list_any (λ other. bytes_eq other name) xs) ≡ false → (list_any (λ other. bytes_eq other name) xs ≡ false → Contains xs name → ⊥) → ⊥
    by_test true is e go = true≢false e
    by_test false is e go = elim (contains_cases x xs name c) [
      | inl same ↦ true≢false (sym ((bytes_eq-Decides x name).1 same) ∙ is)
      | inr later ↦ go e later
    ]

module _ (w : World) (compilation : Compilation) (n : IsNumberedWorld w compilation) (k : ℕ) (node : ModuleNode) (here : HasNode w compilation k node) (path : List Text) (has : HasPath w (views w compilation) (nodes w compilation) k path)
    (given : List Override) where
  abbrev own : Text
  own = node.source.now

  row_kept : (f : FunctionRow) → Contains (functions_at compilation path) f → IsFunctionRow w (overrides_of given) own f
  row_kept f c = ((functions_stand w compilation n.of n.single (overrides_of given) path own (module_at w compilation n.of k node path here has)).each f).0 c

  -- what an expression reads through functions, its part reads
  pub part_reads : {e inner : Shape} {hidden others : List (List ℕ)} (name : List ℕ) (item : ItemShape) → Keeps w own a_variable name item → Reaches (functions_at compilation path) e hidden inner others
      → Contains (occurrences inner) (naming.a_variable name) → list_any (λ other. bytes_eq other name) others ≡ false → PartReads w own (part hidden e) name
  part_reads {hidden} name item keeps reading.itself occurs free = rules.named (record { occurs = occurs; seen = not_hidden hidden name free; item = item; kept = keeps })
  part_reads {e} name item keeps (reading.through {name = called} {count} {f} calls found rest) occurs free =
      let r = found_row called (functions_at compilation path) f found in
      let row = row_kept f r.0 in
      let named_so : f.name ≡ row.shape.name = ap (λ (x : FunctionRow). x.name) row.says in
      rules.called (record {
        count = count;
        occurs = subst (λ t. Contains (occurrences e) (a_call t count)) (sym r.1 ∙ named_so) calls;
        kept = record { key = row.key; place = row.place; kept = subst (λ t. KeepsAt w own a_function t row.key row.place (function_item row.shape)) named_so row.kept };
      })
      (subst (λ (x : FunctionRow). PartReads w own (part x.parameters x.body) name) row.says (part_reads name item keeps rest occurs free))

  module _ (assignments : List AssignmentRef) (kept_are : variables_in assignments ≡ variables_at compilation node.assignments.items) where
    abbrev vs : List (Binding Expression)
    vs = variables w compilation n k node here

    pub count_same : length assignments ≡ length (variable_names compilation node)
    count_same =
        sym (length-map assignments (λ (lent : AssignmentRef). lent.assignment.now)) ∙ ap length kept_are
        ∙ sym (length-map vs (λ (v : Binding Expression). lexeme v.name.token))

    -- a name that the module defines is that of one of its variables
    pub defines : (name : List ℕ) (row : VariableRow) → variable_named compilation (named path name) ≡ Some row → (lent : AssignmentRef) × Contains assignments lent × (name_of lent ≡ name)
    defines name row e =
        let r = (variables_stand w compilation n.of n.single (overrides_of given) (named path name) row).0 e in
        let same = one_module w compilation n.of n.single k node path here has r.own r.is in
        let item : ItemShape = assignment_item r.attributes r.shape in
        let v = variable_known w compilation n k node here name item (record { key = r.key; place = r.place; kept = subst (λ q. KeepsAt w q a_variable name r.key r.place item) same r.kept }) in
        let m = mapped_at (λ (lent : AssignmentRef). lent.assignment.now) assignments v.0 v.1 (ap (λ l. slice_get l v.0) kept_are ∙ v.2) in
        (m.0, contains_at assignments v.0 m.0 m.1, ap (λ (b : Binding Expression). lexeme b.name.token) m.2 ∙ v.3)

    module _ (graph : List (List ℕ)) (g : IsGraphOf compilation node graph) (small : length graph ≤ 2 ^ 64) (defined : Definitions) (variable_is : (name : List ℕ) → defined.variable (named path name) ≡ variable_named compilation (named path name))
        (functions_are : defined.functions path ≡ functions_at compilation path) where
      -- so it does by their graph
      pub reads_by_place : (i j : ℕ) (lent other : AssignmentRef) → slice_get assignments i ≡ Some lent → slice_get assignments j ≡ Some other → VariableReads defined (named path (name_of lent)) (name_of other)
          → ReadsThrough graph (length assignments) i j
      reads_by_place i j lent other at at' reads =
          let row = kept.variable_row w compilation n k node here path has assignments kept_are given lent (contains_at assignments i lent at) in
          let same_row : reads.row ≡ row.row = same_Some reads.row row.row (sym reads.there ∙ variable_is (name_of lent) ∙ row.is) in
          let said : reads.row.value ≡ shape_of lent.assignment.now.value = ap (λ (r : VariableRow). r.value) same_row ∙ row.value in
          let there = kept.variable_here w compilation n k node here path has assignments kept_are i lent at in
          let there' = kept.variable_here w compilation n k node here path has assignments kept_are j other at' in
          let keeps = keeps_variable w compilation n k node here j other.assignment.now there' in
          let by : ReadsIn (functions_at compilation path) (shape_of lent.assignment.now.value) [] (name_of other)
          = subst (λ fs. ReadsIn fs (shape_of lent.assignment.now.value) [] (name_of other)) functions_are (subst (λ e. ReadsIn (defined.functions path) e [] (name_of other)) said reads.reads) in
          let p = part_reads (name_of other) (item_shape (Assignment other.assignment.now)) keeps by.reached by.named by.free in
          let c = reads_complete w compilation n k node here graph g small (part [] (shape_of lent.assignment.now.value)) (name_of other) p i (part_of_variable w compilation n k node here i lent.assignment.now there) in
          let v = mapped_at (λ (x : Binding Expression). lexeme x.name.token) vs c.0 (name_of other) c.1 in
          let places = variable_once w compilation n k node here c.0 j v.0 other.assignment.now v.1 there' v.2 in
          subst (λ many. ReadsThrough graph many i j) (sym count_same) (subst (ReadsThrough graph (length (variable_names compilation node)) i) {x = c.0} places c.2)
