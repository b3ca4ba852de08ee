-- What a variable reads by places it reads by names.
use Rattle.std.proofs.Common.{◌≡◌, ◌⊎◌, inl, inr, refl, sym, ◌∙◌, ap, subst, Bool, true, false, cond, ◌||◌, List, [], ◌∷◌, map, length, Some, ℕ, suc, ◌≤◌, ◌<◌, arith, true≢false}
use Rattle.std.specs.Prelude.{Contains, slice_get}
use Rattle.std.specs.List.{list_any}
use Rattle.std.specs.List.Sorted.{IsStrictlySortedBy}
use Rattle.std.specs.Str.{bytes_eq}
use Rattle.std.proofs.lemmas.Map.Keys.{sorted_tail}
use Rattle.std.proofs.lemmas.Option.{same_Some, slice_get_within}
use Rattle.std.proofs.lemmas.Slice.Eq.{bytes_eq-Decides}
use Rattle.just_text.specs.Tokens.{lexeme}
use Rattle.just_value.specs.declared.positional.Override.{Override}
use Rattle.tree_expressions.specs.Shape.{Shape, shape_of}
use Rattle.tree_expressions.specs.declared.expression.Expression.{Expression}
use Rattle.tree_items.specs.Files.{item_shape}
use Rattle.tree_items.specs.Items.{function_shape}
use Rattle.tree_items.specs.declared.ast.Item.TheVariants.{Assignment}
use Rattle.tree_items.specs.declared.item.Binding.{Binding}
use Rattle.tree_items.specs.declared.item.FunctionDefinition.{FunctionDefinition}
use Rattle.evaluate_context.specs.declared.context.AssignmentRef.{AssignmentRef}
use Rattle.modules_compilation.specs.Tables.{text_cmp}
use Rattle.modules_compilation.specs.declared.compilation.Compilation.{Compilation}
use Rattle.modules_compilation.specs.declared.module_node.ModuleNode.{ModuleNode}
use Rattle.resolve_order.specs.Reads.{ReadsThrough}
use Rattle.resolve_analysis.specs.Lists.{variables_at, variables_in}
use Rattle.meaning_rules.specs.Worlds.Compiled.{HasPath}
use Rattle.meaning_rules.specs.Worlds.Given.{Text, World}
use Rattle.meaning_rules.specs.Worlds.Keeping.{Keeps, a_variable}
use Rattle.meaning_rules.proofs.Worlds.Places.{contains_at, contains_first, contains_later, contains_none, contains_cases, place_of}
use Rattle.meaning_rules.specs.Graph.{of_function, of_variable}
use Rattle.meaning_rules.specs.Naming.{Occurrence, Part, occurrences, part}
use Rattle.meaning_rules.specs.Naming as naming
use Rattle.meaning_rules.specs.Reading.{PartReads}
use Rattle.meaning_rules.specs.Reading as rules
use Rattle.laws_modules.specs.Names.Names.{HasNode, nodes, views}
use Rattle.laws_modules.proofs.Names.Found.{mapped, mapped_at}
use Rattle.laws_modules.proofs.Names.Modules.{module_at}
use Rattle.meaning_rules.specs.Overrides.{overrides_of}
use Rattle.laws_names.specs.Reading.Cycles.{IsGraphOf}
use Rattle.laws_names.specs.Reading.Meant.{IsNumberedWorld}
use Rattle.laws_names.specs.Reading.Places.{IsNamed, variable_names}
use Rattle.laws_names.proofs.Reading.Chains.{part_of_function, part_of_variable, reads_sound}
use Rattle.laws_names.proofs.Reading.Module.{functions, keeps_function, keeps_variable, variables}
use Rattle.meaning_evaluation.specs.Named.{Definitions, FunctionRow}
use Rattle.just_meaning.specs.Defining.{AreFunctions, IsFunctionRow}
use Rattle.just_meaning.specs.Opening.{named}
use Rattle.just_meaning.specs.Reading.{ReadsIn, VariableReads, function_row}
use Rattle.just_meaning.specs.Reading as reading
use Rattle.laws_runs.specs.Resolved.Definitions.{functions_at, variable_named}
use Rattle.laws_runs.proofs.Resolved.Functions.{functions_stand}
use Rattle.laws_runs.proofs.Menus.Lists.{one_place}
use Rattle.laws_runs.proofs.Running.Opening.Graphs.{count_same}
use Rattle.laws_runs.proofs.Running.Opening.Module as kept
use Rattle.laws_runs.proofs.Running.Opening.Values.{name_of}

abbrev row_name : FunctionRow → List ℕ
row_name row = row.name

-- of functions in order of their names each is the first of its name
first_named : (rows : List FunctionRow) → IsStrictlySortedBy text_cmp (map row_name rows) → (f : FunctionRow) → Contains rows f → function_row f.name rows ≡ Some f
first_named [] sorted f c = absurd (contains_none [] f refl c)
first_named (row ∷ rows) sorted f c = by_test (bytes_eq row.name f.name) refl (contains_cases row rows f c) (λ later. first_named rows (sorted_tail text_cmp row.name (map row_name rows) sorted) f later)
  where
    by_test : (b : Bool) → bytes_eq row.name f.name ≡ b → (row ≡ f) ⊎ Contains rows f → (Contains rows f → function_row f.name rows ≡ Some f) → cond b (Some row) (function_row f.name rows) ≡ Some f
    by_test true e (inl same) go = ap (λ r. Some r) same
    by_test true e (inr later) go =
        let p = place_of rows f later in
        let zero_is : 0 ≡ suc p.0 = one_place (map row_name (row ∷ rows)) 0 (suc p.0) f.name sorted (ap (λ t. Some t) ((bytes_eq-Decides row.name f.name).0 e)) (mapped row_name rows p.0 f p.1) in
        absurd (omega (arith, zero_is))
    by_test false e (inl same) go = absurd (true≢false (sym ((bytes_eq-Decides row.name f.name).1 (ap row_name same)) ∙ e))
    by_test false e (inr later) go = go later

-- a name that is not hidden is free
free_of : (names : List (List ℕ)) (name : List ℕ) → (Contains names name → ⊥) → list_any (λ other. bytes_eq other name) names ≡ false
free_of [] name none = refl
free_of (x ∷ xs) name none = by_test (bytes_eq x name) refl (free_of xs name (λ c. none (contains_later x xs name c)))
  where
    by_test : (b : Bool) → bytes_eq x name ≡ b → list_any (λ other. bytes_eq other name) xs ≡ false → (b || list_any (λ other. bytes_eq other name) xs) ≡ false
    by_test true e rest = absurd (none (subst (Contains (x ∷ xs)) ((bytes_eq-Decides x name).0 e) (contains_first x xs)))
    by_test false e rest = rest

module _ (w : World) (compilation : Compilation) (n : IsNumberedWorld w compilation) (k : ℕ) (node : ModuleNode) (here : HasNode w compilation k node) where
  abbrev vs : List (Binding Expression)
  vs = variables w compilation n k node here

  abbrev fs : List FunctionDefinition
  fs = functions w compilation n k node here

  abbrev count : ℕ
  count = length (variable_names compilation node)

  -- the variable at a place, which the part reads
  abbrev pub IsRead : Part → ℕ → Type 0
  IsRead p read = (name : Text) × (slice_get (variable_names compilation node) read ≡ Some name) × PartReads w node.source.now p name

  module _ (graph : List (List ℕ)) (g : IsGraphOf compilation node graph) where
    -- a variable that a part names is read by it
    pub named_read : (p : Part) (o : Occurrence) → Contains (occurrences p.said) o → (read : ℕ) → IsNamed w compilation node p o read → read < count → IsRead p read
    named_read p o c read (of_variable {name} place unseen e) lt =
        let m = mapped_at (λ (v : Binding Expression). lexeme v.name.token) vs place name e in (
          name,
          e,
          rules.named (record {
            occurs = c;
            seen = unseen;
            item = item_shape (Assignment m.0);
            kept = subst (λ t. Keeps w node.source.now a_variable t (item_shape (Assignment m.0))) m.2 (keeps_variable w compilation n k node here place m.0 m.1);
          }),
        )
    named_read p o c read (of_function place e) lt = absurd (omega (arith, lt))

    -- and so is one that is read by a function that it calls
    pub called_read : (p : Part) (o : Occurrence) → Contains (occurrences p.said) o → (function read : ℕ) → IsNamed w compilation node p o function → count ≤ function → ReadsThrough graph count function read → read < count → IsRead p read
    called_read p o c function read (of_variable {name} place unseen e) le more lt = let less = slice_get_within (variable_names compilation node) place name e in absurd (omega (arith, le, less))
    called_read p o c function read (of_function {name} {count = arguments} place e) le more lt =
        let m = mapped_at (λ (f : FunctionDefinition). lexeme f.name.token) fs place name e in
        let inner = part (function_shape m.0).parameters (function_shape m.0).body in
        let r = reads_sound w compilation n k node here graph g function read more lt inner (part_of_function w compilation n k node here place m.0 m.1) in (
          r.0,
          r.1,
          rules.called (record {
            count = arguments;
            occurs = subst (λ t. Contains (occurrences p.said) (naming.a_call t arguments)) (sym m.2) c;
            kept = keeps_function w compilation n k node here place m.0 m.1;
          }) r.2,
        )

  module _ (path : List Text) (has : HasPath w (views w compilation) (nodes w compilation) k path) (given : List Override) where
    functions_are : AreFunctions w (overrides_of given) node.source.now (functions_at compilation path)
    functions_are = functions_stand w compilation n.of n.single (overrides_of given) path node.source.now (module_at w compilation n.of k node path here has)

    -- what a part reads its expression reads through functions
    pub reads_in : {p : Part} {name : Text} → PartReads w node.source.now p name → ReadsIn (functions_at compilation path) p.said p.sees name
    reads_in {p} {name} (rules.named h) = record { inner = p.said; others = p.sees; reached = reading.itself; named = h.occurs; free = free_of p.sees name h.seen }
    reads_in {p} {name} (rules.called {f} h rest) =
        let r = reads_in rest in
        let row : FunctionRow = record { file = h.kept.key; name = f.name; parameters = f.parameters; body = f.body } in
        let is : IsFunctionRow w (overrides_of given) node.source.now row = record { key = h.kept.key; place = h.kept.place; shape = f; kept = h.kept.kept; says = refl } in
        record {
          inner = r.inner;
          others = r.others;
          reached = reading.through {f = row} h.occurs (first_named (functions_at compilation path) functions_are.sorted row ((functions_are.each row).1 is)) r.reached;
          named = r.named;
          free = r.free;
        }

    module _ (assignments : List AssignmentRef) (kept_are : variables_in assignments ≡ variables_at compilation node.assignments.items) where
      -- the name of the variable at a place
      pub name_there : (j : ℕ) (other : AssignmentRef) → slice_get assignments j ≡ Some other → slice_get (variable_names compilation node) j ≡ Some (name_of other)
      name_there j other f = mapped (λ (x : Binding Expression). lexeme x.name.token) vs j other.assignment.now (kept.variable_here w compilation n k node here path has assignments kept_are j other f)

      pub many : length assignments ≡ count
      many = count_same w compilation n k node here path has given assignments kept_are

      -- a variable that is read at a place is read by its name
      pub read_named : (p : Part) (j : ℕ) (other : AssignmentRef) → slice_get assignments j ≡ Some other → IsRead p j → ReadsIn (functions_at compilation path) p.said p.sees (name_of other)
      read_named p j other f r = subst (ReadsIn (functions_at compilation path) p.said p.sees) (same_Some r.0 (name_of other) (sym r.1 ∙ name_there j other f)) (reads_in r.2)

      module _ (graph : List (List ℕ)) (g : IsGraphOf compilation node graph) (defined : Definitions) (variable_is : (name : List ℕ) → defined.variable (named path name) ≡ variable_named compilation (named path name))
          (functions_same : defined.functions path ≡ functions_at compilation path) where
        -- what a variable reads by the graph it reads by names
        pub reads_by_name : (i j : ℕ) (lent other : AssignmentRef) → slice_get assignments i ≡ Some lent → slice_get assignments j ≡ Some other → ReadsThrough graph (length assignments) i j
            → VariableReads defined (named path (name_of lent)) (name_of other)
        reads_by_name i j lent other e f chain =
            let row = kept.variable_row w compilation n k node here path has assignments kept_are given lent (contains_at assignments i lent e) in
            let side : Shape = shape_of lent.assignment.now.value in
            let there = kept.variable_here w compilation n k node here path has assignments kept_are i lent e in
            let lt = slice_get_within (variable_names compilation node) j (name_of other) (name_there j other f) in
            let r = reads_sound w compilation n k node here graph g i j (subst (λ m. ReadsThrough graph m i j) many chain) lt (part [] side) (part_of_variable w compilation n k node here i lent.assignment.now there) in
            record {
              row = row.row;
              there = variable_is (name_of lent) ∙ row.is;
              reads = subst (λ fs. ReadsIn fs row.row.value [] (name_of other)) (sym functions_same)
                  (subst (λ e. ReadsIn (functions_at compilation path) e [] (name_of other)) (sym row.value) (read_named (part [] side) j other f r));
            }
