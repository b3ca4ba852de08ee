-- What a recipe reads by places it reads by names.
use Rattle.std.proofs.Common.{◌≡◌, ◌⊎◌, inl, inr, refl, sym, ◌∙◌, ap, subst, List, length, Option, Some, None, Ok, ℕ, ◌+◌, ◌≤◌, ◌<◌, ◌^◌, arith}
use Rattle.std.specs.Prelude.{Contains, slice_get}
use Rattle.std.proofs.lemmas.List.{length-map}
use Rattle.std.proofs.lemmas.Option.{same_Some, slice_get_within}
use Rattle.just_text.specs.Tokens.{lexeme}
use Rattle.just_value.specs.declared.positional.Override.{Override}
use Rattle.tree_attributes.specs.Attributes.{AttributeShape}
use Rattle.tree_attributes.specs.Sets.Sets.{shapes_in}
use Rattle.tree_expressions.specs.Shape.{Shape}
use Rattle.tree_expressions.specs.declared.expression.Expression.{Expression}
use Rattle.tree_items.specs.Files.{function_item, item_shape}
use Rattle.tree_items.specs.Items.{FunctionShape, function_shape}
use Rattle.tree_items.specs.Recipes.{DependencyShape, recipe_shape}
use Rattle.tree_items.specs.declared.ast.Item.{Item}
use Rattle.tree_items.specs.declared.ast.Item.TheVariants as items
use Rattle.tree_items.specs.declared.item.Binding.{Binding}
use Rattle.tree_items.specs.declared.item.FunctionDefinition.{FunctionDefinition}
use Rattle.parse_attributed_items.specs.Fitting.{repeated}
use Rattle.evaluate_context.specs.declared.context.AssignmentRef.{AssignmentRef}
use Rattle.modules_compilation.specs.Modulepaths.{path_in}
use Rattle.modules_compilation.specs.Places.{item_at}
use Rattle.modules_compilation.specs.declared.compilation.Compilation.{Compilation}
use Rattle.modules_compilation.specs.declared.module_node.ModuleNode.{ModuleNode}
use Rattle.resolve_order.specs.Reads.{ReadsThrough}
use Rattle.resolve_references.specs.ItemReferences.{references_of_recipe}
use Rattle.resolve_references.specs.Places.{places_of}
use Rattle.resolve_references.specs.Seen.{Seen, seen_in}
use Rattle.resolve_references.specs.declared.references.Reference.{Reference}
use Rattle.resolve_recipes.specs.Nodes.{Kept, all_kept}
use Rattle.resolve_analysis.specs.Lists.{kept_by, variables_at, variables_in}
use Rattle.resolve_analysis.specs.Reads.{IsResolverOf}
use Rattle.resolve_analysis.specs.declared.module_reads.ModuleReads.{ModuleReads}
use Rattle.resolve_analysis.specs.declared.recipes.RecipeTable.{RecipeTable}
use Rattle.resolve_analysis.specs.declared.recipes.ResolvedRecipe.{ResolvedRecipe}
use Rattle.just_resolve.specs.Table.{IsTable}
use Rattle.meaning_rules.specs.Worlds.Compiled.{HasPath}
use Rattle.meaning_rules.specs.Worlds.Given.{Text, World}
use Rattle.meaning_rules.proofs.Worlds.Places.{contains_at}
use Rattle.meaning_rules.specs.Graph.{of_function, of_variable}
use Rattle.meaning_rules.specs.Naming.{Occurrence, Part, a_call, a_variable, occurrences, part}
use Rattle.meaning_rules.specs.Reading.{PartReads}
use Rattle.meaning_rules.specs.Reading as rules
use Rattle.laws_modules.specs.Names.Names.{HasNode, nodes, views}
use Rattle.laws_modules.proofs.Names.Found.{mapped, mapped_at}
use Rattle.meaning_rules.specs.Overrides.{overrides_of}
use Rattle.laws_modules.specs.References.Occurrences.{occurrence_of}
use Rattle.laws_names.proofs.Depending.Kept.{is_kept}
use Rattle.laws_names.proofs.Depending.Standing.{StandsIn}
use Rattle.laws_names.specs.Reading.Cycles.{IsGraphOf}
use Rattle.laws_names.specs.Reading.Meant.{IsNumberedWorld}
use Rattle.laws_names.specs.Reading.Parts.{part_of, references_seen}
use Rattle.laws_names.specs.Reading.Places.{AreFew, IsItemOf, IsNamed, IsPlaceMeant, function_names, variable_names}
use Rattle.laws_names.proofs.Reading.Chains.{IsPartAt, part_of_function, places_many, reads_complete}
use Rattle.laws_names.proofs.Reading.Items.{occurred, occurs, part_seen, seen_part}
use Rattle.laws_names.proofs.Reading.Lists.{contained_flat, contains_flat}
use Rattle.laws_names.proofs.Reading.Module.{function_known, function_once, functions, keeps_variable, variable_once, variables}
use Rattle.laws_names.proofs.Reading.Outcomes.{given_of, read_from}
use Rattle.laws_names.proofs.Reading.Places.{places_are_meant}
use Rattle.laws_names.proofs.Reading.References.{recipe_references_are_seen}
use Rattle.meaning_evaluation.specs.Named.{Definitions, RecipeName, RecipeRow}
use Rattle.just_meaning.specs.Reading.{ReadsIn, RecipeReads, expressions_in}
use Rattle.laws_runs.specs.Resolved.Definitions.{functions_at, recipe_named}
use Rattle.laws_runs.specs.Menus.Named.{name_at}
use Rattle.laws_runs.proofs.Menus.Slots.{in_order_already}
use Rattle.laws_runs.proofs.Running.Opening.Back.{IsRead, called_read, many as many_variables, name_there, named_read, read_named}
use Rattle.laws_runs.proofs.Running.Opening.Graphs.{part_reads}
use Rattle.laws_runs.proofs.Running.Opening.Module as kept_at
use Rattle.laws_runs.proofs.Running.Opening.Ranked.{called_so, home_is, meant, own_name, r, stands}
use Rattle.laws_runs.proofs.Running.Opening.Reached.{row_at, row_there}
use Rattle.laws_runs.proofs.Running.Opening.Recipes.{expressions, from_parts, to_parts}
use Rattle.laws_runs.proofs.Running.Opening.Values.{name_of}
use Rattle.laws_runs.proofs.Running.Opening.Written.{AttributesStandOnce, item_back}

module _ (w : World) (compilation : Compilation) (n : IsNumberedWorld w compilation) (reads : List ModuleReads) (table : RecipeTable) (many : length compilation.modules.items ≤ length reads) (t : IsTable compilation reads table)
    (rank : ℕ) (recipe : ResolvedRecipe) (at : slice_get table.recipes.items rank ≡ Some recipe) (k : ℕ) (node : ModuleNode) (here : HasNode w compilation k node) (same : recipe.module ≡ k)
    (home : ModuleReads) (home_there : slice_get reads k ≡ Some home) (graph : List (List ℕ)) (g : IsGraphOf compilation node graph) (resolver : IsResolverOf (kept_by compilation node) home.resolver) (small : length graph ≤ 2 ^ 64) where
  abbrev kept : Kept
  kept = (r w compilation n reads table many t rank recipe at).kept

  abbrev item : Item
  item = items.Recipe kept.2

  kept_home : kept.0 ≡ k
  kept_home = sym (home_is w compilation n reads table many t rank recipe at) ∙ same

  abbrev standing : StandsIn w compilation (meant w compilation n reads table many t) kept
  standing = stands w compilation n reads table many t rank recipe at

  item_there : item_at compilation kept.1 ≡ Some item
  item_there = item_back (item_at compilation kept.1) kept.2 (is_kept compilation kept (contains_at (all_kept compilation) (r w compilation n reads table many t rank recipe at).q kept (r w compilation n reads table many t rank recipe at).at)).there

  -- no attribute of it stands twice that may stand once
  pub attributes_once : AttributesStandOnce compilation → repeated (shapes_in kept.2.attributes) ≡ None
  attributes_once single =
      single kept.0 standing.node standing.here kept.1 standing.keeps.there.from standing.keeps.there.to kept.2 (is_kept compilation kept (contains_at (all_kept compilation) (r w compilation n reads table many t rank recipe at).q kept (r w compilation n reads table many t rank recipe at).at)).there

  nodes_same : standing.node ≡ node
  nodes_same = same_Some standing.node node (sym standing.here ∙ ap (slice_get compilation.modules.items) kept_home ∙ here)

  -- the recipe is an item of the module
  item_is : IsItemOf compilation node item
  item_is = subst (λ m. IsItemOf compilation m item) nodes_same (record { place = kept.1; from = standing.keeps.there.from; to = standing.keeps.there.to; there = item_there })

  abbrev references : List Reference
  references = references_of_recipe kept.2

  places_are : places_of home.resolver references ≡ Ok recipe.reads.items
  places_are =
      let x = r w compilation n reads table many t rank recipe at in
      let homes : x.home ≡ home = same_Some x.home home (sym x.home_there ∙ ap (slice_get reads) kept_home ∙ home_there) in
      subst (λ (h : ModuleReads). places_of h.resolver references ≡ Ok recipe.reads.items) homes x.reads_are

  -- ---- what is read at places is named

  -- an expression of the recipe names what stands at the place
  record IsNamedAt (place : ℕ) : Type 0 where
    pub s : Seen
    pub seen : Contains (seen_in item) s
    pub o : Occurrence
    pub occurs : Contains (occurrences (part_of s).said) o
    pub named : IsNamed w compilation node (part_of s) o place

  named_at : (place : ℕ) → Contains recipe.reads.items place → IsNamedAt place
  named_at place c =
      let f = read_from home.resolver references recipe.reads.items places_are place c in
      let s = contained_flat references_seen (seen_in item) f.0 (subst (λ rs. Contains rs f.0) (recipe_references_are_seen kept.2) f.1) in
      let meant = subst (IsPlaceMeant w compilation node (part_of s.0) (occurrence_of f.0)) f.2 (places_are_meant w compilation n k node here home.resolver resolver item item_is s.0 s.1 f.0 s.2) in
      record { s = s.0; seen = s.1; o = occurrence_of f.0; occurs = occurs s.0 f.0 s.2; named = meant.1 }

  one_place : {p : Part} {o : Occurrence} {a b : ℕ} → IsNamed w compilation node p o a → IsNamed w compilation node p o b → a ≡ b
  one_place (of_variable a unseen e) (of_variable b unseen' f) =
      let x = mapped_at (λ (v : Binding Expression). lexeme v.name.token) (variables w compilation n k node here) a _ e in
      let y = mapped_at (λ (v : Binding Expression). lexeme v.name.token) (variables w compilation n k node here) b _ f in
      variable_once w compilation n k node here a b x.0 y.0 x.1 y.1 (x.2 ∙ sym y.2)
  one_place (of_function a e) (of_function b f) =
      let x = mapped_at (λ (q : FunctionDefinition). lexeme q.name.token) (functions w compilation n k node here) a _ e in
      let y = mapped_at (λ (q : FunctionDefinition). lexeme q.name.token) (functions w compilation n k node here) b _ f in
      ap (λ j. length (variable_names compilation node) + j) (function_once w compilation n k node here a b x.0 y.0 x.1 y.1 (x.2 ∙ sym y.2))

  few : AreFew w compilation node
  few =
      let all = length-map (functions w compilation n k node here) (λ (f : FunctionDefinition). lexeme f.name.token) in
      let graph_many = places_many w compilation n k node here graph g in
      let less = small in
      omega (arith, all, graph_many, less)

  -- what an expression of the recipe names is read at its place
  place_read : (s : Seen) → Contains (seen_in item) s → (o : Occurrence) → Contains (occurrences (part_of s).said) o → (place : ℕ) → IsNamed w compilation node (part_of s) o place → Contains recipe.reads.items place
  place_read s seen o c place named =
      let q = occurred s o c in
      let all = subst (λ rs. Contains rs q.0) (sym (recipe_references_are_seen kept.2)) (contains_flat references_seen (seen_in item) s q.0 seen q.1) in
      let given = given_of home.resolver references recipe.reads.items places_are q.0 all in
      let meant = subst (IsPlaceMeant w compilation node (part_of s) (occurrence_of q.0)) given.1 (places_are_meant w compilation n k node here home.resolver resolver item item_is s seen q.0 q.1) in
      by_found given.0 (subst (λ x. IsPlaceMeant w compilation node (part_of s) x (Ok given.0)) q.2 meant) given.2
    where
      by_found : (found : Option ℕ) → IsPlaceMeant w compilation node (part_of s) o (Ok found) → ((x : ℕ) → found ≡ Some x → Contains recipe.reads.items x) → Contains recipe.reads.items place
      by_found None h listed = absurd (h.1 few place named)
      by_found (Some x) h listed = subst (Contains recipe.reads.items) (one_place h.1 named) (listed x refl)

  module _ (path : List Text) (has : HasPath w (views w compilation) (nodes w compilation) k path) (given : List Override) (assignments : List AssignmentRef) (kept_are : variables_in assignments ≡ variables_at compilation node.assignments.items) where
    -- the recipe reads the place itself, or the place of a function that reads it
    abbrev pub ReadsPlace : ℕ → Type 0
    ReadsPlace read = Contains recipe.reads.items read ⊎ ((function : ℕ) × Contains recipe.reads.items function × (length assignments ≤ function) × ReadsThrough graph (length assignments) function read)

    abbrev attributes : List AttributeShape
    attributes = shapes_in kept.2.attributes

    abbrev Expressions : Shape × List (List ℕ) → Type 0
    Expressions x = Contains (expressions w.expansion (own_name w compilation n reads table many t rank recipe at) (recipe_shape kept.2) attributes) x

    module _ (j : ℕ) (lent : AssignmentRef) (there : slice_get assignments j ≡ Some lent) where
      in_part : (s : Seen) → PartReads w node.source.now (part_of s) (name_of lent) → Contains (seen_in item) s → ReadsPlace j
      in_part s (rules.named h) seen = inl (place_read s seen (a_variable (name_of lent)) h.occurs j (of_variable j h.seen (name_there w compilation n k node here path has given assignments kept_are j lent there)))
      in_part s (rules.called {f} h rest) seen =
          let d = function_known w compilation n k node here f.name (function_item f) h.kept in
          let count : ℕ = length (variable_names compilation node) in
          let shapes : function_shape d.1 ≡ f = cc d.4 in
          let called : slice_get (function_names compilation node) d.0 ≡ Some f.name = mapped (λ (x : FunctionDefinition). lexeme x.name.token) (functions w compilation n k node here) d.0 d.1 d.2 ∙ ap (λ x. Some x) d.3 in
          let part_there = subst (λ (x : FunctionShape). IsPartAt w compilation n k node here (count + d.0) (part x.parameters x.body)) shapes (part_of_function w compilation n k node here d.0 d.1 d.2) in
          let c = reads_complete w compilation n k node here graph g small (part f.parameters f.body) (name_of lent) rest (count + d.0) part_there in
          let v = mapped_at (λ (x : Binding Expression). lexeme x.name.token) (variables w compilation n k node here) c.0 (name_of lent) c.1 in
          let places = variable_once w compilation n k node here c.0 j v.0 lent.assignment.now v.1 (kept_at.variable_here w compilation n k node here path has assignments kept_are j lent there) v.2 in
          let counted = many_variables w compilation n k node here path has given assignments kept_are in
          inr (
            count + d.0,
            place_read s seen (a_call f.name h.count) h.occurs (count + d.0) (of_function d.0 called),
            omega (arith, counted),
            subst (λ m. ReadsThrough graph m (count + d.0) j) (sym counted) (subst (ReadsThrough graph count (count + d.0)) {x = c.0} places c.2),
          )

      module _ (defined : Definitions) (recipe_is : (x : RecipeName) → defined.recipe x ≡ recipe_named compilation w.expansion x)
          (functions_are : defined.functions path ≡ functions_at compilation path) (path_is : path_in compilation.modules.items k ≡ path) where
        -- its name is of the module
        pub name_path : (name_at compilation table rank).path ≡ path
        name_path = ap (λ (x : RecipeName). x.path) (called_so w compilation n reads table many t rank recipe at) ∙ ap (path_in compilation.modules.items) kept_home ∙ path_is

        functions_here : defined.functions (name_at compilation table rank).path ≡ functions_at compilation path
        functions_here = ap defined.functions name_path ∙ functions_are

        abbrev own : RecipeRow
        own = row_at w compilation n reads table many t defined recipe_is (overrides_of given) rank recipe at

        row_is : defined.recipe (name_at compilation table rank) ≡ Some own
        row_is = row_there w compilation n reads table many t defined recipe_is (overrides_of given) rank recipe at

        abbrev name_in : DependencyShape → RecipeName
        name_in = own_name w compilation n reads table many t rank recipe at

        -- what the recipe reads by names it reads at places
        pub reads_at_place : RecipeReads defined (name_at compilation table rank) (name_of lent) → ReadsPlace j
        reads_at_place reads_it =
            let hidden : List (List ℕ) = reads_it.hidden in
            let e : Shape = reads_it.e in
            let rows_same : reads_it.row ≡ own = same_Some reads_it.row own (sym reads_it.there ∙ row_is) in
            let stands_there : Contains (expressions_in own) (e, hidden) = subst (λ (x : RecipeRow). Contains (expressions_in x) (e, hidden)) rows_same reads_it.stands in
            let c : Expressions (e, hidden) = subst (λ as'. Contains (expressions w.expansion name_in (recipe_shape kept.2) as') (e, hidden)) (in_order_already kept.2.attributes) stands_there in
            let s = part_seen w compilation n kept.1 item item_there (part hidden e) (to_parts w.expansion name_in (recipe_shape kept.2) attributes (e, hidden) c) in
            let inside : ReadsIn (functions_at compilation path) e hidden (name_of lent) = subst (λ fs. ReadsIn fs e hidden (name_of lent)) functions_here reads_it.reads in
            let keeps = keeps_variable w compilation n k node here j lent.assignment.now (kept_at.variable_here w compilation n k node here path has assignments kept_are j lent there) in
            let q = part_reads w compilation n k node here path has given (name_of lent) (item_shape (items.Assignment lent.assignment.now)) keeps inside.reached inside.named inside.free in
            in_part s.0 (subst (λ p. PartReads w node.source.now p (name_of lent)) (sym s.2) q) s.1

        module _ (single : repeated attributes ≡ None) where
          of_part : (s : Seen) → Contains (seen_in item) s → IsRead w compilation n k node here (part_of s) j → RecipeReads defined (name_at compilation table rank) (name_of lent)
          of_part s seen is =
              let x = from_parts w.expansion name_in (recipe_shape kept.2) attributes single (part_of s) (seen_part w compilation n kept.1 item item_there s seen) in
              let i : ReadsIn (functions_at compilation path) (part_of s).said (part_of s).sees (name_of lent) = read_named w compilation n k node here path has given assignments kept_are (part_of s) j lent there is in
              record {
                row = own;
                there = row_is;
                e = x.0.0;
                hidden = x.0.1;
                stands = subst (λ as'. Contains (expressions w.expansion name_in (recipe_shape kept.2) as') x.0) (sym (in_order_already kept.2.attributes)) x.1;
                reads = subst (λ fs. ReadsIn fs x.0.0 x.0.1 (name_of lent)) (sym functions_here) (subst (λ (q : Part). ReadsIn (functions_at compilation path) q.said q.sees (name_of lent)) (sym x.2) i);
              }

          within : j < length (variable_names compilation node)
          within = slice_get_within (variable_names compilation node) j (name_of lent) (name_there w compilation n k node here path has given assignments kept_are j lent there)

          -- and what it reads at places it reads by names
          pub reads_by_name : ReadsPlace j → RecipeReads defined (name_at compilation table rank) (name_of lent)
          reads_by_name (inl c) =
              let m = named_at j c in
              of_part m.s m.seen (named_read w compilation n k node here graph g (part_of m.s) m.o m.occurs j m.named within)
          reads_by_name (inr (function, c, le, chain)) =
              let m = named_at function c in
              let counted = many_variables w compilation n k node here path has given assignments kept_are in
              of_part m.s m.seen
              (called_read w compilation n k node here graph g (part_of m.s) m.o m.occurs function j m.named (omega (arith, le, counted)) (subst (λ x. ReadsThrough graph x function j) counted chain) within)
