-- The functions of a module are the same by numbers and by names.
use Rattle.std.proofs.Common.{◌≡◌, ◌∙◌, ◌+◌, ◌<◌, ◌≤◌, inl, inr, sym, ap, subst, refl, ℕ, zero, suc, Bool, true, false, List, [], ◌∷◌, length, map, Option, Some, None, arith, cond}
use Rattle.std.specs.Prelude.{Contains, bytes_eq, filter_map, slice_get}
use Rattle.std.specs.List.{cons_option}
use Rattle.std.specs.Option.{option_map, option_or}
use Rattle.std.proofs.lemmas.Iterator.Adapters.{position_from-zero}
use Rattle.std.proofs.lemmas.List.{length-map}
use Rattle.std.proofs.lemmas.List.Elements.{All-contains}
use Rattle.std.proofs.lemmas.Option.{none-some, same_Some}
use Rattle.just_text.specs.Tokens.{lexeme}
use Rattle.just_text.specs.declared.name.Name.{Name}
use Rattle.just_host.specs.declared.config.Config.{Config}
use Rattle.just_value.specs.declared.positional.Override.{Override}
use Rattle.tree_expressions.specs.Shape.{shape_of}
use Rattle.tree_expressions.specs.declared.expression.Expression.{Expression}
use Rattle.tree_items.specs.Contexts.{last_named, named_number}
use Rattle.tree_items.specs.Files.{item_shape}
use Rattle.tree_items.specs.Items.{names_of}
use Rattle.tree_items.specs.declared.ast.Item.TheVariants.{Assignment, Function}
use Rattle.tree_items.specs.declared.item.Binding.{Binding}
use Rattle.tree_items.specs.declared.item.FunctionDefinition.{FunctionDefinition}
use Rattle.parse_expressions.specs.Literals.{IsCooked, from_file}
use Rattle.modules_compilation.specs.Places.{item_at, items_of}
use Rattle.modules_compilation.specs.declared.compilation.Compilation.{Compilation}
use Rattle.modules_compilation.specs.declared.module_node.File.{File}
use Rattle.modules_compilation.specs.declared.module_node.ModuleNode.{ModuleNode}
use Rattle.modules_compilation.specs.declared.place.Place.{Place}
use Rattle.evaluate_context.specs.declared.context.FunctionRef.{FunctionRef}
use Rattle.evaluate_expressions.specs.Situations.{functions_in}
use Rattle.resolve_references.specs.References.{references_of}
use Rattle.resolve_references.specs.Seen.{Seen, seeing, seen_in}
use Rattle.resolve_references.specs.declared.references.Reference.{Reference}
use Rattle.resolve_references.specs.declared.references.Reference.TheVariants.{Call, Variable as VariableReference}
use Rattle.resolve_analysis.specs.Bound.{bindings_of}
use Rattle.resolve_analysis.specs.Lists as lists
use Rattle.resolve_analysis.specs.Lists.{Kept, kept_by, kept_in}
use Rattle.resolve_analysis.specs.declared.analysis.Analysis.{Analysis}
use Rattle.resolve_analysis.specs.declared.module_lists.ModuleLists.{ModuleLists}
use Rattle.analyze_calls.specs.declared.plan.Runner.{Runner}
use Rattle.meaning_dialogues.specs.Calls.{empty, function_named, in_frame, read_in, with_parameters}
use Rattle.meaning_dialogues.specs.Dialogue.{Lookup, Variable, around, in_module}
use Rattle.meaning_dialogues.specs.Evaluation.{Value}
use Rattle.meaning_dialogues.specs.Written.{numbered as numbered_in, numbers_from}
use Rattle.meaning_evaluation.specs.Stages.Stages.{defined_of, definitions}
use Rattle.meaning_evaluation.proofs.Stages.Depth.{IsIn}
use Rattle.laws_evaluation.proofs.Terms.Terms.{term_by_names}
use Rattle.laws_evaluation.proofs.Opening.Names.{AnyCall, InBodies, SameFunction, SameFunctions, SameIfThere}
use Rattle.laws_evaluation.specs.Soundness.Known.{IsBoundIn}
use Rattle.meaning_rules.specs.Worlds.Given.{Text, World}
use Rattle.meaning_rules.proofs.Worlds.Places.{contains_at, contains_first, contains_later, place_of}
use Rattle.laws_modules.proofs.Names.Found.{mapped, mapped_at}
use Rattle.meaning_rules.specs.Overrides.{overrides_of}
use Rattle.laws_names.specs.Reading.Meant.{AreSeenCooked}
use Rattle.laws_names.proofs.Reading.Bindings.{bound_in as names_bound}
use Rattle.laws_names.proofs.Reading.Finding.{last_named_there, none_named}
use Rattle.laws_names.proofs.Reading.Module.{function_kept, function_there}
use Rattle.laws_names.proofs.Reading.Numbers.{number_of as number_meant}
use Rattle.meaning_evaluation.specs.Named.{FunctionRow}
use Rattle.meaning_evaluation.specs.Scopes.{defined_in}
use Rattle.just_meaning.specs.Opening.{Opened, reading_in}
use Rattle.laws_runs.specs.Resolved.Definitions.{function_of, functions_at, key_at, key_of, rows_of, shape_at}
use Rattle.laws_runs.specs.Settings.Settled.{AllSettle}
use Rattle.laws_runs.specs.ByName.Variables.{AreDistinct}
use Rattle.laws_runs.proofs.ByName.Frames.{apart, same_value}
use Rattle.laws_runs.proofs.Views.Terms.{IsSo, each_so}
use Rattle.laws_runs.specs.Running.Steps.{RestsOn}
use Rattle.laws_runs.proofs.Running.Steps.Expressions.{position_named, position_none}
use Rattle.laws_runs.proofs.Running.Steps.Free.{free_apart, number_once, reads_alike, unbound}
use Rattle.laws_runs.proofs.Running.Steps.Modules.{at, own_scene, view}
use Rattle.laws_runs.proofs.Running.Steps.Standing.{Stands, node_found}

-- ---- numbers and names of parameters

abbrev text_of : Name × ℕ → Text
text_of p = lexeme p.0.token

names_map : (ps : List (Name × ℕ)) → names_of ps ≡ map text_of ps
names_map [] = refl
names_map (p ∷ ps) = ap (λ l. text_of p ∷ l) (names_map ps)

first_names : (ps : List (Name × ℕ)) → names_of ps ≡ map (λ (p : Text × ℕ). p.0) (map named_number ps)
first_names [] = refl
first_names (p ∷ ps) = ap (λ l. text_of p ∷ l) (first_names ps)

pub is_contained : (n : ℕ) (numbers : List ℕ) → IsIn n numbers → Contains numbers n
is_contained n [] h = absurd h
is_contained n (m ∷ ms) (inl same) = subst (Contains (m ∷ ms)) (sym same) (contains_first m ms)
is_contained n (m ∷ ms) (inr later) = contains_later m ms n (is_contained n ms later)

is_in : (n : ℕ) (numbers : List ℕ) (i : ℕ) → slice_get numbers i ≡ Some n → IsIn n numbers
is_in n [] i e = absurd (none-some n e)
is_in n (m ∷ ms) zero e = inl (sym (same_Some m n e))
is_in n (m ∷ ms) (suc i) e = inr (is_in n ms i e)

pub once_distinct : (numbers : List ℕ) → ((i j m : ℕ) → slice_get numbers i ≡ Some m → slice_get numbers j ≡ Some m → i ≡ j) → AreDistinct numbers
once_distinct [] all = tt
once_distinct (m ∷ ms) all = (
  (λ h. let p = place_of ms m (is_contained m ms h) in let e : zero ≡ suc p.0 = all zero (suc p.0) m refl p.1 in omega (arith, e)),
  once_distinct ms (λ i j n e f. let s : suc i ≡ suc j = all (suc i) (suc j) n e f in omega (arith, s)),
)

no_assignment : (f : FunctionDefinition) (v : Binding Expression) → Function f ≡ Assignment v → ⊥
no_assignment f v e = cc e

fused : (fs : List FunctionRef) → definitions fs ≡ map defined_of (lists.functions_in fs)
fused [] = refl
fused (f ∷ fs) = ap (λ l. defined_of f.definition.now ∷ l) (fused fs)

module _ (w : World) (compilation : Compilation) (given : List Override) (base : Text) (analysis : Analysis) (settled : AllSettle w (overrides_of given) compilation analysis.values.value.settings.items) (config : Config) (root_key : List ℕ)
    (called : List ℕ) (is_read : ℕ → Bool) (runner : Runner) (opened : List Opened) (rests : RestsOn w compilation given base analysis settled config root_key called is_read runner opened)
    (rank : ℕ) (s : Stands w compilation given base analysis settled config root_key called is_read runner opened rests rank) where
  -- what corresponds in the module is what gives there the same by its number and by its name
  module _ (C : Lookup → Variable → Variable → Type 0) (gives : (x y : Variable) → (IsBoundIn s.context.scope.now x.number → read_in (λ n. false) s.context.scope.now x.name x.number ≡ reading_in s.o.values in_module y) → C in_module x y) where
    -- one function
    module _ (place : Place) (f : FunctionDefinition) (there : item_at compilation place ≡ Some (Function f)) (from : s.node.first_file ≤ place.file) (to : place.file < s.node.end_file) where
      abbrev ps : List (Name × ℕ)
      ps = f.parameters.items

      abbrev numbers : List ℕ
      numbers = map (λ p. p.1) f.parameters.items

      abbrev names : List Text
      names = names_of f.parameters.items

      abbrev row : FunctionRow
      row = record { file = key_at compilation place; name = lexeme f.name.token; parameters = names_of f.parameters.items; body = shape_of f.body }

      -- what a variable of the body corresponds to
      abbrev Corresponds : Variable → Type 0
      Corresponds x = InBodies C (defined_of f) (defined_in w.expansion row) around x (record { name = x.name; number = numbered_in names x.name })

      has_numbers : AreDistinct numbers
      has_numbers = once_distinct numbers (λ i j m e g. number_once w compilation rests.numbered place (Function f) there i j m e g)

      of_parameter : (name : Text) (m i : ℕ) (p : Name × ℕ) → slice_get ps i ≡ Some p → text_of p ≡ name → p.1 ≡ m → Corresponds (record { name = name; number = Some m })
      of_parameter name m i p e named is = (
        λ values. same_value numbers names values i m has_numbers many here ∙ sym (ap (in_frame (with_parameters empty (numbers_from 0 names) values)) position),
        gives (record { name = name; number = Some m }) (record { name = name; number = numbered_in names name }) (λ bound. absurd
            (unbound w compilation given base analysis settled config root_key called is_read runner opened rests rank s place (Function f) there (no_assignment f) m (contains_at numbers i m here) bound)),
      )
        where
          many : length numbers ≡ length names
          many = length-map ps (λ (q : Name × ℕ). q.1) ∙ sym (ap length (names_map ps) ∙ length-map ps text_of)

          here : slice_get numbers i ≡ Some m
          here = mapped (λ (q : Name × ℕ). q.1) ps i p e ∙ ap (λ n. Some n) is

          name_at : slice_get names i ≡ Some name
          name_at = ap (λ l. slice_get l i) (names_map ps) ∙ mapped text_of ps i p e ∙ ap (λ n. Some n) named

          from_zero : 0 + i ≡ i
          from_zero = omega arith

          position : numbered_in names name ≡ Some i
          position = position_from-zero (bytes_eq name) names ∙ position_named 0 names i name name_at (λ j g.
              let q = mapped_at text_of ps j name (ap (λ l. slice_get l j) (sym (names_map ps)) ∙ g) in
              sym (rests.functions place (record { number = s.resolved.module; node = s.node; here = s.home; from = from; to = to }) f there i j p q.0 e q.1 (named ∙ sym q.2))) ∙ ap (λ n. Some n) from_zero

      of_other : (name : Text) (number : Option ℕ) → last_named name (map named_number ps) ≡ None → number ≡ bindings_of compilation s.node name → Corresponds (record { name = name; number = number })
      of_other name number none is = (
        λ values. by_number values number is ∙ sym (ap (in_frame (with_parameters empty (numbers_from 0 names) values)) unnamed),
        gives (record { name = name; number = number }) (record { name = name; number = numbered_in names name }) (λ bound. reads_alike w compilation given base analysis settled config root_key called is_read runner opened rests rank s
            name number is bound),
      )
        where
          unnamed : numbered_in names name ≡ None
          unnamed = position_from-zero (bytes_eq name) names ∙ position_none 0 names name (λ j e. none_named name (map named_number ps) none (subst (λ l. Contains l name) (first_names ps) (contains_at names j name e)))

          by_number : (values : List Value) (o : Option ℕ) → o ≡ bindings_of compilation s.node name → in_frame (with_parameters empty numbers values) o ≡ None
          by_number values None e = refl
          by_number values (Some m) e = apart numbers values empty m (λ h. free_apart w compilation given base analysis settled config root_key called is_read runner opened rests rank s place (Function f) there (no_assignment f) name m
              (sym e) (is_contained m numbers h))

      abbrev body_seen : Seen
      body_seen = seeing (map named_number f.parameters.items) f.body

      among : Contains (seen_in (Function f)) body_seen
      among = contains_first body_seen []

      body_numbers : (name : Name) (number : Option ℕ) → Contains (references_of f.body) (VariableReference name number)
          → number ≡ option_or (last_named (lexeme name.token) (map named_number ps)) (bindings_of compilation s.node (lexeme name.token))
      body_numbers name number d =
          number_meant (bindings_of compilation s.node) body_seen
          (names_bound w compilation rests.numbered s.resolved.module s.node s.home (Function f) (record { place = place; from = from; to = to; there = there }) body_seen among) name number d

      corresponds : (x : Text) (number : Option ℕ) (o : Option ℕ) → last_named x (map named_number ps) ≡ o → number ≡ option_or o (bindings_of compilation s.node x) → Corresponds (record { name = x; number = number })
      corresponds x number (Some m) is e =
          let c = place_of (map named_number ps) (x, m) (last_named_there x (map named_number ps) m is) in
          let p = mapped_at named_number ps c.0 (x, m) c.1 in
          subst (λ o. Corresponds (record { name = x; number = o })) (sym e) (of_parameter x m c.0 p.0 p.1 (ap (λ (r : Text × ℕ). r.0) p.2) (ap (λ (r : Text × ℕ). r.1) p.2))
      corresponds x number None is e = of_other x number is e

      so : (r : Reference) → Contains (references_of f.body) r → IsSo Corresponds AnyCall r
      so (Call name arguments) d = tt
      so (VariableReference name number) d = corresponds (lexeme name.token) number (last_named (lexeme name.token) (map named_number ps)) refl (body_numbers name number d)

      cooked_here : IsCooked (from_file (key_at compilation place) w.expansion) f.body
      cooked_here = by_file (slice_get compilation.files.items place.file) refl there
        where
          by_file : (o : Option File) → slice_get compilation.files.items place.file ≡ o → slice_get (items_of o) place.item ≡ Some (Function f) → IsCooked (from_file (key_at compilation place) w.expansion) f.body
          by_file None e is = absurd (none-some (Function f) is)
          by_file (Some file) e is =
              let items = rests.numbered.cooked place.file file e in
              let own = All-contains (AreSeenCooked (from_file file.key.now w.expansion)) file.ast.items.items (Function f) items (contains_at file.ast.items.items place.item (Function f) is) in
              subst (λ o. IsCooked (from_file (key_of o) w.expansion) f.body) (sym e) (All-contains (λ (x : Seen). IsCooked (from_file file.key.now w.expansion) x.expression) (seen_in (Function f)) body_seen own among)

      function_same : SameFunction C (defined_of f) (defined_in w.expansion row)
      function_same = record {
        name = refl;
        numbers = numbered_in names;
        body = sym (term_by_names (from_file (key_at compilation place) w.expansion) (numbered_in names) f.body cooked_here);
        variables = each_so Corresponds AnyCall f.body so;
      }

    -- ---- all of them

    abbrev row_there : Place → Option FunctionRow
    row_there place = function_of (key_at compilation place) (shape_at compilation place)

    same_named : (places : List Place) → ((i : ℕ) (place : Place) → slice_get places i ≡ Some place → (f : FunctionDefinition) × (item_at compilation place ≡ Some (Function f)) × (s.node.first_file ≤ place.file) ×
        (place.file < s.node.end_file)) → (name : Text)
        → SameIfThere C (function_named name (map defined_of (filter_map (lists.function_at compilation) places))) (function_named name (map (defined_in w.expansion) (filter_map row_there places)))
    same_named [] each name = tt
    same_named (place ∷ places) each name =
        let f = each 0 place refl in
        let first : lists.function_at compilation place ≡ Some f.0 = ap lists.function_of f.1 in
        let second : row_there place ≡ Some (row place f.0 f.1 f.2 f.3) = ap (λ o. function_of (key_at compilation place) (option_map item_shape o)) f.1 in
        subst (λ o. SameIfThere C (function_named name (map defined_of (cons_option o (filter_map (lists.function_at compilation) places)))) (function_named name (map (defined_in w.expansion) (filter_map row_there (place ∷ places))))) (sym first)
        (subst (λ o. SameIfThere C (function_named name (defined_of f.0 ∷ map defined_of (filter_map (lists.function_at compilation) places)))
        (function_named name (map (defined_in w.expansion) (cons_option o (filter_map row_there places))))) (sym second)
        (by_test f.0 (row place f.0 f.1 f.2 f.3) (function_same place f.0 f.1 f.2 f.3) (bytes_eq (lexeme f.0.name.token) name) (same_named places (λ i. each (suc i)) name)))
      where
        by_test : (g : FunctionDefinition) (r : FunctionRow) → SameFunction C (defined_of g) (defined_in w.expansion r) → (b : Bool)
            → SameIfThere C (function_named name (map defined_of (filter_map (lists.function_at compilation) places))) (function_named name (map (defined_in w.expansion) (filter_map row_there places)))
            → SameIfThere C (cond b (Some (defined_of g)) (function_named name (map defined_of (filter_map (lists.function_at compilation) places))))
            (cond b (Some (defined_in w.expansion r)) (function_named name (map (defined_in w.expansion) (filter_map row_there places))))
        by_test g r same true rest = same
        by_test g r same false rest = rest

    rows_are : functions_at compilation (at w compilation given base analysis settled config root_key called is_read runner opened rests rank s) ≡ filter_map row_there s.node.functions.items
    rows_are = ap (λ o. filter_map row_there (rows_of (λ (x : ModuleNode). x.functions.items) o)) (node_found w compilation given base analysis settled config root_key called is_read runner opened rests rank s)

    kept_functions : functions_in s.context ≡ map defined_of (lists.functions_at compilation s.node.functions.items)
    kept_functions =
        ap definitions (view w compilation given base analysis settled config root_key called is_read runner opened rests rank s).seen.functions
        ∙ fused (view w compilation given base analysis settled config root_key called is_read runner opened rests rank s).seen.lists.functions.items
        ∙ ap (map defined_of) (ap (λ (k : Kept). k.functions) lists_are)
      where
        lists_are : kept_in (view w compilation given base analysis settled config root_key called is_read runner opened rests rank s).seen.lists ≡ kept_by compilation s.node
        lists_are =
            let m = mapped_at kept_in analysis.variables.lists.items s.resolved.module (kept_by compilation s.node) (ap (λ ks. slice_get ks s.resolved.module) rests.known.is_known.variables_are.lists ∙ mapped (kept_by compilation)
            compilation.modules.items s.resolved.module s.node s.home) in
            subst (λ (l : ModuleLists). kept_in l ≡ kept_by compilation s.node) (same_Some m.0 (view w compilation given base analysis settled config root_key called is_read runner opened rests rank s).seen.lists
            (sym m.1 ∙ (view w compilation given base analysis settled config root_key called is_read runner opened rests rank s).seen.lists_there)) m.2

    -- each name calls the same function by numbers and by names, or none
    pub functions_same : SameFunctions C (functions_in s.context) (own_scene w compilation given base analysis settled config root_key called is_read runner opened rests rank s).functions
    functions_same = record {
      each = λ name. subst (λ fs. SameIfThere C (function_named name fs) (function_named name (own_scene w compilation given base analysis settled config root_key called is_read runner opened rests rank s).functions)) (sym kept_functions)
          (subst (λ rows. SameIfThere C (function_named name (map defined_of (lists.functions_at compilation s.node.functions.items))) (function_named name (map (defined_in w.expansion) rows))) (sym rows_are)
          (same_named s.node.functions.items each_there name));
    }
      where
        each_there : (i : ℕ) (place : Place) → slice_get s.node.functions.items i ≡ Some place → (f : FunctionDefinition) × (item_at compilation place ≡ Some (Function f)) × (s.node.first_file ≤ place.file) × (place.file < s.node.end_file)
        each_there i place e =
            let t = function_there w compilation rests.numbered s.resolved.module s.node s.home i place e in
            let r = function_kept w compilation rests.numbered s.resolved.module s.node s.home i t.0 t.1 in
            let same : r.0 ≡ place = same_Some r.0 place (sym r.1 ∙ e) in
            (t.0, t.2, subst (λ (p : Place). s.node.first_file ≤ p.file) same r.3.from, subst (λ (p : Place). p.file < s.node.end_file) same r.3.to)
