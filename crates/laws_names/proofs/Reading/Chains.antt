-- What the places of a module's graph read, and what its variables and functions read.
use Rattle.std.proofs.Common.{◌≡◌, refl, sym, ◌∙◌, ap, subst, List, [], ◌++◌, map, length, Option, Some, None, ℕ, ◌+◌, ◌≤◌, ◌<◌, ◌^◌, arith}
use Rattle.std.specs.Prelude.{slice_get, Contains, Ok}
use Rattle.std.proofs.lemmas.List.{length-append, length-map}
use Rattle.std.proofs.lemmas.Option.{same_Some, slice_get_within}
use Rattle.just_text.specs.Tokens.{lexeme}
use Rattle.tree_expressions.specs.Shape.{shape_of}
use Rattle.tree_expressions.specs.declared.expression.Expression.{Expression}
use Rattle.tree_items.specs.Contexts.{named_number}
use Rattle.tree_items.specs.Files.{function_item, item_shape}
use Rattle.tree_items.specs.Items.{FunctionShape, function_shape}
use Rattle.tree_items.specs.declared.ast.Item.{Item}
use Rattle.tree_items.specs.declared.ast.Item.TheVariants.{Assignment, Function}
use Rattle.tree_items.specs.declared.item.Binding.{Binding}
use Rattle.tree_items.specs.declared.item.FunctionDefinition.{FunctionDefinition}
use Rattle.modules_compilation.specs.declared.compilation.Compilation.{Compilation}
use Rattle.modules_compilation.specs.declared.module_node.ModuleNode.{ModuleNode}
use Rattle.resolve_order.specs.Needs.{Needs}
use Rattle.resolve_order.specs.Reads.{ReadsThrough, directly, through}
use Rattle.resolve_references.specs.Places.{place_of as place_of_reference, places_of}
use Rattle.resolve_references.specs.References.{references_of}
use Rattle.resolve_references.specs.Seen.{Seen, seeing, seen_in}
use Rattle.resolve_references.specs.declared.references.Reference.{Reference}
use Rattle.resolve_analysis.specs.Reads.{bodies, right_sides}
use Rattle.meaning_rules.specs.Worlds.Given.{Text, World}
use Rattle.meaning_rules.specs.Worlds.Keeping.{Keeps, a_variable}
use Rattle.meaning_rules.proofs.Worlds.Places.{contains_first, push_left}
use Rattle.meaning_rules.specs.Graph.{of_function, of_variable}
use Rattle.meaning_rules.specs.Naming.{Occurrence, Part, occurrences, part}
use Rattle.meaning_rules.specs.Naming as naming
use Rattle.meaning_rules.specs.Reading.{PartReads, called, named}
use Rattle.laws_modules.specs.Names.Names.{HasNode}
use Rattle.laws_modules.proofs.Names.Found.{mapped, mapped_at}
use Rattle.laws_modules.specs.References.Occurrences.{occurrence_of}
use Rattle.laws_names.specs.Reading.Cycles.{IsGraphOf}
use Rattle.laws_names.specs.Reading.Meant.{IsNumberedWorld}
use Rattle.laws_names.specs.Reading.Parts.{part_of}
use Rattle.laws_names.specs.Reading.Places.{AreFew, IsItemOf, IsNamed, IsPlaceMeant, function_names, variable_names}
use Rattle.laws_names.proofs.Reading.Items.{occurred, occurs}
use Rattle.laws_names.proofs.Reading.Lists.{push_right}
use Rattle.laws_names.proofs.Reading.Module.{function_kept, function_known, function_once, functions, keeps_function, keeps_variable, variable_kept, variable_known, variable_once, variables}
use Rattle.laws_names.proofs.Reading.Outcomes.{as_many_rows, given_of, read_from, row_of}
use Rattle.laws_names.proofs.Reading.Parts.{function_names as names_of_parameters}
use Rattle.laws_names.proofs.Reading.Places.{places_are_meant}

module _ (w : World) (compilation : Compilation) (n : IsNumberedWorld w compilation) (k : ℕ) (node : ModuleNode) (here : HasNode w compilation k node) where
  abbrev own : Text
  own = node.source.now

  abbrev vs : List (Binding Expression)
  vs = variables w compilation n k node here

  abbrev fs : List FunctionDefinition
  fs = functions w compilation n k node here

  abbrev es : List Expression
  es = right_sides vs ++ bodies fs

  abbrev count : ℕ
  count = length (variable_names compilation node)

  as_many : count ≡ length vs
  as_many = length-map vs (λ (v : Binding Expression). lexeme v.name.token)

  -- an occurrence names one place
  one_place : {p : Part} {o : Occurrence} {a b : ℕ} → IsNamed w compilation node p o a → IsNamed w compilation node p o b → a ≡ b
  one_place (of_variable a unseen e) (of_variable b unseen' f) =
      let x = mapped_at (λ (v : Binding Expression). lexeme v.name.token) vs a _ e in
      let y = mapped_at (λ (v : Binding Expression). lexeme v.name.token) vs b _ f in
      variable_once w compilation n k node here a b x.0 y.0 x.1 y.1 (x.2 ∙ sym y.2)
  one_place (of_function a e) (of_function b f) =
      let x = mapped_at (λ (g : FunctionDefinition). lexeme g.name.token) fs a _ e in
      let y = mapped_at (λ (g : FunctionDefinition). lexeme g.name.token) fs b _ f in
      ap (λ j. count + j) (function_once w compilation n k node here a b x.0 y.0 x.1 y.1 (x.2 ∙ sym y.2))

  -- ---- the parts of the places

  -- the part is that of the item at the place: of a variable, or of a function behind the variables
  pub record IsPartAt (place : ℕ) (p : Part) : Type 0 where
    pub item : Item
    pub of : IsItemOf compilation node item
    pub s : Seen
    pub seen : Contains (seen_in item) s
    pub is : part_of s ≡ p
    pub stands : slice_get es place ≡ Some s.expression

  pub part_of_variable : (i : ℕ) (v : Binding Expression) → slice_get vs i ≡ Some v → IsPartAt i (part [] (shape_of v.value))
  part_of_variable i v e =
      let kept = variable_kept w compilation n k node here i v e in
      record {
        item = Assignment v;
        of = record { place = kept.0; from = kept.3.from; to = kept.3.to; there = kept.3.there };
        s = seeing [] v.value;
        seen = contains_first (seeing [] v.value) [];
        is = refl;
        stands = push_left (right_sides vs) (bodies fs) i v.value (mapped (λ (x : Binding Expression). x.value) vs i v e);
      }

  pub part_of_function : (j : ℕ) (f : FunctionDefinition) → slice_get fs j ≡ Some f → IsPartAt (count + j) (part (function_shape f).parameters (function_shape f).body)
  part_of_function j f e =
      let kept = function_kept w compilation n k node here j f e in
      let s = seeing (map named_number f.parameters.items) f.body in
      let behind : length (right_sides vs) + j ≡ count + j = ap (λ m. m + j) (length-map vs (λ (x : Binding Expression). x.value) ∙ sym as_many) in
      record {
        item = Function f;
        of = record { place = kept.0; from = kept.3.from; to = kept.3.to; there = kept.3.there };
        s = s;
        seen = contains_first s [];
        is = ap (λ ns. part ns (shape_of f.body)) (sym (names_of_parameters f.parameters.items));
        stands = ap (slice_get es) (sym behind) ∙ push_right (right_sides vs) (bodies fs) j f.body (mapped (λ (x : FunctionDefinition). x.body) fs j f e);
      }

  module _ (graph : List (List ℕ)) (g : IsGraphOf compilation node graph) where
    -- the places of a graph are those of the variables and functions
    pub places_many : length graph ≡ count + length fs
    places_many =
        as_many_rows g.resolver es graph g.rows ∙ length-append (right_sides vs) (bodies fs)
        ∙ ap (λ m. m + length (bodies fs)) (length-map vs (λ (x : Binding Expression). x.value) ∙ sym as_many) ∙ ap (λ m. count + m) (length-map fs (λ (x : FunctionDefinition). x.body))

    module _ (place : ℕ) (p : Part) (at : IsPartAt place p) where
      meant : (r : Reference) → Contains (references_of at.s.expression) r → IsPlaceMeant w compilation node p (occurrence_of r) (place_of_reference g.resolver r)
      meant r c = subst (λ q. IsPlaceMeant w compilation node q (occurrence_of r) (place_of_reference g.resolver r)) at.is (places_are_meant w compilation n k node here g.resolver g.of at.item at.of at.s at.seen r c)

      row : (row : List ℕ) × (slice_get graph place ≡ Some row) × (places_of g.resolver (references_of at.s.expression) ≡ Ok row)
      row = row_of g.resolver es graph g.rows place at.s.expression at.stands

      -- what a place needs is named in its part
      pub need_named : (read : ℕ) → Needs graph place read → (o : Occurrence) × Contains (occurrences p.said) o × IsNamed w compilation node p o read
      need_named read needs =
          let same : needs.row ≡ row.0 = same_Some needs.row row.0 (sym needs.here ∙ row.1) in
          let r = read_from g.resolver (references_of at.s.expression) row.0 row.2 read (subst (λ xs. Contains xs read) same needs.listed) in
          let found = subst (IsPlaceMeant w compilation node p (occurrence_of r.0)) r.2 (meant r.0 r.1) in
          (occurrence_of r.0, subst (λ (q : Part). Contains (occurrences q.said) (occurrence_of r.0)) at.is (occurs at.s r.0 r.1), found.1)

      -- and what is named in it is needed
      pub named_needed : AreFew w compilation node → (o : Occurrence) → Contains (occurrences p.said) o → (read : ℕ) → read < length graph → IsNamed w compilation node p o read → Needs graph place read
      named_needed few o c read within is_named =
          let r = occurred at.s o (subst (λ (q : Part). Contains (occurrences q.said) o) (sym at.is) c) in
          let given = given_of g.resolver (references_of at.s.expression) row.0 row.2 r.0 r.1 in
          let found = subst (IsPlaceMeant w compilation node p (occurrence_of r.0)) given.1 (meant r.0 r.1) in
          let listed = by_found given.0 (subst (λ x. IsPlaceMeant w compilation node p x (Ok given.0)) r.2 found) given.2 in
          record { row = row.0; here = row.1; listed = listed; there = within }
        where
          by_found : (found : Option ℕ) → IsPlaceMeant w compilation node p o (Ok found) → ((x : ℕ) → found ≡ Some x → Contains row.0 x) → Contains row.0 read
          by_found None h listed = absurd (h.1 few read is_named)
          by_found (Some x) h listed = subst (Contains row.0) (one_place h.1 is_named) (listed x refl)

    -- ---- what is read through functions

    abbrev IsRead : Part → ℕ → Type 0
    IsRead p read = (name : Text) × (slice_get (variable_names compilation node) read ≡ Some name) × PartReads w own p name

    read_named : (p : Part) (o : Occurrence) → Contains (occurrences p.said) o → (read : ℕ) → IsNamed w compilation node p o read → read < count → IsRead p read
    read_named p o c read (of_variable {name} place unseen e) lt =
        let m = mapped_at (λ (v : Binding Expression). lexeme v.name.token) vs place name e in (
          name,
          e,
          named (record {
            occurs = c;
            seen = unseen;
            item = item_shape (Assignment m.0);
            kept = subst (λ t. Keeps w own a_variable t (item_shape (Assignment m.0))) m.2 (keeps_variable w compilation n k node here place m.0 m.1);
          }),
        )
    read_named p o c read (of_function place e) lt = absurd (omega (arith, lt))

    read_through : (p : Part) (o : Occurrence) → Contains (occurrences p.said) o → (function read : ℕ) → IsNamed w compilation node p o function → count ≤ function → ((q : Part) → IsPartAt function q → IsRead q read) → IsRead p read
    read_through p o c function read (of_variable {name} place unseen e) le more = let less = slice_get_within (variable_names compilation node) place name e in absurd (omega (arith, le, less))
    read_through p o c function read (of_function {name} {count = arguments} place e) le more =
        let m = mapped_at (λ (f : FunctionDefinition). lexeme f.name.token) fs place name e in
        let r = more (part (function_shape m.0).parameters (function_shape m.0).body) (part_of_function place m.0 m.1) in (
          r.0,
          r.1,
          called (record {
            count = arguments;
            occurs = subst (λ t. Contains (occurrences p.said) (naming.a_call t arguments)) (sym m.2) c;
            kept = keeps_function w compilation n k node here place m.0 m.1;
          }) r.2,
        )

    -- what a place reads, its part reads
    pub reads_sound : (place read : ℕ) → ReadsThrough graph count place read → read < count → (p : Part) → IsPartAt place p → IsRead p read
    reads_sound place read (directly needs) lt p at = let q = need_named place p at read needs in read_named p q.0 q.1 read q.2 lt
    reads_sound place read (through {function} needs le more) lt p at = let q = need_named place p at function needs in read_through p q.0 q.1 function read q.2 le (λ r at'. reads_sound function read more lt r at')

    -- ---- what parts read

    module _ (small : length graph ≤ 2 ^ 64) where
      few : AreFew w compilation node
      few =
          let all = length-map fs (λ (f : FunctionDefinition). lexeme f.name.token) in
          let graph_many = places_many in
          let less = small in
          omega (arith, all, graph_many, less)

      pub reads_complete : (p : Part) (name : Text) → PartReads w own p name → (place : ℕ) → IsPartAt place p → (read : ℕ) × (slice_get (variable_names compilation node) read ≡ Some name) × ReadsThrough graph count place read
      reads_complete p name (named h) place at =
          let v = variable_known w compilation n k node here name h.item h.kept in
          let there : slice_get (variable_names compilation node) v.0 ≡ Some name = mapped (λ (x : Binding Expression). lexeme x.name.token) vs v.0 v.1 v.2 ∙ ap (λ t. Some t) v.3 in
          let lt = slice_get_within (variable_names compilation node) v.0 name there in
          let graph_many = places_many in
          (v.0, there, directly (named_needed place p at few (naming.a_variable name) h.occurs v.0 (omega (arith, lt, graph_many)) (of_variable v.0 h.seen there)))
      reads_complete p name (called {f} h more) place at =
          let d = function_known w compilation n k node here f.name (function_item f) h.kept in
          let shapes : function_shape d.1 ≡ f = cc d.4 in
          let lt = slice_get_within fs d.0 d.1 d.2 in
          let graph_many = places_many in
          let there : slice_get (function_names compilation node) d.0 ≡ Some f.name = mapped (λ (x : FunctionDefinition). lexeme x.name.token) fs d.0 d.1 d.2 ∙ ap (λ t. Some t) d.3 in
          let part_there = subst (λ (x : FunctionShape). IsPartAt (count + d.0) (part x.parameters x.body)) shapes (part_of_function d.0 d.1 d.2) in
          let r = reads_complete (part f.parameters f.body) name more (count + d.0) part_there in
          (r.0, r.1, through (named_needed place p at few (naming.a_call f.name h.count) h.occurs (count + d.0) (omega (arith, lt, graph_many)) (of_function d.0 there)) (omega arith) r.2)
