-- What references name is known by the places that are good, and variables in their order.
use Rattle.std.proofs.Common.{◌≡◌, ◌⊎◌, inl, inr, refl, sym, ◌∙◌, ap, subst, Bool, true, false, cond, if◌then◌else◌, nat_eq, nat_lt, List, [], ◌∷◌, ◌++◌, map, length, Option, Some, None, Ok, ℕ, zero, suc, ◌+◌, ◌^◌, ◌≤◌, ◌<◌, arith, true≢false}
use Rattle.std.specs.Prelude.{slice_get, Contains, IsSome}
use Rattle.std.specs.Option.{option_or}
use Rattle.std.specs.Str.{bytes_eq}
use Rattle.std.proofs.lemmas.Bool.Decides.{Decides-eqb, Decides-ltb, leb_tells}
use Rattle.std.proofs.lemmas.List.{length-map}
use Rattle.std.proofs.lemmas.Option.{none-some, same_Some, slice_get_within}
use Rattle.std.proofs.lemmas.Slice.Eq.{bytes_eq-Decides}
use Rattle.just_text.specs.Tokens.{lexeme}
use Rattle.just_text.specs.declared.name.Name.{Name}
use Rattle.tree_expressions.specs.declared.expression.Expression.{Expression}
use Rattle.tree_items.specs.Contexts.{last_named, named_number}
use Rattle.tree_items.specs.declared.ast.Item.{Item}
use Rattle.tree_items.specs.declared.ast.Item.TheVariants.{Assignment, Function as function_item}
use Rattle.tree_items.specs.declared.item.Binding.{Binding}
use Rattle.tree_items.specs.declared.item.FunctionDefinition.{FunctionDefinition}
use Rattle.just_value.specs.Constants.{constant_rows}
use Rattle.evaluate_context.specs.declared.context.AssignmentRef.{AssignmentRef}
use Rattle.evaluate_functions.specs.Names.{function_of}
use Rattle.evaluate_functions.specs.declared.function.Function.{Function}
use Rattle.evaluate_variables.specs.Opened.{before, ordered}
use Rattle.modules_compilation.specs.declared.compilation.Compilation.{Compilation}
use Rattle.modules_compilation.specs.declared.module_node.ModuleNode.{ModuleNode}
use Rattle.resolve_order.specs.Reads.{IsVariableOrder, ReadsThrough, directly, through}
use Rattle.resolve_references.specs.Functions.{builtin_call, call_from, function_in, if_taken}
use Rattle.resolve_references.specs.Places.{place_of as place_of_reference, place_of_resolved, variable_in}
use Rattle.resolve_references.specs.References.{references_of}
use Rattle.resolve_references.specs.Seen.{Seen, seeing, seen_in}
use Rattle.resolve_references.specs.declared.functions.Called.TheVariants.{Defined}
use Rattle.resolve_references.specs.declared.functions.DefinedFunction.{DefinedFunction as ResolvedFunction}
use Rattle.resolve_references.specs.declared.references.Reference.{Reference}
use Rattle.resolve_references.specs.declared.references.Reference.TheVariants.{Call, Variable}
use Rattle.resolve_analysis.specs.Bound.{binding_number, bindings_of, constant_number}
use Rattle.resolve_analysis.specs.Lists.{variables_in}
use Rattle.resolve_analysis.specs.Reads.{bodies, right_sides}
use Rattle.meaning_dialogues.specs.Calls.{DefinedFunction, function_named}
use Rattle.meaning_dialogues.specs.Dialogue.{Variable as NamedVariable}
use Rattle.meaning_dialogues.specs.Terms.{term_of}
use Rattle.meaning_evaluation.proofs.Stages.Depth.{HasNumber, IsIn}
use Rattle.meaning_evaluation.specs.Stages.Stages.{defined_of}
use Rattle.laws_evaluation.specs.Soundness.Known.{BodiesKnown, IsCallable, NamesKnown, OneForEach}
use Rattle.laws_evaluation.specs.Soundness.Opening.{InOrder, IsNumbered, SideKnown, With}
use Rattle.meaning_rules.specs.Worlds.Given.{Text, World}
use Rattle.meaning_rules.proofs.Worlds.Places.{contains_cases, contains_first, contains_none, place_of, push_left}
use Rattle.laws_modules.specs.Names.Names.{HasNode}
use Rattle.laws_modules.proofs.Names.Found.{mapped, mapped_at, there_within}
use Rattle.laws_names.specs.Reading.Cycles.{IsGraphOf}
use Rattle.laws_names.specs.Reading.Meant.{IsNumberedWorld}
use Rattle.laws_names.specs.Reading.Places.{IsItemOf, variable_names}
use Rattle.laws_names.proofs.Reading.Bindings.{bound_in}
use Rattle.laws_names.proofs.Reading.Chains.{places_many}
use Rattle.laws_names.proofs.Reading.Constants.{is_constant}
use Rattle.laws_names.proofs.Reading.Finding.{defined_at, last_named_there, none_defined, none_numbered, numbered_at}
use Rattle.laws_names.proofs.Reading.Lists.{contains_mapped, push_right}
use Rattle.laws_names.proofs.Reading.Module.{function_kept, function_once, functions, variable_kept, variables}
use Rattle.laws_names.proofs.Reading.Numbers.{number_of}
use Rattle.laws_names.proofs.Reading.Outcomes.{given_of, row_of}
use Rattle.laws_runs.proofs.Views.Closing.{AreGood, good_places}
use Rattle.laws_runs.proofs.Views.Terms.{IsSo, each_so}

-- ---- numbers and functions of a name

-- the number of a pair is one of the numbers
is_in : (pairs : List (Text × ℕ)) (name : Text) (number : ℕ) → Contains pairs (name, number) → IsIn number (map (λ p. p.1) pairs)
is_in [] name number c = absurd (contains_none [] (name, number) refl c)
is_in (pair ∷ pairs) name number c = elim (contains_cases pair pairs (name, number) c) [
  | inl same ↦ inl (sym (ap (λ (p : Text × ℕ). p.1) same))
  | inr later ↦ inr (is_in pairs name number later)
]

-- parameters and their numbers
same_numbers : (parameters : List (Name × ℕ)) → map (λ (p : Text × ℕ). p.1) (map named_number parameters) ≡ map (λ (p : Name × ℕ). p.1) parameters
same_numbers [] = refl
same_numbers (p ∷ parameters) = ap (λ ns. p.1 ∷ ns) (same_numbers parameters)

-- a function that is found has the name, and stands in the list
named_at : (name : Text) (fs : List FunctionDefinition) (f : DefinedFunction) → function_named name (map defined_of fs) ≡ Some f → (j : ℕ) × (d : FunctionDefinition) × (slice_get fs j ≡ Some d) × (lexeme d.name.token ≡ name) × (defined_of d ≡ f)
named_at name [] f e = absurd (none-some f e)
named_at name (d ∷ fs) f e = by_test (bytes_eq (lexeme d.name.token) name) refl e (named_at name fs f)
  where
    by_test : (b : Bool) → bytes_eq (lexeme d.name.token) name ≡ b → cond b (Some (defined_of d)) (function_named name (map defined_of fs)) ≡ Some f
        → (function_named name (map defined_of fs) ≡ Some f → (j : ℕ) × (d : FunctionDefinition) × (slice_get fs j ≡ Some d) × (lexeme d.name.token ≡ name) × (defined_of d ≡ f))
        → (j : ℕ) × (g : FunctionDefinition) × (slice_get (d ∷ fs) j ≡ Some g) × (lexeme g.name.token ≡ name) × (defined_of g ≡ f)
    by_test true is e later = (0, d, refl, (bytes_eq-Decides (lexeme d.name.token) name).0 is, same_Some (defined_of d) f e)
    by_test false is e later = let r = later e in (suc r.0, r.1, r.2, r.3, r.4)

-- where none is found, none has the name
none_has_name : (name : Text) (fs : List FunctionDefinition) → function_named name (map defined_of fs) ≡ None → (j : ℕ) (d : FunctionDefinition) → slice_get fs j ≡ Some d → lexeme d.name.token ≡ name → ⊥
none_has_name name [] e j d at named = none-some d at
none_has_name name (g ∷ fs) e j d at named = by_test (bytes_eq (lexeme g.name.token) name) refl e (none_has_name name fs) j at
  where
    by_test : (b : Bool) → bytes_eq (lexeme g.name.token) name ≡ b → cond b (Some (defined_of g)) (function_named name (map defined_of fs)) ≡ None
        → (function_named name (map defined_of fs) ≡ None → (j : ℕ) (d : FunctionDefinition) → slice_get fs j ≡ Some d → lexeme d.name.token ≡ name → ⊥) → (j : ℕ) → slice_get (g ∷ fs) j ≡ Some d → ⊥
    by_test true is e later j at = none-some (defined_of g) (sym e)
    by_test false is e later zero at = true≢false (sym ((bytes_eq-Decides (lexeme g.name.token) name).1 (ap (λ (x : FunctionDefinition). lexeme x.name.token) (same_Some g d at) ∙ named)) ∙ is)
    by_test false is e later (suc j) at = later e j d at named

-- a number is one of these
abbrev pub among : List ℕ → ℕ → Bool
among [] place = false
among (x ∷ xs) place = if nat_eq place x then true else among xs place

module _ (w : World) (compilation : Compilation) (n : IsNumberedWorld w compilation) (k : ℕ) (node : ModuleNode) (here : HasNode w compilation k node) where
  abbrev vs : List (Binding Expression)
  vs = variables w compilation n k node here

  abbrev fs : List FunctionDefinition
  fs = functions w compilation n k node here

  abbrev es : List Expression
  es = right_sides vs ++ bodies fs

  abbrev count : ℕ
  count = length (variable_names compilation node)

  pub as_many : count ≡ length vs
  as_many = length-map vs (λ (v : Binding Expression). lexeme v.name.token)

  -- the functions as they are called
  abbrev pub calls : List DefinedFunction
  calls = map defined_of fs

  module _ (graph : List (List ℕ)) (g : IsGraphOf compilation node graph) (small : length graph ≤ 2 ^ 64) where
    graph_many : length graph ≡ count + length fs
    graph_many = places_many w compilation n k node here graph g

    many : g.resolver.variables ≡ count
    many = g.of.many ∙ sym as_many

    -- ---- by places that are good: variables that have such numbers, and functions that lead to good places alone

    module _ (N : ℕ → Type 0) (constants_known : (number : ℕ) → number < length constant_rows → N number) (good : ℕ → Bool) (numbers_known : (place : ℕ) (v : Binding Expression) → slice_get vs place ≡ Some v → good place ≡ true → N v.number) where
      reached_at : Option ResolvedFunction → Bool
      reached_at None = false
      reached_at (Some d) = good (count + d.place)

      -- whether the function of its name is good
      pub reached : DefinedFunction → Bool
      reached f = reached_at (function_in g.resolver.functions f.name)

      abbrev pub Takes : Text → ℕ → Type 0
      Takes name arguments = IsCallable (OneForEach (λ f. reached f ≡ true)) (function_named name calls) name arguments

      abbrev GoodIfThere : Option ℕ → Type 0
      GoodIfThere found = (place : ℕ) → found ≡ Some place → good place ≡ true

      -- a call
      module _ (name : Name) (arguments : ℕ) where
        abbrev x : Text
        x = lexeme name.token

        built_in : (o : Option Function) (found : Option ℕ) → place_of_resolved g.resolver.variables (builtin_call o name arguments) ≡ Ok found → IsSome o
        built_in None found e = absurd (cc e)
        built_in (Some f) found e = refl

        module _ (found : Option ℕ) (all : GoodIfThere found) where
          if_none : function_in g.resolver.functions x ≡ None → place_of_resolved g.resolver.variables (builtin_call (function_of x) name arguments) ≡ Ok found → (o : Option DefinedFunction) → function_named x calls ≡ o
              → IsCallable (OneForEach (λ f. reached f ≡ true)) o x arguments
          if_none none e None is = built_in (function_of x) found e
          if_none none e (Some f) is = let a = named_at x fs f is in absurd (none_defined x fs (sym (g.of.functions x) ∙ none) a.0 a.1 a.2 a.3)

          module _ (d : ResolvedFunction) (is_defined : function_in g.resolver.functions x ≡ Some d) (f : FunctionDefinition) (at : slice_get fs d.place ≡ Some f) (named : lexeme f.name.token ≡ x) (parameters : d.parameters ≡ length f.parameters.items) where
            if_found : (good (count + d.place) ≡ true) → d.parameters ≡ arguments → (o : Option DefinedFunction) → function_named x calls ≡ o → IsCallable (OneForEach (λ f. reached f ≡ true)) o x arguments
            unfolding reached reached_at
            if_found is_good same None is = absurd (none_has_name x fs is d.place f at named)
            if_found is_good same (Some c) is =
                let a = named_at x fs c is in
                let places = function_once w compilation n k node here a.0 d.place a.1 f a.2 at (a.3 ∙ sym named) in
                let one : a.1 ≡ f = same_Some a.1 f (sym a.2 ∙ ap (slice_get fs) places ∙ at) in
                let whole : defined_of f ≡ c = ap defined_of (sym one) ∙ a.4 in
                let name_is : c.name ≡ x = ap (λ (h : DefinedFunction). h.name) (sym whole) ∙ named in (
                  ap (λ t. reached_at (function_in g.resolver.functions t)) name_is ∙ ap reached_at is_defined ∙ is_good,
                  sym same ∙ parameters ∙ sym (length-map f.parameters.items (λ p. p.1)) ∙ ap (λ (h : DefinedFunction). length h.parameters) whole,
                )

            by_room : d.parameters ≡ arguments → (b : Bool) → nat_lt (g.resolver.variables + d.place) (2 ^ 64) ≡ b → (if b then Some (g.resolver.variables + d.place) else None) ≡ found → Takes x arguments
            by_room same true is e = if_found (ap (λ c. good (c + d.place)) (sym many) ∙ all (g.resolver.variables + d.place) (sym e)) same (function_named x calls) refl
            by_room same false is e =
                let lt = slice_get_within fs d.place f at in
                let graph_is = graph_many in
                let variables_are = many in
                let room = small in
                absurd (true≢false (sym ((Decides-ltb (g.resolver.variables + d.place) (2 ^ 64)).1 (omega (arith, lt, graph_is, variables_are, room))) ∙ is))

            by_count : (b : Bool) → nat_eq d.parameters arguments ≡ b → place_of_resolved g.resolver.variables (if_taken b (Defined d.place) name arguments) ≡ Ok found → Takes x arguments
            by_count true is e = by_room ((Decides-eqb d.parameters arguments).0 is) (nat_lt (g.resolver.variables + d.place) (2 ^ 64)) refl (cc e)
            by_count false is e = absurd (cc e)

          by_function : (o : Option ResolvedFunction) → function_in g.resolver.functions x ≡ o → place_of_resolved g.resolver.variables (call_from o name arguments) ≡ Ok found → Takes x arguments
          by_function None is e = if_none is e (function_named x calls) refl
          by_function (Some d) is e =
              let f = defined_at x d fs (sym (g.of.functions x) ∙ is) in
              by_count d is f.0 f.1 f.2 f.3 (nat_eq d.parameters arguments) refl e

          call_known : place_of_reference g.resolver (Call name arguments) ≡ Ok found → Takes x arguments
          call_known e = by_function (function_in g.resolver.functions x) refl e

      -- an expression of an item
      module _ (item : Item) (i : IsItemOf compilation node item) (s : Seen) (c : Contains (seen_in item) s) where
        -- a parameter that it sees, or such a number
        abbrev IsParameterOr : Option ℕ → Type 0
        IsParameterOr number = HasNumber (map (λ p. p.1) s.parameters) number ⊎ IsNumbered N number

        module _ (name : Name) (m : ℕ) (d : Contains (references_of s.expression) (Variable name (Some m))) where
          abbrev called : Text
          called = lexeme name.token

          by_kept : variable_in g.resolver m ≡ None → (o : Option ℕ) → last_named called (map binding_number vs) ≡ o → Some m ≡ option_or o (constant_number called) → IsParameterOr (Some m)
          by_kept none (Some p) is e =
              let r = contains_mapped binding_number vs (called, m) (last_named_there called (map binding_number vs) m (is ∙ sym e)) in
              let q = place_of vs r.0 r.1 in
              absurd (none_numbered m vs (sym (g.of.places m) ∙ none) q.0 r.0 q.1 (ap (λ (p : Text × ℕ). p.1) r.2))
          by_kept none None is e = inr (constants_known m (is_constant called m (sym e)).1)

          by_parameter : variable_in g.resolver m ≡ None → (o : Option ℕ) → last_named called s.parameters ≡ o → Some m ≡ option_or o (bindings_of compilation node called) → IsParameterOr (Some m)
          by_parameter none (Some p) is e = inl (is_in s.parameters called m (last_named_there called s.parameters m (is ∙ sym e)))
          by_parameter none None is e = by_kept none (last_named called (map binding_number vs)) refl e

          by_place : (o : Option ℕ) → variable_in g.resolver m ≡ o → GoodIfThere o → IsParameterOr (Some m)
          by_place (Some place) is all = let v = numbered_at m place vs (sym (g.of.places m) ∙ is) in inr (subst N v.2 (numbers_known place v.0 v.1 (all place refl)))
          by_place None is all = by_parameter is (last_named called s.parameters) refl (number_of (bindings_of compilation node) s (bound_in w compilation n k node here item i s c) name (Some m) d)

        number_known : (name : Name) (number : Option ℕ) → Contains (references_of s.expression) (Variable name number) → (found : Option ℕ) → place_of_reference g.resolver (Variable name number) ≡ Ok found → GoodIfThere found → IsParameterOr number
        number_known name None d found e all = absurd (cc e)
        number_known name (Some m) d found e all = let same : variable_in g.resolver m ≡ found = cc e in by_place name m d found same all

        -- what it names is known where each of its references has a good place or none
        module _ (places : (r : Reference) → Contains (references_of s.expression) r → (found : Option ℕ) × (place_of_reference g.resolver r ≡ Ok found) × GoodIfThere found) (V : NamedVariable → Type 0) (into : (x : NamedVariable) → IsParameterOr x.number → V x) where
          so : (r : Reference) → Contains (references_of s.expression) r → IsSo V Takes r
          so (Call name arguments) d = let q = places (Call name arguments) d in call_known name arguments q.0 q.2 q.1
          so (Variable name number) d = let q = places (Variable name number) d in into (record { name = lexeme name.token; number = number }) (number_known name number d q.0 q.1 q.2)

          pub names_known : NamesKnown calls (λ f. reached f ≡ true) V (term_of s.expression)
          names_known = each_so V Takes s.expression so

        -- or where its row in the graph has good places alone
        pub row_known : (place : ℕ) → slice_get es place ≡ Some s.expression → ((row : List ℕ) → slice_get graph place ≡ Some row → (other : ℕ) → Contains row other → good other ≡ true)
            → (V : NamedVariable → Type 0) → ((x : NamedVariable) → IsParameterOr x.number → V x) → NamesKnown calls (λ f. reached f ≡ true) V (term_of s.expression)
        row_known place stands all V into =
            let row = row_of g.resolver es graph g.rows place s.expression stands in
            names_known (λ r d. let q = given_of g.resolver (references_of s.expression) row.0 row.2 r d in (q.0, q.1, λ other f. all row.0 row.1 other (q.2 other f))) V into

      -- the bodies of functions
      module _ (closed : (place other : ℕ) (row : List ℕ) → count ≤ place → slice_get graph place ≡ Some row → good place ≡ true → Contains row other → good other ≡ true) where
        good_function : (j : ℕ) (f : FunctionDefinition) → slice_get fs j ≡ Some f → reached (defined_of f) ≡ true → good (count + j) ≡ true
        unfolding reached reached_at
        good_function j f at is = by_function (function_in g.resolver.functions (lexeme f.name.token)) refl is
          where
            by_function : (o : Option ResolvedFunction) → function_in g.resolver.functions (lexeme f.name.token) ≡ o → reached_at o ≡ true → good (count + j) ≡ true
            by_function None none e = absurd (true≢false (sym e))
            by_function (Some d) there e =
                let h = defined_at (lexeme f.name.token) d fs (sym (g.of.functions (lexeme f.name.token)) ∙ there) in
                let places = function_once w compilation n k node here d.place j h.0 f h.1 at h.2 in
                ap (λ place. good (count + place)) (sym places) ∙ e

        body_known : (j : ℕ) (f : FunctionDefinition) → slice_get fs j ≡ Some f → reached (defined_of f) ≡ true
            → NamesKnown calls (λ f. reached f ≡ true) (λ x. HasNumber (defined_of f).parameters x.number ⊎ IsNumbered N x.number) (defined_of f).body
        body_known j f at is =
            let kept = function_kept w compilation n k node here j f at in
            let s = seeing (map named_number f.parameters.items) f.body in
            let behind : length (right_sides vs) + j ≡ count + j = ap (λ m. m + j) (length-map vs (λ (x : Binding Expression). x.value) ∙ sym as_many) in
            row_known (function_item f) (record { place = kept.0; from = kept.3.from; to = kept.3.to; there = kept.3.there }) s (contains_first s []) (count + j)
            (ap (slice_get es) (sym behind) ∙ push_right (right_sides vs) (bodies fs) j f.body (mapped (λ (x : FunctionDefinition). x.body) fs j f at))
            (λ row e other c. closed (count + j) other row (omega arith) e (good_function j f at is) c)
            (λ x. HasNumber (defined_of f).parameters x.number ⊎ IsNumbered N x.number)
            (λ x h. subst (λ numbers. HasNumber numbers x.number ⊎ IsNumbered N x.number) (same_numbers f.parameters.items) h)

        pub bodies_known : BodiesKnown calls (λ f. reached f ≡ true) (λ x. IsNumbered N x.number)
        bodies_known = record {
          body = λ name f e is.
              let a = named_at name fs f e in
              subst (λ (h : DefinedFunction). NamesKnown calls (λ f. reached f ≡ true) (λ x. HasNumber h.parameters x.number ⊎ IsNumbered N x.number) h.body) a.4
              (body_known a.0 a.1 a.2 (ap reached a.4 ∙ is));
        }

    pub within_graph : count ≤ length graph
    within_graph = let graph_is = graph_many in omega (arith, graph_is)

    -- what a place of a row reads, the row's own place reads
    module _ (place : ℕ) (row : List ℕ) (at : slice_get graph place ≡ Some row) (other : ℕ) (listed : Contains row other) where
      row_reads : other < count → ReadsThrough graph count place other
      row_reads lt = let room = within_graph in directly (record { row = row; here = at; listed = listed; there = omega (arith, lt, room) })

      starts_within : {from read : ℕ} → ReadsThrough graph count from read → from < length graph
      starts_within {from} (directly needs) = slice_get_within graph from needs.row needs.here
      starts_within {from} (through needs le more) = slice_get_within graph from needs.row needs.here

      row_through : count ≤ other → (read : ℕ) → ReadsThrough graph count other read → ReadsThrough graph count place read
      row_through le read reads = through (record { row = row; here = at; listed = listed; there = starts_within reads }) le reads

    -- a place is good where what it reads is allowed
    good_row : (allowed : ℕ → Bool) (goods : AreGood graph count allowed) (place : ℕ) → ((read : ℕ) → read < count → ReadsThrough graph count place read → allowed read ≡ true) → (row : List ℕ) → slice_get graph place ≡ Some row
        → (other : ℕ) → Contains row other → goods.good other ≡ true
    good_row allowed goods place all row at other listed = elim (leb_tells (suc other) count) [
      | inl p ↦ goods.variable_good other p.1 (all other p.1 (row_reads place row at other listed p.1))
      | inr p ↦
          let past = p.1 in
          let le : count ≤ other = omega (arith, past) in
          goods.function_good other le (λ read lt reads. all read lt (row_through place row at other listed le read reads))
    ]

    -- ---- variables in their order

    module _ (order : List ℕ) (o : IsVariableOrder graph count order) (lent : List AssignmentRef) (lent_is : variables_in lent ≡ vs) (overrides : ℕ → Option (List ℕ)) (is_read : ℕ → Bool)
        (closed : (place other : ℕ) (v u : Binding Expression) → slice_get vs place ≡ Some v → slice_get vs other ≡ Some u → is_read v.number ≡ true → overrides v.number ≡ None → ReadsThrough graph count place other → is_read u.number ≡ true) where
      abbrev read_of : Option (Binding Expression) → Bool
      read_of None = false
      read_of (Some v) = is_read v.number

      -- variables that were passed and are read
      abbrev allowed : List ℕ → ℕ → Bool
      allowed done place = if among done place then read_of (slice_get vs place) else false

      allowed_read : (done : List ℕ) (place : ℕ) (v : Binding Expression) → slice_get vs place ≡ Some v → allowed done place ≡ true → (among done place ≡ true) × (is_read v.number ≡ true)
      allowed_read done place v at e = by_test (among done place) refl e
        where
          by_test : (b : Bool) → among done place ≡ b → (if b then read_of (slice_get vs place) else false) ≡ true → (among done place ≡ true) × (is_read v.number ≡ true)
          by_test true is e = (is, sym (ap read_of at) ∙ e)
          by_test false is e = absurd (true≢false (sym e))

      read_allowed : (done : List ℕ) (place : ℕ) (v : Binding Expression) → slice_get vs place ≡ Some v → among done place ≡ true → is_read v.number ≡ true → allowed done place ≡ true
      read_allowed done place v at is read = ap (λ (b : Bool). if b then read_of (slice_get vs place) else false) is ∙ ap read_of at ∙ read

      -- so far along the order
      record Holds (end : ℕ) (N : ℕ → Type 0) (done : List ℕ) : Type 0 where
        pub constants : (number : ℕ) → number < length constant_rows → N number
        pub numbers : (place : ℕ) (v : Binding Expression) → slice_get vs place ≡ Some v → among done place ≡ true → is_read v.number ≡ true → N v.number
        pub passed : (i place : ℕ) → i < end → slice_get order i ≡ Some place → among done place ≡ true

      variable_within : (place : ℕ) (v : Binding Expression) → slice_get vs place ≡ Some v → place < count
      variable_within place v at = let lt = slice_get_within vs place v at in let many = as_many in omega (arith, lt, many)

      side_known : (end place : ℕ) → slice_get order end ≡ Some place → (v : Binding Expression) → slice_get vs place ≡ Some v → is_read v.number ≡ true → overrides v.number ≡ None → (N : ℕ → Type 0) (done : List ℕ) → Holds end N done
          → SideKnown calls N (term_of v.value)
      side_known end place found v at read free N done h =
          let goods = good_places graph count (allowed done) within_graph in
          let numbers_known : (place : ℕ) (u : Binding Expression) → slice_get vs place ≡ Some u → goods.good place ≡ true → N u.number =
          λ place u e is. let a = allowed_read done place u e (goods.variable place (variable_within place u e) is) in h.numbers place u e a.0 a.1 in
          let kept = variable_kept w compilation n k node here place v at in
          let all : (other : ℕ) → other < count → ReadsThrough graph count place other → allowed done other ≡ true =
          λ other lt reads.
          let b = o.ranked end place other found reads lt in
          let many = as_many in
          let u = there_within vs other (omega (arith, lt, many)) in
          read_allowed done other u.0 u.1 (h.passed b.at other b.earlier b.found) (closed place other v u.0 at u.1 read free reads) in
          record {
            reached = reached N h.constants goods.good numbers_known;
            bodies = bodies_known N h.constants goods.good numbers_known goods.closed;
            names = row_known N h.constants goods.good numbers_known (Assignment v) (record { place = kept.0; from = kept.3.from; to = kept.3.to; there = kept.3.there }) (seeing [] v.value) (contains_first (seeing [] v.value) []) place
                (push_left (right_sides vs) (bodies fs) place v.value (mapped (λ (x : Binding Expression). x.value) vs place v at))
                (good_row (allowed done) goods place all) (λ x. IsNumbered N x.number) (λ x h. only x.number h);
          }
        where
          only : (number : Option ℕ) → HasNumber [] number ⊎ IsNumbered N number → IsNumbered N number
          only None (inl none) = absurd none
          only (Some m) (inl none) = absurd none
          only number (inr is) = is

      next : (end place : ℕ) → slice_get order end ≡ Some place → (v : Binding Expression) → slice_get vs place ≡ Some v → (N : ℕ → Type 0) (done : List ℕ) → Holds end N done → Holds (suc end) (With overrides is_read v.number N) (place ∷ done)
      next end place found v at N done h = record { constants = λ number lt. inr (h.constants number lt); numbers = λ p u e is read. by_test p u e read (nat_eq p place) refl is; passed = now }
        where
          by_test : (p : ℕ) (u : Binding Expression) → slice_get vs p ≡ Some u → is_read u.number ≡ true → (b : Bool) → nat_eq p place ≡ b → (if b then true else among done p) ≡ true → With overrides is_read v.number N u.number
          by_test p u e read true same is =
              let one : u ≡ v = same_Some u v (sym e ∙ ap (slice_get vs) ((Decides-eqb p place).0 same) ∙ at) in
              let number = ap (λ (x : Binding Expression). x.number) one in
              inl (number, ap is_read (sym number) ∙ read)
          by_test p u e read false other is = inr (h.numbers p u e is read)

          still : (p : ℕ) (b : Bool) → among done p ≡ true → (if b then true else among done p) ≡ true
          still p true is = refl
          still p false is = is

          now : (i p : ℕ) → i < suc end → slice_get order i ≡ Some p → among (place ∷ done) p ≡ true
          now i p lt e = elim (leb_tells (suc i) end) [
            | inl q ↦ still p (nat_eq p place) (h.passed i p q.1 e)
            | inr q ↦
                let past = q.1 in
                let last : i ≡ end = omega (arith, lt, past) in
                let same : p ≡ place = same_Some p place (sym e ∙ ap (slice_get order) last ∙ found) in
                ap (λ (b : Bool). if b then true else among done p) ((Decides-eqb p place).1 same)
          ]

      along : (places : List ℕ) (end : ℕ) → ((i : ℕ) → slice_get places i ≡ slice_get order (end + i)) → (N : ℕ → Type 0) (done : List ℕ) → Holds end N done → InOrder overrides is_read (SideKnown calls) N (ordered lent places)
      along [] end same N done h = tt
      along (place ∷ places) end same N done h =
          let first : end + 0 ≡ end = omega arith in
          let found : slice_get order end ≡ Some place = ap (slice_get order) (sym first) ∙ sym (same 0) in
          let lt = (o.within end place found).0 in
          let many = as_many in
          let v = there_within vs place (omega (arith, lt, many)) in
          let l = mapped_at (λ (l : AssignmentRef). l.assignment.now) lent place v.0 (ap (λ xs. slice_get xs place) lent_is ∙ v.1) in
          let at : slice_get vs place ≡ Some l.0.assignment.now = v.1 ∙ ap (λ x. Some x) (sym l.2) in
          subst (InOrder overrides is_read (SideKnown calls) N) (sym (ap (λ a. before a (ordered lent places)) l.1)) (
            λ read free. side_known end place found l.0.assignment.now at read free N done h,
            along places (suc end) (λ i. let later : end + suc i ≡ suc end + i = omega arith in same (suc i) ∙ ap (slice_get order) later)
                (With overrides is_read l.0.assignment.now.number N) (place ∷ done) (next end place found l.0.assignment.now at N done h),
          )

      -- what the variables name is known in their order, by numbers that are bound around them
      pub order_known : (N : ℕ → Type 0) → ((number : ℕ) → number < length constant_rows → N number) → InOrder overrides is_read (SideKnown calls) N (ordered lent order)
      order_known N constants =
          along order 0 (λ i. let same : i ≡ 0 + i = omega arith in ap (slice_get order) same) N [] (record { constants = constants; numbers = λ place v at is read. absurd (true≢false (sym is)); passed = λ i place lt e. absurd (omega (arith, lt)) })
