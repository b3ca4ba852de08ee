-- The functions of a module are the same by numbers and by names.
use Rattle.std.proofs.Common.{◌≡◌, inl, inr, refl, sym, ◌∙◌, ap, ap₂, subst, Bool, true, false, cond, List, [], ◌∷◌, map, length, Option, Some, None, ℕ, zero, suc, ◌+◌, ◌≤◌, ◌<◌, arith}
use Rattle.std.specs.Prelude.{Contains, IfSome, IsSome, slice_get}
use Rattle.std.specs.List.{cons_option, filter_map, position_from}
use Rattle.std.specs.Option.{option_and_then, option_map, option_or}
use Rattle.std.specs.Ordering.{nat_cmp}
use Rattle.std.specs.Str.{bytes_eq}
use Rattle.std.specs.declared.cmp.Ordering.TheVariants.{Less}
use Rattle.std.proofs.lemmas.Cmp.{nat_cmp_total, tied_itself}
use Rattle.std.proofs.lemmas.Iterator.Adapters.{position_from-zero}
use Rattle.std.proofs.lemmas.List.{length-map}
use Rattle.std.proofs.lemmas.Option.{none-some, same_Some, slice_get_within}
use Rattle.std.proofs.lemmas.Slice.Eq.{bytes_eq-Decides}
use Rattle.just_text.specs.Tokens.{lexeme}
use Rattle.just_text.specs.declared.name.Name.{Name}
use Rattle.just_value.specs.Constants.{constant_rows}
use Rattle.just_value.specs.Frames.{BindsRows, BoundRow, Frames, bound_in, constant_binding, look_up}
use Rattle.tree_expressions.specs.Shape.{shape_of}
use Rattle.tree_items.specs.Contexts.{last_named, named_number}
use Rattle.tree_items.specs.Files.{item_shape}
use Rattle.tree_items.specs.Items.{names_of}
use Rattle.tree_items.specs.declared.ast.Item.TheVariants.{Assignment, Function}
use Rattle.tree_items.specs.declared.item.FunctionDefinition.{FunctionDefinition}
use Rattle.parse_items.specs.Numbered.{binding_numbers}
use Rattle.parse_expressions.specs.Literals.{from_file}
use Rattle.evaluate_context.specs.declared.context.AssignmentRef.{AssignmentRef}
use Rattle.evaluate_variables.specs.Opened.{framed, opening_reading}
use Rattle.modules_compilation.specs.Places.{item_at, items_of}
use Rattle.modules_compilation.specs.declared.compilation.Compilation.{Compilation}
use Rattle.modules_compilation.specs.declared.module_node.File.{File}
use Rattle.modules_compilation.specs.declared.module_node.ModuleNode.{ModuleNode}
use Rattle.modules_compilation.specs.declared.place.Place.{Place}
use Rattle.resolve_references.specs.References.{references_of}
use Rattle.resolve_references.specs.Seen.{seeing}
use Rattle.resolve_references.specs.declared.references.Reference.{Reference}
use Rattle.resolve_references.specs.declared.references.Reference.TheVariants.{Call, Variable as VariableReference}
use Rattle.resolve_analysis.specs.Bound.{bindings_of}
use Rattle.resolve_analysis.specs.Lists.{variables_at, variables_in}
use Rattle.resolve_analysis.specs.Lists as lists
use Rattle.meaning_dialogues.specs.Calls.{empty, function_named, in_frame, with_parameters}
use Rattle.meaning_dialogues.specs.Dialogue.{Lookup, Variable, around, in_module}
use Rattle.meaning_dialogues.specs.Evaluation.{Value}
use Rattle.meaning_dialogues.specs.Written.{numbered as numbered_in, numbers_from}
use Rattle.meaning_evaluation.specs.Stages.Stages.{defined_of}
use Rattle.meaning_evaluation.proofs.Stages.Depth.{IsIn}
use Rattle.laws_evaluation.proofs.Terms.Terms.{term_by_names}
use Rattle.laws_evaluation.proofs.Opening.Names.{AnyCall, InBodies, SameFunction, SameFunctions, SameIfThere}
use Rattle.laws_evaluation.specs.Soundness.Known.{IsBoundIn}
use Rattle.meaning_rules.specs.Worlds.Compiled.{FileView, HasPath}
use Rattle.meaning_rules.specs.Worlds.Given.{Text, World}
use Rattle.meaning_rules.proofs.Worlds.Places.{contains_first, contains_later, place_of}
use Rattle.meaning_rules.specs.Worlds.Views.{file_view}
use Rattle.laws_modules.specs.Names.Names.{HasNode, nodes, views}
use Rattle.laws_modules.proofs.Names.Found.{mapped}
use Rattle.laws_names.specs.Reading.Meant.{IsNumberedWorld}
use Rattle.laws_names.proofs.Reading.Bindings.{above_constants, bound_in as bound_by_module, numbered_once}
use Rattle.laws_names.proofs.Reading.Finding.{last_named_there, none_named}
use Rattle.laws_names.proofs.Reading.Lists.{contains_mapped, once, piece_sorted}
use Rattle.laws_names.proofs.Reading.Numbers.{number_of as number_meant}
use Rattle.laws_names.proofs.Reading.Module.{function_kept, function_there}
use Rattle.laws_names.proofs.Constants.Languages.{constant_text}
use Rattle.resolve_analysis.specs.Bound.{constant_number}
use Rattle.meaning_evaluation.specs.Named.{FunctionRow}
use Rattle.meaning_evaluation.specs.Scopes.{defined_in}
use Rattle.just_meaning.specs.Opening.{Held, reading_in}
use Rattle.laws_runs.specs.Resolved.Definitions.{function_of, functions_at, key_at, rows_of, shape_at}
use Rattle.laws_runs.proofs.Resolved.Leading.{leads_to}
use Rattle.laws_runs.specs.ByName.Variables.{AreDistinct}
use Rattle.laws_runs.proofs.ByName.Frames.{apart, same_value}
use Rattle.laws_agreement.specs.Grounds.Alike.{IsRowOf}
use Rattle.laws_runs.proofs.Views.Terms.{IsSo, each_so}
use Rattle.laws_runs.proofs.Running.Opening.Module as kept
use Rattle.laws_runs.proofs.Running.Opening.Reading.{bound_number, gives_alike, numbered, pairs}
use Rattle.laws_runs.proofs.Running.Opening.Values.{HoldAlike, name_of, number_of}
use Rattle.laws_runs.proofs.Running.Opening.Written.{HaveOwnParameters}

-- ---- numbers of parameters

in_at : (n : ℕ) (ns : List ℕ) → IsIn n ns → (j : ℕ) × (slice_get ns j ≡ Some n)
in_at n [] h = absurd h
in_at n (m ∷ ms) (inl same) = (0, ap (λ k. Some k) (sym same))
in_at n (m ∷ ms) (inr later) = let r = in_at n ms later in (suc r.0, r.1)

distinct : (ns : List ℕ) → ((i j n : ℕ) → slice_get ns i ≡ Some n → slice_get ns j ≡ Some n → i ≡ j) → AreDistinct ns
distinct [] once = tt
distinct (n ∷ ns) once = (
  λ h. let r = in_at n ns h in let e : 0 ≡ suc r.0 = once 0 (suc r.0) n refl r.1 in omega (arith, e),
  distinct ns (λ i j m a b. let e : suc i ≡ suc j = once (suc i) (suc j) m a b in omega (arith, e)),
)

number_apart : (number : ℕ) → nat_cmp number number ≡ Less → ⊥
number_apart number e = let both = sym (tied_itself nat_cmp_total number) ∙ e in cc both

-- the parameters of a function have numbers of their own
numbers_distinct : (w : World) (compilation : Compilation) → IsNumberedWorld w compilation → (place : Place) (f : FunctionDefinition) → item_at compilation place ≡ Some (Function f) → AreDistinct (map (λ p. p.1) f.parameters.items)
numbers_distinct w compilation n place f there = by_file (slice_get compilation.files.items place.file) refl there
  where
    by_file : (o : Option File) → slice_get compilation.files.items place.file ≡ o → slice_get (items_of o) place.item ≡ Some (Function f) → AreDistinct (map (λ p. p.1) f.parameters.items)
    by_file None is e = absurd (none-some (Function f) e)
    by_file (Some file) is e =
        let in_file = piece_sorted nat_cmp number_apart (λ (view : FileView). view.bindings) (views w compilation) n.of.bindings place.file (file_view file) (mapped file_view compilation.files.items place.file file is) in
        let in_item = piece_sorted nat_cmp number_apart binding_numbers file.ast.items.items in_file place.item (Function f) e in
        distinct (map (λ p. p.1) f.parameters.items) (λ i j m a b. once nat_cmp number_apart (binding_numbers (Function f)) in_item i j m a b)

-- ---- positions of names

abbrev text_of : Name × ℕ → List ℕ
text_of p = lexeme p.0.token

unequal : (name x : List ℕ) → (name ≡ x → ⊥) → bytes_eq name x ≡ false
unequal name x apart = by_test (bytes_eq name x) refl
  where
    by_test : (b : Bool) → bytes_eq name x ≡ b → bytes_eq name x ≡ false
    by_test true e = absurd (apart ((bytes_eq-Decides name x).0 e))
    by_test false e = e

none_from : (name : List ℕ) (base : ℕ) (names : List (List ℕ)) → (Contains names name → ⊥) → position_from (bytes_eq name) base names ≡ None
none_from name base [] none = refl
none_from name base (x ∷ xs) none =
    ap (λ b. cond b (Some base) (position_from (bytes_eq name) (base + 1) xs)) (unequal name x (λ same. none (subst (Contains (x ∷ xs)) (sym same) (contains_first x xs))))
    ∙ none_from name (base + 1) xs (λ c. none (contains_later x xs name c))

at_from : (name : List ℕ) (base : ℕ) (names : List (List ℕ)) (i : ℕ) → slice_get names i ≡ Some name → ((j : ℕ) → slice_get names j ≡ Some name → i ≡ j) → position_from (bytes_eq name) base names ≡ Some (base + i)
at_from name base [] i e alone = absurd (none-some name e)
at_from name base (x ∷ xs) zero e alone =
    ap (λ b. cond b (Some base) (position_from (bytes_eq name) (base + 1) xs)) ((bytes_eq-Decides name x).1 (sym (same_Some x name e))) ∙ ap Some (let s : base ≡ base + 0 = omega arith in s)
at_from name base (x ∷ xs) (suc i) e alone =
    ap (λ b. cond b (Some base) (position_from (bytes_eq name) (base + 1) xs)) (unequal name x (λ same. let s : suc i ≡ 0 = alone 0 (ap (λ t. Some t) (sym same)) in omega (arith, s)))
    ∙ at_from name (base + 1) xs i e (λ j f. let s : suc i ≡ suc j = alone (suc j) f in omega (arith, s))
    ∙ ap Some (let s : (base + 1) + i ≡ base + suc i = omega arith in s)

position_none : (name : List ℕ) (names : List (List ℕ)) → (Contains names name → ⊥) → numbered_in names name ≡ None
position_none name names none = position_from-zero (bytes_eq name) names ∙ none_from name 0 names none

position_at : (name : List ℕ) (names : List (List ℕ)) (i : ℕ) → slice_get names i ≡ Some name → ((j : ℕ) → slice_get names j ≡ Some name → i ≡ j) → numbered_in names name ≡ Some i
position_at name names i e alone = position_from-zero (bytes_eq name) names ∙ at_from name 0 names i e alone ∙ ap Some (let s : 0 + i ≡ i = omega arith in s)

is_contained : (n : ℕ) (numbers : List ℕ) → IsIn n numbers → Contains numbers n
is_contained n [] h = absurd h
is_contained n (m ∷ ms) (inl same) = subst (Contains (m ∷ ms)) (sym same) (contains_first m ms)
is_contained n (m ∷ ms) (inr later) = contains_later m ms n (is_contained n ms later)

names_map : (ps : List (Name × ℕ)) → names_of ps ≡ map text_of ps
names_map [] = refl
names_map (p ∷ ps) = ap (λ l. text_of p ∷ l) (names_map ps)

module _ (w : World) (compilation : Compilation) (n : IsNumberedWorld w compilation) (own_parameters : HaveOwnParameters compilation) (k : ℕ) (node : ModuleNode) (here : HasNode w compilation k node) (path : List Text)
    (has : HasPath w (views w compilation) (nodes w compilation) k path) (assignments : List AssignmentRef) (kept_are : variables_in assignments ≡ variables_at compilation node.assignments.items)
    (export : Bool) (constants : List BoundRow) (language : BindsRows constant_rows constants) (own : List BoundRow) (held : List Held) (alike : HoldAlike assignments export own held) where
  abbrev frames : Frames
  frames = framed (constants ∷ []) own

  abbrev C : Lookup → Variable → Variable → Type 0
  C place x y = IsBoundIn frames x.number → opening_reading frames place x ≡ reading_in held place y

  -- one function
  module _ (place : Place) (f : FunctionDefinition) (there : item_at compilation place ≡ Some (Function f)) (from : node.first_file ≤ place.file) (to : place.file < node.end_file) where
    abbrev ps : List (Name × ℕ)
    ps = f.parameters.items

    abbrev numbers : List ℕ
    numbers = map (λ p. p.1) f.parameters.items

    abbrev names : List (List ℕ)
    names = names_of f.parameters.items

    abbrev row : FunctionRow
    row = record { file = key_at compilation place; name = lexeme f.name.token; parameters = names_of f.parameters.items; body = shape_of f.body }

    -- no parameter has the number of a variable of the module
    not_variable : (m : ℕ) (lent : AssignmentRef) → Contains assignments lent → number_of lent ≡ m → IsIn m numbers → ⊥
    not_variable m lent listed number h =
        let s = kept.stands w compilation n k node here path has assignments kept_are lent listed in
        let items = numbered_once w compilation n s.place place (Assignment lent.assignment.now) (Function f) s.is_kept.there there m (subst (Contains (number_of lent ∷ [])) number (contains_first (number_of lent) [])) (is_contained m numbers h) in
        cc items

    -- and none is bound in the module
    unbound : (m : ℕ) → IsIn m numbers → IsSome (look_up frames m) → ⊥
    unbound m h bound = by_own (bound_in own m) refl
      where
        c : Contains numbers m
        c = is_contained m numbers h

        by_constant : (o : Option (List ℕ × List ℕ)) → slice_get constant_rows m ≡ o → bound_in own m ≡ None → ⊥
        by_constant None e none = cc (subst IsSome (ap₂ (λ first second. option_or first (option_or second None)) none (language m ∙ ap (option_map (constant_binding m)) e)) bound)
        by_constant (Some r) e none =
            let lt = slice_get_within constant_rows m r e in
            let le = above_constants w compilation n place (Function f) there m c in
            omega (arith, lt, le)

        by_own : (o : Option BoundRow) → bound_in own m ≡ o → ⊥
        by_own None e = by_constant (slice_get constant_rows m) refl e
        by_own (Some r) e =
            let of : IsRowOf export assignments r = subst (λ o. IfSome o (IsRowOf export assignments)) e (alike.rows m) in
            let number : number_of of.0 ≡ m = ap (λ (x : BoundRow). x.number) (sym of.2) ∙ bound_number own m r e in
            not_variable m of.0 of.1 number h

    -- what a variable of the body corresponds to
    abbrev Corresponds : Variable → Type 0
    Corresponds x = InBodies C (defined_of f) (defined_in w.expansion row) around x (record { name = x.name; number = numbered_in names x.name })

    of_parameter : (name : List ℕ) (m : ℕ) (i : ℕ) (p : Name × ℕ) → slice_get ps i ≡ Some p → text_of p ≡ name → p.1 ≡ m → Corresponds (record { name = name; number = Some m })
    of_parameter name m i p e named is = (
      λ values. same_value numbers names values i m (numbers_distinct w compilation n place f there) many at ∙ sym (ap (in_frame (with_parameters empty (numbers_from 0 names) values)) position),
      λ bound. absurd (unbound m (in_numbers ps i p e is) bound),
    )
      where
        many : length numbers ≡ length names
        many = length-map ps (λ (q : Name × ℕ). q.1) ∙ sym (ap length (names_map ps) ∙ length-map ps text_of)

        at : slice_get numbers i ≡ Some m
        at = mapped (λ (q : Name × ℕ). q.1) ps i p e ∙ ap Some is

        name_at : slice_get names i ≡ Some name
        name_at = ap (λ l. slice_get l i) (names_map ps) ∙ mapped text_of ps i p e ∙ ap Some named

        position : numbered_in names name ≡ Some i
        position = position_at name names i name_at (λ j g. own_parameters k node here place from to f there i j name name_at g)

        in_numbers : (qs : List (Name × ℕ)) (j : ℕ) (q : Name × ℕ) → slice_get qs j ≡ Some q → q.1 ≡ m → IsIn m (map (λ r. r.1) qs)
        in_numbers [] j q e same = absurd (none-some q e)
        in_numbers (r ∷ qs) zero q e same = inl (sym same ∙ ap (λ (x : Name × ℕ). x.1) (sym (same_Some r q e)))
        in_numbers (r ∷ qs) (suc j) q e same = inr (in_numbers qs j q e same)

    of_other : (name : List ℕ) (number : Option ℕ) → (Contains names name → ⊥) → number ≡ numbered assignments name → Corresponds (record { name = name; number = number })
    of_other name number none is = (
      λ values. by_number values number is ∙ sym (ap (in_frame (with_parameters empty (numbers_from 0 names) values)) (position_none name names none)),
      λ bound. gives_alike assignments export constants language (kept.above w compilation n k node here path has assignments kept_are) own held alike in_module (record { name = name; number = number }) is bound,
    )
      where
        by_constant : (m : ℕ) → constant_number name ≡ Some m → IsIn m numbers → ⊥
        by_constant m e h =
            let text = constant_text name m e in
            let lt = slice_get_within constant_rows m text.0 text.1 in
            let le = above_constants w compilation n place (Function f) there m (is_contained m numbers h) in
            omega (arith, lt, le)

        by_kept : (m : ℕ) (q : Option ℕ) → last_named name (pairs assignments) ≡ q → Some m ≡ option_or q (constant_number name) → IsIn m numbers → ⊥
        by_kept m None is e h = by_constant m (sym e) h
        by_kept m (Some p) is e h =
            let c = contains_mapped (λ (lent : AssignmentRef). (name_of lent, number_of lent)) assignments (name, p) (last_named_there name (pairs assignments) p is) in
            not_variable m c.0 c.1 (ap (λ (r : List ℕ × ℕ). r.1) c.2 ∙ sym (same_Some m p e)) h

        by_number : (values : List Value) (o : Option ℕ) → o ≡ numbered assignments name → in_frame (with_parameters empty numbers values) o ≡ None
        by_number values None e = refl
        by_number values (Some m) e = apart numbers values empty m (by_kept m (last_named name (pairs assignments)) refl e)

    first_names : (qs : List (Name × ℕ)) → names_of qs ≡ map (λ (p : List ℕ × ℕ). p.0) (map named_number qs)
    first_names [] = refl
    first_names (q ∷ qs) = ap (λ l. text_of q ∷ l) (first_names qs)

    body_numbers : (name : Name) (number : Option ℕ) → Contains (references_of f.body) (VariableReference name number) → number ≡ option_or (last_named (lexeme name.token) (map named_number ps)) (bindings_of compilation node (lexeme name.token))
    body_numbers name number d =
        number_meant (bindings_of compilation node) (seeing (map named_number f.parameters.items) f.body)
        (bound_by_module w compilation n k node here (Function f) (record { place = place; from = from; to = to; there = there }) (seeing (map named_number f.parameters.items) f.body) (contains_first (seeing (map named_number f.parameters.items) f.body) [])) name number d

    variable_corresponds : (x : List ℕ) (number : Option ℕ) (o : Option ℕ) → last_named x (map named_number ps) ≡ o → number ≡ option_or o (bindings_of compilation node x) → Corresponds (record { name = x; number = number })
    variable_corresponds x number (Some m) is e =
        let c = contains_mapped named_number ps (x, m) (last_named_there x (map named_number ps) m is) in
        let i = place_of ps c.0 c.1 in
        subst (λ o. Corresponds (record { name = x; number = o })) (sym e) (of_parameter x m i.0 c.0 i.1 (ap (λ (r : List ℕ × ℕ). r.0) c.2) (ap (λ (r : List ℕ × ℕ). r.1) c.2))
    variable_corresponds x number None is e =
        of_other x number (λ c. none_named x (map named_number ps) is (subst (λ l. Contains l x) (first_names ps) c)) (e ∙ kept.numbered_same w compilation n k node here path has assignments kept_are x)

    so : (r : Reference) → Contains (references_of f.body) r → IsSo Corresponds AnyCall r
    so (Call name arguments) d = tt
    so (VariableReference name number) d = variable_corresponds (lexeme name.token) number (last_named (lexeme name.token) (map named_number ps)) refl (body_numbers name number d)

    function_same : SameFunction C (defined_of f) (defined_in w.expansion row)
    function_same = record {
      name = refl;
      numbers = numbered_in names;
      body = sym (term_by_names (from_file (key_at compilation place) w.expansion) (numbered_in names) f.body
          (kept.cooked_there w compilation n place (Function f) there (seeing (map named_number f.parameters.items) f.body) (contains_first (seeing (map named_number f.parameters.items) f.body) [])));
      variables = each_so Corresponds AnyCall f.body so;
    }

  -- ---- all of them

  abbrev row_there : Place → Option FunctionRow
  row_there place = function_of (key_at compilation place) (shape_at compilation place)

  same_named : (places : List Place) → ((i : ℕ) (place : Place) → slice_get places i ≡ Some place → (f : FunctionDefinition) × (item_at compilation place ≡ Some (Function f)) × (node.first_file ≤ place.file) × (place.file < node.end_file)) → (name : List ℕ)
      → SameIfThere C (function_named name (map defined_of (filter_map (lists.function_at compilation) places))) (function_named name (map (defined_in w.expansion) (filter_map row_there places)))
  same_named [] each name = tt
  same_named (place ∷ places) each name =
      let f = each 0 place refl in
      let first : lists.function_at compilation place ≡ Some f.0 = ap lists.function_of f.1 in
      let second : row_there place ≡ Some (row place f.0 f.1 f.2 f.3) = ap (λ o. function_of (key_at compilation place) (option_map item_shape o)) f.1 in
      subst (λ o. SameIfThere C (function_named name (map defined_of (cons_option o (filter_map (lists.function_at compilation) places)))) (function_named name (map (defined_in w.expansion) (filter_map row_there (place ∷ places))))) (sym first)
      (subst (λ o. SameIfThere C (function_named name (defined_of f.0 ∷ map defined_of (filter_map (lists.function_at compilation) places))) (function_named name (map (defined_in w.expansion) (cons_option o (filter_map row_there places))))) (sym second)
      (by_test f.0 (row place f.0 f.1 f.2 f.3) (function_same place f.0 f.1 f.2 f.3) (bytes_eq (lexeme f.0.name.token) name) (same_named places (λ i. each (suc i)) name)))
    where
      by_test : (g : FunctionDefinition) (r : FunctionRow) → SameFunction C (defined_of g) (defined_in w.expansion r) → (b : Bool)
          → SameIfThere C (function_named name (map defined_of (filter_map (lists.function_at compilation) places))) (function_named name (map (defined_in w.expansion) (filter_map row_there places)))
          → SameIfThere C (cond b (Some (defined_of g)) (function_named name (map defined_of (filter_map (lists.function_at compilation) places)))) (cond b (Some (defined_in w.expansion r)) (function_named name (map (defined_in w.expansion) (filter_map row_there places))))
      by_test g r same true rest = same
      by_test g r same false rest = rest

  functions_path : functions_at compilation path ≡ filter_map row_there node.functions.items
  functions_path =
      ap (λ o. filter_map row_there (rows_of (λ (x : ModuleNode). x.functions.items) (option_and_then (slice_get compilation.modules.items) o))) (leads_to w compilation n.of n.single k path has)
      ∙ ap (λ o. filter_map row_there (rows_of (λ (x : ModuleNode). x.functions.items) o)) here

  -- each name calls the same function by numbers and by names, or none
  pub functions_same : SameFunctions C (map defined_of (lists.functions_at compilation node.functions.items)) (map (defined_in w.expansion) (functions_at compilation path))
  functions_same = record {
    each = λ name. subst (λ rows. SameIfThere C (function_named name (map defined_of (lists.functions_at compilation node.functions.items))) (function_named name (map (defined_in w.expansion) rows))) (sym functions_path)
        (same_named node.functions.items there name);
  }
    where
      there : (i : ℕ) (place : Place) → slice_get node.functions.items i ≡ Some place → (f : FunctionDefinition) × (item_at compilation place ≡ Some (Function f)) × (node.first_file ≤ place.file) × (place.file < node.end_file)
      there i place e =
          let t = function_there w compilation n k node here i place e in
          let r = function_kept w compilation n k node here i t.0 t.1 in
          let same : r.0 ≡ place = same_Some r.0 place (sym r.1 ∙ e) in
          (t.0, t.2, subst (λ (p : Place). node.first_file ≤ p.file) same r.3.from, subst (λ (p : Place). p.file < node.end_file) same r.3.to)
