-- What the variables of a module export by numbers, they export by names.
use Rattle.std.proofs.Common.{◌≡◌, ◌⊎◌, ◌∙◌, inl, inr, sym, ap, ap₂, subst, refl, ℕ, Bool, true, false, List, [], ◌∷◌, ◌++◌, Option, Some, None, true≢false}
use Rattle.std.specs.Prelude.{Contains, IfSome, ◌&&◌, ◌||◌, bytes_eq, cond, slice_get}
use Rattle.std.specs.Option.{option_and_then, option_map, option_or}
use Rattle.std.proofs.lemmas.Option.{none-some, same_Some}
use Rattle.std.proofs.lemmas.Slice.Eq.{bytes_eq-Decides}
use Rattle.just_text.specs.Tokens.{lexeme}
use Rattle.just_host.specs.declared.config.Config.{Config}
use Rattle.just_value.specs.Constants.{constant_rows}
use Rattle.just_value.specs.Frames.{BoundRow, ByNumber, bound_in, constant_binding}
use Rattle.just_value.specs.Values.{joined}
use Rattle.just_value.specs.declared.positional.Override.{Override}
use Rattle.tree_expressions.specs.declared.expression.Expression.{Expression}
use Rattle.tree_items.specs.Files.{item_shape}
use Rattle.tree_items.specs.declared.ast.Item.{Item}
use Rattle.tree_items.specs.declared.ast.Item.TheVariants.{Assignment}
use Rattle.tree_items.specs.declared.item.Binding.{Binding}
use Rattle.modules_compilation.specs.Places.{item_at, name_of, text_of as text_of_name}
use Rattle.modules_compilation.specs.declared.compilation.Compilation.{Compilation}
use Rattle.modules_compilation.specs.declared.module_node.ModuleNode.{ModuleNode}
use Rattle.modules_compilation.specs.declared.place.Place.{Place}
use Rattle.evaluate_context.specs.Environment.{frame_pairs, frames_pairs, is_exported, last_of, text_of}
use Rattle.evaluate_context.specs.declared.context.AssignmentRef.{AssignmentRef}
use Rattle.evaluate_context.proofs.ByName.{last_append, or_none}
use Rattle.resolve_recipes.specs.Named.{first_named, text_at}
use Rattle.resolve_analysis.specs.Lists.{Kept, kept_by, kept_in}
use Rattle.resolve_analysis.specs.declared.analysis.Analysis.{Analysis}
use Rattle.resolve_analysis.specs.declared.module_lists.ModuleLists.{ModuleLists}
use Rattle.analyze_calls.specs.declared.plan.Runner.{Runner}
use Rattle.meaning_evaluation.specs.Stages.Assigned.{assigned_of, row_of}
use Rattle.meaning_rules.specs.Worlds.Given.{Text, World}
use Rattle.meaning_rules.proofs.Worlds.Places.{contains_at, contains_first, contains_later, place_of}
use Rattle.laws_modules.proofs.Names.Found.{found_at, mapped, mapped_at, none_found}
use Rattle.meaning_rules.specs.Overrides.{overrides_of}
use Rattle.laws_names.proofs.Reading.Bindings.{numbered_once}
use Rattle.laws_names.proofs.Reading.Module.{variable_kept, variable_once, variable_there, variables}
use Rattle.meaning_evaluation.specs.Named.{Definitions, VariableRow}
use Rattle.just_meaning.specs.Opening.{Opened, held, module_says, named, pairs_of, variable_says}
use Rattle.just_meaning.specs.Opening as opening
use Rattle.just_meaning.specs.Runs.{values_at}
use Rattle.laws_runs.specs.Resolved.Definitions.{key_at, rows_of, shape_at, variable_named, variable_of}
use Rattle.laws_runs.specs.Settings.Settled.{AllSettle}
use Rattle.laws_agreement.specs.Grounds.Alike.{IsRowOf}
use Rattle.laws_runs.specs.Running.Steps.{RestsOn, defined}
use Rattle.laws_runs.proofs.Running.Steps.Environment.{last_by_name}
use Rattle.laws_runs.proofs.Running.Steps.Exports.{frame_last, frame_none, held_last, none_of, own_found, row_found, value_of}
use Rattle.laws_runs.proofs.Running.Steps.Modules.{at, inside_is, own_scene, settings_are, values_are}
use Rattle.laws_runs.proofs.Running.Steps.Standing.{Stands, node_found}

twice_said : (a b : Bool) → ((a || b) || (b && true)) ≡ (a || b)
twice_said true b = refl
twice_said false true = refl
twice_said false false = refl

never_said : (b : Bool) → (b && false) ≡ false
never_said true = refl
never_said false = refl

module _ (w : World) (compilation : Compilation) (given : List Override) (base : Text) (analysis : Analysis) (settled : AllSettle w (overrides_of given) compilation analysis.values.value.settings.items) (config : Config) (root_key : List ℕ)
    (called : List ℕ) (is_read : ℕ → Bool) (runner : Runner) (opened : List Opened) (rests : RestsOn w compilation given base analysis settled config root_key called is_read runner opened)
    (rank : ℕ) (s : Stands w compilation given base analysis settled config root_key called is_read runner opened rests rank) where
  abbrev k : ℕ
  k = s.resolved.module

  abbrev here : List Text
  here = at w compilation given base analysis settled config root_key called is_read runner opened rests rank s

  abbrev by_names : Definitions
  by_names = defined w compilation given base analysis settled config root_key

  abbrev pub own_variables : List (Binding Expression)
  own_variables = variables w compilation rests.numbered k s.node s.home

  -- ---- the module's variables in its list

  lists_are : kept_in s.alike.lists ≡ kept_by compilation s.node
  lists_are =
      let m = mapped_at kept_in analysis.variables.lists.items k (kept_by compilation s.node) (ap (λ ks. slice_get ks k) rests.known.is_known.variables_are.lists ∙ mapped (kept_by compilation) compilation.modules.items k s.node s.home) in
      subst (λ (l : ModuleLists). kept_in l ≡ kept_by compilation s.node) (same_Some m.0 s.alike.lists (sym m.1 ∙ s.alike.kept)) m.2

  -- a variable of the list is one that the module keeps
  pub lent_there : (lent : AssignmentRef) → Contains s.alike.lists.assignments.items lent → (i : ℕ) × (slice_get own_variables i ≡ Some lent.assignment.now)
  lent_there lent c =
      let p = place_of s.alike.lists.assignments.items lent c in
      (p.0, ap (λ (kept : Kept). slice_get kept.variables p.0) (sym lists_are) ∙ mapped (λ (l : AssignmentRef). l.assignment.now) s.alike.lists.assignments.items p.0 lent p.1)

  -- and each that it keeps is in the list
  pub variable_lent : (i : ℕ) (v : Binding Expression) → slice_get own_variables i ≡ Some v → (lent : AssignmentRef) × Contains s.alike.lists.assignments.items lent × (lent.assignment.now ≡ v)
  variable_lent i v e =
      let m = mapped_at (λ (l : AssignmentRef). l.assignment.now) s.alike.lists.assignments.items i v (ap (λ (kept : Kept). slice_get kept.variables i) lists_are ∙ e) in
      (m.0, contains_at s.alike.lists.assignments.items i m.0 m.1, m.2)

  -- two of one name are one
  pub one_of_name : (i j : ℕ) (v v' : Binding Expression) → slice_get own_variables i ≡ Some v → slice_get own_variables j ≡ Some v' → lexeme v.name.token ≡ lexeme v'.name.token → v ≡ v'
  one_of_name i j v v' e f same =
      let one = variable_once w compilation rests.numbered k s.node s.home i j v v' e f same in
      same_Some v v' (sym e ∙ ap (slice_get own_variables) one ∙ f)

  pub item_of : (i : ℕ) (v : Binding Expression) → slice_get own_variables i ≡ Some v → (place : Place) × (slice_get s.node.assignments.items i ≡ Some place) × (item_at compilation place ≡ Some (Assignment v))
  item_of i v e =
      let r = variable_kept w compilation rests.numbered k s.node s.home i v e in
      let t = variable_there w compilation rests.numbered k s.node s.home i r.0 r.1 in
      (r.0, r.1, t.2 ∙ ap (λ x. Some (Assignment x)) (same_Some t.0 v (sym t.1 ∙ e)))

  -- and so are two of one number
  pub one_of_number : (i j : ℕ) (v v' : Binding Expression) → slice_get own_variables i ≡ Some v → slice_get own_variables j ≡ Some v' → v.number ≡ v'.number → v ≡ v'
  one_of_number i j v v' e f same =
      let a = item_of i v e in
      let b = item_of j v' f in
      let items : Assignment v ≡ Assignment v' = numbered_once w compilation rests.numbered a.0 b.0 (Assignment v) (Assignment v') a.2 b.2 v.number (contains_first v.number [])
      (subst (Contains (v'.number ∷ [])) (sym same) (contains_first v'.number [])) in
      cc items

  text_there : (place : Place) (v : Binding Expression) → item_at compilation place ≡ Some (Assignment v) → text_at compilation place ≡ lexeme v.name.token
  text_there place v e = ap (λ (o : Option Item). text_of_name (option_and_then name_of o)) e

  -- ---- which are exported

  abbrev pub export : Bool
  export = s.context.module.now.settings.now.export

  -- the variable of a name, and whether it is exported
  pub record IsOfName (name : Text) : Type 0 where
    pub i : ℕ
    pub v : Binding Expression
    pub there : slice_get own_variables i ≡ Some v
    pub is_named : lexeme v.name.token ≡ name
    pub exported : opening.is_exported by_names (named here name) ≡ (v.export || export)

  -- no variable has the name
  pub record IsOfNone (name : Text) : Type 0 where
    pub exported : opening.is_exported by_names (named here name) ≡ false
    pub none : (i : ℕ) (v : Binding Expression) → slice_get own_variables i ≡ Some v → lexeme v.name.token ≡ name → ⊥

  module _ (name : Text) where
    abbrev says : Option VariableRow → Bool
    says found = variable_says found (λ row. row.export || module_says (by_names.inside here) (λ m. m.export))

    first_is : (found : Option Place) → first_named (text_at compilation) s.node.assignments.items name ≡ found → variable_named compilation (named here name) ≡ option_and_then
        (λ place. variable_of (key_at compilation place) (shape_at compilation place)) found
    first_is found e =
        ap (λ n. option_and_then (λ place. variable_of (key_at compilation place) (shape_at compilation place)) (first_named (text_at compilation) (rows_of (λ (node : ModuleNode). node.assignments.items) n) name))
        (node_found w compilation given base analysis settled config root_key called is_read runner opened rests rank s)
        ∙ ap (option_and_then (λ place. variable_of (key_at compilation place) (shape_at compilation place))) e

    exports_said : (v : Binding Expression) → (v.export || module_says (by_names.inside here) (λ m. m.export)) ≡ (v.export || export)
    exports_said v =
        ap (λ m. v.export || module_says m (λ m. m.export)) (inside_is w compilation given base analysis settled config root_key called is_read runner opened rests rank s)
        ∙ ap (λ b. v.export || b) (settings_are w compilation given base analysis settled config root_key called is_read runner opened rests rank s).export

    by_first : (found : Option Place) → first_named (text_at compilation) s.node.assignments.items name ≡ found → IsOfName name ⊎ IsOfNone name
    by_first None e = inr (record {
      exported = ap says (first_is None e);
      none = λ i v there is.
          let a = item_of i v there in
          true≢false (sym ((bytes_eq-Decides (text_at compilation a.0) name).1 (text_there a.0 v a.2 ∙ is)) ∙ none_found (λ q. bytes_eq (text_at compilation q) name) s.node.assignments.items e i a.0 a.1);
    })
    by_first (Some place) e =
        let f = found_at (λ q. bytes_eq (text_at compilation q) name) s.node.assignments.items place e in
        let v = variable_there w compilation rests.numbered k s.node s.home f.0 place f.1 in
        inl (record {
          i = f.0;
          v = v.0;
          there = v.1;
          is_named = sym (text_there place v.0 v.2) ∙ (bytes_eq-Decides (text_at compilation place) name).0 f.2;
          exported = ap says (first_is (Some place) e) ∙ ap (λ (o : Option Item). says (variable_of (key_at compilation place) (option_map item_shape o))) v.2 ∙ exports_said v.0;
        })

    pub variable_case : IsOfName name ⊎ IsOfNone name
    variable_case = by_first (first_named (text_at compilation) s.node.assignments.items name) refl

  -- ---- what is exported

  abbrev own : List BoundRow
  own = s.context.scope.now.own

  own_sorted : ByNumber own
  own_sorted = rests.sorted k s.context s.context_there own (contains_first own s.context.scope.now.outer)

  -- a binding of the module's frame is that of a variable
  pub row_of_variable : (row : BoundRow) → Contains own row → IsRowOf export s.alike.lists.assignments.items row
  row_of_variable row c = subst (λ o. IfSome o (IsRowOf export s.alike.lists.assignments.items)) (own_found export own own_sorted row c) (s.alike.rows row.number)

  exported_row : (row : BoundRow) (lent : AssignmentRef) → row ≡ row_of export (assigned_of lent) row.value → is_exported export row ≡ (lent.assignment.now.export || export)
  exported_row row lent e = ap (is_exported export) e ∙ twice_said lent.assignment.now.export export

  pub module_last : (x : Text) → last_of x (frame_pairs export own) ≡ last_of x (pairs_of by_names here s.o.values)
  module_last x = elim (variable_case x) [
    | inl c ↦
        frame_last export own own_sorted x c.v.number (only c) (names c)
        ∙ same c (bound_in own c.v.number) refl
        ∙ sym (held_last by_names here x s.o.values s.alike.once)
    | inr c ↦
        frame_none export own own_sorted x (λ row d name exported.
        let r = row_of_variable row d in
        let t = lent_there r.0 r.1 in
        c.none t.0 r.0.assignment.now t.1 (sym (ap (λ (b : BoundRow). text_of b.name) r.2) ∙ name))
        ∙ sym (held_last by_names here x s.o.values s.alike.once ∙ ap (λ b. cond b (option_map joined (held x s.o.values)) None) c.exported)
  ]
    where
      only : (c : IsOfName x) (row : BoundRow) → Contains own row → text_of row.name ≡ x → row.number ≡ c.v.number
      only c row d name =
          let r = row_of_variable row d in
          let t = lent_there r.0 r.1 in
          let one = one_of_name t.0 c.i r.0.assignment.now c.v t.1 c.there (sym (ap (λ (b : BoundRow). text_of b.name) r.2) ∙ name ∙ sym c.is_named) in
          ap (λ (b : BoundRow). b.number) r.2 ∙ ap (λ (v : Binding Expression). v.number) one

      from : (c : IsOfName x) (row : BoundRow) → bound_in own c.v.number ≡ Some row → (lent : AssignmentRef) × (row ≡ row_of export (assigned_of lent) row.value) × (lent.assignment.now ≡ c.v)
      from c row e =
          let f = row_found own c.v.number row e in
          let r = row_of_variable row f.0 in
          let t = lent_there r.0 r.1 in
          (r.0, r.2, one_of_number t.0 c.i r.0.assignment.now c.v t.1 c.there (sym (ap (λ (b : BoundRow). b.number) r.2) ∙ f.1))

      names : (c : IsOfName x) (row : BoundRow) → bound_in own c.v.number ≡ Some row → text_of row.name ≡ x
      names c row e = let r = from c row e in ap (λ (b : BoundRow). text_of b.name) r.1 ∙ ap (λ (v : Binding Expression). lexeme v.name.token) r.2 ∙ c.is_named

      held_is : (c : IsOfName x) → option_map (λ (row : BoundRow). row.value) (bound_in own c.v.number) ≡ held x s.o.values
      held_is c =
          let l = variable_lent c.i c.v c.there in
          ap (λ (v : Binding Expression). option_map (λ (row : BoundRow). row.value) (bound_in own v.number)) (sym l.2)
          ∙ s.alike.values l.0 l.1
          ∙ ap (λ n. held n s.o.values) (ap (λ (v : Binding Expression). lexeme v.name.token) l.2 ∙ c.is_named)

      same : (c : IsOfName x) (o : Option BoundRow) → bound_in own c.v.number ≡ o → value_of export own own_sorted (bound_in own c.v.number) ≡ cond (opening.is_exported by_names (named here x)) (option_map joined (held x s.o.values)) None
      same c None e =
          ap (value_of export own own_sorted) e
          ∙ none_of (opening.is_exported by_names (named here x))
          ∙ ap (λ h. cond (opening.is_exported by_names (named here x)) (option_map joined h) None) (sym (ap (option_map (λ (row : BoundRow). row.value)) e) ∙ held_is c)
      same c (Some row) e =
          let r = from c row e in
          ap (value_of export own own_sorted) e
          ∙ ap (λ b. cond b (Some (joined row.value)) None) (exported_row row r.0 r.1 ∙ ap (λ (v : Binding Expression). v.export || export) r.2 ∙ sym c.exported)
          ∙ ap (λ h. cond (opening.is_exported by_names (named here x)) (option_map joined h) None) (sym (ap (option_map (λ (row : BoundRow). row.value)) e) ∙ held_is c)

  -- no constant of the language is exported
  constants_last : (x : Text) → last_of x (frame_pairs export s.alike.constants) ≡ None
  constants_last x = frame_none export s.alike.constants sorted x (λ row c name exported. by_row row (own_found export s.alike.constants sorted row c) exported)
    where
      sorted : ByNumber s.alike.constants
      sorted = rests.sorted k s.context s.context_there s.alike.constants (contains_later own s.context.scope.now.outer s.alike.constants (subst (λ fs. Contains fs s.alike.constants) (sym s.alike.outer) (contains_first s.alike.constants [])))

      by_constant : (row : BoundRow) (o : Option (Text × Text)) → option_map (constant_binding row.number) o ≡ Some row → is_exported export row ≡ true → ⊥
      by_constant row None e exported = none-some row e
      by_constant row (Some r) e exported = true≢false (sym exported ∙ ap (is_exported export) (sym (same_Some (constant_binding row.number r) row e)) ∙ never_said export)

      by_row : (row : BoundRow) → bound_in s.alike.constants row.number ≡ Some row → is_exported export row ≡ true → ⊥
      by_row row e exported = by_constant row (slice_get constant_rows row.number) (sym (s.alike.language row.number) ∙ e) exported

  -- what the module's frames export is what its scene has
  pub module_exports : (x : Text) → last_of x (frames_pairs export (own ∷ s.alike.constants ∷ [])) ≡ last_of x (own_scene w compilation given base analysis settled config root_key called is_read runner opened rests rank s).exported
  module_exports x =
      last_append x (frame_pairs export s.alike.constants) (frame_pairs export own ++ [])
      ∙ ap₂ option_or (last_append x (frame_pairs export own) []) (constants_last x)
      ∙ or_none (last_of x (frame_pairs export own))
      ∙ module_last x
      ∙ ap (λ vs. last_of x (pairs_of by_names here vs)) (sym (values_are w compilation given base analysis settled config root_key called is_read runner opened rests rank s))
      ∙ sym (last_by_name x (pairs_of by_names here (values_at here opened)))
