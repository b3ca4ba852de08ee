-- A recipe that was entered stands at the same place by numbers and by names.
use Rattle.std.proofs.Common.{Bool, List, None, Option, Some, [], ap, ap₂, arith, false, inl, inr, length, map, refl, subst, suc, sym, true, true≢false, zero, ℕ, ◌∙◌, ◌∷◌, ◌≡◌, ◌⊎◌}
use Rattle.std.specs.Prelude.{Contains, IfSome, bytes_eq, cond, if◌then◌else◌, slice_get, ◌&&◌, ◌==◌, ◌||◌}
use Rattle.std.specs.Option.{option_map, option_or}
use Rattle.std.proofs.lemmas.Option.{none-some, same_Some, slice_get-map}
use Rattle.std.proofs.lemmas.Slice.Eq.{bytes_eq-Decides}
use Rattle.just_text.specs.Tokens.{lexeme}
use Rattle.just_host.specs.declared.config.Config.{Config}
use Rattle.just_value.specs.Frames.{BoundRow, bound_in, value_binding}
use Rattle.just_value.specs.Values.{joined}
use Rattle.just_value.specs.declared.positional.Override.{Override}
use Rattle.tree_attributes.specs.Sets.Order.{in_order}
use Rattle.tree_attributes.specs.Sets.Sets.{shapes_in}
use Rattle.tree_items.specs.Recipes.{parameter_shape, parameter_shapes}
use Rattle.tree_items.specs.declared.recipe.Parameter.{Parameter}
use Rattle.modules_compilation.specs.declared.compilation.Compilation.{Compilation}
use Rattle.evaluate_context.specs.Environment.{frame_pairs, frames_pairs, is_exported, last_of, text_of, texts}
use Rattle.evaluate_context.specs.Surroundings.{sorted_names, standing_in, surroundings_of}
use Rattle.evaluate_context.proofs.ByName.{last_append}
use Rattle.evaluate_variables.specs.Given.{IsRowOf}
use Rattle.resolve_analysis.specs.declared.analysis.Analysis.{Analysis}
use Rattle.analyze_calls.specs.Entered.{EnteredRow, inside}
use Rattle.analyze_calls.specs.declared.plan.Runner.{Runner}
use Rattle.meaning_dialogues.specs.Calls.{DefinedFunction, empty}
use Rattle.meaning_dialogues.specs.Dialogue.{Reading}
use Rattle.meaning_dialogues.specs.Evaluation.{Value}
use Rattle.meaning_evaluation.specs.Stages.Parameters.{Bound, bound_value, formal_of}
use Rattle.meaning_evaluation.proofs.Stages.Depth.{IsIn}
use Rattle.meaning_rules.specs.Worlds.Given.{Text, World}
use Rattle.meaning_rules.proofs.Worlds.Places.{place_of}
use Rattle.meaning_rules.specs.Worlds.Views.{name_text}
use Rattle.laws_modules.proofs.Names.Found.{mapped, mapped_at}
use Rattle.laws_modules.proofs.Names.Named.{node_is}
use Rattle.meaning_rules.specs.Overrides.{overrides_of}
use Rattle.meaning_evaluation.specs.Named.{ParameterRow}
use Rattle.meaning_evaluation.specs.Scopes.{around as around_recipe, exported_by, standing}
use Rattle.just_meaning.specs.Opening.{Opened}
use Rattle.just_meaning.specs.Rows.{parameter_row}
use Rattle.laws_runs.specs.Settings.Settled.{AllSettle}
use Rattle.laws_runs.specs.ByName.Evaluators.{HasPlace, RunPlace}
use Rattle.laws_runs.specs.ByName.Variables.{AreDistinct}
use Rattle.laws_runs.proofs.ByName.Frames.{at_place}
use Rattle.laws_runs.specs.Running.Entered.{AreApart, IsEnteredIn}
use Rattle.laws_runs.specs.Running.Steps.{RestsOn}
use Rattle.laws_runs.proofs.Running.Steps.Environment.{last_by_name, names_stay, own_after, same_place}
use Rattle.laws_runs.proofs.Running.Steps.Exports.{frame_last, frame_none, none_of, own_found, parameters_last, parameters_none, row_found, value_of}
use Rattle.laws_runs.proofs.Running.Steps.Modules.{same_module, settings_are, view}
use Rattle.laws_runs.proofs.Running.Steps.Sites.{configured_so, own_body, row, scene}
use Rattle.laws_runs.proofs.Running.Steps.Standing.{Stands, owned}
use Rattle.laws_runs.proofs.Running.Steps.Variables.{module_exports}
use Rattle.just_host.specs.declared.job.Pair.{Pair}
use Rattle.tree_items.specs.declared.ast.Item.TheVariants.{Recipe as RecipeItem}
use Rattle.laws_runs.specs.ByName.Places.{SamePlace}
use Rattle.laws_runs.proofs.Running.Steps.Free.{number_once}

-- ---- the numbers of parameters

pub in_there : (n : ℕ) (ps : List Parameter) → IsIn n (map (λ formal. formal.number) (map formal_of ps)) → (j : ℕ) × (q : Parameter) × (slice_get ps j ≡ Some q) × (n ≡ q.number)
in_there n [] h = absurd h
in_there n (p ∷ ps) h = elim h [
  | inl e ↦ (zero, p, refl, e)
  | inr later ↦ let r = in_there n ps later in (suc r.0, r.1, r.2, r.3)
]

abbrev AreNumbersOnce : List Parameter → Type 0
AreNumbersOnce ps = (i j : ℕ) (p q : Parameter) → slice_get ps i ≡ Some p → slice_get ps j ≡ Some q → p.number ≡ q.number → i ≡ j

pub distinct : (ps : List Parameter) → AreNumbersOnce ps → AreDistinct (map (λ formal. formal.number) (map formal_of ps))
distinct [] once = tt
distinct (p ∷ ps) once = (
  (λ h. let r = in_there p.number ps h in let e : zero ≡ suc r.0 = once zero (suc r.0) p r.1 refl r.2 r.3 in omega (arith, e)),
  distinct ps (λ i j a b e f same. let s : suc i ≡ suc j = once (suc i) (suc j) a b e f same in omega (arith, s)),
)

-- the parameter of a name, if there is one
abbrev IsNamedAt : List Parameter → Text → Type 0
IsNamedAt ps x = (k : ℕ) × (p : Parameter) × (slice_get ps k ≡ Some p) × (lexeme p.name.token ≡ x)

named_case : (ps : List Parameter) (x : Text) → IsNamedAt ps x ⊎ (IsNamedAt ps x → ⊥)
named_case [] x = inr (λ h. none-some h.1 h.2)
named_case (p ∷ ps) x = by_test (bytes_eq (lexeme p.name.token) x) refl (named_case ps x)
  where
    later : (h : IsNamedAt (p ∷ ps) x) → (lexeme p.name.token ≡ x → ⊥) → IsNamedAt ps x
    later (zero, q, e, named) none = absurd (none (ap (λ (r : Parameter). lexeme r.name.token) (same_Some p q e) ∙ named))
    later (suc k, q, e, named) none = (k, q, e, named)

    by_test : (b : Bool) → bytes_eq (lexeme p.name.token) x ≡ b → IsNamedAt ps x ⊎ (IsNamedAt ps x → ⊥) → IsNamedAt (p ∷ ps) x ⊎ (IsNamedAt (p ∷ ps) x → ⊥)
    by_test true e others = inl (zero, p, refl, (bytes_eq-Decides (lexeme p.name.token) x).0 e)
    by_test false e (inl r) = inl (suc r.0, r.1, r.2, r.3)
    by_test false e (inr none) = inr (λ h. none (later h (λ same. true≢false (sym ((bytes_eq-Decides (lexeme p.name.token) x).1 same) ∙ e))))

-- what a parameter is bound to is joined as its value is
joined_single : (text : Text) → joined (text ∷ []) ≡ text
joined_single [] = refl
joined_single (b ∷ bs) = ap (λ t. b ∷ t) (joined_single bs)

joined_bound : (lists : Bool) (v : Value) → joined (bound_value lists v) ≡ joined v
joined_bound lists v = by_test (lists || (length v == 1))
  where
    by_test : (b : Bool) → joined (if b then v else joined v ∷ []) ≡ joined v
    by_test true = refl
    by_test false = joined_single (joined v)

own_said : (a b : Bool) → (a || (b && true)) ≡ (a || b)
own_said true b = refl
own_said false true = refl
own_said false false = refl

module _ (w : World) (compilation : Compilation) (given : List Override) (base : Text) (analysis : Analysis) (settled : AllSettle w (overrides_of given) compilation analysis.values.value.settings.items) (config : Config) (root_key : List ℕ)
    (called : List ℕ) (is_read : ℕ → Bool) (runner : Runner) (opened : List Opened) (rests : RestsOn w compilation given base analysis settled config root_key called is_read runner opened)
    (rank : ℕ) (s : Stands w compilation given base analysis settled config root_key called is_read runner opened rests rank) where
  abbrev pub parameters : List Parameter
  parameters = s.planned.recipe.now.parameters.items

  abbrev export : Bool
  export = s.context.module.now.settings.now.export

  abbrev lists : Bool
  lists = s.context.module.now.settings.now.lists

  pub apart : AreApart parameters
  apart = rests.parameters s.resolved.place (owned w compilation given base analysis settled config root_key called is_read runner opened rests rank s) s.planned.recipe.now s.at

  -- no two parameters have one number
  pub numbers_apart : (i j : ℕ) (p q : Parameter) → slice_get parameters i ≡ Some p → slice_get parameters j ≡ Some q → p.number ≡ q.number → i ≡ j
  numbers_apart i j p q e f same =
      number_once w compilation rests.numbered s.resolved.place (RecipeItem s.planned.recipe.now) s.is_planned.recipe i j p.number
      (mapped (λ (r : Parameter). r.number) parameters i p e) (mapped (λ (r : Parameter). r.number) parameters j q f ∙ ap (λ n. Some n) (sym same))

  abbrev row_here : Parameter → ParameterRow
  row_here p = parameter_row w.expansion (in_order (shapes_in s.planned.recipe.now.attributes)) (parameter_shape p)

  -- a parameter's row stands at its place
  pub row_at_place : (k : ℕ) (p : Parameter) → slice_get parameters k ≡ Some p → slice_get (row w compilation given base analysis settled config root_key called is_read runner opened rests rank s).parameters k ≡ Some (row_here p)
  row_at_place k p e = mapped (parameter_row w.expansion (in_order (shapes_in s.planned.recipe.now.attributes))) (parameter_shapes parameters) k (parameter_shape p) (mapped parameter_shape parameters k p e)

  pub row_back : (k : ℕ) (q : ParameterRow) → slice_get (row w compilation given base analysis settled config root_key called is_read runner opened rests rank s).parameters k ≡ Some q
      → (p : Parameter) × (slice_get parameters k ≡ Some p) × (row_here p ≡ q)
  row_back k q e =
      let a = mapped_at (parameter_row w.expansion (in_order (shapes_in s.planned.recipe.now.attributes))) (parameter_shapes parameters) k q e in
      let b = mapped_at parameter_shape parameters k a.0 a.1 in
      (b.0, b.1, ap (parameter_row w.expansion (in_order (shapes_in s.planned.recipe.now.attributes))) b.2 ∙ a.2)

  -- the names that are not exported
  unexports_same : texts s.context.module.now.unexports.now ≡ sorted_names (map name_text s.node.unexports.items)
  unexports_same =
      ap texts (view w compilation given base analysis settled config root_key called is_read runner opened rests rank s).unexports
      ∙ sym (names_stay (map name_text s.node.unexports.items) (node_is w compilation rests.numbered.of s.resolved.module s.node s.home).unexports.sorted)

  -- where expressions stand that are evaluated in an empty frame inside the module's, with these pairs of attributes
  pub module_place : (flag : Bool) (env : List Pair) → SamePlace (surroundings_of s.context) (around_recipe (configured_so w compilation given base analysis settled config root_key called is_read runner opened rests rank s)
      (scene w compilation given base analysis settled config root_key called is_read runner opened rests rank s) (lexeme s.planned.recipe.now.name.token)
      (row w compilation given base analysis settled config root_key called is_read runner opened rests rank s) flag)
      (standing_in s.context env (inside s.context.scope.now) flag (Some s.planned.recipe.now.name)) (standing (configured_so w compilation given base analysis settled config root_key called is_read runner opened rests rank s)
      (scene w compilation given base analysis settled config root_key called is_read runner opened rests rank s) (lexeme s.planned.recipe.now.name.token)
      (row w compilation given base analysis settled config root_key called is_read runner opened rests rank s) flag [] env)
  module_place flag env =
      let same = same_module w compilation given base analysis settled config root_key called is_read runner opened rests rank s in
      let there = scene w compilation given base analysis settled config root_key called is_read runner opened rests rank s in
      let module_part = module_exports w compilation given base analysis settled config root_key called is_read runner opened rests rank s in
      same_place _ _ _ _ (record {
        unexports = unexports_same;
        dotenv = same.dotenv;
        exported = λ x.
            ap (λ o. last_of x (frames_pairs export (s.context.scope.now.own ∷ o))) s.alike.outer
            ∙ module_part x
            ∙ sym (last_append x there.exported []);
        env = λ x. refl;
        is_dependency = refl;
        recipe = refl;
      })

  module _ (entered : EnteredRow) (bound : Bound) (is : IsEnteredIn s.planned s.context entered bound) where
    abbrev own : List BoundRow
    own = entered.frames.own

    -- a binding of the frame is that of a parameter
    row_of_parameter : (r : BoundRow) → Contains own r → (k : ℕ) × (p : Parameter) × (slice_get parameters k ≡ Some p) × (r ≡ value_binding p.name p.number p.export r.value)
    row_of_parameter r c =
        let f : IsRowOf parameters r = subst (λ o. IfSome o (IsRowOf parameters)) (own_found export own is.rows.sorted r c) (is.rows.at r.number) in
        let i = place_of parameters f.0 f.1 in
        (i.0, f.0, i.1, f.2)

    -- the value of a parameter by its number
    pub value_at : (k : ℕ) (p : Parameter) → slice_get parameters k ≡ Some p → option_map (λ (r : BoundRow). r.value) (bound_in own p.number) ≡ option_map (bound_value lists) (slice_get bound.values k)
    value_at k p e =
        is.is.parameters.has.at p.number
        ∙ at_place (map (λ formal. formal.number) (map formal_of parameters)) (map (bound_value lists) bound.values) empty k p.number (distinct parameters numbers_apart)
        (mapped (λ formal. formal.number) (map formal_of parameters) k (formal_of p) (mapped formal_of parameters k p e))
        ∙ or_nothing (slice_get (map (bound_value lists) bound.values) k)
        ∙ slice_get-map (bound_value lists) bound.values k
      where
        or_nothing : (o : Option Value) → option_or o None ≡ o
        or_nothing None = refl
        or_nothing (Some v) = refl

    pub own_exports : (x : Text) → last_of x (frame_pairs export own) ≡ last_of x (exported_by (scene w compilation given base analysis settled config root_key called is_read runner opened rests rank s).row.export
        (row w compilation given base analysis settled config root_key called is_read runner opened rests rank s).parameters bound.values)
    own_exports x = elim (named_case parameters x) [
      | inl h ↦
          frame_last export own is.rows.sorted x h.1.number (only h) (names h)
          ∙ same h (bound_in own h.1.number) (slice_get bound.values h.0) refl (value_at h.0 h.1 h.2)
          ∙ sym (parameters_last set x rows bound.values h.0 (row_here h.1) (row_at_place h.0 h.1 h.2) h.3 (λ j q f named. let b = row_back j q f in apart.names j h.0 b.0 h.1 b.1 h.2 (ap (λ (r : ParameterRow). r.name) b.2 ∙ named ∙ sym h.3)))
      | inr none ↦
          frame_none export own is.rows.sorted x (λ r c name exported. let p = row_of_parameter r c in none (p.0, p.1, p.2, sym (ap (λ (b : BoundRow). text_of b.name) p.3) ∙ name))
          ∙ sym (parameters_none set x rows bound.values (λ k q f named. let b = row_back k q f in none (k, b.0, b.1, ap (λ (r : ParameterRow). r.name) b.2 ∙ named)))
    ]
      where
        set : Bool
        set = (scene w compilation given base analysis settled config root_key called is_read runner opened rests rank s).row.export

        set_is : set ≡ export
        set_is = (settings_are w compilation given base analysis settled config root_key called is_read runner opened rests rank s).export

        rows : List ParameterRow
        rows = (row w compilation given base analysis settled config root_key called is_read runner opened rests rank s).parameters

        one : (h : IsNamedAt parameters x) (k : ℕ) (p : Parameter) → slice_get parameters k ≡ Some p → k ≡ h.0 → p ≡ h.1
        one h k p e i = same_Some p h.1 (sym e ∙ ap (slice_get parameters) i ∙ h.2)

        only : (h : IsNamedAt parameters x) (r : BoundRow) → Contains own r → text_of r.name ≡ x → r.number ≡ h.1.number
        only h r c name =
            let p = row_of_parameter r c in
            let i = apart.names p.0 h.0 p.1 h.1 p.2 h.2 (sym (ap (λ (b : BoundRow). text_of b.name) p.3) ∙ name ∙ sym h.3) in
            ap (λ (b : BoundRow). b.number) p.3 ∙ ap (λ (q : Parameter). q.number) (one h p.0 p.1 p.2 i)

        from : (h : IsNamedAt parameters x) (r : BoundRow) → bound_in own h.1.number ≡ Some r → (p : Parameter) × (r ≡ value_binding p.name p.number p.export r.value) × (p ≡ h.1)
        from h r e =
            let f = row_found own h.1.number r e in
            let p = row_of_parameter r f.0 in
            (p.1, p.3, one h p.0 p.1 p.2 (numbers_apart p.0 h.0 p.1 h.1 p.2 h.2 (sym (ap (λ (b : BoundRow). b.number) p.3) ∙ f.1)))

        names : (h : IsNamedAt parameters x) (r : BoundRow) → bound_in own h.1.number ≡ Some r → text_of r.name ≡ x
        names h r e = let p = from h r e in ap (λ (b : BoundRow). text_of b.name) p.1 ∙ ap (λ (q : Parameter). lexeme q.name.token) p.2 ∙ h.3

        same : (h : IsNamedAt parameters x) (o : Option BoundRow) (v : Option Value) → bound_in own h.1.number ≡ o → option_map (λ (r : BoundRow). r.value) (bound_in own h.1.number) ≡ option_map (bound_value lists) v
            → value_of export own is.rows.sorted (bound_in own h.1.number) ≡ cond (h.1.export || set) (option_map joined v) None
        same h None None e f = ap (value_of export own is.rows.sorted) e ∙ none_of (h.1.export || set)
        same h None (Some v) e f = absurd (none-some (bound_value lists v) (sym (ap (option_map (λ (r : BoundRow). r.value)) e) ∙ f))
        same h (Some r) None e f = absurd (none-some r.value (sym f ∙ ap (option_map (λ (r : BoundRow). r.value)) e))
        same h (Some r) (Some v) e f =
            let p = from h r e in
            let value : r.value ≡ bound_value lists v = same_Some r.value (bound_value lists v) (sym (ap (option_map (λ (r : BoundRow). r.value)) e) ∙ f) in
            ap (value_of export own is.rows.sorted) e
            ∙ ap (λ b. cond b (Some (joined r.value)) None) (ap (is_exported export) p.1 ∙ own_said p.0.export export ∙ ap₂ (λ (q : Parameter) b. q.export || b) p.2 (sym set_is))
            ∙ ap (λ t. cond (h.1.export || set) (Some t) None) (ap joined value ∙ joined_bound lists v)

    -- ---- the place

    module _ (flag : Bool) (reading : Reading) (reached : DefinedFunction → Bool) where
      -- where the recipe's expressions are evaluated
      abbrev pub run_place : RunPlace
      run_place = record { context = s.context; env = entered.env; here = inside entered.frames; there = s.context.scope.now; is_dependency = flag; recipe = Some s.planned.recipe.now.name; reached = reached }

      pub has_place : HasPlace (own_body w compilation given base analysis settled config root_key called is_read runner opened rests rank s flag bound reading) run_place
      has_place =
          let same = same_module w compilation given base analysis settled config root_key called is_read runner opened rests rank s in
          let there = scene w compilation given base analysis settled config root_key called is_read runner opened rests rank s in
          let module_part = module_exports w compilation given base analysis settled config root_key called is_read runner opened rests rank s in
          let pairs = exported_by there.row.export (row w compilation given base analysis settled config root_key called is_read runner opened rests rank s).parameters bound.values in
          record {
            module_is = same;
            here = same_place _ _ _ _ (record {
              unexports = unexports_same;
              dotenv = same.dotenv;
              exported = λ x.
                  ap (λ fs. last_of x (frames_pairs export (own ∷ fs))) (is.outer ∙ ap (λ o. s.context.scope.now.own ∷ o) s.alike.outer)
                  ∙ own_after export own s.context.scope.now.own s.alike.constants x
                  ∙ ap₂ option_or (own_exports x) (module_part x)
                  ∙ sym (last_append x there.exported pairs);
              env = λ x. sym (ap (last_of x) is.is.env ∙ last_by_name x entered.env);
              is_dependency = refl;
              recipe = refl;
            });
            in_functions = module_place flag [];
          }
