-- The calls of a dependency by places are its calls by names: the same rows of values, and the same groups of a recipe's parameters.
use Rattle.std.proofs.Common.{◌≡◌, ◌∙◌, ◌+◌, sym, ap, ap₂, refl, ℕ, suc, Bool, true, false, List, [], ◌∷◌, ◌++◌, length, map, Some, arith}
use Rattle.std.specs.Prelude.{◌==◌, cond, if◌then◌else◌, slice_get}
use Rattle.std.specs.List.{flat_map}
use Rattle.std.proofs.lemmas.Bool.Decides.{Decides-eqb}
use Rattle.just_host.specs.declared.config.Config.{Config}
use Rattle.just_value.specs.declared.positional.Override.{Override}
use Rattle.tree_attributes.specs.Attributes.{AttributeShape}
use Rattle.tree_attributes.specs.Sets.Order.{in_order}
use Rattle.tree_attributes.specs.Sets.Sets.{shapes_in}
use Rattle.tree_items.specs.Recipes.{argument_shapes, is_variadic, parameter_shapes}
use Rattle.tree_items.specs.declared.recipe.DependencyArgument.{DependencyArgument}
use Rattle.tree_items.specs.declared.recipe.Parameter.{Parameter}
use Rattle.modules_compilation.specs.declared.compilation.Compilation.{Compilation}
use Rattle.parse_expressions.specs.Literals.{Expansion}
use Rattle.resolve_analysis.specs.declared.analysis.Analysis.{Analysis}
use Rattle.analyze_calls.specs.Blocks.{call_with, first_of, groups_for, others_of, shared_out}
use Rattle.analyze_calls.specs.Blocks as by_place
use Rattle.analyze_calls.specs.declared.plan.Runner.{Runner}
use Rattle.meaning_dialogues.specs.Evaluation.{Value}
use Rattle.meaning_rules.specs.Worlds.Given.{Text, World}
use Rattle.meaning_rules.specs.Overrides.{overrides_of}
use Rattle.meaning_evaluation.specs.Groups.{call_of, first_value, grouped, parameters_of, values_behind}
use Rattle.meaning_evaluation.specs.Groups as by_name
use Rattle.meaning_evaluation.specs.Named.{Call}
use Rattle.just_meaning.specs.Opening.{Opened}
use Rattle.just_meaning.specs.Rows.{parameter_row}
use Rattle.laws_runs.specs.Settings.Settled.{AllSettle}
use Rattle.laws_runs.specs.Running.Steps.{RestsOn, defined, named}
use Rattle.laws_runs.proofs.Running.Steps.Named.{name_here, named_so}
use Rattle.laws_runs.proofs.Running.Steps.Places.{apart}
use Rattle.laws_runs.proofs.Running.Steps.Standing.{Stands, row_is}

-- ---- rows of values

pub rows_same : (arguments : List DependencyArgument) (values : List Value) → by_place.rows_of arguments values ≡ by_name.rows_of (argument_shapes arguments) values
rows_same [] values = refl
rows_same (a ∷ arguments) [] = refl
rows_same (a ∷ arguments) (v ∷ values) = ap (λ rows. cond a.starred (map (λ element. (element ∷ []) ∷ values) v) (map (λ row. v ∷ row) rows)) (rows_same arguments values)

-- ---- groups

nothing_after : (v : Value) → v ++ [] ≡ v
nothing_after [] = refl
nothing_after (t ∷ ts) = ap (λ us. t ∷ us) (nothing_after ts)

first_same : (vs : List Value) → first_of vs ≡ first_value vs
first_same [] = refl
first_same (v ∷ vs) = refl

others_same : (vs : List Value) → others_of vs ≡ values_behind vs
others_same [] = refl
others_same (v ∷ vs) = refl

module _ (expansion : Expansion) (attributes : List AttributeShape) where
  shared_same : (ps : List Parameter) (vs : List Value) → shared_out ps vs ≡ grouped (map (parameter_row expansion attributes) (parameter_shapes ps)) vs
  shared_same [] vs = refl
  shared_same (p ∷ ps) vs =
      ap₂ (λ one more. cond (is_variadic p.kind) (flat_map (λ value. value) vs ∷ one) more) (shared_same ps [])
      (ap₂ (λ first others. first ∷ others) (first_same vs) (ap (shared_out ps) (others_same vs) ∙ shared_same ps (values_behind vs)))

  abbrev IsLast : List Parameter → Type 0
  IsLast ps = (i : ℕ) (p : Parameter) → slice_get ps i ≡ Some p → is_variadic p.kind ≡ true → i + 1 ≡ length ps

  -- one value for each parameter
  each_one : (ps : List Parameter) (vs : List Value) → length vs ≡ length ps → IsLast ps → shared_out ps vs ≡ vs
  each_one [] [] many last = refl
  each_one [] (v ∷ vs) many last = absurd (omega (arith, many))
  each_one (p ∷ ps) [] many last = absurd (omega (arith, many))
  each_one (p ∷ ps) (v ∷ vs) many last =
      by_kind (is_variadic p.kind) refl (each_one ps vs (omega (arith, many)) (λ i q e is. let n = last (suc i) q e is in omega (arith, n)))
    where
      ends : (qs : List Parameter) (us : List Value) → length qs ≡ 0 → length us ≡ 0 → (flat_map (λ value. value) (v ∷ us) ∷ shared_out qs []) ≡ (v ∷ us)
      ends [] [] e f = ap (λ u. u ∷ []) (nothing_after v)
      ends [] (u ∷ us) e f = absurd (omega (arith, f))
      ends (q ∷ qs) us e f = absurd (omega (arith, e))

      by_kind : (b : Bool) → is_variadic p.kind ≡ b → shared_out ps vs ≡ vs → cond (is_variadic p.kind) (flat_map (λ value. value) (v ∷ vs) ∷ shared_out ps []) (v ∷ shared_out ps vs) ≡ (v ∷ vs)
      by_kind true is more =
          let n = last 0 p refl is in
          ap (λ b. cond b (flat_map (λ value. value) (v ∷ vs) ∷ shared_out ps []) (v ∷ shared_out ps vs)) is ∙ ends ps vs (omega (arith, n)) (omega (arith, n, many))
      by_kind false is more = ap (λ b. cond b (flat_map (λ value. value) (v ∷ vs) ∷ shared_out ps []) (v ∷ shared_out ps vs)) is ∙ ap (λ us. v ∷ us) more

  pub groups_same : (ps : List Parameter) (vs : List Value) → IsLast ps → groups_for ps vs ≡ grouped (map (parameter_row expansion attributes) (parameter_shapes ps)) vs
  groups_same ps vs last = by_test (length vs == length ps) refl
    where
      by_test : (b : Bool) → (length vs == length ps) ≡ b → (if b then vs else shared_out ps vs) ≡ grouped (map (parameter_row expansion attributes) (parameter_shapes ps)) vs
      by_test true e = sym (each_one ps vs ((Decides-eqb (length vs) (length ps)).0 e) last) ∙ shared_same ps vs
      by_test false e = shared_same ps vs

-- ---- calls

module _ (w : World) (compilation : Compilation) (given : List Override) (base : Text) (analysis : Analysis) (settled : AllSettle w (overrides_of given) compilation analysis.values.value.settings.items) (config : Config) (root_key : List ℕ)
    (called : List ℕ) (is_read : ℕ → Bool) (runner : Runner) (opened : List Opened) (rests : RestsOn w compilation given base analysis settled config root_key called is_read runner opened)
    (rank : ℕ) (s : Stands w compilation given base analysis settled config root_key called is_read runner opened rests rank) where
  -- a call with these values by its name
  pub call_same : (values : List Value) → named w compilation given base analysis settled config root_key (call_with rank s.planned.recipe.now.parameters.items values)
      ≡ call_of (defined w compilation given base analysis settled config root_key) (name_here w compilation given base analysis settled config root_key called is_read runner opened rests rank s) values
  call_same values =
      let name = name_here w compilation given base analysis settled config root_key called is_read runner opened rests rank s in
      named_so w compilation given base analysis settled config root_key called is_read runner opened rests rank s (call_with rank s.planned.recipe.now.parameters.items values) refl
      ∙ ap (λ groups. let c : Call = record { recipe = name; groups = groups } in c) (
      groups_same w.expansion (in_order (shapes_in s.planned.recipe.now.attributes)) s.planned.recipe.now.parameters.items values (apart w compilation given base analysis settled config root_key called is_read runner opened rests rank s).last
      ∙ ap (λ row. grouped (parameters_of row) values) (sym (row_is w compilation given base analysis settled config root_key called is_read runner opened rests rank s)))
