-- The values of a recipe's parameters by places are those by names, and so is all that it is bound to.
use Rattle.std.proofs.Common.{◌≡◌, ◌∙◌, sym, ap, subst, refl, ℕ, suc, Bool, true, false, List, [], ◌∷◌, ◌++◌, append_assoc, length, map, Option, Some, None, Result, Ok, Err, arith, true≢false}
use Rattle.std.specs.Prelude.{Contains, ◌==◌, ◌&&◌, codes, filter_map, find, if◌then◌else◌, slice_get}
use Rattle.std.specs.Option.{option_map}
use Rattle.std.proofs.lemmas.Bool.Decides.{Decides-eqb}
use Rattle.std.proofs.lemmas.List.{length-append, length-map, map-append}
use Rattle.std.proofs.lemmas.List.Elements.{Contains-append_left, Contains-append_right}
use Rattle.std.proofs.lemmas.Option.{none-some, same_Some, slice_get_within}
use Rattle.just_text.specs.Tokens.{lexeme}
use Rattle.just_host.specs.declared.config.Config.{Config}
use Rattle.just_host.specs.declared.job.Pair.{Pair}
use Rattle.just_value.specs.declared.positional.Override.{Override}
use Rattle.tree_expressions.specs.Shape.{shape_of}
use Rattle.tree_expressions.specs.declared.expression.Expression.{Expression}
use Rattle.tree_attributes.specs.Sets.Order.{in_order}
use Rattle.tree_attributes.specs.Sets.Sets.{items_of, shapes_in}
use Rattle.tree_items.specs.Contexts.{parameter_number}
use Rattle.tree_items.specs.Recipes.{parameter_shape, parameter_shapes}
use Rattle.tree_items.specs.declared.ast.Item.TheVariants.{Recipe as RecipeItem}
use Rattle.tree_items.specs.declared.recipe.Parameter.{Parameter}
use Rattle.tree_items.specs.declared.recipe.Recipe.{Recipe}
use Rattle.tree_items.specs.declared.recipe.UnresolvedDependency.{UnresolvedDependency}
use Rattle.parse_attributed_items.specs.Options.{ParameterOptions, options_in as options_of}
use Rattle.modules_compilation.specs.declared.compilation.Compilation.{Compilation}
use Rattle.evaluate_variables.specs.Given.{AreCounted, bound_at}
use Rattle.resolve_references.specs.Seen.{Seen, seeing, seeing_if_there, seen_in, seen_in_parameters}
use Rattle.resolve_analysis.specs.Opening.{Runs}
use Rattle.resolve_analysis.specs.declared.analysis.Analysis.{Analysis}
use Rattle.analyze_calls.specs.Binding.{may_have}
use Rattle.analyze_calls.specs.Entered.{inside}
use Rattle.analyze_calls.specs.declared.plan.Runner.{Runner}
use Rattle.evaluate_context.specs.Surroundings.{by_name}
use Rattle.meaning_dialogues.specs.Calls.{Frame, bound, empty}
use Rattle.meaning_dialogues.specs.Dialogue.{Dialogue, Ends, Lookup, Variable, ◌>>=◌}
use Rattle.meaning_dialogues.specs.Evaluation.{Value, dialogue}
use Rattle.meaning_dialogues.specs.Faults.{Fault, internal, value_count}
use Rattle.meaning_dialogues.specs.Terms.{Term, term_of}
use Rattle.meaning_evaluation.specs.Parameters.Bindings.{env_terms}
use Rattle.meaning_evaluation.specs.Stages.Parameters.{Bound, Formal, bound_value, counted, default_dialogue, env_dialogue, formal_of, given_dialogue, parameter_dialogue, under, values_dialogue}
use Rattle.laws_evaluation.specs.Terms.Alike.{Alike}
use Rattle.laws_evaluation.proofs.Terms.Alike.{then_alike}
use Rattle.meaning_rules.specs.Worlds.Given.{Text, World}
use Rattle.meaning_rules.proofs.Worlds.Places.{contains_at, contains_first, push_here, push_left}
use Rattle.laws_modules.proofs.Names.Found.{found_at, none_found}
use Rattle.meaning_rules.specs.Overrides.{overrides_of}
use Rattle.laws_runs.proofs.Menus.Slots.{in_order_already}
use Rattle.meaning_evaluation.specs.Named.{ParameterRow}
use Rattle.meaning_evaluation.specs.Scopes.{at_least, at_most, binding, formal_in, formals_from, may_count, term}
use Rattle.just_meaning.specs.Opening.{Opened}
use Rattle.just_meaning.specs.Rows.{pair_in, parameter_row}
use Rattle.laws_runs.specs.Settings.Settled.{AllSettle}
use Rattle.laws_runs.proofs.ByName.Goes.{then_goes_as}
use Rattle.laws_runs.specs.Running.Steps.{RestsOn}
use Rattle.laws_runs.proofs.Running.Steps.Bodies.{has_options, options_are}
use Rattle.laws_runs.proofs.Running.Steps.Binding.{Around, Both, Holds, earlier, ends_both, env_go, expression_alike, free_pair, if_both, one_more}
use Rattle.laws_runs.proofs.Running.Steps.Lines.{of_attributes, of_lines, of_parameters, of_priors, of_subsequents}
use Rattle.laws_runs.proofs.Running.Steps.Modules.{settings_are}
use Rattle.laws_runs.proofs.Running.Steps.Places.{numbers_apart, parameters, row_at_place}
use Rattle.laws_runs.proofs.Running.Steps.Sites.{configured_so, row, scene}
use Rattle.laws_runs.proofs.Running.Steps.Standing.{Stands}
use Rattle.laws_runs.proofs.Running.Steps.Terms.{Same, by_names, by_numbers, name_now, names_stage, places_stage}
use Rattle.laws_runs.proofs.Running.Steps.Under.{under_goes}

-- a parameter with these options
abbrev by_options : Parameter → ParameterOptions → ParameterRow
by_options p o = record {
  name = lexeme p.name.token;
  kind = p.kind;
  export = p.export;
  default = option_map shape_of p.default;
  long = o.long;
  short = o.short;
  flag = o.flag;
  multiple = o.multiple;
  value = o.value;
  min = o.min;
  max = o.max;
}

-- whether the parameter of a number may have so many values
abbrev pub may_found : Option Parameter → ℕ → Bool
may_found None n = true
may_found (Some p) n = may_have p n

abbrev pub counts_by : List Parameter → Formal → ℕ → Bool
counts_by ps formal n = may_found (find (λ (p : Parameter). p.number == formal.number) ps) n

none_holds : Holds [] empty empty
none_holds = record { bound_at = λ j p e. absurd (none-some p e); unbound_at = λ n none. refl; later = λ n le. refl }

module _ (w : World) (compilation : Compilation) (given : List Override) (base : Text) (analysis : Analysis) (settled : AllSettle w (overrides_of given) compilation analysis.values.value.settings.items) (config : Config) (root_key : List ℕ)
    (called : List ℕ) (is_read : ℕ → Bool) (runner : Runner) (opened : List Opened) (rests : RestsOn w compilation given base analysis settled config root_key called is_read runner opened)
    (rank : ℕ) (s : Stands w compilation given base analysis settled config root_key called is_read runner opened rests rank)
    (runs : Runs analysis.table.value.recipes.items config.no_dependencies called rank) (flag : Bool) where
  abbrev recipe : Recipe UnresolvedDependency
  recipe = s.planned.recipe.now

  abbrev all : List Parameter
  all = parameters w compilation given base analysis settled config root_key called is_read runner opened rests rank s

  abbrev name_here : Text
  name_here = name_now w compilation given base analysis settled config root_key called is_read runner opened rests rank s runs flag

  abbrev Go : {X : Type 0} → Dialogue X → Dialogue X → Type 0
  Go t u = Both w compilation given base analysis settled config root_key called is_read runner opened rests rank s runs flag t u

  abbrev formal_at : ℕ → ParameterRow → Formal
  formal_at k r = formal_in (configured_so w compilation given base analysis settled config root_key called is_read runner opened rests rank s)
      (scene w compilation given base analysis settled config root_key called is_read runner opened rests rank s) name_here (row w compilation given base analysis settled config root_key called is_read runner opened rests rank s) flag k
      r

  abbrev row_by : Parameter → ParameterRow
  row_by p = parameter_row w.expansion (in_order (shapes_in recipe.attributes)) (parameter_shape p)

  -- the counts of parameters by their numbers
  counts_so : (n i : ℕ) (p : Parameter) → slice_get all i ≡ Some p → may_have p n ≡ counts_by all (formal_of p) n
  counts_so n i p e = by_found (find (λ (q : Parameter). q.number == p.number) all) refl
    where
      by_found : (o : Option Parameter) → find (λ (q : Parameter). q.number == p.number) all ≡ o → may_have p n ≡ may_found (find (λ (q : Parameter). q.number == p.number) all) n
      by_found None is = absurd (true≢false (sym ((Decides-eqb p.number p.number).1 refl) ∙ none_found (λ (q : Parameter). q.number == p.number) all is i p e))
      by_found (Some q) is =
          let f = found_at (λ (r : Parameter). r.number == p.number) all q is in
          let one : f.0 ≡ i = numbers_apart w compilation given base analysis settled config root_key called is_read runner opened rests rank s f.0 i q p f.1 e ((Decides-eqb q.number p.number).0 f.2) in
          let same : q ≡ p = same_Some q p (sym f.1 ∙ ap (slice_get all) one ∙ e) in
          sym (ap (λ o. may_found o n) is ∙ ap (λ (r : Parameter). may_have r n) same)

  are_counted : (done ps : List Parameter) → all ≡ done ++ ps → AreCounted may_have (counts_by all) ps
  are_counted done [] whole = tt
  are_counted done (p ∷ ps) whole =
      ((λ n. counts_so n (length done) p (ap (λ l. slice_get l (length done)) whole ∙ push_here done p ps)), are_counted (done ++ p ∷ []) ps (whole ∙ sym (append_assoc done (p ∷ []) ps)))

  pub counted_all : AreCounted may_have (counts_by all) all
  counted_all = are_counted [] all refl

  -- ---- one parameter

  module _ (done ps : List Parameter) (p : Parameter) (whole : all ≡ done ++ p ∷ ps) (up : (seen : Seen) → Contains (seen_in_parameters
      (earlier w compilation given base analysis settled config root_key called is_read runner opened rests rank s runs flag done) (p ∷ ps)) seen → Contains (seen_in (RecipeItem recipe)) seen)
      (frame other : Frame) (holds : Holds done frame other) (env : List Pair) where
    at_here : slice_get all (length done) ≡ Some p
    at_here = ap (λ l. slice_get l (length done)) whole ∙ push_here done p ps

    pub row_is : row_by p ≡ by_options p (options_of p)
    row_is = ap (by_options p) (sym (options_are w.expansion recipe.attributes p (has_options w compilation given base analysis settled config root_key called is_read runner opened rests rank s p (contains_at all (length done) p at_here))))

    abbrev C : Lookup → Variable → Variable → Type 0
    C place x y = Same w compilation given base analysis settled config root_key called is_read runner opened rests rank s runs flag
        (Around w compilation given base analysis settled config root_key called is_read runner opened rests rank s runs flag frame other) place x y

    abbrev own_formal : Formal
    own_formal = formal_at (length done) (by_options p (options_of p))

    abbrev term_here : Expression → Term
    term_here e = term (configured_so w compilation given base analysis settled config root_key called is_read runner opened rests rank s)
        (scene w compilation given base analysis settled config root_key called is_read runner opened rests rank s) name_here (row w compilation given base analysis settled config root_key called is_read runner opened rests rank s) flag
        (shape_of e)

    abbrev Means : Expression → Type 0
    Means e = Alike C (dialogue (places_stage w compilation given base analysis settled config root_key called is_read runner opened rests rank s runs flag env) (term_of e))
        (dialogue (names_stage w compilation given base analysis settled config root_key called is_read runner opened rests rank s runs flag env) (term_here e))

    abbrev Seeing : Expression → Seen
    Seeing e = seeing (earlier w compilation given base analysis settled config root_key called is_read runner opened rests rank s runs flag done) e

    abbrev in_default : List Seen
    in_default = seeing_if_there (earlier w compilation given base analysis settled config root_key called is_read runner opened rests rank s runs flag done) p.default

    abbrev in_value : List Seen
    in_value = seeing_if_there (earlier w compilation given base analysis settled config root_key called is_read runner opened rests rank s runs flag done) p.value

    abbrev in_others : List Seen
    in_others = seen_in_parameters (earlier w compilation given base analysis settled config root_key called is_read runner opened rests rank s runs flag done ++ parameter_number p ∷ []) ps

    seen_there : (o : Option Expression) (e : Expression) → o ≡ Some e → Contains (seeing_if_there (earlier w compilation given base analysis settled config root_key called is_read runner opened rests rank s runs flag done) o) (Seeing e)
    seen_there o e is = subst (λ x. Contains (seeing_if_there (earlier w compilation given base analysis settled config root_key called is_read runner opened rests rank s runs flag done) x) (Seeing e)) (sym is) (contains_first (Seeing e) [])

    default_means : (e : Expression) → p.default ≡ Some e → Means e
    default_means e is =
        expression_alike w compilation given base analysis settled config root_key called is_read runner opened rests rank s runs flag done (p ∷ ps) whole frame other holds env e
        (up (Seeing e) (Contains-append_left (in_default ++ in_value) in_others (Seeing e) (Contains-append_left in_default in_value (Seeing e) (seen_there p.default e is))))

    value_means : (e : Expression) → p.value ≡ Some e → Means e
    value_means e is =
        expression_alike w compilation given base analysis settled config root_key called is_read runner opened rests rank s runs flag done (p ∷ ps) whole frame other holds env e
        (up (Seeing e) (Contains-append_left (in_default ++ in_value) in_others (Seeing e) (Contains-append_right in_default in_value (Seeing e) (seen_there p.value e is))))

    pub up_others : (seen : Seen) → Contains (seen_in_parameters (earlier w compilation given base analysis settled config root_key called is_read runner opened rests rank s runs flag (done ++ p ∷ [])) ps) seen
        → Contains (seen_in (RecipeItem recipe)) seen
    up_others seen c = up seen (Contains-append_right (in_default ++ in_value) in_others seen (subst (λ l. Contains (seen_in_parameters l ps) seen) (map-append parameter_number done (p ∷ [])) c))

    default_alike : (o : Option Expression) → ((e : Expression) → o ≡ Some e → Means e)
        → Alike C (default_dialogue (places_stage w compilation given base analysis settled config root_key called is_read runner opened rests rank s runs flag env) flag name_here (formal_of p) (option_map term_of o))
        (default_dialogue (names_stage w compilation given base analysis settled config root_key called is_read runner opened rests rank s runs flag env) flag name_here own_formal
        (option_map (term (configured_so w compilation given base analysis settled config root_key called is_read runner opened rests rank s)
        (scene w compilation given base analysis settled config root_key called is_read runner opened rests rank s) name_here (row w compilation given base analysis settled config root_key called is_read runner opened rests rank s)
        flag) (option_map shape_of o)))
    default_alike None means = refl
    default_alike (Some e) means = means e refl

    given_alike : (group : Value) (o : Option Expression) (b : Bool) → ((e : Expression) → o ≡ Some e → Means e)
        → Alike C (given_dialogue (places_stage w compilation given base analysis settled config root_key called is_read runner opened rests rank s runs flag env) flag name_here group (option_map term_of o) b)
        (given_dialogue (names_stage w compilation given base analysis settled config root_key called is_read runner opened rests rank s runs flag env) flag name_here group
        (option_map (term (configured_so w compilation given base analysis settled config root_key called is_read runner opened rests rank s)
        (scene w compilation given base analysis settled config root_key called is_read runner opened rests rank s) name_here (row w compilation given base analysis settled config root_key called is_read runner opened rests rank s)
        flag) (option_map shape_of o)) b)
    given_alike group None b means = refl
    given_alike group (Some e) true means = refl
    given_alike group (Some e) false means = then_alike C (dialogue (places_stage w compilation given base analysis settled config root_key called is_read runner opened rests rank s runs flag env) (term_of e))
        (dialogue (names_stage w compilation given base analysis settled config root_key called is_read runner opened rests rank s runs flag env) (term_here e)) _ _ (means e refl) (λ value. refl)

    parameter_alike : (group : Value) → Alike C (parameter_dialogue (places_stage w compilation given base analysis settled config root_key called is_read runner opened rests rank s runs flag env) flag name_here (formal_of p) group)
        (parameter_dialogue (names_stage w compilation given base analysis settled config root_key called is_read runner opened rests rank s runs flag env) flag name_here own_formal group)
    parameter_alike [] = default_alike p.default default_means
    parameter_alike (t ∷ ts) = given_alike (t ∷ ts) p.value flag value_means

    -- its value
    pub value_go : (group : Value) → Go (under frame (parameter_dialogue (places_stage w compilation given base analysis settled config root_key called is_read runner opened rests rank s runs flag env) flag name_here (formal_of p)
        group)) (under other (parameter_dialogue (names_stage w compilation given base analysis settled config root_key called is_read runner opened rests rank s runs flag env) flag name_here (formal_at (length done) (row_by p)) group))
    value_go group =
        subst (λ r. Go (under frame (parameter_dialogue (places_stage w compilation given base analysis settled config root_key called is_read runner opened rests rank s runs flag env) flag name_here (formal_of p) group))
        (under other (parameter_dialogue (names_stage w compilation given base analysis settled config root_key called is_read runner opened rests rank s runs flag env) flag name_here (formal_at (length done) r) group)))
        (sym row_is)
        (under_goes (by_numbers w compilation given base analysis settled config root_key called is_read runner opened rests rank s runs flag)
        (by_names w compilation given base analysis settled config root_key called is_read runner opened rests rank s runs flag) frame other C (λ x y c. c.0) (λ x y c. c.0 c.1)
        (parameter_dialogue (places_stage w compilation given base analysis settled config root_key called is_read runner opened rests rank s runs flag env) flag name_here (formal_of p) group)
        (parameter_dialogue (names_stage w compilation given base analysis settled config root_key called is_read runner opened rests rank s runs flag env) flag name_here own_formal group) (parameter_alike group))

    -- and how many elements it may have
    check_same : (n : ℕ) → counts_by all (formal_of p) n ≡ may_count (slice_get (row w compilation given base analysis settled config root_key called is_read runner opened rests rank s).parameters (length done)) n
    check_same n =
        sym (counts_so n (length done) p at_here)
        ∙ ap (λ (r : ParameterRow). at_least r.min n && at_most r.max n) (sym row_is)
        ∙ ap (λ o. may_count o n) (sym (row_at_place w compilation given base analysis settled config root_key called is_read runner opened rests rank s (length done) p at_here))

    pub counted_same : (taken : Value) → counted (places_stage w compilation given base analysis settled config root_key called is_read runner opened rests rank s runs flag env) flag name_here (counts_by all) (formal_of p) taken
        ≡ counted (names_stage w compilation given base analysis settled config root_key called is_read runner opened rests rank s runs flag env) flag name_here
        (λ formal n. may_count (slice_get (row w compilation given base analysis settled config root_key called is_read runner opened rests rank s).parameters formal.number) n) (formal_at (length done) (row_by p)) taken
    counted_same taken = ap (λ (b : Bool). let r : Result Value Fault = if b then Ok taken else Err (value_count name_here (lexeme p.name.token) (length taken)) in r) (check_same (length taken))

    pub apart_here : (j : ℕ) (q : Parameter) → slice_get done j ≡ Some q → q.number ≡ p.number → ⊥
    apart_here j q e same =
        let one : j ≡ length done = numbers_apart w compilation given base analysis settled config root_key called is_read runner opened rests rank s j (length done) q p (ap (λ l. slice_get l j) whole ∙ push_left done (p ∷ ps) j q e)
        at_here same in
        let lt = slice_get_within done j q e in
        omega (arith, one, lt)

  -- ---- all of them

  module _ (lists : Bool) (env : List Pair) where
    values_go : (done ps : List Parameter) → all ≡ done ++ ps → ((seen : Seen) → Contains (seen_in_parameters (earlier w compilation given base analysis settled config root_key called is_read runner opened rests rank s runs flag done)
        ps) seen → Contains (seen_in (RecipeItem recipe)) seen)
        → (frame other : Frame) → Holds done frame other → (groups : List Value)
        → Go (values_dialogue (places_stage w compilation given base analysis settled config root_key called is_read runner opened rests rank s runs flag env) flag name_here (counts_by all) lists frame (map formal_of ps) groups)
        (values_dialogue (names_stage w compilation given base analysis settled config root_key called is_read runner opened rests rank s runs flag env) flag name_here
        (λ formal n. may_count (slice_get (row w compilation given base analysis settled config root_key called is_read runner opened rests rank s).parameters formal.number) n) lists other
        (formals_from (configured_so w compilation given base analysis settled config root_key called is_read runner opened rests rank s)
        (scene w compilation given base analysis settled config root_key called is_read runner opened rests rank s) name_here
        (row w compilation given base analysis settled config root_key called is_read runner opened rests rank s) flag (length done) (map (parameter_row w.expansion (in_order (shapes_in recipe.attributes))) (parameter_shapes ps)))
        groups)
    values_go done [] whole up frame other holds groups = λ old new r d. d
    values_go done (p ∷ ps) whole up frame other holds [] = λ old new r d. d
    values_go done (p ∷ ps) whole up frame other holds (group ∷ groups) =
        then_goes_as (by_numbers w compilation given base analysis settled config root_key called is_read runner opened rests rank s runs flag)
        (by_names w compilation given base analysis settled config root_key called is_read runner opened rests rank s runs flag)
        (under frame (parameter_dialogue (places_stage w compilation given base analysis settled config root_key called is_read runner opened rests rank s runs flag env) flag name_here (formal_of p) group))
        (under other (parameter_dialogue (names_stage w compilation given base analysis settled config root_key called is_read runner opened rests rank s runs flag env) flag name_here (formal_at (length done) (row_by p)) group)) _ _
        (value_go done ps p whole up frame other holds env group)
        (λ taken. then_goes_as (by_numbers w compilation given base analysis settled config root_key called is_read runner opened rests rank s runs flag)
        (by_names w compilation given base analysis settled config root_key called is_read runner opened rests rank s runs flag)
        (Ends (counted (places_stage w compilation given base analysis settled config root_key called is_read runner opened rests rank s runs flag env) flag name_here (counts_by all) (formal_of p) taken))
        (Ends (counted (names_stage w compilation given base analysis settled config root_key called is_read runner opened rests rank s runs flag env) flag name_here
        (λ formal n. may_count (slice_get (row w compilation given base analysis settled config root_key called is_read runner opened rests rank s).parameters formal.number) n) (formal_at (length done) (row_by p)) taken)) _ _
        (ends_both w compilation given base analysis settled config root_key called is_read runner opened rests rank s runs flag _ _ (counted_same done ps p whole up frame other holds env taken))
        (λ value. then_goes_as (by_numbers w compilation given base analysis settled config root_key called is_read runner opened rests rank s runs flag)
        (by_names w compilation given base analysis settled config root_key called is_read runner opened rests rank s runs flag)
        (values_dialogue (places_stage w compilation given base analysis settled config root_key called is_read runner opened rests rank s runs flag env) flag name_here (counts_by all) lists
        (bound frame p.number (bound_value lists value)) (map formal_of ps) groups)
        (values_dialogue (names_stage w compilation given base analysis settled config root_key called is_read runner opened rests rank s runs flag env) flag name_here
        (λ formal n. may_count (slice_get (row w compilation given base analysis settled config root_key called is_read runner opened rests rank s).parameters formal.number) n) lists
        (bound other (length done) (bound_value lists value))
        (formals_from (configured_so w compilation given base analysis settled config root_key called is_read runner opened rests rank s)
        (scene w compilation given base analysis settled config root_key called is_read runner opened rests rank s) name_here
        (row w compilation given base analysis settled config root_key called is_read runner opened rests rank s) flag (suc (length done))
        (map (parameter_row w.expansion (in_order (shapes_in recipe.attributes))) (parameter_shapes ps))) groups) _ _
        (subst (λ n. Go (values_dialogue (places_stage w compilation given base analysis settled config root_key called is_read runner opened rests rank s runs flag env) flag name_here (counts_by all) lists
        (bound frame p.number (bound_value lists value)) (map formal_of ps) groups)
        (values_dialogue (names_stage w compilation given base analysis settled config root_key called is_read runner opened rests rank s runs flag env) flag name_here
        (λ formal n. may_count (slice_get (row w compilation given base analysis settled config root_key called is_read runner opened rests rank s).parameters formal.number) n) lists
        (bound other (length done) (bound_value lists value))
        (formals_from (configured_so w compilation given base analysis settled config root_key called is_read runner opened rests rank s)
        (scene w compilation given base analysis settled config root_key called is_read runner opened rests rank s) name_here
        (row w compilation given base analysis settled config root_key called is_read runner opened rests rank s) flag n (map (parameter_row w.expansion (in_order (shapes_in recipe.attributes))) (parameter_shapes ps)))
        groups)) longer
        (values_go (done ++ p ∷ []) ps (whole ∙ sym (append_assoc done (p ∷ []) ps))
        (up_others done ps p whole up frame other holds env)
        (bound frame p.number (bound_value lists value)) (bound other (length done) (bound_value lists value))
        (one_more done p frame other (bound_value lists value) (apart_here done ps p whole up frame other holds env) holds) groups))
        (λ values old new r d. d)))
      where
        longer : length (done ++ p ∷ []) ≡ suc (length done)
        longer = let many = length-append done (p ∷ []) in let n : length (done ++ p ∷ []) ≡ suc (length done) = omega (arith, many) in n

  -- ---- what it is bound to

  among_parameters : (seen : Seen) → Contains (seen_in_parameters [] all) seen → Contains (seen_in (RecipeItem recipe)) seen
  among_parameters seen c =
      Contains-append_left (((of_attributes recipe ++ of_parameters recipe) ++ of_priors recipe) ++ of_subsequents recipe) (of_lines recipe) seen
      (Contains-append_left ((of_attributes recipe ++ of_parameters recipe) ++ of_priors recipe) (of_subsequents recipe) seen
      (Contains-append_left (of_attributes recipe ++ of_parameters recipe) (of_priors recipe) seen
      (Contains-append_right (of_attributes recipe) (of_parameters recipe) seen c)))

  many_formals : (n : ℕ) (rows : List ParameterRow) → length (formals_from (configured_so w compilation given base analysis settled config root_key called is_read runner opened rests rank s)
      (scene w compilation given base analysis settled config root_key called is_read runner opened rests rank s) name_here (row w compilation given base analysis settled config root_key called is_read runner opened rests rank s) flag n
      rows) ≡ length rows
  many_formals n [] = refl
  many_formals n (r ∷ rows) = ap suc (many_formals (suc n) rows)

  same_many : length (map formal_of all) ≡ length (formals_from (configured_so w compilation given base analysis settled config root_key called is_read runner opened rests rank s)
      (scene w compilation given base analysis settled config root_key called is_read runner opened rests rank s) name_here (row w compilation given base analysis settled config root_key called is_read runner opened rests rank s) flag 0
      (row w compilation given base analysis settled config root_key called is_read runner opened rests rank s).parameters)
  same_many =
      length-map all formal_of
      ∙ sym (many_formals 0 (row w compilation given base analysis settled config root_key called is_read runner opened rests rank s).parameters ∙ length-map (parameter_shapes all)
      (parameter_row w.expansion (in_order (shapes_in recipe.attributes))) ∙ length-map all parameter_shape)

  module _ (groups : List Value) where
    abbrev pairs_places : Dialogue (List Pair)
    pairs_places = env_dialogue (places_stage w compilation given base analysis settled config root_key called is_read runner opened rests rank s runs flag) [] (env_terms (items_of recipe.attributes))

    abbrev pairs_names : Dialogue (List Pair)
    pairs_names = env_dialogue (names_stage w compilation given base analysis settled config root_key called is_read runner opened rests rank s runs flag) []
        (map (free_pair w compilation given base analysis settled config root_key called is_read runner opened rests rank s runs flag)
        (row w compilation given base analysis settled config root_key called is_read runner opened rests rank s).env)

    pairs_go : Go pairs_places pairs_names
    pairs_go =
        subst (λ shapes. Go pairs_places (env_dialogue (names_stage w compilation given base analysis settled config root_key called is_read runner opened rests rank s runs flag) []
        (map (free_pair w compilation given base analysis settled config root_key called is_read runner opened rests rank s runs flag) (filter_map (pair_in w.expansion) shapes)))) (sym (in_order_already recipe.attributes))
        (env_go w compilation given base analysis settled config root_key called is_read runner opened rests rank s runs flag (items_of recipe.attributes) (λ item c. c) [])

    abbrev formals_names : List Formal
    formals_names = formals_from (configured_so w compilation given base analysis settled config root_key called is_read runner opened rests rank s)
        (scene w compilation given base analysis settled config root_key called is_read runner opened rests rank s) name_here (row w compilation given base analysis settled config root_key called is_read runner opened rests rank s) flag
        0 (row w compilation given base analysis settled config root_key called is_read runner opened rests rank s).parameters

    abbrev values_places : Bool → List Pair → Dialogue (List Value)
    values_places b env = values_dialogue (places_stage w compilation given base analysis settled config root_key called is_read runner opened rests rank s runs flag env) flag name_here (counts_by all) b empty (map formal_of all) groups

    abbrev values_names : List Pair → Dialogue (List Value)
    values_names env = values_dialogue (names_stage w compilation given base analysis settled config root_key called is_read runner opened rests rank s runs flag env) flag name_here
        (λ formal n. may_count (slice_get (row w compilation given base analysis settled config root_key called is_read runner opened rests rank s).parameters formal.number) n)
        (scene w compilation given base analysis settled config root_key called is_read runner opened rests rank s).row.lists empty formals_names groups

    abbrev no_values : Dialogue (List Value)
    no_values = Ends (Err (internal (codes "arguments do not match parameter count")))

    abbrev whole_places : List Pair → Dialogue (List Value)
    whole_places env = if length groups == length (map formal_of all) then values_places s.context.module.now.settings.now.lists env else no_values

    abbrev whole_names : List Pair → Dialogue (List Value)
    whole_names env = if length groups == length formals_names then values_names env else no_values

    whole_go : (env : List Pair) → Go (whole_places env) (whole_names env)
    whole_go env =
        if_both w compilation given base analysis settled config root_key called is_read runner opened rests rank s runs flag (length groups == length (map formal_of all)) (length groups == length formals_names)
        (values_places s.context.module.now.settings.now.lists env) (values_names env) no_values (ap (λ n. length groups == n) same_many)
        (subst (λ (b : Bool). Go (values_places b env) (values_names env)) (settings_are w compilation given base analysis settled config root_key called is_read runner opened rests rank s).lists
        (values_go (scene w compilation given base analysis settled config root_key called is_read runner opened rests rank s).row.lists env [] all refl among_parameters empty empty none_holds groups))
        (λ old new r d. d)

    -- all of it
    pub binding_go : Go (bound_at s.context flag recipe (counts_by all) groups (inside s.context.scope.now)) (binding (configured_so w compilation given base analysis settled config root_key called is_read runner opened rests rank s)
        (scene w compilation given base analysis settled config root_key called is_read runner opened rests rank s) name_here (row w compilation given base analysis settled config root_key called is_read runner opened rests rank s) flag
        groups)
    binding_go =
        then_goes_as (by_numbers w compilation given base analysis settled config root_key called is_read runner opened rests rank s runs flag)
        (by_names w compilation given base analysis settled config root_key called is_read runner opened rests rank s runs flag) pairs_places pairs_names
        (λ env. whole_places env >>= λ values. Ends (Ok (let b : Bound = record { env = by_name env; values = values } in b))) (λ env. whole_names env >>= λ values. Ends
        (Ok (let b : Bound = record { env = by_name env; values = values } in b))) pairs_go
        (λ env. then_goes_as (by_numbers w compilation given base analysis settled config root_key called is_read runner opened rests rank s runs flag)
        (by_names w compilation given base analysis settled config root_key called is_read runner opened rests rank s runs flag) (whole_places env) (whole_names env)
        (λ values. Ends (Ok (let b : Bound = record { env = by_name env; values = values } in b))) (λ values. Ends (Ok (let b : Bound = record { env = by_name env; values = values } in b))) (whole_go env) (λ values old new r d. d))
