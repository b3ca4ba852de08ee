-- The expressions of a recipe that runs are known by names, behind its parameters.
use Rattle.std.proofs.Common.{◌≡◌, ◌⊎◌, ◌∙◌, ◌+◌, inl, inr, sym, ap, ap₂, subst, refl, ℕ, zero, suc, Bool, true, false, List, [], ◌∷◌, length, map, Option, Some, None, arith}
use Rattle.std.specs.Prelude.{Contains, IsSome, bytes_eq, cond, slice_get}
use Rattle.std.specs.List.{position_from}
use Rattle.std.specs.Option.{option_or}
use Rattle.std.proofs.lemmas.Iterator.Adapters.{position_from-zero}
use Rattle.std.proofs.lemmas.List.{length-map}
use Rattle.std.proofs.lemmas.List.Elements.{All-contains}
use Rattle.std.proofs.lemmas.Option.{none-some, same_Some, slice_get_within}
use Rattle.std.proofs.lemmas.Slice.Eq.{bytes_eq-Decides}
use Rattle.just_text.specs.Tokens.{lexeme}
use Rattle.just_host.specs.declared.config.Config.{Config}
use Rattle.just_value.specs.Frames.{BoundRow, look_up}
use Rattle.just_value.specs.declared.positional.Override.{Override}
use Rattle.tree_items.specs.Contexts.{last_named, parameter_number}
use Rattle.tree_items.specs.Recipes.{parameter_shape}
use Rattle.tree_items.specs.declared.ast.Item.{Item}
use Rattle.tree_items.specs.declared.ast.Item.TheVariants.{Recipe as RecipeItem}
use Rattle.tree_items.specs.declared.recipe.Parameter.{Parameter}
use Rattle.tree_items.specs.declared.recipe.Recipe.{Recipe}
use Rattle.tree_items.specs.declared.recipe.UnresolvedDependency.{UnresolvedDependency}
use Rattle.parse_expressions.specs.Literals.{IsCooked, from_file}
use Rattle.modules_compilation.specs.Places.{item_at, items_of}
use Rattle.modules_compilation.specs.declared.compilation.Compilation.{Compilation}
use Rattle.modules_compilation.specs.declared.module_node.File.{File}
use Rattle.evaluate_expressions.specs.Situations.{functions_in}
use Rattle.resolve_references.specs.Seen.{Seen, seen_in}
use Rattle.resolve_analysis.specs.Bound.{bindings_of, constant_number}
use Rattle.resolve_analysis.specs.Opening.{Runs}
use Rattle.resolve_analysis.specs.declared.analysis.Analysis.{Analysis}
use Rattle.analyze_calls.specs.Entered.{EnteredRow}
use Rattle.analyze_calls.specs.declared.plan.Runner.{Runner}
use Rattle.justfile_evaluator.specs.Bodies.{NamedBody}
use Rattle.meaning_dialogues.specs.Calls.{DefinedFunction, HasValues, empty, function_named, read_in, with_parameters}
use Rattle.meaning_dialogues.specs.Dialogue.{Variable}
use Rattle.meaning_dialogues.specs.Terms.{term_of}
use Rattle.meaning_dialogues.specs.Written.{numbered}
use Rattle.laws_evaluation.proofs.Opening.Names.{AnyCall}
use Rattle.meaning_evaluation.specs.Stages.Parameters.{Bound, bound_value, formal_of}
use Rattle.meaning_evaluation.proofs.Stages.Depth.{HasNumber, IsIn}
use Rattle.laws_evaluation.specs.Soundness.Known.{IsCallable, OneForEach}
use Rattle.laws_evaluation.specs.Soundness.Opening.{IsNumbered}
use Rattle.meaning_rules.specs.Worlds.Given.{Text, World}
use Rattle.meaning_rules.proofs.Worlds.Places.{contains_at, place_of}
use Rattle.laws_modules.proofs.Names.Found.{mapped, mapped_at, there_within}
use Rattle.meaning_rules.specs.Overrides.{overrides_of}
use Rattle.laws_names.proofs.Reading.Bindings.{bound_in as names_bound}
use Rattle.laws_names.proofs.Reading.Constants.{is_constant}
use Rattle.laws_names.proofs.Reading.Finding.{last_named_there, none_named}
use Rattle.laws_names.specs.Reading.Meant.{AreSeenCooked}
use Rattle.laws_names.specs.Reading.Places.{IsItemOf}
use Rattle.laws_runs.specs.Views.Recipes.{ExpressionsKnown, IsConstantOrRead}
use Rattle.laws_runs.proofs.Views.Tables.{table_recipes_are_known}
use Rattle.meaning_evaluation.specs.Scopes.{parameter_names}
use Rattle.just_meaning.specs.Opening.{Opened, reading_in}
use Rattle.just_meaning.specs.Rows.{parameter_row}
use Rattle.meaning_evaluation.specs.Named.{ParameterRow}
use Rattle.tree_attributes.specs.Sets.Order.{in_order}
use Rattle.tree_attributes.specs.Sets.Sets.{shapes_in}
use Rattle.laws_runs.specs.Resolved.Definitions.{key_at, key_of}
use Rattle.laws_runs.specs.Settings.Settled.{AllSettle}
use Rattle.laws_runs.specs.ByName.Evaluators.{IsKnown, RunPlace}
use Rattle.laws_runs.specs.ByName.Variables.{HasParameters, IsParameter, IsVariable}
use Rattle.laws_runs.proofs.ByName.Variables.{expression_known}
use Rattle.laws_runs.specs.Running.Entered.{IsEnteredIn}
use Rattle.laws_runs.specs.Running.Steps.{RestsOn}
use Rattle.laws_runs.proofs.Running.Steps.Modules.{IsViewOf, settings_are, view}
use Rattle.laws_runs.proofs.Running.Steps.Names.{IsRight, constant_reads, each_into, number_named, number_of_none, parameter_above, parameter_apart, right_numbers, variable_reads}
use Rattle.laws_runs.proofs.Running.Steps.Places.{apart, distinct, in_there, numbers_apart, row_at_place, row_back, run_place}
use Rattle.laws_runs.proofs.Running.Steps.Sites.{own_body, row}
use Rattle.laws_runs.proofs.Running.Steps.Standing.{Stands, reads_many}
use Rattle.laws_runs.proofs.Running.Steps.Variables.{IsOfName, IsOfNone, variable_case}

-- ---- the place of a name

pub position_named : (i : ℕ) (names : List Text) (k : ℕ) (x : Text) → slice_get names k ≡ Some x → ((j : ℕ) → slice_get names j ≡ Some x → j ≡ k) → position_from (bytes_eq x) i names ≡ Some (i + k)
position_named i [] k x e only = absurd (none-some x e)
position_named i (y ∷ names) zero x e only =
    let n : i ≡ i + 0 = omega arith in
    ap (λ b. cond b (Some i) (position_from (bytes_eq x) (i + 1) names)) ((bytes_eq-Decides x y).1 (sym (same_Some y x e))) ∙ ap (λ m. Some m) n
position_named i (y ∷ names) (suc k) x e only =
    let n : (i + 1) + k ≡ i + suc k = omega arith in
    ap (λ b. cond b (Some i) (position_from (bytes_eq x) (i + 1) names)) (differs (bytes_eq x y) refl)
    ∙ position_named (i + 1) names k x e (λ j f. let s : suc j ≡ suc k = only (suc j) f in omega (arith, s))
    ∙ ap (λ m. Some m) n
  where
    differs : (b : Bool) → bytes_eq x y ≡ b → bytes_eq x y ≡ false
    differs true is = let s : zero ≡ suc k = only zero (ap (λ t. Some t) (sym ((bytes_eq-Decides x y).0 is))) in absurd (omega (arith, s))
    differs false is = is

pub position_none : (i : ℕ) (names : List Text) (x : Text) → ((j : ℕ) → slice_get names j ≡ Some x → ⊥) → position_from (bytes_eq x) i names ≡ None
position_none i [] x none = refl
position_none i (y ∷ names) x none = ap (λ b. cond b (Some i) (position_from (bytes_eq x) (i + 1) names)) (differs (bytes_eq x y) refl) ∙ position_none (i + 1) names x (λ j f. none (suc j) f)
  where
    differs : (b : Bool) → bytes_eq x y ≡ b → bytes_eq x y ≡ false
    differs true is = absurd (none zero (ap (λ t. Some t) (sym ((bytes_eq-Decides x y).0 is))))
    differs false is = is

-- the recipe of an item
same_recipe : (o : Option Item) (q r : Recipe UnresolvedDependency) → o ≡ Some (RecipeItem q) → o ≡ Some (RecipeItem r) → q ≡ r
same_recipe o q r e f = let items : RecipeItem q ≡ RecipeItem r = same_Some (RecipeItem q) (RecipeItem r) (sym e ∙ f) in cc items

module _ (w : World) (compilation : Compilation) (given : List Override) (base : Text) (analysis : Analysis) (settled : AllSettle w (overrides_of given) compilation analysis.values.value.settings.items) (config : Config) (root_key : List ℕ)
    (called : List ℕ) (is_read : ℕ → Bool) (runner : Runner) (opened : List Opened) (rests : RestsOn w compilation given base analysis settled config root_key called is_read runner opened)
    (rank : ℕ) (s : Stands w compilation given base analysis settled config root_key called is_read runner opened rests rank) where
  abbrev parameters : List Parameter
  parameters = s.planned.recipe.now.parameters.items

  abbrev all : List (Text × ℕ)
  all = map parameter_number parameters

  abbrev numbers : List ℕ
  numbers = map (λ formal. formal.number) (map formal_of parameters)

  abbrev others : List (List BoundRow)
  others = s.context.scope.now.own ∷ s.alike.constants ∷ []

  pub viewed : IsViewOf w compilation given base analysis settled config root_key called is_read runner opened rests s.resolved.module s.node s.context
  viewed = view w compilation given base analysis settled config root_key called is_read runner opened rests rank s

  abbrev pub IsBoundNumber : ℕ → Type 0
  IsBoundNumber = IsConstantOrRead viewed.seen.lists is_read

  -- what the recipe's expressions name is known, where it runs
  pub names_are_known : Runs analysis.table.value.recipes.items config.no_dependencies called rank → ExpressionsKnown s.context IsBoundNumber s.planned.recipe.now
  names_are_known runs =
      let known = table_recipes_are_known analysis.values.value.overrides w compilation rests.numbered analysis.variables rests.known.is_known.variables_are analysis.table.value rests.known.recipes_are rank s.resolved s.here in
      let lt = slice_get_within compilation.modules.items s.resolved.module s.node s.home in
      let many = reads_many w compilation given base analysis settled config root_key called is_read runner opened rests in
      let reads = there_within analysis.variables.reads.items s.resolved.module (omega (arith, lt, many)) in
      subst (ExpressionsKnown s.context IsBoundNumber) (same_recipe (item_at compilation s.resolved.place) known.written s.planned.recipe.now known.there s.is_planned.recipe)
      (known.known s.context viewed.seen reads.0 reads.1 is_read (rests.reads rank s.resolved s.here runs viewed.seen.lists reads.0 viewed.seen.lists_there reads.1))

  pub names_at : (j : ℕ) (x : Text) → slice_get (parameter_names (row w compilation given base analysis settled config root_key called is_read runner opened rests rank s)) j ≡ Some x
      → (p : Parameter) × (slice_get parameters j ≡ Some p) × (lexeme p.name.token ≡ x)
  names_at j x e =
      let a = mapped_at (λ (q : ParameterRow). q.name) (row w compilation given base analysis settled config root_key called is_read runner opened rests rank s).parameters j x e in
      let b = row_back w compilation given base analysis settled config root_key called is_read runner opened rests rank s j a.0 a.1 in
      (b.0, b.1, ap (λ (q : ParameterRow). q.name) b.2 ∙ a.2)

  pub name_there : (j : ℕ) (p : Parameter) → slice_get parameters j ≡ Some p → slice_get (parameter_names (row w compilation given base analysis settled config root_key called is_read runner opened rests rank s)) j ≡ Some (lexeme p.name.token)
  name_there j p e = mapped (λ (q : ParameterRow). q.name) (row w compilation given base analysis settled config root_key called is_read runner opened rests rank s).parameters j _
      (row_at_place w compilation given base analysis settled config root_key called is_read runner opened rests rank s j p e)

  module _ (flag : Bool) (entered : EnteredRow) (bound : Bound) (is : IsEnteredIn s.planned s.context entered bound) (reached : DefinedFunction → Bool) where
    abbrev pub body_here : NamedBody
    body_here = own_body w compilation given base analysis settled config root_key called is_read runner opened rests rank s flag bound (reading_in s.o.values)

    abbrev pub place_here : RunPlace
    place_here = run_place w compilation given base analysis settled config root_key called is_read runner opened rests rank s entered bound is flag (reading_in s.o.values) reached

    -- the parameters are in the frame where the body stands
    pub has_parameters : HasParameters body_here place_here numbers entered.frames.own others
    has_parameters = record {
      parameters = record {
        distinct = distinct parameters (numbers_apart w compilation given base analysis settled config root_key called is_read runner opened rests rank s);
        count = length-map (map formal_of parameters) (λ formal. formal.number) ∙ length-map parameters formal_of ∙ sym (names_many);
      };
      count = is.count ∙ sym (length-map (map formal_of parameters) (λ formal. formal.number) ∙ length-map parameters formal_of);
      nothing = record { at = λ number. refl };
      lies = ap (λ fs. entered.frames.own ∷ fs) (is.outer ∙ ap (λ o. s.context.scope.now.own ∷ o) s.alike.outer);
      values = subst (λ b. HasValues entered.frames.own (with_parameters empty numbers (map (bound_value b) bound.values))) (sym (settings_are
          w compilation given base analysis settled config root_key called is_read runner opened rests rank s).lists) is.is.parameters.has;
    }
      where
        names_many : length (parameter_names (row w compilation given base analysis settled config root_key called is_read runner opened rests rank s)) ≡ length parameters
        names_many = length-map (row w compilation given base analysis settled config root_key called is_read runner opened rests rank s).parameters (λ (q : ParameterRow). q.name) ∙ length-map (map parameter_shape parameters)
            (parameter_row w.expansion (in_order (shapes_in s.planned.recipe.now.attributes))) ∙ length-map parameters parameter_shape

    module _ (x : Variable) (known : HasNumber (map (λ (p : Text × ℕ). p.1) all) x.number ⊎ IsNumbered IsBoundNumber x.number) (right : x.number ≡ option_or (last_named x.name all) (bindings_of compilation s.node x.name)) where
      unnamed : last_named x.name all ≡ None → numbered (parameter_names body_here.recipe) x.name ≡ None
      unnamed none =
          position_from-zero (bytes_eq x.name) (parameter_names body_here.recipe)
          ∙ position_none 0 (parameter_names body_here.recipe) x.name (λ j e.
          let p = names_at j x.name e in
          none_named x.name all none (contains_at (map (λ (q : Text × ℕ). q.0) all) j x.name (mapped (λ (q : Text × ℕ). q.0) all j (parameter_number p.0) (mapped parameter_number parameters j p.0 p.1) ∙ ap (λ t. Some t) p.2)))

      -- the numbers of parameters, as expressions see them
      among_numbers : (n : ℕ) → IsIn n (map (λ (p : Text × ℕ). p.1) all) → (j : ℕ) × (q : Parameter) × (slice_get parameters j ≡ Some q) × (n ≡ q.number)
      among_numbers n h = in_all parameters h
        where
          in_all : (ps : List Parameter) → IsIn n (map (λ (p : Text × ℕ). p.1) (map parameter_number ps)) → (j : ℕ) × (q : Parameter) × (slice_get ps j ≡ Some q) × (n ≡ q.number)
          in_all [] h = absurd h
          in_all (p ∷ ps) h = elim h [
            | inl e ↦ (zero, p, refl, e)
            | inr later ↦ let r = in_all ps later in (suc r.0, r.1, r.2, r.3)
          ]

      as_parameter : (m : ℕ) → last_named x.name all ≡ Some m → IsParameter (parameter_names body_here.recipe) numbers x
      as_parameter m last =
          let c = place_of all (x.name, m) (last_named_there x.name all m last) in
          let q = mapped_at parameter_number parameters c.0 (x.name, m) c.1 in
          let named = ap (λ (p : Text × ℕ). p.0) q.2 in
          let number = ap (λ (p : Text × ℕ). p.1) q.2 in
          let from_zero : 0 + c.0 ≡ c.0 = omega arith in
          record {
            place = c.0;
            number = m;
            named =
                position_from-zero (bytes_eq x.name) (parameter_names body_here.recipe)
                ∙ position_named 0 (parameter_names body_here.recipe) c.0 x.name (name_there c.0 q.0 q.1 ∙ ap (λ t. Some t) named)
                (λ j e. let p = names_at j x.name e in (apart w compilation given base analysis settled config root_key called is_read runner opened rests rank s).names j c.0 p.0 q.0 p.1 q.1 (p.2 ∙ sym named))
                ∙ ap (λ n. Some n) from_zero;
            has = right ∙ ap (λ o. option_or o (bindings_of compilation s.node x.name)) last;
            stands = mapped (λ formal. formal.number) (map formal_of parameters) c.0 (formal_of q.0) (mapped formal_of parameters c.0 q.0 q.1) ∙ ap (λ n. Some n) number;
          }

      module _ (none : last_named x.name all ≡ None) where
        of_variable : IsOfName w compilation given base analysis settled config root_key called is_read runner opened rests rank s x.name → IsVariable body_here place_here numbers others x
        of_variable c = inr (
          record {
            number = c.v.number;
            unnamed = unnamed none;
            has = has;
            apart = λ h. let q = in_there c.v.number parameters h in apart_from q.0 q.1 q.2 q.3;
          },
          ap (read_in (λ number. false) (record { own = []; outer = others }) x.name) has ∙ variable_reads w compilation given base analysis settled config root_key called is_read runner opened rests rank s x.name c (is_bound known),
        )
          where
            has : x.number ≡ Some c.v.number
            has = right ∙ ap₂ option_or none (ap (λ o. option_or o (constant_number x.name)) (number_named w compilation given base analysis settled config root_key called is_read runner opened rests rank s x.name c))

            apart_from : (j : ℕ) (q : Parameter) → slice_get parameters j ≡ Some q → c.v.number ≡ q.number → ⊥
            apart_from j q e same = parameter_apart w compilation given base analysis settled config root_key called is_read runner opened rests rank s j q e c.i c.v c.there (sym same)

            is_bound : HasNumber (map (λ (p : Text × ℕ). p.1) all) x.number ⊎ IsNumbered IsBoundNumber x.number → IsSome (look_up s.context.scope.now c.v.number)
            is_bound (inl h) = let q = among_numbers c.v.number (subst (HasNumber (map (λ (p : Text × ℕ). p.1) all)) has h) in absurd (apart_from q.0 q.1 q.2 q.3)
            is_bound (inr h) = rests.bound s.resolved.module s.context s.context_there viewed.seen c.v.number (subst (IsNumbered IsBoundNumber) has h)

        of_constant : IsOfNone w compilation given base analysis settled config root_key called is_read runner opened rests rank s x.name → (o : Option ℕ) → constant_number x.name ≡ o → IsVariable body_here place_here numbers others x
        of_constant c None e = absurd (no_number known)
          where
            has : x.number ≡ None
            has = right ∙ ap₂ option_or none (ap₂ option_or (number_of_none w compilation given base analysis settled config root_key called is_read runner opened rests rank s x.name c) e)

            no_number : HasNumber (map (λ (p : Text × ℕ). p.1) all) x.number ⊎ IsNumbered IsBoundNumber x.number → ⊥
            no_number (inl h) = subst (HasNumber (map (λ (p : Text × ℕ). p.1) all)) has h
            no_number (inr h) = subst (IsNumbered IsBoundNumber) has h
        of_constant c (Some m) e = inr (
          record {
            number = m;
            unnamed = unnamed none;
            has = has;
            apart = λ h.
                let q = in_there m parameters h in
                let above = parameter_above w compilation given base analysis settled config root_key called is_read runner opened rests rank s q.0 q.1 q.2 in
                let same = q.3 in
                let lt = (is_constant x.name m e).1 in
                omega (arith, above, same, lt);
          },
          ap (read_in (λ number. false) (record { own = []; outer = others }) x.name) has ∙ constant_reads w compilation given base analysis settled config root_key called is_read runner opened rests rank s x.name c m e,
        )
          where
            has : x.number ≡ Some m
            has = right ∙ ap₂ option_or none (ap₂ option_or (number_of_none w compilation given base analysis settled config root_key called is_read runner opened rests rank s x.name c) e)

      -- a variable of an expression behind the parameters is one of the body by name
      pub variable_is : IsVariable body_here place_here numbers others x
      variable_is = by_last (last_named x.name all) refl
        where
          by_last : (o : Option ℕ) → last_named x.name all ≡ o → IsVariable body_here place_here numbers others x
          by_last (Some m) last = inl (as_parameter m last)
          by_last None last = elim (variable_case w compilation given base analysis settled config root_key called is_read runner opened rests rank s x.name) [
            | inl c ↦ of_variable last c
            | inr c ↦ of_constant last c (constant_number x.name) refl
          ]

  -- the items of the recipe's file hold what their strings stand for
  pub cooked_there : (seen : Seen) → Contains (seen_in (RecipeItem s.planned.recipe.now)) seen → IsCooked (from_file (key_at compilation s.resolved.place) w.expansion) seen.expression
  cooked_there seen c = by_file (slice_get compilation.files.items s.resolved.place.file) refl s.is_planned.recipe
    where
      by_file : (o : Option File) → slice_get compilation.files.items s.resolved.place.file ≡ o → slice_get (items_of o) s.resolved.place.item ≡ Some (RecipeItem s.planned.recipe.now)
          → IsCooked (from_file (key_at compilation s.resolved.place) w.expansion) seen.expression
      by_file None e there = absurd (none-some (RecipeItem s.planned.recipe.now) there)
      by_file (Some file) e there =
          let items = rests.numbered.cooked s.resolved.place.file file e in
          let own = All-contains (AreSeenCooked (from_file file.key.now w.expansion)) file.ast.items.items (RecipeItem s.planned.recipe.now) items (contains_at file.ast.items.items s.resolved.place.item (RecipeItem s.planned.recipe.now) there) in
          subst (λ o. IsCooked (from_file (key_of o) w.expansion) seen.expression) (sym e) (All-contains (λ (x : Seen). IsCooked (from_file file.key.now w.expansion) x.expression) (seen_in (RecipeItem s.planned.recipe.now)) seen own c)

  module _ (runs : Runs analysis.table.value.recipes.items config.no_dependencies called rank) (flag : Bool) (entered : EnteredRow) (bound : Bound) (is : IsEnteredIn s.planned s.context entered bound) where
    abbrev pub is_reached : DefinedFunction → Bool
    is_reached = (names_are_known runs).reached

    -- an expression of the recipe behind its parameters is known by names
    pub is_known : (seen : Seen) → Contains (seen_in (RecipeItem s.planned.recipe.now)) seen → seen.parameters ≡ all → IsKnown (body_here flag entered bound is is_reached) (place_here flag entered bound is is_reached) seen.expression
    is_known seen c sees =
        let known = names_are_known runs in
        let item : IsItemOf compilation s.node (RecipeItem s.planned.recipe.now) = record { place = s.resolved.place; from = s.keeps.there.from; to = s.keeps.there.to; there = s.is_planned.recipe } in
        let b = body_here flag entered bound is is_reached in
        let p = place_here flag entered bound is is_reached in
        let calls : List ℕ → ℕ → Type 0 = λ name arguments. IsCallable (OneForEach (λ (f : DefinedFunction). known.reached f ≡ true)) (function_named name (functions_in s.context)) name arguments in
        expression_known b p numbers entered.frames.own others (has_parameters flag entered bound is is_reached) seen.expression (cooked_there seen c)
        (each_into
        (λ (x : Variable). HasNumber (map (λ (q : Text × ℕ). q.1) seen.parameters) x.number ⊎ IsNumbered IsBoundNumber x.number)
        (IsRight (bindings_of compilation s.node) seen (names_bound w compilation rests.numbered s.resolved.module s.node s.home (RecipeItem s.planned.recipe.now) item seen c))
        (IsVariable b p numbers others) calls AnyCall
        (λ x h r. variable_is flag entered bound is is_reached x
        (subst (λ ps. HasNumber (map (λ (q : Text × ℕ). q.1) ps) x.number ⊎ IsNumbered IsBoundNumber x.number) sees h)
        (subst (λ ps. x.number ≡ option_or (last_named x.name ps) (bindings_of compilation s.node x.name)) sees r))
        (term_of seen.expression) (known.names seen c) (right_numbers (bindings_of compilation s.node) seen (names_bound w compilation rests.numbered s.resolved.module s.node s.home (RecipeItem s.planned.recipe.now) item seen c)))
