-- The expressions of a recipe that are evaluated before its parameters are bound read alike by numbers and by names.
use Rattle.std.proofs.Common.{◌≡◌, ◌⊎◌, subst, ℕ, ◌-◌, Bool, true, List, [], map, Option, Some}
use Rattle.std.specs.Prelude.{Contains}
use Rattle.std.specs.Option.{option_or}
use Rattle.just_text.specs.Tokens.{lexeme}
use Rattle.just_host.specs.declared.config.Config.{Config}
use Rattle.just_host.specs.declared.job.Pair.{Pair}
use Rattle.just_value.specs.declared.positional.Override.{Override}
use Rattle.tree_expressions.specs.Shape.{shape_of}
use Rattle.tree_items.specs.Contexts.{last_named}
use Rattle.tree_items.specs.declared.ast.Item.TheVariants.{Recipe as RecipeItem}
use Rattle.parse_expressions.specs.Literals.{from_file}
use Rattle.modules_compilation.specs.declared.compilation.Compilation.{Compilation}
use Rattle.evaluate_context.specs.Surroundings.{standing_in, surroundings_of}
use Rattle.evaluate_expressions.specs.Situations.{around_body, functions_in}
use Rattle.evaluate_variables.specs.Given.{stage_with}
use Rattle.resolve_references.specs.Seen.{Seen, seen_in}
use Rattle.resolve_analysis.specs.Bound.{bindings_of}
use Rattle.resolve_analysis.specs.Opening.{Runs}
use Rattle.resolve_analysis.specs.declared.analysis.Analysis.{Analysis}
use Rattle.analyze_calls.specs.Entered.{inside}
use Rattle.analyze_calls.specs.declared.plan.Runner.{Runner}
use Rattle.meaning_dialogues.specs.Calls.{DefinedFunction, function_named}
use Rattle.meaning_dialogues.specs.Dialogue.{Lookup, Reading, Variable, around, in_module}
use Rattle.meaning_dialogues.specs.Evaluation.{Stage, dialogue}
use Rattle.meaning_dialogues.specs.Terms.{Term, term_of}
use Rattle.meaning_dialogues.specs.Written.{term_in}
use Rattle.meaning_dialogues.proofs.Soundness.{Each}
use Rattle.laws_evaluation.proofs.Opening.Names.{AnyCall}
use Rattle.meaning_evaluation.specs.Parameters.Bindings.{run_reading}
use Rattle.meaning_evaluation.specs.Stages.Stages.{calls_left, run_stage}
use Rattle.meaning_evaluation.proofs.Stages.Depth.{HasNumber}
use Rattle.laws_evaluation.specs.Terms.Alike.{Alike}
use Rattle.laws_evaluation.specs.Terms.Renumbering.{renumbered}
use Rattle.laws_evaluation.proofs.Terms.Terms.{term_by_names}
use Rattle.laws_evaluation.specs.Soundness.Endings.{NotInternal}
use Rattle.laws_evaluation.specs.Soundness.Known.{IsBoundIn, IsCallable, OneForEach}
use Rattle.laws_evaluation.specs.Soundness.Opening.{IsNumbered}
use Rattle.laws_evaluation.proofs.Soundness.Frames.{names_read}
use Rattle.meaning_rules.specs.Worlds.Given.{Text, World}
use Rattle.meaning_rules.specs.Overrides.{overrides_of}
use Rattle.laws_names.specs.Reading.Places.{IsItemOf}
use Rattle.laws_names.proofs.Reading.Bindings.{bound_in as names_bound}
use Rattle.meaning_evaluation.specs.Scopes.{around as around_recipe, stage_at, standing}
use Rattle.just_meaning.specs.Opening.{Opened, reading_in}
use Rattle.laws_runs.specs.Resolved.Definitions.{key_at}
use Rattle.laws_runs.specs.Settings.Settled.{AllSettle}
use Rattle.laws_runs.proofs.ByName.Calls.{term_alike}
use Rattle.laws_runs.proofs.ByName.Goes.{alike_reading}
use Rattle.laws_runs.specs.Running.Steps.{RestsOn}
use Rattle.laws_runs.proofs.Running.Steps.Expressions.{IsBoundNumber, cooked_there, names_are_known}
use Rattle.laws_runs.proofs.Running.Steps.Functions.{functions_same}
use Rattle.laws_runs.proofs.Running.Steps.Known.{bodies_known, reached_here}
use Rattle.laws_runs.proofs.Running.Steps.Modules.{same_module}
use Rattle.laws_runs.proofs.Running.Steps.Names.{IsRight, each_into, right_numbers}
use Rattle.laws_runs.proofs.Running.Steps.Places.{module_place}
use Rattle.laws_runs.proofs.Running.Steps.Sites.{configured_so, row, scene}
use Rattle.laws_runs.proofs.Running.Steps.Standing.{Stands}

module _ (w : World) (compilation : Compilation) (given : List Override) (base : Text) (analysis : Analysis) (settled : AllSettle w (overrides_of given) compilation analysis.values.value.settings.items) (config : Config) (root_key : List ℕ)
    (called : List ℕ) (is_read : ℕ → Bool) (runner : Runner) (opened : List Opened) (rests : RestsOn w compilation given base analysis settled config root_key called is_read runner opened)
    (rank : ℕ) (s : Stands w compilation given base analysis settled config root_key called is_read runner opened rests rank)
    (runs : Runs analysis.table.value.recipes.items config.no_dependencies called rank) (flag : Bool) where
  abbrev pub name_now : Text
  name_now = lexeme s.planned.recipe.now.name.token

  -- what variables give in an empty frame inside the module's, and by names
  abbrev pub by_numbers : Reading
  by_numbers = run_reading (inside s.context.scope.now) s.context.scope.now

  abbrev pub by_names : Reading
  by_names = reading_in s.o.values

  -- by which stages they are evaluated, with these pairs of attributes
  abbrev pub places_stage : List Pair → Stage
  places_stage env = stage_with s.context flag s.planned.recipe.now.name env (inside s.context.scope.now)

  abbrev pub names_stage : List Pair → Stage
  names_stage env = stage_at (configured_so w compilation given base analysis settled config root_key called is_read runner opened rests rank s)
      (scene w compilation given base analysis settled config root_key called is_read runner opened rests rank s) name_now (row w compilation given base analysis settled config root_key called is_read runner opened rests rank s) flag []
      env

  -- in the bodies of functions what is bound in the module gives the same
  abbrev pub Gives : (Variable → Variable → Type 0) → Lookup → Variable → Variable → Type 0
  Gives Around around x y = Around x y
  Gives Around in_module x y = IsBoundIn s.context.scope.now x.number → by_numbers in_module x ≡ by_names in_module y

  abbrev Reads : Lookup → Variable → Type 0
  Reads around x = Unit {0}
  Reads in_module x = IsBoundIn s.context.scope.now x.number

  abbrev pub Same : (Variable → Variable → Type 0) → Lookup → Variable → Variable → Type 0
  Same Around place x y = Gives Around place x y × Reads place x

  -- what is so of each variable of an expression that is seen with earlier parameters
  abbrev pub Sees : Seen → Variable → Type 0
  Sees seen x =
      (HasNumber (map (λ (p : Text × ℕ). p.1) seen.parameters) x.number ⊎ IsNumbered (IsBoundNumber w compilation given base analysis settled config root_key called is_read runner opened rests rank s) x.number)
      × (x.number ≡ option_or (last_named x.name seen.parameters) (bindings_of compilation s.node x.name))

  abbrev calls : List ℕ → ℕ → Type 0
  calls name arguments = IsCallable (OneForEach (λ (f : DefinedFunction). reached_here w compilation given base analysis settled config root_key called is_read runner opened rests rank s runs f ≡ true))
      (function_named name (functions_in s.context)) name arguments

  sees_all : (seen : Seen) → Contains (seen_in (RecipeItem s.planned.recipe.now)) seen → Each (Sees seen) calls (term_of seen.expression)
  sees_all seen c =
      let item : IsItemOf compilation s.node (RecipeItem s.planned.recipe.now) = record { place = s.resolved.place; from = s.keeps.there.from; to = s.keeps.there.to; there = s.is_planned.recipe } in
      let has = names_bound w compilation rests.numbered s.resolved.module s.node s.home (RecipeItem s.planned.recipe.now) item seen c in
      each_into
      (λ (x : Variable). HasNumber (map (λ (q : Text × ℕ). q.1) seen.parameters) x.number ⊎ IsNumbered (IsBoundNumber w compilation given base analysis settled config root_key called is_read runner opened rests rank s) x.number)
      (IsRight (bindings_of compilation s.node) seen has) (Sees seen) calls AnyCall (λ x h r. (h, r))
      (term_of seen.expression) ((names_are_known w compilation given base analysis settled config root_key called is_read runner opened rests rank s runs).names seen c) (right_numbers (bindings_of compilation s.node) seen has)

  abbrev written : (Text → Option ℕ) → Seen → Term
  written numbers seen = term_in w.expansion (key_at compilation s.resolved.place) numbers (shape_of seen.expression)

  abbrev names_by : ℕ → List Pair → Stage
  names_by limit env =
      run_stage (around_recipe (configured_so w compilation given base analysis settled config root_key called is_read runner opened rests rank s)
      (scene w compilation given base analysis settled config root_key called is_read runner opened rests rank s) name_now (row w compilation given base analysis settled config root_key called is_read runner opened rests rank s)
      flag) (scene w compilation given base analysis settled config root_key called is_read runner opened rests rank s).functions
      (standing (configured_so w compilation given base analysis settled config root_key called is_read runner opened rests rank s)
      (scene w compilation given base analysis settled config root_key called is_read runner opened rests rank s) name_now (row w compilation given base analysis settled config root_key called is_read runner opened rests rank s)
      flag [] env)
      (calls_left (around_recipe (configured_so w compilation given base analysis settled config root_key called is_read runner opened rests rank s)
      (scene w compilation given base analysis settled config root_key called is_read runner opened rests rank s) name_now (row w compilation given base analysis settled config root_key called is_read runner opened rests rank s)
      flag) (scene w compilation given base analysis settled config root_key called is_read runner opened rests rank s).functions
      (standing (configured_so w compilation given base analysis settled config root_key called is_read runner opened rests rank s)
      (scene w compilation given base analysis settled config root_key called is_read runner opened rests rank s) name_now (row w compilation given base analysis settled config root_key called is_read runner opened rests rank s)
      flag [] []) (limit - 1))

  module _ (Around : Variable → Variable → Type 0) (env : List Pair) (numbers : Text → Option ℕ) where
    renumbered_alike : (seen : Seen) → Contains (seen_in (RecipeItem s.planned.recipe.now)) seen → ((x : Variable) → Sees seen x → Around x (record { name = x.name; number = numbers x.name }))
        → Alike (Same Around) (dialogue (places_stage env) (term_of seen.expression)) (dialogue (names_by s.context.config.now.recursion_limit env) (renumbered numbers (term_of seen.expression)))
    renumbered_alike seen c up =
        alike_reading (Gives Around) Reads NotInternal (dialogue (places_stage env) (term_of seen.expression)) (dialogue (names_by s.context.config.now.recursion_limit env) (renumbered numbers (term_of seen.expression)))
        (term_alike (surroundings_of s.context) (around_recipe (configured_so w compilation given base analysis settled config root_key called is_read runner opened rests rank s)
        (scene w compilation given base analysis settled config root_key called is_read runner opened rests rank s) name_now (row w compilation given base analysis settled config root_key called is_read runner opened rests rank s)
        flag) (same_module w compilation given base analysis settled config root_key called is_read runner opened rests rank s)
        (standing_in s.context [] (around_body s.context.scope.now) flag (Some s.planned.recipe.now.name)) (standing (configured_so w compilation given base analysis settled config root_key called is_read runner opened rests rank s)
        (scene w compilation given base analysis settled config root_key called is_read runner opened rests rank s) name_now (row w compilation given base analysis settled config root_key called is_read runner opened rests rank s)
        flag [] []) (module_place w compilation given base analysis settled config root_key called is_read runner opened rests rank s flag [])
        (Gives Around) (functions_in s.context) (scene w compilation given base analysis settled config root_key called is_read runner opened rests rank s).functions
        (functions_same w compilation given base analysis settled config root_key called is_read runner opened rests rank s (Gives Around) (λ x y h. h)) (s.context.config.now.recursion_limit - 1) (Sees seen) calls numbers up
        (standing_in s.context env (inside s.context.scope.now) flag (Some s.planned.recipe.now.name)) (standing (configured_so w compilation given base analysis settled config root_key called is_read runner opened rests rank s)
        (scene w compilation given base analysis settled config root_key called is_read runner opened rests rank s) name_now (row w compilation given base analysis settled config root_key called is_read runner opened rests rank s)
        flag [] env) (module_place w compilation given base analysis settled config root_key called is_read runner opened rests rank s flag env) (term_of seen.expression) (sees_all seen c))
        (names_read (surroundings_of s.context) (functions_in s.context) (λ f. reached_here w compilation given base analysis settled config root_key called is_read runner opened rests rank s runs f ≡ true)
        (standing_in s.context [] (around_body s.context.scope.now) flag (Some s.planned.recipe.now.name))
        (standing_in s.context env (inside s.context.scope.now) flag (Some s.planned.recipe.now.name)) (s.context.config.now.recursion_limit - 1) (λ x. IsBoundIn s.context.scope.now x.number)
        (bodies_known w compilation given base analysis settled config root_key called is_read runner opened rests rank s runs) Reads (Sees seen)
        (λ x u. u) (λ x v. tt) (term_of seen.expression) (sees_all seen c))

    -- such an expression, whose variables correspond to those of their names
    pub seen_alike : (seen : Seen) → Contains (seen_in (RecipeItem s.planned.recipe.now)) seen → ((x : Variable) → Sees seen x → Around x (record { name = x.name; number = numbers x.name }))
        → Alike (Same Around) (dialogue (places_stage env) (term_of seen.expression)) (dialogue (names_stage env) (written numbers seen))
    seen_alike seen c up =
        subst (λ (limit : ℕ). Alike (Same Around) (dialogue (places_stage env) (term_of seen.expression)) (dialogue (names_by limit env) (written numbers seen)))
        (same_module w compilation given base analysis settled config root_key called is_read runner opened rests rank s).limit
        (subst (λ (t : Term). Alike (Same Around) (dialogue (places_stage env) (term_of seen.expression)) (dialogue (names_by s.context.config.now.recursion_limit env) t))
        (term_by_names (from_file (key_at compilation s.resolved.place) w.expansion) numbers seen.expression (cooked_there w compilation given base analysis settled config root_key called is_read runner opened rests rank s seen c))
        (renumbered_alike seen c up))
