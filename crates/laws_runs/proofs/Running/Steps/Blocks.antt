-- The calls that a block of dependencies brings about by places are those by names, of recipes that stand earlier and run.
use Rattle.std.proofs.Common.{◌≡◌, ◌<◌, ◌∙◌, sym, ap, ap₂, subst, refl, ℕ, Bool, true, false, List, [], ◌∷◌, ◌++◌, map, Ok}
use Rattle.std.specs.Prelude.{Contains, ◌||◌, not}
use Rattle.std.specs.List.{AllByRecursion, flat_map}
use Rattle.std.proofs.lemmas.List.{map-append}
use Rattle.std.proofs.lemmas.List.Elements.{Contains-append_left, Contains-append_right}
use Rattle.just_host.specs.declared.config.Config.{Config}
use Rattle.just_value.specs.declared.positional.Override.{Override}
use Rattle.tree_items.specs.Paths.{path_names}
use Rattle.tree_items.specs.Recipes.{ArgumentShape, argument_shapes, dependency_shapes}
use Rattle.tree_items.specs.declared.ast.Item.TheVariants.{Recipe as RecipeItem}
use Rattle.tree_items.specs.declared.recipe.DependencyArgument.{DependencyArgument}
use Rattle.tree_items.specs.declared.recipe.Recipe.{Recipe}
use Rattle.tree_items.specs.declared.recipe.UnresolvedDependency.{UnresolvedDependency}
use Rattle.modules_compilation.specs.declared.compilation.Compilation.{Compilation}
use Rattle.resolve_references.specs.Seen.{Seen, seeing, seen_in, seen_in_dependency}
use Rattle.resolve_analysis.specs.Opening.{Runs}
use Rattle.resolve_analysis.specs.declared.analysis.Analysis.{Analysis}
use Rattle.analyze_calls.specs.Around.{calls_unless, own_reading, own_stage, prior_calls, subsequent_calls}
use Rattle.analyze_calls.specs.Blocks as by_place
use Rattle.analyze_calls.specs.Blocks.{call_with}
use Rattle.analyze_calls.specs.Calls.{CallRow}
use Rattle.analyze_calls.specs.Entered.{EnteredRow}
use Rattle.analyze_calls.specs.Placed.{placed_in}
use Rattle.analyze_calls.specs.declared.plan.Runner.{Runner}
use Rattle.analyze_calls.specs.Runs.Steps.{any_from}
use Rattle.justfile_evaluator.specs.Bodies.{NamedBody}
use Rattle.meaning_dialogues.specs.Calls.{DefinedFunction}
use Rattle.meaning_dialogues.specs.Dialogue.{Dialogue, Ends, ◌>>=◌}
use Rattle.meaning_dialogues.specs.Evaluation.{Value, dialogues, row}
use Rattle.meaning_dialogues.specs.Terms.{terms_of}
use Rattle.meaning_dialogues.proofs.Dialogues.{goes_on, stops}
use Rattle.meaning_evaluation.specs.Stages.Parameters.{Bound}
use Rattle.meaning_rules.specs.Worlds.Given.{Text, World}
use Rattle.meaning_rules.proofs.Worlds.Places.{contains_first, contains_later}
use Rattle.meaning_rules.specs.Overrides.{overrides_of}
use Rattle.laws_names.proofs.Depending.Lists.{mapped_contains}
use Rattle.laws_names.proofs.Reading.Lists.{contains_flat}
use Rattle.meaning_evaluation.specs.Calling.{block_calls}
use Rattle.meaning_evaluation.specs.Groups as by_name
use Rattle.meaning_evaluation.specs.Groups.{call_of, each}
use Rattle.meaning_evaluation.specs.Named.{Call, Definitions, DependencyRow}
use Rattle.meaning_evaluation.specs.Scopes.{valued}
use Rattle.just_meaning.specs.Defining.{named_from}
use Rattle.just_meaning.specs.Opening.{Opened, reading_in}
use Rattle.laws_runs.specs.Settings.Settled.{AllSettle}
use Rattle.laws_runs.specs.Menus.Named.{name_at}
use Rattle.laws_runs.proofs.Menus.Lists.{less_true}
use Rattle.laws_runs.specs.ByName.Evaluators.{HasPlace, IsKnown, RunPlace, by_number}
use Rattle.laws_runs.proofs.ByName.Goes.{EachGoesAs, row_goes_as}
use Rattle.laws_runs.proofs.ByName.Lines.{expression_goes, run}
use Rattle.laws_runs.specs.Running.Entered.{IsEnteredIn}
use Rattle.laws_runs.specs.Running.Steps.{IsRunning, RestsOn, defined, named}
use Rattle.laws_runs.proofs.Running.Steps.Expressions.{body_here, is_known, is_reached, place_here}
use Rattle.laws_runs.proofs.Running.Steps.Groups.{call_same, rows_same}
use Rattle.laws_runs.proofs.Running.Steps.Known.{has_functions}
use Rattle.laws_runs.proofs.Running.Steps.Leading.{GoesBy, ends_by, goes_as, then_by}
use Rattle.laws_runs.proofs.Running.Steps.Lines.{every, of_attributes, of_lines, of_parameters, of_priors, of_subsequents}
use Rattle.laws_runs.proofs.Running.Steps.Modules.{at, has_config}
use Rattle.laws_runs.proofs.Running.Steps.Needs.{LeadTo, earlier, priors_lead, runs_on, subsequents_lead}
use Rattle.laws_runs.proofs.Running.Steps.Places.{has_place}
use Rattle.laws_runs.proofs.Running.Steps.Standing.{Stands, called_so, placed, ranked, stands}

-- ---- the expressions of dependencies

module _ (r : Recipe UnresolvedDependency) where
  pub of_prior : (d : UnresolvedDependency) → Contains r.priors.items d → (seen : Seen) → Contains (seen_in_dependency (every r) d) seen → Contains (seen_in (RecipeItem r)) seen
  of_prior d c seen e =
      Contains-append_left (((of_attributes r ++ of_parameters r) ++ of_priors r) ++ of_subsequents r) (of_lines r) seen
      (Contains-append_left ((of_attributes r ++ of_parameters r) ++ of_priors r) (of_subsequents r) seen
      (Contains-append_right (of_attributes r ++ of_parameters r) (of_priors r) seen
      (contains_flat (seen_in_dependency (every r)) r.priors.items d seen c e)))

  pub of_subsequent : (d : UnresolvedDependency) → Contains r.subsequents.items d → (seen : Seen) → Contains (seen_in_dependency (every r) d) seen → Contains (seen_in (RecipeItem r)) seen
  of_subsequent d c seen e =
      Contains-append_left (((of_attributes r ++ of_parameters r) ++ of_priors r) ++ of_subsequents r) (of_lines r) seen
      (Contains-append_right ((of_attributes r ++ of_parameters r) ++ of_priors r) (of_subsequents r) seen
      (contains_flat (seen_in_dependency (every r)) r.subsequents.items d seen c e))

module _ (w : World) (compilation : Compilation) (given : List Override) (base : Text) (analysis : Analysis) (settled : AllSettle w (overrides_of given) compilation analysis.values.value.settings.items) (config : Config) (root_key : List ℕ)
    (called : List ℕ) (is_read : ℕ → Bool) (runner : Runner) (opened : List Opened) (rests : RestsOn w compilation given base analysis settled config root_key called is_read runner opened)
    (rank : ℕ) (s : Stands w compilation given base analysis settled config root_key called is_read runner opened rests rank)
    (runs : Runs analysis.table.value.recipes.items config.no_dependencies called rank) (flag : Bool) (entered : EnteredRow) (bound : Bound) (is : IsEnteredIn s.planned s.context entered bound) where
  abbrev recipe : Recipe UnresolvedDependency
  recipe = s.planned.recipe.now

  abbrev reached : DefinedFunction → Bool
  reached = is_reached w compilation given base analysis settled config root_key called is_read runner opened rests rank s runs flag entered bound is

  abbrev pub body_now : NamedBody
  body_now = body_here w compilation given base analysis settled config root_key called is_read runner opened rests rank s flag entered bound is reached

  abbrev pub place_now : RunPlace
  place_now = place_here w compilation given base analysis settled config root_key called is_read runner opened rests rank s flag entered bound is reached

  pub stands_there : HasPlace body_now place_now
  stands_there = has_place w compilation given base analysis settled config root_key called is_read runner opened rests rank s entered bound is flag (reading_in s.o.values) reached

  abbrev valued_here : ArgumentShape → Dialogue Value
  valued_here argument = valued body_now.configuration body_now.scene body_now.name body_now.recipe body_now.flag body_now.bound argument.expression

  abbrev by_names : Definitions
  by_names = defined w compilation given base analysis settled config root_key

  -- ---- arguments

  abbrev AreKnown : List DependencyArgument → Type 0
  AreKnown arguments = (a : DependencyArgument) → Contains arguments a → IsKnown body_now place_now a.expression

  arguments_go : (arguments : List DependencyArgument) → AreKnown arguments
      → EachGoesAs (by_number body_now place_now) body_now.reading (dialogues (run body_now place_now) (terms_of (map (λ a. a.expression) arguments))) (map valued_here (argument_shapes arguments))
  arguments_go [] known = tt
  arguments_go (a ∷ arguments) known = (
    expression_goes body_now place_now stands_there (has_functions w compilation given base analysis settled config root_key called is_read runner opened rests rank s runs flag entered bound is) a.expression
        (known a (contains_first a arguments)),
    arguments_go arguments (λ x c. known x (contains_later a arguments x c)),
  )

  -- ---- what is brought about

  abbrev IsBrought : CallRow → Type 0
  IsBrought call = (call.recipe < rank) × IsRunning w compilation given base analysis settled config root_key called call

  -- the calls have these names, and are of recipes that stand earlier and run
  pub record AreBrought (calls : List CallRow) (names : List Call) : Type 0 where
    pub are_named : map (named w compilation given base analysis settled config root_key) calls ≡ names
    pub each_one : AllByRecursion IsBrought calls

  all_append : (calls others : List CallRow) → AllByRecursion IsBrought calls → AllByRecursion IsBrought others → AllByRecursion IsBrought (calls ++ others)
  all_append [] others h g = g
  all_append (c ∷ calls) others h g = (h.0, all_append calls others h.1 g)

  -- none of them is of a recipe from here on
  pub none_from : (calls : List CallRow) → AllByRecursion IsBrought calls → any_from rank calls ≡ false
  none_from [] h = refl
  none_from (c ∷ calls) h = ap₂ (λ a b. a || b) (ap not (less_true c.recipe rank h.0.0)) (none_from calls h.1)

  -- they run
  pub all_running : (calls : List CallRow) → AllByRecursion IsBrought calls → AllByRecursion (IsRunning w compilation given base analysis settled config root_key called) calls
  all_running [] h = tt
  all_running (c ∷ calls) h = (h.0.1, all_running calls h.1)

  -- ---- one dependency

  module _ (d : UnresolvedDependency) (n : ℕ) (leads : name_at compilation analysis.table.value n ≡ named_from (at w compilation given base analysis settled config root_key called is_read runner opened rests rank s)
      (path_names d.recipe)) (lt : n < rank)
      (going : Runs analysis.table.value.recipes.items config.no_dependencies called n) (known : AreKnown d.arguments.items) where
    t : Stands w compilation given base analysis settled config root_key called is_read runner opened rests n
    t = stands w compilation given base analysis settled config root_key called is_read runner opened rests n (ranked w compilation given base analysis settled config root_key called is_read runner opened rests n going)

    abbrev row_here : DependencyRow
    row_here = record { on = named_from (at w compilation given base analysis settled config root_key called is_read runner opened rests rank s) (path_names d.recipe); arguments = argument_shapes d.arguments.items }

    calls_named : (rows : List (List Value)) → map (named w compilation given base analysis settled config root_key) (map (call_with n t.planned.recipe.now.parameters.items) rows) ≡ map (call_of by_names row_here.on) rows
    calls_named [] = refl
    calls_named (r ∷ rows) =
        ap₂ (λ c cs. c ∷ cs) (call_same w compilation given base analysis settled config root_key called is_read runner opened rests n t r ∙ ap (λ name. call_of by_names name r)
        (sym (called_so w compilation given base analysis settled config root_key called is_read runner opened rests n t) ∙ leads)) (calls_named rows)

    all_earlier : (rows : List (List Value)) → AllByRecursion IsBrought (map (call_with n t.planned.recipe.now.parameters.items) rows)
    all_earlier [] = tt
    all_earlier (r ∷ rows) = ((lt, going), all_earlier rows)

    brings_go : GoesBy (by_number body_now place_now) body_now.reading AreBrought (by_place.brings_at (run body_now place_now) n (placed_in runner n) d.arguments.items) (by_name.brings by_names valued_here row_here)
    brings_go =
        subst (λ o. GoesBy (by_number body_now place_now) body_now.reading AreBrought (by_place.brings_at (run body_now place_now) n o d.arguments.items) (by_name.brings by_names valued_here row_here))
        (sym (placed w compilation given base analysis settled config root_key called is_read runner opened rests n t))
        (then_by (by_number body_now place_now) body_now.reading (λ (a b : List Value). a ≡ b) AreBrought
        (by_place.values_of (run body_now place_now) d.arguments.items) (row (map valued_here (argument_shapes d.arguments.items))) _ _
        (goes_as (by_number body_now place_now) body_now.reading (by_place.values_of (run body_now place_now) d.arguments.items) (row (map valued_here (argument_shapes d.arguments.items)))
        (row_goes_as (by_number body_now place_now) body_now.reading (dialogues (run body_now place_now) (terms_of (map (λ a. a.expression) d.arguments.items))) (map valued_here (argument_shapes d.arguments.items))
        (arguments_go d.arguments.items known)))
        (λ values others same. ends_by (by_number body_now place_now) body_now.reading AreBrought
        (map (call_with n t.planned.recipe.now.parameters.items) (by_place.rows_of d.arguments.items values)) (map (call_of by_names row_here.on) (by_name.rows_of (argument_shapes d.arguments.items) others))
        (record {
          are_named = calls_named (by_place.rows_of d.arguments.items values) ∙ ap (map (call_of by_names row_here.on)) (rows_same d.arguments.items values ∙ ap (by_name.rows_of (argument_shapes d.arguments.items)) same);
          each_one = all_earlier (by_place.rows_of d.arguments.items values);
        })))

  -- ---- a block

  abbrev row_of : UnresolvedDependency → DependencyRow
  row_of d = record { on = named_from (at w compilation given base analysis settled config root_key called is_read runner opened rests rank s) (path_names d.recipe); arguments = argument_shapes d.arguments.items }

  rows_here : (ds : List UnresolvedDependency) → map (λ d. let row : DependencyRow = record {
    on = named_from (at w compilation given base analysis settled config root_key called is_read runner opened rests rank s) d.path;
    arguments =
        d.arguments;
  } in row) (dependency_shapes ds) ≡ map row_of ds
  rows_here [] = refl
  rows_here (d ∷ ds) = ap (λ l. row_of d ∷ l) (rows_here ds)

  block_go : (ds : List UnresolvedDependency) (ns : List ℕ) → LeadTo w compilation given base analysis settled config root_key called is_read runner opened rests
      (at w compilation given base analysis settled config root_key called is_read runner opened rests rank s) ds ns → ((n : ℕ) → Contains ns n → (n < rank) × Runs analysis.table.value.recipes.items config.no_dependencies called n)
      → ((d : UnresolvedDependency) → Contains ds d → AreKnown d.arguments.items)
      → GoesBy (by_number body_now place_now) body_now.reading (λ calls lists. AreBrought calls (flat_map (λ cs. cs) lists)) (by_place.block runner (run body_now place_now) ds ns) (each (map (by_name.brings by_names valued_here) (map row_of ds)))
  block_go [] [] lead there known = ends_by (by_number body_now place_now) body_now.reading (λ calls lists. AreBrought calls (flat_map (λ cs. cs) lists)) [] [] (record { are_named = refl; each_one = tt })
  block_go [] (n ∷ ns) lead there known = absurd lead
  block_go (d ∷ ds) [] lead there known = absurd lead
  block_go (d ∷ ds) (n ∷ ns) lead there known =
      let here = there n (contains_first n ns) in
      then_by (by_number body_now place_now) body_now.reading AreBrought (λ calls lists. AreBrought calls (flat_map (λ cs. cs) lists)) _ _ _ _
      (brings_go d n lead.0 here.0 here.1 (known d (contains_first d ds)))
      (λ calls names one. then_by (by_number body_now place_now) body_now.reading (λ calls lists. AreBrought calls (flat_map (λ cs. cs) lists)) (λ calls lists. AreBrought calls (flat_map (λ cs. cs) lists)) _ _ _ _
      (block_go ds ns lead.1 (λ m c. there m (contains_later n ns m c)) (λ x c. known x (contains_later d ds x c)))
      (λ others lists more. ends_by (by_number body_now place_now) body_now.reading (λ calls lists. AreBrought calls (flat_map (λ cs. cs) lists)) (calls ++ others) (names ∷ lists)
      (record { are_named = map-append (named w compilation given base analysis settled config root_key) calls others ∙ ap₂ ◌++◌ one.are_named more.are_named; each_one = all_append calls others one.each_one more.each_one })))

  -- where what is brought about is joined
  joined_go : (t : Dialogue (List CallRow)) (u : Dialogue (List (List Call))) → GoesBy (by_number body_now place_now) body_now.reading (λ calls lists. AreBrought calls (flat_map (λ cs. cs) lists)) t u
      → GoesBy (by_number body_now place_now) body_now.reading AreBrought t (u >>= λ lists. Ends (Ok (flat_map (λ cs. cs) lists)))
  joined_go t u h = record {
    on = λ old new calls e.
        let one = h.on old new calls e in
        (flat_map (λ cs. cs) one.0, goes_on body_now.reading u (λ lists. Ends (Ok (flat_map (λ cs. cs) lists))) old new new one.0 (Ok (flat_map (λ cs. cs) one.0)) one.1 (refl, refl), one.2);
    stop = λ old new fault e. stops body_now.reading u (λ lists. Ends (Ok (flat_map (λ cs. cs) lists))) old new fault (h.stop old new fault e);
  }

  -- a block where dependencies run, and where they don't
  unless_go : (off : Bool) (ds : List UnresolvedDependency) (ns : List ℕ) → (off ≡ false → GoesBy (by_number body_now place_now) body_now.reading (λ calls lists. AreBrought calls (flat_map (λ cs. cs) lists))
      (by_place.block runner (run body_now place_now) ds ns) (each (map (by_name.brings by_names valued_here) (map row_of ds))))
      → GoesBy (by_number body_now place_now) body_now.reading AreBrought (calls_unless off (by_place.block runner (run body_now place_now) ds ns)) (by_name.block off by_names valued_here (map row_of ds))
  unless_go true ds ns h = ends_by (by_number body_now place_now) body_now.reading AreBrought [] [] (record { are_named = refl; each_one = tt })
  unless_go false ds ns h = joined_go (by_place.block runner (run body_now place_now) ds ns) (each (map (by_name.brings by_names valued_here) (map row_of ds))) (h refl)

  argument_seen : (d : UnresolvedDependency) (a : DependencyArgument) → Contains d.arguments.items a → Contains (seen_in_dependency (every recipe) d) (seeing (every recipe) a.expression)
  argument_seen d a c = mapped_contains (λ (y : DependencyArgument). seeing (every recipe) y.expression) d.arguments.items a c

  -- the calls before its body, by places and by names
  pub priors_go : GoesBy (own_reading s.planned s.context flag entered) body_now.reading AreBrought (prior_calls runner s.planned s.context.config.now (own_stage s.planned s.context flag entered))
      (block_calls body_now.configuration body_now.scene body_now.name body_now.recipe body_now.flag by_names bound body_now.recipe.priors)
  priors_go =
      subst (λ (c : Config). GoesBy (by_number body_now place_now) body_now.reading AreBrought (calls_unless c.no_dependencies (by_place.block runner (run body_now place_now) ds ns))
      (by_name.block config.no_dependencies by_names valued_here body_now.recipe.priors)) (sym (has_config w compilation given base analysis settled config root_key called is_read runner opened rests rank s))
      (subst (λ rows. GoesBy (by_number body_now place_now) body_now.reading AreBrought (calls_unless config.no_dependencies (by_place.block runner (run body_now place_now) ds ns))
      (by_name.block config.no_dependencies by_names valued_here rows)) (sym (rows_here ds))
      (unless_go config.no_dependencies ds ns (λ off. block_go ds ns (priors_lead w compilation given base analysis settled config root_key called is_read runner opened rests rank s)
      (λ n c. let d = Contains-append_left s.planned.priors.now s.planned.subsequents.now n c in (
        earlier w compilation given base analysis settled config root_key called is_read runner opened rests rank s n d,
        runs_on
            w compilation given base analysis settled config root_key called is_read runner opened rests rank s off runs n d,
      ))
      (λ d c a e. is_known w compilation given base analysis settled config root_key called is_read runner opened rests rank s runs flag entered bound is (seeing (every recipe) a.expression)
      (of_prior recipe d c (seeing (every recipe) a.expression) (argument_seen d a e)) refl))))
    where
      ds : List UnresolvedDependency
      ds = recipe.priors.items

      ns : List ℕ
      ns = s.planned.priors.now

  -- and those after it
  pub subsequents_go : GoesBy (own_reading s.planned s.context flag entered) body_now.reading AreBrought (subsequent_calls runner s.planned s.context.config.now (own_stage s.planned s.context flag entered))
      (block_calls body_now.configuration body_now.scene body_now.name body_now.recipe body_now.flag by_names bound body_now.recipe.subsequents)
  subsequents_go =
      subst (λ (c : Config). GoesBy (by_number body_now place_now) body_now.reading AreBrought (calls_unless c.no_dependencies (by_place.block runner (run body_now place_now) ds ns))
      (by_name.block config.no_dependencies by_names valued_here body_now.recipe.subsequents)) (sym (has_config w compilation given base analysis settled config root_key called is_read runner opened rests rank s))
      (subst (λ rows. GoesBy (by_number body_now place_now) body_now.reading AreBrought (calls_unless config.no_dependencies (by_place.block runner (run body_now place_now) ds ns))
      (by_name.block config.no_dependencies by_names valued_here rows)) (sym (rows_here ds))
      (unless_go config.no_dependencies ds ns (λ off. block_go ds ns (subsequents_lead w compilation given base analysis settled config root_key called is_read runner opened rests rank s)
      (λ n c. let d = Contains-append_right s.planned.priors.now s.planned.subsequents.now n c in (
        earlier w compilation given base analysis settled config root_key called is_read runner opened rests rank s n d,
        runs_on
            w compilation given base analysis settled config root_key called is_read runner opened rests rank s off runs n d,
      ))
      (λ d c a e. is_known w compilation given base analysis settled config root_key called is_read runner opened rests rank s runs flag entered bound is (seeing (every recipe) a.expression)
      (of_subsequent recipe d c (seeing (every recipe) a.expression) (argument_seen d a e)) refl))))
    where
      ds : List UnresolvedDependency
      ds = recipe.subsequents.items

      ns : List ℕ
      ns = s.planned.subsequents.now
