-- A beginning of evaluating, or of a command, by places is one by names.
use Rattle.std.proofs.Common.{◌≡◌, ◌⊎◌, inl, inr, refl, sym, subst, true, List, [], ◌∷◌, map, length, Option, Some, None, Ok, ℕ}
use Rattle.std.specs.Prelude.{slice_get}
use Rattle.std.specs.Borrow.{Bor}
use Rattle.std.specs.Option.{option_map}
use Rattle.std.specs.String.{string_bytes}
use Rattle.just_host.specs.declared.config.Config.{Config}
use Rattle.just_host.specs.declared.entry.Entry.{Entry}
use Rattle.just_value.specs.declared.positional.Override.{Override}
use Rattle.evaluate_context.specs.declared.context.ExecutionContext.{ExecutionContext}
use Rattle.evaluate_context.specs.declared.context.ModuleView.{ModuleView}
use Rattle.modules_compilation.specs.declared.compilation.Compilation.{Compilation}
use Rattle.resolve_analysis.specs.Views.{seen, views_of}
use Rattle.resolve_analysis.specs.declared.analysis.Analysis.{Analysis}
use Rattle.just_resolve.specs.Analysis.{IsAnalysis}
use Rattle.just_resolve.specs.Rules.{IsResolvable}
use Rattle.analyze_calls.specs.declared.plan.Planned.{Planned}
use Rattle.justfile_analyzer.specs.declared.target.EvaluationTarget.{EvaluationTarget}
use Rattle.run_tasks.specs.Begun as tasks
use Rattle.run_tasks.specs.Performed.{HandsInRoot, TaskEnd}
use Rattle.run_tasks.specs.declared.task.Task.{Task}
use Rattle.run_tasks.specs.declared.task.Task.TheVariants.{Command, Evaluate}
use Rattle.run_tasks.specs.declared.task.TaskContext.{TaskContext}
use Rattle.run_tasks.specs.Prepared.Begun.{BeginsIn, begins_in, begins_of, nothing_in, nothing_of}
use Rattle.run_tasks.specs.Prepared.Performed.{IsPreparedFor}
use Rattle.run_tasks.specs.Prepared.Planned.{ArePlanned}
use Rattle.meaning_rules.specs.Worlds.Given.{Given, Text, World}
use Rattle.meaning_rules.specs.Worlds.Standing.{StandsFor}
use Rattle.meaning_rules.specs.Overrides.{overrides_of}
use Rattle.meaning_evaluation.specs.Named.{Definitions, VariableName}
use Rattle.meaning_evaluation.specs.Scopes.{Configuration}
use Rattle.just_meaning.specs.Begun.{AllBegin, BeginsCommand, BeginsEvaluate, before_it, later_begins, none_begins, with_it}
use Rattle.just_meaning.specs.Opening.{Opened, OpensAll}
use Rattle.just_meaning.specs.Opening as named
use Rattle.laws_runs.specs.Settings.Settled.{AllSettle}
use Rattle.just_meaning.specs.Configured.{configuration_of}
use Rattle.laws_runs.specs.Running.Begun.{CommandsBeginNamed, EvaluationsBeginNamed}
use Rattle.laws_runs.specs.Running.Opened.{BeginsNamed}
use Rattle.laws_runs.specs.Running.Openings.{CalledAreThere}
use Rattle.laws_runs.specs.Running.Steps.{defined}
use Rattle.laws_runs.proofs.Running.Running.Commanding.{commanded, root_open}
use Rattle.laws_runs.proofs.Running.Running.Opened.{AreOpenFor, by_names}

-- what all modules opened with is a beginning of it
pub all_opened : {c : Configuration} {definitions : Definitions} {Open : VariableName → Type 0} {paths : List (List Text)} {old new : List Entry} {os : List Opened}
    → OpensAll c definitions Open paths old new (Ok os) → AllBegin c definitions Open paths old new
all_opened named.none_left = none_begins
all_opened (named.one_more one rest) = later_begins one (all_opened rest)

module _ (source : Given) (w : World) (compilation : Compilation) (stands : StandsFor source w) (resolvable : IsResolvable w compilation) (given : List Override) (analysis : Analysis)
    (settled : AllSettle w (overrides_of given) compilation analysis.values.value.settings.items) (task : Task) (context : TaskContext) where
  abbrev BeginsByName : List Entry → List Entry → Type 0
  BeginsByName = BeginsNamed w compilation given (string_bytes context.config.now.base) analysis settled task context

  -- how far a task was recorded: a beginning of the opening by names, or the whole of it and of what is done over what is open a beginning
  pub data IsBegun (old new : List Entry) : Type 0 where
    in_opening : BeginsByName old new → IsBegun old new
    in_task : {mid : List Entry} (recipes : List Planned) → ArePlanned compilation analysis.table.value.recipes.items recipes → (contexts : List ExecutionContext)
        → AreOpenFor source w compilation stands resolvable given analysis settled task context old mid contexts → tasks.BeginsIn recipes contexts task mid (record { calls = 0; entered = 0 }) new → IsBegun old new

  module _ (there : CalledAreThere analysis.table.value task) (known : IsAnalysis compilation (string_bytes context.config.now.base) given analysis) (overrides : context.overrides.now ≡ analysis.values.value.overrides)
      (prepared : IsPreparedFor analysis task context.config.now.no_dependencies context.opening_order.now (option_map (λ numbers. numbers.now) context.wanted)) where
    nothing_begun : (old new : List Entry) → new ≡ old → IsBegun old new
    nothing_begun old new same = in_opening (subst (BeginsByName old) (sym same) none_begins)

    begun_over : (modules : List ModuleView) → map seen modules ≡ views_of analysis.modules.now analysis.variables analysis.values.value (length analysis.modules.now) → (recipes : List Planned)
        → ArePlanned compilation analysis.table.value.recipes.items recipes → (old new : List Entry) → tasks.Begins context modules recipes task old (record { calls = 0; entered = 0 }) new → IsBegun old new
    begun_over modules views recipes planned old new (tasks.nothing same) = nothing_begun old new same
    begun_over modules views recipes planned old new (tasks.in_opening opens are begins) =
        in_opening ((by_names source w compilation stands resolvable given analysis settled task context there known overrides prepared modules views recipes planned opens are old new).begun begins)
    begun_over modules views recipes planned old new (tasks.in_task {mid} {rows} {contexts} opens are opening of_contexts begins) =
        let o = (by_names source w compilation stands resolvable given analysis settled task context there known overrides prepared modules views recipes planned opens are old mid).opened rows opening in
        let both = o.2 contexts of_contexts in
        in_task recipes planned contexts (record { all = o.0; opens = o.1; alike = both.0; ready = both.1 }) begins

    pub is_begun : (old new : List Entry) → BeginsIn compilation analysis context task old new → IsBegun old new
    is_begun old new (nothing_in same) = nothing_begun old new same
    is_begun old new (begins_in modules views recipes planned begins) = begun_over modules views recipes planned old new begins

-- ---- evaluating

module _ (source : Given) (w : World) (compilation : Compilation) (stands : StandsFor source w) (resolvable : IsResolvable w compilation) (given : List Override) (analysis : Analysis)
    (settled : AllSettle w (overrides_of given) compilation analysis.values.value.settings.items) (target : EvaluationTarget) (context : TaskContext) where
  evaluation_begun : (old new : List Entry) → IsBegun source w compilation stands resolvable given analysis settled (Evaluate target) context old new
      → BeginsEvaluate (configuration_of context.config.now context.root.now w.expansion) (defined w compilation given (string_bytes context.config.now.base) analysis settled context.config.now context.root.now) old new
  evaluation_begun old new (in_opening begins) = begins
  evaluation_begun old new (in_task recipes planned contexts over same) =
      subst (BeginsEvaluate (configuration_of context.config.now context.root.now w.expansion) (defined w compilation given (string_bytes context.config.now.base) analysis settled context.config.now context.root.now) old) (sym same)
      (all_opened over.opens)

pub evaluations_begin_named : EvaluationsBeginNamed
evaluations_begin_named source w compilation stands resolvable given config analysis known settled root target old new (nothing_of same) =
    subst (BeginsEvaluate (configuration_of config root w.expansion) (defined w compilation given (string_bytes config.base) analysis settled config root) old) (sym same) none_begins
evaluations_begin_named source w compilation stands resolvable given config analysis known settled root target old new (begins_of context is begins) =
    subst (λ (key : List ℕ). BeginsEvaluate (configuration_of config key w.expansion) (defined w compilation given (string_bytes config.base) analysis settled config key) old new) is.root_is
    (subst (λ (c : Config). BeginsEvaluate (configuration_of c context.root.now w.expansion) (defined w compilation given (string_bytes c.base) analysis settled c context.root.now) old new) is.config_is
    (evaluation_begun source w compilation stands resolvable given analysis settled target context old new
    (is_begun source w compilation stands resolvable given analysis settled (Evaluate target) context tt
    (subst (λ (c : Config). IsAnalysis compilation (string_bytes c.base) given analysis) (sym is.config_is) known)
    is.overrides
    (subst (λ (c : Config). IsPreparedFor analysis (Evaluate target) c.no_dependencies context.opening_order.now (option_map (λ numbers. numbers.now) context.wanted)) (sym is.config_is) is.prepared)
    old new begins)))

-- ---- the command

-- without a word nothing is handed over
nothing_handed : (root : Option ExecutionContext) (old new : List Entry) (end : TaskEnd) → HandsInRoot root [] old new end → new ≡ old
nothing_handed None old new end hands = hands.0
nothing_handed (Some here) old new end hands = hands.0

module _ (source : Given) (w : World) (compilation : Compilation) (stands : StandsFor source w) (resolvable : IsResolvable w compilation) (given : List Override) (analysis : Analysis)
    (settled : AllSettle w (overrides_of given) compilation analysis.values.value.settings.items) (words : Bor (List Text))
    (context : TaskContext) (known : IsAnalysis compilation (string_bytes context.config.now.base) given analysis) where
  abbrev CommandBegun : List Entry → List Entry → Type 0
  CommandBegun = BeginsCommand (configuration_of context.config.now context.root.now w.expansion) (defined w compilation given (string_bytes context.config.now.base) analysis settled context.config.now context.root.now) words.now

  -- nothing is recorded over what is open, or what handing it over records
  command_in : (old mid new : List Entry) (contexts : List ExecutionContext) → AreOpenFor source w compilation stands resolvable given analysis settled (Command words) context old mid contexts
      → (new ≡ mid) ⊎ ((end : TaskEnd) × HandsInRoot (slice_get contexts 0) words.now mid new end) → CommandBegun old new
  command_in old mid new contexts over (inl same) = subst (CommandBegun old) (sym same) (before_it (all_opened over.opens))
  command_in old mid new contexts over (inr hands) = by_words words.now refl
    where
      by_words : (ws : List Text) → words.now ≡ ws → CommandBegun old new
      by_words [] is =
          let same = nothing_handed (slice_get contexts 0) mid new hands.0 (subst (λ (ws : List Text). HandsInRoot (slice_get contexts 0) ws mid new hands.0) is hands.1) in
          subst (CommandBegun old) (sym same) (before_it (all_opened over.opens))
      by_words (command ∷ others) is =
          let root = root_open source w compilation stands resolvable given analysis settled words true context known contexts over.alike.many in
          with_it (commanded source w compilation stands resolvable given analysis settled words true context known old mid new contexts over root.0 root.1 command others is hands.0 hands.1)

  command_begun : (old new : List Entry) → IsBegun source w compilation stands resolvable given analysis settled (Command words) context old new → CommandBegun old new
  command_begun old new (in_opening begins) = before_it begins
  command_begun old new (in_task {mid} recipes planned contexts over begins) = command_in old mid new contexts over begins

pub commands_begin_named : CommandsBeginNamed
commands_begin_named source w compilation stands resolvable given config analysis known settled root words old new (nothing_of same) =
    subst (BeginsCommand (configuration_of config root w.expansion) (defined w compilation given (string_bytes config.base) analysis settled config root) words.now old) (sym same) (before_it none_begins)
commands_begin_named source w compilation stands resolvable given config analysis known settled root words old new (begins_of context is begins) =
    let known_here = subst (λ (c : Config). IsAnalysis compilation (string_bytes c.base) given analysis) (sym is.config_is) known in
    subst (λ (key : List ℕ). BeginsCommand (configuration_of config key w.expansion) (defined w compilation given (string_bytes config.base) analysis settled config key) words.now old new) is.root_is
    (subst (λ (c : Config). BeginsCommand (configuration_of c context.root.now w.expansion) (defined w compilation given (string_bytes c.base) analysis settled c context.root.now) words.now old new) is.config_is
    (command_begun source w compilation stands resolvable given analysis settled words context known_here old new
    (is_begun source w compilation stands resolvable given analysis settled (Command words) context tt known_here is.overrides
    (subst (λ (c : Config). IsPreparedFor analysis (Command words) c.no_dependencies context.opening_order.now (option_map (λ numbers. numbers.now) context.wanted)) (sym is.config_is) is.prepared)
    old new begins)))
