-- Values are told by names as they are told by places, from the opening of modules on.
use Rattle.std.proofs.Common.{◌≡◌, sym, subst, Bool, List, Some, ℕ}
use Rattle.std.specs.Option.{option_map}
use Rattle.std.specs.String.{string_bytes}
use Rattle.just_host.specs.declared.config.Config.{Config}
use Rattle.just_host.specs.declared.entry.Entry.{Entry}
use Rattle.just_value.specs.declared.positional.Override.{Override}
use Rattle.modules_compilation.specs.declared.compilation.Compilation.{Compilation}
use Rattle.resolve_analysis.specs.declared.analysis.Analysis.{Analysis}
use Rattle.just_resolve.specs.Analysis.{IsAnalysis}
use Rattle.just_resolve.specs.Rules.{IsResolvable}
use Rattle.justfile_analyzer.specs.declared.target.EvaluationTarget.{EvaluationTarget}
use Rattle.run_tasks.specs.Performed.{TaskEnd}
use Rattle.run_tasks.specs.Performed as tasks
use Rattle.run_tasks.specs.Tasks.{values_text}
use Rattle.run_tasks.specs.declared.task.Task.TheVariants.{Evaluate}
use Rattle.run_tasks.specs.declared.task.TaskContext.{TaskContext}
use Rattle.run_tasks.specs.Prepared.Performed.{IsPreparedFor, PerformsIn}
use Rattle.meaning_runs.specs.Tallies.{Tally}
use Rattle.meaning_rules.specs.Worlds.Given.{Given, Text, World}
use Rattle.meaning_rules.specs.Worlds.Standing.{StandsFor}
use Rattle.meaning_rules.specs.Overrides.{overrides_of}
use Rattle.meaning_evaluation.specs.Named.{Definitions}
use Rattle.meaning_evaluation.specs.Scopes.{Configuration}
use Rattle.just_meaning.specs.Actions.{EvaluateGoes, Target, evaluated_text, target_of}
use Rattle.just_meaning.specs.Actions as actions
use Rattle.laws_runs.specs.Settings.Settled.{AllSettle}
use Rattle.laws_runs.specs.Menus.Targets.{IsNamedTarget}
use Rattle.just_meaning.specs.Configured.{configuration_of}
use Rattle.laws_runs.specs.Running.Steps.{defined}
use Rattle.laws_runs.specs.Running.Running.{EvaluationsAreNamed, action_end}
use Rattle.laws_runs.specs.Running.Told.{IsThere}
use Rattle.laws_runs.proofs.Running.Running.Opened.{ComesTo, comes_to, performed, refused}
use Rattle.laws_runs.proofs.Running.Running.Values.{values_are_named}

module _ (source : Given) (w : World) (compilation : Compilation) (stands : StandsFor source w) (resolvable : IsResolvable w compilation) (given : List Override) (analysis : Analysis)
    (settled : AllSettle w (overrides_of given) compilation analysis.values.value.settings.items) (target : EvaluationTarget) (there : IsThere compilation target) (words : List Text) (t : Target)
    (is_named : IsNamedTarget compilation analysis.variables.lists.items (Some target) (Some t)) (writes : Bool)
    (context : TaskContext) (known : IsAnalysis compilation (string_bytes context.config.now.base) given analysis) where
  abbrev configuration : Configuration
  configuration = configuration_of context.config.now context.root.now w.expansion

  abbrev definitions : Definitions
  definitions = defined w compilation given (string_bytes context.config.now.base) analysis settled context.config.now context.root.now

  goes_from : target_of definitions words ≡ Some t → (old new : List Entry) (t' : Tally) (end : TaskEnd)
      → ComesTo source w compilation stands resolvable given analysis settled (Evaluate target) context old (record { calls = 0; entered = 0 }) new t' end
      → EvaluateGoes configuration definitions writes words old new (action_end writes end)
  goes_from led old new _ _ (refused {failure} opening) = actions.by_opening led opening
  goes_from led old new t' end (performed {mid} recipes planned contexts over told) =
      let text : values_text contexts target ≡ evaluated_text definitions over.all t =
      values_are_named w compilation resolvable.numbered given (string_bytes context.config.now.base) analysis known settled.settle (string_bytes context.config.now.working_directory) contexts over.all over.alike target there t is_named in
      subst (λ (e : TaskEnd). EvaluateGoes configuration definitions writes words old new (action_end writes e)) (sym told.1)
      (subst (λ (bytes : List ℕ). EvaluateGoes configuration definitions writes words old new (action_end writes (tasks.told bytes))) (sym text)
      (subst (λ (log : List Entry). EvaluateGoes configuration definitions writes words old log (action_end writes (tasks.told (evaluated_text definitions over.all t)))) (sym told.0)
      (actions.evaluated over.all led over.opens)))

  evaluated_named : context.overrides.now ≡ analysis.values.value.overrides
      → IsPreparedFor analysis (Evaluate target) context.config.now.no_dependencies context.opening_order.now (option_map (λ numbers. numbers.now) context.wanted)
      → target_of definitions words ≡ Some t → (old new : List Entry) (end : TaskEnd) → PerformsIn compilation analysis context (Evaluate target) old new end
      → EvaluateGoes configuration definitions writes words old new (action_end writes end)
  evaluated_named overrides prepared led old new end run =
      let c = comes_to source w compilation stands resolvable given analysis settled (Evaluate target) context tt known overrides prepared old new end run in
      goes_from led old new c.0 end c.1

pub evaluations_are_named : EvaluationsAreNamed
evaluations_are_named source w compilation stands resolvable given config analysis known settled root_key target there words t is_named led writes old new end run =
    let same : run.context.config.now ≡ config = run.is.config_is in
    subst (λ (key : List ℕ). EvaluateGoes (configuration_of config key w.expansion) (defined w compilation given (string_bytes config.base) analysis settled config key) writes words old new (action_end writes end)) run.is.root_is
    (subst (λ (c : Config). EvaluateGoes (configuration_of c run.context.root.now w.expansion) (defined w compilation given (string_bytes c.base) analysis settled c run.context.root.now) writes words old new (action_end writes end)) same
    (evaluated_named source w compilation stands resolvable given analysis settled target there words t is_named writes run.context
    (subst (λ (c : Config). IsAnalysis compilation (string_bytes c.base) given analysis) (sym same) known)
    run.is.overrides
    (subst (λ (c : Config). IsPreparedFor analysis (Evaluate target) c.no_dependencies run.context.opening_order.now (option_map (λ numbers. numbers.now) run.context.wanted)) (sym same) run.is.prepared)
    (subst (λ (c : Config). target_of (defined w compilation given (string_bytes c.base) analysis settled c run.context.root.now) words ≡ Some t) (sym same)
    (subst (λ (key : List ℕ). target_of (defined w compilation given (string_bytes config.base) analysis settled config key) words ≡ Some t) (sym run.is.root_is) led))
    old new end run.performs))
