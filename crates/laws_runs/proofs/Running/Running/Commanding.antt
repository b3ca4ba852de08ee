-- A command is handed over by names as it is handed over by places, from the opening of modules on.
use Rattle.std.proofs.Common.{◌≡◌, ◌≢◌, ◌∙◌, refl, sym, ap, subst, Bool, true, false, List, [], ◌∷◌, ◌++◌, append-nil, Option, Some, Result, Ok, Err, ℕ, arith, length}
use Rattle.std.specs.Prelude.{slice_get}
use Rattle.std.specs.Borrow.{Bor}
use Rattle.std.specs.Option.{option_map}
use Rattle.std.specs.String.{string_bytes}
use Rattle.std.proofs.lemmas.List.Elements.{All-contains}
use Rattle.std.proofs.lemmas.Option.{slice_get_within}
use Rattle.just_host.specs.declared.config.Config.{Config}
use Rattle.just_host.specs.declared.entry.Entry.{Entry}
use Rattle.just_host.specs.declared.entry.Entry.TheVariants.{Line}
use Rattle.just_host.specs.declared.job.CommandJob.{CommandJob}
use Rattle.just_value.specs.declared.positional.Override.{Override}
use Rattle.tree_items.specs.Lines.{no_sigils}
use Rattle.evaluate_context.specs.declared.context.ExecutionContext.{ExecutionContext}
use Rattle.modules_compilation.specs.declared.compilation.Compilation.{Compilation}
use Rattle.resolve_analysis.specs.declared.analysis.Analysis.{Analysis}
use Rattle.just_resolve.specs.Analysis.{IsAnalysis}
use Rattle.just_resolve.specs.Rules.{IsResolvable}
use Rattle.run_tasks.specs.Commands.{words_job}
use Rattle.run_tasks.specs.Performed.{HandsInRoot, HandsWords, TaskEnd, end_by}
use Rattle.run_tasks.specs.declared.task.Task.TheVariants.{Command}
use Rattle.run_tasks.specs.declared.task.TaskContext.{TaskContext}
use Rattle.run_tasks.specs.Prepared.Performed.{IsPreparedFor, PerformsIn}
use Rattle.meaning_runs.specs.Failures.{Failure, Next, next_by}
use Rattle.meaning_runs.specs.Tallies.{Tally}
use Rattle.meaning_runs.specs.Task.{TaskLeads}
use Rattle.meaning_rules.specs.Worlds.Given.{Given, Text, World}
use Rattle.meaning_rules.specs.Worlds.Standing.{StandsFor}
use Rattle.meaning_rules.proofs.Worlds.Places.{contains_at}
use Rattle.laws_modules.proofs.Names.Found.{there_within}
use Rattle.laws_modules.proofs.Names.Modules.{node_of}
use Rattle.meaning_rules.specs.Overrides.{overrides_of}
use Rattle.meaning_evaluation.specs.Calling.{without_next}
use Rattle.meaning_evaluation.specs.Named.{Definitions, ModuleRow}
use Rattle.meaning_evaluation.specs.Scopes.{Configuration}
use Rattle.just_meaning.specs.Actions.{ActionEnd, CommandGoes, command_by, command_job, command_task, end_of}
use Rattle.just_meaning.specs.Actions as actions
use Rattle.just_meaning.specs.Opening.{reading_in}
use Rattle.laws_runs.proofs.Resolved.Leading.{root_path}
use Rattle.laws_runs.specs.Settings.Settled.{AllSettle}
use Rattle.just_meaning.specs.Configured.{configuration_of}
use Rattle.laws_runs.specs.Running.Steps.{defined}
use Rattle.laws_runs.specs.Running.Running.{CommandsAreNamed, action_end}
use Rattle.laws_runs.proofs.Running.Running.Jobs.{jobs_are_named, root_row}
use Rattle.laws_runs.proofs.Running.Running.Opened.{AreOpenFor, ComesTo, comes_to, performed, refused}

-- how a command ends by places is how it ends by names
same_end : (writes : Bool) (next : Result Next Failure) → end_of (without_next next) ≡ action_end writes (end_by next)
same_end writes (Ok next) = refl
same_end writes (Err failure) = refl

-- a first word
first_word : (words : List Text) → words ≢ [] → (command : Text) × (others : List Text) × (words ≡ command ∷ others)
first_word [] some = absurd (some refl)
first_word (command ∷ others) some = (command, others, refl)

module _ (source : Given) (w : World) (compilation : Compilation) (stands : StandsFor source w) (resolvable : IsResolvable w compilation) (given : List Override) (analysis : Analysis)
    (settled : AllSettle w (overrides_of given) compilation analysis.values.value.settings.items) (words : Bor (List Text)) (writes : Bool)
    (context : TaskContext) (known : IsAnalysis compilation (string_bytes context.config.now.base) given analysis) where
  abbrev configuration : Configuration
  configuration = configuration_of context.config.now context.root.now w.expansion

  abbrev definitions : Definitions
  definitions = defined w compilation given (string_bytes context.config.now.base) analysis settled context.config.now context.root.now

  abbrev OpenFor : List Entry → List Entry → List ExecutionContext → Type 0
  OpenFor = AreOpenFor source w compilation stands resolvable given analysis settled (Command words) context

  -- the root is open
  pub root_open : (contexts : List ExecutionContext) → length contexts ≡ length compilation.modules.items → (here : ExecutionContext) × (slice_get contexts 0 ≡ Some here)
  root_open contexts many =
      let node = node_of w compilation resolvable.numbered.of 0 [] (root_path w compilation resolvable.numbered.of) in
      let within = slice_get_within compilation.modules.items 0 node.0 node.1 in
      there_within contexts 0 (omega (arith, within, many))

  module _ (old mid new : List Entry) (contexts : List ExecutionContext) (over : OpenFor old mid contexts) (here : ExecutionContext) (there : slice_get contexts 0 ≡ Some here) (command : Text) (others : List Text) where
    row : (row : ModuleRow) × (definitions.inside [] ≡ Some row)
    row = root_row w compilation resolvable.numbered given analysis settled (Command words) context known contexts over.all over.alike over.ready here there

    abbrev Leads : Bool → Result (Unit {0}) Failure → Type 0
    Leads dry end = TaskLeads (reading_in []) (command_by configuration definitions row.0 over.all dry (command ∷ others)) mid new end

    -- in a dry run or not
    leads : (dry : Bool) (end : TaskEnd) → HandsWords here dry (command ∷ others) mid new end → (last : Result (Unit {0}) Failure) × Leads dry last × (end_of last ≡ action_end writes end)
    leads true end hands = (Ok tt, record { piece = []; entries = hands.0 ∙ sym (append-nil mid); goes = (refl, refl) }, ap (action_end writes) (sym hands.1))
    leads false end hands =
        let job : words_job here command others ≡ command_job configuration definitions row.0 over.all command others =
        jobs_are_named w compilation resolvable.numbered given analysis settled (Command words) context known contexts over.all over.alike over.ready here there row.0 row.1 command others in (
          without_next (next_by command no_sigils hands.0),
          record {
            piece = Line (command_job configuration definitions row.0 over.all command others) hands.0 ∷ [];
            entries = hands.1 ∙ ap (λ (j : CommandJob). mid ++ Line j hands.0 ∷ []) job;
            goes = (hands.0, record { rest = []; is = refl; behind = (refl, refl) });
          },
          same_end writes (next_by command no_sigils hands.0) ∙ ap (action_end writes) (sym hands.2),
        )

    dry_is : here.config.now.dry_run ≡ context.config.now.dry_run
    dry_is =
        let configured = All-contains (λ (c : ExecutionContext). (c.config.now ≡ context.config.now) × (c.root.now ≡ context.root.now)) contexts here over.ready.configured (contains_at contexts 0 here there) in
        ap (λ (c : Config). c.dry_run) configured.0

    pub commanded : words.now ≡ command ∷ others → (end : TaskEnd) → HandsInRoot (slice_get contexts 0) words.now mid new end → CommandGoes configuration definitions words.now old new (action_end writes end)
    commanded is end hands =
        let here_hands : HandsWords here context.config.now.dry_run (command ∷ others) mid new end =
        subst (λ (dry : Bool). HandsWords here dry (command ∷ others) mid new end) dry_is
        (subst (λ (root : Option ExecutionContext). HandsInRoot root (command ∷ others) mid new end) there
        (subst (λ (ws : List Text). HandsInRoot (slice_get contexts 0) ws mid new end) is hands)) in
        let l = leads context.config.now.dry_run end here_hands in
        subst (λ (e : ActionEnd). CommandGoes configuration definitions words.now old new e) l.2
        (actions.commanded over.all is row.1 over.opens
        (subst (λ (ws : List Text). TaskLeads (reading_in []) (command_task configuration definitions row.0 over.all ws) mid new l.0) (sym is) l.1))

  goes_from : words.now ≢ [] → (old new : List Entry) (t' : Tally) (end : TaskEnd)
      → ComesTo source w compilation stands resolvable given analysis settled (Command words) context old (record { calls = 0; entered = 0 }) new t' end
      → CommandGoes configuration definitions words.now old new (action_end writes end)
  goes_from some old new _ _ (refused {failure} opening) = let f = first_word words.now some in actions.by_opening f.2 opening
  goes_from some old new t' end (performed {mid} recipes planned contexts over hands) =
      let f = first_word words.now some in
      let root = root_open contexts over.alike.many in
      commanded old mid new contexts over root.0 root.1 f.0 f.1 f.2 end hands

  commanded_named : words.now ≢ [] → context.overrides.now ≡ analysis.values.value.overrides
      → IsPreparedFor analysis (Command words) context.config.now.no_dependencies context.opening_order.now (option_map (λ numbers. numbers.now) context.wanted)
      → (old new : List Entry) (end : TaskEnd) → PerformsIn compilation analysis context (Command words) old new end
      → CommandGoes configuration definitions words.now old new (action_end writes end)
  commanded_named some overrides prepared old new end run =
      let c = comes_to source w compilation stands resolvable given analysis settled (Command words) context tt known overrides prepared old new end run in
      goes_from some old new c.0 end c.1

pub commands_are_named : CommandsAreNamed
commands_are_named source w compilation stands resolvable given config analysis known settled root_key words some writes old new end run =
    let same : run.context.config.now ≡ config = run.is.config_is in
    subst (λ (key : List ℕ). CommandGoes (configuration_of config key w.expansion) (defined w compilation given (string_bytes config.base) analysis settled config key) words.now old new (action_end writes end)) run.is.root_is
    (subst (λ (c : Config). CommandGoes (configuration_of c run.context.root.now w.expansion) (defined w compilation given (string_bytes c.base) analysis settled c run.context.root.now) words.now old new (action_end writes end)) same
    (commanded_named source w compilation stands resolvable given analysis settled words writes run.context
    (subst (λ (c : Config). IsAnalysis compilation (string_bytes c.base) given analysis) (sym same) known)
    some run.is.overrides
    (subst (λ (c : Config). IsPreparedFor analysis (Command words) c.no_dependencies run.context.opening_order.now (option_map (λ numbers. numbers.now) run.context.wanted)) (sym same) run.is.prepared)
    old new end run.performs))
