-- With what is prepared.
use Rattle.std.proofs.Common.{ap, ◌∙◌, refl}
use Rattle.resolve_analysis.specs.declared.known_values.KnownValues.{KnownValues}
use Rattle.run_tasks.proofs.Ending.{performed_so}
use Rattle.run_tasks.specs.Prepared.Begun.{begins_of, nothing_of}
use Rattle.run_tasks.proofs.Prepared.Running.{prepared_so}
use Rattle.run_tasks.proofs.performing.perform_task.Goals as goal

pub returns-clause-performs : goal.returns-clause-performs
returns-clause-performs g c =
    let e = c.context_of-context.ensures in
    let prepared = c.in_ok-prepared.ensures in
    let there = c.deref.ensures in
    performed_so c.args.task c.perform_prepared.new.host.exhausted c.perform_prepared.result _ _ (λ end performs. record { context = c.context_of-context.result; is = record { config_is = e.config; overrides = e.overrides ∙ ap (λ (v : KnownValues). v.overrides) there; root_is = e.root; prepared = prepared_so c.args.analysis.now c.args.task _ c.args.config.now.no_dependencies _ _ _ _ refl e.order e.wanted prepared }; performs = performs }) c.perform_prepared.ensures.performs

pub returns-clause-begun : goal.returns-clause-begun
returns-clause-begun g c =
    let e = c.context_of-context.ensures in
    let there = c.deref.ensures in
    let prepared = c.in_ok-prepared.ensures in
    begins_of c.context_of-context.result
    (record {
      config_is = e.config;
      overrides = e.overrides ∙ ap (λ (v : KnownValues). v.overrides) there;
      root_is = e.root;
      prepared = prepared_so c.args.analysis.now c.args.task _ c.args.config.now.no_dependencies _ _ _ _ refl e.order e.wanted prepared;
    })
    c.perform_prepared.ensures.begun

pub returns-in_err-prepared-clause-begun : goal.returns-in_err-prepared-clause-begun
returns-in_err-prepared-clause-begun g c = nothing_of refl
