use Rattle.std.proofs.Common.{subst}
use Rattle.std.proofs.lemmas.Result.{IfOk-weaker}
use Rattle.justfile_analyzer.specs.Targets.{AreInOrder}
use Rattle.run_tasks.specs.Requested.Asked.{TellsValues}
use Rattle.run_tasks.specs.Requested.Words.{BreaksValuesAt, IsRefusedFor}
use Rattle.run_tasks.proofs.Requested.Refused.{err_weaker, in_order}
use Rattle.run_tasks.proofs.request.request_of.Goals as goal

pub returns-in-Evaluate-clause-meant : goal.returns-in-Evaluate-clause-meant
returns-in-Evaluate-clause-meant c = λ same all.
    let ordered = in_order c.args.compilation.now c.args.analysis.now.modules.now same all in
    rw c.in-Evaluate.is (IfOk-weaker c.values_request.result
    (λ request. AreInOrder c.args.analysis.now.modules.now → TellsValues c.args.analysis.now.modules.now c.as_slice-lists.result.now c.args.words.now request)
    (TellsValues c.args.compilation.now.modules.items c.args.analysis.now.variables.lists.items c.args.words.now)
    (λ request tells.
    subst (λ lists. TellsValues c.args.compilation.now.modules.items lists c.args.words.now request) c.as_slice-lists.ensures.value
    (subst (λ modules. TellsValues modules c.as_slice-lists.result.now c.args.words.now request) same (tells ordered)))
    c.values_request.ensures.asked)

pub returns-in-Evaluate-clause-refused : goal.returns-in-Evaluate-clause-refused
returns-in-Evaluate-clause-refused c = λ same all.
    let ordered = in_order c.args.compilation.now c.args.analysis.now.modules.now same all in
    rw c.in-Evaluate.is (err_weaker c.values_request.result
    (λ fault. AreInOrder c.args.analysis.now.modules.now → IsRefusedFor (BreaksValuesAt c.args.analysis.now.modules.now c.as_slice-lists.result.now c.args.words.now) fault)
    (IsRefusedFor (BreaksValuesAt c.args.compilation.now.modules.items c.args.analysis.now.variables.lists.items c.args.words.now))
    (λ fault breaks.
    subst (λ lists. IsRefusedFor (BreaksValuesAt c.args.compilation.now.modules.items lists c.args.words.now) fault) c.as_slice-lists.ensures.value
    (subst (λ modules. IsRefusedFor (BreaksValuesAt modules c.as_slice-lists.result.now c.args.words.now) fault) same (breaks ordered)))
    c.values_request.ensures.refused)
