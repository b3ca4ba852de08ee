use Rattle.std.proofs.lemmas.Result.{IfOk-weaker}
use Rattle.run_tasks.proofs.Requested.Refused.{err_weaker}
use Rattle.run_tasks.proofs.request.invocations.Goals as goal

pub returns-clause-found : goal.returns-clause-found
returns-clause-found c = IfOk-weaker c.parse_invocations.result _ _ (λ list invoke all. record { menus = c.in_ok-menus.menus; are = c.in_ok-menus.ensures all; is = invoke }) c.parse_invocations.ensures.found

pub returns-clause-refused : goal.returns-clause-refused
returns-clause-refused c =
    err_weaker c.parse_invocations.result _ _ (λ fault breaks all some. let b = breaks some in (b.0, (b.1.0, record { menus = c.in_ok-menus.menus; are = c.in_ok-menus.ensures all; is = b.1.1 }))) c.parse_invocations.ensures.refused
