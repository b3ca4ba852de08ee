-- A text that is given for no variable.
use Rattle.std.proofs.Common.{sym}
use Rattle.std.proofs.lemmas.Result.{err_from_is_err_and}
use Rattle.just_resolve.proofs.overrides.add_all.Goals as goal

pub returns-in_err-add-clause-unknown : goal.returns-in_err-add-clause-unknown
returns-in_err-add-clause-unknown c =
    let p = err_from_is_err_and c.from_residual.result c.from_residual.ensures.1 in
    rw (p.1, p.2) (λ some all. record {
      one = c.one-item.result;
      listed = (c.loop-one.one-index, c.loop-one-test.true, sym c.one-item.is);
      unknown = (c.in_err-add.ensures.unknown some all).0;
      tells = (c.in_err-add.ensures.unknown some all).1;
    })
