use Rattle.std.proofs.Common.{rules, ◌≡◌}
use Rattle.analyze_calls.proofs.enter.run.Goals as goal

pub returns-clause-asks : goal.returns-clause-asks
returns-clause-asks g c = rw c.site-site.ensures.context at c.run_body.ensures.asks

pub returns-clause-performs : goal.returns-clause-performs
returns-clause-performs g c = λ is.
    let same : c.as_slice-body.result.now ≡ c.args.placed.now.planned.now.recipe.now.body.items = search rules in
    record { site = c.site-site.result; is_own = c.site-site.ensures.own is; performs = rw same at c.run_body.ensures.performs }

pub returns-clause-said : goal.returns-clause-said
returns-clause-said g c = rw (c.site-site.ensures.name, c.site-site.ensures.silent) at c.run_body.ensures.said
