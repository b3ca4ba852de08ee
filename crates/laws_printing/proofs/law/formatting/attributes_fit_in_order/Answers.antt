use Rattle.laws_printing.specs.Printing.Attributes.{IsSpelled}
use Rattle.laws_printing.proofs.Formatting.Fitting.{fit_in_order, order_stays, each_in_order}
use Rattle.laws_printing.proofs.law.formatting.attributes_fit_in_order.Goals as goal

pub returns-clause-fit : goal.returns-clause-fit
returns-clause-fit c expansion as' item f = fit_in_order expansion as' item f

pub returns-clause-stays : goal.returns-clause-stays
returns-clause-stays c as' = order_stays as'

pub returns-clause-spelled : goal.returns-clause-spelled
returns-clause-spelled c expansion as' ps = each_in_order (IsSpelled expansion) as' ps
