-- The files keep their names, and so the orders of names; each has the numbers of its module's names.
use Rattle.std.proofs.Common.{refl, subst}
use Rattle.std.specs.List.{All}
use Rattle.resolve_analysis.specs.Numbered.{IsFileNumbered}
use Rattle.resolve_analysis.proofs.Numbered.{all_by_name}
use Rattle.resolve_analysis.proofs.Same.{all_bound, same_files, when_ok}
use Rattle.resolve_analysis.proofs.numbers.number_variables.Goals as goal

pub returns-clause-by_name : goal.returns-clause-by_name
returns-clause-by_name c = all_by_name c.args.compilation.now (record c.args.compilation.now { files = c.number_files.new.files }) (record { modules = refl; files = c.number_files.ensures.names; items = c.number_files.ensures.same })

pub returns-in_err-all-clause-numbered : goal.returns-in_err-all-clause-numbered
returns-in_err-all-clause-numbered c = record { modules = refl; files = refl; items = same_files c.args.compilation.now.files.items }

pub returns-clause-bound : goal.returns-clause-bound
returns-clause-bound c =
    let before = c.args.compilation.now in
    let files = c.number_files.new.files in
    when_ok c.number_files.result
    (λ numbered. all_bound before (record before { files = files }) (record { modules = refl; files = c.number_files.ensures.names; items = c.number_files.ensures.same }) c.in_ok-all.all.items c.in_ok-all.ensures
    (subst (λ all. All (IsFileNumbered all) files.items) c.as_slice.ensures.value numbered))
    c.number_files.ensures.numbers
