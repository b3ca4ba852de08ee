-- The list is that of the module.
use Rattle.std.proofs.Common.{subst}
use Rattle.std.specs.Prelude.{OnOk}
use Rattle.resolve_analysis.specs.Lists.{numbers_in}
use Rattle.resolve_analysis.specs.Unions.{Has, IsMarkedNumber, IsUnion}
use Rattle.resolve_analysis.proofs.marked.add_marked.Goals as goal

pub returns : goal.returns
returns c = subst (λ list. OnOk c.add_all.result (IsUnion (Has c.args.numbers.now) (IsMarkedNumber (numbers_in list) c.args.marks.now) (Has c.add_all.new.numbers))) c.as_slice.ensures.value c.add_all.ensures
