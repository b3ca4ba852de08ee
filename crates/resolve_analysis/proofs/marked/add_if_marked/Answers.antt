-- The number is added, or it has no mark.
use Rattle.std.proofs.Common.{ap, Option, ℕ}
use Rattle.std.specs.Prelude.{is_some}
use Rattle.std.proofs.lemmas.Result.{on_ok_weaker}
use Rattle.resolve_analysis.proofs.Marking.{none_marked}
use Rattle.resolve_analysis.proofs.Uniting.{union_none, union_same}
use Rattle.resolve_analysis.proofs.marked.add_if_marked.Goals as goal

pub returns-in-Some : goal.returns-in-Some
returns-in-Some c = on_ok_weaker c.add_number.result (union_same (λ n e. (ap (λ (o : Option ℕ). is_some o) c.in-Some.is, e)) (λ n s. s.1)) c.add_number.ensures

pub returns-in-None : goal.returns-in-None
returns-in-None c = union_none (λ n s. none_marked c.args.mark c.in-None.is s.0)
