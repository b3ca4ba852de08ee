-- What a written plan leaves.
use Rattle.std.proofs.Common.{◌≡◌, ℕ, List, Bool, true, false, Result, Ok, Err, IfErr, inl, inr, refl, sym, subst}
use Rattle.std.specs.Result.{result_and}
use Rattle.just_run.specs.Plans.{IsEnd, IsKeptBy, IsSent, IsWrittenPlan}
use Rattle.just_run.specs.declared.fault.Fault.{Fault}
use Rattle.run_tasks.specs.declared.action.Action.TheVariants.{Plan}
use Rattle.just_run.specs.declared.outcome.Outcome.{Outcome}

-- how what was planned ended, once its plan went out
pub sent_is_written : {T : Type 0} (old plan : List ℕ) (sent : Result T Fault) (ended : Result Outcome Fault) (new : List ℕ) → IsEnd ended → IsSent old plan sent new → IsWrittenPlan old plan (result_and sent ended) new
sent_is_written old plan (Ok x) (Ok outcome) new e h = (e, h)
sent_is_written old plan (Ok x) (Err fault) new e h = inr (inr (e, h))
sent_is_written old plan (Err fault) ended new e h = elim h [ inl part ↦ inl part | inr none ↦ inr (inl none) ]
