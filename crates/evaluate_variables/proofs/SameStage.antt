-- The stage of parameters looks at the frames around the innermost one alone.
use Rattle.std.proofs.Common.{◌≡◌, List, ap}
use Rattle.just_host.specs.declared.job.Pair.{Pair}
use Rattle.just_value.specs.Frames.{Frames}
use Rattle.evaluate_variables.specs.Given.{stage_for}
use Rattle.evaluate_variables.specs.declared.parameters.Site.{Site}

pub same_stage : (site : Site) (env : List Pair) (inner here : Frames) → inner.outer ≡ here.outer → stage_for site env inner ≡ stage_for site env here
same_stage site env inner here lies = ap (λ outer. stage_for site env (record { own = here.own; outer = outer })) lies
