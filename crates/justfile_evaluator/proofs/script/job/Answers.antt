use Rattle.std.proofs.Common.{◌∙◌}
use Rattle.justfile_evaluator.proofs.Scripts.{job_of_parts}
use Rattle.justfile_evaluator.proofs.script.job.Goals as goal

pub returns : goal.returns
returns c =
    rw c.from_vec.ensures
    (job_of_parts c.args.site.now c.args.interpreter c.args.lines.items _ _ _ _ _ c.in_ok-place.ensures.positional c.in_ok-place.ensures.extension c.in_ok-environment.ensures.pairs_are c.in_ok-environment.ensures.removed_are
    (c.folder_text.ensures ∙ c.in_ok-place.ensures.folder))
