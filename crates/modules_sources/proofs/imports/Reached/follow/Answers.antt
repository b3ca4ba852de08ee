-- The files that the imports name are reached.
use Rattle.std.proofs.Common.{map, subst}
use Rattle.modules_files.specs.Chosen.{view}
use Rattle.modules_sources.specs.Reached.{IsFollowed}
use Rattle.modules_sources.proofs.imports.Reached.follow.Goals as goal

pub returns-clause-followed : goal.returns-clause-followed
returns-clause-followed c = (
  map view c.in_ok-found.found.items,
  c.in_ok-found.ensures.found,
  λ keys h. subst (λ fs. IsFollowed keys (map view fs) c.args.self.now c.reach_imports.new.self (map view c.in_ok-new.new.items)) c.as_slice.ensures.value (c.in_ok-new.ensures keys h),
)
