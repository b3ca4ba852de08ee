-- No file is reached.
use Rattle.modules_sources.proofs.Reaching.{none_reached}
use Rattle.modules_sources.proofs.imports.Reached.new.Goals as goal

pub returns-clause-reached : goal.returns-clause-reached
returns-clause-reached c = none_reached (record { places = c.new.result; imports = c.new-2.result }) c.new.ensures.empty
