-- The file that was read is put after the others.
use Rattle.modules_sources.proofs.load.add_file.Goals as goal

pub returns-clause-added : goal.returns-clause-added
returns-clause-added c = (c.in_ok-file.file, c.in_ok-file.was, c.in_ok-push.ensures.items)
