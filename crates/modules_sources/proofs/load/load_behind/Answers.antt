-- The files are looked up by the folders of the sources.
use Rattle.modules_sources.proofs.Outcomes.{if_err, on_ok}
use Rattle.modules_sources.proofs.load.load_behind.Goals as goal

pub returns-clause-loaded : goal.returns-clause-loaded
returns-clause-loaded g c = on_ok c.load_found.result c.load_found.ensures.loaded (λ on start is_read begun. on start is_read c.in_ok-folders.ensures begun)

pub returns-clause-refused : goal.returns-clause-refused
returns-clause-refused g c = if_err c.load_found.result c.load_found.ensures.refused (λ e refused n start is_read begun. refused n start is_read c.in_ok-folders.ensures begun)
