-- Files that are loaded.
use Rattle.laws_modules.proofs.Files.Loaded.{loaded_are_faultless, loaded_are_files, loaded_import_there}
use Rattle.laws_modules.proofs.law.files.loaded_files.Goals as goal

pub returns-clause-files : goal.returns-clause-files
returns-clause-files c = loaded_are_files c.args.sources.now

pub returns-clause-there : goal.returns-clause-there
returns-clause-there c = loaded_import_there c.args.sources.now

pub returns-clause-faultless : goal.returns-clause-faultless
returns-clause-faultless c = loaded_are_faultless c.args.sources.now
