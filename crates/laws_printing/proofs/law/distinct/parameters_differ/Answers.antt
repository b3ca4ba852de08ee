-- Parameters of functions and of recipes: each clause by its lemma.
use Rattle.laws_printing.proofs.Distinct.Texts.{files_are_apart}
use Rattle.laws_printing.proofs.Distinct.Worlds.{compilations_are_apart, worlds_are_apart}
use Rattle.laws_printing.proofs.law.distinct.parameters_differ.Goals as goal

pub returns-clause-files : goal.returns-clause-files
returns-clause-files c = files_are_apart

pub returns-clause-worlds : goal.returns-clause-worlds
returns-clause-worlds c = worlds_are_apart

pub returns-clause-compilations : goal.returns-clause-compilations
returns-clause-compilations c = compilations_are_apart
