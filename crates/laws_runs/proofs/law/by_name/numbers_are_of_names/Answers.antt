use Rattle.laws_runs.proofs.ByName.Variables.{expression_known, functions_same}
use Rattle.laws_runs.proofs.law.by_name.numbers_are_of_names.Goals as goal

pub returns-clause-variables : goal.returns-clause-variables
returns-clause-variables c b p numbers own others has e cooked names = expression_known b p numbers own others has e cooked names

pub returns-clause-functions : goal.returns-clause-functions
returns-clause-functions c b p rows has = functions_same b p rows has
