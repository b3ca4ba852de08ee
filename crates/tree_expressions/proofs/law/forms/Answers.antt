-- What is written is read.
use Rattle.tree_expressions.proofs.Written.{strings_are_read, parts_are_read, commands_are_read}
use Rattle.tree_expressions.proofs.law.forms.Goals as goal

pub returns-clause-strings : goal.returns-clause-strings
returns-clause-strings c = strings_are_read

pub returns-clause-parts : goal.returns-clause-parts
returns-clause-parts c = parts_are_read

pub returns-clause-commands : goal.returns-clause-commands
returns-clause-commands c = commands_are_read
