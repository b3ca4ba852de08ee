-- A name is the first, or is put among the others.
use Rattle.parse_recipes.proofs.NameSets.{another_read, first_read}
use Rattle.parse_recipes.proofs.parameter_names.ParameterNames.add.Goals as goal

pub returns-then-is_none : goal.returns-then-is_none
returns-then-is_none c = first_read c.args.self.now.first c.args.name c.args.self.now.others c.if-is_none.ensures

pub returns-in-Ok : goal.returns-in-Ok
returns-in-Ok c = another_read c.args.self.now.first c.args.name c.args.self.now.others c.insert.new.self c.in-Ok.ensures.keys
