-- The name's number is kept with the first name, or put into the map, where an insertion changes one name.
use Rattle.std.proofs.Common.{sym, ◌∙◌}
use Rattle.std.proofs.lemmas.Map.Text.{btree_map_updates_str}
use Rattle.tree_items.proofs.FirstNames.{first_given, others_given}
use Rattle.tree_items.specs.Contexts.{number_in}
use Rattle.tree_items.proofs.variables.context.ExpressionContext.set.Goals as goal

pub returns-then-goes_first : goal.returns-then-goes_first
unfolding number_in
returns-then-goes_first c = λ other. first_given c.args.self.now.first c.args.name c.args.number (sym c.goes_first.ensures ∙ c.if-goes_first.true) other _

pub returns-in-Ok : goal.returns-in-Ok
unfolding number_in
returns-in-Ok c = λ other. others_given c.args.self.now.first c.args.name.now c.args.number (sym c.goes_first.ensures ∙ c.if-goes_first.false) other _ _ (btree_map_updates_str c.args.name.now c.args.self.now.numbers c.insert.new.self _ c.in-Ok.ensures.updates other)
