-- An insertion into the map changes one number.
use Rattle.std.proofs.Common.{◌∙◌, ap, cond, Some}
use Rattle.std.specs.Cmp.{unsigned_tied}
use Rattle.resolve_references.specs.Places.{variable_in}
use Rattle.resolve_references.proofs.variable_resolver.VariableResolver.add_variable.Goals as goal

pub returns-in-Ok-clause-places : goal.returns-in-Ok-clause-places
unfolding variable_in
returns-in-Ok-clause-places c other = c.in-Ok.ensures.updates.0 other ∙ ap (λ b. cond b (Some c.args.place) (variable_in c.args.self.now other)) (unsigned_tied c.args.number other)
