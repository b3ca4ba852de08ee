-- The body sees the parameters.
use Rattle.std.proofs.Common.{map, subst}
use Rattle.tree_items.specs.Contexts.{named_number}
use Rattle.resolve_references.specs.Seen.{StandsFor}
use Rattle.resolve_references.proofs.Seeing.{has_numbers}
use Rattle.resolve_references.proofs.numbering.number_function.Goals as goal

pub returns-clause-numbers : goal.returns-clause-numbers
returns-clause-numbers c = has_numbers c.in_ok-parameters.parameters c.args.bindings.now _ _ c.resolve_variables.ensures.shape c.resolve_variables.ensures.numbers (map named_number c.args.function.now.parameters.items)
    (subst (λ ps. StandsFor c.in_ok-parameters.parameters (map named_number ps)) c.as_slice.ensures.value c.in_ok-parameters.ensures)
