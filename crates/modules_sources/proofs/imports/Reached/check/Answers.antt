-- Places that have an order have no cycle; a cycle leads back.
use Rattle.std.proofs.Common.{ℕ, List, subst}
use Rattle.resolve_order.specs.Needs.{IsCycle, rows}
use Rattle.modules_sources.proofs.imports.Reached.check.Goals as goal

pub returns-in-Ok-clause-no_cycle : goal.returns-in-Ok-clause-no_cycle
returns-in-Ok-clause-no_cycle c = subst (λ needs. (places : List ℕ) → IsCycle (rows needs) places → ⊥) c.as_slice.ensures.value c.in-Ok.ensures.no_cycle
