-- The submodule waits, or its file is above.
use Rattle.std.proofs.Common.{map, ap, sym, ◌∙◌, [], ◌∷◌, refl}
use Rattle.std.proofs.lemmas.List.{map-append}
use Rattle.modules_sources.specs.Submodules.{waiting_view}
use Rattle.modules_sources.proofs.submodules.add_pending.Goals as goal

pub returns-then-is_above-clause-refused : goal.returns-then-is_above-clause-refused
returns-then-is_above-clause-refused c = λ n. (sym c.is_above.ensures.has ∙ c.if-is_above.true, (c.key_at.ensures, refl))

pub returns-clause-pending : goal.returns-clause-pending
returns-clause-pending c = ap (map waiting_view) c.in_ok-push.ensures.pending ∙ map-append waiting_view c.args.queue.now.pending.items (_ ∷ [])
