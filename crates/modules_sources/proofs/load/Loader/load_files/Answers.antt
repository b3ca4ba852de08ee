-- All is reached from the module's own file, or refused.
use Rattle.std.proofs.Common.{[], drop, ap, subst, ◌∙◌}
use Rattle.std.proofs.lemmas.Result.{err_from_is_err_and}
use Rattle.resolve_order.specs.Needs.{rows}
use Rattle.modules_sources.specs.ReadingOrder.{refused_cycle, refused_import}
use Rattle.modules_sources.specs.Reached.{IsStepBack}
use Rattle.modules_sources.proofs.Ordering.{none_noted}
use Rattle.modules_sources.proofs.Outcomes.{if_err, ok_says, on_ok}
use Rattle.modules_sources.proofs.load.Loader.load_files.Goals as goal

pub returns-clause-numbers : goal.returns-clause-numbers
returns-clause-numbers g c = ok_says c.check.result c.in_ok-load_reached.ensures.numbers

pub returns-clause-grown : goal.returns-clause-grown
returns-clause-grown g c = ok_says c.check.result c.in_ok-load_reached.ensures.grown

pub returns-in_err-load_reached-clause-refused : goal.returns-in_err-load_reached-clause-refused
returns-in_err-load_reached-clause-refused g c =
    let p = err_from_is_err_and c.from_residual-in_err-load_reached.result c.from_residual-in_err-load_reached.ensures.1 in
    rw (p.1, p.2) (λ n le alone. refused_import (c.in_err-load_reached.ensures.refused n c.args.key.now le (none_noted c.args.self.now.files.sources.now (g.E.Expander.expansion c.args.self.now.expander.now) c.args.self.now.config.now.version c.args.module c.args.key.now
    (drop c.args.first c.args.files.now.items) c.begin.new.self alone (c.in_ok-begin.ensures.reached [] c.new-reached.ensures.reached) (ap (λ v. v.items) c.in_ok-begin.ensures.imports ∙ c.new-reached.ensures.imports))))

pub returns-clause-own_files : goal.returns-clause-own_files
returns-clause-own_files g c = on_ok c.check.result c.check.ensures.no_cycle (λ none le alone.
    let h = c.in_ok-load_reached.ensures.noted c.args.key.now le (none_noted c.args.self.now.files.sources.now (g.E.Expander.expansion c.args.self.now.expander.now) c.args.self.now.config.now.version c.args.module c.args.key.now
    (drop c.args.first c.args.files.now.items) c.begin.new.self alone (c.in_ok-begin.ensures.reached [] c.new-reached.ensures.reached) (ap (λ v. v.items) c.in_ok-begin.ensures.imports ∙ c.new-reached.ensures.imports)) in
    record { places = rows c.load_reached.new.reached.imports.items; order = record { imports = h.imports; followed = h.followed; are = h.places }; no_cycle = none })

pub returns-clause-refused : goal.returns-clause-refused
returns-clause-refused g c = if_err c.check.result c.check.ensures.cycle (λ e step n le alone.
    let h = c.in_ok-load_reached.ensures.noted c.args.key.now le (none_noted c.args.self.now.files.sources.now (g.E.Expander.expansion c.args.self.now.expander.now) c.args.self.now.config.now.version c.args.module c.args.key.now
    (drop c.args.first c.args.files.now.items) c.begin.new.self alone (c.in_ok-begin.ensures.reached [] c.new-reached.ensures.reached) (ap (λ v. v.items) c.in_ok-begin.ensures.imports ∙ c.new-reached.ensures.imports)) in
    refused_cycle (record { files = c.load_reached.new.files.items; places = rows c.load_reached.new.reached.imports.items; order = record { imports = h.imports; followed = h.followed; are = h.places }; step = subst (λ fs. IsStepBack (rows c.load_reached.new.reached.imports.items) fs c.args.first e) c.as_slice.ensures.value (step n) }))
