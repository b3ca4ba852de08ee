-- One item more, or its refusal.
use Rattle.std.proofs.Common.{map}
use Rattle.std.proofs.lemmas.Result.{err_from_is_err_and}
use Rattle.modules_files.specs.Chosen.{view}
use Rattle.modules_sources.specs.Imports.{imports_among}
use Rattle.modules_sources.proofs.Importing.{imports_done, imports_further, imports_refused, none_before}
use Rattle.modules_sources.proofs.imports.imports_among.Goals as goal

pub loop-item-init : goal.loop-item-init
loop-item-init c = rw c.new-found.ensures.items (none_before (imports_among c.args.sources.now c.args.key.now c.args.items.now))

pub loop-item-preserved : goal.loop-item-preserved
loop-item-preserved c =
    let h = c.in_ok-add_import.ensures.found in
    imports_further c.args.sources.now c.args.key.now c.args.items.now c.loop-item.item-index c.item-item.result (map view c.loop-item.found.items) (map view c.add_import.new.found.items) h.0 c.loop-item-test.true c.item-item.is h.1 h.2
    c.loop-item.invariant

pub returns-in_err-add_import-clause-refused : goal.returns-in_err-add_import-clause-refused
returns-in_err-add_import-clause-refused c =
    let p = err_from_is_err_and c.from_residual.result c.from_residual.ensures.1 in
    rw (p.1, p.2) (λ n. imports_refused c.args.sources.now c.args.key.now c.args.items.now c.loop-item.item-index c.item-item.result (map view c.loop-item.found.items) c.in_err-add_import.field-0.0 c.loop-item-test.true c.item-item.is
    (c.in_err-add_import.ensures.refused n) c.loop-item.invariant)

pub returns-clause-found : goal.returns-clause-found
returns-clause-found c = imports_done c.args.sources.now c.args.key.now c.args.items.now c.loop-item.item-index (map view c.loop-item.found.items) c.loop-item-test.false c.loop-item.invariant
