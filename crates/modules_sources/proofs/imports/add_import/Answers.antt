-- The item's file, where it names one.
use Rattle.std.proofs.Common.{map, ap, sym, ◌∙◌, ◌∷◌, [], Ok}
use Rattle.std.specs.Prelude.{option_map}
use Rattle.std.proofs.lemmas.List.{map-append}
use Rattle.std.proofs.lemmas.Result.{err_from_is_err_and}
use Rattle.modules_files.specs.Chosen.{view}
use Rattle.modules_sources.specs.Items.{import_of, line_of_import}
use Rattle.modules_sources.proofs.Importing.{adds_none, adds_nothing, adds_one, import_refused}
use Rattle.modules_sources.proofs.imports.add_import.Goals as goal

pub returns-in_default-clause-found : goal.returns-in_default-clause-found
returns-in_default-clause-found c = adds_nothing c.args.sources.now c.args.key.now (import_of c.args.item.now) (map view c.args.found.now.items) c.in_default.ensures

pub returns-in_err-source-clause-refused : goal.returns-in_err-source-clause-refused
returns-in_err-source-clause-refused c =
    let p = err_from_is_err_and c.from_residual.result c.from_residual.ensures.1 in
    rw (p.1, p.2) (λ n. import_refused c.args.sources.now c.args.key.now (import_of c.args.item.now) (line_of_import c.in-Some.import) c.in_err-source.field-0.0 c.in-Some.ensures n c.in_err-source.ensures)

pub returns-in_default-2-clause-found : goal.returns-in_default-2-clause-found
returns-in_default-2-clause-found c =
    adds_none c.args.sources.now c.args.key.now (import_of c.args.item.now) (line_of_import c.in-Some.import) (map view c.args.found.now.items) c.in-Some.ensures (ap (λ o. Ok (option_map view o)) (sym c.in_default-2.is) ∙ c.in_ok-source.ensures)

pub returns-clause-found : goal.returns-clause-found
returns-clause-found c =
    adds_one c.args.sources.now c.args.key.now (import_of c.args.item.now) (line_of_import c.in-Some.import) (map view c.args.found.now.items) _ (view c.in-Some-2.source) c.in-Some.ensures (ap (λ o. Ok (option_map view o)) (sym c.in-Some-2.is) ∙ c.in_ok-source.ensures)
    (ap (map view) c.in_ok-push.ensures.items ∙ map-append view c.args.found.now.items (c.in-Some-2.source ∷ []))
