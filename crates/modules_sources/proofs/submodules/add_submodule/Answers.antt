-- The item's submodule, where it is one that has a file.
use Rattle.std.proofs.Common.{map, ap, subst, ◌∙◌, ◌∷◌, [], Ok}
use Rattle.std.specs.Prelude.{option_map}
use Rattle.std.proofs.lemmas.List.{map-append}
use Rattle.std.proofs.lemmas.Result.{err_from_is_err_and}
use Rattle.modules_files.specs.Chosen.{view}
use Rattle.modules_sources.specs.Items.{line_of_module, module_of}
use Rattle.modules_sources.specs.Submodules.{IsAnswer, found_view}
use Rattle.modules_sources.proofs.Gathering.{adds_none, adds_nothing, adds_one, chosen_answers, chosen_refuses, refuses}
use Rattle.modules_sources.proofs.submodules.add_submodule.Goals as goal

pub returns-in_default-clause-found : goal.returns-in_default-clause-found
returns-in_default-clause-found c = adds_nothing c.args.files.now c.args.os c.args.key.now (module_of c.args.os c.args.item.now) c.args.place (map found_view c.args.found.now.items) c.in_default.ensures

pub returns-in_err-source-clause-refused : goal.returns-in_err-source-clause-refused
returns-in_err-source-clause-refused c =
    let p = err_from_is_err_and c.from_residual.result c.from_residual.ensures.1 in
    let e = c.in_err-source.field-0.0 in
    rw (p.1, p.2) (λ n. refuses c.args.files.now c.args.os c.args.key.now (module_of c.args.os c.args.item.now) (line_of_module c.in-Some.module) e c.in-Some.ensures
    (chosen_refuses c.args.files.now c.args.os c.args.key.now c.in-Some.module e n c.in_err-source.ensures))

pub returns-in_default-2-clause-found : goal.returns-in_default-2-clause-found
returns-in_default-2-clause-found c =
    adds_none c.args.files.now c.args.os c.args.key.now (module_of c.args.os c.args.item.now) (line_of_module c.in-Some.module) c.args.place (map found_view c.args.found.now.items) c.in-Some.ensures
    (subst (λ o. IsAnswer c.args.files.now c.args.os c.args.key.now (line_of_module c.in-Some.module) (Ok (option_map view o))) c.in_default-2.is (chosen_answers c.args.files.now c.args.os c.args.key.now c.in-Some.module c.in_ok-source.field-0 c.in_ok-source.ensures))

pub returns-clause-found : goal.returns-clause-found
returns-clause-found c =
    adds_one c.args.files.now c.args.os c.args.key.now (module_of c.args.os c.args.item.now) (line_of_module c.in-Some.module) c.args.place (map found_view c.args.found.now.items) _ (view c.in-Some-2.source) c.in-Some.ensures
    (subst (λ o. IsAnswer c.args.files.now c.args.os c.args.key.now (line_of_module c.in-Some.module) (Ok (option_map view o))) c.in-Some-2.is (chosen_answers c.args.files.now c.args.os c.args.key.now c.in-Some.module c.in_ok-source.field-0 c.in_ok-source.ensures)) (ap (map found_view) c.in_ok-push.ensures.items ∙ map-append found_view c.args.found.now.items (_ ∷ []))
