-- The root was read, and all is loaded that it leads to.
use Rattle.std.proofs.Common.{◌≡◌, ◌++◌, ◌∷◌, [], ap, subst, ◌∙◌}
use Rattle.modules_compilation.specs.declared.module_node.File.{File as LoadedFile}
use Rattle.std.proofs.lemmas.Result.{err_from_is_err_and}
use Rattle.modules_sources.specs.Loaded.{IsBelowRefused, below_refused, root_missing, AreLoaded}
use Rattle.modules_sources.proofs.Entering.{root_begun}
use Rattle.modules_sources.proofs.Outcomes.{if_err, on_ok}
use Rattle.modules_sources.proofs.load.load_parsed.Goals as goal

pub returns-clause-loaded : goal.returns-clause-loaded
returns-clause-loaded g c = on_ok c.load_behind.result c.load_behind.ensures.loaded (λ on start is_read no_files no_modules root_read.
    let file : LoadedFile = record { key = c.args.root; «module» = 0; depth = 0; ast = c.args.parsed.ast } in
    let whole : c.add_root.new.compilation.files.items ≡ file ∷ [] = c.in_ok-add_root.ensures.files ∙ ap (λ fs. fs ++ file ∷ []) no_files in
    subst (λ own. AreLoaded c.args.sources.now (g.E.Expander.expansion c.args.expander.now) c.args.config.now.version c.args.config.now.os start is_read own c.load_behind.new.compilation) c.in_ok-source.ensures.found.0
    (on start is_read (root_begun c.args.sources.now (g.E.Expander.expansion c.args.expander.now) c.args.config.now.version c.args.config.now.os start is_read c.args.root c.args.parsed c.in_ok-source.source c.add_root.new.compilation whole (c.in_ok-add_root.ensures.modules ∙ no_modules)
    c.in_ok-source.ensures.found.0 c.in_ok-source.ensures.clean root_read)))

pub returns-in_err-source-clause-refused : goal.returns-in_err-source-clause-refused
returns-in_err-source-clause-refused g c =
    let p = err_from_is_err_and c.from_residual-in_err-source.result c.from_residual-in_err-source.ensures.1 in
    rw (p.1, p.2) (λ n start is_read no_files no_modules root_read. root_missing c.in_err-source.ensures.missing)

pub returns-clause-refused : goal.returns-clause-refused
returns-clause-refused g c = if_err c.load_behind.result c.load_behind.ensures.refused (λ e refused n start is_read no_files no_modules root_read.
    let sources = c.args.sources.now in
    let expansion = g.E.Expander.expansion c.args.expander.now in
    let version = c.args.config.now.version in
    let file : LoadedFile = record { key = c.args.root; «module» = 0; depth = 0; ast = c.args.parsed.ast } in
    let whole : c.add_root.new.compilation.files.items ≡ file ∷ [] = c.in_ok-add_root.ensures.files ∙ ap (λ fs. fs ++ file ∷ []) no_files in
    let known = c.in_ok-source.ensures.found in
    below_refused (subst (λ own. IsBelowRefused sources expansion version c.args.config.now.os start is_read own e) known.0
    (refused n start is_read (root_begun sources expansion version c.args.config.now.os start is_read c.args.root c.args.parsed c.in_ok-source.source c.add_root.new.compilation whole (c.in_ok-add_root.ensures.modules ∙ no_modules) known.0 c.in_ok-source.ensures.clean root_read))))
