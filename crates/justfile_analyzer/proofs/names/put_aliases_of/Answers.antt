-- The aliases of the module, or there are none.
use Rattle.std.proofs.Common.{None, cond, ap, ◌∙◌}
use Rattle.std.proofs.lemmas.Result.{on_ok_weaker}
use Rattle.justfile_analyzer.specs.MenusOf.{alias_meant, has_name}
use Rattle.justfile_analyzer.proofs.MenuRows.{aliases_there, gains_none, gains_same, no_aliases}
use Rattle.justfile_analyzer.proofs.names.put_aliases_of.Goals as goal

pub returns-then-module-aliases : goal.returns-then-module-aliases
returns-then-module-aliases c =
    gains_none c.args.menu.now (λ name. no_aliases c.args.table.now c.as_slice-aliases.result.now c.args.module c.as_slice-aliases.ensures.value c.if-module-aliases.true (has_name c.args.wanted.now name) name)

pub returns : goal.returns
returns c =
    let wanted = c.args.wanted.now in
    on_ok_weaker c.put_aliases.result
    (λ e. gains_same c.args.menu.now c.put_aliases.new.menu (λ name. ap (λ row. cond (has_name wanted name) (alias_meant row name) None) (c.as_slice.ensures.value ∙ aliases_there c.args.table.now c.as_slice-aliases.result.now c.args.module c.index-aliases-module.result c.as_slice-aliases.ensures.value c.if-module-aliases.false c.index-aliases-module.is)) e)
    c.put_aliases.ensures
