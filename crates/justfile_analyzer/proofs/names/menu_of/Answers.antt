-- Submodules take the place of recipes and aliases.
use Rattle.std.proofs.Common.{subst}
use Rattle.justfile_analyzer.specs.MenusOf.{submodule_meant}
use Rattle.justfile_analyzer.specs.MenuRows.{Gains}
use Rattle.justfile_analyzer.proofs.MenuRows.{menu_made}
use Rattle.justfile_analyzer.proofs.names.menu_of.Goals as goal

pub returns : goal.returns
returns c = λ by_name.
    let called = c.put_called.new.menu in
    let whole = c.put_submodules.new.menu in
    let modules = subst (λ ms. Gains (submodule_meant ms c.as_slice-2.result.now) called whole) c.as_slice.ensures.value c.in_ok-put_submodules.ensures in
    let submodules = subst (λ row. Gains (submodule_meant c.args.compilation.now.modules.items row) called whole) c.as_slice-2.ensures.value modules in
    record {
      names = menu_made c.new-menu.result called whole c.new-menu.ensures.names (c.in_ok-put_called.ensures by_name) submodules;
      default = c.default_recipe-menu.ensures;
    }
