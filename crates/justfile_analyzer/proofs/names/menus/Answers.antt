-- What the parts hold, together.
use Rattle.std.proofs.Common.{subst}
use Rattle.justfile_analyzer.specs.MenuRows.{AreCallables, AreNamedBy}
use Rattle.justfile_analyzer.proofs.MenusMade.{menus_made}
use Rattle.justfile_analyzer.proofs.names.menus.Goals as goal

pub returns : goal.returns
returns c = λ all.
    let named = c.in_ok-named.named in
    let recipes = c.in_ok-recipes.recipes.items in
    menus_made c.args.compilation.now c.args.table.now c.args.settings.now c.args.words.now c.in_ok-wanted.wanted named _ c.in_ok-wanted.ensures (c.in_ok-modules.ensures all)
    (subst (λ ms. AreNamedBy ms named) c.as_slice.ensures.value c.in_ok-named.ensures)
    (subst (λ rs. AreCallables c.args.compilation.now named rs recipes) c.as_slice-2.ensures.value c.in_ok-recipes.ensures) c.default_list.ensures
