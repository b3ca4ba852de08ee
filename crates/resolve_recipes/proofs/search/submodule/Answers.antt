-- A comparison halves what is left.
use Rattle.std.proofs.Common.{sym, ap, ◌∙◌}
use Rattle.std.proofs.lemmas.Cmp.{nat_list_cmp_total}
use Rattle.modules_compilation.specs.Tables.{text_cmp}
use Rattle.resolve_recipes.specs.Named.{module_text}
use Rattle.resolve_recipes.proofs.Searching.{starts, ends, lowered, met, raised, by_text}
use Rattle.resolve_recipes.proofs.search.submodule.Goals as goal

pub loop-rest-init : goal.loop-rest-init
loop-rest-init c sorted = starts nat_list_cmp_total (module_text c.args.modules.now) c.args.name.now c.args.submodules.now sorted

pub loop-rest-preserved-in-Less : goal.loop-rest-preserved-in-Less
loop-rest-preserved-in-Less c sorted = lowered nat_list_cmp_total (module_text c.args.modules.now) c.args.name.now _ _ _ (c.loop-rest.invariant sorted) _ _ _ _ _ c.split_at.ensures.front c.split_at.ensures.back c.in-Some.ensures.cases.0
    (ap (text_cmp c.args.name.now) (sym c.own_name.ensures) ∙ sym c.in-Less.ensures)

pub loop-rest-preserved-in-Equal : goal.loop-rest-preserved-in-Equal
loop-rest-preserved-in-Equal c sorted = met nat_list_cmp_total (module_text c.args.modules.now) c.args.name.now _ _ _ (c.loop-rest.invariant sorted) _ _ _ _ _ c.split_at.ensures.front c.split_at.ensures.back c.in-Some.ensures.cases.0
    (ap (text_cmp c.args.name.now) (sym c.own_name.ensures) ∙ sym c.in-Equal.ensures)

pub loop-rest-preserved : goal.loop-rest-preserved
loop-rest-preserved c sorted = raised nat_list_cmp_total (module_text c.args.modules.now) c.args.name.now _ _ _ (c.loop-rest.invariant sorted) _ _ _ _ _ c.split_at.ensures.front c.split_at.ensures.back c.in-Some.ensures.cases.0
    (ap (text_cmp c.args.name.now) (sym c.own_name.ensures) ∙ sym c.in-Greater.ensures)

pub returns : goal.returns
returns c = record { found = λ sorted. ends nat_list_cmp_total (module_text c.args.modules.now) c.args.name.now _ _ _ (c.loop-rest.invariant sorted) c.loop-rest-test.ensures ∙ by_text (module_text c.args.modules.now) c.args.name.now c.args.submodules.now }
