-- A comparison halves what is left.
use Rattle.std.proofs.Common.{sym, ap, ◌∙◌}
use Rattle.modules_compilation.specs.Fronts.{front_of}
use Rattle.resolve_recipes.specs.Named.{key_cmp, row_key}
use Rattle.resolve_recipes.proofs.Named.{by_front, key_total}
use Rattle.resolve_recipes.proofs.Searching.{starts, ends, lowered, met, raised}
use Rattle.resolve_recipes.proofs.search.recipe.Goals as goal

pub loop-rest-init : goal.loop-rest-init
loop-rest-init c sorted = starts key_total (row_key c.args.compilation.now) (front_of c.args.name.now, c.args.name.now) c.args.recipes.now sorted.1

pub loop-rest-preserved-in-Less : goal.loop-rest-preserved-in-Less
loop-rest-preserved-in-Less c sorted = lowered key_total (row_key c.args.compilation.now) (front_of c.args.name.now, c.args.name.now) _ _ _ (c.loop-rest.invariant sorted) _ _ _ _ _ c.split_at.ensures.front c.split_at.ensures.back c.in-Some.ensures.cases.0
    (ap (λ f. key_cmp (f, c.args.name.now) (row_key c.args.compilation.now c.in-Some.middle.now)) (sym c.front-wanted.ensures) ∙ sym c.in-Less.ensures)

pub loop-rest-preserved-in-Equal : goal.loop-rest-preserved-in-Equal
loop-rest-preserved-in-Equal c sorted = met key_total (row_key c.args.compilation.now) (front_of c.args.name.now, c.args.name.now) _ _ _ (c.loop-rest.invariant sorted) _ _ _ _ _ c.split_at.ensures.front c.split_at.ensures.back c.in-Some.ensures.cases.0
    (ap (λ f. key_cmp (f, c.args.name.now) (row_key c.args.compilation.now c.in-Some.middle.now)) (sym c.front-wanted.ensures) ∙ sym c.in-Equal.ensures)

pub loop-rest-preserved : goal.loop-rest-preserved
loop-rest-preserved c sorted = raised key_total (row_key c.args.compilation.now) (front_of c.args.name.now, c.args.name.now) _ _ _ (c.loop-rest.invariant sorted) _ _ _ _ _ c.split_at.ensures.front c.split_at.ensures.back c.in-Some.ensures.cases.0
    (ap (λ f. key_cmp (f, c.args.name.now) (row_key c.args.compilation.now c.in-Some.middle.now)) (sym c.front-wanted.ensures) ∙ sym c.in-Greater.ensures)

pub returns : goal.returns
returns c = record { found = λ sorted. ends key_total (row_key c.args.compilation.now) (front_of c.args.name.now, c.args.name.now) _ _ _ (c.loop-rest.invariant sorted) c.loop-rest-test.ensures ∙ by_front c.args.compilation.now c.args.name.now c.args.recipes.now sorted.0 }
