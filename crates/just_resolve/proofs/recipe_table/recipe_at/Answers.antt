-- The recipe, its row and its module are there.
use Rattle.std.proofs.Common.{◌≡◌, ◌∙◌, ap, length, map, refl, sym, Some}
use Rattle.std.specs.List.{slice_get}
use Rattle.std.specs.Option.{option_map}
use Rattle.std.proofs.lemmas.Option.{slice_get-map, slice_get_read}
use Rattle.resolve_order.specs.Needs.{rows}
use Rattle.resolve_recipes.specs.Nodes.{view}
use Rattle.resolve_analysis.specs.declared.module_reads.ModuleReads.{ModuleReads}
use Rattle.just_resolve.specs.Recipes.{resolved, resolved_with}
use Rattle.just_resolve.proofs.recipe_table.recipe_at.Goals as goal

pub returns-clause-ok : goal.returns-clause-ok
returns-clause-ok c =
    let nodes = c.args.nodes.now in
    let reads = c.args.reads.now in
    let needs = c.args.needs.now in
    let ranks = c.args.ranks.now in
    let place = c.args.place in
    let node = c.in-Some.node.now in
    let row = c.in-Some-get.row.now in
    let home = c.in-Some-get-2.home.now in
    let one : slice_get (map view nodes) place ≡ Some (view node) = slice_get-map view nodes place ∙ ap (option_map view) (slice_get_read nodes (length nodes) place node refl c.in-Some.ensures.lookup.3.0 c.in-Some.ensures.lookup.1) in
    let two : slice_get (rows needs) place ≡ Some row.items = slice_get-map (λ row. row.items) needs place ∙ ap (option_map (λ row. row.items)) (slice_get_read needs (length needs) place row refl c.in-Some-get.ensures.lookup.3.0 c.in-Some-get.ensures.lookup.1) in
    let three : slice_get reads node.module ≡ Some home = slice_get_read reads (length reads) node.module home refl c.in-Some-get-2.ensures.lookup.3.0 c.in-Some-get-2.ensures.lookup.1 in
    ap (λ kept. resolved_with reads ranks kept (slice_get (rows needs) place)) one
    ∙ ap (resolved_with reads ranks (Some (view node))) two
    ∙ ap (option_map (λ (home : ModuleReads). resolved home.resolver ranks (view node) row.items)) three
    ∙ ap (λ r. Some r) (ap (resolved home.resolver ranks (view node)) (sym c.as_slice.ensures.value) ∙ c.in_ok-recipe.ensures.ok)
