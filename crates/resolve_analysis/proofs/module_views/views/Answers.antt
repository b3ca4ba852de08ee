-- A view more.
use Rattle.std.proofs.Common.{◌≡◌, ◌+◌, ◌-◌, ◌++◌, ◌∷◌, ◌∙◌, ap, length, map, sym}
use Rattle.std.specs.Option.{option_map}
use Rattle.std.specs.List.{filter_map, range_with_len}
use Rattle.resolve_analysis.specs.Views.{seen, view_at}
use Rattle.resolve_analysis.proofs.Mapped.{given_more, given_none}
use Rattle.resolve_analysis.proofs.Ranges.{range_more}
use Rattle.resolve_analysis.proofs.module_views.views.Goals as goal
use Rattle.resolve_analysis.proofs.module_views.views.Goals.{in-Some+in_ok-push, in_default}

pub loop-module-preserved : goal.loop-module-preserved
loop-module-preserved c =
    let i = c.loop-module.module in
    let n = length c.args.modules.now in
    let gives = view_at c.args.modules.now c.args.variables.now c.args.values.now in
    let before = c.loop-module.views.items in
    let left = range_with_len i (n - i) in
    let rest = range_with_len (i + 1) (n - (i + 1)) in
    let next : left ≡ i ∷ rest = range_more i n c.loop-module-test.true in
    elim c.match-view_of.branch [
      | in-Some+in_ok-push w ↦
          ap (λ views. map seen views.items ++ filter_map gives rest) w.views-is
          ∙ given_more seen gives i left rest before next w.push.new.self.items w.in-Some.view (sym c.view_of.ensures ∙ ap (option_map seen) w.in-Some.is) w.in_ok-push.ensures.items
          ∙ c.loop-module.invariant
      | in_default w ↦
          ap (λ views. map seen views.items ++ filter_map gives rest) w.views-is
          ∙ given_none seen gives i left rest before next (sym c.view_of.ensures ∙ ap (option_map seen) w.in_default.is)
          ∙ c.loop-module.invariant
    ]
