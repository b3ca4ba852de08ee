-- Views of an analysis have what their modules keep.
use Rattle.std.proofs.Common.{◌≡◌, refl, sym, ◌∙◌, ap, List, Option, Some, None, ℕ}
use Rattle.std.specs.Prelude.{slice_get}
use Rattle.std.specs.List.{range_with_len}
use Rattle.std.specs.Global.{Vec}
use Rattle.std.proofs.lemmas.Option.{none-some, same_Some}
use Rattle.evaluate_context.specs.declared.context.ExecutionContext.{ExecutionContext}
use Rattle.evaluate_context.specs.declared.settings.Settings.{Settings}
use Rattle.modules_compilation.specs.declared.module_node.ModuleNode.{ModuleNode}
use Rattle.resolve_analysis.specs.Views.{View, seen, view_at, view_of}
use Rattle.resolve_analysis.specs.declared.module_lists.ModuleLists.{ModuleLists}
use Rattle.resolve_analysis.specs.declared.variables.ModuleVariables.{ModuleVariables}
use Rattle.just_resolve.proofs.Refusing.{kept_comes}
use Rattle.laws_runs.specs.Views.Known.{IsSeenAt, ViewsAreSeen}

module _ (modules : List ModuleNode) (variables : ModuleVariables) (context : ExecutionContext) (k : ℕ) where
  abbrev own : View
  own = seen context.module.now

  -- what a view is made of
  by_parts : (node : Option ModuleNode) (lists : Option ModuleLists) (order : Option (Vec ℕ)) (settings : Option Settings) (folder : Option (List ℕ)) → slice_get variables.lists.items k ≡ lists → slice_get variables.orders.items k ≡ order
      → view_of modules k node lists order settings folder ≡ Some own → IsSeenAt variables context.module.now.place context
  by_parts None lists order settings folder there placed e = absurd (none-some own e)
  by_parts (Some node) None order settings folder there placed e = absurd (none-some own e)
  by_parts (Some node) (Some lists) None settings folder there placed e = absurd (none-some own e)
  by_parts (Some node) (Some lists) (Some order) None folder there placed e = absurd (none-some own e)
  by_parts (Some node) (Some lists) (Some order) (Some settings) None there placed e = absurd (none-some own e)
  by_parts (Some node) (Some lists) (Some order) (Some settings) (Some folder) there placed e =
      let same = same_Some _ own e in
      let place = ap (λ (v : View). v.place) same in
      record {
        lists = lists;
        lists_there = ap (slice_get variables.lists.items) (sym place) ∙ there;
        order = order;
        order_there = ap (slice_get variables.orders.items) (sym place) ∙ placed;
        assignments = ap (λ (v : View). v.assignments) (sym same);
        functions = ap (λ (v : View). v.functions) (sym same);
        evaluation_order = ap (λ (v : View). v.evaluation_order) (sym same);
      }

pub views_are_seen : ViewsAreSeen
views_are_seen modules variables values count context listed =
    let comes = kept_comes (view_at modules variables values) (range_with_len 0 count) (seen context.module.now) listed in
    by_parts modules variables context comes.x (slice_get modules comes.x) (slice_get variables.lists.items comes.x) (slice_get variables.orders.items comes.x) (slice_get values.settings.items comes.x) (slice_get values.folders.items comes.x) refl refl comes.is
