-- With the views of the modules to come, the views are those of all.
use Rattle.std.proofs.Common.{◌≡◌, ◌++◌, ◌-◌, length, map}
use Rattle.std.specs.List.{filter_map, range_with_len}
use Rattle.resolve_analysis.specs.Views.{seen, view_at, views_of}
use Rattle.resolve_analysis.proofs.module_views.views.Given as goal

abbrev pub invariant-loop-module : goal.invariant-loop-module
invariant-loop-module l = map seen l.views.items ++ filter_map (view_at l.modules l.variables l.values) (range_with_len l.module (length l.modules - l.module)) ≡ views_of l.modules l.variables l.values (length l.modules)
