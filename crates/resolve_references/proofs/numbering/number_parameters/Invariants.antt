-- The parameters are written as before, and those before the place have their numbers.
use Rattle.std.proofs.Common.{◌≡◌, length, map, take}
use Rattle.tree_items.specs.Recipes.{parameter_shape}
use Rattle.resolve_references.specs.Numbered.{bare_parameter}
use Rattle.resolve_references.proofs.Earlier.{AreNumberedSoFar}
use Rattle.resolve_references.proofs.Saying.{own_said}
use Rattle.resolve_references.proofs.numbering.number_parameters.Given as goal

abbrev pub invariant-loop-index : goal.invariant-loop-index
invariant-loop-index l = record {
  many : length l.parameters.items ≡ length l.initial.parameters.items;
  shapes : map parameter_shape l.parameters.items ≡ map parameter_shape l.initial.parameters.items;
  bare : map bare_parameter l.parameters.items ≡ map bare_parameter l.initial.parameters.items;
  said : map own_said l.parameters.items ≡ map own_said l.initial.parameters.items;
  numbers : AreNumberedSoFar l.bindings l.earlier (take l.index l.parameters.items);
}
