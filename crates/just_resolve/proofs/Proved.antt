-- The laws on names, which are proved.
use Rattle.laws_names.proofs.Constants.Broken.{constants_are_told}
use Rattle.laws_names.proofs.Constants.Lists.{lists_are_said}
use Rattle.laws_names.proofs.Depending.Clear.{dependencies_are_clear}
use Rattle.laws_names.proofs.Depending.Cycles.{cycles_are_told}
use Rattle.laws_names.proofs.Depending.Refused.{disabled_dependencies_are_told}
use Rattle.laws_names.proofs.Depending.Told.{aliases_are_told, kept_dependencies_are_told}
use Rattle.laws_names.proofs.Depending.Walks.{cycles_are_clear}
use Rattle.laws_names.proofs.Overriding.Texts.{named_overrides_are_known, unnamed_overrides_are_unknown}
use Rattle.laws_names.proofs.Reading.Clear.{reads_are_clear}
use Rattle.laws_names.proofs.Reading.Cycles.{cycles_are_broken, orders_have_no_cycle}
use Rattle.laws_names.proofs.Reading.References.{recipe_references_are_seen, setting_references_are_seen}
use Rattle.laws_names.proofs.Reading.Told.{reads_are_told, refusals_are_told}
use Rattle.just_resolve.proofs.Laws.{Laws}

pub laws : Laws
laws = record {
  unnamed_overrides = unnamed_overrides_are_unknown;
  named_overrides = named_overrides_are_known;
  refusals = refusals_are_told;
  reads = reads_are_told;
  clear_reads = reads_are_clear;
  variable_cycles = cycles_are_broken;
  variable_orders = orders_have_no_cycle;
  setting_references = setting_references_are_seen;
  recipe_references = recipe_references_are_seen;
  disabled_dependencies = disabled_dependencies_are_told;
  kept_dependencies = kept_dependencies_are_told;
  clear_dependencies = dependencies_are_clear;
  recipe_cycles = cycles_are_told;
  clear_recipe_cycles = cycles_are_clear;
  aliases = aliases_are_told;
  lists = lists_are_said;
  constants = λ overrides. constants_are_told overrides;
}
