-- With the variables to come, each number has its last place among all.
use Rattle.std.proofs.Common.{◌≡◌, ℕ, drop}
use Rattle.std.specs.Option.{option_or}
use Rattle.resolve_references.specs.Places.{variable_in}
use Rattle.resolve_analysis.specs.Lists.{variables_in}
use Rattle.resolve_analysis.specs.Reads.{last_found, place_if_numbered}
use Rattle.resolve_analysis.proofs.module_reads.add_variables.Given as goal

abbrev pub invariant-loop-place : goal.invariant-loop-place
invariant-loop-place l = record {
  places : (number : ℕ) → option_or (last_found (place_if_numbered number) l.place (variables_in (drop l.place l.assignments))) (variable_in l.resolver number) ≡ option_or (last_found (place_if_numbered number) 0 (variables_in l.assignments)) (variable_in l.initial.resolver number);
  variables : l.resolver.variables ≡ l.initial.resolver.variables;
  functions : l.resolver.functions ≡ l.initial.resolver.functions;
}
