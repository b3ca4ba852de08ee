-- With the functions to come, each name is that of the last among all.
use Rattle.std.proofs.Common.{◌≡◌, ℕ, List, drop}
use Rattle.std.specs.Option.{option_or}
use Rattle.resolve_references.specs.Functions.{function_in}
use Rattle.resolve_analysis.specs.Lists.{functions_in}
use Rattle.resolve_analysis.specs.Reads.{defined_if_named, last_found}
use Rattle.resolve_analysis.proofs.module_reads.add_functions.Given as goal

abbrev pub invariant-loop-place : goal.invariant-loop-place
invariant-loop-place l = record {
  functions : (name : List ℕ) → option_or (last_found (defined_if_named name) l.place (functions_in (drop l.place l.functions))) (function_in l.resolver.functions name) ≡ option_or (last_found (defined_if_named name) 0 (functions_in l.functions)) (function_in l.initial.resolver.functions name);
  variables : l.resolver.variables ≡ l.initial.resolver.variables;
  numbers : l.resolver.numbers ≡ l.initial.resolver.numbers;
}
