-- The lines of the variables so far are there.
use Rattle.std.proofs.Common.{◌≡◌, ◌++◌, take}
use Rattle.std.specs.List.{flat_map}
use Rattle.std.specs.String.{string_bytes}
use Rattle.justfile_analyzer.specs.Variables.{variable_line}
use Rattle.justfile_analyzer.proofs.variables.variables_text.Given as goal

abbrev pub invariant-loop-variable : goal.invariant-loop-variable
invariant-loop-variable l = string_bytes l.text ≡ flat_map (variable_line l.scope l.column) (take l.variable-index l.variables)
