-- What was asked so far, and that whatever the variables that are left lead to, all lead to.
use Rattle.std.proofs.Common.{map, drop}
use Rattle.std.specs.String.{string_bytes}
use Rattle.just_host.specs.Kinds.{AsksQuestions}
use Rattle.evaluate_context.specs.Environment as environment
use Rattle.evaluate_builtins.proofs.Variables.{IsLedOn}
use Rattle.evaluate_builtins.proofs.variable.variable.Given as goal

abbrev pub invariant-loop-name : goal.invariant-loop-name
invariant-loop-name g l =
    AsksQuestions g.H.Host.goes l.initial.host l.host
    × IsLedOn (map environment.variable l.fn.dotenv.entries) (map string_bytes l.name-items) (map string_bytes (drop l.name-index l.name-items)) l.initial.host.entries l.host.entries
