-- What the functions so far call, and whether they ask.
use Rattle.std.proofs.Common.{◌≡◌, ◌++◌, map, take}
use Rattle.resolve_order.specs.Needs.{rows}
use Rattle.justfile_analyzer.specs.Calls.{asks_in, called_by}
use Rattle.justfile_analyzer.proofs.calls.add_functions.Given as goal

abbrev pub invariant-loop-function : goal.invariant-loop-function
invariant-loop-function l = record {
  calls : rows l.graph.items ≡ rows l.initial.graph.items ++ map (called_by l.functions) (take l.function-index l.functions);
  asking : l.asks.items ≡ l.initial.asks.items ++ map (asks_in l.functions) (take l.function-index l.functions);
}
