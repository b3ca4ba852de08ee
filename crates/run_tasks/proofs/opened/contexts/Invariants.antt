-- Each context so far has the configuration, and they are the first of all.
use Rattle.std.specs.Prelude.{◌≡◌}
use Rattle.std.specs.List.{All}
use Rattle.analyze_calls.specs.Opening.{opened_rows}
use Rattle.run_tasks.proofs.Standing.{BeginWith}
use Rattle.run_tasks.proofs.opened.contexts.Given as goal

abbrev pub invariant-loop-module : goal.invariant-loop-module
invariant-loop-module l = record {
  configured : All (λ here. here.config.now ≡ l.context.config.now) l.contexts.items;
  begin : BeginWith l.context (opened_rows l.opened) l.modules l.module l.contexts.items;
}
