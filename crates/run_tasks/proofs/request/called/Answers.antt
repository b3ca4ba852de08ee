use Rattle.std.proofs.Common.{◌∙◌, ap, map}
use Rattle.analyze_words.specs.Worded.{row_of}
use Rattle.run_tasks.proofs.Requested.Refused.{by_lent, by_rows}
use Rattle.run_tasks.proofs.request.called.Goals as goal

pub returns-clause-invoked : goal.returns-clause-invoked
returns-clause-invoked c = λ all. record {
  rows = map row_of c.in_ok-invocations.invocations.items;
  by_menus = by_lent c.args.compilation.now c.deref-2.result.now c.args.analysis.now.table.value c.as_slice-settings.result.now c.args.analysis.now.values.value.settings.items c.args.words.now _ c.deref-2.ensures (c.as_slice-settings.ensures.value ∙ ap (λ values. values.settings.items) c.deref.ensures) (c.in_ok-invocations.ensures.found all);
  are = c.in_ok-calls_of.ensures ∙ by_rows c.in_ok-invocations.invocations.items;
}
