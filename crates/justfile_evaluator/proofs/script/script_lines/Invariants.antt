-- What was asked so far, and what the lines that are left give after these texts.
use Rattle.just_host.specs.Kinds.{AsksQuestions}
use Rattle.justfile_evaluator.specs.Bodies.{IsBodyOf, NamedBody}
use Rattle.justfile_evaluator.specs.declared.site.Site.{Site}
use Rattle.justfile_evaluator.proofs.Scripts.{Leads}
use Rattle.justfile_evaluator.proofs.script.script_lines.Given as goal

abbrev pub invariant-loop-line : goal.invariant-loop-line
invariant-loop-line g l = record {
  asks : AsksQuestions g.H.Host.goes l.initial.host l.host;
  leads : (b : NamedBody) (site : Site) → IsBodyOf b site l.evaluator l.body → Leads b site l.evaluator l.body l.line-index l.initial.host.entries l.host.entries l.lines.items;
}
