-- What is resolved breaks no rule on names, and a refusal names one that is broken.
use Rattle.just_resolve.proofs.Judged.{clear_of, named_of}
use Rattle.just_resolve.proofs.analyzer.Analyzer.analyze.Goals as goal

pub returns-clause-clear : goal.returns-clause-clear
returns-clause-clear c = clear_of c.args.compilation.now _ c.args.overrides.now c.analyze_words.result c.analyze_words.ensures.analysis

pub returns-clause-broken : goal.returns-clause-broken
returns-clause-broken c = named_of c.args.compilation.now c.args.overrides.now c.analyze_words.result c.analyze_words.ensures.refused
