-- Recipe by recipe.
use Rattle.std.proofs.Common.{◌∙◌, sym, eqb-true}
use Rattle.std.proofs.lemmas.Bool.{eqb-false}
use Rattle.std.proofs.lemmas.Result.{err_from_is_err_and}
use Rattle.analyze_words.specs.Worded.{words_of}
use Rattle.analyze_words.proofs.Invoking.{reading_breaks, reading_done, reading_on}
use Rattle.analyze_words.proofs.parser.InvocationParser.read_all.Goals as goal

pub returns-in_err-left-clause-refused : goal.returns-in_err-left-clause-refused
returns-in_err-left-clause-refused c =
    let w = words_of c.args.self.now.menus.now in
    let p = err_from_is_err_and c.from_residual.result c.from_residual.ensures.1 in
    rw (p.1, p.2) (λ a. reading_breaks w _ _ _ _ _ c.loop-left.invariant a c.in_err-left.ensures.refused)

pub returns-then-is_empty-clause-found : goal.returns-then-is_empty-clause-found
returns-then-is_empty-clause-found c = λ a. reading_done (words_of c.args.self.now.menus.now) _ _ _ _ _ _ (eqb-true _ 0 (sym c.is_empty.ensures ∙ c.if-is_empty.true)) c.loop-left.invariant c.in_ok-left.ensures.found a

pub loop-left-preserved : goal.loop-left-preserved
loop-left-preserved c = reading_on (words_of c.args.self.now.menus.now) _ _ _ _ _ _ (eqb-false _ 0 (sym c.is_empty.ensures ∙ c.if-is_empty.false)) c.loop-left.invariant c.in_ok-left.ensures.found
