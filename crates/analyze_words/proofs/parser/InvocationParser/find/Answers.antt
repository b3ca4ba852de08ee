-- A word whose path means nothing names no recipe.
use Rattle.std.proofs.Common.{◌≡◌, ◌∙◌, ◌∷◌, ap, sym}
use Rattle.std.proofs.lemmas.Result.{err_from_is_err_and}
use Rattle.meaning_runs.specs.Invokes as spec
use Rattle.analyze_words.specs.Worded.{words_of}
use Rattle.analyze_words.proofs.Paths.{find_broken}
use Rattle.analyze_words.proofs.parser.InvocationParser.find.Goals as goal

pub returns-in_err-place-clause-refused : goal.returns-in_err-place-clause-refused
returns-in_err-place-clause-refused c =
    let w = words_of c.args.self.now.menus.now in
    let here = c.loop-word.here in
    let text = c.as_str.result.now in
    let left : c.loop-word.left.now ≡ text ∷ c.in-Some.others.now = c.in-Some.ensures.cases.0 ∙ ap (λ t. t ∷ c.in-Some.others.now) (sym c.as_str.ensures) in
    let p = err_from_is_err_and c.from_residual.result c.from_residual.ensures.1 in
    rw (p.1, p.2) (λ some. let r = c.in_err-place.ensures.refused some in (r.0, (r.1.0, c.loop-word.invariant.0 ∙ ap (spec.find w here) left ∙ find_broken w here text c.in-Some.others.now r.0 r.1.1)))
