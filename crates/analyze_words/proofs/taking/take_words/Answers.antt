-- What is taken from the beginning on.
use Rattle.std.proofs.Common.{map, refl, sym, subst}
use Rattle.std.proofs.lemmas.Result.{err_from_is_err_and}
use Rattle.analyze_words.specs.Broken.{WordsBreak, untaken, incomplete}
use Rattle.analyze_words.specs.Worded.{slot_of}
use Rattle.meaning_runs.specs.Invokes.{beginning}
use Rattle.analyze_words.proofs.taking.take_words.Goals as goal

pub returns-in_err-left-clause-refused : goal.returns-in_err-left-clause-refused
returns-in_err-left-clause-refused c =
    let slots = map slot_of c.args.callable.now.slots.items in
    let words = c.args.words.now in
    let name = c.args.callable.now.name.now in
    let p = err_from_is_err_and c.from_residual-in_err-left.result c.from_residual-in_err-left.ensures.1 in
    rw (p.1, p.2) (λ some. let r = c.in_err-left.ensures.refused (beginning slots words) (c.in_ok-taking.ensures words) refl some in (r.0, (r.1.0, subst (WordsBreak name slots words) (sym r.1.1.1) (untaken r.1.1.2))))

pub returns-in_err-finish-clause-refused : goal.returns-in_err-finish-clause-refused
returns-in_err-finish-clause-refused c =
    let slots = map slot_of c.args.callable.now.slots.items in
    let words = c.args.words.now in
    let t = c.in_ok-left.ensures.found (beginning slots words) (c.in_ok-taking.ensures words) refl in
    let name = c.args.callable.now.name.now in
    let p = err_from_is_err_and c.from_residual-in_err-finish.result c.from_residual-in_err-finish.ensures.1 in
    rw (p.1, p.2) (λ some. let r = c.in_err-finish.ensures.refused t.end t.stands some in (r.0, (r.1.0, subst (WordsBreak name slots words) (sym r.1.1.0) (incomplete t.taken r.1.1.1))))

pub returns-clause-found : goal.returns-clause-found
returns-clause-found c =
    let slots = map slot_of c.args.callable.now.slots.items in
    let words = c.args.words.now in
    let t = c.in_ok-left.ensures.found (beginning slots words) (c.in_ok-taking.ensures words) refl in
    let f = c.in_ok-finish.ensures.found t.end t.stands in
    record { end = t.end; taken = t.taken; complete = f.0; grouped = f.1; left = sym t.left }
