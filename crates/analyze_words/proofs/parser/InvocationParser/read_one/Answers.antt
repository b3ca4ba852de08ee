-- The recipe's name, and its words.
use Rattle.std.proofs.Common.{sym}
use Rattle.std.proofs.lemmas.Result.{err_from_is_err_and}
use Rattle.analyze_words.proofs.Invoking.{names_none, breaks_first}
use Rattle.analyze_words.proofs.Paths.{is_there}
use Rattle.analyze_words.proofs.parser.InvocationParser.read_one.Goals as goal

pub returns-in_err-recipe-clause-refused : goal.returns-in_err-recipe-clause-refused
returns-in_err-recipe-clause-refused c =
    let p = err_from_is_err_and c.from_residual.result c.from_residual.ensures.1 in
    rw (p.1, p.2) (names_none c.args.self.now.menus.now c.args.words.now c.in_err-recipe.field-0.0 c.in_err-recipe.ensures.refused)

pub returns-in_default-clause-refused : goal.returns-in_default-clause-refused
returns-in_default-clause-refused c = absurd (is_there _ _ c.in_ok-recipe.ensures.there (sym c.in_default.ensures))

pub returns-in_err-groups-clause-refused : goal.returns-in_err-groups-clause-refused
returns-in_err-groups-clause-refused c =
    let p = err_from_is_err_and c.from_residual-in_err-groups.result c.from_residual-in_err-groups.ensures.1 in
    rw (p.1, p.2) (breaks_first c.args.self.now.menus.now c.args.words.now _ _ c.in-Some.callable.now c.in_err-groups.field-0.0 c.in_ok-recipe.ensures.found (sym c.in-Some.ensures) c.in_err-groups.ensures.refused)
