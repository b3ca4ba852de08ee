-- Each match is replaced.
use Rattle.std.proofs.Common.{◌≡◌, ◌∷◌, [], IfOk, subst}
use Rattle.std.specs.String.{string_bytes}
use Rattle.evaluate_functions.proofs.Replaced.{is_replaced}
use Rattle.evaluate_functions.proofs.texts.replaced.Goals as goal

pub returns : goal.returns
returns c =
    let found = c.in_ok-text.ensures.ok in
    let same = is_replaced c.args.to.now found.0 c.args.from c.args.text.now (string_bytes c.in_ok-text.text) c.utf8.text found.1 in
    subst (λ l. IfOk c.from_string.result (λ v. v ≡ l ∷ [])) same c.from_string.ensures
