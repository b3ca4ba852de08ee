-- The elements are joined by their bytes.
use Rattle.std.proofs.Common.{◌≡◌, ◌∷◌, [], IfOk, ap, subst, ◌∙◌}
use Rattle.std.specs.String.{string_bytes}
use Rattle.evaluate_functions.specs.Functions.{joined_by}
use Rattle.evaluate_functions.proofs.Joins.{joined_elements}
use Rattle.evaluate_functions.proofs.values.joined_list.Goals as goal

pub returns : goal.returns
returns c =
    let same : string_bytes c.in_ok-text.text ≡ joined_by c.args.separator.now c.args.value.now
    = c.in_ok-text.ensures.ok ∙ joined_elements c.args.separator.now c.elements.result.now ∙ ap (joined_by c.args.separator.now) c.elements.ensures in
    subst (λ l. IfOk c.from_string.result (λ v. v ≡ l ∷ [])) same c.from_string.ensures
