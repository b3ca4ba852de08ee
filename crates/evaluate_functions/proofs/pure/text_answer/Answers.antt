-- Each function of texts answers by its row.
use Rattle.std.proofs.Common.{◌≡◌, ◌∷◌, [], subst}
use Rattle.std.specs.List.{flat_map}
use Rattle.std.specs.Prelude.{Ok}
use Rattle.just_value.specs.Uris.{uri_byte}
use Rattle.evaluate_functions.specs.Functions.{Answers, path_of, replaced, split_of, text_at}
use Rattle.evaluate_functions.proofs.pure.text_answer.Goals as goal

pub returns-in-EncodeUriComponent : goal.returns-in-EncodeUriComponent
returns-in-EncodeUriComponent c =
    rw c.in-EncodeUriComponent.is
    (subst (λ text. Answers (Ok (flat_map uri_byte text ∷ [])) c.unless_memory.result) c.text_at-text.ensures (c.unless_memory.ensures (flat_map uri_byte c.text_at-text.result.now ∷ []) c.encoded.ensures))

pub returns-in-Join : goal.returns-in-Join
returns-in-Join c = rw c.in-Join.is (c.unless_memory-in-Join.ensures (path_of c.args.arguments.now ∷ []) c.joined.ensures)

pub returns-in-Replace : goal.returns-in-Replace
returns-in-Replace c =
    let text = c.text_at-text.result.now in
    let from = c.text_at-second.result.now in
    let to = c.text_at-third.result.now in
    let same : replaced from to text ≡ replaced (text_at c.args.arguments.now 1) (text_at c.args.arguments.now 2) (text_at c.args.arguments.now 0) = (λ i. replaced (c.text_at-second.ensures i) (c.text_at-third.ensures i) (c.text_at-text.ensures i)) in
    rw c.in-Replace.is (subst (λ made. Answers (Ok (made ∷ [])) c.unless_memory-in-Replace.result) same (c.unless_memory-in-Replace.ensures (replaced from to text ∷ []) c.replaced.ensures))

pub returns-in-Split : goal.returns-in-Split
returns-in-Split c = rw c.in-Split.is (c.unless_memory-in-Split.ensures (split_of c.args.arguments.now) c.split.ensures)
