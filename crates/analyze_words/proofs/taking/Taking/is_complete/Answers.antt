-- Words enough, and nothing lacking.
use Rattle.std.proofs.Common.{◌≡◌, ◌∙◌, sym, arith, not, ◌&&◌}
use Rattle.std.proofs.lemmas.Bool.{le-leb}
use Rattle.std.specs.List.{list_any, zip}
use Rattle.analyze_words.specs.Takings.{is_lacking}
use Rattle.analyze_words.proofs.Taken.{complete_is}
use Rattle.analyze_words.proofs.taking.Taking.is_complete.Goals as goal

pub returns-then-self-least : goal.returns-then-self-least
returns-then-self-least c = λ at h.
    let enough = le-leb c.least.result c.args.self.now.found c.if-self-least.true in
    let lacks : c.any_lacks.result ≡ list_any (λ both. is_lacking both.0 both.1) (zip c.args.callable.now.slots.items c.args.self.now.groups.items) = c.any_lacks.ensures ∙ (λ k. list_any (λ both. is_lacking both.0 both.1) (zip (c.as_slice.ensures.value k) (c.as_slice-then-self-least.ensures.value k))) in
    let whole = complete_is c.args.callable.now.slots.items c.args.self.now at c.least.result h c.least.ensures (omega arith) in
    (λ k. sym enough k && not (lacks k)) ∙ whole
