-- A word by its place, where it is no option.
use Rattle.std.proofs.Common.{◌≡◌, ◌∙◌, false, ◌&&◌, cond, map, refl, sym, subst}
use Rattle.std.proofs.lemmas.Bool.{and_left, and_right}
use Rattle.analyze_words.specs.Takings.{IsAt}
use Rattle.analyze_words.specs.Worded.{slot_of}
use Rattle.meaning_runs.specs.Invokes as spec
use Rattle.analyze_words.proofs.Taken.{next_takes, next_enough}
use Rattle.analyze_words.proofs.taking.Taking.take.Goals as goal
use Rattle.analyze_words.proofs.taking.Taking.take.Goals.{then-not-self-via-then-not-self, then-not-self-via-else-not-self+then-not-is_dashed}

pub returns-then-branch-clause-found : goal.returns-then-branch-clause-found
returns-then-branch-clause-found c = λ at h.
    let slots = c.args.callable.now.slots.items in
    let word = c.args.word.now in
    let others = c.args.others.now in
    let p = c.in_ok-take_positional.ensures at others h in
    let plain : (at.options && spec.is_dashed word) ≡ false = elim c.then-not-self.branch [
      | then-not-self-via-then-not-self w ↦ and_left at.options (spec.is_dashed word) (sym h.options ∙ w.if-not-self.true)
      | then-not-self-via-else-not-self+then-not-is_dashed w ↦ and_right at.options (spec.is_dashed word) (sym w.is_dashed.ensures ∙ w.if-not-is_dashed.true)
    ] in
    record {
      mid = spec.with_word at word others;
      is = next_takes (map slot_of slots) at word others plain (p.0 ∙ c.if-branch.true);
      stands = subst (λ b. IsAt slots c.take_positional.new.self (cond b (spec.with_word at word others) at)) c.if-branch.true p.1;
      left = refl;
    }

pub returns-then-not-self-clause-found : goal.returns-then-not-self-clause-found
returns-then-not-self-clause-found c = λ at h.
    let slots = c.args.callable.now.slots.items in
    let word = c.args.word.now in
    let others = c.args.others.now in
    let p = c.in_ok-take_positional.ensures at others h in
    let plain : (at.options && spec.is_dashed word) ≡ false = elim c.then-not-self.branch [
      | then-not-self-via-then-not-self w ↦ and_left at.options (spec.is_dashed word) (sym h.options ∙ w.if-not-self.true)
      | then-not-self-via-else-not-self+then-not-is_dashed w ↦ and_right at.options (spec.is_dashed word) (sym w.is_dashed.ensures ∙ w.if-not-is_dashed.true)
    ] in
    (next_enough (map slot_of slots) at word others plain (p.0 ∙ c.if-branch.false), subst (λ b. IsAt slots c.take_positional.new.self (cond b (spec.with_word at word others) at)) c.if-branch.false p.1)
