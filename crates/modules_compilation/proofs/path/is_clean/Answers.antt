-- Component by component.
use Rattle.std.proofs.Common.{◌≡◌, true, false, sym, ◌∙◌, rules}
use Rattle.modules_compilation.specs.Paths.{is_part}
use Rattle.modules_compilation.proofs.Walks.{clean_on, unclean, clean_end}
use Rattle.modules_compilation.proofs.path.is_clean.Goals as goal

pub loop-part-preserved : goal.loop-part-preserved
loop-part-preserved c =
    let e : is_part c.in-Some.part.now ≡ true = search rules in
    (search rules, sym (clean_on c.loop-part.rest.now c.in-Some.part c.in-Some.others c.in-Some.ensures.cases e) ∙ c.loop-part.invariant.1)

pub returns-then-not-is_part : goal.returns-then-not-is_part
returns-then-not-is_part c =
    let e : is_part c.in-Some.part.now ≡ false = search rules in
    sym (unclean c.loop-part.rest.now c.in-Some.part c.in-Some.others c.in-Some.ensures.cases e) ∙ c.loop-part.invariant.1

pub returns : goal.returns
returns c = c.is_part-2.ensures ∙ sym (clean_end c.loop-part.rest.now c.split_once.result c.split_once.ensures.cases c.in_default.not-Some) ∙ c.loop-part.invariant.1
