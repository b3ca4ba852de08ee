-- Names are the same where no byte parts them.
use Rattle.std.proofs.Common.{◌∙◌, Some, ap, cond, sym}
use Rattle.std.specs.BTreeMap.{get}
use Rattle.std.specs.Cmp.Lexicographic.{slice_cmp, texts_ties}
use Rattle.std.specs.Ordering.{nat_cmp}
use Rattle.analyze_words.proofs.options.put_long.Goals as goal

pub returns-in_ok-insert : goal.returns-in_ok-insert
returns-in_ok-insert c = rw c.in-Some.is (λ wanted. c.in_ok-insert.ensures.updates.0 wanted ∙ ap (λ same. cond same (Some c.args.place) (get (λ x y. slice_cmp nat_cmp x.now y.now) c.args.places.now wanted)) (sym (texts_ties c.in-Some.name.now wanted.now)))
