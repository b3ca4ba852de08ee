-- The words come one by one.
use Rattle.std.proofs.Common.{◌∷◌, [], ◌++◌, ap, ◌∙◌}
use Rattle.std.specs.Str.Iter.{split_whitespace_rest}
use Rattle.evaluate_functions.specs.Functions.{words_of}
use Rattle.evaluate_functions.proofs.Words.{words_step, words_end}
use Rattle.evaluate_functions.proofs.texts.words.Goals as goal

pub loop-word-preserved : goal.loop-word-preserved
loop-word-preserved c =
    let next = words_step c.loop-word.word-iterator c.next.new.self c.in-Some.word c.loop-word.value (words_of c.args.text.now) c.loop-word.invariant.utf8 c.in-Some.ensures.steps c.loop-word.invariant.left in
    record {
      utf8 = next.0;
      left = ap (λ v. v ++ words_of (split_whitespace_rest c.next.new.self)) (c.in_ok-push.ensures.grown ∙ ap (λ w. c.loop-word.value ++ w ∷ []) c.in_ok-from_str.ensures.ok) ∙ next.1;
    }

pub returns : goal.returns
returns c = words_end c.loop-word.word-iterator c.next.new.self c.loop-word.value (words_of c.args.text.now) c.loop-word.invariant.utf8 c.in-None.ensures.steps c.loop-word.invariant.left
