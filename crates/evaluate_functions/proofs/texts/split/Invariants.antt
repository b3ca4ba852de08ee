-- The parts so far, and then those of what is left.
use Rattle.std.proofs.Common.{◌≡◌, ◌++◌, [], cond}
use Rattle.std.specs.Str.Iter.{split_has_more, split_pattern, split_text}
use Rattle.evaluate_functions.specs.Functions.{between}
use Rattle.evaluate_functions.proofs.texts.split.Given as goal

abbrev pub invariant-loop-part : goal.invariant-loop-part
invariant-loop-part l = record {
  mark : (split_pattern l.part-iterator).now ≡ l.separator;
  left : l.value ++ cond (split_has_more l.part-iterator) (between l.separator 0 (split_text l.part-iterator)) [] ≡ between l.separator 0 l.text;
}
