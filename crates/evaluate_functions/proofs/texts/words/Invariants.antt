-- The words so far, and then those of what is left, which is text.
use Rattle.std.proofs.Common.{◌≡◌, ◌++◌}
use Rattle.std.specs.Str.{IsUtf8}
use Rattle.std.specs.Str.Iter.{split_whitespace_rest}
use Rattle.evaluate_functions.specs.Functions.{words_of}
use Rattle.evaluate_functions.proofs.texts.words.Given as goal

abbrev pub invariant-loop-word : goal.invariant-loop-word
invariant-loop-word l = record {
  utf8 : IsUtf8 (split_whitespace_rest l.word-iterator);
  left : l.value ++ words_of (split_whitespace_rest l.word-iterator) ≡ words_of l.text;
}
