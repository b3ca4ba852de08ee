-- The file that is put in is the one before but for the numbers of its variables.
use Rattle.std.proofs.Common.{◌≤◌, ap, ◌∙◌, arith, length}
use Rattle.std.proofs.Math.Seq.{map-set_same}
use Rattle.resolve_analysis.specs.Numbered.{IsFileNumbered, IsSameFile, file_names}
use Rattle.resolve_analysis.proofs.Done.{done_all, done_more, holds_all, holds_more}
use Rattle.resolve_analysis.proofs.Same.{same_file}
use Rattle.resolve_analysis.proofs.numbers.number_files.Goals as goal

pub loop-place-preserved : goal.loop-place-preserved
loop-place-preserved c = record {
  names = map-set_same file_names c.loop-place.files.items c.loop-place.place c.number_file.new.file c.index_mut.result.now (c.number_file.ensures.names ∙ ap file_names c.index_mut.ensures.value) ∙ c.loop-place.invariant.names;
  same = done_more IsSameFile _ c.loop-place.files.items c.loop-place.place c.index_mut.result.now c.number_file.new.file (omega arith) c.loop-place.invariant.same c.index_mut.ensures.value c.number_file.ensures.same;
  numbers = holds_more (IsFileNumbered c.args.all.now) c.loop-place.files.items c.loop-place.place c.number_file.new.file (omega arith) c.loop-place.invariant.numbers c.in_ok-number_file.ensures.numbers;
}

pub returns-in_err-number_file-clause-names : goal.returns-in_err-number_file-clause-names
returns-in_err-number_file-clause-names c = map-set_same file_names c.loop-place.files.items c.loop-place.place c.number_file.new.file c.index_mut.result.now (c.number_file.ensures.names ∙ ap file_names c.index_mut.ensures.value) ∙ c.loop-place.invariant.names

pub returns-in_err-number_file-clause-same : goal.returns-in_err-number_file-clause-same
returns-in_err-number_file-clause-same c =
    let done = done_more IsSameFile _ c.loop-place.files.items c.loop-place.place c.index_mut.result.now c.number_file.new.file (omega arith) c.loop-place.invariant.same c.index_mut.ensures.value c.number_file.ensures.same in
    done_all IsSameFile same_file _ _ _ done

pub returns-clause-same : goal.returns-clause-same
returns-clause-same c = done_all IsSameFile same_file _ _ _ c.loop-place.invariant.same

pub returns-clause-numbers : goal.returns-clause-numbers
returns-clause-numbers c =
    let past : length c.loop-place.files.items ≤ c.loop-place.place = omega (arith, c.loop-place-test.false, c.loop-place.invariant.same.many) in
    holds_all (IsFileNumbered c.args.all.now) c.loop-place.files.items c.loop-place.place past c.loop-place.invariant.numbers
