-- So many groups as rounds, each empty.
use Rattle.std.proofs.Common.{◌≡◌, [], replicate}
use Rattle.analyze_words.proofs.taking.empty_groups.Given as goal

abbrev pub invariant-loop : goal.invariant-loop
invariant-loop l = l.groups.items ≡ replicate l.counter []
