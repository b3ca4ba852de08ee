-- The keys of a set are in byte order.
use Rattle.std.proofs.Common.{◌≡◌, sym, subst, rules}
use Rattle.std.specs.List.Sorted.{IsStrictlySortedBy}
use Rattle.modules_compilation.specs.Tables.{text_cmp}
use Rattle.modules_files.specs.Found.{borrowed}
use Rattle.modules_files.proofs.Choices.{sorted_texts}
use Rattle.modules_files.proofs.chosen.listed.Goals as goal

pub returns-clause-sorted : goal.returns-clause-sorted
returns-clause-sorted c =
    let e : c.loop-key.keys.items ≡ c.args.found.now.keys = search rules in
    subst (λ ks. IsStrictlySortedBy text_cmp (borrowed ks)) (sym e) (sorted_texts c.args.found.now.keys c.into_iter-key-iterator.ensures.into_iter_gives.4)
