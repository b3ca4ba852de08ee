-- The file is chosen among the keys that were found.
use Rattle.std.proofs.Common.{sym, ap, ◌∙◌, subst}
use Rattle.std.specs.List.{list_any}
use Rattle.std.specs.List.Sorted.{IsStrictlySortedBy}
use Rattle.std.specs.Str.{bytes_eq}
use Rattle.modules_compilation.specs.Tables.{text_cmp}
use Rattle.modules_files.specs.Found.{borrowed}
use Rattle.modules_files.proofs.Choices.{has_listed, unless}
use Rattle.modules_files.proofs.chosen.of_module.Goals as goal

pub returns : goal.returns
returns c =
    unless c.only.result _ (record {
      keys = borrowed c.as_slice.result.now;
      are = record {
        sorted = subst (λ items. IsStrictlySortedBy text_cmp (borrowed items)) (sym c.as_slice.ensures.value) c.in_ok-keys.ensures.sorted;
        each = λ key. ap (λ items. list_any (bytes_eq key) (borrowed items)) (c.as_slice.ensures.value ∙ c.in_ok-keys.ensures.all) ∙ has_listed key c.in_ok-found.found.keys ∙ c.in_ok-found.ensures key;
      };
      gives = c.only.ensures;
    })
