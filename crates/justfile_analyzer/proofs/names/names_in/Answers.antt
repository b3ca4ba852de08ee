-- A word more.
use Rattle.std.proofs.Common.{◌≡◌, ℕ, List, subst, ap, ◌∙◌}
use Rattle.std.specs.Prelude.{◌||◌}
use Rattle.std.proofs.lemmas.List.{take_all}
use Rattle.modules_compilation.specs.Modulepaths.{pieces}
use Rattle.justfile_analyzer.specs.MenusOf.{has_name, is_among, is_wanted}
use Rattle.justfile_analyzer.proofs.MenuRows.{no_words, word_more}
use Rattle.justfile_analyzer.proofs.names.names_in.Goals as goal

pub loop-word-init : goal.loop-word-init
loop-word-init c = no_words c.new-names.result c.new-names.ensures.empty

pub loop-word-preserved : goal.loop-word-preserved
loop-word-preserved c =
    word_more c.loop-word.names c.add_names.new.names c.args.words.now c.loop-word.word-index c.word-item.result c.loop-word-test.true c.word-item.is c.loop-word.invariant
    (λ name. c.in_ok-add_names.ensures name ∙ ap (λ t. has_name c.loop-word.names name || is_among (pieces t) name) c.as_str.ensures)

pub returns : goal.returns
returns c = subst (λ row. (name : List ℕ) → has_name c.loop-word.names name ≡ is_wanted row name) (take_all c.loop-word.word-index c.args.words.now c.loop-word-test.false) c.loop-word.invariant
