-- A word that is no name.
use Rattle.std.proofs.Common.{sym, ◌∙◌, arith}
use Rattle.modules_compilation.proofs.Pieces.{no_names}
use Rattle.modules_compilation.proofs.modulepath.names.Goals as goal

pub returns-then-not-branch : goal.returns-then-not-branch
returns-then-not-branch c = sym (no_names c.args.words.now c.loop-word.word-index _ (omega arith) (sym c.in_ok-push_name.ensures.name ∙ c.if-not-branch.true))
