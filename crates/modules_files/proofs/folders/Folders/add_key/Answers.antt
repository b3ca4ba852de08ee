-- A justfile's key is put after the others of its folder.
use Rattle.std.proofs.Common.{sym, ◌∙◌}
use Rattle.modules_files.proofs.Cuts.{grouped_more, grouped_passed}
use Rattle.modules_files.proofs.Sets.{on_ok}
use Rattle.modules_files.proofs.folders.Folders.add_key.Goals as goal

pub returns-then-is_justfile : goal.returns-then-is_justfile
returns-then-is_justfile c =
    on_ok c.add.result c.add.ensures (λ put keys grouped.
    grouped_more c.args.self.now.justfiles c.add.new.self.justfiles keys c.cut_name.result.0.now c.cut_name.result.1.now c.args.key.now c.cut_name.ensures.folder c.cut_name.ensures.name (sym c.is_justfile.ensures ∙ c.if-is_justfile.true) put grouped)

pub returns : goal.returns
returns c = λ keys grouped. grouped_passed c.args.self.now.justfiles keys c.cut_name.result.1.now c.args.key.now c.cut_name.ensures.name (sym c.is_justfile.ensures ∙ c.if-is_justfile.false) grouped
