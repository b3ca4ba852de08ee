use Rattle.std.proofs.Common.{length, subst, ap, arith}
use Rattle.std.specs.Str.{IsUtf8}
use Rattle.std.specs.String.{string_bytes}
use Rattle.tree_items.specs.Lines.{sigil_count}
use Rattle.laws_evaluation.proofs.Bodies.Cutting.{marked_cut}
use Rattle.justfile_evaluator.proofs.body.Command.behind_sigils.Goals.{else-count-text-via-then-count-text+else-is_char_boundary, else-count-text-via-else-count-text}
use Rattle.justfile_evaluator.proofs.body.Command.behind_sigils.Goals as goal

pub returns-else-count-text : goal.returns-else-count-text
returns-else-count-text c = λ marked.
    let text = c.args.self.now.text in
    let cut = marked_cut (sigil_count c.args.self.now.sigils) (string_bytes text) marked (subst IsUtf8 c.as_str-text.ensures.value c.as_str-text.utf8) in
    elim c.else-count-text.branch [
      | else-count-text-via-then-count-text+else-is_char_boundary w ↦ (let no = w.if-is_char_boundary.ensures.test.1 (rw (c.as_str-text.ensures.value, c.count-count.ensures) cut.1) in absurd (cc))
      | else-count-text-via-else-count-text w ↦ absurd (omega (arith, w.if-count-text.false, cut.0, c.count-count.ensures, ap length c.as_str-text.ensures.value))
    ]
