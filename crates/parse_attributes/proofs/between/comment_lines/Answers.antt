-- Each turn takes a comment line.
use Rattle.std.proofs.Common.{◌≡◌, ◌∙◌, sym, Some, None}
use Rattle.just_text.specs.Tokens.{word_of}
use Rattle.parse_expressions.specs.Reading.{ahead}
use Rattle.parse_attributes.specs.Held.{comment_line_at}
use Rattle.parse_attributes.proofs.CommentLines.{comment_line_shorter, one_less, none_less}
use Rattle.parse_attributes.proofs.between.comment_lines.Goals as goal

pub loop-smaller : goal.loop-smaller
loop-smaller c =
    let l = c.loop in
    let taken : comment_line_at word_of (ahead l.cursor) ≡ Some (ahead c.comment_line.new.cursor) = rw c.loop-test.true at c.comment_line.ensures.taken in
    comment_line_shorter word_of (ahead l.cursor) (ahead c.comment_line.new.cursor) taken

pub loop-preserved : goal.loop-preserved
loop-preserved c =
    let l = c.loop in
    let taken : comment_line_at word_of (ahead l.cursor) ≡ Some (ahead c.comment_line.new.cursor) = rw c.loop-test.true at c.comment_line.ensures.taken in
    sym (one_less word_of (ahead l.cursor) (ahead c.comment_line.new.cursor) taken) ∙ l.invariant

pub returns : goal.returns
returns c =
    let l = c.loop in
    let none : comment_line_at word_of (ahead l.cursor) ≡ None = rw c.loop-test.false at c.comment_line.ensures.taken in
    c.comment_line.ensures.stays c.loop-test.false ∙ sym (none_less word_of (ahead l.cursor) none) ∙ l.invariant
