-- The text before the token is cut at its offset, which is no shorter for the nothing that is left out before it.
use Rattle.std.proofs.Common.{◌≡◌, ◌-◌, take, ap, ◌∙◌, arith}
use Rattle.just_lexer.specs.Excerpts.{behind_mark, last_line}
use Rattle.just_lexer.proofs.line.before.Goals as goal

pub returns : goal.returns
returns c =
    let whole : c.args.token.now.offset - 0 ≡ c.args.token.now.offset = omega arith in
    c.last_line.ensures ∙ ap last_line (c.behind_mark.ensures ∙ ap behind_mark (c.range.ensures.value ∙ ap (λ n. take n c.args.token.now.src.now) whole))
