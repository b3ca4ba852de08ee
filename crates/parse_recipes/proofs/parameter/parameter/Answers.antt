-- No parameter comes here.
use Rattle.std.proofs.Common.{◌≡◌, false, refl, arith}
use Rattle.just_text.specs.Tokens.{word_of}
use Rattle.just_text.specs.declared.token_kind.TokenKind.TheVariants.{Dollar, Identifier}
use Rattle.tree_items.specs.Recipes.{is_variadic}
use Rattle.parse_expressions.specs.Reading.{ahead, is_next}
use Rattle.parse_recipes.specs.Reading.{marked_at}
use Rattle.parse_recipes.proofs.Frugal.{kind_taken, mark_taken, unused, with_more}
use Rattle.parse_recipes.proofs.Marks.{no_parameter}
use Rattle.parse_recipes.proofs.parameter.parameter.Goals.{else-not-is_variadic-via-then-not-is_variadic+then-not-export+else-not-is_next, else-not-is_variadic-via-then-not-is_variadic+else-not-export, else-not-is_variadic-via-else-not-is_variadic}
use Rattle.parse_recipes.proofs.parameter.parameter.Goals as goal

pub returns-then-not-is_next-clause-gives : goal.returns-then-not-is_next-clause-gives
returns-then-not-is_next-clause-gives g c =
    let b = ahead c.marked-export.new.cursor in
    let single : is_variadic c.kind-kind.result ≡ false = cc (c.is_variadic.ensures, c.if-not-is_variadic.true) in
    let mark : marked_at word_of Dollar (ahead c.kind-kind.new.cursor) ≡ (false, b) = rw c.if-not-export.true at c.marked-export.ensures in
    let name : is_next word_of Identifier b ≡ false = cc (c.is_next.ensures.value, c.if-not-is_next.true) in
    rw c.is_next.ensures.stays (no_parameter word_of (g.E.Expander.expansion c.args.context.now.expander.now) (ahead c.args.cursor.now) (ahead c.kind-kind.new.cursor) b c.kind-kind.result c.kind-kind.ensures mark single name)

pub returns-then-not-is_next-clause-frugal : goal.returns-then-not-is_next-clause-frugal
returns-then-not-is_next-clause-frugal g c = unused (ahead c.args.cursor.now) c.args.numerator.now c.args.numerator.now refl

pub returns-in_err-named-clause-frugal : goal.returns-in_err-named-clause-frugal
returns-in_err-named-clause-frugal g c =
    let behind_kind = ahead c.kind-kind.new.cursor in
    let behind_mark = ahead c.marked-export.new.cursor in
    let same : ahead c.else-not-is_variadic.cursor ≡ behind_mark =
    elim c.else-not-is_variadic.branch [
      | else-not-is_variadic-via-then-not-is_variadic+then-not-export+else-not-is_next w ↦ cc (w.cursor-is, w.is_next.ensures.stays)
      | else-not-is_variadic-via-then-not-is_variadic+else-not-export w ↦ cc w.cursor-is
      | else-not-is_variadic-via-else-not-is_variadic w ↦ cc w.cursor-is
    ] in
    let kind = kind_taken (ahead c.args.cursor.now) (c.kind-kind.result, behind_kind) c.kind-kind.ensures in
    let mark = mark_taken Dollar behind_kind (c.marked-export.result, behind_mark) c.marked-export.ensures in
    with_more (ahead c.args.cursor.now) behind_mark c.args.numerator.now c.named.new.numerator (omega (arith, kind, mark)) (rw same at c.in_err-named.ensures.frugal)

pub returns-clause-frugal : goal.returns-clause-frugal
returns-clause-frugal g c =
    let behind_kind = ahead c.kind-kind.new.cursor in
    let behind_mark = ahead c.marked-export.new.cursor in
    let same : ahead c.else-not-is_variadic.cursor ≡ behind_mark =
    elim c.else-not-is_variadic.branch [
      | else-not-is_variadic-via-then-not-is_variadic+then-not-export+else-not-is_next w ↦ cc (w.cursor-is, w.is_next.ensures.stays)
      | else-not-is_variadic-via-then-not-is_variadic+else-not-export w ↦ cc w.cursor-is
      | else-not-is_variadic-via-else-not-is_variadic w ↦ cc w.cursor-is
    ] in
    let kind = kind_taken (ahead c.args.cursor.now) (c.kind-kind.result, behind_kind) c.kind-kind.ensures in
    let mark = mark_taken Dollar behind_kind (c.marked-export.result, behind_mark) c.marked-export.ensures in
    with_more (ahead c.args.cursor.now) behind_mark c.args.numerator.now c.named.new.numerator (omega (arith, kind, mark)) (rw same at c.in_ok-named.ensures.frugal)
