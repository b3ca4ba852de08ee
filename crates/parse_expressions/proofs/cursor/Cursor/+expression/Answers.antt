-- What the loops read, and what lists, calls, format strings and operands are.
use Rattle.std.proofs.Common.{◌≡◌, ◌≢◌, ◌∙◌, ◌∷◌, ◌++◌, ◌+◌, [], ◌-◌, true, false, None, Ok, ap, sym, rules, arith}
use Rattle.std.proofs.lemmas.Result.{err_from_is_err_and}
use Rattle.just_text.specs.Tokens.{word_of, lexeme}
use Rattle.just_text.specs.declared.token_kind.TokenKind.TheVariants.{Backtick, Comma, FormatStringStart, Identifier, StringToken}
use Rattle.tree_expressions.specs.Kinds.{kind_of}
use Rattle.tree_expressions.specs.Parts.{cooked_part}
use Rattle.tree_expressions.specs.declared.expression.Expression.{Expression}
use Rattle.tree_expressions.specs.Shape.{Shape, shape_of, written}
use Rattle.parse_expressions.specs.Literals.{is_open}
use Rattle.parse_expressions.specs.Origins.{origin_of}
use Rattle.parse_expressions.specs.Reading.{ahead, accept, expect, is_next, prefix_at, part_at, operand_at, expression_at, Fails}
use Rattle.parse_expressions.specs.Seen.{prefix_seen}
use Rattle.parse_expressions.specs.Alone.{is_alone}
use Rattle.parse_expressions.proofs.Alone.{expression_alone, expression_step}
use Rattle.parse_expressions.proofs.Cooked.{listing_cooked}
use Rattle.parse_expressions.proofs.Elements.{no_element, no_close, is_last, goes_on, at_end, element_shorter, one_more_cooked, taken}
use Rattle.parse_expressions.proofs.Interpolations.{no_interpolation, no_part, is_last_interpolation, more_interpolations, interpolation_shorter, one_more_interpolation_cooked}
use Rattle.parse_expressions.proofs.Formats.{format_closed, format_open, format_fails}
use Rattle.parse_expressions.proofs.Operands.{operand_fails, prefixed_read, next_rank, rank_fails}
use Rattle.parse_expressions.proofs.Nexts.{at_string, at_command, at_format, at_name, at_bracket}
use Rattle.parse_expressions.proofs.Together.{both_given, second_refused}
use Rattle.parse_expressions.proofs.cursor.Cursor.+expression.Goals as goal

pub list-returns-clause-cooked : goal.list-returns-clause-cooked
list-returns-clause-cooked g t c = listing_cooked (origin_of g.E.Expander.expansion c.args.context.now) c.in_ok-elements.elements c.in_ok-token.token c.in_ok-elements.ensures.cooked

pub elements-returns-in_err-ranked-clause-gives : goal.elements-returns-in_err-ranked-clause-gives
elements-returns-in_err-ranked-clause-gives g t c =
    let l = c.loop-close in
    let x = g.E.Expander.expansion c.args.context.now.expander.now in
    let open_still : accept word_of c.args.close (ahead l.self) ≡ None = grind arith in
    let same : ahead c.accept.new.self ≡ ahead l.self = grind arith in
    let failed : Fails c.in_err-ranked.field-0.0 (expression_at word_of x c.args.levels 6 (ahead l.self)) = rw same at c.in_err-ranked.ensures.gives in
    let p = err_from_is_err_and c.from_residual.result c.from_residual.ensures.1 in
    rw (p.1, p.2) (no_element x c.args.levels c.args.close l.elements.items l.invariant.0 (ahead l.self) _ l.invariant.1 l.invariant.2 open_still c.in_err-ranked.field-0.0 failed)

pub elements-returns-in_err-expect-clause-gives : goal.elements-returns-in_err-expect-clause-gives
elements-returns-in_err-expect-clause-gives g t c =
    let l = c.loop-close in
    let x = g.E.Expander.expansion c.args.context.now.expander.now in
    let open_still : accept word_of c.args.close (ahead l.self) ≡ None = grind arith in
    let same : ahead c.accept.new.self ≡ ahead l.self = grind arith in
    let read : expression_at word_of x c.args.levels 6 (ahead l.self) ≡ Ok (shape_of c.in_ok-ranked.field-0, ahead c.ranked.new.self) = rw same at c.in_ok-ranked.ensures.gives in
    let no_comma : accept word_of Comma (ahead c.ranked.new.self) ≡ None = grind arith in
    let same_again : ahead c.accept-in-loop-close.new.self ≡ ahead c.ranked.new.self = grind arith in
    let failed : Fails c.in_err-expect.field-0.0 (expect word_of c.args.close (ahead c.ranked.new.self)) = rw same_again at c.in_err-expect.ensures in
    let p = err_from_is_err_and c.from_residual-in_err-expect.result c.from_residual-in_err-expect.ensures.1 in
    rw (p.1, p.2) (no_close x c.args.levels c.args.close l.elements.items l.invariant.0 (ahead l.self) _ l.invariant.1 l.invariant.2 c.in_ok-ranked.field-0 (ahead c.ranked.new.self) open_still read no_comma c.in_err-expect.field-0.0 failed)

pub elements-returns-then-is_none-clause-gives : goal.elements-returns-then-is_none-clause-gives
elements-returns-then-is_none-clause-gives g t c =
    let l = c.loop-close in
    let x = g.E.Expander.expansion c.args.context.now.expander.now in
    let open_still : accept word_of c.args.close (ahead l.self) ≡ None = grind arith in
    let same : ahead c.accept.new.self ≡ ahead l.self = grind arith in
    let read : expression_at word_of x c.args.levels 6 (ahead l.self) ≡ Ok (shape_of c.in_ok-ranked.field-0, ahead c.ranked.new.self) = rw same at c.in_ok-ranked.ensures.gives in
    let no_comma : accept word_of Comma (ahead c.ranked.new.self) ≡ None = grind arith in
    let same_again : ahead c.accept-in-loop-close.new.self ≡ ahead c.ranked.new.self = grind arith in
    let closes : expect word_of c.args.close (ahead c.ranked.new.self) ≡ Ok (c.in_ok-expect.field-0, ahead c.expect.new.self) = rw same_again at c.in_ok-expect.ensures in
    let pushed : c.push.new.self.items ≡ l.elements.items ++ c.in_ok-ranked.field-0 ∷ [] = search rules in
    rw pushed (is_last x c.args.levels c.args.close l.elements.items l.invariant.0 (ahead l.self) _ l.invariant.1 l.invariant.2 c.in_ok-ranked.field-0 (ahead c.ranked.new.self) c.in_ok-expect.field-0 (ahead c.expect.new.self) open_still read no_comma closes)

pub elements-returns-then-is_none-clause-cooked : goal.elements-returns-then-is_none-clause-cooked
elements-returns-then-is_none-clause-cooked g t c =
    let l = c.loop-close in
    let pushed : c.push.new.self.items ≡ l.elements.items ++ c.in_ok-ranked.field-0 ∷ [] = search rules in
    rw pushed (one_more_cooked (origin_of g.E.Expander.expansion c.args.context.now) l.elements.items c.in_ok-ranked.field-0 l.invariant.3 c.in_ok-ranked.ensures.cooked)

pub elements-loop-close-smaller : goal.elements-loop-close-smaller
elements-loop-close-smaller g t c =
    let l = c.loop-close in
    let x = g.E.Expander.expansion c.args.context.now.expander.now in
    let same : ahead c.accept.new.self ≡ ahead l.self = grind arith in
    let read : expression_at word_of x c.args.levels 6 (ahead l.self) ≡ Ok (shape_of c.in_ok-ranked.field-0, ahead c.ranked.new.self) = rw same at c.in_ok-ranked.ensures.gives in
    let comma = taken Comma (ahead c.ranked.new.self) c.accept-in-loop-close.result (ahead c.accept-in-loop-close.new.self) c.accept-in-loop-close.ensures.accepted (search rules) in
    element_shorter x c.args.levels c.in_ok-ranked.field-0 (ahead l.self) (ahead c.ranked.new.self) comma.0 (ahead c.accept-in-loop-close.new.self) read comma.1

pub elements-loop-close-preserved : goal.elements-loop-close-preserved
elements-loop-close-preserved g t c =
    let l = c.loop-close in
    let x = g.E.Expander.expansion c.args.context.now.expander.now in
    let open_still : accept word_of c.args.close (ahead l.self) ≡ None = grind arith in
    let same : ahead c.accept.new.self ≡ ahead l.self = grind arith in
    let read : expression_at word_of x c.args.levels 6 (ahead l.self) ≡ Ok (shape_of c.in_ok-ranked.field-0, ahead c.ranked.new.self) = rw same at c.in_ok-ranked.ensures.gives in
    let comma = taken Comma (ahead c.ranked.new.self) c.accept-in-loop-close.result (ahead c.accept-in-loop-close.new.self) c.accept-in-loop-close.ensures.accepted (search rules) in
    let less = element_shorter x c.args.levels c.in_ok-ranked.field-0 (ahead l.self) (ahead c.ranked.new.self) comma.0 (ahead c.accept-in-loop-close.new.self) read comma.1 in
    let pushed : c.push.new.self.items ≡ l.elements.items ++ c.in_ok-ranked.field-0 ∷ [] = search rules in
    (l.invariant.0 - 1, omega (arith, less, l.invariant.1), rw pushed (goes_on x c.args.levels c.args.close l.elements.items l.invariant.0 (ahead l.self) _ l.invariant.1 l.invariant.2 c.in_ok-ranked.field-0 (ahead c.ranked.new.self) comma.0 (ahead c.accept-in-loop-close.new.self) open_still read comma.1), rw pushed (one_more_cooked (origin_of g.E.Expander.expansion c.args.context.now) l.elements.items c.in_ok-ranked.field-0 l.invariant.3 c.in_ok-ranked.ensures.cooked))

pub elements-returns-clause-gives : goal.elements-returns-clause-gives
elements-returns-clause-gives g t c =
    let l = c.loop-close in
    let x = g.E.Expander.expansion c.args.context.now.expander.now in
    let close = taken c.args.close (ahead l.self) c.accept.result (ahead c.accept.new.self) c.accept.ensures.accepted (search rules) in
    at_end x c.args.levels c.args.close l.elements.items l.invariant.0 (ahead l.self) _ l.invariant.1 l.invariant.2 close.0 (ahead c.accept.new.self) close.1

pub format_string-returns-in_err-expressions-clause-gives : goal.format_string-returns-in_err-expressions-clause-gives
format_string-returns-in_err-expressions-clause-gives g t c =
    let x = g.E.Expander.expansion c.args.context.now.expander.now in
    let same : c.of_lexeme-kind.result ≡ kind_of (lexeme c.args.token) = c.of_lexeme-kind.ensures ∙ ap kind_of c.lexeme.ensures in
    let goes : is_open (lexeme c.args.token) ≡ true = ap is_open (sym c.lexeme-2.ensures) ∙ sym c.is_open.ensures ∙ c.if-is_open.true in
    let p = err_from_is_err_and c.from_residual-in_err-expressions.result c.from_residual-in_err-expressions.ensures.1 in
    rw (p.1, p.2) (format_fails x c.args.levels c.args.token (ahead c.args.self.now) c.in_ok-start.start c.of_lexeme-kind.result same c.in_ok-start.ensures.gives c.in_ok-start.ensures.token goes c.in_err-expressions.field-0.0 c.in_err-expressions.ensures.gives)

pub format_string-returns-then-is_open-clause-gives : goal.format_string-returns-then-is_open-clause-gives
format_string-returns-then-is_open-clause-gives g t c =
    let x = g.E.Expander.expansion c.args.context.now.expander.now in
    let same : c.of_lexeme-kind.result ≡ kind_of (lexeme c.args.token) = c.of_lexeme-kind.ensures ∙ ap kind_of c.lexeme.ensures in
    let goes : is_open (lexeme c.args.token) ≡ true = ap is_open (sym c.lexeme-2.ensures) ∙ sym c.is_open.ensures ∙ c.if-is_open.true in
    format_open x c.args.levels c.args.token (ahead c.args.self.now) c.in_ok-start.start c.of_lexeme-kind.result same c.in_ok-start.ensures.gives c.in_ok-start.ensures.token c.in_ok-expressions.expressions (ahead c.interpolations.new.self) goes c.in_ok-expressions.ensures.gives

pub format_string-returns-clause-gives : goal.format_string-returns-clause-gives
format_string-returns-clause-gives g t c =
    let x = g.E.Expander.expansion c.args.context.now.expander.now in
    let same : c.of_lexeme-kind.result ≡ kind_of (lexeme c.args.token) = c.of_lexeme-kind.ensures ∙ ap kind_of c.lexeme.ensures in
    let ends : is_open (lexeme c.args.token) ≡ false = ap is_open (sym c.lexeme-2.ensures) ∙ sym c.is_open.ensures ∙ c.if-is_open.false in
    format_closed x c.args.levels c.args.token (ahead c.args.self.now) c.in_ok-start.start c.of_lexeme-kind.result same c.in_ok-start.ensures.gives c.in_ok-start.ensures.token c.new-expressions.result ends (search rules)

pub interpolations-returns-in_err-expression-clause-gives : goal.interpolations-returns-in_err-expression-clause-gives
interpolations-returns-in_err-expression-clause-gives g t c =
    let l = c.loop-interpolations in
    let x = g.E.Expander.expansion c.args.context.now.expander.now in
    let p = err_from_is_err_and c.from_residual.result c.from_residual.ensures.1 in
    rw (p.1, p.2) (no_interpolation x c.args.levels c.args.kind l.interpolations.items l.invariant.0 (ahead l.self) _ l.invariant.1 l.invariant.2 c.in_err-expression.field-0.0 c.in_err-expression.ensures.gives)

pub interpolations-returns-in_err-expression-2-clause-gives : goal.interpolations-returns-in_err-expression-2-clause-gives
interpolations-returns-in_err-expression-2-clause-gives g t c =
    let l = c.loop-interpolations in
    let x = g.E.Expander.expansion c.args.context.now.expander.now in
    let refused = second_refused c.in_ok-expression.expression c.part.result c.in_err-expression-2.field-0.0 c.in_err-expression-2.ensures in
    let failed : Fails c.in_err-expression-2.field-0.0 (part_at word_of c.args.kind (ahead c.ranked.new.self)) = rw refused at c.part.ensures.gives in
    let p = err_from_is_err_and c.from_residual-in_err-expression-2.result c.from_residual-in_err-expression-2.ensures.1 in
    rw (p.1, p.2) (no_part x c.args.levels c.args.kind l.interpolations.items l.invariant.0 (ahead l.self) _ l.invariant.1 l.invariant.2 c.in_ok-expression.expression (ahead c.ranked.new.self) c.in_ok-expression.ensures.gives c.in_err-expression-2.field-0.0 failed)

pub interpolations-returns-then-not-follows-clause-gives : goal.interpolations-returns-then-not-follows-clause-gives
interpolations-returns-then-not-follows-clause-gives g t c =
    let l = c.loop-interpolations in
    let x = g.E.Expander.expansion c.args.context.now.expander.now in
    let given = both_given c.in_ok-expression.expression c.part.result (c.in_ok-expression-2.expression, (c.in_ok-expression-2.part, c.in_ok-expression-2.follows)) c.in_ok-expression-2.ensures in
    let last : c.in_ok-expression-2.follows ≡ false = grind arith in
    let any_part : part_at word_of c.args.kind (ahead c.ranked.new.self) ≡ Ok ((written c.in_ok-expression-2.part, c.in_ok-expression-2.follows), ahead c.part.new.self) = rw given.1 at c.part.ensures.gives in
    let part : part_at word_of c.args.kind (ahead c.ranked.new.self) ≡ Ok ((written c.in_ok-expression-2.part, false), ahead c.part.new.self) = rw last at any_part in
    let pushed : c.push.new.self.items ≡ l.interpolations.items ++ (c.in_ok-expression-2.expression, c.in_ok-expression-2.part) ∷ [] = search rules in
    let interpolation_pushed = pushed ∙ ap (λ (e : Expression). l.interpolations.items ++ (e, c.in_ok-expression-2.part) ∷ []) given.0 in
    rw interpolation_pushed (is_last_interpolation x c.args.levels c.args.kind l.interpolations.items l.invariant.0 (ahead l.self) _ l.invariant.1 l.invariant.2 c.in_ok-expression.expression (ahead c.ranked.new.self) c.in_ok-expression-2.part (ahead c.part.new.self) c.in_ok-expression.ensures.gives part)

pub interpolations-returns-then-not-follows-clause-cooked : goal.interpolations-returns-then-not-follows-clause-cooked
interpolations-returns-then-not-follows-clause-cooked g t c =
    let l = c.loop-interpolations in
    let given = both_given c.in_ok-expression.expression c.part.result (c.in_ok-expression-2.expression, (c.in_ok-expression-2.part, c.in_ok-expression-2.follows)) c.in_ok-expression-2.ensures in
    let part_cooked : cooked_part c.args.kind (written c.in_ok-expression-2.part) ≡ Ok c.in_ok-expression-2.part.cooked = rw given.1 at c.part.ensures.cooked in
    let of_kind : c.in_ok-expression-2.part.kind ≡ c.args.kind = rw given.1 at c.part.ensures.kind in
    let pushed : c.push.new.self.items ≡ l.interpolations.items ++ (c.in_ok-expression-2.expression, c.in_ok-expression-2.part) ∷ [] = search rules in
    let interpolation_pushed = pushed ∙ ap (λ (e : Expression). l.interpolations.items ++ (e, c.in_ok-expression-2.part) ∷ []) given.0 in
    rw interpolation_pushed (one_more_interpolation_cooked (origin_of g.E.Expander.expansion c.args.context.now) c.args.kind l.interpolations.items c.in_ok-expression.expression c.in_ok-expression-2.part l.invariant.3 c.in_ok-expression.ensures.cooked part_cooked of_kind)

pub interpolations-loop-interpolations-smaller : goal.interpolations-loop-interpolations-smaller
interpolations-loop-interpolations-smaller g t c =
    let given = both_given c.in_ok-expression.expression c.part.result (c.in_ok-expression-2.expression, (c.in_ok-expression-2.part, c.in_ok-expression-2.follows)) c.in_ok-expression-2.ensures in
    let part : part_at word_of c.args.kind (ahead c.ranked.new.self) ≡ Ok ((written c.in_ok-expression-2.part, c.in_ok-expression-2.follows), ahead c.part.new.self) = rw given.1 at c.part.ensures.gives in
    interpolation_shorter (g.E.Expander.expansion c.args.context.now.expander.now) c.args.levels c.args.kind c.in_ok-expression.expression (ahead c.loop-interpolations.self) (ahead c.ranked.new.self) (written c.in_ok-expression-2.part, c.in_ok-expression-2.follows) (ahead c.part.new.self) c.in_ok-expression.ensures.gives part

pub interpolations-loop-interpolations-preserved : goal.interpolations-loop-interpolations-preserved
interpolations-loop-interpolations-preserved g t c =
    let l = c.loop-interpolations in
    let x = g.E.Expander.expansion c.args.context.now.expander.now in
    let given = both_given c.in_ok-expression.expression c.part.result (c.in_ok-expression-2.expression, (c.in_ok-expression-2.part, c.in_ok-expression-2.follows)) c.in_ok-expression-2.ensures in
    let more : c.in_ok-expression-2.follows ≡ true = grind arith in
    let any_part : part_at word_of c.args.kind (ahead c.ranked.new.self) ≡ Ok ((written c.in_ok-expression-2.part, c.in_ok-expression-2.follows), ahead c.part.new.self) = rw given.1 at c.part.ensures.gives in
    let part : part_at word_of c.args.kind (ahead c.ranked.new.self) ≡ Ok ((written c.in_ok-expression-2.part, true), ahead c.part.new.self) = rw more at any_part in
    let part_cooked : cooked_part c.args.kind (written c.in_ok-expression-2.part) ≡ Ok c.in_ok-expression-2.part.cooked = rw given.1 at c.part.ensures.cooked in
    let of_kind : c.in_ok-expression-2.part.kind ≡ c.args.kind = rw given.1 at c.part.ensures.kind in
    let less = interpolation_shorter x c.args.levels c.args.kind c.in_ok-expression.expression (ahead l.self) (ahead c.ranked.new.self) (written c.in_ok-expression-2.part, true) (ahead c.part.new.self) c.in_ok-expression.ensures.gives part in
    let pushed : c.push.new.self.items ≡ l.interpolations.items ++ (c.in_ok-expression-2.expression, c.in_ok-expression-2.part) ∷ [] = search rules in
    let interpolation_pushed = pushed ∙ ap (λ (e : Expression). l.interpolations.items ++ (e, c.in_ok-expression-2.part) ∷ []) given.0 in
    (l.invariant.0 - 1, omega (arith, less, l.invariant.1), rw interpolation_pushed (more_interpolations x c.args.levels c.args.kind l.interpolations.items l.invariant.0 (ahead l.self) _ l.invariant.1 l.invariant.2 c.in_ok-expression.expression (ahead c.ranked.new.self) c.in_ok-expression-2.part (ahead c.part.new.self) c.in_ok-expression.ensures.gives part), rw interpolation_pushed (one_more_interpolation_cooked (origin_of g.E.Expander.expansion c.args.context.now) c.args.kind l.interpolations.items c.in_ok-expression.expression c.in_ok-expression-2.part l.invariant.3 c.in_ok-expression.ensures.cooked part_cooked of_kind))

pub ranked-returns-then-is_alone-clause-gives : goal.ranked-returns-then-is_alone-clause-gives
ranked-returns-then-is_alone-clause-gives g t c =
    let left : c.args.levels ≢ 0 = omega arith in
    let same : ahead c.is_alone.new.self ≡ ahead c.args.self.now = grind arith in
    let lone : is_alone word_of (ahead c.args.self.now) ≡ true = grind arith in
    let read = rw same at c.primary.ensures.gives in
    rw (expression_alone word_of (g.E.Expander.expansion c.args.context.now.expander.now) c.args.levels c.args.rank (ahead c.args.self.now) left lone) read

pub ranked-returns-clause-gives : goal.ranked-returns-clause-gives
ranked-returns-clause-gives g t c =
    let left : c.args.levels ≢ 0 = omega arith in
    let same : ahead c.is_alone.new.self ≡ ahead c.args.self.now = grind arith in
    let read = rw same at c.operand.ensures.gives in
    rw (expression_step word_of (g.E.Expander.expansion c.args.context.now.expander.now) c.args.levels c.args.rank (ahead c.args.self.now) left) read

pub prefixed-returns-in_err-operand-clause-gives : goal.prefixed-returns-in_err-operand-clause-gives
prefixed-returns-in_err-operand-clause-gives g t c =
    let binds : c.args.rank ≢ 0 = c.requires.binds in
    let p = err_from_is_err_and c.from_residual.result c.from_residual.ensures.1 in
    rw (p.1, p.2) (operand_fails (g.E.Expander.expansion c.args.context.now.expander.now) c.args.levels c.args.rank (ahead c.args.self.now) binds ((c.in-Some.token, prefix_seen c.in-Some.prefix), ahead c.prefix.new.self) c.in-Some.ensures.accepted c.in_err-operand.field-0.0 c.in_err-operand.ensures.gives)

pub prefixed-returns-clause-gives : goal.prefixed-returns-clause-gives
prefixed-returns-clause-gives g t c =
    let binds : c.args.rank ≢ 0 = c.requires.binds in
    let read = prefixed_read (g.E.Expander.expansion c.args.context.now.expander.now) c.args.levels c.args.rank (ahead c.args.self.now) binds ((c.in-Some.token, prefix_seen c.in-Some.prefix), ahead c.prefix.new.self) c.in-Some.ensures.accepted (shape_of c.in_ok-operand.operand.value, ahead c.boxed.new.self) c.in_ok-operand.ensures.gives in
    read ∙ ap (λ (e : Shape). Ok (e, ahead c.boxed.new.self)) (sym c.prefixed.ensures.shape)

pub operand-returns-in_err-lhs-clause-gives : goal.operand-returns-in_err-lhs-clause-gives
operand-returns-in_err-lhs-clause-gives g t c =
    let x = g.E.Expander.expansion c.args.context.now.expander.now in
    let first = c.prefix_rank-first.result in
    let same : ahead c.prefix_rank-first.new.self ≡ ahead c.args.self.now = c.prefix_rank-first.ensures.stays in
    let failed : Fails c.in_err-lhs.field-0.0 (operand_at word_of x (expression_at word_of x c.args.levels) first (ahead c.args.self.now)) = rw same at c.in_err-lhs.ensures.gives in
    let p = err_from_is_err_and c.from_residual.result c.from_residual.ensures.1 in
    rw (p.1, p.2) (rank_fails x c.args.levels (ahead c.args.self.now) first c.args.rank c.prefix_rank-first.ensures.within c.prefix_rank-first.ensures.others c.in_err-lhs.field-0.0 failed)

pub operand-returns-in_err-lhs-2-clause-gives : goal.operand-returns-in_err-lhs-2-clause-gives
operand-returns-in_err-lhs-2-clause-gives g t c =
    let x = g.E.Expander.expansion c.args.context.now.expander.now in
    let l = c.loop-below in
    let ts = ahead c.args.self.now in
    let lacks : prefix_at word_of (l.below + 1) ts ≡ None = c.prefix_rank-first.ensures.others (l.below + 1) (omega arith) (omega arith) in
    let next = next_rank x c.args.levels ts l.below lacks (shape_of l.lhs, ahead l.self) l.invariant.0 in
    let failed : Fails c.in_err-lhs-2.field-0.0 (operand_at word_of x (expression_at word_of x c.args.levels) (l.below + 1) ts) = rw next c.in_err-lhs-2.ensures.gives in
    let p = err_from_is_err_and c.from_residual-in_err-lhs-2.result c.from_residual-in_err-lhs-2.ensures.1 in
    rw (p.1, p.2) (rank_fails x c.args.levels ts (l.below + 1) c.args.rank (omega arith) (λ other more less. c.prefix_rank-first.ensures.others other (omega (arith, more)) less) c.in_err-lhs-2.field-0.0 failed)

pub operand-loop-below-preserved : goal.operand-loop-below-preserved
operand-loop-below-preserved g t c =
    let x = g.E.Expander.expansion c.args.context.now.expander.now in
    let l = c.loop-below in
    let ts = ahead c.args.self.now in
    let lacks : prefix_at word_of (l.below + 1) ts ≡ None = c.prefix_rank-first.ensures.others (l.below + 1) (omega arith) (omega arith) in
    let next = next_rank x c.args.levels ts l.below lacks (shape_of l.lhs, ahead l.self) l.invariant.0 in
    (next ∙ c.in_ok-lhs-2.ensures.gives, c.in_ok-lhs-2.ensures.cooked l.invariant.1)

pub primary-returns-then-is_next-clause-gives : goal.primary-returns-then-is_next-clause-gives
primary-returns-then-is_next-clause-gives g t c =
    let x = g.E.Expander.expansion c.args.context.now.expander.now in
    let ts = ahead c.args.self.now in
    let same : ahead c.is_next.new.self ≡ ts = c.is_next.ensures.stays in
    let here : is_next word_of StringToken ts ≡ true = grind arith in
    let read = rw same at c.literal.ensures.gives in
    rw (at_string word_of x (expression_at word_of x c.args.levels) ts here) read

pub primary-returns-then-is_next-2-clause-gives : goal.primary-returns-then-is_next-2-clause-gives
primary-returns-then-is_next-2-clause-gives g t c =
    let x = g.E.Expander.expansion c.args.context.now.expander.now in
    let ts = ahead c.args.self.now in
    let same : ahead c.is_next-2.new.self ≡ ts = grind arith in
    let no_string : is_next word_of StringToken ts ≡ false = grind arith in
    let here : is_next word_of Backtick ts ≡ true = grind arith in
    let read = rw same at c.backtick.ensures.gives in
    rw (at_command word_of x (expression_at word_of x c.args.levels) ts no_string here) read

pub primary-returns-then-is_next-3-clause-gives : goal.primary-returns-then-is_next-3-clause-gives
primary-returns-then-is_next-3-clause-gives g t c =
    let x = g.E.Expander.expansion c.args.context.now.expander.now in
    let ts = ahead c.args.self.now in
    let same : ahead c.is_next-3.new.self ≡ ts = grind arith in
    let no_string : is_next word_of StringToken ts ≡ false = grind arith in
    let no_command : is_next word_of Backtick ts ≡ false = grind arith in
    let here : is_next word_of FormatStringStart ts ≡ true = grind arith in
    let read = rw same at c.format.ensures.gives in
    rw (at_format word_of x (expression_at word_of x c.args.levels) ts no_string no_command here) read

pub primary-returns-then-is_next-4-clause-gives : goal.primary-returns-then-is_next-4-clause-gives
primary-returns-then-is_next-4-clause-gives g t c =
    let x = g.E.Expander.expansion c.args.context.now.expander.now in
    let ts = ahead c.args.self.now in
    let same : ahead c.is_next-4.new.self ≡ ts = grind arith in
    let no_string : is_next word_of StringToken ts ≡ false = grind arith in
    let no_command : is_next word_of Backtick ts ≡ false = grind arith in
    let no_format : is_next word_of FormatStringStart ts ≡ false = grind arith in
    let here : is_next word_of Identifier ts ≡ true = grind arith in
    let read = rw same at c.named.ensures.gives in
    rw (at_name word_of x (expression_at word_of x c.args.levels) ts no_string no_command no_format here) read

pub primary-returns-clause-gives : goal.primary-returns-clause-gives
primary-returns-clause-gives g t c =
    let x = g.E.Expander.expansion c.args.context.now.expander.now in
    let ts = ahead c.args.self.now in
    let same : ahead c.is_next-4.new.self ≡ ts = grind arith in
    let no_string : is_next word_of StringToken ts ≡ false = grind arith in
    let no_command : is_next word_of Backtick ts ≡ false = grind arith in
    let no_format : is_next word_of FormatStringStart ts ≡ false = grind arith in
    let other : is_next word_of Identifier ts ≡ false = grind arith in
    let read = rw same at c.bracketed.ensures.gives in
    rw (at_bracket word_of x (expression_at word_of x c.args.levels) ts no_string no_command no_format other) read
