-- Each turn reads an argument.
use Rattle.std.proofs.Common.{◌≡◌, ◌-◌, ◌++◌, ◌∷◌, [], suc, length, None, Ok, rules, arith}
use Rattle.std.proofs.lemmas.Result.{err_from_is_err_and}
use Rattle.just_text.specs.Tokens.{word_of}
use Rattle.just_text.specs.declared.token_kind.TokenKind.TheVariants.{ParenR}
use Rattle.tree_items.specs.Recipes.{argument_shape}
use Rattle.parse_expressions.specs.Origins.{origin_of}
use Rattle.parse_expressions.specs.Reading.{ahead, accept, Fails}
use Rattle.parse_recipes.specs.Cooked.{IsArgumentCooked}
use Rattle.parse_recipes.specs.Reading.{argument_at}
use Rattle.parse_recipes.proofs.Shrinks.{argument_shorter}
use Rattle.parse_recipes.proofs.Turns.{all_more, all_none, nothing_before, fails, goes_on, at_end}
use Rattle.parse_recipes.proofs.dependency.arguments_to_end.Goals as goal
use Rattle.parse_expressions.proofs.Elements.{taken}

pub loop-arguments-init : goal.loop-arguments-init
loop-arguments-init g c =
    let ts = ahead c.args.cursor.now in
    (suc (length ts), omega arith, nothing_before argument_shape c.new-arguments.result.items _ (search rules), all_none (IsArgumentCooked (origin_of g.E.Expander.expansion c.args.context.now)) c.new-arguments.result.items (search rules))

pub returns-in_err-argument-clause-gives : goal.returns-in_err-argument-clause-gives
returns-in_err-argument-clause-gives g c =
    let l = c.loop-arguments in
    let x = g.E.Expander.expansion c.args.context.now.expander.now in
    let open_still : accept word_of ParenR (ahead l.cursor) ≡ None = grind arith in
    let same : ahead c.accept.new.self ≡ ahead l.cursor = grind arith in
    let failed : Fails c.in_err-argument.field-0.0 (argument_at word_of x (ahead l.cursor)) = rw same at c.in_err-argument.ensures.gives in
    let p = err_from_is_err_and c.from_residual.result c.from_residual.ensures.1 in
    rw (p.1, p.2) (fails argument_shape (argument_at word_of x) ParenR l.arguments.items l.invariant.0 (ahead l.cursor) _ l.invariant.1 l.invariant.2 open_still c.in_err-argument.field-0.0 failed)

pub loop-arguments-smaller : goal.loop-arguments-smaller
loop-arguments-smaller g c =
    let l = c.loop-arguments in
    let x = g.E.Expander.expansion c.args.context.now.expander.now in
    let same : ahead c.accept.new.self ≡ ahead l.cursor = grind arith in
    let read : argument_at word_of x (ahead l.cursor) ≡ Ok (argument_shape c.in_ok-argument.field-0, ahead c.argument.new.cursor) = rw same at c.in_ok-argument.ensures.gives in
    argument_shorter word_of x (ahead l.cursor) (argument_shape c.in_ok-argument.field-0, ahead c.argument.new.cursor) read

pub loop-arguments-preserved : goal.loop-arguments-preserved
loop-arguments-preserved g c =
    let l = c.loop-arguments in
    let x = g.E.Expander.expansion c.args.context.now.expander.now in
    let open_still : accept word_of ParenR (ahead l.cursor) ≡ None = grind arith in
    let same : ahead c.accept.new.self ≡ ahead l.cursor = grind arith in
    let read : argument_at word_of x (ahead l.cursor) ≡ Ok (argument_shape c.in_ok-argument.field-0, ahead c.argument.new.cursor) = rw same at c.in_ok-argument.ensures.gives in
    let less = argument_shorter word_of x (ahead l.cursor) (argument_shape c.in_ok-argument.field-0, ahead c.argument.new.cursor) read in
    let pushed : c.push_compact.new.list.items ≡ l.arguments.items ++ c.in_ok-argument.field-0 ∷ [] = search rules in
    (l.invariant.0 - 1, omega (arith, less, l.invariant.1), rw pushed (goes_on argument_shape (argument_at word_of x) ParenR l.arguments.items l.invariant.0 (ahead l.cursor) _ l.invariant.1 l.invariant.2 c.in_ok-argument.field-0 (ahead c.argument.new.cursor) open_still read), rw pushed (all_more (IsArgumentCooked (origin_of g.E.Expander.expansion c.args.context.now)) l.arguments.items c.in_ok-argument.field-0 l.invariant.3 c.in_ok-argument.ensures.cooked))

pub returns-clause-gives : goal.returns-clause-gives
returns-clause-gives g c =
    let l = c.loop-arguments in
    let end = taken ParenR (ahead l.cursor) c.accept.result (ahead c.accept.new.self) c.accept.ensures.accepted (search rules) in
    at_end argument_shape (argument_at word_of (g.E.Expander.expansion c.args.context.now.expander.now)) ParenR l.arguments.items l.invariant.0 (ahead l.cursor) _ l.invariant.1 l.invariant.2 end.0 (ahead c.accept.new.self) end.1
