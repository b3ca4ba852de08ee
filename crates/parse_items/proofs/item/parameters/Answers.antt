-- Each parameter leaves fewer tokens, and what is read after it is what is read in all.
use Rattle.std.proofs.Common.{◌≡◌, ◌-◌, ◌++◌, ◌∷◌, [], length, None, Ok, refl, rules, arith}
use Rattle.std.proofs.lemmas.Result.{err_from_is_err_and}
use Rattle.just_text.specs.Tokens.{word_of, lexeme}
use Rattle.just_text.specs.declared.token_kind.TokenKind.TheVariants.{Comma, ParenR}
use Rattle.parse_expressions.specs.Reading.{ahead, accept, expect}
use Rattle.parse_expressions.proofs.Shorter.{accept_shorter}
use Rattle.parse_recipes.specs.Numbering.{AreBindingsUsed, FailsUnless, IsFrugal}
use Rattle.parse_recipes.proofs.Frugal.{bindings_first, unused}
use Rattle.parse_items.specs.Numbered.{parameter_numbers}
use Rattle.parse_items.specs.Reading.{new_name_at}
use Rattle.parse_items.proofs.Frugal.{one_parameter}
use Rattle.parse_items.proofs.Numbers.{one_more}
use Rattle.parse_items.proofs.Parameters.{at_end, goes_on, is_last, new_name_shorter, no_close, no_name, taken}
use Rattle.parse_items.proofs.item.parameters.Goals as goal

pub returns-in_err-parameter-clause-gives : goal.returns-in_err-parameter-clause-gives
returns-in_err-parameter-clause-gives c =
    let l = c.loop-alloc in
    let i = l.invariant in
    let open_still : accept word_of ParenR (ahead l.cursor) ≡ None = grind arith in
    let same : ahead c.accept.new.self ≡ ahead l.cursor = grind arith in
    let failed : FailsUnless (AreBindingsUsed c.parameter.new.numerator) c.in_err-parameter.field-0.0 (new_name_at i.taken (ahead l.cursor)) = rw same at (c.in_err-parameter.ensures.gives i.taken i.names) in
    let p = err_from_is_err_and c.from_residual.result c.from_residual.ensures.1 in
    rw (p.1, p.2) (no_name i.taken l.parameters.items i.turns (ahead l.cursor) _ i.fuel i.so_far open_still _ c.in_err-parameter.field-0.0 failed)

pub returns-in_err-expect-clause-gives : goal.returns-in_err-expect-clause-gives
returns-in_err-expect-clause-gives c =
    let l = c.loop-alloc in
    let i = l.invariant in
    let open_still : accept word_of ParenR (ahead l.cursor) ≡ None = grind arith in
    let same : ahead c.accept.new.self ≡ ahead l.cursor = grind arith in
    let new : new_name_at i.taken (ahead l.cursor) ≡ Ok (c.in_ok-parameter.parameter.0.token, ahead c.parameter.new.cursor) = rw same at (c.in_ok-parameter.ensures.gives i.taken i.names) in
    let no_comma : accept word_of Comma (ahead c.parameter.new.cursor) ≡ None = grind arith in
    let same_behind : ahead c.accept-in-loop-alloc.new.self ≡ ahead c.parameter.new.cursor = grind arith in
    let failed = rw same_behind at c.in_err-expect.ensures in
    let p = err_from_is_err_and c.from_residual-in_err-expect.result c.from_residual-in_err-expect.ensures.1 in
    rw (p.1, p.2) (no_close i.taken l.parameters.items i.turns (ahead l.cursor) _ i.fuel i.so_far open_still c.in_ok-parameter.parameter (ahead c.parameter.new.cursor) new no_comma _ c.in_err-expect.field-0.0 failed)

pub returns-then-is_none-clause-gives : goal.returns-then-is_none-clause-gives
returns-then-is_none-clause-gives c =
    let l = c.loop-alloc in
    let i = l.invariant in
    let open_still : accept word_of ParenR (ahead l.cursor) ≡ None = grind arith in
    let same : ahead c.accept.new.self ≡ ahead l.cursor = grind arith in
    let new : new_name_at i.taken (ahead l.cursor) ≡ Ok (c.in_ok-parameter.parameter.0.token, ahead c.parameter.new.cursor) = rw same at (c.in_ok-parameter.ensures.gives i.taken i.names) in
    let no_comma : accept word_of Comma (ahead c.parameter.new.cursor) ≡ None = grind arith in
    let same_behind : ahead c.accept-in-loop-alloc.new.self ≡ ahead c.parameter.new.cursor = grind arith in
    let closes : expect word_of ParenR (ahead c.parameter.new.cursor) ≡ Ok (c.in_ok-expect.field-0, ahead c.expect.new.self) = rw same_behind at c.in_ok-expect.ensures in
    let pushed : c.push.new.self.items ≡ l.parameters.items ++ c.in_ok-parameter.parameter ∷ [] = search rules in
    rw pushed (is_last i.taken l.parameters.items i.turns (ahead l.cursor) _ i.fuel i.so_far open_still c.in_ok-parameter.parameter (ahead c.parameter.new.cursor) new no_comma c.in_ok-expect.field-0 (ahead c.expect.new.self) closes)

pub returns-then-is_none-clause-numbers : goal.returns-then-is_none-clause-numbers
returns-then-is_none-clause-numbers c =
    let l = c.loop-alloc in
    let pushed : c.push.new.self.items ≡ l.parameters.items ++ c.in_ok-parameter.parameter ∷ [] = search rules in
    rw pushed (one_more c.args.numerator.now l.numerator c.parameter.new.numerator l.parameters.items c.in_ok-parameter.parameter l.invariant.numbers c.in_ok-parameter.ensures.number)

pub loop-alloc-smaller : goal.loop-alloc-smaller
loop-alloc-smaller c =
    let l = c.loop-alloc in
    let i = l.invariant in
    let same : ahead c.accept.new.self ≡ ahead l.cursor = grind arith in
    let new : new_name_at i.taken (ahead l.cursor) ≡ Ok (c.in_ok-parameter.parameter.0.token, ahead c.parameter.new.cursor) = rw same at (c.in_ok-parameter.ensures.gives i.taken i.names) in
    let less = new_name_shorter i.taken (ahead l.cursor) c.in_ok-parameter.parameter.0.token (ahead c.parameter.new.cursor) new in
    let comma = taken Comma (ahead c.parameter.new.cursor) c.accept-in-loop-alloc.result (ahead c.accept-in-loop-alloc.new.self) c.accept-in-loop-alloc.ensures.accepted (search rules) in
    let fewer = accept_shorter word_of Comma (ahead c.parameter.new.cursor) (comma.0, ahead c.accept-in-loop-alloc.new.self) comma.1 in omega (arith, less, fewer)

pub loop-alloc-preserved : goal.loop-alloc-preserved
loop-alloc-preserved c =
    let l = c.loop-alloc in
    let i = l.invariant in
    let open_still : accept word_of ParenR (ahead l.cursor) ≡ None = grind arith in
    let same : ahead c.accept.new.self ≡ ahead l.cursor = grind arith in
    let new : new_name_at i.taken (ahead l.cursor) ≡ Ok (c.in_ok-parameter.parameter.0.token, ahead c.parameter.new.cursor) = rw same at (c.in_ok-parameter.ensures.gives i.taken i.names) in
    let less = new_name_shorter i.taken (ahead l.cursor) c.in_ok-parameter.parameter.0.token (ahead c.parameter.new.cursor) new in
    let comma = taken Comma (ahead c.parameter.new.cursor) c.accept-in-loop-alloc.result (ahead c.accept-in-loop-alloc.new.self) c.accept-in-loop-alloc.ensures.accepted (search rules) in
    let fewer = accept_shorter word_of Comma (ahead c.parameter.new.cursor) (comma.0, ahead c.accept-in-loop-alloc.new.self) comma.1 in
    let pushed : c.push.new.self.items ≡ l.parameters.items ++ c.in_ok-parameter.parameter ∷ [] = search rules in
    record {
      turns = i.turns - 1;
      taken = lexeme c.in_ok-parameter.parameter.0.token ∷ i.taken;
      fuel = omega (arith, less, fewer, i.fuel);
      names = c.in_ok-parameter.ensures.remembered i.taken i.names;
      so_far = rw pushed (goes_on i.taken l.parameters.items i.turns (ahead l.cursor) _ i.fuel i.so_far open_still c.in_ok-parameter.parameter (ahead c.parameter.new.cursor) new comma.0 (ahead c.accept-in-loop-alloc.new.self) comma.1);
      numbers = rw pushed (one_more c.args.numerator.now l.numerator c.parameter.new.numerator l.parameters.items c.in_ok-parameter.parameter i.numbers c.in_ok-parameter.ensures.number);
      room = let more = one_parameter l.parameters.items c.in_ok-parameter.parameter in rw pushed (omega (arith, more, less, fewer, i.room));
    }

pub returns-clause-gives : goal.returns-clause-gives
returns-clause-gives c =
    let l = c.loop-alloc in
    let i = l.invariant in
    let close = taken ParenR (ahead l.cursor) c.accept.result (ahead c.accept.new.self) c.accept.ensures.accepted (search rules) in
    at_end i.taken l.parameters.items i.turns (ahead l.cursor) _ i.fuel i.so_far close.0 (ahead c.accept.new.self) close.1

pub returns-in_err-parameter-clause-frugal : goal.returns-in_err-parameter-clause-frugal
returns-in_err-parameter-clause-frugal c =
    let l = c.loop-alloc in
    let same : ahead c.accept.new.self ≡ ahead l.cursor = grind arith in
    let frugal : IsFrugal (ahead l.cursor) l.numerator c.parameter.new.numerator = rw same at c.in_err-parameter.ensures.frugal in
    bindings_first (ahead c.args.cursor.now) (ahead l.cursor) c.args.numerator.now l.numerator c.parameter.new.numerator (length (parameter_numbers l.parameters.items)) l.invariant.numbers.gone_on l.invariant.room frugal

pub returns-in_err-push-clause-frugal : goal.returns-in_err-push-clause-frugal
returns-in_err-push-clause-frugal c =
    let l = c.loop-alloc in
    let same : ahead c.accept.new.self ≡ ahead l.cursor = grind arith in
    let frugal : IsFrugal (ahead l.cursor) l.numerator c.parameter.new.numerator = rw same at c.in_ok-parameter.ensures.frugal in
    bindings_first (ahead c.args.cursor.now) (ahead l.cursor) c.args.numerator.now l.numerator c.parameter.new.numerator (length (parameter_numbers l.parameters.items)) l.invariant.numbers.gone_on l.invariant.room frugal

pub returns-in_err-expect-clause-frugal : goal.returns-in_err-expect-clause-frugal
returns-in_err-expect-clause-frugal c =
    let l = c.loop-alloc in
    let same : ahead c.accept.new.self ≡ ahead l.cursor = grind arith in
    let frugal : IsFrugal (ahead l.cursor) l.numerator c.parameter.new.numerator = rw same at c.in_ok-parameter.ensures.frugal in
    bindings_first (ahead c.args.cursor.now) (ahead l.cursor) c.args.numerator.now l.numerator c.parameter.new.numerator (length (parameter_numbers l.parameters.items)) l.invariant.numbers.gone_on l.invariant.room frugal

pub returns-then-is_none-clause-frugal : goal.returns-then-is_none-clause-frugal
returns-then-is_none-clause-frugal c =
    let l = c.loop-alloc in
    let same : ahead c.accept.new.self ≡ ahead l.cursor = grind arith in
    let frugal : IsFrugal (ahead l.cursor) l.numerator c.parameter.new.numerator = rw same at c.in_ok-parameter.ensures.frugal in
    bindings_first (ahead c.args.cursor.now) (ahead l.cursor) c.args.numerator.now l.numerator c.parameter.new.numerator (length (parameter_numbers l.parameters.items)) l.invariant.numbers.gone_on l.invariant.room frugal

pub returns-clause-frugal : goal.returns-clause-frugal
returns-clause-frugal c =
    let l = c.loop-alloc in
    bindings_first (ahead c.args.cursor.now) (ahead l.cursor) c.args.numerator.now l.numerator l.numerator (length (parameter_numbers l.parameters.items)) l.invariant.numbers.gone_on l.invariant.room (unused (ahead l.cursor) l.numerator l.numerator refl)
