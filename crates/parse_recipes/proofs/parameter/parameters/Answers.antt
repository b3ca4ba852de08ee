-- Each turn reads a parameter, and the last is one that takes all values that remain.
use Rattle.std.proofs.Common.{◌≡◌, ◌∙◌, ◌+◌, ◌-◌, ◌++◌, ◌∷◌, [], suc, sym, true, false, length, Ok, Some, None, rules, arith, length-append}
use Rattle.std.proofs.lemmas.Result.{err_from_is_err_and}
use Rattle.just_text.specs.Tokens.{word_of, lexeme}
use Rattle.tree_items.specs.Recipes.{is_variadic}
use Rattle.parse_expressions.specs.Origins.{origin_of}
use Rattle.parse_expressions.specs.Reading.{ahead}
use Rattle.parse_recipes.specs.Cooked.{IsParameterCooked}
use Rattle.parse_recipes.specs.Plain.{IsPlain}
use Rattle.parse_recipes.specs.Reading.{parameter_at}
use Rattle.parse_recipes.specs.Seen.{named_shape}
use Rattle.parse_recipes.proofs.Frugal.{bindings_first}
use Rattle.parse_recipes.proofs.ParameterTurns.{start, item_fails, none_left, name_fails, last_fails, is_last, goes_on, numbered}
use Rattle.parse_recipes.proofs.Turns.{all_more}
use Rattle.parse_recipes.proofs.Shrinks.{parameter_shrinks}
use Rattle.parse_recipes.proofs.parameter.parameters.Goals as goal

pub loop-parameters-init : goal.loop-parameters-init
loop-parameters-init g c =
    let ts = ahead c.args.cursor.now in
    let none : c.new-parameters.result.items ≡ [] = search rules in
    let s = start (origin_of g.E.Expander.expansion c.args.context.now) c.args.numerator.now c.new-names.result c.new-parameters.result.items ts c.new-names.ensures none in
    record { turns = suc (length ts); taken = []; fuel = omega arith; names = s.names; so_far = s.so_far; numbers = s.numbered; room = rw none (omega arith); plain = s.plain; cooked = s.cooked }

pub returns-in_err-parameter-clause-gives : goal.returns-in_err-parameter-clause-gives
returns-in_err-parameter-clause-gives g c =
    let l = c.loop-parameters in
    let x = g.E.Expander.expansion c.args.context.now.expander.now in
    let p = err_from_is_err_and c.from_residual.result c.from_residual.ensures.1 in
    rw (p.1, p.2) (item_fails x l.parameters.items l.invariant.turns l.invariant.taken (ahead l.cursor) _ l.invariant.fuel l.invariant.so_far _ c.in_err-parameter.field-0.0 c.in_err-parameter.ensures.gives)

pub returns-in_err-remember-clause-gives : goal.returns-in_err-remember-clause-gives
returns-in_err-remember-clause-gives g c =
    let l = c.loop-parameters in
    let x = g.E.Expander.expansion c.args.context.now.expander.now in
    let is : c.in_ok-parameter.field-0 ≡ Some c.in-Some.parameter = cc c.in-Some.is in
    let read : parameter_at word_of x (ahead l.cursor) ≡ Ok (Some (named_shape c.in-Some.parameter), ahead c.parameter.new.cursor) = rw is at c.in_ok-parameter.ensures.gives in
    let p = err_from_is_err_and c.from_residual-in_err-remember.result c.from_residual-in_err-remember.ensures.1 in
    rw (p.1, p.2)
    (name_fails x l.parameters.items l.invariant.turns l.invariant.taken (ahead l.cursor) _ l.invariant.fuel l.invariant.so_far c.in-Some.parameter (ahead c.parameter.new.cursor) read _ c.in_err-remember.field-0.0
    (c.in_err-remember.ensures.gives l.invariant.taken l.invariant.names))

pub returns-in_err-check_last-clause-gives : goal.returns-in_err-check_last-clause-gives
returns-in_err-check_last-clause-gives g c =
    let l = c.loop-parameters in
    let x = g.E.Expander.expansion c.args.context.now.expander.now in
    let is : c.in_ok-parameter.field-0 ≡ Some c.in-Some.parameter = cc c.in-Some.is in
    let read : parameter_at word_of x (ahead l.cursor) ≡ Ok (Some (named_shape c.in-Some.parameter), ahead c.parameter.new.cursor) = rw is at c.in_ok-parameter.ensures.gives in
    let new = c.in_ok-remember.ensures.gives l.invariant.taken l.invariant.names in
    let variadic : is_variadic c.in-Some.parameter.kind ≡ true = sym c.is_variadic-is_variadic.ensures ∙ c.if-is_variadic.true in
    let p = err_from_is_err_and c.from_residual-in_err-check_last.result c.from_residual-in_err-check_last.ensures.1 in
    rw (p.1, p.2)
    (last_fails x l.parameters.items l.invariant.turns l.invariant.taken (ahead l.cursor) _ l.invariant.fuel l.invariant.so_far c.in-Some.parameter (ahead c.parameter.new.cursor) read new variadic _ c.in_err-check_last.field-0.0
    c.in_err-check_last.ensures)

pub returns-then-is_variadic-clause-gives : goal.returns-then-is_variadic-clause-gives
returns-then-is_variadic-clause-gives g c =
    let l = c.loop-parameters in
    let x = g.E.Expander.expansion c.args.context.now.expander.now in
    let is : c.in_ok-parameter.field-0 ≡ Some c.in-Some.parameter = cc c.in-Some.is in
    let read : parameter_at word_of x (ahead l.cursor) ≡ Ok (Some (named_shape c.in-Some.parameter), ahead c.parameter.new.cursor) = rw is at c.in_ok-parameter.ensures.gives in
    let new = c.in_ok-remember.ensures.gives l.invariant.taken l.invariant.names in
    let variadic : is_variadic c.in-Some.parameter.kind ≡ true = sym c.is_variadic-is_variadic.ensures ∙ c.if-is_variadic.true in
    let pushed : c.push_compact.new.list.items ≡ l.parameters.items ++ c.in-Some.parameter ∷ [] = search rules in
    rw pushed
    (is_last x l.parameters.items l.invariant.turns l.invariant.taken (ahead l.cursor) _ l.invariant.fuel l.invariant.so_far c.in-Some.parameter (ahead c.parameter.new.cursor) read new variadic (ahead c.parameter.new.cursor)
    c.in_ok-check_last.ensures)

pub returns-then-is_variadic-clause-numbers : goal.returns-then-is_variadic-clause-numbers
returns-then-is_variadic-clause-numbers g c =
    let l = c.loop-parameters in
    let is : c.in_ok-parameter.field-0 ≡ Some c.in-Some.parameter = cc c.in-Some.is in
    let pushed : c.push_compact.new.list.items ≡ l.parameters.items ++ c.in-Some.parameter ∷ [] = search rules in
    rw pushed (numbered c.args.numerator.now l.numerator c.parameter.new.numerator l.parameters.items c.in-Some.parameter l.invariant.numbers (rw is at c.in_ok-parameter.ensures.number))

pub returns-then-is_variadic-clause-plain : goal.returns-then-is_variadic-clause-plain
returns-then-is_variadic-clause-plain g c =
    let l = c.loop-parameters in
    let is : c.in_ok-parameter.field-0 ≡ Some c.in-Some.parameter = cc c.in-Some.is in
    let pushed : c.push_compact.new.list.items ≡ l.parameters.items ++ c.in-Some.parameter ∷ [] = search rules in
    rw pushed (all_more IsPlain l.parameters.items c.in-Some.parameter l.invariant.plain (rw is at c.in_ok-parameter.ensures.plain))

pub returns-then-is_variadic-clause-cooked : goal.returns-then-is_variadic-clause-cooked
returns-then-is_variadic-clause-cooked g c =
    let l = c.loop-parameters in
    let is : c.in_ok-parameter.field-0 ≡ Some c.in-Some.parameter = cc c.in-Some.is in
    let pushed : c.push_compact.new.list.items ≡ l.parameters.items ++ c.in-Some.parameter ∷ [] = search rules in
    rw pushed (all_more (IsParameterCooked (origin_of g.E.Expander.expansion c.args.context.now)) l.parameters.items c.in-Some.parameter l.invariant.cooked (rw is at c.in_ok-parameter.ensures.cooked))

pub loop-parameters-smaller : goal.loop-parameters-smaller
loop-parameters-smaller g c =
    let l = c.loop-parameters in
    let x = g.E.Expander.expansion c.args.context.now.expander.now in
    let is : c.in_ok-parameter.field-0 ≡ Some c.in-Some.parameter = cc c.in-Some.is in
    let read : parameter_at word_of x (ahead l.cursor) ≡ Ok (Some (named_shape c.in-Some.parameter), ahead c.parameter.new.cursor) = rw is at c.in_ok-parameter.ensures.gives in
    parameter_shrinks word_of x (ahead l.cursor) (Some (named_shape c.in-Some.parameter), ahead c.parameter.new.cursor) read

pub loop-parameters-preserved : goal.loop-parameters-preserved
loop-parameters-preserved g c =
    let l = c.loop-parameters in
    let x = g.E.Expander.expansion c.args.context.now.expander.now in
    let is : c.in_ok-parameter.field-0 ≡ Some c.in-Some.parameter = cc c.in-Some.is in
    let read : parameter_at word_of x (ahead l.cursor) ≡ Ok (Some (named_shape c.in-Some.parameter), ahead c.parameter.new.cursor) = rw is at c.in_ok-parameter.ensures.gives in
    let less = parameter_shrinks word_of x (ahead l.cursor) (Some (named_shape c.in-Some.parameter), ahead c.parameter.new.cursor) read in
    let new = c.in_ok-remember.ensures.gives l.invariant.taken l.invariant.names in
    let single : is_variadic c.in-Some.parameter.kind ≡ false = sym c.is_variadic-is_variadic.ensures ∙ c.if-is_variadic.false in
    let pushed : c.push_compact.new.list.items ≡ l.parameters.items ++ c.in-Some.parameter ∷ [] = search rules in
    let many : length (l.parameters.items ++ c.in-Some.parameter ∷ []) ≡ length l.parameters.items + 1 = length-append l.parameters.items (c.in-Some.parameter ∷ []) in
    record {
      turns = l.invariant.turns - 1;
      taken = lexeme c.in-Some.parameter.name.token ∷ l.invariant.taken;
      fuel = omega (arith, less, l.invariant.fuel);
      names = c.in_ok-remember.ensures.remembered l.invariant.taken l.invariant.names;
      so_far = rw pushed (goes_on x l.parameters.items l.invariant.turns l.invariant.taken (ahead l.cursor) _ l.invariant.fuel l.invariant.so_far c.in-Some.parameter (ahead c.parameter.new.cursor) read new single);
      numbers = rw pushed (numbered c.args.numerator.now l.numerator c.parameter.new.numerator l.parameters.items c.in-Some.parameter l.invariant.numbers (rw is at c.in_ok-parameter.ensures.number));
      room = rw pushed (omega (arith, many, less, l.invariant.room));
      plain = rw pushed (all_more IsPlain l.parameters.items c.in-Some.parameter l.invariant.plain (rw is at c.in_ok-parameter.ensures.plain));
      cooked = rw pushed (all_more (IsParameterCooked (origin_of g.E.Expander.expansion c.args.context.now)) l.parameters.items c.in-Some.parameter l.invariant.cooked (rw is at c.in_ok-parameter.ensures.cooked));
    }

pub returns-clause-gives : goal.returns-clause-gives
returns-clause-gives g c =
    let l = c.loop-parameters in
    let x = g.E.Expander.expansion c.args.context.now.expander.now in
    let none : c.in_ok-parameter.field-0 ≡ None = c.in_default.is in
    let read : parameter_at word_of x (ahead l.cursor) ≡ Ok (None, ahead c.parameter.new.cursor) = rw none at c.in_ok-parameter.ensures.gives in
    none_left x l.parameters.items l.invariant.turns l.invariant.taken (ahead l.cursor) _ l.invariant.fuel l.invariant.so_far (ahead c.parameter.new.cursor) read

pub returns-in_err-parameter-clause-frugal : goal.returns-in_err-parameter-clause-frugal
returns-in_err-parameter-clause-frugal g c =
    let l = c.loop-parameters in
    bindings_first (ahead c.args.cursor.now) (ahead l.cursor) c.args.numerator.now l.numerator c.parameter.new.numerator (length l.parameters.items) l.invariant.numbers.gone_on l.invariant.room c.in_err-parameter.ensures.frugal

pub returns-in_err-push_compact-clause-frugal : goal.returns-in_err-push_compact-clause-frugal
returns-in_err-push_compact-clause-frugal g c =
    let l = c.loop-parameters in
    bindings_first (ahead c.args.cursor.now) (ahead l.cursor) c.args.numerator.now l.numerator c.parameter.new.numerator (length l.parameters.items) l.invariant.numbers.gone_on l.invariant.room c.in_ok-parameter.ensures.frugal

pub returns-in_err-remember-clause-frugal : goal.returns-in_err-remember-clause-frugal
returns-in_err-remember-clause-frugal g c =
    let l = c.loop-parameters in
    bindings_first (ahead c.args.cursor.now) (ahead l.cursor) c.args.numerator.now l.numerator c.parameter.new.numerator (length l.parameters.items) l.invariant.numbers.gone_on l.invariant.room c.in_ok-parameter.ensures.frugal

pub returns-in_err-check_last-clause-frugal : goal.returns-in_err-check_last-clause-frugal
returns-in_err-check_last-clause-frugal g c =
    let l = c.loop-parameters in
    bindings_first (ahead c.args.cursor.now) (ahead l.cursor) c.args.numerator.now l.numerator c.parameter.new.numerator (length l.parameters.items) l.invariant.numbers.gone_on l.invariant.room c.in_ok-parameter.ensures.frugal

pub returns-then-is_variadic-clause-frugal : goal.returns-then-is_variadic-clause-frugal
returns-then-is_variadic-clause-frugal g c =
    let l = c.loop-parameters in
    bindings_first (ahead c.args.cursor.now) (ahead l.cursor) c.args.numerator.now l.numerator c.parameter.new.numerator (length l.parameters.items) l.invariant.numbers.gone_on l.invariant.room c.in_ok-parameter.ensures.frugal

pub returns-clause-frugal : goal.returns-clause-frugal
returns-clause-frugal g c =
    let l = c.loop-parameters in
    bindings_first (ahead c.args.cursor.now) (ahead l.cursor) c.args.numerator.now l.numerator c.parameter.new.numerator (length l.parameters.items) l.invariant.numbers.gone_on l.invariant.room c.in_ok-parameter.ensures.frugal
