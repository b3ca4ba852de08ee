use Rattle.std.proofs.Common.{◌≡◌, All, false, take, sym, subst, ◌∙◌, ap, arith}
use Rattle.std.proofs.lemmas.Bool.Decides.{not_from_Decides}
use Rattle.std.proofs.lemmas.List.{take_all}
use Rattle.std.proofs.lemmas.List.Elements.{All-more}
use Rattle.std.proofs.lemmas.Slice.Eq.{bytes_eq-Decides}
use Rattle.std.specs.Str.{bytes_eq}
use Rattle.just_text.specs.Tokens.{lexeme}
use Rattle.evaluate_context.specs.declared.context.FunctionRef.{FunctionRef}
use Rattle.evaluate_context.proofs.FirstNamed.{first_later}
use Rattle.evaluate_context.proofs.context.find_function.Goals as goal

pub loop-function-preserved : goal.loop-function-preserved
loop-function-preserved c =
    let P : FunctionRef → Type 0 = λ f. ¬ (lexeme f.definition.now.name.token ≡ c.args.name.now) in
    let other : P c.function-item.result = λ e. not_from_Decides _ (bytes_eq-Decides c.lexeme.result.now c.args.name.now) (sym c.eq.ensures ∙ c.if-eq.false) (c.lexeme.ensures ∙ e) in
    let differs : bytes_eq (lexeme c.function-item.result.definition.now.name.token) c.args.name.now ≡ false = ap (λ t. bytes_eq t c.args.name.now) (sym c.lexeme.ensures) ∙ (sym c.eq.ensures ∙ c.if-eq.false) in
    record {
      none = All-more P c.args.functions.now c.loop-function.function-index c.function-item.result (omega (arith, c.loop-function-test.true)) c.loop-function.invariant.none (subst P c.function-item.is other);
      first = first_later c.args.name.now c.args.functions.now c.loop-function.function-index c.function-item.result (omega (arith, c.loop-function-test.true)) c.function-item.is differs c.loop-function.invariant.first;
    }

pub returns-clause-none : goal.returns-clause-none
returns-clause-none c =
    let P : FunctionRef → Type 0 = λ f. ¬ (lexeme f.definition.now.name.token ≡ c.args.name.now) in
    let whole : take c.loop-function.function-index c.args.functions.now ≡ c.args.functions.now = take_all c.loop-function.function-index c.args.functions.now c.loop-function-test.false in
    subst (All P) whole c.loop-function.invariant.none
