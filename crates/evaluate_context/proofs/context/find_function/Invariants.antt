-- None of the functions so far has the name, and the first of the others is the first of all.
use Rattle.std.proofs.Common.{◌≡◌, All, take, drop}
use Rattle.just_text.specs.Tokens.{lexeme}
use Rattle.evaluate_context.specs.Functions.{first_named}
use Rattle.evaluate_context.proofs.context.find_function.Given as goal

abbrev pub invariant-loop-function : goal.invariant-loop-function
invariant-loop-function l = record {
  none : All (λ f. ¬ (lexeme f.definition.now.name.token ≡ l.name)) (take l.function-index l.functions);
  first : first_named l.name l.functions ≡ first_named l.name (drop l.function-index l.functions);
}
