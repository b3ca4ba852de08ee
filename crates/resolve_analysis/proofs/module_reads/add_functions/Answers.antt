-- A function more.
use Rattle.std.proofs.Common.{◌≡◌, ◌∙◌, ℕ, ap, arith, cond, get_or, length, sym, Some}
use Rattle.std.specs.Str.{bytes_eq}
use Rattle.evaluate_context.specs.declared.context.FunctionRef.{FunctionRef}
use Rattle.just_text.specs.Tokens.{lexeme}
use Rattle.resolve_references.specs.Functions.{function_in}
use Rattle.resolve_analysis.specs.Reads.{defined_if_named}
use Rattle.resolve_recipes.proofs.Resolving.{next_of}
use Rattle.resolve_analysis.proofs.Resolving.{defined, found_more, or_put}
use Rattle.resolve_analysis.proofs.module_reads.add_functions.Goals as goal

pub loop-place-preserved : goal.loop-place-preserved
loop-place-preserved c =
    let i = c.loop-place.place in
    let x = c.index-functions-place.result in
    let y = get_or c.args.functions.now i x in
    let many : c.len.result ≡ length y.definition.now.parameters.items = omega (arith, c.len.ensures, y.definition.now.parameters.ok.0) in
    record {
      functions = λ name.
          let old = function_in c.loop-place.resolver.functions name in
          found_more (defined_if_named name) (λ (lent : FunctionRef). lent.definition.now) c.args.functions.now i x old (function_in c.add_function.new.self.functions name)
          (next_of c.args.functions.now i x c.loop-place-test.true c.index-functions-place.is)
          (c.in_ok-add_function.ensures.functions name
          ∙ ap (λ text. cond (bytes_eq text name) (Some (defined i c.len.result)) old) c.lexeme.ensures
          ∙ ap (λ (count : ℕ). cond (bytes_eq (lexeme y.definition.now.name.token) name) (Some (defined i count)) old) many
          ∙ ap (λ (lent : FunctionRef). cond (bytes_eq (lexeme lent.definition.now.name.token) name) (Some (defined i (length lent.definition.now.parameters.items))) old) (sym c.index-functions-place.is)
          ∙ or_put (bytes_eq (lexeme x.definition.now.name.token) name) (defined i (length x.definition.now.parameters.items)) old)
          ∙ c.loop-place.invariant.functions name;
      variables = c.in_ok-add_function.ensures.variables ∙ c.loop-place.invariant.variables;
      numbers = c.in_ok-add_function.ensures.numbers ∙ c.loop-place.invariant.numbers;
    }
