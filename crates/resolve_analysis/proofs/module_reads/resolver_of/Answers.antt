-- The variables, and then the functions.
use Rattle.std.proofs.Common.{◌≡◌, ◌∙◌, ap, arith, length, sym}
use Rattle.std.specs.BTreeMap.{get_by}
use Rattle.std.specs.Ordering.{nat_cmp}
use Rattle.std.proofs.lemmas.List.{length-map}
use Rattle.evaluate_context.specs.declared.context.AssignmentRef.{AssignmentRef}
use Rattle.resolve_references.specs.Functions.{function_in}
use Rattle.resolve_references.specs.Places.{variable_in}
use Rattle.resolve_analysis.specs.Lists.{functions_in, variables_in}
use Rattle.resolve_analysis.specs.Reads.{defined_if_named, last_found, place_if_numbered}
use Rattle.resolve_analysis.proofs.Resolving.{or_none}
use Rattle.resolve_analysis.proofs.module_reads.resolver_of.Goals as goal

pub returns : goal.returns
unfolding variable_in
returns c =
    let variables = c.args.lists.now.assignments in
    let many : c.len.result ≡ length variables.items = omega (arith, c.len.ensures, variables.ok.0) in
    record {
      many = c.in_ok-add_functions.ensures.variables ∙ c.in_ok-add_variables.ensures.variables ∙ c.new-resolver.ensures.variables ∙ many ∙ sym (length-map variables.items (λ (lent : AssignmentRef). lent.assignment.now));
      places = λ number.
          ap (get_by (nat_cmp number)) c.in_ok-add_functions.ensures.numbers
          ∙ c.in_ok-add_variables.ensures.places number
          ∙ or_none _ _ (c.new-resolver.ensures.none number)
          ∙ ap (λ list. last_found (place_if_numbered number) 0 (variables_in list)) c.as_slice.ensures.value;
      functions = λ name.
          c.in_ok-add_functions.ensures.functions name
          ∙ or_none _ _ (ap (λ names. function_in names name) c.in_ok-add_variables.ensures.functions ∙ c.new-resolver.ensures.no_functions name)
          ∙ ap (λ list. last_found (defined_if_named name) 0 (functions_in list)) c.as_slice-2.ensures.value;
    }
