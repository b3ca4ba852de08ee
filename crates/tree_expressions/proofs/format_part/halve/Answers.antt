-- Each turn goes past one row of four braces.
use Rattle.std.proofs.Common.{◌∙◌, ap, sym, ◌++◌, rules}
use Rattle.std.specs.Prelude.{string_bytes}
use Rattle.tree_expressions.proofs.Braces.{halved_on, halved_lacks}
use Rattle.tree_expressions.proofs.format_part.halve.Goals as goal

pub loop-before-preserved : goal.loop-before-preserved
loop-before-preserved c =
    let cases = c.in-Some.ensures.cases in (
      search rules,
      rw (c.in_ok-push_str-2.ensures.bytes, c.in_ok-push_str.ensures.bytes)
          (halved_on (string_bytes c.loop-before.halved) c.loop-before.rest.now c.in-Some.before.now c.in-Some.after.now cases.0 cases.1 cases.2.0 cases.2.1.split cases.3 cases.4 ∙ c.loop-before.invariant.1),
    )

pub returns : goal.returns
returns c =
    c.in_ok-push_str-3.ensures.bytes
    ∙ ap (λ x. string_bytes c.loop-before.halved ++ x) (sym (halved_lacks c.loop-before.rest.now c.in_default.ensures.cases)) ∙ c.loop-before.invariant.1
