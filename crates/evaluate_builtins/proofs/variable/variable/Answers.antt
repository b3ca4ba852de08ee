-- One variable after another.
use Rattle.std.proofs.Common.{◌∷◌, [], ◌+◌, Ok, Err, map, drop, subst, ap, ◌∙◌, option_map}
use Rattle.std.specs.String.{string_bytes}
use Rattle.meaning_dialogues.specs.Dialogue.{Ends, Evaluates}
use Rattle.evaluate_context.specs.Environment as environment
use Rattle.evaluate_builtins.specs.Builtins.{first_variable}
use Rattle.evaluate_builtins.specs.Named.{named}
use Rattle.evaluate_builtins.specs.Variables.{IsLookedUp, default_told}
use Rattle.evaluate_builtins.proofs.Named.{value_named}
use Rattle.evaluate_builtins.proofs.Variables.{led_first, led_more, led_found, led_refused, led_to_end, left_at, none_left}
use Rattle.evaluate_builtins.proofs.variable.variable.Goals as goal

pub loop-name-init : goal.loop-name-init
loop-name-init g c = (λ kinds has start asked. asked, led_first (map environment.variable c.args.dotenv.now.entries) (map string_bytes c.elements-name-items.result.now) c.args.host.now.entries)

pub loop-name-preserved : goal.loop-name-preserved
loop-name-preserved g c =
    let dotenv = map environment.variable c.args.dotenv.now.entries in
    let items = c.elements-name-items.result.now in (
      λ kinds has start asked. c.looked_up.ensures.asks kinds has start (c.loop-name.invariant.0 kinds has start asked),
      led_more dotenv (map string_bytes items) (map string_bytes (drop c.loop-name.name-index items)) (map string_bytes (drop (c.loop-name.name-index + 1) items)) c.as_str.result.now c.args.host.now.entries c.loop-name.host.entries c.looked_up.new.host.entries
          c.loop-name.invariant.1 (left_at items c.loop-name.name-index c.name-item.result c.as_str.result.now c.loop-name-test.true c.name-item.is c.as_str.ensures.value)
          (subst (λ r. IsLookedUp dotenv c.as_str.result.now c.loop-name.host.entries c.looked_up.new.host.entries r) (c.in-Ok-None.is ∙ ap (λ o. Ok o) c.in-Ok-None.field-0-is) c.looked_up.ensures.leads),
    )

pub returns-in-Err-clause-evaluates : goal.returns-in-Err-clause-evaluates
returns-in-Err-clause-evaluates g c name reading =
    let dotenv = map environment.variable c.args.dotenv.now.entries in
    let items = c.elements-name-items.result.now in
    let rest = Ends (default_told name c.args.names.now (option_map (λ value. value.now) c.args.default)) in
    subst (λ names. Evaluates reading (first_variable name dotenv rest names) c.args.host.now.entries c.looked_up.new.host.entries (named name (Err c.in-Err.fault))) c.elements-name-items.ensures
    (led_refused dotenv (map string_bytes items) (map string_bytes (drop c.loop-name.name-index items)) (map string_bytes (drop (c.loop-name.name-index + 1) items)) c.as_str.result.now c.in-Err.fault c.args.host.now.entries c.loop-name.host.entries c.looked_up.new.host.entries name reading rest
    c.loop-name.invariant.1 (left_at items c.loop-name.name-index c.name-item.result c.as_str.result.now c.loop-name-test.true c.name-item.is c.as_str.ensures.value) c.in-Err.ensures.leads)

pub returns-in-Ok-Some-clause-evaluates : goal.returns-in-Ok-Some-clause-evaluates
returns-in-Ok-Some-clause-evaluates g c name reading =
    let dotenv = map environment.variable c.args.dotenv.now.entries in
    let items = c.elements-name-items.result.now in
    let rest = Ends (default_told name c.args.names.now (option_map (λ value. value.now) c.args.default)) in
    subst (λ names. Evaluates reading (first_variable name dotenv rest names) c.args.host.now.entries c.looked_up.new.host.entries (named name c.text_value.result)) c.elements-name-items.ensures
    (led_found dotenv (map string_bytes items) (map string_bytes (drop c.loop-name.name-index items)) (map string_bytes (drop (c.loop-name.name-index + 1) items)) c.as_str.result.now c.in-Ok-Some.text c.args.host.now.entries c.loop-name.host.entries c.looked_up.new.host.entries c.text_value.result name reading rest
    c.loop-name.invariant.1 (left_at items c.loop-name.name-index c.name-item.result c.as_str.result.now c.loop-name-test.true c.name-item.is c.as_str.ensures.value)
    (subst (λ r. IsLookedUp dotenv c.as_str.result.now c.loop-name.host.entries c.looked_up.new.host.entries r) (c.in-Ok-Some.is ∙ ap (λ o. Ok o) c.in-Ok-Some.field-0-is) c.looked_up.ensures.leads) (value_named name (c.in-Ok-Some.text ∷ []) c.text_value.result c.text_value.ensures))

pub returns-clause-evaluates : goal.returns-clause-evaluates
returns-clause-evaluates g c name reading =
    let dotenv = map environment.variable c.args.dotenv.now.entries in
    let items = c.elements-name-items.result.now in
    let said = default_told name c.args.names.now (option_map (λ value. value.now) c.args.default) in
    subst (λ names. Evaluates reading (first_variable name dotenv (Ends said) names) c.args.host.now.entries c.loop-name.host.entries (named name c.default_or_refusal.result)) c.elements-name-items.ensures
    (led_to_end dotenv (map string_bytes items) (map string_bytes (drop c.loop-name.name-index items)) c.args.host.now.entries c.loop-name.host.entries name reading c.default_or_refusal.result said
    c.loop-name.invariant.1 (none_left items c.loop-name.name-index c.loop-name-test.false) (c.default_or_refusal.ensures name))
