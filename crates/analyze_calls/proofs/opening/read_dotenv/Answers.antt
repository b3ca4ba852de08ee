-- Nothing is asked for, the host ends it, or what is told is held by name.
use Rattle.std.proofs.Common.{rules, ◌≡◌, true, false, sym, ◌∙◌, refl}
use Rattle.std.proofs.lemmas.Result.{err_from_is_err_and}
use Rattle.analyze_calls.specs.Opening.{not_told}
use Rattle.analyze_calls.proofs.Beginnings.{asked_begins}
use Rattle.analyze_calls.proofs.Openings.{not_asked, asked_told, asked_ended}
use Rattle.analyze_calls.proofs.opening.read_dotenv.Goals as goal

pub returns-then-not-asks-clause-told : goal.returns-then-not-asks-clause-told
returns-then-not-asks-clause-told g c =
    let off : c.asks.result ≡ false = search rules in
    not_asked c.args.context.now.config.now c.args.context.now.module.now c.args.host.now.entries c.new.result.entries (sym c.asks.ensures ∙ off) c.new.ensures.empty

pub returns-in_err-pairs-clause-told : goal.returns-in_err-pairs-clause-told
returns-in_err-pairs-clause-told g c =
    let on : c.asks.result ≡ true = search rules in
    let p = err_from_is_err_and c.from_residual-in_err-pairs.result c.from_residual-in_err-pairs.ensures.1 in
    rw (p.1, p.2)
    (asked_ended c.args.context.now.config.now c.args.context.now.module.now c.in_ok-request.request (sym c.asks.ensures ∙ on) c.in_ok-request.ensures
    c.args.host.now.entries c.ask_dotenv.new.host.entries c.in_err-pairs.field-0.0 c.in_err-pairs.ensures.requests)

pub returns-clause-told : goal.returns-clause-told
returns-clause-told g c =
    let on : c.asks.result ≡ true = search rules in
    asked_told c.args.context.now.config.now c.args.context.now.module.now c.in_ok-request.request (sym c.asks.ensures ∙ on) c.in_ok-request.ensures
    c.args.host.now.entries c.ask_dotenv.new.host.entries c.in_ok-pairs.pairs c.in_ok-by_name.field-0.entries c.in_ok-pairs.ensures.requests c.in_ok-by_name.ensures

pub returns-then-not-asks-clause-begun : goal.returns-then-not-asks-clause-begun
returns-then-not-asks-clause-begun g c = not_told refl

pub returns-in_err-request-clause-begun : goal.returns-in_err-request-clause-begun
returns-in_err-request-clause-begun g c = not_told refl

pub returns-in_err-pairs-clause-begun : goal.returns-in_err-pairs-clause-begun
returns-in_err-pairs-clause-begun g c =
    let on : c.asks.result ≡ true = search rules in
    asked_begins c.args.context.now.config.now c.args.context.now.module.now c.in_ok-request.request (sym c.asks.ensures ∙ on) c.in_ok-request.ensures
    c.args.host.now.entries c.ask_dotenv.new.host.entries c.in_err-pairs.ensures.begun

pub returns-in_err-by_name-clause-begun : goal.returns-in_err-by_name-clause-begun
returns-in_err-by_name-clause-begun g c =
    let on : c.asks.result ≡ true = search rules in
    asked_begins c.args.context.now.config.now c.args.context.now.module.now c.in_ok-request.request (sym c.asks.ensures ∙ on) c.in_ok-request.ensures
    c.args.host.now.entries c.ask_dotenv.new.host.entries c.in_ok-pairs.ensures.begun

pub returns-clause-begun : goal.returns-clause-begun
returns-clause-begun g c =
    let on : c.asks.result ≡ true = search rules in
    asked_begins c.args.context.now.config.now c.args.context.now.module.now c.in_ok-request.request (sym c.asks.ensures ∙ on) c.in_ok-request.ensures
    c.args.host.now.entries c.ask_dotenv.new.host.entries c.in_ok-pairs.ensures.begun
