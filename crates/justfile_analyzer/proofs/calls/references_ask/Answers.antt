-- A reference asks, or a function that is reached.
use Rattle.std.proofs.Common.{◌≡◌, ◌∙◌, false, refl, subst, sym}
use Rattle.std.specs.List.{list_any}
use Rattle.std.proofs.lemmas.Result.{IfOk-weaker}
use Rattle.justfile_analyzer.specs.Calls.{OneAsks, all_called, asks_at}
use Rattle.justfile_analyzer.proofs.Asking.{asks_one, here_asks, one_asks}
use Rattle.justfile_analyzer.proofs.calls.references_ask.Goals as goal

pub returns-then-any_asks_there : goal.returns-then-any_asks_there
returns-then-any_asks_there c = (λ told. here_asks c.args.functions.now c.args.references.now (sym c.any_asks_there.ensures ∙ c.if-any_asks_there.true), λ asks. refl)

pub returns : goal.returns
returns c =
    let functions = c.args.functions.now in
    let references = c.args.references.now in
    let roots : c.as_slice.result.now ≡ all_called functions references = c.as_slice.ensures.value ∙ c.in_ok-roots.ensures in
    let none : list_any (asks_at functions) references ≡ false = sym c.any_asks_there.ensures ∙ c.if-any_asks_there.false in
    IfOk-weaker c.functions_ask.result _ _
    (λ asks so. (λ told. one_asks functions references (subst (OneAsks functions) roots (so.0 told)), λ asked. so.1 (subst (OneAsks functions) (sym roots) (asks_one functions references none asked)))) c.functions_ask.ensures
