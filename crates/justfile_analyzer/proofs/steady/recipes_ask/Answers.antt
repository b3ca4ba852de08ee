-- One of the expressions asks.
use Rattle.std.proofs.Common.{◌≡◌, ◌∙◌, subst, sym}
use Rattle.std.specs.List.{flat_map}
use Rattle.std.proofs.lemmas.Result.{IfOk-weaker}
use Rattle.tree_expressions.specs.declared.expression.Expression.{Expression}
use Rattle.std.proofs.Common.{List}
use Rattle.resolve_references.specs.References.{references_of}
use Rattle.justfile_analyzer.specs.Steady.{AsksAmong, first_at}
use Rattle.justfile_analyzer.proofs.Asking.{one_of_them, they_ask}
use Rattle.justfile_analyzer.proofs.steady.recipes_ask.Goals as goal

pub returns : goal.returns
returns c =
    let functions = c.args.functions.now in
    let es : List Expression = flat_map (first_at c.args.compilation.now c.args.share_subsequents) c.args.places.now in
    let is : c.as_slice.result.now ≡ flat_map references_of es = c.as_slice.ensures ∙ c.in_ok-references.ensures in
    IfOk-weaker c.references_ask.result _ _
    (λ asks so. (λ told. one_of_them functions es (subst (AsksAmong functions) is (so.0 told)), λ one. so.1 (subst (AsksAmong functions) (sym is) (they_ask functions es one.0 one.1 one.2)))) c.references_ask.ensures
