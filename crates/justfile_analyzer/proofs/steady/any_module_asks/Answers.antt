-- A module more.
use Rattle.std.proofs.Common.{◌≡◌, ◌∙◌, Some, ap, arith, below_more, get_or, length, refl, subst, sym}
use Rattle.std.specs.Prelude.{slice_get}
use Rattle.std.proofs.lemmas.Option.{slice_get_read, slice_get_within}
use Rattle.evaluate_context.specs.declared.settings.Settings.{Settings}
use Rattle.modules_compilation.specs.declared.module_node.ModuleNode.{ModuleNode}
use Rattle.resolve_analysis.specs.declared.module_lists.ModuleLists.{ModuleLists}
use Rattle.justfile_analyzer.specs.Steady.{AskFirst}
use Rattle.justfile_analyzer.proofs.Steadiness.{asked_there, module_asks}
use Rattle.justfile_analyzer.proofs.steady.any_module_asks.Goals as goal

pub returns-then-branch : goal.returns-then-branch
returns-then-branch c =
    let compilation = c.args.compilation.now in
    let home = c.loop-module.module in
    let node = c.index-modules-module.result in
    let kept = c.index-lists-module.result in
    let own = c.index-settings-module.result in
    let modules = c.as_slice-modules.ensures.value in
    let many = ap length modules in
    let lt = c.loop-module-test.true in
    let end = c.min-module-end.ensures in
    let first = c.min.ensures in
    let here : slice_get compilation.modules.items home ≡ Some node = slice_get_read compilation.modules.items _ home node refl (omega (arith, lt, end, first, many)) (c.index-modules-module.is ∙ ap (λ ns. get_or ns home node) modules) in
    let keeps : slice_get c.args.lists.now home ≡ Some kept = slice_get_read c.args.lists.now _ home kept refl (omega (arith, lt, end, first)) c.index-lists-module.is in
    let set : slice_get c.args.settings.now home ≡ Some own = slice_get_read c.args.settings.now _ home own refl (omega (arith, lt, end)) c.index-settings-module.is in
    let functions_are : c.as_slice.result.now ≡ kept.functions.items = c.as_slice.ensures.value ∙ ap (λ (x : ModuleLists). x.functions.items) (sym c.index-lists-module.is) in
    let places_are : c.as_slice-places.result.now ≡ node.recipes.items = c.as_slice-places.ensures.value ∙ ap (λ (x : ModuleNode). x.recipes.items) (sym c.index-modules-module.is) in
    let asks = subst (λ (x : Settings). AskFirst compilation c.as_slice.result.now x.share_subsequents c.as_slice-places.result.now) (sym c.index-settings-module.is) (c.in_ok-recipes_ask.ensures.0 c.if-branch.true) in
    let functions = subst (λ fs. AskFirst compilation fs own.share_subsequents c.as_slice-places.result.now) functions_are asks in
    let places = subst (AskFirst compilation kept.functions.items own.share_subsequents) places_are functions in
    (λ told. (home, module_asks compilation c.args.lists.now c.args.settings.now home node kept own here keeps set places), λ found. refl)

pub loop-module-preserved : goal.loop-module-preserved
loop-module-preserved c =
    let compilation = c.args.compilation.now in
    let home = c.loop-module.module in
    let node = c.index-modules-module.result in
    let kept = c.index-lists-module.result in
    let own = c.index-settings-module.result in
    let modules = c.as_slice-modules.ensures.value in
    let many = ap length modules in
    let lt = c.loop-module-test.true in
    let end = c.min-module-end.ensures in
    let first = c.min.ensures in
    let here : slice_get compilation.modules.items home ≡ Some node = slice_get_read compilation.modules.items _ home node refl (omega (arith, lt, end, first, many)) (c.index-modules-module.is ∙ ap (λ ns. get_or ns home node) modules) in
    let keeps : slice_get c.args.lists.now home ≡ Some kept = slice_get_read c.args.lists.now _ home kept refl (omega (arith, lt, end, first)) c.index-lists-module.is in
    let set : slice_get c.args.settings.now home ≡ Some own = slice_get_read c.args.settings.now _ home own refl (omega (arith, lt, end)) c.index-settings-module.is in
    let functions_are : c.as_slice.result.now ≡ kept.functions.items = c.as_slice.ensures.value ∙ ap (λ (x : ModuleLists). x.functions.items) (sym c.index-lists-module.is) in
    let places_are : c.as_slice-places.result.now ≡ node.recipes.items = c.as_slice-places.ensures.value ∙ ap (λ (x : ModuleNode). x.recipes.items) (sym c.index-modules-module.is) in
    below_more _ home c.loop-module.invariant (λ m.
    let places = asked_there compilation c.args.lists.now c.args.settings.now home node kept own here keeps set m in
    let functions = subst (AskFirst compilation kept.functions.items own.share_subsequents) (sym places_are) places in
    let asks = subst (λ fs. AskFirst compilation fs own.share_subsequents c.as_slice-places.result.now) (sym functions_are) functions in
    let told = subst (λ (x : Settings). AskFirst compilation c.as_slice.result.now x.share_subsequents c.as_slice-places.result.now) c.index-settings-module.is asks in
    absurd (cc (sym c.if-branch.false ∙ c.in_ok-recipes_ask.ensures.1 told)))

pub returns : goal.returns
returns c =
    let modules = c.as_slice-modules.ensures.value in
    let many = ap length modules in
    let past = c.loop-module-test.false in
    let end = c.min-module-end.ensures in
    let first = c.min.ensures in (
      λ told. absurd (cc told),
      λ found.
          let here = slice_get_within c.args.compilation.now.modules.items found.0 found.1.node found.1.here in
          let keeps = slice_get_within c.args.lists.now found.0 found.1.kept found.1.keeps in
          let set = slice_get_within c.args.settings.now found.0 found.1.own found.1.set in
          absurd (c.loop-module.invariant found.0 (omega (arith, past, end, first, many, here, keeps, set)) found.1),
    )
