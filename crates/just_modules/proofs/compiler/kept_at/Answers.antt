-- The module is the one at the place, or there is none.
use Rattle.std.proofs.Common.{◌∙◌, refl, sym}
use Rattle.std.proofs.lemmas.Option.{none-some, slice_get_past, slice_get_read}
use Rattle.just_modules.proofs.Keeping.{keeps_at, kept_gives, refused_at}
use Rattle.just_modules.proofs.Outcomes.{err_gives}
use Rattle.just_modules.proofs.compiler.kept_at.Goals as goal

pub returns-then-place-modules-clause-kept : goal.returns-then-place-modules-clause-kept
returns-then-place-modules-clause-kept c = λ node at. absurd (none-some node (sym (slice_get_past c.args.modules.now c.args.place c.if-place-modules.true) ∙ at))

pub returns-clause-kept : goal.returns-clause-kept
returns-clause-kept c =
    let modules = c.args.modules.now in
    let node = c.index-modules-place.result in
    let at = slice_get_read modules _ c.args.place node refl c.if-place-modules.false c.index-modules-place.is in
    kept_gives c.kept_in.result c.kept_in.ensures.kept (λ kept k. keeps_at c.args.config.now.os c.args.config.now.unstable c.args.files.now modules node c.args.place at kept.items k)

pub returns-clause-none : goal.returns-clause-none
returns-clause-none c =
    let modules = c.args.modules.now in
    let node = c.index-modules-place.result in
    let at = slice_get_read modules _ c.args.place node refl c.if-place-modules.false c.index-modules-place.is in
    kept_gives c.kept_in.result c.kept_in.ensures.kept (λ kept k none. absurd (none-some node (sym none ∙ at)))

pub returns-clause-refused : goal.returns-clause-refused
returns-clause-refused c =
    let modules = c.args.modules.now in
    let node = c.index-modules-place.result in
    let at = slice_get_read modules _ c.args.place node refl c.if-place-modules.false c.index-modules-place.is in
    err_gives c.kept_in.result c.kept_in.ensures.refused (refused_at c.args.config.now.os c.args.config.now.unstable c.args.files.now modules node c.args.place at)
