use Rattle.std.proofs.Common.{◌≡◌, IfOk, subst, sym}
use Rattle.std.specs.String.{string_bytes}
use Rattle.just_run.specs.Texts.{dumped_text}
use Rattle.just_run.proofs.Roots.{root_is}
use Rattle.just_run.proofs.texts.root_text.Goals as goal

pub returns : goal.returns
returns c =
    let root = root_is c.args.compilation.now c.as_slice-files.result.now c.as_slice.result.now c.root_place-place.result c.index-files-place.result c.as_slice-files.ensures.value c.as_slice.ensures.value c.root_place-place.ensures c.if-place-files.false in
    subst (λ file. IfOk c.formatted.result (λ text. string_bytes text ≡ dumped_text c.args.os file)) (sym root) c.formatted.ensures
