-- A key is the folder that it lies in, and its last part.
use Rattle.std.proofs.Common.{◌≡◌, ◌∙◌, ◌++◌, ◌∷◌, [], ap, sym, Some}
use Rattle.std.proofs.lemmas.List.{map-append}
use Rattle.modules_compilation.specs.Paths.{key_text}
use Rattle.modules_compilation.specs.Tables.{texts}
use Rattle.modules_compilation.proofs.Keys.{key_is}
use Rattle.modules_compilation.proofs.path.key_text.Goals as goal

pub returns : goal.returns
returns c =
    let split : texts c.args.parts.now ≡ texts c.in-Some.others.now ++ c.in-Some.last.now.now ∷ [] = ap texts c.in-Some.ensures.cases.0 ∙ map-append (λ k. k.now) c.in-Some.others.now (c.in-Some.last.now ∷ []) in
    let written = c.in_ok-push_str.ensures.bytes ∙ ap (λ text. text ++ c.in-Some.last.now.now) c.in_ok-text.ensures in
    sym (ap (key_text c.args.front.now) split ∙ key_is c.args.front.now (texts c.in-Some.others.now) c.in-Some.last.now.now ∙ ap Some (sym written))
