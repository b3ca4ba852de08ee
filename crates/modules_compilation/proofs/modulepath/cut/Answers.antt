-- Piece by piece.
use Rattle.std.proofs.Common.{◌≡◌, true, false, sym, ◌∙◌, ap, rules, Some, ◌++◌, ◌∷◌, []}
use Rattle.modules_compilation.specs.Modulepaths.{is_name}
use Rattle.modules_compilation.proofs.Pieces.{cut_on, cut_off, cut_whole, cut_short}
use Rattle.modules_compilation.proofs.modulepath.cut.Goals as goal

pub loop-name-preserved : goal.loop-name-preserved
loop-name-preserved c =
    let cases = c.in-Some.ensures.cases in
    let e : is_name c.in-Some.name.now ≡ true = search rules in
    let grown : c.push_name.new.components.items ≡ c.loop-name.components.items ++ c.in-Some.name.now ∷ [] = search rules in
    (search rules, rw grown (cut_on c.args.word.now c.loop-name.components.items c.loop-name.rest.now c.in-Some.name.now c.in-Some.others.now cases.0 cases.1 cases.2.0 cases.2.1.split cases.3 cases.4 c.loop-name.invariant.1 e))

pub returns-then-not-branch : goal.returns-then-not-branch
returns-then-not-branch c =
    let cases = c.in-Some.ensures.cases in
    let e : is_name c.in-Some.name.now ≡ false = search rules in
    sym (cut_off c.args.word.now c.loop-name.components.items c.loop-name.rest.now c.in-Some.name.now c.in-Some.others.now cases.0 cases.1 cases.2.0 cases.2.1.split cases.3 cases.4 c.loop-name.invariant.1 e)

pub returns-then-branch : goal.returns-then-branch
returns-then-branch c =
    let e : is_name c.loop-name.rest.now ≡ true = search rules in
    let grown : c.push_name-2.new.components.items ≡ c.loop-name.components.items ++ c.loop-name.rest.now ∷ [] = search rules in
    ap Some grown ∙ sym (cut_whole c.args.word.now c.loop-name.components.items c.loop-name.rest.now c.in_default.ensures.cases c.loop-name.invariant.1 e)

pub returns-else-branch : goal.returns-else-branch
returns-else-branch c =
    let e : is_name c.loop-name.rest.now ≡ false = search rules in
    sym (cut_short c.args.word.now c.loop-name.components.items c.loop-name.rest.now c.in_default.ensures.cases c.loop-name.invariant.1 e)
