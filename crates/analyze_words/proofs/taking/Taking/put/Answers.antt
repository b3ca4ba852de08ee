-- One element more in the group.
use Rattle.std.proofs.Common.{◌∙◌, ◌∷◌, ◌++◌, [], ap, set, sym, arith}
use Rattle.analyze_words.proofs.Groups.{pushed_past, set_pushed}
use Rattle.analyze_words.proofs.taking.Taking.put.Goals as goal

pub returns-then-slot-len-clause-put : goal.returns-then-slot-len-clause-put
returns-then-slot-len-clause-put c = sym (pushed_past c.args.self.now.groups.items c.args.slot c.args.value.now (omega (arith, c.if-slot-len.true, c.args.self.now.groups.ok.0)))

pub returns-clause-put : goal.returns-clause-put
returns-clause-put c =
    let groups = c.args.self.now.groups in
    let group = c.index_mut.result.now in
    ap (set groups.items c.args.slot) (c.in_ok-push.ensures.grown ∙ ap (λ v. group ++ v ∷ []) c.in_ok-value.ensures)
    ∙ set_pushed groups.items c.args.slot group c.args.value.now (omega (arith, c.if-slot-len.false, groups.ok.0)) c.index_mut.ensures.value
