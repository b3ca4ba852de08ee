-- The reads of a module more.
use Rattle.std.proofs.Common.{◌∙◌, sym, subst}
use Rattle.std.proofs.lemmas.Option.{get_or_from_slice_get}
use Rattle.std.proofs.lemmas.Result.{err_from_is_err_and}
use Rattle.resolve_analysis.specs.declared.module_lists.ModuleLists.{ModuleLists}
use Rattle.just_resolve.specs.Variables.{IsReads, IsReadsAt}
use Rattle.just_resolve.proofs.Pairing.{one_each}
use Rattle.just_resolve.proofs.module_variables.all_reads.Goals as goal

pub returns-in_err-reads_of-clause-refused : goal.returns-in_err-reads_of-clause-refused
returns-in_err-reads_of-clause-refused c =
    let p = err_from_is_err_and c.from_residual.result c.from_residual.ensures.1 in
    rw (p.1, p.2) (λ some. record {
      lists = c.one-item.result;
      one = (c.loop-one.one-index, c.loop-one-test.true, sym c.one-item.is);
      refused = c.in_err-reads_of.ensures.refusal some;
    })

pub loop-one-preserved : goal.loop-one-preserved
loop-one-preserved c =
    let overrides = c.args.overrides.now in
    let all = c.args.lists.now in
    let i = c.loop-one.one-index in
    let x = c.one-item.result in
    let reads = c.in_ok-reads_of.field-0 in
    one_each (IsReadsAt overrides all) i c.loop-one.all.items c.push.new.self.items reads c.in_ok-push.ensures.items
    (λ lists there. subst (λ (l : ModuleLists). IsReads overrides l reads) (c.one-item.is ∙ get_or_from_slice_get all i lists x there)
    (record { resolver = c.in_ok-reads_of.ensures.resolver; graph = c.in_ok-reads_of.ensures.graph; overridden = c.in_ok-reads_of.ensures.overridden }))
    c.loop-one.invariant
