-- One submodule more waits, or its file is above.
use Rattle.std.proofs.Common.{◌≡◌, ◌∷◌, [], true, false, map, ap, sym, subst, ◌∙◌, ◌++◌, refl, take_all}
use Rattle.std.proofs.lemmas.List.{append-nil}
use Rattle.std.proofs.lemmas.Result.{err_from_is_err_and}
use Rattle.modules_sources.specs.Items.{key_of}
use Rattle.modules_sources.specs.Submodules.{IsCircular, NoneAbove, found_view, waiting, waiting_view}
use Rattle.std.specs.Prelude.{slice_get}
use Rattle.modules_files.specs.Found.{has_text}
use Rattle.modules_sources.specs.declared.submodules.Submodule.{Submodule}
use Rattle.modules_sources.proofs.Waiting.{back_at, below_further, waits_further}
use Rattle.modules_sources.proofs.submodules.add_all.Goals as goal

pub loop-submodule-init : goal.loop-submodule-init
loop-submodule-init c = record { pending = sym (append-nil (map waiting_view c.args.queue.now.pending.items)); below = refl; chain = refl; keys = refl }

pub loop-submodule-preserved : goal.loop-submodule-preserved
loop-submodule-preserved c =
    let l = c.loop-submodule in
    record {
      pending = waits_further c.args.file c.args.module c.args.found.now l.submodule-index c.submodule-item.result (map waiting_view c.args.queue.now.pending.items) (map waiting_view l.queue.pending.items) (map waiting_view c.add_pending.new.queue.pending.items)
          c.loop-submodule-test.true l.invariant.pending
          (c.in_ok-add_pending.ensures.pending ∙ ap (λ (s : Submodule). map waiting_view l.queue.pending.items ++ waiting c.args.file c.args.module (found_view s) ∷ []) c.submodule-item.is);
      below = below_further c.args.queue.now.keys l.queue.keys c.args.found.now l.submodule-index c.submodule-item.result c.loop-submodule-test.true l.invariant.keys l.invariant.below
          (subst (λ (s : Submodule). has_text l.queue.keys s.source.key.now ≡ false) c.submodule-item.is c.in_ok-add_pending.ensures.below);
      chain = c.add_pending.ensures.chain ∙ l.invariant.chain;
      keys = c.add_pending.ensures.keys ∙ l.invariant.keys;
    }

pub returns-in_err-add_pending-clause-refused : goal.returns-in_err-add_pending-clause-refused
returns-in_err-add_pending-clause-refused c =
    let l = c.loop-submodule in
    let p = err_from_is_err_and c.from_residual.result c.from_residual.ensures.1 in
    rw (p.1, p.2) (λ n. back_at c.args.queue.now.keys l.queue.keys (key_of (slice_get c.args.all.now c.args.file)) c.args.found.now l.submodule-index c.submodule-item.result c.in_err-add_pending.field-0.0 c.loop-submodule-test.true l.invariant.keys l.invariant.below
    (subst (λ (s : Submodule). (has_text l.queue.keys s.source.key.now ≡ true) × IsCircular c.in_err-add_pending.field-0.0 (key_of (slice_get c.args.all.now c.args.file)) s.source.key.now) c.submodule-item.is (c.in_err-add_pending.ensures.refused n)))

pub returns-clause-pending : goal.returns-clause-pending
returns-clause-pending c =
    c.loop-submodule.invariant.pending
    ∙ ap (λ found. map waiting_view c.args.queue.now.pending.items ++ map (waiting c.args.file c.args.module) (map found_view found)) (take_all c.loop-submodule.submodule-index c.args.found.now c.loop-submodule-test.false)

pub returns-clause-below : goal.returns-clause-below
returns-clause-below c =
    subst (λ found. NoneAbove c.args.queue.now.keys (map found_view found)) (take_all c.loop-submodule.submodule-index c.args.found.now c.loop-submodule-test.false) c.loop-submodule.invariant.below
