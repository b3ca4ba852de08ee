-- One file more, and all of them.
use Rattle.std.proofs.Common.{map, subst, ◌∙◌, refl, arith, length}
use Rattle.std.proofs.lemmas.Result.{err_from_is_err_and}
use Rattle.modules_sources.specs.Submodules.{AreBelow, IsRefusedAt, waiting_view}
use Rattle.modules_sources.proofs.Waiting.{refused_there, there_done, there_further, there_none}
use Rattle.modules_sources.proofs.submodules.find_all.Goals as goal

pub loop-place-init : goal.loop-place-init
loop-place-init c = record {
  there = there_none c.args.files.now c.args.os c.args.compilation.now.files.items c.args.queue.now.keys c.args.module c.args.first (map waiting_view c.args.queue.now.pending.items);
  early = λ le. refl;
  chain = refl;
  keys = refl;
}

pub loop-place-preserved : goal.loop-place-preserved
loop-place-preserved c =
    let l = c.loop-place in
    let all = c.args.compilation.now.files.items in
    let f = c.in_ok-find_submodules.ensures.pending in
    let from = l.auto.place in
    let to = c.loop-place-test.true in
    record {
      there = there_further c.args.files.now c.args.os all c.args.queue.now.keys c.args.module c.args.first l.place (map waiting_view c.args.queue.now.pending.items) (map waiting_view l.queue.pending.items)
          (map waiting_view c.find_submodules.new.queue.pending.items) from l.invariant.there f.0 (subst (λ keys. AreBelow c.args.files.now c.args.os all keys l.place f.0) l.invariant.keys f.1) f.2;
      early = λ le. absurd (omega arith);
      chain = c.find_submodules.ensures.chain ∙ l.invariant.chain;
      keys = c.find_submodules.ensures.keys ∙ l.invariant.keys;
    }

pub returns-in_err-find_submodules-clause-refused : goal.returns-in_err-find_submodules-clause-refused
returns-in_err-find_submodules-clause-refused c =
    let l = c.loop-place in
    let all = c.args.compilation.now.files.items in
    let to = c.loop-place-test.true in
    let p = err_from_is_err_and c.from_residual.result c.from_residual.ensures.1 in
    rw (p.1, p.2) (λ n. refused_there c.args.files.now c.args.os all c.args.queue.now.keys c.args.module c.args.first l.place (length all) (map waiting_view c.args.queue.now.pending.items) (map waiting_view l.queue.pending.items)
    c.in_err-find_submodules.field-0.0 l.auto.place (omega arith) l.invariant.there
    (subst (λ keys. IsRefusedAt c.args.files.now c.args.os all keys l.place c.in_err-find_submodules.field-0.0) l.invariant.keys (c.in_err-find_submodules.ensures.refused n)))

pub returns-clause-pending : goal.returns-clause-pending
returns-clause-pending c =
    let l = c.loop-place in
    let all = c.args.compilation.now.files.items in
    let over = c.loop-place-test.false in
    let within = l.auto.place-end in
    there_done c.args.files.now c.args.os all c.args.queue.now.keys c.args.module c.args.first l.place (length all) (map waiting_view c.args.queue.now.pending.items) (map waiting_view l.queue.pending.items)
    (omega arith) (λ le. omega arith) l.invariant.early l.invariant.there
