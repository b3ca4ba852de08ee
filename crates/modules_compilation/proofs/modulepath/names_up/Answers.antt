-- Each turn goes to the module above.
use Rattle.std.proofs.Common.{◌≡◌, ◌+◌, ◌-◌, suc, arith, length, slice_get, sym}
use Rattle.modules_compilation.specs.Modulepaths as spec
use Rattle.modules_compilation.proofs.Upward.{goes_up}
use Rattle.modules_compilation.proofs.modulepath.names_up.Goals as goal

pub loop-preserved : goal.loop-preserved
loop-preserved c =
    let all = c.args.modules.now in
    let next : length all - c.loop.counter ≡ suc (length all - (c.loop.counter + 1)) = omega (arith, c.loop-test.true) in
    goes_up all c.loop.components.items c.push_own_name.new.components.items (spec.names_up all (slice_get all c.args.«module») (length all)) c.in-Some.node.now (spec.node_at all c.loop.next) _ _ (sym c.in-Some.ensures) next c.in_ok-push_own_name.ensures c.loop.invariant
