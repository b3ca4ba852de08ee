-- The module stands after the others, and its submodules wait.
use Rattle.std.proofs.Common.{◌≡◌, ◌-◌, ◌++◌, map, length, ap, sym, subst, ◌∙◌}
use Rattle.modules_sources.specs.Submodules.{AreWaiting, waiting_view, IsRefusedAmong}
use Rattle.modules_sources.specs.Queue.{chain_keys, entered, is_among}
use Rattle.modules_sources.proofs.Above.{same_chain}
use Rattle.modules_sources.proofs.Outcomes.{ok_says, on_ok, if_err}
use Rattle.modules_sources.proofs.load.add_module.Goals as goal

pub returns-clause-one_more : goal.returns-clause-one_more
returns-clause-one_more c = ok_says c.find_all.result c.in_ok-add_node.ensures.one_more

pub returns-clause-node : goal.returns-clause-node
returns-clause-node c = ok_says c.find_all.result c.in_ok-add_node.ensures.node

pub returns-clause-files : goal.returns-clause-files
returns-clause-files c = ok_says c.find_all.result c.in_ok-add_node.ensures.files

pub returns-clause-pending : goal.returns-clause-pending
returns-clause-pending c = on_ok c.find_all.result c.find_all.ensures.pending (λ p.
    let files = c.args.files.now in
    let old = c.args.compilation.now in
    let same = c.in_ok-add_node.ensures.files in
    let keys = sym c.find_all.ensures.keys in
    let module_is : c.len-module.result ≡ length old.modules.items = c.len-module.ensures ∙ old.modules.ok.0 in
    let waits = subst (λ n. AreWaiting files c.args.os old.files.items c.enter.new.self.keys n c.args.first (length old.files.items - c.args.first) p.0) module_is
    (subst (λ fs. AreWaiting files c.args.os fs c.enter.new.self.keys c.len-module.result c.args.first (length fs - c.args.first) p.0) same p.1) in
    (p.0, subst (λ above. AreWaiting files c.args.os old.files.items above (length old.modules.items) c.args.first (length old.files.items - c.args.first) p.0) keys waits, p.2 ∙ ap (λ q. map waiting_view q.items ++ p.0) c.in_ok-enter.ensures.pending))

pub returns-clause-chain : goal.returns-clause-chain
returns-clause-chain c = ok_says c.find_all.result (
    let old = c.args.compilation.now in
    let module_is : c.len-module.result ≡ length old.modules.items = c.len-module.ensures ∙ old.modules.ok.0 in
    ap (λ v. v.items) c.find_all.ensures.chain ∙ c.in_ok-enter.ensures.chain ∙ ap (entered c.args.queue.now.chain.items c.args.next.now) module_is)

pub returns-clause-keys : goal.returns-clause-keys
returns-clause-keys c = ok_says c.find_all.result (λ h fresh. same_chain c.enter.new.self c.find_all.new.queue c.find_all.ensures.chain c.find_all.ensures.keys (c.in_ok-enter.ensures.keys h fresh))

pub returns-clause-refused : goal.returns-clause-refused
returns-clause-refused c = if_err c.find_all.result c.find_all.ensures.refused (λ e refused n.
    let files = c.args.files.now in
    let old = c.args.compilation.now in
    let above = c.enter.new.self.keys in
    let same = c.in_ok-add_node.ensures.files in
    let module_is : c.len-module.result ≡ length old.modules.items = c.len-module.ensures ∙ old.modules.ok.0 in (
      above,
      λ h fresh key. (c.in_ok-enter.ensures.keys h fresh).each key ∙ ap (λ ls. is_among (chain_keys ls) key) (c.in_ok-enter.ensures.chain ∙ ap (entered c.args.queue.now.chain.items c.args.next.now) module_is),
      subst (λ k. IsRefusedAmong files c.args.os old.files.items above k c.args.first (length old.files.items - c.args.first) e) module_is
          (subst (λ fs. IsRefusedAmong files c.args.os fs above c.len-module.result c.args.first (length fs - c.args.first) e) same (refused n)),
    ))
