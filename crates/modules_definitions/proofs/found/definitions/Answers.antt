-- All definitions, in order.
use Rattle.std.proofs.Common.{◌≡◌, ap, refl, rules}
use Rattle.std.specs.Ordering.{is_lt}
use Rattle.std.proofs.lemmas.Fn.{always_returns_same}
use Rattle.modules_definitions.specs.Keeping.{front_cmp}
use Rattle.modules_definitions.proofs.Apart.{all_apart}
use Rattle.modules_definitions.proofs.Finding.{all_found, all_fronted}
use Rattle.modules_definitions.proofs.Orders.{in_order, ranked}
use Rattle.modules_definitions.proofs.found.definitions.Goals as goal

pub returns-clause-each : goal.returns-clause-each
returns-clause-each c =
    all_found c.args.os c.args.files.now c.args.range c.args.modules.now c.args.submodules.now c.new-found.result.items c.add_files.new.found.items c.add_submodules.new.found.items c.sort_by.new.self.items c.new-found.ensures.items c.in_ok-add_files.ensures.each
    c.in_ok-add_submodules.ensures.each c.sort_by.ensures.permutation

pub returns-clause-order : goal.returns-clause-order
returns-clause-order c =
    let are = returns-clause-each c in
    in_order c.sort_by.new.self.items (all_fronted are) (c.in_ok-sort_by.ensures.sorted (λ x y. is_lt (front_cmp x y)) ranked (always_returns_same _ (λ a r. is_lt r ≡ is_lt (front_cmp a.0.now a.1.0.now)) _ (λ a r f' k. let same : r ≡ front_cmp a.0.now a.1.0.now = search rules in (ap is_lt same, search rules))))

pub returns-clause-apart : goal.returns-clause-apart
returns-clause-apart c = λ once.
    all_apart c.args.os c.args.files.now c.args.range c.args.modules.now c.args.submodules.now c.new-found.result.items c.add_files.new.found.items c.add_submodules.new.found.items c.sort_by.new.self.items c.new-found.ensures.items c.in_ok-add_files.ensures.each
    c.in_ok-add_files.ensures.apart (c.in_ok-add_submodules.ensures.apart once) c.sort_by.ensures.permutation
