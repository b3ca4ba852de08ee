-- The chain ends in the module, and its key is put with the others.
use Rattle.std.proofs.Common.{◌++◌, ◌∷◌, [], ap, ◌∙◌}
use Rattle.modules_sources.specs.Queue.{cut_to}
use Rattle.modules_sources.proofs.Chains.{chain_longer}
use Rattle.modules_sources.specs.declared.queue.Loaded.{Loaded}
use Rattle.modules_sources.proofs.queue.Queue.enter.Goals as goal

pub returns-clause-keys : goal.returns-clause-keys
returns-clause-keys c = λ h none.
    let loaded : Loaded = record { «module» = c.args.module; key = c.args.loaded.now.source.key } in
    chain_longer c.cut_behind.new.self (record { pending = c.cut_behind.new.self.pending; chain = c.push.new.self; keys = c.insert.new.self }) (cut_to c.args.loaded.now.parent c.args.self.now.chain.items) loaded c.cut_behind.ensures.chain
    (c.in_ok-push.ensures.items ∙ ap (λ ls. ls ++ loaded ∷ []) c.cut_behind.ensures.chain) c.in_ok-insert.ensures.updates (c.cut_behind.ensures.keys h) none
