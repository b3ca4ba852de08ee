-- No module was loaded.
use Rattle.modules_sources.proofs.Chains.{chain_none}
use Rattle.modules_sources.proofs.queue.Queue.new.Goals as goal

pub returns-clause-keys : goal.returns-clause-keys
returns-clause-keys c = chain_none (record { pending = c.new.result; chain = c.new-2.result; keys = c.new-3.result }) c.new-2.ensures.items c.new-3.ensures.empty
