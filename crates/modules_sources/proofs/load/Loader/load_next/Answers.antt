-- The next module is loaded, if there is one.
use Rattle.std.proofs.Common.{◌++◌, ◌∷◌, [], length, map, ap, subst, ◌∙◌}
use Rattle.std.specs.Prelude.{option_to_list}
use Rattle.modules_sources.specs.Loaded.{AllFollowedUp, AreAwaited, AreLinked, AreSubmodules}
use Rattle.modules_sources.specs.Submodules.{waiting_view}
use Rattle.modules_sources.proofs.Entering.{map_last, none_taken, same_taken, one_taken}
use Rattle.modules_sources.specs.Above.{AreQueued}
use Rattle.modules_sources.proofs.Above.{same_queue}
use Rattle.modules_sources.proofs.Reaching.{at_end}
use Rattle.std.proofs.lemmas.Result.{err_from_is_err_and}
use Rattle.modules_sources.proofs.load.Loader.load_next.Goals as goal

pub returns-in_default-clause-loaded : goal.returns-in_default-clause-loaded
returns-in_default-clause-loaded g c = λ start is_read own so.
    let taken = c.pop.ensures.pending ∙ ap (λ o. c.pop.new.self.pending.items ++ option_to_list o) c.in_default.is in
    record {
      root = so.root;
      numbered = so.numbered;
      modules = so.modules;
      queued = same_queue c.args.compilation.now.modules.items (map waiting_view c.pop.new.self.pending.items) c.args.queue.now c.pop.new.self c.pop.ensures.chain c.pop.ensures.keys
          (subst (AreQueued c.args.compilation.now.modules.items c.args.queue.now) (same_taken c.args.self.now.files.sources.now (g.E.Expander.expansion c.args.self.now.expander.now) c.args.self.now.config.now.version c.args.self.now.config.now.os start is_read c.args.compilation.now.files.items (length c.args.compilation.now.modules.items)
          c.args.queue.now.pending.items c.pop.new.self.pending.items taken) so.queued);
      linked = subst (AreLinked c.args.self.now.files c.args.self.now.config.now.os c.args.compilation.now.files.items c.args.compilation.now.modules.items)
          (same_taken c.args.self.now.files.sources.now (g.E.Expander.expansion c.args.self.now.expander.now) c.args.self.now.config.now.version c.args.self.now.config.now.os start is_read c.args.compilation.now.files.items (length c.args.compilation.now.modules.items)
          c.args.queue.now.pending.items c.pop.new.self.pending.items taken) so.linked;
      waiting = none_taken c.args.self.now.files.sources.now (g.E.Expander.expansion c.args.self.now.expander.now) c.args.self.now.config.now.version c.args.self.now.config.now.os start is_read c.args.compilation.now.files.items (length c.args.compilation.now.modules.items)
          c.args.queue.now.pending.items c.pop.new.self.pending.items taken so.waiting;
      followed = subst (AllFollowedUp c.args.self.now.files c.args.self.now.config.now.os c.args.compilation.now.files.items c.args.compilation.now.modules.items)
          (same_taken c.args.self.now.files.sources.now (g.E.Expander.expansion c.args.self.now.expander.now) c.args.self.now.config.now.version c.args.self.now.config.now.os start is_read c.args.compilation.now.files.items (length c.args.compilation.now.modules.items)
          c.args.queue.now.pending.items c.pop.new.self.pending.items taken) so.followed;
    }

pub returns-clause-loaded : goal.returns-clause-loaded
returns-clause-loaded g c = λ start is_read own so.
    let taken = c.pop.ensures.pending ∙ ap (λ o. c.pop.new.self.pending.items ++ option_to_list o) c.in-Some.is in
    c.in_ok-load_module.ensures.loaded start is_read own (record {
      root = so.root;
      numbered = so.numbered;
      modules = so.modules;
      queued = same_queue c.args.compilation.now.modules.items (map waiting_view (c.pop.new.self.pending.items ++ c.in-Some.next ∷ [])) c.args.queue.now c.pop.new.self c.pop.ensures.chain c.pop.ensures.keys
          (subst (λ ps. AreQueued c.args.compilation.now.modules.items c.args.queue.now (map waiting_view ps)) taken so.queued);
      linked = subst (λ ps. AreLinked c.args.self.now.files c.args.self.now.config.now.os c.args.compilation.now.files.items c.args.compilation.now.modules.items (map waiting_view ps)) taken so.linked;
      waiting = subst (λ ps. AreAwaited c.args.self.now.files.sources.now c.args.self.now.config.now.os c.args.compilation.now.files.items (length c.args.compilation.now.modules.items) (map waiting_view ps)) taken so.waiting;
      followed = subst (λ ps. AllFollowedUp c.args.self.now.files c.args.self.now.config.now.os c.args.compilation.now.files.items c.args.compilation.now.modules.items (map waiting_view ps)) taken so.followed;
    })

pub returns-in_default-clause-ended : goal.returns-in_default-clause-ended
returns-in_default-clause-ended g c = λ e. c.pop.ensures.none c.in_default.is

pub returns-in_err-load_module-clause-refused : goal.returns-in_err-load_module-clause-refused
returns-in_err-load_module-clause-refused g c =
    let p = err_from_is_err_and c.from_residual.result c.from_residual.ensures.1 in
    rw (p.1, p.2) (λ n start is_read own so.
    let sources = c.args.self.now.files.sources.now in
    let os = c.args.self.now.config.now.os in
    let old = c.args.compilation.now in
    let pending = c.args.queue.now.pending.items in
    let left = c.pop.new.self.pending.items in
    let next = c.in-Some.next in
    let taken = c.pop.ensures.pending ∙ ap (λ o. left ++ option_to_list o) c.in-Some.is in
    let w = one_taken sources (g.E.Expander.expansion c.args.self.now.expander.now) c.args.self.now.config.now.version os start is_read old.files.items (length old.modules.items) pending left next taken so.waiting in
    record {
      compilation = old;
      numbers = c.args.numerator.now;
      queue = c.args.queue.now;
      loaded = so;
      next = waiting_view next;
      awaited = w.1;
      submodule = subst (AreSubmodules c.args.self.now.files os old.files.items old.modules.items) (ap (map waiting_view) taken ∙ map_last sources (g.E.Expander.expansion c.args.self.now.expander.now) c.args.self.now.config.now.version os start is_read left next) so.linked.submodules
          (length (map waiting_view left)) (waiting_view next) (at_end (map waiting_view left) (waiting_view next));
      refused = c.in_err-load_module.ensures.refused n start is_read own (record {
        root = so.root;
        numbered = so.numbered;
        modules = so.modules;
        queued = same_queue old.modules.items (map waiting_view (left ++ next ∷ [])) c.args.queue.now c.pop.new.self c.pop.ensures.chain c.pop.ensures.keys (subst (λ ps. AreQueued old.modules.items c.args.queue.now (map waiting_view ps)) taken so.queued);
        linked = subst (λ ps. AreLinked c.args.self.now.files os old.files.items old.modules.items (map waiting_view ps)) taken so.linked;
        waiting = subst (λ ps. AreAwaited sources os old.files.items (length old.modules.items) (map waiting_view ps)) taken so.waiting;
        followed = subst (λ ps. AllFollowedUp c.args.self.now.files os old.files.items old.modules.items (map waiting_view ps)) taken so.followed;
      });
    })
