-- The module is loaded, and its submodules wait.
use Rattle.std.proofs.Common.{◌≡◌, ◌-◌, length, drop, sym, subst, ◌∙◌, map, refl, ◌++◌, ◌∷◌, []}
use Rattle.modules_sources.specs.Nodes.{IsNodeOf}
use Rattle.modules_sources.specs.ReadingOrder.{AreFilesOf, AreNumbered, IsModuleRefused}
use Rattle.modules_sources.specs.Submodules.{AreWaiting, IsRefusedAmong, waiting_view}
use Rattle.modules_sources.specs.Loaded.{files_refused, submodule_refused}
use Rattle.modules_sources.proofs.Entering.{entered_below, map_last, one_taken}
use Rattle.modules_sources.specs.Above.{AreQueued}
use Rattle.modules_sources.proofs.Above.{next_above}
use Rattle.modules_sources.proofs.Outcomes.{if_err, six_ok}
use Rattle.std.proofs.lemmas.Result.{err_from_is_err_and}
use Rattle.modules_files.specs.Chosen.{view}
use Rattle.modules_sources.proofs.load.Loader.load_module.Goals as goal

pub returns-clause-loaded : goal.returns-clause-loaded
returns-clause-loaded g c = six_ok c.add_module.result c.add_module.ensures.one_more c.add_module.ensures.node c.add_module.ensures.files c.add_module.ensures.pending c.add_module.ensures.chain c.add_module.ensures.keys (λ one_more node files pending chain keys start is_read own so.
    let sources = c.args.self.now.files.sources.now in
    let expansion = g.E.Expander.expansion c.args.self.now.expander.now in
    let version = c.args.self.now.config.now.version in
    let os = c.args.self.now.config.now.os in
    let old = c.args.compilation.now in
    let after = c.add_module.new.compilation in
    let texts = c.in_ok-load_texts.ensures in
    let now = c.load_texts.new.files.items in
    let gone = c.load_texts.new.numerator in
    let key = c.args.next.now.source.key.now in
    let first : c.len-first.result ≡ length old.files.items = c.len-first.ensures ∙ old.files.ok.0 in
    let module_is : c.len-module.result ≡ length old.modules.items = c.len-module.ensures ∙ old.modules.ok.0 in
    let waits = c.args.queue.now.pending.items in
    let aw = (one_taken sources expansion version os start is_read old.files.items (length old.modules.items) (waits ++ c.args.next.now ∷ []) waits c.args.next.now refl so.waiting).1 in
    entered_below c.args.self.now.files expansion version os start is_read old after c.args.numerator.now gone c.args.next.now waits c.add_module.new.queue.pending.items c.args.queue.now c.add_module.new.queue texts.grown.0 node.0 pending.0 own so
    (files ∙ texts.grown.1) (λ read. subst (λ fs. AreNumbered start fs gone) (sym files) (texts.numbers start (so.numbered read)))
    (λ read. subst (λ fs. AreFilesOf sources expansion version (length old.modules.items) key (drop (length old.files.items) fs)) (sym files) (subst (λ n. AreFilesOf sources expansion version n key (drop (length old.files.items) now)) module_is (texts.own_files aw.source)))
    (subst (λ fs. IsNodeOf c.args.next.now (length old.files.items) (length fs) node.0) (sym files) (subst (λ n. IsNodeOf c.args.next.now n (length now) node.0) first node.1)) node.2 one_more
    (subst (λ fs. AreWaiting c.args.self.now.files os fs c.add_module.new.queue.keys (length old.modules.items) (length old.files.items) (length fs - length old.files.items) pending.0) (sym files)
    (subst (λ n. AreWaiting c.args.self.now.files os now c.add_module.new.queue.keys (length old.modules.items) n (length now - n) pending.0) first pending.1)) pending.2 chain keys)

pub returns-in_err-load_texts-clause-refused : goal.returns-in_err-load_texts-clause-refused
returns-in_err-load_texts-clause-refused g c =
    let p = err_from_is_err_and c.from_residual.result c.from_residual.ensures.1 in
    rw (p.1, p.2) (λ n start is_read own so.
    let sources = c.args.self.now.files.sources.now in
    let expansion = g.E.Expander.expansion c.args.self.now.expander.now in
    let version = c.args.self.now.config.now.version in
    let os = c.args.self.now.config.now.os in
    let old = c.args.compilation.now in
    let module_is : c.len-module.result ≡ length old.modules.items = c.len-module.ensures ∙ old.modules.ok.0 in
    let waits = c.args.queue.now.pending.items in
    let aw = (one_taken sources expansion version os start is_read old.files.items (length old.modules.items) (waits ++ c.args.next.now ∷ []) waits c.args.next.now refl so.waiting).1 in
    files_refused (subst (λ k. IsModuleRefused sources expansion version k (view c.args.next.now.source) (length old.files.items) c.in_err-load_texts.field-0.0) module_is (c.in_err-load_texts.ensures.refused n aw.source)))

pub returns-clause-refused : goal.returns-clause-refused
returns-clause-refused g c = if_err c.add_module.result c.add_module.ensures.refused (λ e refused n start is_read own so.
    let sources = c.args.self.now.files.sources.now in
    let expansion = g.E.Expander.expansion c.args.self.now.expander.now in
    let version = c.args.self.now.config.now.version in
    let os = c.args.self.now.config.now.os in
    let old = c.args.compilation.now in
    let texts = c.in_ok-load_texts.ensures in
    let now = c.load_texts.new.files.items in
    let key = c.args.next.now.source.key.now in
    let first : c.len-first.result ≡ length old.files.items = c.len-first.ensures ∙ old.files.ok.0 in
    let module_is : c.len-module.result ≡ length old.modules.items = c.len-module.ensures ∙ old.modules.ok.0 in
    let waits = c.args.queue.now.pending.items in
    let aw = (one_taken sources expansion version os start is_read old.files.items (length old.modules.items) (waits ++ c.args.next.now ∷ []) waits c.args.next.now refl so.waiting).1 in
    let r = refused n in
    let same = map_last sources expansion version os start is_read waits c.args.next.now in
    let queued = subst (AreQueued old.modules.items c.args.queue.now) same so.queued in
    submodule_refused now r.0 (subst (λ k. AreFilesOf sources expansion version k key (drop (length old.files.items) now)) module_is (texts.own_files aw.source))
    (next_above old.modules.items c.args.next.now (map waiting_view waits) c.args.queue.now r.0 queued (λ place n at. (so.modules place n at).parent) (r.1 queued.keys))
    (subst (λ k. IsRefusedAmong c.args.self.now.files os now r.0 (length old.modules.items) k (length now - k) e) first r.2))
