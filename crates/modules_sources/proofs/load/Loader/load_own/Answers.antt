-- The root's module is loaded.
use Rattle.std.proofs.Common.{◌≡◌, ◌-◌, ◌++◌, ◌∷◌, [], length, map, ap, sym, subst, ◌∙◌, arith}
use Rattle.std.specs.Prelude.{option_map}
use Rattle.modules_files.specs.Found.{source_of}
use Rattle.modules_sources.specs.Nodes.{IsNodeOf}
use Rattle.modules_sources.specs.ReadingOrder.{AreFilesOf, AreNumbered, refused_files}
use Rattle.modules_sources.specs.Submodules.{AreWaiting, waiting_view, IsRefusedAmong}
use Rattle.modules_sources.specs.Queue.{AreKeysOf, chain_keys, cut_to, entered, is_among}
use Rattle.modules_sources.proofs.Above.{root_next_above}
use Rattle.modules_sources.proofs.Entering.{root_entered}
use Rattle.modules_sources.proofs.Outcomes.{if_err, six_ok}
use Rattle.std.proofs.lemmas.Result.{err_from_is_err_and}
use Rattle.modules_sources.specs.Loaded.{files_refused, submodule_refused}
use Rattle.modules_sources.proofs.load.Loader.load_own.Goals as goal

pub returns-clause-loaded : goal.returns-clause-loaded
returns-clause-loaded g c = six_ok c.add_module.result c.add_module.ensures.one_more c.add_module.ensures.node c.add_module.ensures.files c.add_module.ensures.pending c.add_module.ensures.chain c.add_module.ensures.keys (λ one_more node files pending chain keys start is_read no_parent no_item no_name no_pending no_chain is_chain begun.
    let sources = c.args.self.now.files.sources.now in
    let expansion = g.E.Expander.expansion c.args.self.now.expander.now in
    let version = c.args.self.now.config.now.version in
    let os = c.args.self.now.config.now.os in
    let old = c.args.compilation.now in
    let after = c.add_module.new.compilation in
    let own = c.in_ok-load_files.ensures in
    let now = c.load_files.new.files.items in
    let gone = c.load_files.new.numerator in
    let key = c.args.root.now.source.key.now in
    let none : cut_to c.args.root.now.parent c.args.queue.now.chain.items ≡ [] = ap (cut_to c.args.root.now.parent) no_chain in
    root_entered c.args.self.now.files expansion version os start is_read old.modules.items after gone c.args.root.now c.add_module.new.queue.pending.items c.add_module.new.queue node.0 pending.0 begun.none no_parent no_item no_name
    (λ read. subst (λ fs. AreNumbered start fs gone) (sym files) (own.numbers start (begun.numbered read)))
    (λ read. subst (AreFilesOf sources expansion version 0 key) (sym files) (own.own_files (omega arith) (begun.alone read)))
    (subst (λ fs. IsNodeOf c.args.root.now 0 (length fs) node.0) (sym files) node.1) node.2 one_more
    (subst (λ fs. AreWaiting c.args.self.now.files os fs c.add_module.new.queue.keys (length old.modules.items) 0 (length fs - 0) pending.0) (sym files) pending.1) (pending.2 ∙ ap (λ ps. map waiting_view ps ++ pending.0) no_pending)
    (chain ∙ ap (λ ls. ls ++ record { «module» = length old.modules.items; key = c.args.root.now.source.key } ∷ []) none ∙ ap (λ ms. record { «module» = length ms; key = c.args.root.now.source.key } ∷ []) begun.none)
    (keys is_chain (ap (λ ls. is_among (chain_keys ls) key) none)))

pub returns-in_err-load_files-clause-refused : goal.returns-in_err-load_files-clause-refused
returns-in_err-load_files-clause-refused g c =
    let p = err_from_is_err_and c.from_residual.result c.from_residual.ensures.1 in
    rw (p.1, p.2) (λ n start is_read no_parent no_chain is_chain begun read.
    let alone = begun.alone read in
    (alone.of.text, ap (option_map (λ text. (c.args.root.now.source.key.now, text))) (ap (source_of c.args.self.now.files.sources.now) (sym alone.key) ∙ alone.of.there), files_refused (refused_files (c.in_err-load_files.ensures.refused n (omega arith) alone))))

pub returns-clause-refused : goal.returns-clause-refused
returns-clause-refused g c = if_err c.add_module.result c.add_module.ensures.refused (λ e refused n start is_read no_parent no_chain is_chain begun read.
    let alone = begun.alone read in
    let now = c.load_files.new.files.items in
    let r = refused n in (
      alone.of.text,
      ap (option_map (λ text. (c.args.root.now.source.key.now, text))) (ap (source_of c.args.self.now.files.sources.now) (sym alone.key) ∙ alone.of.there),
      submodule_refused now r.0 (c.in_ok-load_files.ensures.own_files (omega arith) alone)
          (root_next_above c.args.root.now c.args.queue.now r.0 no_parent no_chain (λ fresh. subst (λ ms. AreKeysOf r.0 (entered c.args.queue.now.chain.items c.args.root.now (length ms))) begun.none (r.1 is_chain fresh)))
          (subst (λ ms. IsRefusedAmong c.args.self.now.files c.args.self.now.config.now.os now r.0 (length ms) 0 (length now - 0) e) begun.none r.2),
    ))
