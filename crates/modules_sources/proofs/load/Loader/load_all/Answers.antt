-- The root's module is loaded, and all modules below it.
use Rattle.std.proofs.Common.{map, refl, subst}
use Rattle.modules_sources.specs.Loaded.{AllFollowedUp, AreLinked, refused_root, refused_below}
use Rattle.modules_sources.specs.Submodules.{waiting_view}
use Rattle.modules_sources.proofs.Outcomes.{both_ok, if_err}
use Rattle.std.proofs.lemmas.Result.{err_from_is_err_and}
use Rattle.modules_sources.proofs.load.Loader.load_all.Goals as goal

pub returns-clause-loaded : goal.returns-clause-loaded
returns-clause-loaded g c = both_ok c.load_pending.result c.load_pending.ensures.loaded c.load_pending.ensures.ended (λ on ended start is_read grouped begun.
    let all = on start is_read c.args.root.key.now (c.in_ok-load_own.ensures.loaded start is_read refl refl refl c.new-queue.ensures.pending c.new-queue.ensures.chain c.new-queue.ensures.keys begun) in
    let after = c.load_pending.new.compilation in
    record {
      clean = begun.clean;
      root = all.root;
      numbers = c.load_pending.new.numerator;
      numbered = all.numbered;
      modules = all.modules;
      lookup = c.args.self.now.files;
      looks_up = record { same = λ key. refl; grouped = grouped };
      linked = subst (λ ps. AreLinked c.args.self.now.files c.args.self.now.config.now.os after.files.items after.modules.items (map waiting_view ps)) ended all.linked;
      followed = subst (λ ps. AllFollowedUp c.args.self.now.files c.args.self.now.config.now.os after.files.items after.modules.items (map waiting_view ps)) ended all.followed;
    })

pub returns-in_err-load_own-clause-refused : goal.returns-in_err-load_own-clause-refused
returns-in_err-load_own-clause-refused g c =
    let p = err_from_is_err_and c.from_residual.result c.from_residual.ensures.1 in
    rw (p.1, p.2) (λ n start is_read grouped begun. refused_root c.args.self.now.files (record { same = λ key. refl; grouped = grouped }) (c.in_err-load_own.ensures.refused n start is_read refl c.new-queue.ensures.chain c.new-queue.ensures.keys begun))

pub returns-clause-refused : goal.returns-clause-refused
returns-clause-refused g c = if_err c.load_pending.result c.load_pending.ensures.refused (λ e refused n start is_read grouped begun.
    refused_below c.args.self.now.files (record { same = λ key. refl; grouped = grouped }) (refused n start is_read c.args.root.key.now (c.in_ok-load_own.ensures.loaded start is_read refl refl refl c.new-queue.ensures.pending c.new-queue.ensures.chain c.new-queue.ensures.keys begun)))
