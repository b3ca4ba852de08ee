-- The root is read, and all is loaded that it leads to.
use Rattle.std.proofs.Common.{◌≡◌, ◌++◌, ◌∷◌, [], sym, ap, subst, ◌∙◌, true}
use Rattle.justfile_syntax.specs.Numbered.{AreInOrder}
use Rattle.modules_compilation.specs.Paths.{is_clean}
use Rattle.modules_files.specs.Chosen.{view}
use Rattle.modules_sources.specs.Loaded.{first_numbers, IsBelowRefused, root_missing, root_unread, below_refused, AreLoaded}
use Rattle.modules_sources.specs.Loading.{IsRead, IsUnread}
use Rattle.modules_sources.specs.ReadingOrder.{AreNumbered, IsOwnAlone, numbered_more, numbered_none}
use Rattle.modules_sources.proofs.Ordering.{read_alone}
use Rattle.modules_sources.proofs.Outcomes.{ok_holds, on_ok, if_err, err_holds}
use Rattle.std.proofs.lemmas.Result.{err_from_is_err_and}
use Rattle.modules_sources.proofs.load.load_text.Goals as goal

pub returns-clause-loaded : goal.returns-clause-loaded
returns-clause-loaded g c = on_ok c.load_behind.result c.load_behind.ensures.loaded (λ on no_files no_modules.
    let sources = c.args.sources.now in
    let expansion = g.E.Expander.expansion c.args.expander.now in
    let version = c.args.config.now.version in
    let source = c.in_ok-source.source in
    let known = c.in_ok-source.ensures.found in
    let added = c.in_ok-add_file.ensures.added in
    let gone = c.read_file-read.new.numerator in
    let read = ok_holds (IsRead expansion version 0 0 (view source) c.new-numerator.result gone) c.read_file-read.result added.0 added.1 c.read_file-read.ensures.read in
    let whole : c.add_file.new.files.items ≡ added.0 ∷ [] = added.2 ∙ ap (λ fs. fs ++ added.0 ∷ []) no_files in
    subst (λ own. AreLoaded sources expansion version c.args.config.now.os first_numbers true own c.load_behind.new.compilation) known.0 (on first_numbers true (record {
      clean = subst (λ key. is_clean key ≡ true) (sym known.0) c.in_ok-source.ensures.clean;
      none = no_modules;
      alone = λ is. subst (IsOwnAlone sources expansion version 0 source.key.now) (sym whole) (read_alone sources expansion version 0 (view source) c.new-numerator.result gone added.0 known.1 read);
      numbered = λ is. subst (λ fs. AreNumbered first_numbers fs gone) (sym whole) (numbered_more {files = []} added.0 numbered_none (subst (λ n. AreInOrder n gone added.0.ast.items.items) c.new-numerator.ensures read.numbered));
    })))

pub returns-in_err-source-clause-refused : goal.returns-in_err-source-clause-refused
returns-in_err-source-clause-refused g c =
    let p = err_from_is_err_and c.from_residual.result c.from_residual.ensures.1 in
    rw (p.1, p.2) (λ n no_files no_modules. root_missing c.in_err-source.ensures.missing)

pub returns-in_err-add_file-clause-refused : goal.returns-in_err-add_file-clause-refused
returns-in_err-add_file-clause-refused g c =
    let p = err_from_is_err_and c.from_residual-in_err-add_file.result c.from_residual-in_err-add_file.ensures.1 in
    rw (p.1, p.2) (λ n no_files no_modules.
    let source = c.in_ok-source.source in
    let known = c.in_ok-source.ensures.found in
    let gone = c.read_file-read.new.numerator in
    root_unread (view source) known.0 known.1 gone (err_holds (IsUnread (g.E.Expander.expansion c.args.expander.now) c.args.config.now.version 0 0 (view source) gone) c.read_file-read.result c.in_err-add_file.field-0.0 (c.in_err-add_file.ensures.refused n) c.read_file-read.ensures.refused))

pub returns-clause-refused : goal.returns-clause-refused
returns-clause-refused g c = if_err c.load_behind.result c.load_behind.ensures.refused (λ e refused n no_files no_modules.
    let sources = c.args.sources.now in
    let expansion = g.E.Expander.expansion c.args.expander.now in
    let version = c.args.config.now.version in
    let source = c.in_ok-source.source in
    let known = c.in_ok-source.ensures.found in
    let added = c.in_ok-add_file.ensures.added in
    let gone = c.read_file-read.new.numerator in
    let read = ok_holds (IsRead expansion version 0 0 (view source) c.new-numerator.result gone) c.read_file-read.result added.0 added.1 c.read_file-read.ensures.read in
    let whole : c.add_file.new.files.items ≡ added.0 ∷ [] = added.2 ∙ ap (λ fs. fs ++ added.0 ∷ []) no_files in
    below_refused (subst (λ own. IsBelowRefused sources expansion version c.args.config.now.os first_numbers true own e) known.0 (refused n first_numbers true (record {
      clean = subst (λ key. is_clean key ≡ true) (sym known.0) c.in_ok-source.ensures.clean;
      none = no_modules;
      alone = λ is. subst (IsOwnAlone sources expansion version 0 source.key.now) (sym whole) (read_alone sources expansion version 0 (view source) c.new-numerator.result gone added.0 known.1 read);
      numbered = λ is. subst (λ fs. AreNumbered first_numbers fs gone) (sym whole) (numbered_more {files = []} added.0 numbered_none (subst (λ n. AreInOrder n gone added.0.ast.items.items) c.new-numerator.ensures read.numbered));
    }))))
