-- The module's own file is read, and all that it leads to.
use Rattle.std.proofs.Common.{◌≡◌, ◌++◌, ◌∷◌, [], length, drop, ap, sym, subst, ◌∙◌, arith, append_assoc, length-append}
use Rattle.std.proofs.lemmas.Result.{err_from_is_err_and}
use Rattle.modules_files.specs.Chosen.{view}
use Rattle.modules_sources.specs.ReadingOrder.{AreFilesOf, AreNumbered, IsModuleRefused, IsOwnAlone, numbered_more, refused_files, refused_text}
use Rattle.modules_sources.proofs.Ordering.{left_behind, read_alone}
use Rattle.modules_sources.proofs.Outcomes.{if_err, on_ok}
use Rattle.modules_sources.proofs.load.Loader.load_texts.Goals as goal

pub returns-clause-numbers : goal.returns-clause-numbers
returns-clause-numbers g c = on_ok c.load_files.result c.load_files.ensures.numbers (λ on start so.
    let read = c.in_ok-load_file.ensures.read in
    on start (subst (λ fs. AreNumbered start fs c.load_file.new.numerator) (sym read.2) (numbered_more read.0 so read.1.numbered)))

pub returns-clause-grown : goal.returns-clause-grown
returns-clause-grown g c = on_ok c.load_files.result c.load_files.ensures.grown (λ more.
    let read = c.in_ok-load_file.ensures.read in
    (read.0 ∷ more.0, more.1 ∙ ap (λ fs. fs ++ more.0) read.2 ∙ append_assoc c.args.files.now.items (read.0 ∷ []) more.0))

pub returns-in_err-load_file-clause-refused : goal.returns-in_err-load_file-clause-refused
returns-in_err-load_file-clause-refused g c =
    let p = err_from_is_err_and c.from_residual.result c.from_residual.ensures.1 in
    rw (p.1, p.2) (λ n known. refused_text c.load_file.new.numerator (c.in_err-load_file.ensures.refused n))

pub returns-clause-own_files : goal.returns-clause-own_files
returns-clause-own_files g c = on_ok c.load_files.result c.load_files.ensures.own_files (λ own known.
    let sources = c.args.self.now.files.sources.now in
    let expansion = g.E.Expander.expansion c.args.self.now.expander.now in
    let version = c.args.self.now.config.now.version in
    let read = c.in_ok-load_file.ensures.read in
    let old = c.args.files.now.items in
    let now = c.load_file.new.files.items in
    let first : c.len-first.result ≡ length old = c.len-first.ensures ∙ c.args.files.now.ok.0 in
    let many = length-append old (read.0 ∷ []) in
    let same = ap length read.2 in
    let alone = read_alone sources expansion version c.args.module (view c.args.source) c.args.numerator.now c.load_file.new.numerator read.0 known read.1 in
    subst (λ n. AreFilesOf sources expansion version c.args.module c.args.source.key.now (drop n c.load_files.new.files.items)) first
    (own (omega (arith, first, many, same)) (subst (IsOwnAlone sources expansion version c.args.module c.args.source.key.now) (sym (ap (λ n. drop n now) first ∙ left_behind old now read.0 read.2)) alone)))

pub returns-clause-refused : goal.returns-clause-refused
returns-clause-refused g c = if_err c.load_files.result c.load_files.ensures.refused (λ e refused n known.
    let sources = c.args.self.now.files.sources.now in
    let expansion = g.E.Expander.expansion c.args.self.now.expander.now in
    let version = c.args.self.now.config.now.version in
    let read = c.in_ok-load_file.ensures.read in
    let old = c.args.files.now.items in
    let now = c.load_file.new.files.items in
    let first : c.len-first.result ≡ length old = c.len-first.ensures ∙ c.args.files.now.ok.0 in
    let many = length-append old (read.0 ∷ []) in
    let same = ap length read.2 in
    let alone = read_alone sources expansion version c.args.module (view c.args.source) c.args.numerator.now c.load_file.new.numerator read.0 known read.1 in
    subst (λ n. IsModuleRefused sources expansion version c.args.module (view c.args.source) n e) first
    (refused_files (refused n (omega (arith, first, many, same)) (subst (IsOwnAlone sources expansion version c.args.module c.args.source.key.now) (sym (ap (λ n. drop n now) first ∙ left_behind old now read.0 read.2)) alone))))
