-- What the file imports is reached and read, or refused.
use Rattle.std.proofs.Common.{◌≡◌, ◌<◌, ◌∙◌, Ok, Err, ap, length, map, subst}
use Rattle.std.specs.Prelude.{slice_get}
use Rattle.std.proofs.lemmas.Result.{err_from_is_err_and}
use Rattle.modules_files.specs.Chosen.{view}
use Rattle.modules_sources.specs.Imports.{depth_behind, imports_at}
use Rattle.modules_sources.specs.Loading.{AreRead, IsUnreadAmong, import_refused, text_refused}
use Rattle.modules_sources.proofs.load.Loader.load_imports.Goals as goal

pub returns-in_err-new-clause-refused : goal.returns-in_err-new-clause-refused
returns-in_err-new-clause-refused g c =
    let p = err_from_is_err_and c.from_residual.result c.from_residual.ensures.1 in
    rw (p.1, p.2) (λ n. import_refused (subst (λ fs. imports_at c.args.self.now.files.sources.now fs c.args.place ≡ Err c.in_err-new.field-0.0) c.as_slice-all.ensures.value (c.in_err-new.ensures.refused n)))

pub returns-in_err-load_new-clause-refused : goal.returns-in_err-load_new-clause-refused
returns-in_err-load_new-clause-refused g c =
    let expansion = g.E.Expander.expansion c.args.self.now.expander.now in
    let version = c.args.self.now.config.now.version in
    let all = c.as_slice-all.ensures.value in
    let followed = c.in_ok-new.ensures.followed in
    let told = map view c.in_ok-new.new.items in
    let e = c.in_err-load_new.field-0.0 in
    let depth : c.depth_behind-depth.result ≡ depth_behind (slice_get c.args.files.now.items c.args.place) = c.depth_behind-depth.ensures ∙ ap (λ fs. depth_behind (slice_get fs c.args.place)) all in
    let p = err_from_is_err_and c.from_residual-in_err-load_new.result c.from_residual-in_err-load_new.ensures.1 in
    rw (p.1, p.2) (λ n. text_refused followed.0 told (subst (λ fs. imports_at c.args.self.now.files.sources.now fs c.args.place ≡ Ok followed.0) all followed.1) (λ keys h. (followed.2 keys h).are_new)
    (subst (λ d. IsUnreadAmong expansion version c.args.module d told c.args.numerator.now e) depth
    (subst (λ ss. IsUnreadAmong expansion version c.args.module c.depth_behind-depth.result (map view ss) c.args.numerator.now e) c.as_slice.ensures.value (c.in_err-load_new.ensures.refused n))))

pub returns-clause-turn : goal.returns-clause-turn
returns-clause-turn g c = λ done.
    let expansion = g.E.Expander.expansion c.args.self.now.expander.now in
    let version = c.args.self.now.config.now.version in
    let all = c.as_slice-all.ensures.value in
    let followed = c.in_ok-new.ensures.followed in
    let told = map view c.in_ok-new.new.items in
    let read = c.in_ok-load_new.ensures.read in
    let gone = c.load_new.new.numerator in
    let depth : c.depth_behind-depth.result ≡ depth_behind (slice_get c.args.files.now.items c.args.place) = c.depth_behind-depth.ensures ∙ ap (λ fs. depth_behind (slice_get fs c.args.place)) all in
    record {
      there = subst (λ fs. c.args.place < length fs) all c.if-place-all.false;
      found = followed.0;
      named = subst (λ fs. imports_at c.args.self.now.files.sources.now fs c.args.place ≡ Ok followed.0) all followed.1;
      told = told;
      follows = followed.2;
      more = read.0;
      read = subst (λ d. AreRead expansion version c.args.module d told c.args.numerator.now read.0 gone) depth
          (subst (λ ss. AreRead expansion version c.args.module c.depth_behind-depth.result (map view ss) c.args.numerator.now read.0 gone) c.as_slice.ensures.value read.1);
      whole = read.2;
    }
