-- One file more is followed, or what it imports is refused.
use Rattle.std.proofs.Common.{◌≡◌, ◌+◌, ◌-◌, ◌^◌, min, ◌++◌, [], length, drop, sym, ap, subst, ◌∙◌, arith, append_assoc}
use Rattle.std.proofs.lemmas.List.{append-nil}
use Rattle.std.proofs.lemmas.Result.{err_from_is_err_and}
use Rattle.modules_sources.specs.ReadingOrder.{AreNoted, AreNumbered}
use Rattle.modules_sources.proofs.Ordering.{longer, noted_done, noted_ended, noted_next, refused_next, turn_numbers}
use Rattle.modules_sources.proofs.load.Loader.load_reached.Goals as goal

pub loop-place-init : goal.loop-place-init
loop-place-init g c = record {
  numbers = λ start so. so;
  grown = ([], sym (append-nil c.args.files.now.items));
  noted = λ own le so.
      let none : 0 ≡ c.args.first - c.args.first = omega arith in
      subst (λ n. AreNoted c.args.self.now.files.sources.now (g.E.Expander.expansion c.args.self.now.expander.now) c.args.self.now.config.now.version c.args.module own n (drop c.args.first c.args.files.now.items) c.args.reached.now) none so;
}

pub loop-place-preserved : goal.loop-place-preserved
loop-place-preserved g c =
    let l = c.loop-place in
    let sources = c.args.self.now.files.sources.now in
    let expansion = g.E.Expander.expansion c.args.self.now.expander.now in
    let version = c.args.self.now.config.now.version in
    let t = c.in_ok-load_imports.ensures.turn c.if-not-branch.false in
    let new = c.load_imports.new in
    let grown = l.invariant.grown in
    record {
      numbers = λ start so. turn_numbers sources expansion version c.args.module l.place l.files.items new.files.items l.reached new.reached l.numerator new.numerator start t (l.invariant.numbers start so);
      grown = (grown.0 ++ t.more, t.whole ∙ ap (λ fs. fs ++ t.more) grown.1 ∙ append_assoc c.args.files.now.items grown.0 t.more);
      noted = λ own le so. noted_next sources expansion version c.args.module own c.args.first l.place l.files.items new.files.items l.reached new.reached l.numerator new.numerator l.auto.place (longer c.args.files.now.items grown.0 l.files.items c.args.first grown.1 le)
          (l.invariant.noted own le so) t;
    }

pub returns-in_err-load_imports-clause-refused : goal.returns-in_err-load_imports-clause-refused
returns-in_err-load_imports-clause-refused g c =
    let l = c.loop-place in
    let p = err_from_is_err_and c.from_residual.result c.from_residual.ensures.1 in
    rw (p.1, p.2) (λ n own le so. refused_next c.args.self.now.files.sources.now (g.E.Expander.expansion c.args.self.now.expander.now) c.args.self.now.config.now.version c.args.module own c.args.first l.place l.files.items l.reached l.numerator
    c.in_err-load_imports.field-0.0 l.auto.place (l.invariant.noted own le so) (c.in_err-load_imports.ensures.refused n))

pub returns-then-not-branch-clause-numbers : goal.returns-then-not-branch-clause-numbers
returns-then-not-branch-clause-numbers g c = λ start so.
    let ended = c.in_ok-load_imports.ensures.ended c.if-not-branch.true in
    subst (λ ns. AreNumbered start c.load_imports.new.files.items ns) (sym ended.3) (subst (λ fs. AreNumbered start fs.items c.loop-place.numerator) (sym ended.1) (c.loop-place.invariant.numbers start so))

pub returns-then-not-branch-clause-grown : goal.returns-then-not-branch-clause-grown
returns-then-not-branch-clause-grown g c = let ended = c.in_ok-load_imports.ensures.ended c.if-not-branch.true in (c.loop-place.invariant.grown.0, ap (λ fs. fs.items) ended.1 ∙ c.loop-place.invariant.grown.1)

pub returns-then-not-branch-clause-noted : goal.returns-then-not-branch-clause-noted
returns-then-not-branch-clause-noted g c = λ own le so.
    let l = c.loop-place in
    let sources = c.args.self.now.files.sources.now in
    let expansion = g.E.Expander.expansion c.args.self.now.expander.now in
    let version = c.args.self.now.config.now.version in
    let ended = c.in_ok-load_imports.ensures.ended c.if-not-branch.true in
    let all = noted_ended sources expansion version c.args.module own c.args.first l.place l.files.items l.reached ended.0 (l.invariant.noted own le so) in
    subst (λ r. AreNoted sources expansion version c.args.module own (length (drop c.args.first c.load_imports.new.files.items)) (drop c.args.first c.load_imports.new.files.items) r) (sym ended.2)
    (subst (λ fs. AreNoted sources expansion version c.args.module own (length (drop c.args.first fs.items)) (drop c.args.first fs.items) l.reached) (sym ended.1) all)

pub returns-clause-noted : goal.returns-clause-noted
returns-clause-noted g c = λ own le so.
    let l = c.loop-place in
    let small = l.files.small in
    let many = l.files.ok in
    noted_done c.args.self.now.files.sources.now (g.E.Expander.expansion c.args.self.now.expander.now) c.args.self.now.config.now.version c.args.module own c.args.first l.place c.saturating_add-end.result _ l.files.items l.reached
    (longer c.args.files.now.items l.invariant.grown.0 l.files.items c.args.first l.invariant.grown.1 le) (c.saturating_add-end.ensures ∙ ap (λ n. min (c.args.first + n) (2 ^ 64 - 1)) c.len.ensures.len) (omega (arith, small, many.0, many.1)) c.loop-place-test.false (l.invariant.noted own le so)
