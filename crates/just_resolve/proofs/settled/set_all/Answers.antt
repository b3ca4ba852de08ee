-- A setting more, and the first that is refused.
use Rattle.std.proofs.Common.{◌≡◌, ◌+◌, ◌∙◌, ◌∷◌, ap, drop, subst, sym}
use Rattle.std.specs.List.{cons_option}
use Rattle.std.proofs.Math.ListN.{drop_of_length-le}
use Rattle.std.proofs.lemmas.Result.{err_from_is_err_and}
use Rattle.evaluate_context.specs.Refusals.{fault_of}
use Rattle.evaluate_variables.specs.Settled.{reading_in}
use Rattle.resolve_recipes.proofs.Resolving.{next_at}
use Rattle.just_resolve.specs.Settling.{AreNotSet, AreSet, all_set, later, one_set, refused, set_of, sets_at}
use Rattle.just_resolve.proofs.Standing.{not_set}
use Rattle.just_resolve.proofs.settled.set_all.Goals as goal
use Rattle.just_resolve.proofs.settled.set_all.Goals.{in-Some+in_ok-evaluate_set, in_default}

pub returns-in_err-evaluate_set-clause-refused : goal.returns-in_err-evaluate_set-clause-refused
returns-in_err-evaluate_set-clause-refused c =
    let p = err_from_is_err_and c.from_residual.result c.from_residual.ensures.1 in
    let compilation = c.args.compilation.now in
    let sets = c.args.sets.now in
    let known = c.args.known.now in
    let i = c.loop-place.place-index in
    let next : sets_at compilation (drop i sets) ≡ c.in-Some.set.now ∷ sets_at compilation (drop (i + 1) sets) =
    ap (sets_at compilation) (next_at sets i _ c.loop-place-test.true) ∙ ap (λ o. cons_option o (sets_at compilation (drop (i + 1) sets))) (ap set_of c.in-Some.ensures.found) in
    rw (p.1, p.2) (λ some. c.loop-place.invariant.1 (fault_of c.in_err-evaluate_set.field-0.0)
    (subst (λ ss. AreNotSet (reading_in known) known.lists ss c.loop-place.settings (fault_of c.in_err-evaluate_set.field-0.0)) (sym next) (refused (c.in_err-evaluate_set.ensures.1 some))))

pub loop-place-preserved : goal.loop-place-preserved
loop-place-preserved c =
    let compilation = c.args.compilation.now in
    let sets = c.args.sets.now in
    let known = c.args.known.now in
    let i = c.loop-place.place-index in
    let rest = sets_at compilation (drop (i + 1) sets) in
    let old = c.loop-place.settings in
    let inv = c.loop-place.invariant in
    elim c.match-set.branch [
      | in-Some+in_ok-evaluate_set w ↦
          let next : sets_at compilation (drop i sets) ≡ w.in-Some.set.now ∷ rest = ap (sets_at compilation) (next_at sets i _ c.loop-place-test.true) ∙ ap (λ o. cons_option o rest) (ap set_of w.in-Some.ensures.found) in (
            λ new set. inv.0 new (subst (λ ss. AreSet (reading_in known) known.lists ss old new) (sym next) (one_set w.in_ok-evaluate_set.ensures (subst (λ s. AreSet (reading_in known) known.lists rest s new) w.settings-is set))),
            λ fault set. inv.1 fault (subst (λ ss. AreNotSet (reading_in known) known.lists ss old fault) (sym next) (later w.in_ok-evaluate_set.ensures (subst (λ s. AreNotSet (reading_in known) known.lists rest s fault) w.settings-is set))),
          )
      | in_default w ↦
          let next : sets_at compilation (drop i sets) ≡ rest = ap (sets_at compilation) (next_at sets i _ c.loop-place-test.true) ∙ ap (λ o. cons_option o rest) (not_set _ (sym w.in_default.ensures.there)) in (
            λ new set. inv.0 new (subst (λ ss. AreSet (reading_in known) known.lists ss old new) (sym next) (subst (λ s. AreSet (reading_in known) known.lists rest s new) w.settings-is set)),
            λ fault set. inv.1 fault (subst (λ ss. AreNotSet (reading_in known) known.lists ss old fault) (sym next) (subst (λ s. AreNotSet (reading_in known) known.lists rest s fault) w.settings-is set)),
          )
    ]

pub returns-clause-set : goal.returns-clause-set
returns-clause-set c =
    let known = c.args.known.now in
    let settings = c.loop-place.settings in
    c.loop-place.invariant.0 settings (subst (λ places. AreSet (reading_in known) known.lists (sets_at c.args.compilation.now places) settings settings) (sym (drop_of_length-le c.args.sets.now c.loop-place-test.false)) all_set)
