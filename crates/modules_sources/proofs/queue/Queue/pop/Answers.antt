-- Where none is taken, none was there.
use Rattle.std.proofs.Common.{◌≡◌, ◌+◌, [], ◌∷◌, List, MatchOption, length, vec_len, sym, subst, refl, ◌∙◌, arith}
use Rattle.modules_sources.proofs.queue.Queue.pop.Goals as goal

none_left : {A : Type 0} (xs : List A) → length xs ≡ 0 → xs ≡ []
none_left [] e = refl
none_left (x ∷ xs) e = absurd (omega (arith, e))

pub returns-clause-none : goal.returns-clause-none
returns-clause-none c = λ e.
    let none = subst (λ o. MatchOption o ((vec_len c.args.self.now.pending ≡ 0) × (vec_len c.pop.new.self ≡ 0)) (λ _. vec_len c.pop.new.self + 1 ≡ vec_len c.args.self.now.pending)) e c.pop.ensures.cases in
    none_left c.pop.new.self.items (sym c.pop.new.self.ok.0 ∙ none.1)
