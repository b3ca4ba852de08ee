-- What follows of an outcome.
use Rattle.std.proofs.Common.{◌≡◌, ◌∙◌, Bool, true, false, not, ◌&&◌, sym, ap, refl, Result, Ok, Err}
use Rattle.std.specs.Prelude.{OnOk, IfErr}
use Rattle.std.proofs.lemmas.Bool.{false≢true}

pub ok_gives : {T E P Q : Type 0} (r : Result T E) → OnOk r P → (P → Q) → OnOk r Q
ok_gives (Ok x) p f = f p
ok_gives (Err e) p f = tt

pub err_gives : {T E : Type 0} {P Q : E → Type 0} (r : Result T E) → IfErr r P → ((e : E) → P e → Q e) → IfErr r Q
err_gives (Ok x) p f = tt
err_gives (Err e) p f = f e p

pub and_true : (a b : Bool) → (a && b) ≡ true → (a ≡ true) × (b ≡ true)
and_true true b e = (refl, e)
and_true false b e = absurd (false≢true e)

pub not_both : (a b : Bool) → (a && b) ≡ false → a ≡ true → b ≡ true → ⊥
not_both a b none p q = false≢true (sym none ∙ ap (λ x. x && b) p ∙ q)

pub not_true : (a : Bool) → a ≡ false → a ≡ true → ⊥
not_true a p q = false≢true (sym p ∙ q)

pub turned : (r b : Bool) → r ≡ not b → r ≡ true → b ≡ false
turned r true is e = absurd (false≢true (sym is ∙ e))
turned r false is e = refl

pub both_give : {T E P Q R : Type 0} (r : Result T E) → OnOk r P → OnOk r Q → (P → Q → R) → OnOk r R
both_give (Ok x) p q f = f p q
both_give (Err e) p q f = tt
