-- What follows of an outcome.
use Rattle.std.proofs.Common.{◌≡◌, Result, Ok, Err, sym, subst}
use Rattle.std.specs.Prelude.{IfErr, IfOk, OnOk}
use Rattle.modules_compilation.specs.Places.{unless_refused}

pub on_ok : {T E P Q : Type 0} (r : Result T E) → OnOk r P → (P → Q) → OnOk r Q
on_ok (Ok x) p f = f p
on_ok (Err e) p f = tt

pub if_ok : {T E : Type 0} {P Q : T → Type 0} (r : Result T E) → IfOk r P → ((x : T) → P x → Q x) → IfOk r Q
if_ok (Ok x) p f = f x p
if_ok (Err e) p f = tt

pub if_err : {T E : Type 0} {P Q : E → Type 0} (r : Result T E) → IfErr r P → ((e : E) → P e → Q e) → IfErr r Q
if_err (Ok x) p f = tt
if_err (Err e) p f = f e p

pub both_ok : {T E P Q R : Type 0} (r : Result T E) → OnOk r P → OnOk r Q → (P → Q → R) → OnOk r R
both_ok (Ok x) p q f = f p q
both_ok (Err e) p q f = tt

-- what holds of a value or a refusal, where the outcome is that
pub ok_holds : {T E : Type 0} (P : T → Type 0) (r : Result T E) (x : T) → r ≡ Ok x → IfOk r P → P x
ok_holds P r x e h = subst (λ o. IfOk o P) e h

pub err_holds : {T E : Type 0} (P : E → Type 0) (r : Result T E) (x : E) → r ≡ Err x → IfErr r P → P x
err_holds P r x e h = subst (λ o. IfErr o P) e h

pub ok_says : {T E P : Type 0} (r : Result T E) → P → OnOk r P
ok_says (Ok x) p = p
ok_says (Err e) p = tt

pub six_ok : {T E P Q R S U V G : Type 0} (r : Result T E) → OnOk r P → OnOk r Q → OnOk r R → OnOk r S → OnOk r U → OnOk r V → (P → Q → R → S → U → V → G) → OnOk r G
six_ok (Ok x) p q s t u v f = f p q s t u v
six_ok (Err e) p q s t u v f = tt

-- what holds where an outcome is no refusal
pub unless : {A B E : Type 0} (P : A → Type 0) (a : A) (outcome : Result B E) (r : Result A E) → r ≡ unless_refused a outcome → OnOk outcome (P a) → IfOk r P
unless P a (Ok done) r e h = subst (λ o. IfOk o P) (sym e) h
unless P a (Err refused) r e h = subst (λ o. IfOk o P) (sym e) tt

-- what holds of the refusal that an outcome is
pub refused_so : {A B E : Type 0} (P : E → Type 0) (a : A) (outcome : Result B E) (r : Result A E) → r ≡ unless_refused a outcome → IfErr outcome P → IfErr r P
refused_so P a (Ok done) r e h = subst (λ o. IfErr o P) (sym e) tt
refused_so P a (Err refused) r e h = subst (λ o. IfErr o P) (sym e) h
