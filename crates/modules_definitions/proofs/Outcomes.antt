-- What follows of an outcome.
use Rattle.std.proofs.Common.{Result, Ok, Err}
use Rattle.std.specs.Prelude.{IfErr, IfOk, OnOk}

pub ok_gives : {T E : Type 0} {P Q : T → Type 0} (r : Result T E) → IfOk r P → ((x : T) → P x → Q x) → IfOk r Q
ok_gives (Ok x) p f = f x p
ok_gives (Err e) p f = tt

pub ok_says : {T E P : Type 0} (r : Result T E) → P → OnOk r P
ok_says (Ok x) p = p
ok_says (Err e) p = tt

pub err_gives : {T E : Type 0} {P Q : E → Type 0} (r : Result T E) → IfErr r P → ((e : E) → P e → Q e) → IfErr r Q
err_gives (Ok x) p f = tt
err_gives (Err e) p f = f e p
