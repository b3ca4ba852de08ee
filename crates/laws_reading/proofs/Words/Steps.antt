-- Steps of reading.
use Rattle.std.proofs.Common.{◌≡◌, ℕ, suc, Bool, true, false, cond, Option, Some, None, Result, Ok, Err, List, [], ◌∷◌, map, length, refl, ap, subst, inl, inr}
use Rattle.std.specs.Prelude.{is_some}
use Rattle.std.specs.Option.{option_map}
use Rattle.just_text.specs.Tokens.{Word}
use Rattle.just_text.specs.declared.token_kind.TokenKind.{TokenKind}
use Rattle.parse_expressions.specs.Words.{is_kind}
use Rattle.parse_expressions.specs.Reading.{◌>>=◌, on, unexpected, first, accept, expect, is_next, is_keyword}
use Rattle.parse_expressions.proofs.Taken.{test}
use Rattle.laws_reading.specs.Words.Mapped.{MapsTo, MapsOptionTo, map_stop, map_result, step}

pub ok : {E F A B : Type 0} {s : E → F} {g : A → B} {x : A} → MapsTo s g (Ok x) (Ok (g x))
ok = record { is = refl }

pub stops : {E F A B : Type 0} {s : E → F} {g : A → B} {e : E} → MapsTo s g (Err e) (Err (s e))
stops = record { is = refl }

bind_by : {E F A B C D : Type 0} (s : E → F) (g : A → B) (h : C → D) (m : Result A E) (n : Result B F) (k : A → Result C E) (l : B → Result D F)
    → map_result s g m ≡ n → ((x : A) → MapsTo s h (k x) (l (g x))) → MapsTo s h (m >>= k) (n >>= l)
bind_by s g h (Ok x) n k l e more = subst (λ z. MapsTo s h (k x) (z >>= l)) e (more x)
bind_by s g h (Err r) n k l e more = subst (λ z. MapsTo s h (Err r) (z >>= l)) e (record { is = refl })

pub bind : {E F A B C D : Type 0} {s : E → F} {g : A → B} {h : C → D} {m : Result A E} {n : Result B F} {k : A → Result C E} (l : B → Result D F)
    → MapsTo s g m n → ((x : A) → MapsTo s h (k x) (l (g x))) → MapsTo s h (m >>= k) (n >>= l)
bind {s = s} {g = g} {h = h} {m = m} {n = n} {k = k} l e more = bind_by s g h m n k l e.is more

choose_by : {E F A B C D : Type 0} (s : E → F) (g : A → B) (h : C → D) (m : Option A) (n : Option B) (a : Result C E) (b : Result D F) (k : A → Result C E) (l : B → Result D F)
    → option_map g m ≡ n → MapsTo s h a b → ((x : A) → MapsTo s h (k x) (l (g x))) → MapsTo s h (on m a k) (on n b l)
choose_by s g h (Some x) n a b k l e less more = subst (λ z. MapsTo s h (k x) (on z b l)) e (more x)
choose_by s g h None n a b k l e less more = subst (λ z. MapsTo s h a (on z b l)) e less

pub choose : {E F A B C D : Type 0} {s : E → F} {g : A → B} {h : C → D} {m : Option A} {n : Option B} {a : Result C E} {b : Result D F} {k : A → Result C E} (l : B → Result D F)
    → MapsOptionTo g m n → MapsTo s h a b → ((x : A) → MapsTo s h (k x) (l (g x))) → MapsTo s h (on m a k) (on n b l)
choose {s = s} {g = g} {h = h} {m = m} {n = n} {a = a} {b = b} {k = k} l e less more = choose_by s g h m n a b k l e.is less more

either_by : {E F C D : Type 0} (s : E → F) (h : C → D) (p q : Bool) (a c : Result C E) (b d : Result D F) → p ≡ q → MapsTo s h a b → MapsTo s h c d → MapsTo s h (cond p a c) (cond q b d)
either_by s h true q a c b d e x y = subst (λ z. MapsTo s h a (cond z b d)) e x
either_by s h false q a c b d e x y = subst (λ z. MapsTo s h c (cond z b d)) e y

pub either : {E F C D : Type 0} {s : E → F} {h : C → D} {p q : Bool} {a c : Result C E} {b d : Result D F} → p ≡ q → MapsTo s h a b → MapsTo s h c d → MapsTo s h (cond p a c) (cond q b d)
either {s = s} {h = h} {p = p} {q = q} {a = a} {c = c} {b = b} {d = d} e x y = either_by s h p q a c b d e x y

pub by : {E F C D : Type 0} {s : E → F} {h : C → D} (p : Bool) {a c : Result C E} {b d : Result D F} → MapsTo s h a b → MapsTo s h c d → MapsTo s h (cond p a c) (cond p b d)
by {s = s} {h = h} p {a = a} {c = c} {b = b} {d = d} x y = either_by s h p p a c b d refl x y

-- values

pub cond_same : {X : Type 0} (p q : Bool) (a b c d : X) → p ≡ q → a ≡ b → c ≡ d → cond p a c ≡ cond q b d
cond_same p q a b c d e x y = λ i. cond (e i) (x i) (y i)

on_by : {A B X : Type 0} (g : A → B) (m : Option A) (n : Option B) (a b : X) (k : A → X) (l : B → X) → option_map g m ≡ n → a ≡ b → ((x : A) → k x ≡ l (g x)) → on m a k ≡ on n b l
on_by g (Some x) n a b k l e less more = subst (λ z. k x ≡ on z b l) e (more x)
on_by g None n a b k l e less more = subst (λ z. a ≡ on z b l) e less

pub on_same : {A B X : Type 0} {g : A → B} {m : Option A} {n : Option B} {a b : X} {k : A → X} (l : B → X) → MapsOptionTo g m n → a ≡ b → ((x : A) → k x ≡ l (g x)) → on m a k ≡ on n b l
on_same {g = g} {m = m} {n = n} {a = a} {b = b} {k = k} l e less more = on_by g m n a b k l e.is less more

module _ {T S : Type 0} (f : T → S) where
  -- nothing more comes
  pub first_stops : {A B : Type 0} {g : A → B} (ts : List T) → MapsTo (map_stop f) g (Err (unexpected (first ts))) (Err (unexpected (first (map f ts))))
  first_stops [] = record { is = refl }
  first_stops (t ∷ ts) = record { is = refl }

  pub length_there : (ts : List T) → length (map f ts) ≡ length ts
  length_there [] = refl
  length_there (t ∷ ts) = ap suc (length_there ts)

  module _ (word : S → Word) where
    abbrev pub seen : T → Word
    seen t = word (f t)

    pub accepts : (kind : TokenKind) (ts : List T) → MapsOptionTo (step f f) (accept seen kind ts) (accept word kind (map f ts))
    unfolding accept
    accepts kind [] = record { is = refl }
    accepts kind (t ∷ ts) = elim (test (is_kind (word (f t)).kind kind)) [ inl h ↦ record { is = rw h refl } | inr h ↦ record { is = rw h refl } ]

    pub expects : (kind : TokenKind) (ts : List T) → MapsTo (map_stop f) (step f f) (expect seen kind ts) (expect word kind (map f ts))
    unfolding expect
    expects kind ts = choose _ (accepts kind ts) (first_stops ts) (λ p. ok)

    some_there : {A B : Type 0} (g : A → B) (o : Option A) (p : Option B) → option_map g o ≡ p → is_some o ≡ is_some p
    some_there g None p e = ap is_some e
    some_there g (Some x) p e = ap is_some e

    pub nexts : (kind : TokenKind) (ts : List T) → is_next seen kind ts ≡ is_next word kind (map f ts)
    unfolding is_next
    nexts kind ts = some_there (step f f) (accept seen kind ts) (accept word kind (map f ts)) (accepts kind ts).is

    -- what is behind a token of that kind, if one comes
    pub aside : (kind : TokenKind) (ts : List T) → on (accept word kind (map f ts)) (map f ts) (λ p. p.1) ≡ map f (on (accept seen kind ts) ts (λ p. p.1))
    unfolding accept
    aside kind [] = refl
    aside kind (t ∷ ts) = elim (test (is_kind (word (f t)).kind kind)) [ inl h ↦ rw h refl | inr h ↦ rw h refl ]

    pub keywords : (keyword : List ℕ) (ts : List T) → is_keyword seen keyword ts ≡ is_keyword word keyword (map f ts)
    unfolding is_keyword
    keywords keyword [] = refl
    keywords keyword (t ∷ ts) = refl
