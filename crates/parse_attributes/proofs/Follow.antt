-- Items that were read before those that still follow.
use Rattle.std.proofs.Common.{◌≡◌, ℕ, suc, ◌-◌, ◌<◌, Bool, true, false, List, [], ◌∷◌, ◌++◌, length, map, Result, Ok, Err, ◌⊎◌, inl, inr, zero, refl, sym, ap, subst, ◌∙◌, arith, append_assoc}
use Rattle.std.proofs.lemmas.List.{map-append, append-nil}
use Rattle.std.proofs.lemmas.List.Elements.{All-append}
use Rattle.std.specs.List.{All}
use Rattle.just_text.specs.Tokens.{word_of}
use Rattle.just_text.specs.declared.token.Token.{Token}
use Rattle.parse_expressions.specs.declared.fault.Fault.{Fault}
use Rattle.parse_expressions.specs.declared.fault.Fault.TheVariants as faults
use Rattle.parse_expressions.specs.Reading.{◌>>=◌, Read, Fails, Gives}
use Rattle.parse_attributes.specs.Reading.{follow_at}

module _ {X A : Type 0} (view : X → A) where
  -- the items that were read, and then others
  abbrev pub before : List X → Read Token (List A) → Read Token (List A)
  before fs read = read >>= λ x. Ok (map view fs ++ x.0, x.1)

  regroup : (fs : List X) (x : X) (read : Read Token (List A)) → before fs (read >>= λ xs. Ok (view x ∷ xs.0, xs.1)) ≡ before (fs ++ x ∷ []) read
  regroup fs x (Ok y) = ap (λ (xs : List A). Ok (xs, y.1)) (simp (map-append, append_assoc))
  regroup fs x (Err f) = refl

  pub nothing_before : (fs : List X) (read : Read Token (List A)) → fs ≡ [] → before fs read ≡ read
  nothing_before fs (Ok y) none = rw none refl
  nothing_before fs (Err f) none = refl

-- ---- what holds of each item

pub all_one : {X : Type 0} (P : X → Type 0) (x : X) → P x → All P (x ∷ [])
all_one P x this zero d h = this
all_one P x this (suc k) d h = absurd (omega arith)

pub all_none : {X : Type 0} (P : X → Type 0) (fs : List X) → fs ≡ [] → All P fs
all_none P fs none = rw none (λ k d h. absurd (omega arith))

pub all_more : {X : Type 0} (P : X → Type 0) (fs : List X) (x : X) → All P fs → P x → All P (fs ++ x ∷ [])
all_more P fs x these this = All-append P fs (x ∷ []) these (all_one P x this)

-- ---- what is refused

-- What was read and then put after others is refused where reading is, or memory ran out.
pub refused_so : {X A : Type 0} (view : X → A × List Token) (r : Result X Fault) (read : Read Token A) (e : Fault) → Gives view r read → (r ≡ Err e) ⊎ (e ≡ faults.OutOfMemory) → Fails e read
refused_so view r read e gives (inl same) = rw same at gives
refused_so view r read e gives (inr out) = rw out tt

-- ---- turns

module _ {X A : Type 0} (view : X → A) (item : List Token → Read Token A) (more : List Token → Read Token Bool) (fs : List X) (n : ℕ) (ts : List Token) (total : Read Token (List A)) (fuel : length ts < n)
    (so_far : before view fs (follow_at word_of item more n ts) ≡ total) where
  next : before view fs (follow_at word_of item more (suc (n - 1)) ts) ≡ total
  next = let k : n ≡ suc (n - 1) = omega arith in subst (λ (m : ℕ). before view fs (follow_at word_of item more m ts) ≡ total) k so_far

  -- it is not told whether another comes
  pub untold : (e : Fault) → Fails e (more ts) → Fails e total
  unfolding follow_at
  untold faults.OutOfMemory h = h
  untold faults.NumbersUsed h = h
  untold (faults.Unexpected found) h = rw h at (sym next)
  untold (faults.Refused token kind) h = rw h at (sym next)

  pub at_end : (rest : List Token) → more ts ≡ Ok (false, rest) → total ≡ Ok (map view fs, rest)
  unfolding follow_at
  at_end rest h = (rw h at (sym next)) ∙ ap (λ (xs : List A). Ok (xs, rest)) (append-nil (map view fs))

  module _ (a : List Token) (comes : more ts ≡ Ok (true, a)) where
    pub no_item : (e : Fault) → Fails e (item a) → Fails e total
    unfolding follow_at
    no_item faults.OutOfMemory h = h
    no_item faults.NumbersUsed h = h
    no_item (faults.Unexpected found) h = rw (comes, h) at (sym next)
    no_item (faults.Refused token kind) h = rw (comes, h) at (sym next)

    pub goes_on : (x : X) (rest : List Token) → item a ≡ Ok (view x, rest) → before view (fs ++ x ∷ []) (follow_at word_of item more (n - 1) rest) ≡ total
    unfolding follow_at
    goes_on x rest h = sym (regroup view fs x (follow_at word_of item more (n - 1) rest)) ∙ (rw (comes, h) at next)
