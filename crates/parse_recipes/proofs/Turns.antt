-- What a loop has read before what it still reads.
use Rattle.std.proofs.Common.{◌≡◌, ℕ, zero, suc, ◌-◌, ◌<◌, List, [], ◌∷◌, ◌++◌, length, map, Ok, Err, Option, Some, None, refl, sym, ap, subst, ◌∙◌, arith, append_assoc}
use Rattle.std.proofs.lemmas.List.{map-append, append-nil}
use Rattle.std.proofs.lemmas.List.Elements.{All-append}
use Rattle.std.specs.List.{All}
use Rattle.std.specs.Prelude.{option_map, IsSome}
use Rattle.just_text.specs.Tokens.{word_of}
use Rattle.just_text.specs.declared.token.Token.{Token}
use Rattle.just_text.specs.declared.token_kind.TokenKind.{TokenKind}
use Rattle.parse_expressions.specs.declared.fault.Fault.{Fault}
use Rattle.parse_expressions.specs.declared.fault.Fault.TheVariants as faults
use Rattle.parse_expressions.specs.Reading.{◌>>=◌, Read, Fails, accept}
use Rattle.parse_recipes.specs.Reading.{until, while_some}

module _ {X A : Type 0} (view : X → A) where
  -- the items that were read, and then others
  abbrev pub before : List X → Read Token (List A) → Read Token (List A)
  before fs read = read >>= λ x. Ok (map view fs ++ x.0, x.1)

  pub regroup : (fs : List X) (x : X) (read : Read Token (List A)) → before fs (read >>= λ xs. Ok (view x ∷ xs.0, xs.1)) ≡ before (fs ++ x ∷ []) read
  regroup fs x (Ok y) = ap (λ (xs : List A). Ok (xs, y.1)) (simp (map-append, append_assoc))
  regroup fs x (Err f) = refl

  pub nothing_before : (fs : List X) (read : Read Token (List A)) → fs ≡ [] → before fs read ≡ read
  nothing_before fs (Ok y) none = rw none refl
  nothing_before fs (Err f) none = refl

  module _ (item : List Token → Read Token A) (close : TokenKind) (fs : List X) (n : ℕ) (ts : List Token) (total : Read Token (List A)) (fuel : length ts < n)
      (so_far : before fs (until word_of item close n ts) ≡ total) where
    next : before fs (until word_of item close (suc (n - 1)) ts) ≡ total
    next = let k : n ≡ suc (n - 1) = omega arith in subst (λ (m : ℕ). before fs (until word_of item close m ts) ≡ total) k so_far

    pub fails : accept word_of close ts ≡ None → (e : Fault) → Fails e (item ts) → Fails e total
    unfolding until
    fails no_close faults.OutOfMemory h = h
    fails no_close faults.NumbersUsed h = h
    fails no_close (faults.Unexpected found) h = rw (no_close, h) at (sym next)
    fails no_close (faults.Refused token kind) h = rw (no_close, h) at (sym next)

    pub goes_on : (x : X) (rest : List Token) → accept word_of close ts ≡ None → item ts ≡ Ok (view x, rest) → before (fs ++ x ∷ []) (until word_of item close (n - 1) rest) ≡ total
    unfolding until
    goes_on x rest no_close h = sym (regroup fs x (until word_of item close (n - 1) rest)) ∙ (rw (no_close, h) at next)

    pub at_end : (t : Token) (rest : List Token) → accept word_of close ts ≡ Some (t, rest) → total ≡ Ok (map view fs, rest)
    unfolding until
    at_end t rest h = (rw h at (sym next)) ∙ ap (λ (xs : List A). Ok (xs, rest)) (append-nil (map view fs))

  module _ (item : List Token → Read Token (Option A)) (fs : List X) (n : ℕ) (ts : List Token) (total : Read Token (List A)) (fuel : length ts < n)
      (so_far : before fs (while_some word_of item n ts) ≡ total) where
    next_some : before fs (while_some word_of item (suc (n - 1)) ts) ≡ total
    next_some = let k : n ≡ suc (n - 1) = omega arith in subst (λ (m : ℕ). before fs (while_some word_of item m ts) ≡ total) k so_far

    pub item_fails : (e : Fault) → Fails e (item ts) → Fails e total
    unfolding while_some
    item_fails faults.OutOfMemory h = h
    item_fails faults.NumbersUsed h = h
    item_fails (faults.Unexpected found) h = rw h at (sym next_some)
    item_fails (faults.Refused token kind) h = rw h at (sym next_some)

    pub one_more : (x : X) (rest : List Token) → item ts ≡ Ok (Some (view x), rest) → before (fs ++ x ∷ []) (while_some word_of item (n - 1) rest) ≡ total
    unfolding while_some
    one_more x rest h = sym (regroup fs x (while_some word_of item (n - 1) rest)) ∙ (rw h at next_some)

    pub none_left : (rest : List Token) → item ts ≡ Ok (None, rest) → total ≡ Ok (map view fs, rest)
    unfolding while_some
    none_left rest h = (rw h at (sym next_some)) ∙ ap (λ (xs : List A). Ok (xs, rest)) (append-nil (map view fs))

-- ---- what holds of each item

all_one : {X : Type 0} (P : X → Type 0) (x : X) → P x → All P (x ∷ [])
all_one P x this zero d h = this
all_one P x this (suc k) d h = absurd (omega arith)

pub all_none : {X : Type 0} (P : X → Type 0) (fs : List X) → fs ≡ [] → All P fs
all_none P fs none = rw none (λ k d h. absurd (omega arith))

pub all_more : {X : Type 0} (P : X → Type 0) (fs : List X) (x : X) → All P fs → P x → All P (fs ++ x ∷ [])
all_more P fs x these this = All-append P fs (x ∷ []) these (all_one P x this)
