-- How a dialogue ends whose parts end so.
use Rattle.std.proofs.Common.{◌≡◌, ℕ, suc, ◌+◌, List, [], ◌∷◌, length, Bool, true, false, ◌==◌, ◌&&◌, not, if◌then◌else◌, Option, Some, None, Result, Ok, Err, ◌⊎◌, ⊎_elim, refl, ap}
use Rattle.std.specs.Prelude.{IsSome}
use Rattle.meaning_dialogues.specs.Faults.{Fault, argument_of, list_in_text_place}
use Rattle.meaning_dialogues.specs.Dialogue.{Dialogue, Ends, Asks, Reads, ◌>>=◌, Lookup, around, in_module, Variable}
use Rattle.meaning_dialogues.specs.Evaluation.{Value, row, sides}
use Rattle.meaning_dialogues.specs.Calls.{arguments, as_argument, Frame, in_frame, or_read, inside}
use Rattle.meaning_dialogues.proofs.Soundness.{Sound, Any}
use Rattle.laws_evaluation.specs.Soundness.Endings.{GivesProperly, NotInternal, ReadsAndEnds, Proper}

-- each end of one dialogue after another is so where the first ends in a value that the second goes on from, or in a fault that is so of both
pub then_ends : {A B : Type 0} (W : Lookup → Variable → Type 0) (P : Result A Fault → Type 0) (R : Result B Fault → Type 0) (t : Dialogue A) (k : A → Dialogue B)
    → ((fault : Fault) → P (Err fault) → R (Err fault)) → ReadsAndEnds W P t → ((a : A) → P (Ok a) → ReadsAndEnds W R (k a)) → ReadsAndEnds W R (t >>= k)
then_ends W P R (Ends (Ok a)) k up h g = g a h
then_ends W P R (Ends (Err e)) k up h g = up e h
then_ends W P R (Asks q next) k up h g = λ answer. then_ends W P R (next answer) k up (h answer) g
then_ends W P R (Reads p x next) k up h g = (h.0, λ value. then_ends W P R (next value) k up (h.1 value) g)

-- what ends in other ways ends so too where this follows
pub weaker_ends : {A : Type 0} (W : Lookup → Variable → Type 0) (P R : Result A Fault → Type 0) → ((r : Result A Fault) → P r → R r) → (t : Dialogue A) → ReadsAndEnds W P t → ReadsAndEnds W R t
weaker_ends W P R up (Ends end) h = up end h
weaker_ends W P R up (Asks q next) h = λ answer. weaker_ends W P R up (next answer) (h answer)
weaker_ends W P R up (Reads p x next) h = (h.0, λ value. weaker_ends W P R up (next value) (h.1 value))

-- a value of some kind is a value
pub any_value : {A : Type 0} (Q : A → Type 0) (r : Result A Fault) → GivesProperly Q r → NotInternal r
any_value Q (Ok a) h = tt
any_value Q (Err fault) h = h

-- what it reads, without how it ends
pub reads_only : {A : Type 0} (W : Lookup → Variable → Type 0) (P : Result A Fault → Type 0) (t : Dialogue A) → ReadsAndEnds W P t → Sound W Any t
reads_only W P (Ends (Ok a)) h = tt
reads_only W P (Ends (Err fault)) h = tt
reads_only W P (Asks q next) h = λ answer. reads_only W P (next answer) (h answer)
reads_only W P (Reads p x next) h = (h.0, λ value. reads_only W P (next value) (h.1 value))

-- what reads fewer variables reads no others
pub wider : {A : Type 0} (V W : Lookup → Variable → Type 0) (P : Result A Fault → Type 0) → ((place : Lookup) (x : Variable) → V place x → W place x) → (t : Dialogue A) → ReadsAndEnds V P t → ReadsAndEnds W P t
wider V W P up (Ends end) h = h
wider V W P up (Asks q next) h = λ answer. wider V W P up (next answer) (h answer)
wider V W P up (Reads p x next) h = (up p x h.0, λ value. wider V W P up (next value) (h.1 value))

-- one of two results, neither of which is `internal`
pub either_proper : {A : Type 0} (b : Bool) (r s : Result A Fault) → NotInternal r → NotInternal s → NotInternal (if b then r else s)
either_proper true r s h g = h
either_proper false r s h g = g

module _ (W : Lookup → Variable → Type 0) where
  -- one after the other never ends with `internal` where the first doesn't, and the second doesn't after a value of this kind
  pub then_properly : {A B : Type 0} (Q : A → Type 0) (t : Dialogue A) (k : A → Dialogue B) → ReadsAndEnds W (GivesProperly Q) t → ((a : A) → Q a → Proper W (k a)) → Proper W (t >>= k)
  then_properly Q t k h g = then_ends W (GivesProperly Q) NotInternal t k (λ fault e. e) h g

  -- the same after any value
  pub then_proper : {A B : Type 0} (t : Dialogue A) (k : A → Dialogue B) → Proper W t → ((a : A) → Proper W (k a)) → Proper W (t >>= k)
  then_proper t k h g = then_ends W NotInternal NotInternal t k (λ fault e. e) h (λ a _. g a)

  -- one of two that never end with `internal` doesn't either
  pub choice_proper : {A : Type 0} (b : Bool) (s t : Dialogue A) → Proper W s → Proper W t → Proper W (if b then s else t)
  choice_proper true s t h g = h
  choice_proper false s t h g = g

  -- nor do two sides
  pub sides_proper : (l r : Dialogue Value) → Proper W l → Proper W r → Proper W (sides l r)
  sides_proper l r h g = then_proper l _ h (λ a. then_proper r _ g (λ b. tt))

  -- each of a row
  abbrev pub AllProper : List (Dialogue Value) → Type 0
  AllProper [] = Unit {0}
  AllProper (d ∷ ds) = Proper W d × AllProper ds

  -- a row of such gives as many values as it has dialogues, or a fault other than `internal`
  pub row_proper : (ds : List (Dialogue Value)) → AllProper ds → ReadsAndEnds W (GivesProperly (λ vs. length vs ≡ length ds)) (row ds)
  row_proper [] h = refl
  row_proper (d ∷ ds) h =
      then_ends W NotInternal _ d _ (λ fault e. e) h.0
      (λ v _. then_ends W (GivesProperly (λ vs. length vs ≡ length ds)) _ (row ds) _ (λ fault e. e) (row_proper ds h.1) (λ vs e. ap suc e))

  argument_proper : (is_text : Bool) (name : List ℕ) (v : Value) → NotInternal (as_argument is_text name v)
  argument_proper is_text name v = either_proper (is_text && not (length v == 1)) (Err (list_in_text_place (argument_of name) v)) (Ok v) refl tt

  -- the arguments of a built-in function never end with `internal` where none of their values does
  pub arguments_proper : (takes : ℕ → Bool) (name : List ℕ) (k : ℕ) (ds : List (Dialogue Value)) → AllProper ds → Proper W (arguments takes name k ds)
  arguments_proper takes name k [] h = tt
  arguments_proper takes name k (d ∷ ds) h =
      then_proper d _ h.0
      (λ v. then_proper (Ends (as_argument (takes k) name v)) _ (argument_proper (takes k) name v)
      (λ w. then_proper (arguments takes name (k + 1) ds) _ (arguments_proper takes name (k + 1) ds h.1) (λ vs. tt)))

inside_read : {A : Type 0} (W : Lookup → Variable → Type 0) (P : Result A Fault → Type 0) (frame : Frame) (x : Variable) (next : Value → Dialogue A) (o : Option Value) → IsSome o ⊎ W in_module x
    → ((v : Value) → ReadsAndEnds W P (inside frame (next v))) → ReadsAndEnds W P (or_read o (λ v. inside frame (next v)) x)
inside_read W P frame x next (Some v) h go = go v
inside_read W P frame x next None h go = (⊎_elim (λ s. absurd (cc)) (λ p. p) h, go)

-- the body of a function reads what is no parameter in the module, and ends as before
pub inside_ends : {A : Type 0} (V W : Lookup → Variable → Type 0) (P : Result A Fault → Type 0) (frame : Frame) → ((x : Variable) → V around x → IsSome (in_frame frame x.number) ⊎ W in_module x)
    → ((x : Variable) → V in_module x → W in_module x) → (t : Dialogue A) → ReadsAndEnds V P t → ReadsAndEnds W P (inside frame t)
inside_ends V W P frame up over (Ends end) h = h
inside_ends V W P frame up over (Asks q next) h = λ answer. inside_ends V W P frame up over (next answer) (h answer)
inside_ends V W P frame up over (Reads around x next) h =
    inside_read W P frame x next (in_frame frame x.number) (up x h.0) (λ v. inside_ends V W P frame up over (next v) (h.1 v))
inside_ends V W P frame up over (Reads in_module x next) h = (over x h.0, λ value. inside_ends V W P frame up over (next value) (h.1 value))
