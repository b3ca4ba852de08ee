-- Where steps of calls of a kind go alike under other names, steps that want of memory may cut do.
use Rattle.std.specs.Prelude.{◌≢◌, IfSome}
use Rattle.std.proofs.Common.{◌≡◌, ◌⊎◌, inl, inr, refl, ap, subst, ℕ, Bool, Option, Some, None, Result, Ok, Err}
use Rattle.meaning_dialogues.specs.Faults.{memory, assertion_failed, not_constant, empty_interpreter, list_in_text_place, list_operation, pattern_left_out, command_failed, function_failed, too_deep, empty_argument, value_count, no_parent, internal}
use Rattle.meaning_runs.specs.Cut.{Cuts, cut_parts}
use Rattle.meaning_runs.specs.Failures.{Failure, by_code, by_signal, not_started, not_confirmed, evaluation}
use Rattle.meaning_runs.specs.Parts.{Parts, AreRanked}
use Rattle.laws_runs.specs.Alike.Alike.{StepsAlike}
use Rattle.laws_runs.specs.Alike.Cut.{CutsAlike}

-- a failure for want of memory, or another
is_memory : (failure : Failure) → (failure ≡ evaluation memory) ⊎ (failure ≢ evaluation memory)
is_memory (by_code name n) = inr (λ e. cc e)
is_memory (by_signal name n) = inr (λ e. cc e)
is_memory (not_started name) = inr (λ e. cc e)
is_memory (not_confirmed name) = inr (λ e. cc e)
is_memory (evaluation memory) = inl refl
is_memory (evaluation (assertion_failed text)) = inr (λ e. cc e)
is_memory (evaluation (not_constant what)) = inr (λ e. cc e)
is_memory (evaluation (empty_interpreter setting)) = inr (λ e. cc e)
is_memory (evaluation (list_in_text_place place value)) = inr (λ e. cc e)
is_memory (evaluation (list_operation lhs operator rhs)) = inr (λ e. cc e)
is_memory (evaluation (pattern_left_out operator)) = inr (λ e. cc e)
is_memory (evaluation (command_failed fault command)) = inr (λ e. cc e)
is_memory (evaluation (function_failed name text)) = inr (λ e. cc e)
is_memory (evaluation (too_deep name)) = inr (λ e. cc e)
is_memory (evaluation (empty_argument recipe parameter)) = inr (λ e. cc e)
is_memory (evaluation (value_count recipe parameter n)) = inr (λ e. cc e)
is_memory (evaluation (no_parent text)) = inr (λ e. cc e)
is_memory (evaluation (internal text)) = inr (λ e. cc e)

-- a step that went through was not cut
went_through : {A P C : Type 0} {a : A} → P ⊎ ((Ok a ≡ Err (evaluation memory)) × C) → P
went_through s = elim s [ inl h ↦ h | inr k ↦ absurd (let e = k.0 in cc e) ]

-- what is said of every failure is said of how each run ends
pub all_told : (failure : Option Failure) → IfSome failure (λ f. Unit {0})
all_told None = tt
all_told (Some failure) = tt

-- A step that failed under the names there, or was cut, where one here failed or was cut.
failed_so : {A B : Type 0} (Fails : Result A Failure → Type 0) (Fails' : Result B Failure → Type 0) (Cut Cut' : Type 0) → (Cut → Cut') → (Fails (Err (evaluation memory)) → Cut') → (failure : Failure)
    → (failure ≢ evaluation memory → Fails (Err failure) → Fails' (Err failure)) → Fails (Err failure) ⊎ ((◌≡◌ {A = Result A Failure} (Err failure) (Err (evaluation memory))) × Cut)
    → Fails' (Err failure) ⊎ ((◌≡◌ {A = Result B Failure} (Err failure) (Err (evaluation memory))) × Cut')
failed_so {A} {B} Fails Fails' Cut Cut' cuts short failure otherwise s = elim s [ inl h ↦ by_failure (is_memory failure) h | inr k ↦ (let e = k.0 in let same : failure ≡ evaluation memory = cc e in inr (as_result same, cuts k.1)) ]
  where
    as_result : failure ≡ evaluation memory → (◌≡◌ {A = Result B Failure} (Err failure) (Err (evaluation memory)))
    as_result e = ap (λ (f : Failure). let r : Result B Failure = Err f in r) e

    by_failure : (failure ≡ evaluation memory) ⊎ (failure ≢ evaluation memory) → Fails (Err failure) → Fails' (Err failure) ⊎ ((◌≡◌ {A = Result B Failure} (Err failure) (Err (evaluation memory))) × Cut')
    by_failure (inl e) h = inr (as_result e, short (subst (λ (f : Failure). Fails (Err f)) e h))
    by_failure (inr n) h = inl (otherwise n h)

module _ {Call Bound Call' Bound' Entry : Type 0} (p : Parts Call Bound Entry Failure) (p' : Parts Call' Bound' Entry Failure) (cuts : Cuts Call Bound Entry) (cuts' : Cuts Call' Bound' Entry) (Of : Call → Type 0) (name : Call → Call')
    (Same : Call → Bool → Bound → Bound' → Type 0) where
  -- steps that may be cut go alike, however they fail
  pub cut_alike : StepsAlike p p' Of name Same (λ failure. failure ≢ evaluation memory) → CutsAlike p cuts cuts' Of name Same → StepsAlike (cut_parts p cuts) (cut_parts p' cuts') Of name Same (λ failure. Unit {0})
  cut_alike alike cut = record {
    decides = alike.decides;
    decides' = alike.decides';
    injective = alike.injective;
    shares = alike.shares;
    begun = λ call flag old new bound calls of b. let r = alike.begun call flag old new bound calls of (went_through b) in (r.0, inl r.1, r.2, r.3);
    not_begun = λ call flag old new failure of told b. failed_so (p.Begins call flag old new) (p'.Begins (name call) flag old new) (cuts.InBegin call flag old new) (cuts'.InBegin (name call) flag old new)
        (cut.in_begin call flag old new of) (cut.not_begun call flag old new of) failure (alike.not_begun call flag old new failure of) b;
    ended = λ call flag bound bound' old new calls of same e. let r = alike.ended call flag bound bound' old new calls of same (went_through e) in (inl r.0, r.1);
    not_ended = λ call flag bound bound' old new failure of same told e. failed_so (p.Ends call flag bound old new) (p'.Ends (name call) flag bound' old new) (cuts.InEnd call flag bound old new)
        (cuts'.InEnd (name call) flag bound' old new) (cut.in_end call flag bound bound' old new of same) (cut.not_ended call flag bound bound' old new of same) failure (alike.not_ended call flag bound bound' old new failure of same) e;
  }

-- what a step brings about that went through it brings about where it may be cut
pub cut_ranked : {Call Bound Entry : Type 0} (p : Parts Call Bound Entry Failure) (cuts : Cuts Call Bound Entry) (rank : Call → ℕ) → AreRanked p rank → AreRanked (cut_parts p cuts) rank
cut_ranked p cuts rank ranked = record {
  begins = λ call flag old new bound calls b. ranked.begins call flag old new bound calls (went_through b);
  ends = λ call flag bound old new calls e. ranked.ends call flag bound old new calls (went_through e);
}
