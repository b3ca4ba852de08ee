-- A run meets few calls, and enters none twice under one set.
use Rattle.std.proofs.Common.{◌≡◌, refl, ◌++◌, ◌∷◌, [], ◌<◌, ◌≤◌, ◌⊎◌, inl, inr, true, false, Bool, length, ℕ, ◌+◌, List, Option, Some, None, subst, sym, ◌∙◌, ap, append-nil, cond, arith}
use Rattle.std.specs.Prelude.{◌&&◌, not}
use Rattle.std.specs.Bool.{Decides}
use Rattle.std.specs.List.{AllByRecursion}
use Rattle.meaning_runs.specs.Parts.{Parts, is_met, Joins, AreRanked}
use Rattle.meaning_runs.specs.Goes.{Goes, over, again, entered, not_begun, prior_failed, not_ended, subsequent_failed}
use Rattle.meaning_runs.specs.Counts.{each_once, brought, entries_here, OnceBelow, IsCounted, late}
use Rattle.meaning_runs.specs.Tallies.{Tally}
use Rattle.meaning_runs.proofs.Pieces.{Met, met_sound, met_complete, met_before, met_itself}

module _ {Call Bound Entry Failure : Type 0} (p : Parts Call Bound Entry Failure) where
  -- at most one for each call given, and one for each that was brought about
  pub few : {flag : Bool} {done : List Call} {old : List Entry} {t : Tally} {calls done' : List Call} {new : List Entry} {t' : Tally} {failure : Option Failure} (run : Goes p flag done old t calls done' new t' failure)
      → t'.calls ≤ t.calls + (length calls + brought p run)
  few over = omega arith
  few (again u r) = omega (arith, few r)
  few (entered u b g e s j r) = omega (arith, few g, few s, few r)
  few (not_begun u b) = omega arith
  few (prior_failed u b g) = omega (arith, few g)
  few (not_ended u b g e) = omega (arith, few g)
  few (subsequent_failed u b g e s) = omega (arith, few g, few s)

-- ---- none twice

not_true : (b : Bool) → (b ≡ true → ⊥) → (not b) ≡ true
not_true true h = absurd (h refl)
not_true false h = refl

both_true : (a b : Bool) → a ≡ true → b ≡ true → (a && b) ≡ true
both_true true b e f = f
both_true false b e f = e

left_true : (a b : Bool) → (a && b) ≡ true → a ≡ true
left_true true b e = refl
left_true false b e = e

right_true : (a b : Bool) → (a && b) ≡ true → b ≡ true
right_true true b e = e
right_true false b e = absurd (let f : false ≡ true = e in cc)

untrue : (b : Bool) → not b ≡ true → b ≡ true → ⊥
untrue true e f = let g : false ≡ true = e in cc
untrue false e f = let g : false ≡ true = f in cc

met_split : {Call : Type 0} (c : Call) (xs ys : List Call) → Met c (xs ++ ys) → Met c xs ⊎ Met c ys
met_split c [] ys h = inr h
met_split c (x ∷ xs) ys (inl e) = inl (inl e)
met_split c (x ∷ xs) ys (inr h) = elim (met_split c xs ys h) [ inl m ↦ inl (inr m) | inr m ↦ inr m ]

module _ {Call Bound Entry Failure : Type 0} (p : Parts Call Bound Entry Failure) (decides : (a b : Call) → Decides (p.same a b) (a ≡ b)) where
  once_cons : (c : Call) (cs : List Call) → (Met c cs → ⊥) → each_once p.same cs ≡ true → each_once p.same (c ∷ cs) ≡ true
  once_cons c cs h e = both_true (not (is_met p.same c cs)) (each_once p.same cs) (not_true (is_met p.same c cs) (λ m. h (met_sound p.same decides c cs m))) e

  once_append : (xs ys : List Call) → each_once p.same xs ≡ true → each_once p.same ys ≡ true → ((c : Call) → Met c xs → Met c ys → ⊥) → each_once p.same (xs ++ ys) ≡ true
  once_append [] ys e f h = f
  once_append (x ∷ xs) ys e f h =
      let a = left_true (not (is_met p.same x xs)) (each_once p.same xs) e in
      once_cons x (xs ++ ys)
      (λ m. elim (met_split x xs ys m) [ inl n ↦ untrue (is_met p.same x xs) a (met_complete p.same decides x xs n) | inr n ↦ h x (inl refl) n ])
      (once_append xs ys (right_true (not (is_met p.same x xs)) (each_once p.same xs) e) f (λ c m n. h c (inr m) n))

  not_done : (c : Call) (done : List Call) → is_met p.same c done ≡ false → Met c done → ⊥
  not_done c done e m = let f : true ≡ false = sym (met_complete p.same decides c done m) ∙ e in cc

  module _ (rank : Call → ℕ) (ranked : AreRanked p rank) where
    -- what a run enters under its set: below b, not done before, done after, and each once
    record Entered (b : ℕ) (done done' here : List Call) (failure : Option Failure) : Type 0 where
      below : (c : Call) → Met c here → rank c < b
      fresh : (c : Call) → Met c here → Met c done → ⊥
      kept : failure ≡ None → (c : Call) → Met c done → Met c done'
      joins : failure ≡ None → (c : Call) → Met c here → Met c done'
      once : each_once p.same here ≡ true

    here_below : (d c : Call) (b : ℕ) → rank c < b → d ≡ c → rank d < b
    here_below d c b lt e = let z : rank d ≡ rank c = ap rank e in omega (arith, z, lt)

    -- of a call that fails after some of its priors
    cut_short : (c : Call) (b : ℕ) (done done' here : List Call) (f : Failure) (x : Option Failure) → rank c < b → is_met p.same c done ≡ false → Entered (rank c) done done' here x → Entered b done done' (c ∷ here) (Some f)
    cut_short c b done done' here f x lt m e = record {
      below = λ d n. elim n [ inl y ↦ here_below d c b lt y | inr y ↦ (let z = e.below d y in omega (arith, z, lt)) ];
      fresh = λ d n k. elim n [ inl y ↦ not_done c done m (subst (λ q. Met q done) y k) | inr y ↦ e.fresh d y k ];
      kept = λ n. absurd (let y : Some f ≡ None = n in cc);
      joins = λ n. absurd (let y : Some f ≡ None = n in cc);
      once = once_cons c here (λ n. let z : rank c < rank c = e.below c n in omega (arith, z)) e.once;
    }

    none_entered : (b : ℕ) (done : List Call) (x : Option Failure) → Entered b done done [] x
    none_entered b done x = record { below = λ c n. absurd n; fresh = λ c n. absurd n; kept = λ e c n. n; joins = λ e c n. absurd n; once = refl }

    -- one run of calls after another under one set
    chain : (n : ℕ) (done mid last xs ys : List Call) (x : Option Failure) → Entered n done mid xs None → Entered n mid last ys x → Entered n done last (xs ++ ys) x
    chain n done mid last xs ys x e f = record {
      below = λ d i. elim (met_split d xs ys i) [ inl y ↦ e.below d y | inr y ↦ f.below d y ];
      fresh = λ d i k. elim (met_split d xs ys i) [ inl y ↦ e.fresh d y k | inr y ↦ f.fresh d y (e.kept refl d k) ];
      kept = λ h d k. f.kept h d (e.kept refl d k);
      joins = λ h d i. elim (met_split d xs ys i) [ inl y ↦ f.kept h d (e.joins refl d y) | inr y ↦ f.joins h d y ];
      once = once_append xs ys e.once f.once (λ d y z. f.fresh d z (e.joins refl d y));
    }

    -- the priors, and after them the subsequents where these share the set
    both : (s : Bool) (n : ℕ) (done done1 done2 xs ys : List Call) → Entered n done done1 xs None → Entered n (cond s done1 []) done2 ys None → Entered n done (cond s done2 done1) (xs ++ late s ys) None
    both true n done done1 done2 xs ys e f = chain n done done1 done2 xs ys None e f
    both false n done done1 done2 xs ys e f = subst (λ l. Entered n done done1 l None) (sym (append-nil xs)) e

    ended_at : (n : ℕ) (done last done' xs : List Call) (f : Failure) (x : Option Failure) → Entered n done last xs x → Entered n done done' xs (Some f)
    ended_at n done last done' xs f x e = record {
      below = e.below;
      fresh = e.fresh;
      kept = λ h. absurd (let y : Some f ≡ None = h in cc);
      joins = λ h. absurd (let y : Some f ≡ None = h in cc);
      once = e.once;
    }

    both_failed : (s : Bool) (n : ℕ) (done done1 done2 xs ys : List Call) (f : Failure) → Entered n done done1 xs None → Entered n (cond s done1 []) done2 ys (Some f) → Entered n done done1 (xs ++ late s ys) (Some f)
    both_failed true n done done1 done2 xs ys f e g = ended_at n done done2 done1 (xs ++ ys) f (Some f) (chain n done done1 done2 xs ys (Some f) e g)
    both_failed false n done done1 done2 xs ys f e g = subst (λ l. Entered n done done1 l (Some f)) (sym (append-nil xs)) (ended_at n done done1 done1 xs f None e)

    -- a call that has joined, and the calls after it
    joined_behind : (c : Call) (b : ℕ) (done last done3 done' xs ys : List Call) (x : Option Failure) → rank c < b → is_met p.same c done ≡ false → Entered (rank c) done last xs None → Joins p.same c last done3 → Entered b done3 done' ys x
        → Entered b done done' (c ∷ (xs ++ ys)) x
    joined_behind c b done last done3 done' xs ys x lt u e j f = record {
      below = λ d n. elim n [
        | inl y ↦ here_below d c b lt y
        | inr y ↦ elim (met_split d xs ys y) [ inl z ↦ (let w = e.below d z in omega (arith, w, lt)) | inr z ↦ f.below d z ]
      ];
      fresh = λ d n k. elim n [
        | inl y ↦ not_done c done u (subst (λ v. Met v done) y k)
        | inr y ↦ elim (met_split d xs ys y) [ inl z ↦ e.fresh d z k | inr z ↦ f.fresh d z (met_before p.same decides c last done3 j d (e.kept refl d k)) ]
      ];
      kept = λ n d k. f.kept n d (met_before p.same decides c last done3 j d (e.kept refl d k));
      joins = λ n d k. elim k [
        | inl y ↦ f.kept n d (subst (λ v. Met v done3) (sym y) (met_itself p.same decides c last done3 j))
        | inr y ↦ elim (met_split d xs ys y) [ inl z ↦ f.kept n d (met_before p.same decides c last done3 j d (e.joins refl d z)) | inr z ↦ f.joins n d z ]
      ];
      once = once_cons c (xs ++ ys)
          (λ n. elim (met_split c xs ys n) [ inl z ↦ (let w : rank c < rank c = e.below c z in omega (arith, w)) | inr z ↦ f.fresh c z (met_itself p.same decides c last done3 j) ])
          (once_append xs ys e.once f.once (λ d y z. f.fresh d z (met_before p.same decides c last done3 j d (e.joins refl d y))));
    }

    enters : {flag : Bool} {done : List Call} {old : List Entry} {t : Tally} {calls done' : List Call} {new : List Entry} {t' : Tally} {failure : Option Failure} (run : Goes p flag done old t calls done' new t' failure)
        → (b : ℕ) → AllByRecursion (λ c. rank c < b) calls → Entered b done done' (entries_here p run) failure
    enters {done = done} over b lie = none_entered b done None
    enters (again u r) b lie = enters r b lie.1
    enters {done = done} {done' = done'} {failure = failure} (entered {call = c} {done1 = done1} {done2 = done2} {done3 = done3} u h g x s j r) b lie =
        let e = both (p.shares c) (rank c) done done1 done2 (entries_here p g) (entries_here p s) (enters g (rank c) (ranked.begins c _ _ _ _ _ h)) (enters s (rank c) (ranked.ends c _ _ _ _ _ x)) in
        joined_behind c b done (cond (p.shares c) done2 done1) done3 done' (entries_here p g ++ late (p.shares c) (entries_here p s)) (entries_here p r) failure lie.0 u e j (enters r b lie.1)
    enters {done = done} (not_begun {call = c} {failure = f} u h) b lie = cut_short c b done done [] f None lie.0 u (none_entered (rank c) done None)
    enters {done = done} {done' = done'} (prior_failed {call = c} {failure = f} u h g) b lie =
        cut_short c b done done' (entries_here p g) f (Some f) lie.0 u (enters g (rank c) (ranked.begins c _ _ _ _ _ h))
    enters {done = done} {done' = done'} (not_ended {call = c} {failure = f} u h g x) b lie =
        cut_short c b done done' (entries_here p g) f None lie.0 u (enters g (rank c) (ranked.begins c _ _ _ _ _ h))
    enters {done = done} {done' = done'} (subsequent_failed {call = c} {failure = f} {done2 = done2} u h g x s) b lie =
        cut_short c b done done' (entries_here p g ++ late (p.shares c) (entries_here p s)) f (Some f) lie.0 u
        (both_failed (p.shares c) (rank c) done done' done2 (entries_here p g) (entries_here p s) f (enters g (rank c) (ranked.begins c _ _ _ _ _ h)) (enters s (rank c) (ranked.ends c _ _ _ _ _ x)))

    once_below : {flag : Bool} {done : List Call} {old : List Entry} {t : Tally} {calls done' : List Call} {new : List Entry} {t' : Tally} {failure : Option Failure} (run : Goes p flag done old t calls done' new t' failure) → OnceBelow p run
    once_below over = tt
    once_below (again u r) = once_below r
    once_below (entered {call = c} u h g x s j r) = (once_below g, ((enters s (rank c) (ranked.ends c _ _ _ _ _ x)).once, once_below s), once_below r)
    once_below (not_begun u h) = tt
    once_below (prior_failed u h g) = once_below g
    once_below (not_ended u h g x) = once_below g
    once_below (subsequent_failed {call = c} u h g x s) = (once_below g, ((enters s (rank c) (ranked.ends c _ _ _ _ _ x)).once, once_below s))

    -- every run is counted
    pub counted : {flag : Bool} {done : List Call} {old : List Entry} {t : Tally} {calls done' : List Call} {new : List Entry} {t' : Tally} {failure : Option Failure} (n : ℕ) → AllByRecursion (λ c. rank c < n) calls
        → (run : Goes p flag done old t calls done' new t' failure) → IsCounted p run
    counted n lie run = record { few = few p run; here = (enters run n lie).once; below = once_below run }
