-- Runs are counted, where each call brings about calls of lower rank alone.
use Rattle.std.proofs.Common.{◌≡◌, refl, ap, subst, ◌∙◌, ◌<◌, ◌+◌, ℕ, suc, List, [], ◌∷◌, ◌++◌, Bool, true, Option, arith}
use Rattle.std.specs.List.{AllByRecursion}
use Rattle.meaning_runs.specs.Parts.{Parts, AreRanked}
use Rattle.meaning_runs.specs.Goes.{Goes, over, again, entered, not_begun, prior_failed, not_ended, subsequent_failed}
use Rattle.meaning_runs.specs.Counts.{each_once, entries_here, OnceBelow, IsCounted, late}
use Rattle.meaning_runs.specs.Tallies.{Tally}
use Rattle.meaning_runs.proofs.Counted.{few, counted as counted_below}
use Rattle.meaning_runs.proofs.Restricted.{only_of, AreClosed}
use Rattle.laws_runs.specs.Alike.Alike.{Decides}

module _ {Call : Type 0} (rank : Call → ℕ) where
  -- ranks below a number are below a greater one
  higher : (calls : List Call) (k n : ℕ) → AllByRecursion (λ c. rank c < k) calls → AllByRecursion (λ c. rank c < n + k) calls
  higher [] k n h = tt
  higher (c ∷ cs) k n h = let lt = h.0 in (omega (arith, lt), higher cs k n h.1)

  -- a number above the rank of each of these calls
  above : (calls : List Call) → (k : ℕ) × AllByRecursion (λ c. rank c < k) calls
  above [] = (0, tt)
  above (c ∷ cs) = let r = above cs in (suc (rank c) + r.0, (omega arith, higher cs r.0 (suc (rank c)) r.1))

-- Every run is counted, whatever is done at first.
pub counted : {Call Bound Entry Failure : Type 0} (p : Parts Call Bound Entry Failure) → Decides p.same → (rank : Call → ℕ) → AreRanked p rank
    → {flag : Bool} {done : List Call} {old : List Entry} {t : Tally} {calls done' : List Call} {new : List Entry} {t' : Tally} {failure : Option Failure} (run : Goes p flag done old t calls done' new t' failure) → IsCounted p run
counted p decides rank ranked {calls = calls} run = let n = above rank calls in counted_below p decides rank ranked n.0 n.1 run

module _ {Call Bound Entry Failure : Type 0} (p : Parts Call Bound Entry Failure) (Of : Call → Type 0) (closed : AreClosed p Of) where
  -- the run by the steps of calls of the kind alone, which enters the same calls
  record Alone {flag : Bool} {done : List Call} {old : List Entry} {t : Tally} {calls done' : List Call} {new : List Entry} {t' : Tally} {failure : Option Failure} (run : Goes p flag done old t calls done' new t' failure) : Type 0 where
    goes : Goes (only_of p Of) flag done old t calls done' new t' failure
    entries : entries_here (only_of p Of) goes ≡ entries_here p run
    below : OnceBelow (only_of p Of) goes → OnceBelow p run

  -- every run of calls of the kind is one by their steps alone
  alone : {flag : Bool} {done : List Call} {old : List Entry} {t : Tally} {calls done' : List Call} {new : List Entry} {t' : Tally} {failure : Option Failure} (run : Goes p flag done old t calls done' new t' failure)
      → AllByRecursion Of calls → Alone run
  alone over of = record { goes = over; entries = refl; below = λ h. tt }
  alone (again u r) of = let x = alone r of.1 in record { goes = again u x.goes; entries = x.entries; below = x.below }
  alone (entered {call = c} u b g e s j r) of =
      let x = alone g (closed.begins _ _ _ _ _ _ of.0 b) in
      let y = alone s (closed.ends _ _ _ _ _ _ of.0 e) in
      let z = alone r of.1 in
      record {
        goes = entered u (of.0, b) x.goes (of.0, e) y.goes j z.goes;
        entries = ap (λ l. c ∷ ((l ++ late (p.shares c) (entries_here (only_of p Of) y.goes)) ++ entries_here (only_of p Of) z.goes)) x.entries
            ∙ (ap (λ l. c ∷ ((entries_here p g ++ late (p.shares c) l) ++ entries_here (only_of p Of) z.goes)) y.entries ∙ ap (λ l. c ∷ ((entries_here p g ++ late (p.shares c) (entries_here p s)) ++ l)) z.entries);
        below = λ h. (x.below h.0, (subst (λ l. each_once p.same l ≡ true) y.entries h.1.0, y.below h.1.1), z.below h.2);
      }
  alone (not_begun u b) of = record { goes = not_begun u (of.0, b); entries = refl; below = λ h. tt }
  alone (prior_failed {call = c} u b g) of =
      let x = alone g (closed.begins _ _ _ _ _ _ of.0 b) in
      record { goes = prior_failed u (of.0, b) x.goes; entries = ap (λ l. c ∷ l) x.entries; below = x.below }
  alone (not_ended {call = c} u b g e) of =
      let x = alone g (closed.begins _ _ _ _ _ _ of.0 b) in
      record { goes = not_ended u (of.0, b) x.goes (of.0, e); entries = ap (λ l. c ∷ l) x.entries; below = x.below }
  alone (subsequent_failed {call = c} u b g e s) of =
      let x = alone g (closed.begins _ _ _ _ _ _ of.0 b) in
      let y = alone s (closed.ends _ _ _ _ _ _ of.0 e) in
      record {
        goes = subsequent_failed u (of.0, b) x.goes (of.0, e) y.goes;
        entries = ap (λ l. c ∷ (l ++ late (p.shares c) (entries_here (only_of p Of) y.goes))) x.entries ∙ ap (λ l. c ∷ (entries_here p g ++ late (p.shares c) l)) y.entries;
        below = λ h. (x.below h.0, (subst (λ l. each_once p.same l ≡ true) y.entries h.1.0, y.below h.1.1));
      }

  -- Every run of calls of a kind is counted, where the steps of calls of the kind alone have ranks.
  pub counted_of : Decides p.same → (rank : Call → ℕ) → AreRanked (only_of p Of) rank
      → {flag : Bool} {done : List Call} {old : List Entry} {t : Tally} {calls done' : List Call} {new : List Entry} {t' : Tally} {failure : Option Failure} → AllByRecursion Of calls
      → (run : Goes p flag done old t calls done' new t' failure) → IsCounted p run
  counted_of decides rank ranked of run =
      let a = alone run of in
      let x = counted (only_of p Of) decides rank ranked a.goes in
      record { few = few p run; here = subst (λ l. each_once p.same l ≡ true) a.entries x.here; below = a.below x.below }
