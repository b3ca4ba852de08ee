-- A run of calls whose acts are alike by two grounds is a run by both.
use Rattle.std.proofs.Common.{◌≡◌, List, [], ◌∷◌, ◌++◌, Bool, true, cond, Option, Ok, refl, sym, ap, ap₂, ◌∙◌, subst}
use Rattle.std.specs.Prelude.{Result}
use Rattle.std.specs.List.{AllByRecursion}
use Rattle.just_host.specs.declared.entry.Entry.{Entry}
use Rattle.meaning_dialogues.specs.Dialogue.{Reading}
use Rattle.meaning_evaluation.specs.Stages.Parameters.{Bound}
use Rattle.meaning_runs.specs.Acts.{begin, finish, host_parts}
use Rattle.meaning_runs.specs.Counts.{each_once, entries_here, OnceBelow, IsCounted, late}
use Rattle.meaning_runs.specs.Failures.{Failure}
use Rattle.meaning_runs.specs.Goes.{Goes, over, again, entered, not_begun, prior_failed, not_ended, subsequent_failed}
use Rattle.meaning_runs.specs.Parts.{Parts, Joins}
use Rattle.meaning_runs.specs.Tallies.{Tally}
use Rattle.meaning_runs.specs.Task.{TaskLeads, ends, lift}
use Rattle.meaning_runs.specs.Task as tasks
use Rattle.meaning_runs.proofs.Counted.{few}
use Rattle.meaning_runs.proofs.Restricted.{AreClosed}
use Rattle.meaning_evaluation.specs.Calling.{Ground, acts}
use Rattle.meaning_evaluation.specs.Named.{Call, same_call}
use Rattle.laws_naive.specs.Reach.Alike.{ActsAlike}

module _ (g g' : Ground) (reading : Call → Reading) (Of : Call → Type 0) (alike : ActsAlike g g' Of) (closed : AreClosed (host_parts (acts g) reading) Of) where
  abbrev p : Parts Call Bound Entry Failure
  p = host_parts (acts g) reading

  abbrev q : Parts Call Bound Entry Failure
  q = host_parts (acts g') reading

  begin_same : (call : Call) (flag : Bool) → Of call → begin (acts g) call flag ≡ begin (acts g') call flag
  begin_same call flag u =
      ap₂ (λ head priors. tasks.◌>>=◌ head (λ bound. tasks.◌>>=◌ (lift (priors bound)) (λ calls. ends (Ok (bound, calls))))) (alike.heads call flag u) (alike.priors call flag u)

  finish_same : (call : Call) (flag : Bool) (bound : Bound) → Of call → finish (acts g) call flag bound ≡ finish (acts g') call flag bound
  finish_same call flag bound u =
      ap₂ (λ body subsequents. tasks.◌>>=◌ (body bound) (λ w. lift (subsequents bound))) (alike.bodies call flag u) (alike.subsequents call flag u)

  begins_there : (call : Call) (flag : Bool) (old new : List Entry) (r : Result (Bound × List Call) Failure) → Of call → p.Begins call flag old new r → q.Begins call flag old new r
  begins_there call flag old new r u x = subst (λ t. TaskLeads (reading call) t old new r) (begin_same call flag u) x

  ends_there : (call : Call) (flag : Bool) (bound : Bound) (old new : List Entry) (r : Result (List Call) Failure) → Of call → p.Ends call flag bound old new r → q.Ends call flag bound old new r
  ends_there call flag bound old new r u x = subst (λ t. TaskLeads (reading call) t old new r) (finish_same call flag bound u) x

  -- the run by the other, from these that are done, which enters the same calls
  record There {flag : Bool} {done : List Call} {old : List Entry} {t : Tally} {calls done' : List Call} {new : List Entry} {t' : Tally} {failure : Option Failure} (run : Goes p flag done old t calls done' new t' failure) (from : List Call) : Type 0 where
    goes : Goes q flag from old t calls done' new t' failure
    entries : entries_here q goes ≡ entries_here p run
    below : OnceBelow p run → OnceBelow q goes

  late_same : (call : Call) → Of call → (xs ys : List Call) → xs ≡ ys → late (q.shares call) xs ≡ late (p.shares call) ys
  late_same call u xs ys e = ap₂ (λ shares calls. late shares calls) (sym (alike.shares call u)) e

  moved : {flag : Bool} {done : List Call} {old : List Entry} {t : Tally} {calls done' : List Call} {new : List Entry} {t' : Tally} {failure : Option Failure} (run : Goes p flag done old t calls done' new t' failure) → AllByRecursion Of calls → There run done
  moved over of = record { goes = over; entries = refl; below = λ k. tt }
  moved (again u r) of = let x = moved r of.1 in record { goes = again u x.goes; entries = x.entries; below = x.below }
  moved (entered {call = c} {done1 = done1} {done2 = done2} {done3 = done3} u b g1 e s j r) of =
      let x = moved g1 (closed.begins _ _ _ _ _ _ of.0 b) in
      let y = subst (λ shares. There s (cond shares done1 [])) (alike.shares c of.0) (moved s (closed.ends _ _ _ _ _ _ of.0 e)) in
      let z = moved r of.1 in
      record {
        goes = entered u (begins_there _ _ _ _ _ of.0 b) x.goes (ends_there _ _ _ _ _ _ of.0 e) y.goes (subst (λ shares. Joins same_call c (cond shares done2 done1) done3) (alike.shares c of.0) j) z.goes;
        entries = ap (λ l. c ∷ ((l ++ late (q.shares c) (entries_here q y.goes)) ++ entries_here q z.goes)) x.entries
            ∙ (ap (λ l. c ∷ ((entries_here p g1 ++ l) ++ entries_here q z.goes)) (late_same c of.0 _ _ y.entries) ∙ ap (λ l. c ∷ ((entries_here p g1 ++ late (p.shares c) (entries_here p s)) ++ l)) z.entries);
        below = λ k. (x.below k.0, (subst (λ l. each_once same_call l ≡ true) (sym y.entries) k.1.0, y.below k.1.1), z.below k.2);
      }
  moved (not_begun u b) of = record { goes = not_begun u (begins_there _ _ _ _ _ of.0 b); entries = refl; below = λ k. tt }
  moved (prior_failed {call = c} u b g1) of =
      let x = moved g1 (closed.begins _ _ _ _ _ _ of.0 b) in
      record { goes = prior_failed u (begins_there _ _ _ _ _ of.0 b) x.goes; entries = ap (λ l. c ∷ l) x.entries; below = x.below }
  moved (not_ended {call = c} u b g1 e) of =
      let x = moved g1 (closed.begins _ _ _ _ _ _ of.0 b) in
      record { goes = not_ended u (begins_there _ _ _ _ _ of.0 b) x.goes (ends_there _ _ _ _ _ _ of.0 e); entries = ap (λ l. c ∷ l) x.entries; below = x.below }
  moved (subsequent_failed {call = c} {done' = done'} u b g1 e s) of =
      let x = moved g1 (closed.begins _ _ _ _ _ _ of.0 b) in
      let y = subst (λ shares. There s (cond shares done' [])) (alike.shares c of.0) (moved s (closed.ends _ _ _ _ _ _ of.0 e)) in
      record {
        goes = subsequent_failed u (begins_there _ _ _ _ _ of.0 b) x.goes (ends_there _ _ _ _ _ _ of.0 e) y.goes;
        entries = ap (λ l. c ∷ (l ++ late (q.shares c) (entries_here q y.goes))) x.entries ∙ ap (λ l. c ∷ (entries_here p g1 ++ l)) (late_same c of.0 _ _ y.entries);
        below = λ k. (x.below k.0, (subst (λ l. each_once same_call l ≡ true) (sym y.entries) k.1.0, y.below k.1.1));
      }

  -- the run by the other, which is counted where this one is
  pub record RunThere {flag : Bool} {done : List Call} {old : List Entry} {t : Tally} {calls done' : List Call} {new : List Entry} {t' : Tally} {failure : Option Failure} (run : Goes p flag done old t calls done' new t' failure) : Type 0 where
    pub goes : Goes q flag done old t calls done' new t' failure
    pub counted : IsCounted p run → IsCounted q goes

  -- A run by the one is a run by the other.
  pub run_there : {flag : Bool} {done : List Call} {old : List Entry} {t : Tally} {calls done' : List Call} {new : List Entry} {t' : Tally} {failure : Option Failure} (run : Goes p flag done old t calls done' new t' failure) → AllByRecursion Of calls → RunThere run
  run_there run of =
      let x = moved run of in
      record { goes = x.goes; counted = λ k. record { few = few q x.goes; here = subst (λ l. each_once same_call l ≡ true) (sym x.entries) k.here; below = x.below k.below } }
