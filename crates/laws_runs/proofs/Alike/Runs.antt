-- A run of calls of a kind is one under their names, where their steps go alike.
use Rattle.std.specs.Prelude.{IfSome}
use Rattle.std.proofs.Common.{◌≡◌, refl, ap, subst, ◌∙◌, List, [], ◌∷◌, map, Bool, true, false, cond, Option}
use Rattle.std.specs.List.{AllByRecursion}
use Rattle.meaning_runs.specs.Parts.{Parts, is_met, Joins}
use Rattle.meaning_runs.specs.Goes.{Goes, over, again, entered, not_begun, prior_failed, not_ended, subsequent_failed}
use Rattle.meaning_runs.specs.Counts.{each_once, entries_here, OnceBelow, IsCounted}
use Rattle.meaning_runs.specs.Tallies.{Tally}
use Rattle.meaning_runs.proofs.Counted.{few}
use Rattle.laws_runs.specs.Alike.Alike.{StepsAlike, RunsAlike}
use Rattle.laws_runs.proofs.Alike.Named.{all_cond, all_append, all_late, map_cond, map_both, late_there, name_met, name_once, joins_there, joins_of}

module _ {Call Bound Call' Bound' Entry Failure : Type 0} (p : Parts Call Bound Entry Failure) (p' : Parts Call' Bound' Entry Failure) (Of : Call → Type 0) (name : Call → Call')
    (Same : Call → Bool → Bound → Bound' → Type 0) (Told : Failure → Type 0) (alike : StepsAlike p p' Of name Same Told) where
  -- a call of the kind is met there just where it is met
  met : (c : Call) (done : List Call) (b : Bool) → Of c → AllByRecursion Of done → is_met p.same c done ≡ b → is_met p'.same (name c) (map name done) ≡ b
  met c done b of all u = name_met name p.same p'.same alike.decides alike.decides' Of alike.injective c done of all ∙ u

  -- the same run from equal calls that are done
  from : {flag : Bool} {old : List Entry} {t : Tally} {calls done' : List Call'} {new : List Entry} {t' : Tally} {failure : Option Failure} (done other : List Call') → done ≡ other → (run : Goes p' flag done old t calls done' new t' failure)
      → (goes : Goes p' flag other old t calls done' new t' failure) × (entries_here p' goes ≡ entries_here p' run) × (OnceBelow p' run → OnceBelow p' goes)
  from {flag} {old} {t} {calls} {done'} {new} {t'} {failure} done other e run =
      subst (λ d. (goes : Goes p' flag d old t calls done' new t' failure) × (entries_here p' goes ≡ entries_here p' run) × (OnceBelow p' run → OnceBelow p' goes)) e (run, refl, λ h. h)

  -- a call of the kind joins there
  joins : (c : Call) (done1 done2 done3 : List Call) → Of c → Joins p.same c (cond (p.shares c) done2 done1) done3 → Joins p'.same (name c) (cond (p'.shares (name c)) (map name done2) (map name done1)) (map name done3)
  joins c done1 done2 done3 of j = subst (λ d. Joins p'.same (name c) d (map name done3)) (map_cond name (p.shares c) (p'.shares (name c)) (alike.shares c of) done2 done1)
      (joins_there name p.same p'.same alike.decides alike.decides' c (cond (p.shares c) done2 done1) done3 j)

  -- The run there, which enters the same calls under their names. The calls that are done then are of the kind, and those that are entered.
  record There {flag : Bool} {done : List Call} {old : List Entry} {t : Tally} {calls done' : List Call} {new : List Entry} {t' : Tally} {failure : Option Failure} (run : Goes p flag done old t calls done' new t' failure) : Type 0 where
    goes : Goes p' flag (map name done) old t (map name calls) (map name done') new t' failure
    done_of : AllByRecursion Of done'
    entries_of : AllByRecursion Of (entries_here p run)
    entries : entries_here p' goes ≡ map name (entries_here p run)
    below : OnceBelow p run → OnceBelow p' goes

  -- each once there, where each is once
  once : (calls : List Call) (calls' : List Call') → AllByRecursion Of calls → calls' ≡ map name calls → each_once p.same calls ≡ true → each_once p'.same calls' ≡ true
  once calls calls' of e o = ap (each_once p'.same) e ∙ (name_once name p.same p'.same alike.decides alike.decides' Of alike.injective calls of ∙ o)

  -- every run of calls of the kind is one there
  there : {flag : Bool} {done : List Call} {old : List Entry} {t : Tally} {calls done' : List Call} {new : List Entry} {t' : Tally} {failure : Option Failure} (run : Goes p flag done old t calls done' new t' failure)
      → IfSome failure Told → AllByRecursion Of done → AllByRecursion Of calls → There run
  there over told all of = record { goes = over; done_of = all; entries_of = tt; entries = refl; below = λ h. tt }
  there {done = done} (again {call = c} u r) told all of =
      let x = there r told all of.1 in record { goes = again (met c done true of.0 all u) x.goes; done_of = x.done_of; entries_of = x.entries_of; entries = x.entries; below = x.below }
  there {flag = flag} {done = done} {old = old} (entered {call = c} {bound = bound} {priors = ps} {subsequents = ss} {done1 = done1} {done2 = done2} {done3 = done3} {log1 = log1} {log2 = log2} {log3 = log3} u b g e s j r) told all of =
      let begun = alike.begun c flag old log1 bound ps of.0 b in
      let x = there g tt all begun.3 in
      let ended = alike.ended c flag bound begun.0 log2 log3 ss of.0 begun.2 e in
      let y = there s tt (all_cond Of (p.shares c) done1 [] x.done_of tt) ended.1 in
      let z = there r told (joins_of p.same alike.decides Of c (cond (p.shares c) done2 done1) done3 j of.0 (all_cond Of (p.shares c) done2 done1 y.done_of x.done_of)) of.1 in
      let w = from _ _ (map_cond name (p.shares c) (p'.shares (name c)) (alike.shares c of.0) done1 []) y.goes in
      let late_is = late_there name (p.shares c) (p'.shares (name c)) (alike.shares c of.0) (entries_here p s) (entries_here p' w.0) (w.1 ∙ y.entries) in
      record {
        goes = entered (met c done false of.0 all u) begun.1 x.goes ended.0 w.0 (joins c done1 done2 done3 of.0 j) z.goes;
        done_of = z.done_of;
        entries_of = (of.0, all_append Of _ _ (all_append Of _ _ x.entries_of (all_late Of (p.shares c) (entries_here p s) y.entries_of)) z.entries_of);
        entries = ap (λ l. name c ∷ l) (map_both name _ _ _ _ (map_both name _ _ _ _ x.entries late_is) z.entries);
        below = λ h. (x.below h.0, (once (entries_here p s) (entries_here p' w.0) y.entries_of (w.1 ∙ y.entries) h.1.0, w.2 (y.below h.1.1)), z.below h.2);
      }
  there {flag = flag} {done = done} {old = old} {new = new} (not_begun {call = c} {failure = f} u b) told all of =
      record { goes = not_begun (met c done false of.0 all u) (alike.not_begun c flag old new f of.0 told b); done_of = all; entries_of = (of.0, tt); entries = refl; below = λ h. tt }
  there {flag = flag} {done = done} {old = old} (prior_failed {call = c} {bound = bound} {priors = ps} {log1 = log1} u b g) told all of =
      let begun = alike.begun c flag old log1 bound ps of.0 b in
      let x = there g told all begun.3 in
      record { goes = prior_failed (met c done false of.0 all u) begun.1 x.goes; done_of = x.done_of; entries_of = (of.0, x.entries_of); entries = ap (λ l. name c ∷ l) x.entries; below = x.below }
  there {flag = flag} {done = done} {old = old} {new = new} (not_ended {call = c} {failure = f} {bound = bound} {priors = ps} {log1 = log1} {log2 = log2} u b g e) told all of =
      let begun = alike.begun c flag old log1 bound ps of.0 b in
      let x = there g tt all begun.3 in
      record {
        goes = not_ended (met c done false of.0 all u) begun.1 x.goes (alike.not_ended c flag bound begun.0 log2 new f of.0 begun.2 told e);
        done_of = x.done_of;
        entries_of = (of.0, x.entries_of);
        entries = ap (λ l. name c ∷ l) x.entries;
        below = x.below;
      }
  there {flag = flag} {done = done} {old = old} {done' = done'} (subsequent_failed {call = c} {bound = bound} {priors = ps} {subsequents = ss} {log1 = log1} {log2 = log2} {log3 = log3} u b g e s) told all of =
      let begun = alike.begun c flag old log1 bound ps of.0 b in
      let x = there g tt all begun.3 in
      let ended = alike.ended c flag bound begun.0 log2 log3 ss of.0 begun.2 e in
      let y = there s told (all_cond Of (p.shares c) done' [] x.done_of tt) ended.1 in
      let w = from _ _ (map_cond name (p.shares c) (p'.shares (name c)) (alike.shares c of.0) done' []) y.goes in
      let late_is = late_there name (p.shares c) (p'.shares (name c)) (alike.shares c of.0) (entries_here p s) (entries_here p' w.0) (w.1 ∙ y.entries) in
      record {
        goes = subsequent_failed (met c done false of.0 all u) begun.1 x.goes ended.0 w.0;
        done_of = x.done_of;
        entries_of = (of.0, all_append Of _ _ x.entries_of (all_late Of (p.shares c) (entries_here p s) y.entries_of));
        entries = ap (λ l. name c ∷ l) (map_both name _ _ _ _ x.entries late_is);
        below = λ h. (x.below h.0, (once (entries_here p s) (entries_here p' w.0) y.entries_of (w.1 ∙ y.entries) h.1.0, w.2 (y.below h.1.1)));
      }

  -- A run that is counted is one there that is counted.
  pub counted_there : {flag : Bool} {done : List Call} {old : List Entry} {t : Tally} {calls done' : List Call} {new : List Entry} {t' : Tally} {failure : Option Failure} (run : Goes p flag done old t calls done' new t' failure)
      → IfSome failure Told → AllByRecursion Of done → AllByRecursion Of calls → IsCounted p run → (goes : Goes p' flag (map name done) old t (map name calls) (map name done') new t' failure) × IsCounted p' goes
  counted_there run told all of counted =
      let x = there run told all of in (x.goes, record { few = few p' x.goes; here = once (entries_here p run) (entries_here p' x.goes) x.entries_of x.entries counted.here; below = x.below counted.below })

-- Where the steps of calls of a kind go alike under other names, a run is one there.
pub runs_alike : {Call Bound Call' Bound' Entry Failure : Type 0} → RunsAlike Call Bound Call' Bound' Entry Failure
runs_alike p p' Of name Same Told alike = record { goes = λ flag done old t calls done' new t' failure told all of run. (there p p' Of name Same Told alike run told all of).goes }
