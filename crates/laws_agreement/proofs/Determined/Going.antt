-- A run of calls goes once: two runs whose pieces agree with the answers are alike.
use Rattle.std.proofs.Common.{◌≡◌, List, [], ◌∷◌, ◌++◌, Bool, true, false, ◌||◌, cond, Option, Some, None, Result, Ok, Err, refl, sym, ap, ap₂, ◌∙◌, subst}
use Rattle.just_host.specs.declared.entry.Entry.{Entry}
use Rattle.meaning_dialogues.specs.Dialogue.{Reading}
use Rattle.meaning_runs.specs.Failures.{Failure}
use Rattle.meaning_runs.specs.Told.{Answers, holds, Agrees}
use Rattle.meaning_runs.specs.Parts.{is_met, Joins}
use Rattle.meaning_runs.specs.Acts.{Acts, begin, finish}
use Rattle.meaning_runs.specs.Meant.{is_event}
use Rattle.meaning_runs.specs.Tallies.{Tally, met_one, entered_one}
use Rattle.meaning_runs.proofs.Pieces.{agrees_left, agrees_right}
use Rattle.laws_agreement.proofs.Determined.Tasks.{task_once}
use Rattle.laws_agreement.proofs.Determined.Passing.{Passes, no_more, is_done, enters, Begun, stops_there, goes_there, Preceded, stops_before, goes_before, Ended, stops_at, goes_at, Followed, stops_after, goes_after}

module _ {Call Bound : Type 0} (a : Acts Call Bound) (reading : Call → Reading) (f : Answers) where
  -- the same calls are done
  abbrev pub Alike : List Call → List Call → Type 0
  Alike done done' = (c : Call) → is_met a.same c done ≡ is_met a.same c done'

  -- equal pieces, with the same calls done, as many calls, and the same end
  pub record Same (p q : List Entry) (done done' : List Call) (t t' : Tally) (e e' : Option Failure) : Type 0 where
    pub pieces : p ≡ q
    pub met : Alike done done'
    pub tallies : t ≡ t'
    pub ends : e ≡ e'

  front : (p x y : List Entry) → p ≡ x ++ y → Agrees f p → Agrees f x
  front p x y e h = agrees_left is_event (holds f f.recipe) x y (subst (Agrees f) e h)

  rear : (p x y : List Entry) → p ≡ x ++ y → Agrees f p → Agrees f y
  rear p x y e h = agrees_right is_event (holds f f.recipe) x y (subst (Agrees f) e h)

  behind_same : {p q x y u v : List Entry} {done done' : List Call} {t t' : Tally} {e e' : Option Failure} → p ≡ x ++ y → q ≡ u ++ v → x ≡ u → Same y v done done' t t' e e' → Same p q done done' t t' e e'
  behind_same g h i s = record { pieces = g ∙ (ap₂ (λ l m. l ++ m) i s.pieces ∙ sym h); met = s.met; tallies = s.tallies; ends = s.ends }

  shared_alike : (b : Bool) (x y x' y' : List Call) → Alike x x' → Alike y y' → Alike (cond b x y) (cond b x' y')
  shared_alike true x y x' y' h g = h
  shared_alike false x y x' y' h g = g

  joined_alike : (call : Call) (x y x' y' : List Call) → Alike x y → Joins a.same call x x' → Joins a.same call y y' → Alike x' y'
  joined_alike call x y x' y' h g i c = g c ∙ (ap (λ b. a.same call c || b) (h c) ∙ sym (i c))

  mutual
    pub passes_once : (flag : Bool) (done done1 : List Call) (t : Tally) (calls : List Call) (p q : List Entry) (done' done1' : List Call) (t' t1' : Tally) (e e' : Option Failure)
        → Passes a reading flag done t calls p done' t' e → Passes a reading flag done1 t calls q done1' t1' e' → Alike done done1 → Agrees f p → Agrees f q → Same p q done' done1' t' t1' e e'
    passes_once flag done done1 t [] p q done' done1' t' t1' e e' no_more no_more h x y = record { pieces = refl; met = h; tallies = refl; ends = refl }
    passes_once flag done done1 t (call ∷ calls) p q done' done1' t' t1' e e' (is_done met r) (is_done met1 r1) h x y = passes_once flag done done1 (met_one t) calls p q done' done1' t' t1' e e' r r1 h x y
    passes_once flag done done1 t (call ∷ calls) p q done' done1' t' t1' e e' (is_done met r) (enters u1 s1 unmet go r1 k1) h x y = absurd (let g = sym met ∙ (h call ∙ unmet) in cc)
    passes_once flag done done1 t (call ∷ calls) p q done' done1' t' t1' e e' (enters u s unmet go r k) (is_done met r1) h x y = absurd (let g = sym met ∙ (sym (h call) ∙ unmet) in cc)
    passes_once flag done done1 t (call ∷ calls) p q done' done1' t' t1' e e' (enters {rest = v} u s unmet go r k) (enters {rest = v1} u1 s1 unmet1 go1 r1 k1) h x y =
        let one = task_once (reading call) f (begin a call flag) u u1 s s1 (front p u v k x) (front q u1 v1 k1 y) go go1 in
        behind_same k k1 one.0
        (begun_once s flag done done1 (entered_one (met_one t)) call calls v v1 done' done1' t' t1' e e' r
        (subst (λ z. Begun a reading z flag done1 (entered_one (met_one t)) call calls v1 done1' t1' e') (sym one.1) r1) h (rear p u v k x) (rear q u1 v1 k1 y))

    begun_once : (r : Result (Bound × List Call) Failure) (flag : Bool) (done done1 : List Call) (t : Tally) (call : Call) (calls : List Call) (p q : List Entry) (done' done1' : List Call) (t' t1' : Tally) (e e' : Option Failure)
        → Begun a reading r flag done t call calls p done' t' e → Begun a reading r flag done1 t call calls q done1' t1' e' → Alike done done1 → Agrees f p → Agrees f q → Same p q done' done1' t' t1' e e'
    begun_once (Err failure) flag done done1 t call calls p q done' done1' t' t1' e e' stops_there stops_there h x y = record { pieces = refl; met = h; tallies = refl; ends = refl }
    begun_once (Ok (bound, priors)) flag done done1 t call calls p q done' done1' t' t1' e e' (goes_there {first = u} {rest = v} {middle = m} {t1 = s} {end = i} g r k) (goes_there {first = u1} {rest = v1} {middle = m1} {t1 = s1} {end = i1} g1 r1 k1) h x y =
        let one = passes_once true done done1 t priors u u1 m m1 s s1 i i1 g g1 h (front p u v k x) (front q u1 v1 k1 y) in
        behind_same k k1 one.pieces
        (preceded_once i bound flag m m1 s call calls v v1 done' done1' t' t1' e e' r
        (subst (λ z. Preceded a reading z bound flag m1 s call calls v1 done1' t1' e') (sym one.ends) (subst (λ z. Preceded a reading i1 bound flag m1 z call calls v1 done1' t1' e') (sym one.tallies) r1)) one.met (rear p u v k x) (rear q u1 v1 k1 y))

    preceded_once : (r : Option Failure) (bound : Bound) (flag : Bool) (done done1 : List Call) (t : Tally) (call : Call) (calls : List Call) (p q : List Entry) (done' done1' : List Call) (t' t1' : Tally) (e e' : Option Failure)
        → Preceded a reading r bound flag done t call calls p done' t' e → Preceded a reading r bound flag done1 t call calls q done1' t1' e' → Alike done done1 → Agrees f p → Agrees f q → Same p q done' done1' t' t1' e e'
    preceded_once (Some failure) bound flag done done1 t call calls p q done' done1' t' t1' e e' stops_before stops_before h x y = record { pieces = refl; met = h; tallies = refl; ends = refl }
    preceded_once None bound flag done done1 t call calls p q done' done1' t' t1' e e' (goes_before {rest = v} u s go r k) (goes_before {rest = v1} u1 s1 go1 r1 k1) h x y =
        let one = task_once (reading call) f (finish a call flag bound) u u1 s s1 (front p u v k x) (front q u1 v1 k1 y) go go1 in
        behind_same k k1 one.0
        (ended_once s flag done done1 t call calls v v1 done' done1' t' t1' e e' r (subst (λ z. Ended a reading z flag done1 t call calls v1 done1' t1' e') (sym one.1) r1) h (rear p u v k x) (rear q u1 v1 k1 y))

    ended_once : (r : Result (List Call) Failure) (flag : Bool) (done done1 : List Call) (t : Tally) (call : Call) (calls : List Call) (p q : List Entry) (done' done1' : List Call) (t' t1' : Tally) (e e' : Option Failure)
        → Ended a reading r flag done t call calls p done' t' e → Ended a reading r flag done1 t call calls q done1' t1' e' → Alike done done1 → Agrees f p → Agrees f q → Same p q done' done1' t' t1' e e'
    ended_once (Err failure) flag done done1 t call calls p q done' done1' t' t1' e e' stops_at stops_at h x y = record { pieces = refl; met = h; tallies = refl; ends = refl }
    ended_once (Ok subsequents) flag done done1 t call calls p q done' done1' t' t1' e e' (goes_at {first = u} {rest = v} {later = m} {t1 = s} {end = i} g r k) (goes_at {first = u1} {rest = v1} {later = m1} {t1 = s1} {end = i1} g1 r1 k1) h x y =
        let one = passes_once true (cond (a.shares call) done []) (cond (a.shares call) done1 []) t subsequents u u1 m m1 s s1 i i1 g g1 (shared_alike (a.shares call) done [] done1 [] h (λ c. refl)) (front p u v k x) (front q u1 v1 k1 y) in
        behind_same k k1 one.pieces
        (followed_once i flag done done1 m m1 s call calls v v1 done' done1' t' t1' e e' r
        (subst (λ z. Followed a reading z flag done1 m1 s call calls v1 done1' t1' e') (sym one.ends) (subst (λ z. Followed a reading i1 flag done1 m1 z call calls v1 done1' t1' e') (sym one.tallies) r1)) h one.met (rear p u v k x) (rear q u1 v1 k1 y))

    followed_once : (r : Option Failure) (flag : Bool) (done done1 later later1 : List Call) (t : Tally) (call : Call) (calls : List Call) (p q : List Entry) (done' done1' : List Call) (t' t1' : Tally) (e e' : Option Failure)
        → Followed a reading r flag done later t call calls p done' t' e → Followed a reading r flag done1 later1 t call calls q done1' t1' e' → Alike done done1 → Alike later later1 → Agrees f p → Agrees f q → Same p q done' done1' t' t1' e e'
    followed_once (Some failure) flag done done1 later later1 t call calls p q done' done1' t' t1' e e' stops_after stops_after h g x y = record { pieces = refl; met = h; tallies = refl; ends = refl }
    followed_once None flag done done1 later later1 t call calls p q done' done1' t' t1' e e' (goes_after {joined = j} joins r) (goes_after {joined = j1} joins1 r1) h g x y =
        passes_once flag j j1 t calls p q done' done1' t' t1' e e' r r1
        (joined_alike call (cond (a.shares call) later done) (cond (a.shares call) later1 done1) j j1 (shared_alike (a.shares call) later done later1 done1 g h) joins joins1) x y
