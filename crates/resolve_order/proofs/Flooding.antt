-- A flood, turn by turn.
use Rattle.std.proofs.Common.{◌≡◌, ◌⊎◌, inl, inr, sym, ◌∙◌, ap, subst, Bool, true, false, if◌then◌else◌, List, [], ◌∷◌, ◌++◌, ℕ, zero, suc, ◌+◌, ◌<◌, ◌≤◌, Option, Some, None, refl, arith, length, get_or}
use Rattle.std.specs.Prelude.{slice_get, slice_set, Contains, Result, Ok, Err, OnOk}
use Rattle.std.proofs.lemmas.Bool.Decides.{eqb_tells}
use Rattle.std.proofs.lemmas.List.{length-set, length-append}
use Rattle.std.proofs.lemmas.List.Elements.{Contains-append_left, Contains-append_right, Contains-append_cases, Contains-push_cases, Contains-push}
use Rattle.std.proofs.lemmas.Option.{none-some, same_Some, slice_get_within, slice_get-get_or}
use Rattle.resolve_order.specs.Flooded.{Takes, Reaches, root, further, IsMarked, IsUnmarked, AreUnmarked, Turn, passed, taken, IsFlooded, AreReached, followed, leads_of, is_stop, work}
use Rattle.resolve_order.proofs.Places.{contains_none}
use Rattle.resolve_order.proofs.Contraction.{get_set_same, get_set_other}

marked_there : (marks : List (Option ℕ)) (place : ℕ) (o : Option ℕ) → slice_get marks place ≡ Some o → (IsUnmarked marks place → ⊥) → IsMarked marks place
marked_there marks place None e h = absurd (h e)
marked_there marks place (Some m) e h = (m, e)

is_marked : (marks : List (Option ℕ)) (place : ℕ) → place < length marks → (IsUnmarked marks place → ⊥) → IsMarked marks place
is_marked marks place lt h = marked_there marks place (get_or marks place None) (slice_get-get_or marks place None lt) h

from_set : (marks : List (Option ℕ)) (i j : ℕ) (a x : Option ℕ) → (j ≡ i → ⊥) → slice_get (slice_set marks i a) j ≡ Some x → slice_get marks j ≡ Some x
from_set [] i j a x ne e = e
from_set (m ∷ ms) zero zero a x ne e = absurd (ne refl)
from_set (m ∷ ms) zero (suc j) a x ne e = e
from_set (m ∷ ms) (suc i) zero a x ne e = e
from_set (m ∷ ms) (suc i) (suc j) a x ne e = from_set ms i j a x (λ s. ne (ap suc s)) e

module _ (graph : List (List ℕ)) (stops : List Bool) (roots : List ℕ) (old : List (Option ℕ)) where
  pub flooded_none : IsFlooded graph stops roots old old roots
  flooded_none = record {
    many = refl;
    kept = λ place m. m;
    sound = λ place m. inl m;
    waiting = λ place c. root c;
    begun = λ place c lt. inr c;
    closed = λ place other m n c lt. absurd (n m);
  }

  pass : (marks : List (Option ℕ)) (stack : List ℕ) (place : ℕ) → IsFlooded graph stops roots old marks (stack ++ place ∷ []) → (IsUnmarked marks place → ⊥) → IsFlooded graph stops roots old marks stack
  pass marks stack place f h =
      let n = f.many in
      let settle : (x : ℕ) → x < length old → IsMarked marks x ⊎ Contains (stack ++ place ∷ []) x → IsMarked marks x ⊎ Contains stack x = λ x lt s. elim s [
        | inl m ↦ inl m
        | inr c ↦ elim (Contains-push_cases stack place x c) [ inl d ↦ inr d | inr same ↦ let w : place < length marks = omega arith in inl (subst (IsMarked marks) same (is_marked marks place w h)) ]
      ] in
      record {
        many = f.many;
        kept = f.kept;
        sound = f.sound;
        waiting = λ x c. f.waiting x (Contains-append_left stack (place ∷ []) x c);
        begun = λ x c lt. settle x lt (f.begun x c lt);
        closed = λ x y m n c lt. settle y lt (f.closed x y m n c lt);
      }

  take_it : (marks : List (Option ℕ)) (stack : List ℕ) (place mark : ℕ) → IsFlooded graph stops roots old marks (stack ++ place ∷ []) → IsUnmarked marks place
      → IsFlooded graph stops roots old (slice_set marks place (Some mark)) (stack ++ followed graph stops place)
  take_it marks stack place mark f u =
      let lt : place < length marks = slice_get_within marks place None u in
      let now : IsMarked (slice_set marks place (Some mark)) place = (mark, get_set_same marks place (Some mark) lt) in
      let still : (x : ℕ) → IsMarked marks x → IsMarked (slice_set marks place (Some mark)) x = λ x m. elim (eqb_tells x place) [
        | inl p ↦ subst (IsMarked (slice_set marks place (Some mark))) (sym p.1) now
        | inr p ↦ (m.0, get_set_other marks place x (Some mark) (Some m.0) p.1 m.1)
      ] in
      let reached : Reaches graph stops roots place = f.waiting place (Contains-push stack place) in
      let settle : (x : ℕ) → IsMarked marks x ⊎ Contains (stack ++ place ∷ []) x → IsMarked (slice_set marks place (Some mark)) x ⊎ Contains (stack ++ followed graph stops place) x = λ x s. elim s [
        | inl m ↦ inl (still x m)
        | inr c ↦ elim (Contains-push_cases stack place x c) [
          | inl d ↦ inr (Contains-append_left stack (followed graph stops place) x d)
          | inr same ↦ inl (subst (IsMarked (slice_set marks place (Some mark))) same now)
        ]
      ] in
      record {
        many = length-set marks place (Some mark) ∙ f.many;
        kept = λ x m. still x (f.kept x m);
        sound = λ x m. elim (eqb_tells x place) [
          | inl p ↦ inr (subst (Reaches graph stops roots) (sym p.1) reached)
          | inr p ↦ f.sound x (m.0, from_set marks place x (Some mark) (Some m.0) p.1 m.1)
        ];
        waiting = λ x c. elim (Contains-append_cases stack (followed graph stops place) x c) [
          | inl d ↦ f.waiting x (Contains-append_left stack (place ∷ []) x d)
          | inr d ↦ further reached d
        ];
        begun = λ x c w. settle x (f.begun x c w);
        closed = λ x y m n c w. elim (eqb_tells x place) [
          | inl p ↦ inr (Contains-append_right stack (followed graph stops place) y (subst (λ z. Contains (followed graph stops z) y) p.1 c))
          | inr p ↦ settle y (f.closed x y (m.0, from_set marks place x (Some mark) (Some m.0) p.1 m.1) n c w)
        ];
      }

  pub flooded_more : (mark place : ℕ) (marks marks' : List (Option ℕ)) (stack stack' : List ℕ) → IsFlooded graph stops roots old marks (stack ++ place ∷ []) → Turn graph stops mark place marks stack marks' stack' → IsFlooded graph stops roots old marks' stack'
  flooded_more mark place marks marks' stack stack' f (passed h) = pass marks stack place f h
  flooded_more mark place marks marks' stack stack' f (taken u) = take_it marks stack place mark f u

-- ---- when nothing waits

pub row_within : (graph : List (List ℕ)) (place other : ℕ) → Contains (leads_of graph place) other → place < length graph
row_within [] place other c = absurd (contains_none [] other refl c)
row_within (r ∷ rs) zero other c = omega arith
row_within (r ∷ rs) (suc place) other c = let lt = row_within rs place other c in omega arith

followed_within : (graph : List (List ℕ)) (stops : List Bool) (place other : ℕ) (stop : Bool) → Contains (if stop then [] else leads_of graph place) other → place < length graph
followed_within graph stops place other true c = absurd (contains_none [] other refl c)
followed_within graph stops place other false c = row_within graph place other c

waits_not : (marks : List (Option ℕ)) (x : ℕ) → IsMarked marks x ⊎ Contains [] x → IsMarked marks x
waits_not marks x (inl m) = m
waits_not marks x (inr c) = absurd (contains_none [] x refl c)

all_marked : (graph : List (List ℕ)) (stops : List Bool) (roots : List ℕ) (old marks : List (Option ℕ)) → AreUnmarked (length graph) old → IsFlooded graph stops roots old marks [] → (place : ℕ) → place < length graph → Reaches graph stops roots place → IsMarked marks place
all_marked graph stops roots old marks u f place lt (root c) = let n = u.many in let w : place < length old = omega arith in waits_not marks place (f.begun place c w)
all_marked graph stops roots old marks u f place lt (further {place = before} r c) =
    let n = u.many in
    let w : place < length old = omega arith in
    let within = followed_within graph stops before place (is_stop stops before) c in
    waits_not marks place (f.closed before place (all_marked graph stops roots old marks u f before within r) (u.none_is before) c w)

pub all_reached : (graph : List (List ℕ)) (stops : List Bool) (roots : List ℕ) (old marks : List (Option ℕ)) → AreUnmarked (length graph) old → IsFlooded graph stops roots old marks [] → AreReached graph stops roots marks
all_reached graph stops roots old marks u f =
    let n = u.many in
    record {
      many = f.many ∙ u.many;
      sound = λ place m. elim (f.sound place m) [ inl o ↦ absurd (u.none_is place o) | inr r ↦ r ];
      complete = λ place lt r. all_marked graph stops roots old marks u f place lt r;
    }

-- ---- fewer leads are left

work_set : (ms : List (Option ℕ)) (rs : List (List ℕ)) (place mark : ℕ) → IsUnmarked ms place → work (slice_set ms place (Some mark)) rs + length (leads_of rs place) ≡ work ms rs
work_set [] rs place mark u = absurd (none-some None u)
work_set (None ∷ ms) [] zero mark u = refl
work_set (None ∷ ms) (r ∷ rs) zero mark u = omega arith
work_set (Some m ∷ ms) rs zero mark u = absurd (let e : Some m ≡ None = same_Some (Some m) None u in cc)
work_set (m ∷ ms) [] (suc place) mark u = refl
work_set (None ∷ ms) (r ∷ rs) (suc place) mark u = let h = work_set ms rs place mark u in omega arith
work_set (Some m ∷ ms) (r ∷ rs) (suc place) mark u = let h = work_set ms rs place mark u in omega arith

followed_few : (graph : List (List ℕ)) (place : ℕ) (stop : Bool) → length (if stop then [] else leads_of graph place) ≤ length (leads_of graph place)
followed_few graph place true = omega arith
followed_few graph place false = omega arith

pub nearer : (graph : List (List ℕ)) (stops : List Bool) (mark place : ℕ) (marks marks' : List (Option ℕ)) (stack stack' : List ℕ) → Turn graph stops mark place marks stack marks' stack' → work marks' graph + length stack' < work marks graph + length (stack ++ place ∷ [])
nearer graph stops mark place marks marks' stack stack' (passed h) = let n = length-append stack (place ∷ []) in omega arith
nearer graph stops mark place marks marks' stack stack' (taken u) =
    let n = length-append stack (place ∷ []) in
    let m = length-append stack (followed graph stops place) in
    let w = work_set marks graph place mark u in
    let b = followed_few graph place (is_stop stops place) in
    omega arith

-- ---- what a visit does

pub turn_passed : (graph : List (List ℕ)) (stops : List Bool) (mark place : ℕ) (marks new : List (Option ℕ)) (stack : List ℕ) (takes : Bool) → takes ≡ false → Takes marks place mark takes new → Turn graph stops mark place marks stack new stack
turn_passed graph stops mark place marks new stack true e t = absurd (let f : true ≡ false = e in cc)
turn_passed graph stops mark place marks new stack false e t = subst (λ ms. Turn graph stops mark place marks stack ms stack) (sym t.1) (passed t.0)

pub turn_taken : (graph : List (List ℕ)) (stops : List Bool) (mark place : ℕ) (marks new : List (Option ℕ)) (stack stack' : List ℕ) (takes : Bool) → takes ≡ true → Takes marks place mark takes new → stack' ≡ stack ++ followed graph stops place → Turn graph stops mark place marks stack new stack'
turn_taken graph stops mark place marks new stack stack' true e t s = subst (λ ms. Turn graph stops mark place marks stack ms stack') (sym t.1) (subst (Turn graph stops mark place marks stack (slice_set marks place (Some mark))) (sym s) (taken t.0))
turn_taken graph stops mark place marks new stack stack' false e t s = absurd (let f : false ≡ true = e in cc)

pub on_ok_from : {T E P R : Type 0} (r : Result T E) → OnOk r P → (P → R) → OnOk r R
on_ok_from (Ok x) p f = f p
on_ok_from (Err e) p f = tt
