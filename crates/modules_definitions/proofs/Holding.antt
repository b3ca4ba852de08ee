-- What is kept of the first definitions, and with one more.
use Rattle.std.proofs.Common.{◌≡◌, inl, inr, sym, ◌∙◌, ap, subst, Bool, true, false, ◌&&◌, List, [], ◌∷◌, ◌++◌, ℕ, suc, ◌+◌, ◌<◌, ◌≤◌, Option, Some, None, refl, arith, take, length, get_or, true≢false}
use Rattle.std.specs.Prelude.{Contains, slice_get, ◌≢◌, ◌⊎◌}
use Rattle.std.proofs.lemmas.Bool.Decides.{eqb_tells, leb_tells}
use Rattle.std.proofs.lemmas.List.{take_more, take_all}
use Rattle.std.proofs.lemmas.Option.{same_Some, slice_get-get_or, slice_get_within}
use Rattle.std.proofs.lemmas.List.Elements.{Contains-append_left, Contains-push, Contains-push_cases}
use Rattle.modules_definitions.specs.declared.definition.Definition.{Definition}
use Rattle.modules_compilation.specs.declared.error.Error.{Error}
use Rattle.modules_definitions.specs.declared.keep.Allowed.{Allowed}
use Rattle.modules_definitions.specs.Keeping.{AreInOrder, AreKept, IsDuplicate, IsKept, IsPart, IsRefused, ShareName, may_both, may_repeat, memory, duplicate, none}
use Rattle.modules_definitions.specs.Steps.{IsBetter, IsClash, IsClashAfter, Step, begins, merges, goes_on, memory as no_memory, clash, all_kept}
use Rattle.modules_definitions.proofs.Elements.{AnyTwo, before_take, contains_at, no_two, nothing, part_front, part_leave, part_none, part_push, place_of, place_stays, push_place, last_place, two_more}
use Rattle.modules_definitions.proofs.Orders.{IsBehind, IsNameBehind, any_behind, between, later_file, names_behind, names_itself, share_back, share_on, shared_behind}

-- the next definition comes behind all
abbrev pub IsNext : List Definition → Definition → Type 0
IsNext ds next = (d : Definition) → Contains ds d → IsBehind d next

-- two may stand beside one another
abbrev pub Fit : Allowed → Definition → Definition → Type 0
Fit allowed a b = ShareName a b → may_both allowed a b ≡ false → ⊥

abbrev pub Differ : Definition → Definition → Type 0
Differ a b = ShareName a b → ⊥

pub record Holds (allowed : Allowed) (ds front : List Definition) (last : Definition) : Type 0 where
  pub sound : (d : Definition) → Contains (front ++ last ∷ []) d → IsKept ds d
  pub complete : (d : Definition) → IsKept ds d → Contains (front ++ last ∷ []) d
  pub clear : AnyTwo (Fit allowed) ds
  pub single : AnyTwo Differ front
  pub apart : (d : Definition) → Contains front d → Differ d last
  pub top : (d : Definition) → Contains ds d → IsNameBehind d last
  pub part : IsPart (front ++ last ∷ []) ds

-- a definition stays kept, unless the next one has its name
stays : {ds : List Definition} {d : Definition} (next : Definition) → IsKept ds d → Differ next d → IsKept (ds ++ next ∷ []) d
stays {ds} {d} next k ne = record {
  at = k.at;
  found = place_stays ds (next ∷ []) k.at d k.found;
  first = λ e c s. elim (Contains-push_cases ds next e c) [ inl old ↦ k.first e old s | inr is ↦ absurd (ne (subst (λ x. ShareName x d) (sym is) s)) ];
  last = λ j e c s f. elim (push_place ds next j e c) [ inl old ↦ k.last j e old s f | inr is ↦ absurd (ne (subst (λ x. ShareName x d) (sym is.1) s)) ];
}

-- and was kept before
was : {ds : List Definition} {d : Definition} (next : Definition) → (k : IsKept (ds ++ next ∷ []) d) → slice_get ds k.at ≡ Some d → IsKept ds d
was {ds} {d} next k found = record {
  at = k.at;
  found = found;
  first = λ e c. k.first e (Contains-append_left ds (next ∷ []) e c);
  last = λ j e c. k.last j e (place_stays ds (next ∷ []) j e c);
}

below_all : (ds : List Definition) (next : Definition) (j : ℕ) (e : Definition) → slice_get (ds ++ next ∷ []) j ≡ Some e → j ≤ length ds
below_all ds next j e c = elim (push_place ds next j e c) [ inl old ↦ let lt = slice_get_within ds j e old in omega arith | inr is ↦ let q = is.0 in omega arith ]

-- the next one is kept, where none before it has its name
alone : (ds : List Definition) (next : Definition) → ((d : Definition) → Contains ds d → Differ d next) → IsKept (ds ++ next ∷ []) next
alone ds next ne = record {
  at = length ds;
  found = last_place ds next;
  first = λ e c s. elim (Contains-push_cases ds next e c) [ inl o ↦ absurd (ne e o s) | inr same ↦ let f = ap (λ x. x.place.file) same in omega arith ];
  last = λ j e c s f. below_all ds next j e c;
}

both_true : (a b : Bool) → (a && b) ≡ true → (a ≡ true) × (b ≡ true)
both_true true b e = (refl, e)
both_true false b e = absurd (true≢false (sym e))

and_back : (a b : Bool) → a ≡ false → (b && a) ≡ false
and_back a true e = e
and_back a false e = refl

and_true : (a b : Bool) → a ≡ true → b ≡ true → (a && b) ≡ false → ⊥
and_true a b p q e = true≢false (sym (ap (λ x. x && b) p ∙ q) ∙ e)

-- where the last one may stand beside others, each of its name may
repeats : (allowed : Allowed) (ds : List Definition) (last a : Definition) → AnyTwo (Fit allowed) ds → Contains ds last → Contains ds a → ShareName a last → may_repeat allowed last.kind ≡ true → (b : Bool) → may_repeat allowed a.kind ≡ b → may_repeat allowed a.kind ≡ true
repeats allowed ds last a clear l c s may true is = is
repeats allowed ds last a clear l c s may false is =
    let p = place_of ds a c in
    let q = place_of ds last l in
    absurd (elim (eqb_tells p.0 q.0) [
      | inl same ↦
          let one = same_Some a last (sym p.1 ∙ ap (slice_get ds) same.1 ∙ q.1) in
          true≢false (sym may ∙ ap (λ x. may_repeat allowed x.kind) (sym one) ∙ is)
      | inr other ↦ apart p.0 q.0 p.1 q.1 other.1
    ])
  where
    by_side : (i j : ℕ) → i ≢ j → (i < j) ⊎ (j < i)
    by_side i j ne = elim (leb_tells (suc i) j) [ inl p ↦ inl p.1 | inr p ↦ let q = p.1 in inr (omega arith) ]

    apart : (i j : ℕ) → slice_get ds i ≡ Some a → slice_get ds j ≡ Some last → i ≢ j → ⊥
    apart i j e f ne = elim (by_side i j ne) [
      | inl lt ↦ clear i j a last lt e f s (ap (λ x. x && may_repeat allowed last.kind) is)
      | inr lt ↦ clear j i last a lt f e (share_back a last s) (and_back (may_repeat allowed a.kind) (may_repeat allowed last.kind) is)
    ]

there : {ds : List Definition} {d : Definition} → IsKept ds d → Contains ds d
there {ds} {d} k = contains_at ds k.at d k.found

last_there : {allowed : Allowed} {ds front : List Definition} {last : Definition} → Holds allowed ds front last → IsKept ds last
last_there {allowed} {ds} {front} {last} h = h.sound last (Contains-push front last)

pub first_one : (allowed : Allowed) (next : Definition) → Holds allowed ([] ++ next ∷ []) [] next
first_one allowed next =
    let one = alone [] next (λ d c. absurd (nothing d c)) in
    record {
      sound = λ d c. elim (Contains-push_cases [] next d c) [ inl n ↦ absurd (nothing d n) | inr is ↦ subst (IsKept ([] ++ next ∷ [])) is one ];
      complete = λ d k. contains_at ([] ++ next ∷ []) k.at d k.found;
      clear = two_more (Fit allowed) [] next (no_two (Fit allowed)) (λ a c. absurd (nothing a c));
      single = no_two Differ;
      apart = λ d c. absurd (nothing d c);
      top = λ d c. elim (Contains-push_cases [] next d c) [ inl n ↦ absurd (nothing d n) | inr is ↦ subst (λ x. IsNameBehind x next) is (names_itself next) ];
      part = part_push next none;
    }

module _ (allowed : Allowed) (ds front : List Definition) (last next : Definition) (h : Holds allowed ds front last) (after : IsNext ds next) where
  abbrev top_next : (d : Definition) → Contains (ds ++ next ∷ []) d → IsNameBehind d next
  top_next d c = elim (Contains-push_cases ds next d c) [ inl o ↦ names_behind d next (after d o) | inr is ↦ subst (λ x. IsNameBehind x next) is (names_itself next) ]

  pub other_name : Differ last next → Holds allowed (ds ++ next ∷ []) (front ++ last ∷ []) next
  other_name ne =
      let behind = names_behind last next (after last (there (last_there h))) in
      let below : (d : Definition) → Contains ds d → Differ d next = λ d c s. ne (between d last next (h.top d c) behind s) in
      record {
        sound = λ d c. elim (Contains-push_cases (front ++ last ∷ []) next d c) [
          | inl old ↦ let k = h.sound d old in stays next k (λ s. below d (there k) (share_back next d s))
          | inr is ↦ subst (IsKept (ds ++ next ∷ [])) is (alone ds next below)
        ];
        complete = λ d k. elim (push_place ds next k.at d k.found) [
          | inl old ↦ Contains-append_left (front ++ last ∷ []) (next ∷ []) d (h.complete d (was next k old))
          | inr is ↦ subst (Contains ((front ++ last ∷ []) ++ next ∷ [])) is.1 (Contains-push (front ++ last ∷ []) next)
        ];
        clear = two_more (Fit allowed) ds next h.clear (λ a c s f. below a c s);
        single = two_more Differ front last h.single h.apart;
        apart = λ d c. below d (there (h.sound d c));
        top = top_next;
        part = part_push next h.part;
      }

  module _ (shared : ShareName last next) (both : may_both allowed last next ≡ true) where
    abbrev fits : (a : Definition) → Contains ds a → Fit allowed a next
    fits a c s e =
        let p = both_true (may_repeat allowed last.kind) (may_repeat allowed next.kind) both in
        let q = repeats allowed ds last a h.clear (there (last_there h)) c (share_on a next last s (share_back last next shared)) p.0 (may_repeat allowed a.kind) refl in
        and_true (may_repeat allowed a.kind) (may_repeat allowed next.kind) q p.1 e

    front_stays : (d : Definition) → Contains front d → IsKept (ds ++ next ∷ []) d
    front_stays d c = stays next (h.sound d (Contains-append_left front (last ∷ []) d c)) (λ s. h.apart d c (share_back last d (share_on last next d shared s)))

    pub other_file : (last.place.file ≡ next.place.file → ⊥) → Holds allowed (ds ++ next ∷ []) front last
    other_file ne =
        let k = last_there h in
        let before = later_file last next (after last (there k)) shared in
        record {
          sound = λ d c. elim (Contains-push_cases front last d c) [
            | inl old ↦ front_stays d old
            | inr is ↦ subst (IsKept (ds ++ next ∷ [])) is (record {
              at = k.at;
              found = place_stays ds (next ∷ []) k.at last k.found;
              first = λ e c s. elim (Contains-push_cases ds next e c) [ inl o ↦ k.first e o s | inr same ↦ let f = ap (λ x. x.place.file) same in omega arith ];
              last = λ j e c s f. elim (push_place ds next j e c) [ inl o ↦ k.last j e o s f | inr same ↦ absurd (ne (sym f ∙ sym (ap (λ x. x.place.file) same.1))) ];
            })
          ];
          complete = λ d j. elim (push_place ds next j.at d j.found) [
            | inl old ↦ h.complete d (was next j old)
            | inr is ↦
                let f = ap (λ x. x.place.file) is.1 in
                let le = j.first last (Contains-append_left ds (next ∷ []) last (there k)) (subst (ShareName last) is.1 shared) in
                absurd (ne (omega arith))
          ];
          clear = two_more (Fit allowed) ds next h.clear fits;
          single = h.single;
          apart = h.apart;
          top = λ d c. elim (Contains-push_cases ds next d c) [ inl o ↦ h.top d o | inr is ↦ subst (λ x. IsNameBehind x last) is (shared_behind last next shared) ];
          part = part_leave next h.part;
        }

    pub same_file : last.place.file ≡ next.place.file → Holds allowed (ds ++ next ∷ []) front next
    same_file same =
        let k = last_there h in
        record {
          sound = λ d c. elim (Contains-push_cases front next d c) [
            | inl old ↦ front_stays d old
            | inr is ↦ subst (IsKept (ds ++ next ∷ [])) is (record {
              at = length ds;
              found = last_place ds next;
              first = λ e c s. elim (Contains-push_cases ds next e c) [ inl o ↦ let le = k.first e o (share_on e next last s (share_back last next shared)) in omega arith | inr eq ↦ let f = ap (λ x. x.place.file) eq in omega arith ];
              last = λ j e c s f. below_all ds next j e c;
            })
          ];
          complete = λ d j. elim (push_place ds next j.at d j.found) [
            | inl old ↦ elim (Contains-push_cases front last d (h.complete d (was next j old))) [
              | inl c ↦ Contains-append_left front (next ∷ []) d c
              | inr is ↦
                  let s : ShareName next d = subst (ShareName next) is (share_back last next shared) in
                  let f : next.place.file ≡ d.place.file = sym same ∙ ap (λ x. x.place.file) is in
                  let le = j.last (length ds) next (last_place ds next) s f in
                  let lt = slice_get_within ds j.at d old in
                  absurd (omega arith)
            ]
            | inr is ↦ subst (Contains (front ++ next ∷ [])) is.1 (Contains-push front next)
          ];
          clear = two_more (Fit allowed) ds next h.clear fits;
          single = h.single;
          apart = λ d c s. h.apart d c (share_on d next last s (share_back last next shared));
          top = top_next;
          part = part_push next (part_front front last ds h.part);
        }

-- ---- all of the first definitions

abbrev pub HoldsAll : Allowed → List Definition → List Definition → Option Definition → Type 0
HoldsAll allowed ds front None = (ds ≡ []) × (front ≡ [])
HoldsAll allowed ds front (Some last) = Holds allowed ds front last

begun : (allowed : Allowed) (ds front : List Definition) (next : Definition) → ds ≡ [] → front ≡ [] → Holds allowed (ds ++ next ∷ []) front next
begun allowed ds front next e f = subst (λ xs. Holds allowed (xs ++ next ∷ []) front next) (sym e) (subst (λ ys. Holds allowed ([] ++ next ∷ []) ys next) (sym f) (first_one allowed next))

holds_more : (allowed : Allowed) (ds front front' : List Definition) (last last' : Option Definition) (next : Definition) → HoldsAll allowed ds front last → IsNext ds next → Step allowed front last next front' last' → HoldsAll allowed (ds ++ next ∷ []) front' last'
holds_more allowed ds front front' last last' next h after begins = begun allowed ds front next h.0 h.1
holds_more allowed ds front front' o o' next h after (merges {last = last} {one = one} shared b) = elim (eqb_tells last.place.file next.place.file) [
  | inl p ↦ subst (Holds allowed (ds ++ next ∷ []) front) (sym (b.same p.1)) (same_file allowed ds front last next h after shared b.both p.1)
  | inr p ↦ subst (Holds allowed (ds ++ next ∷ []) front) (sym (b.other p.1)) (other_file allowed ds front last next h after shared b.both p.1)
]
holds_more allowed ds front front' o o' next h after (goes_on {last = last} ne) = other_name allowed ds front last next h after ne

next_of : (ds : List Definition) (i : ℕ) (next : Definition) → AreInOrder ds → slice_get ds i ≡ Some next → IsNext (take i ds) next
next_of ds i next o found d c =
    let p = place_of (take i ds) d c in
    let q = before_take ds i p.0 d p.1 in
    any_behind ds o p.0 i d next q.0 q.1 found

clash_refused : (allowed : Allowed) (ds front : List Definition) (last : Option Definition) (i : ℕ) (next : Definition) (error : Error) → HoldsAll allowed (take i ds) front last → slice_get ds i ≡ Some next
    → IsClashAfter allowed last next error → IsRefused allowed ds error
clash_refused allowed ds front last i next error h found (no_memory out) = subst (IsRefused allowed ds) (sym out) memory
clash_refused allowed ds front o i next error h found (clash {last = last} shared c) =
    let p = place_of (take i ds) last (there (last_there h)) in
    let q = before_take ds i p.0 last p.1 in
    subst (IsRefused allowed ds) (sym c.is) (duplicate (record { first = last; i = p.0; j = i; before = q.0; found = q.1; is = found; shared = shared; forbidden = c.forbidden }))

pub all_are_kept : (allowed : Allowed) (ds front : List Definition) (last : Option Definition) → HoldsAll allowed ds front last → AreKept ds (all_kept front last)
all_are_kept allowed ds front None h = subst (λ xs. AreKept xs front) (sym h.0) (subst (AreKept []) (sym h.1) (record {
  each = λ d. (λ c. absurd (nothing d c), λ k. absurd (nothing d (there k)));
  part = none;
  once = no_two Differ;
}))
all_are_kept allowed ds front (Some last) h = record { each = λ d. (h.sound d, h.complete d); part = h.part; once = two_more Differ front last h.single h.apart }

pub all_clear : (allowed : Allowed) (ds front : List Definition) (last : Option Definition) → HoldsAll allowed ds front last → (second : Definition) → IsDuplicate allowed ds second → ⊥
all_clear allowed ds front None h second d = nothing second (subst (λ xs. Contains xs second) h.0 (contains_at ds d.j second d.is))
all_clear allowed ds front (Some last) h second d = h.clear d.i d.j d.first second d.before d.found d.is d.shared d.forbidden

pub held_more : (allowed : Allowed) (ds front front' : List Definition) (last last' : Option Definition) (i : ℕ) (d : Definition) → AreInOrder ds → i < length ds → HoldsAll allowed (take i ds) front last → Step allowed front last (get_or ds i d) front' last' → HoldsAll allowed (take (i + 1) ds) front' last'
held_more allowed ds front front' last last' i d o lt h s =
    subst (λ xs. HoldsAll allowed xs front' last') (sym (take_more ds i d lt)) (holds_more allowed (take i ds) front front' last last' (get_or ds i d) h (next_of ds i (get_or ds i d) o (slice_get-get_or ds i d lt)) s)

pub held_clash : (allowed : Allowed) (ds front : List Definition) (last : Option Definition) (i : ℕ) (d : Definition) (error : Error) → i < length ds → HoldsAll allowed (take i ds) front last → IsClashAfter allowed last (get_or ds i d) error → IsRefused allowed ds error
held_clash allowed ds front last i d error lt h c = clash_refused allowed ds front last i (get_or ds i d) error h (slice_get-get_or ds i d lt) c

pub held_all : (allowed : Allowed) (ds front : List Definition) (last : Option Definition) (i : ℕ) → length ds ≤ i → HoldsAll allowed (take i ds) front last → HoldsAll allowed ds front last
held_all allowed ds front last i le h = subst (λ xs. HoldsAll allowed xs front last) (take_all i ds le) h
