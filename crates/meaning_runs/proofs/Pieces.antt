-- Lists of pieces: what drops, what stays, and what they hand over.
use Rattle.std.proofs.Common.{◌≡◌, refl, ◌++◌, ◌∷◌, [], ◌⊎◌, inl, inr, true, false, Bool, cond, ◌&&◌, ◌||◌, List, subst, sym, ◌∙◌, ap, append_assoc, append-nil}
use Rattle.std.specs.List.{list_any, AllByRecursion}
use Rattle.std.specs.Bool.{Decides}
use Rattle.meaning_runs.specs.Parts.{is_met, Joins}
use Rattle.meaning_runs.specs.Naive.{RunPart, TreePiece, Section, Head, Fault, Block, End, went, failed, unanswered, in_turn, after, nothing, same_section, repeats, firsts, joined}
use Rattle.meaning_runs.specs.Laws.{events_of}

-- ---- parts

module _ {Entry Failure : Type 0} where
  after_assoc : (es : List Entry) (e : End (Unit {0}) Failure) (fs : List Entry) (f : End (Unit {0}) Failure) (c : RunPart Entry (Unit {0}) Failure) →
      in_turn (after es e (record { events = fs; end = f })) c ≡ after es e (after fs f c)
  after_assoc es (went u) fs (went v) c = ap (λ l. let r : RunPart Entry (Unit {0}) Failure = record { events = l; end = c.end } in r) (append_assoc es fs c.events)
  after_assoc es (went u) fs (failed x) c = refl
  after_assoc es (went u) fs unanswered c = refl
  after_assoc es (failed x) fs f c = refl
  after_assoc es unanswered fs f c = refl

  pub in_turn_assoc : (a b c : RunPart Entry (Unit {0}) Failure) → in_turn (in_turn a b) c ≡ in_turn a (in_turn b c)
  in_turn_assoc a b c = after_assoc a.events a.end b.events b.end c

  pub after_nothing : (es : List Entry) (e : End (Unit {0}) Failure) → after es e nothing ≡ record { events = es; end = e }
  after_nothing es (went tt) = ap (λ l. let r : RunPart Entry (Unit {0}) Failure = record { events = l; end = went tt } in r) (append-nil es)
  after_nothing es (failed f) = refl
  after_nothing es unanswered = refl

  pub joined_append : {Call : Type 0} (xs ys : List (TreePiece Call Entry Failure)) → joined (xs ++ ys) ≡ in_turn (joined xs) (joined ys)
  joined_append [] ys = refl
  joined_append (x ∷ xs) ys = ap (in_turn x.part) (joined_append xs ys) ∙ sym (in_turn_assoc x.part (joined xs) (joined ys))

-- ---- tests

pub and_both : {P Q : Type 0} (a b : Bool) → Decides a P → Decides b Q → Decides (a && b) (P × Q)
and_both true b p q = (λ e. (p.0 refl, q.0 e), λ h. q.1 h.1)
and_both false b p q = (λ e. absurd (let f : false ≡ true = e in cc), λ h. absurd (let f : false ≡ true = p.1 h.0 in cc))

place_same : (p q : Section) → same_section p q ≡ true → p ≡ q
place_same Head Head e = refl
place_same Fault Fault e = refl
place_same Block Block e = refl
place_same Head Fault e = absurd (let f : false ≡ true = e in cc)
place_same Head Block e = absurd (let f : false ≡ true = e in cc)
place_same Fault Head e = absurd (let f : false ≡ true = e in cc)
place_same Fault Block e = absurd (let f : false ≡ true = e in cc)
place_same Block Head e = absurd (let f : false ≡ true = e in cc)
place_same Block Fault e = absurd (let f : false ≡ true = e in cc)

place_refl : (p : Section) → same_section p p ≡ true
place_refl Head = refl
place_refl Fault = refl
place_refl Block = refl

same_place_decides : (p q : Section) → Decides (same_section p q) (p ≡ q)
same_place_decides p q = (place_same p q, λ e. subst (λ r. same_section p r ≡ true) e (place_refl p))

pub or_either : (a b : Bool) → (a || b) ≡ true → (a ≡ true) ⊎ (b ≡ true)
or_either true b e = inl refl
or_either false b e = inr e

pub or_left : (a b : Bool) → a ≡ true → (a || b) ≡ true
or_left true b e = refl
or_left false b e = absurd (let f : false ≡ true = e in cc)

pub or_right : (a b : Bool) → b ≡ true → (a || b) ≡ true
or_right true b e = refl
or_right false b e = e

cond_true : {A : Type 0} (b : Bool) (x y : A) → b ≡ true → cond b x y ≡ x
cond_true true x y e = refl
cond_true false x y e = absurd (let f : false ≡ true = e in cc)

cond_false : {A : Type 0} (b : Bool) (x y : A) → (b ≡ true → ⊥) → cond b x y ≡ y
cond_false true x y h = absurd (h refl)
cond_false false x y h = refl

cond_append : {A : Type 0} (b : Bool) (x : A) (l m n : List A) → l ≡ m ++ n → cond b l (x ∷ l) ≡ cond b m (x ∷ m) ++ n
cond_append true x l m n e = e
cond_append false x l m n e = ap (λ r. x ∷ r) e

-- ---- membership

abbrev pub Met : {Call : Type 0} → Call → List Call → Type 0
Met c [] = ⊥
Met c (d ∷ ds) = (c ≡ d) ⊎ Met c ds

-- a piece of the place and the owner is among them
abbrev pub In : {Call Entry Failure : Type 0} → Section → Call → List (TreePiece Call Entry Failure) → Type 0
In k c [] = ⊥
In k c (q ∷ qs) = ((k ≡ q.section) × (c ≡ q.owner)) ⊎ In k c qs

module _ {Call Entry Failure : Type 0} (k : Section) (c : Call) where
  pub in_left : (xs ys : List (TreePiece Call Entry Failure)) → In k c xs → In k c (xs ++ ys)
  in_left [] ys h = absurd h
  in_left (x ∷ xs) ys (inl e) = inl e
  in_left (x ∷ xs) ys (inr h) = inr (in_left xs ys h)

  pub in_right : (xs ys : List (TreePiece Call Entry Failure)) → In k c ys → In k c (xs ++ ys)
  in_right [] ys h = h
  in_right (x ∷ xs) ys h = inr (in_right xs ys h)

  pub in_split : (xs ys : List (TreePiece Call Entry Failure)) → In k c (xs ++ ys) → In k c xs ⊎ In k c ys
  in_split [] ys h = inr h
  in_split (x ∷ xs) ys (inl e) = inl (inl e)
  in_split (x ∷ xs) ys (inr h) = elim (in_split xs ys h) [ inl m ↦ inl (inr m) | inr m ↦ inr m ]

module _ {Call : Type 0} (same : Call → Call → Bool) (decides : (a b : Call) → Decides (same a b) (a ≡ b)) where
  pub met_sound : (c : Call) (done : List Call) → is_met same c done ≡ true → Met c done
  met_sound c [] e = absurd (let f : false ≡ true = e in cc)
  met_sound c (d ∷ ds) e = elim (or_either (same c d) (is_met same c ds) e) [ inl h ↦ inl ((decides c d).0 h) | inr h ↦ inr (met_sound c ds h) ]

  pub met_complete : (c : Call) (done : List Call) → Met c done → is_met same c done ≡ true
  met_complete c [] h = absurd h
  met_complete c (d ∷ ds) (inl e) = or_left (same c d) (is_met same c ds) ((decides c d).1 e)
  met_complete c (d ∷ ds) (inr h) = or_right (same c d) (is_met same c ds) (met_complete c ds h)

  -- who is among the done when a call has joined
  pub met_joined : (call : Call) (old new : List Call) → Joins same call old new → (c : Call) → Met c new → (c ≡ call) ⊎ Met c old
  met_joined call old new j c h = elim (or_either (same call c) (is_met same c old) (sym (j c) ∙ met_complete c new h)) [
    | inl e ↦ inl (sym ((decides call c).0 e))
    | inr e ↦ inr (met_sound c old e)
  ]

  pub met_before : (call : Call) (old new : List Call) → Joins same call old new → (c : Call) → Met c old → Met c new
  met_before call old new j c h = met_sound c new (j c ∙ or_right (same call c) (is_met same c old) (met_complete c old h))

  pub met_itself : (call : Call) (old new : List Call) → Joins same call old new → Met call new
  met_itself call old new j = met_sound call new (j call ∙ or_left (same call call) (is_met same call old) ((decides call call).1 refl))

  module _ {Entry Failure : Type 0} where
    in_sound : (p : TreePiece Call Entry Failure) (qs : List (TreePiece Call Entry Failure)) → list_any (repeats same p) qs ≡ true → In p.section p.owner qs
    in_sound p [] e = absurd (let f : false ≡ true = e in cc)
    in_sound p (q ∷ qs) e = elim (or_either (repeats same p q) (list_any (repeats same p) qs) e) [
      | inl h ↦ (let b = (and_both (same_section p.section q.section) (same p.owner q.owner) (same_place_decides p.section q.section) (decides p.owner q.owner)).0 h in inl (b.0, b.1))
      | inr h ↦ inr (in_sound p qs h)
    ]

    in_complete : (p : TreePiece Call Entry Failure) (qs : List (TreePiece Call Entry Failure)) → In p.section p.owner qs → list_any (repeats same p) qs ≡ true
    in_complete p [] h = absurd h
    in_complete p (q ∷ qs) (inl e) = or_left (repeats same p q) (list_any (repeats same p) qs)
        ((and_both (same_section p.section q.section) (same p.owner q.owner) (same_place_decides p.section q.section) (decides p.owner q.owner)).1 (e.0, e.1))
    in_complete p (q ∷ qs) (inr h) = or_right (repeats same p q) (list_any (repeats same p) qs) (in_complete p qs h)

    pub snoc_more : (es : List (TreePiece Call Entry Failure)) (p : TreePiece Call Entry Failure) (ps : List (TreePiece Call Entry Failure)) → (es ++ p ∷ []) ++ ps ≡ es ++ p ∷ ps
    snoc_more es p ps = append_assoc es (p ∷ []) ps

    pub firsts_append : (es xs ys : List (TreePiece Call Entry Failure)) → firsts same es (xs ++ ys) ≡ firsts same es xs ++ firsts same (es ++ xs) ys
    firsts_append es [] ys = ap (λ e. firsts same e ys) (sym (append-nil es))
    firsts_append es (x ∷ xs) ys =
        let more : firsts same (es ++ x ∷ []) (xs ++ ys) ≡ firsts same (es ++ x ∷ []) xs ++ firsts same (es ++ x ∷ xs) ys =
        firsts_append (es ++ x ∷ []) xs ys ∙ ap (λ e. firsts same (es ++ x ∷ []) xs ++ firsts same e ys) (snoc_more es x xs) in
        cond_append (list_any (repeats same x) es) x _ _ _ more

    -- what stands earlier drops
    pub firsts_none : (es xs : List (TreePiece Call Entry Failure)) → ((k : Section) (c : Call) → In k c xs → In k c es) → firsts same es xs ≡ []
    firsts_none es [] h = refl
    firsts_none es (x ∷ xs) h =
        cond_true (list_any (repeats same x) es) _ _ (in_complete x es (h x.section x.owner (inl (refl, refl))))
        ∙ firsts_none (es ++ x ∷ []) xs (λ k c m. in_left k c es (x ∷ []) (h k c (inr m)))

    -- what doesn't stays
    pub firsts_kept : (es : List (TreePiece Call Entry Failure)) (x : TreePiece Call Entry Failure) (xs : List (TreePiece Call Entry Failure)) → (In x.section x.owner es → ⊥) → firsts same es (x ∷ xs) ≡ x ∷ firsts same (es ++ x ∷ []) xs
    firsts_kept es x xs h = cond_false (list_any (repeats same x) es) _ _ (λ e. h (in_sound x es e))

-- ---- records

module _ {Entry : Type 0} (is_event : Entry → Bool) (Agrees : Entry → Type 0) where
  pub agrees_left : (xs ys : List Entry) → AllByRecursion Agrees (xs ++ ys) → AllByRecursion Agrees xs
  agrees_left [] ys h = tt
  agrees_left (x ∷ xs) ys h = (h.0, agrees_left xs ys h.1)

  pub agrees_right : (xs ys : List Entry) → AllByRecursion Agrees (xs ++ ys) → AllByRecursion Agrees ys
  agrees_right [] ys h = h
  agrees_right (x ∷ xs) ys h = agrees_right xs ys h.1

  kept_event : (b : Bool) (x : Entry) (l m n : List Entry) → l ≡ m ++ n → cond b (x ∷ l) l ≡ cond b (x ∷ m) m ++ n
  kept_event true x l m n e = ap (λ r. x ∷ r) e
  kept_event false x l m n e = e

  pub events_append : (xs ys : List Entry) → events_of is_event (xs ++ ys) ≡ events_of is_event xs ++ events_of is_event ys
  events_append [] ys = refl
  events_append (x ∷ xs) ys = kept_event (is_event x) x _ _ _ (events_append xs ys)

pub grown : {Entry : Type 0} (a p q : List Entry) {b c : List Entry} → b ≡ a ++ p → c ≡ b ++ q → c ≡ a ++ (p ++ q)
grown a p q {b} {c} e f = f ∙ ap (λ l. l ++ q) e ∙ append_assoc a p q

pub append_cancel : {Entry : Type 0} (xs ys zs : List Entry) → xs ++ ys ≡ xs ++ zs → ys ≡ zs
append_cancel [] ys zs e = e
append_cancel (x ∷ xs) ys zs e = append_cancel xs ys zs (let f : x ∷ (xs ++ ys) ≡ x ∷ (xs ++ zs) = e in cc)
