-- Right sides whose names are known where they are opened.
use Rattle.std.proofs.Common.{◌≡◌, ◌⊎◌, inl, inr, refl, sym, ◌∙◌, subst, Bool, true, false, cond, List, [], ◌∷◌, Option, Some, None, ℕ}
use Rattle.std.specs.Prelude.{IsSome, ◌==◌}
use Rattle.std.specs.Option.{option_or}
use Rattle.std.proofs.lemmas.Bool.Decides.{Decides-eqb}
use Rattle.just_value.specs.Frames.{BoundRow, Frames, Rebinds, bound_in, found_in}
use Rattle.meaning_dialogues.specs.Calls.{DefinedFunction}
use Rattle.meaning_dialogues.specs.Dialogue.{Variable}
use Rattle.meaning_dialogues.specs.Terms.{Term, Terms, Holes, literal, command, format, variable, call, assertion, assertion_alone, both, either, negation, comparison, paired, rooted, appended, choice, choice_alone, listing, group, end, more, closed, hole}
use Rattle.meaning_dialogues.proofs.Soundness.{Each, EachOf, EachHole}
use Rattle.meaning_evaluation.specs.Stages.Assigned.{Assigned}
use Rattle.meaning_evaluation.proofs.Stages.Depth.{HasNumber}
use Rattle.meaning_dialogues.specs.Calls.{function_named}
use Rattle.laws_evaluation.specs.Soundness.Known.{IsBoundIn, IsCallable, OneForEach}
use Rattle.laws_evaluation.specs.Soundness.Opening.{InOrder, IsNumbered, SideKnown, With}
use Rattle.laws_runs.proofs.ByName.Variables.{each_up}

-- what is so of each variable of a term twice is so of it in both ways
module _ (V W : Variable → Type 0) (K L : List ℕ → ℕ → Type 0) where
  abbrev Both : Variable → Type 0
  Both x = V x × W x

  mutual
    pub each_both : (t : Term) → Each V K t → Each W L t → Each (λ x. V x × W x) K t
    each_both (literal cooked text) h g = tt
    each_both (command contents text) h g = tt
    each_both (format cooked text tripled holes) h g = holes_both holes h g
    each_both (variable name number) h g = (h, g)
    each_both (call name file es) h g = (h.0, all_both es h.1 g.1)
    each_both (assertion c m) h g = (each_both c h.0 g.0, each_both m h.1 g.1)
    each_both (assertion_alone c) h g = each_both c h g
    each_both (both l r) h g = (each_both l h.0 g.0, each_both r h.1 g.1)
    each_both (either l r) h g = (each_both l h.0 g.0, each_both r h.1 g.1)
    each_both (negation e) h g = each_both e h g
    each_both (comparison operator l r) h g = (each_both l h.0 g.0, each_both r h.1 g.1)
    each_both (paired operator l r) h g = (each_both l h.0 g.0, each_both r h.1 g.1)
    each_both (rooted r) h g = each_both r h g
    each_both (appended l r) h g = (each_both l h.0 g.0, each_both r h.1 g.1)
    each_both (choice c t o) h g = (each_both c h.0 g.0, each_both t h.1 g.1, each_both o h.2 g.2)
    each_both (choice_alone c t) h g = (each_both c h.0 g.0, each_both t h.1 g.1)
    each_both (listing es) h g = all_both es h g
    each_both (group e) h g = each_both e h g

    all_both : (es : Terms) → EachOf V K es → EachOf W L es → EachOf (λ x. V x × W x) K es
    all_both end h g = tt
    all_both (more e es) h g = (each_both e h.0 g.0, all_both es h.1 g.1)

    holes_both : (hs : Holes) → EachHole V K hs → EachHole W L hs → EachHole (λ x. V x × W x) K hs
    holes_both closed h g = tt
    holes_both (hole e cooked text hs) h g = (each_both e h.0 g.0, holes_both hs h.1 g.1)

numbered_up : (N M : ℕ → Type 0) → ((k : ℕ) → N k → M k) → (o : Option ℕ) → IsNumbered N o → IsNumbered M o
numbered_up N M up None h = h
numbered_up N M up (Some k) h = up k h

module _ (functions : List DefinedFunction) (N M : ℕ → Type 0) (up : (k : ℕ) → N k → M k) where
  abbrev Calls : (DefinedFunction → Bool) → List ℕ → ℕ → Type 0
  Calls reached name arguments = IsCallable (OneForEach (λ (f : DefinedFunction). reached f ≡ true)) (function_named name functions) name arguments

  or_numbered : (numbers : List ℕ) (x : Variable) → HasNumber numbers x.number ⊎ IsNumbered N x.number → HasNumber numbers x.number ⊎ IsNumbered M x.number
  or_numbered numbers x (inl h) = inl h
  or_numbered numbers x (inr h) = inr (numbered_up N M up x.number h)

  -- a right side that is known by some numbers is known by more of them
  pub side_up : (t : Term) → SideKnown functions N t → SideKnown functions M t
  side_up t s = record {
    reached = s.reached;
    bodies = record {
      body = λ name f e r. each_up (λ x. HasNumber f.parameters x.number ⊎ IsNumbered N x.number) (λ x. HasNumber f.parameters x.number ⊎ IsNumbered M x.number) (Calls s.reached) (or_numbered f.parameters) f.body (s.bodies.body name f e r);
    };
    names = each_up (λ x. IsNumbered N x.number) (λ x. IsNumbered M x.number) (Calls s.reached) (λ x h. numbered_up N M up x.number h) t s.names;
  }

-- so are those of variables in their order
pub order_up : (overrides : ℕ → Option (List ℕ)) (is_read : ℕ → Bool) (functions : List DefinedFunction) (N M : ℕ → Type 0) → ((k : ℕ) → N k → M k) → (list : List Assigned)
    → InOrder overrides is_read (SideKnown functions) N list → InOrder overrides is_read (SideKnown functions) M list
order_up overrides is_read functions N M up [] h = tt
order_up overrides is_read functions N M up (a ∷ rest) h = (
  λ read none. side_up functions N M up a.value (h.0 read none),
  order_up overrides is_read functions (With overrides is_read a.number N) (With overrides is_read a.number M) (λ k w. with_up k w) rest h.1,
)
  where
    with_up : (k : ℕ) → With overrides is_read a.number N k → With overrides is_read a.number M k
    with_up k (inl p) = inl p
    with_up k (inr i) = inr (up k i)

-- ---- what is bound in a frame and those around it

module _ (outer : List (List BoundRow)) where
  abbrev pub IsFound : List BoundRow → ℕ → Type 0
  IsFound own k = IsSome (found_in (own ∷ outer) k)

  pub found_bound : (own next : List BoundRow) (row : BoundRow) → Rebinds own row next → (k : ℕ) → (k ≡ row.number) ⊎ IsFound own k → IsFound next k
  found_bound own next row rebinds k h = subst (λ o. IsSome (option_or o (found_in outer k))) (sym (rebinds k)) (by_test (k == row.number) refl h)
    where
      by_test : (b : Bool) → (k == row.number) ≡ b → (k ≡ row.number) ⊎ IsFound own k → IsSome (option_or (cond b (Some row) (bound_in own k)) (found_in outer k))
      by_test true e h = refl
      by_test false e (inl same) = absurd (cc (sym ((Decides-eqb k row.number).1 same) ∙ e))
      by_test false e (inr i) = i

  module _ (overrides : ℕ → Option (List ℕ)) (is_read : ℕ → Bool) (functions : List DefinedFunction) where
    abbrev pub AreKnown : List BoundRow → List Assigned → Type 0
    AreKnown own list = InOrder overrides is_read (SideKnown functions) (IsFound own) list

    -- a variable that is not read leaves the others known
    pub known_passed : (own : List BoundRow) (a : Assigned) (rest : List Assigned) → is_read a.number ≡ false → AreKnown own (a ∷ rest) → AreKnown own rest
    known_passed own a rest unread h = order_up overrides is_read functions (With overrides is_read a.number (IsFound own)) (IsFound own) with_up rest h.1
      where
        with_up : (k : ℕ) → With overrides is_read a.number (IsFound own) k → IsFound own k
        with_up k (inl p) = absurd (cc (sym p.1 ∙ unread))
        with_up k (inr i) = i

    -- and so does one that is bound
    pub known_bound : (own next : List BoundRow) (row : BoundRow) (a : Assigned) (rest : List Assigned) → row.number ≡ a.number → Rebinds own row next → AreKnown own (a ∷ rest) → AreKnown next rest
    known_bound own next row a rest same rebinds h = order_up overrides is_read functions (With overrides is_read a.number (IsFound own)) (IsFound next) with_up rest h.1
      where
        with_up : (k : ℕ) → With overrides is_read a.number (IsFound own) k → IsFound next k
        with_up k (inl p) = found_bound own next row rebinds k (inl (p.0 ∙ sym same))
        with_up k (inr i) = found_bound own next row rebinds k (inr i)

-- what is known by the numbers that are found is bound in the frames
pub numbers_bound : (frames : Frames) (o : Option ℕ) → IsNumbered (IsFound frames.outer frames.own) o → IsBoundIn frames o
numbers_bound frames None h = h
numbers_bound frames (Some k) h = h
