-- Each variable that is opened has the value that its right side was evaluated to.
use Rattle.std.proofs.Common.{◌≡◌, ◌⊎◌, inl, inr, ⊎_elim, ℕ, Bool, true, false, List, [], ◌∷◌, ◌++◌, append_assoc, Option, Some, None, Result, Ok, refl, sym, ap, subst, ◌∙◌}
use Rattle.std.specs.Prelude.{IsSome}
use Rattle.std.proofs.lemmas.Bool.{cases_eq}
use Rattle.just_host.specs.declared.entry.Entry.{Entry}
use Rattle.just_value.specs.Frames.{BoundRow, found_in, Rebinds}
use Rattle.meaning_dialogues.specs.Faults.{Fault}
use Rattle.meaning_dialogues.specs.Dialogue.{Dialogue, DialogueGoes, Reading}
use Rattle.meaning_dialogues.specs.Evaluation.{Value, Stage}
use Rattle.meaning_evaluation.specs.Stages.Assigned.{Assigned, Assigns, all, skipped, opened, refused, row_of}
use Rattle.laws_evaluation.specs.Opening.Opened.{Grows, Keeps, HasNumber, IsOpened, OpensBetween, side_in, HasValue, FaultsAt}
use Rattle.meaning_dialogues.proofs.Unfolding.{extends}
use Rattle.laws_evaluation.proofs.Opening.Frames.{same_record, grows_on, found_bound, found_other, keeps_bound}

-- the last of a row is one of it
pub has_last : (earlier : List Assigned) (a : Assigned) (n : ℕ) → HasNumber (earlier ++ a ∷ []) n → HasNumber earlier n ⊎ (n ≡ a.number)
has_last [] a n (inl e) = inr e
has_last [] a n (inr h) = absurd h
has_last (b ∷ bs) a n (inl e) = inl (inl e)
has_last (b ∷ bs) a n (inr h) = elim (has_last bs a n h) [ inl i ↦ inl (inr i) | inr e ↦ inr e ]

-- the number of one of the first is that of one of all
pub has_first : (xs ys : List Assigned) (n : ℕ) → HasNumber xs n → HasNumber (xs ++ ys) n
has_first [] ys n h = absurd h
has_first (x ∷ xs) ys n (inl e) = inl e
has_first (x ∷ xs) ys n (inr h) = inr (has_first xs ys n h)

-- a number is that of one of these or of none
pub has_or_not : (xs : List Assigned) (n : ℕ) → HasNumber xs n ⊎ (HasNumber xs n → ⊥)
has_or_not [] n = inr (λ h. h)
has_or_not (x ∷ xs) n =
    elim (cases_eq n x.number) [
      | inl e ↦ inl (inl e)
      | inr ne ↦ elim (has_or_not xs n) [ inl h ↦ inl (inr h) | inr none ↦ inr (λ h. ⊎_elim ne none h) ]
    ]

-- a row with the middle one put to those before it
pub moved : (variables earlier later : List Assigned) (a : Assigned) → variables ≡ earlier ++ a ∷ later → variables ≡ (earlier ++ a ∷ []) ++ later
moved variables earlier later a e = e ∙ sym (append_assoc earlier (a ∷ []) later)

module _ (outer : List (List BoundRow)) (stage_with : List BoundRow → Stage) (reading_with : List BoundRow → Reading) (export : Bool) (overrides : ℕ → Option (List ℕ)) (is_read : ℕ → Bool) where
  abbrev Leads : List Assigned → List BoundRow → List Entry → List BoundRow → List Entry → Option Fault → Type 0
  Leads = Assigns outer stage_with reading_with export overrides is_read

  abbrev Side : List BoundRow → Assigned → Dialogue Value
  Side = side_in outer stage_with reading_with export overrides is_read

  -- evaluating a right side only adds to the record
  pub goes_grows : (own : List BoundRow) (a : Assigned) (old new : List Entry) (r : Result Value Fault) → DialogueGoes (reading_with own) (Side own a) old new r → Grows old new
  goes_grows own a old new r goes = let p = extends (reading_with own) (Side own a) old new r goes in record { piece = p.0; entries = p.1 }

  -- opening variables only adds to the record
  pub record_grows : {variables : List Assigned} {own last : List BoundRow} {old new : List Entry} {fault : Option Fault} → Leads variables own old last new fault → Grows old new
  record_grows all = same_record _
  record_grows (skipped h more) = record_grows more
  record_grows (opened {a = a} {own = own} value read unbound goes binds sorted more) = grows_on _ _ _ (goes_grows own a _ _ _ goes) (record_grows more)
  record_grows (refused {a = a} {own = own} read unbound goes) = goes_grows own a _ _ _ goes

  -- what is bound stays bound, to the same row
  pub frame_keeps : {variables : List Assigned} {own last : List BoundRow} {old new : List Entry} {fault : Option Fault} → Leads variables own old last new fault → Keeps outer own last
  frame_keeps all n row f = f
  frame_keeps (skipped h more) n row f = frame_keeps more n row f
  frame_keeps (opened {a = a} {own = own} {next = next} value read unbound goes binds sorted more) n row f = frame_keeps more n row (keeps_bound outer own next (row_of export a value) unbound binds n row f)
  frame_keeps (refused read unbound goes) n row f = f

  -- one row after another
  pub one_after_another : {xs ys : List Assigned} {own mine last : List BoundRow} {old mid new : List Entry} {fault : Option Fault} → Leads xs own old mine mid None → Leads ys mine mid last new fault → Leads (xs ++ ys) own old last new fault
  one_after_another all g = g
  one_after_another (skipped why more) g = skipped why (one_after_another more g)
  one_after_another (opened value read unbound goes binds sorted more) g = opened value read unbound goes binds sorted (one_after_another more g)

  -- where a row is opened without a fault, its parts are
  pub in_two : (xs ys : List Assigned) (own last : List BoundRow) (old new : List Entry) → Leads (xs ++ ys) own old last new None → (mine : List BoundRow) × (mid : List Entry) × Leads xs own old mine mid None × Leads ys mine mid last new None
  in_two [] ys own last old new h = (own, old, all, h)
  in_two (x ∷ xs) ys own last old new (skipped why more) =
      let r = in_two xs ys own last old new more in (r.0, r.1, skipped why r.2, r.3)
  in_two (x ∷ xs) ys own last old new (opened {next = next} {mid = mid} value read unbound goes binds sorted more) =
      let r = in_two xs ys next last mid new more in (r.0, r.1, opened value read unbound goes binds sorted r.2, r.3)

  some_kept : (own last : List BoundRow) (n : ℕ) → Keeps outer own last → IsSome (found_in (own ∷ outer) n) → IsSome (found_in (last ∷ outer) n)
  some_kept own last n keeps s = at (found_in (own ∷ outer) n) refl s
    where
      at : (o : Option BoundRow) → found_in (own ∷ outer) n ≡ o → IsSome o → IsSome (found_in (last ∷ outer) n)
      at None e s = absurd (cc)
      at (Some row) e s = rw (keeps n row e) refl

  -- a number that is asked for and is that of one of the variables is bound after them
  pub bound_after : {xs : List Assigned} {own last : List BoundRow} {old new : List Entry} (n : ℕ) → Leads xs own old last new None → HasNumber xs n → is_read n ≡ true → IsSome (found_in (last ∷ outer) n)
  bound_after n all i r = absurd i
  bound_after n (skipped (inl unread) more) (inl e) r = let f = subst (λ m. is_read m ≡ true) e r in absurd (cc)
  bound_after n (skipped {own = own} {last = last} (inr bound) more) (inl e) r = some_kept own last n (frame_keeps more) (rw e bound)
  bound_after n (skipped why more) (inr i) r = bound_after n more i r
  bound_after n (opened {a = a} {own = own} {next = next} {last = last} value read unbound goes binds sorted more) (inl e) r =
      let there : found_in (next ∷ outer) n ≡ Some (row_of export a value) = rw e (found_bound outer own next (row_of export a value) binds) in
      some_kept next last n (frame_keeps more) (rw there refl)
  bound_after n (opened value read unbound goes binds sorted more) (inr i) r = bound_after n more i r

  -- a number that is none of theirs is bound as before
  pub others_stay : {xs : List Assigned} {own last : List BoundRow} {old new : List Entry} {fault : Option Fault} (n : ℕ) → Leads xs own old last new fault → (HasNumber xs n → ⊥) → found_in (last ∷ outer) n ≡ found_in (own ∷ outer) n
  others_stay n all i = refl
  others_stay n (skipped why more) i = others_stay n more (λ h. i (inr h))
  others_stay n (opened {a = a} {own = own} {next = next} value read unbound goes binds sorted more) i =
      others_stay n more (λ h. i (inr h)) ∙ found_other outer own next (row_of export a value) binds n (λ e. i (inl e))
  others_stay n (refused read unbound goes) i = refl

  -- without a fault, each variable that is opened has the value at the end that its right side was evaluated to between the earlier ones and the later ones
  pub each_has_value : (variables earlier later : List Assigned) (a : Assigned) (own last : List BoundRow) (old new : List Entry) → Leads variables own old last new None → OpensBetween outer own is_read variables earlier a later → HasValue outer stage_with reading_with export overrides is_read own old last new None earlier a later
  each_has_value variables earlier later a own last old new h o =
      let t = in_two earlier (a ∷ later) own last old new (subst (λ l. Leads l own old last new None) o.order h) in
      at_it t.0 t.1 t.2 t.3
    where
      at_it : (frame : List BoundRow) (from : List Entry) → Leads earlier own old frame from None → Leads (a ∷ later) frame from last new None → HasValue outer stage_with reading_with export overrides is_read own old last new None earlier a later
      at_it frame from before (skipped (inl unread) more) = let r = o.opened.read in absurd (cc)
      at_it frame from before (skipped (inr bound) more) =
          let e : found_in (frame ∷ outer) a.number ≡ None = others_stay a.number before o.first ∙ o.opened.unbound in
          let s = subst (λ it. IsSome it) e bound in absurd (cc)
      at_it frame from before (opened {next = next} {mid = mid} value read unbound goes binds sorted more) = record {
        value = value;
        frame = frame;
        next = next;
        from = from;
        till = mid;
        before = before;
        goes = goes;
        binds = binds;
        after = more;
        begins = record_grows before;
        goes_on = goes_grows frame a from mid (Ok value) goes;
        ends = record_grows more;
        found = frame_keeps more a.number (row_of export a value) (found_bound outer frame next (row_of export a value) binds);
      }

  skipped_another : (b it : Assigned) (own : List BoundRow) → (is_read b.number ≡ false) ⊎ IsSome (found_in (own ∷ outer) b.number) → IsOpened outer own is_read it.number → it.number ≡ b.number → ⊥
  skipped_another b it own (inl unread) o e = let r = subst (λ m. is_read m ≡ true) e o.read in absurd (cc)
  skipped_another b it own (inr bound) o e =
      let u = subst (λ m. found_in (own ∷ outer) m ≡ None) e o.unbound in
      let s = subst (λ it. IsSome it) u bound in absurd (cc)

  bound_another : (b it : Assigned) (own next : List BoundRow) (value : Value) → Rebinds own (row_of export b value) next → IsOpened outer next is_read it.number → it.number ≡ b.number → ⊥
  bound_another b it own next value binds o e =
      let u = subst (λ m. found_in (next ∷ outer) m ≡ None) e o.unbound in
      let f = found_bound outer own next (row_of export b value) binds in absurd (cc)

  -- a fault is that of one variable that is opened: its right side was evaluated to the fault after the earlier ones, and nothing was done after that
  pub faults_at : {xs : List Assigned} {own last : List BoundRow} {old new : List Entry} {fault : Fault} → Leads xs own old last new (Some fault) → FaultsAt outer stage_with reading_with export overrides is_read own old last new fault xs
  faults_at (skipped {a = b} {more = more'} {own = own} {last = last} {old = old} {new = new} why more) =
      let f = faults_at more in
      record {
        earlier = b ∷ f.earlier;
        it = f.it;
        later = f.later;
        from = f.from;
        opens = record {
          order = ap (λ l. b ∷ l) f.opens.order;
          opened = f.opens.opened;
          first = λ h. ⊎_elim (λ e. skipped_another b f.it own why f.opens.opened e) f.opens.first h;
        };
        before = skipped why f.before;
        goes = f.goes;
      }
  faults_at (opened {a = b} {more = more'} {own = own} {next = next} {last = last} {old = old} {new = new} value read unbound goes binds sorted more) =
      let f = faults_at more in
      let other = bound_another b f.it own next value binds f.opens.opened in
      record {
        earlier = b ∷ f.earlier;
        it = f.it;
        later = f.later;
        from = f.from;
        opens = record {
          order = ap (λ l. b ∷ l) f.opens.order;
          opened = record { read = f.opens.opened.read; unbound = sym (found_other outer own next (row_of export b value) binds f.it.number other) ∙ f.opens.opened.unbound };
          first = λ h. ⊎_elim other f.opens.first h;
        };
        before = opened value read unbound goes binds sorted f.before;
        goes = f.goes;
      }
  faults_at (refused {a = a} {more = more'} {own = own} {old = old} {new = new} read unbound goes) = record {
    earlier = [];
    it = a;
    later = more';
    from = old;
    opens = record { order = refl; opened = record { read = read; unbound = unbound }; first = λ h. absurd h };
    before = all;
    goes = goes;
  }
