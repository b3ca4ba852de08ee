-- Variables that are not asked for do not matter.
use Rattle.std.proofs.Common.{◌≡◌, ◌⊎◌, inl, inr, ⊎_elim, ℕ, zero, suc, Bool, true, false, List, [], ◌∷◌, ◌++◌, Option, Some, None, option_and_then, Ok, Err, refl, sym, ap, subst, ◌∙◌}
use Rattle.std.specs.Prelude.{IsSome}
use Rattle.just_host.specs.declared.entry.Entry.{Entry}
use Rattle.just_value.specs.Frames.{BoundRow, found_in}
use Rattle.meaning_dialogues.specs.Faults.{Fault}
use Rattle.meaning_dialogues.specs.Dialogue.{Dialogue, Ends, Asks, Reads, Reading, Lookup, Variable}
use Rattle.meaning_dialogues.specs.Evaluation.{Value, Stage}
use Rattle.meaning_dialogues.specs.Meaning.{QuestionAnswers, Meaning, with_meaning, meaning, variable_meaning}
use Rattle.meaning_evaluation.specs.Stages.Assigned.{Assigned, Assigns, skipped, opened, refused}
use Rattle.laws_evaluation.specs.Opening.Opened.{ReadsOnly, HasNumber, AgreesFrom, IsOpened, OpensBetween, side_in}
use Rattle.laws_evaluation.specs.Opening.Meant.{HoldsMeant, AreMeant, FaultMeant, IsThere, BoundAreRead, AreOrdered}
use Rattle.laws_evaluation.specs.Opening.Lazy.{IsNeeded, AreClosed}
use Rattle.laws_evaluation.proofs.Opening.Opening.{has_first}
use Rattle.laws_evaluation.proofs.Opening.Unfolded.{reads_weaker, opened_means, fault_means}

-- what is made of a value is the same, where it is the same of each
pub same_read : {A : Type 0} (f g : Value → Meaning A) (m : Meaning Value) → ((v : Value) → f v ≡ g v) → with_meaning m f ≡ with_meaning m g
same_read f g None h = refl
same_read f g (Some (Ok v)) h = h v
same_read f g (Some (Err e)) h = refl

-- a dialogue means the same by variables that mean the same where it reads them
pub same_meaning : {A : Type 0} (answers : QuestionAnswers) (first second : Lookup → Variable → Meaning Value) (t : Dialogue A) → ReadsOnly (λ place x. first place x ≡ second place x) t → meaning answers first t ≡ meaning answers second t
same_meaning answers first second (Ends end) h = refl
same_meaning answers first second (Asks q next) h =
    elim (answers q) as (λ o. option_and_then (λ answer. meaning answers first (next answer)) o ≡ option_and_then (λ answer. meaning answers second (next answer)) o) [ None ↦ refl | Some a ↦ same_meaning answers first second (next a) (h a) ]
same_meaning answers first second (Reads place x next) h =
    ap (λ m. with_meaning m (λ value. meaning answers first (next value))) h.0 ∙ same_read _ _ (second place x) (λ v. same_meaning answers first second (next v) (h.1 v))

-- what is made of a right side is the same, where it is the same of the one that is there
pub same_side : (f g : Dialogue Value → Meaning Value) (o : Option (Dialogue Value)) → ((side : Dialogue Value) → o ≡ Some side → f side ≡ g side) → option_and_then f o ≡ option_and_then g o
same_side f g None h = refl
same_side f g (Some side) h = h side refl

-- what these variables mean rests on their right sides alone, where they read nothing but each other
pub others_unread : (answers : QuestionAnswers) (right_side other_side : Variable → Option (Dialogue Value)) (P : Variable → Type 0) → ((x : Variable) → P x → right_side x ≡ other_side x) → ((x : Variable) (side : Dialogue Value) → P x → right_side x ≡ Some side → ReadsOnly (λ place y. P y) side)
    → (n : ℕ) (place : Lookup) (x : Variable) → P x → variable_meaning right_side answers n place x ≡ variable_meaning other_side answers n place x
others_unread answers right_side other_side P same closed zero place x h = refl
others_unread answers right_side other_side P same closed (suc n) place x h =
    same_side _ _ (right_side x) (λ side e. same_meaning answers (variable_meaning right_side answers n) (variable_meaning other_side answers n) side
    (reads_weaker _ _ (λ p y g. others_unread answers right_side other_side P same closed n p y g) side (closed x side h e)))
    ∙ ap (λ o. option_and_then (λ side. meaning answers (variable_meaning other_side answers n) side) o) (same x h)

module _ (outer : List (List BoundRow)) (stage_with : List BoundRow → Stage) (reading_with : List BoundRow → Reading) (export : Bool) (overrides : ℕ → Option (List ℕ)) (is_read : ℕ → Bool) where
  -- where the order leaves out a variable that is not asked for, it leads to the same
  pub left_out : (xs ys : List Assigned) (a : Assigned) {own last : List BoundRow} {old new : List Entry} {fault : Option Fault} → is_read a.number ≡ false
      → Assigns outer stage_with reading_with export overrides is_read (xs ++ a ∷ ys) own old last new fault → Assigns outer stage_with reading_with export overrides is_read (xs ++ ys) own old last new fault
  left_out [] ys a unread (skipped why more) = more
  left_out [] ys a unread (opened value read unbound goes binds sorted more) = absurd (cc)
  left_out [] ys a unread (refused read unbound goes) = absurd (cc)
  left_out (x ∷ xs) ys a unread (skipped why more) = skipped why (left_out xs ys a unread more)
  left_out (x ∷ xs) ys a unread (opened value read unbound goes binds sorted more) = opened value read unbound goes binds sorted (left_out xs ys a unread more)
  left_out (x ∷ xs) ys a unread (refused read unbound goes) = refused read unbound goes

  -- where the order has it, too
  pub put_in : (xs ys : List Assigned) (a : Assigned) {own last : List BoundRow} {old new : List Entry} {fault : Option Fault} → is_read a.number ≡ false
      → Assigns outer stage_with reading_with export overrides is_read (xs ++ ys) own old last new fault → Assigns outer stage_with reading_with export overrides is_read (xs ++ a ∷ ys) own old last new fault
  put_in [] ys a unread more = skipped (inl unread) more
  put_in (x ∷ xs) ys a unread (skipped why more) = skipped why (put_in xs ys a unread more)
  put_in (x ∷ xs) ys a unread (opened value read unbound goes binds sorted more) = opened value read unbound goes binds sorted (put_in xs ys a unread more)
  put_in (x ∷ xs) ys a unread (refused read unbound goes) = refused read unbound goes

  module _ (right_side : Variable → Option (Dialogue Value)) (answers : QuestionAnswers) (names : ℕ → List ℕ) where
    -- where what is asked for reads what is asked for, each that is opened reads what is there
    pub closed_ordered : (Needs : ℕ → ℕ → Type 0) (own : List BoundRow) (old : List Entry) (variables : List Assigned) → AreClosed outer stage_with reading_with export overrides is_read right_side answers names Needs own old variables
        → AreOrdered outer stage_with reading_with export overrides is_read right_side answers names own old variables
    closed_ordered Needs own old variables c = record {
      means = c.means;
      reads = λ xs ys a frame from o before. reads_weaker _ _ (λ place x r. there xs ys a o x r) (side_in outer stage_with reading_with export overrides is_read frame a) (c.reads xs ys a frame from o before);
    }
      where
        in_front : (xs ys : List Assigned) (a : Assigned) (m : ℕ) → variables ≡ xs ++ a ∷ ys → HasNumber xs m → is_read m ≡ true → (o : Option BoundRow) → found_in (own ∷ outer) m ≡ o → (HasNumber xs m × IsOpened outer own is_read m) ⊎ HoldsMeant outer right_side answers names own m
        in_front xs ys a m order h read None e = inl (h, record { read = read; unbound = e })
        in_front xs ys a m order h read (Some row) e =
            let i : HasNumber variables m = subst (λ l. HasNumber l m) (sym order) (has_first xs (a ∷ ys) m h) in
            let s : IsSome (found_in (own ∷ outer) m) = rw e refl in inr (c.bound m i s)

        there : (xs ys : List Assigned) (a : Assigned) → OpensBetween outer own is_read variables xs a ys → (x : Variable) → IsNeeded names Needs a.number x → IsThere outer right_side answers names own is_read xs x
        there xs ys a o x r = record {
          number = r.number;
          is = r.is;
          there = ⊎_elim
              (λ h. ⊎_elim (λ read. in_front xs ys a r.number o.order h read (found_in (own ∷ outer) r.number) refl) (λ m. inr m) (c.closed a.number r.number o.opened.read r.needed))
              (λ m. inr m) (c.order xs ys a r.number o.order r.needed);
        }

    -- the opening of what is asked for unfolds, whatever the others are
    pub lazy_means : (Needs : ℕ → ℕ → Type 0) (variables : List Assigned) (own last : List BoundRow) (old new : List Entry) → BoundAreRead outer reading_with names
        → AreClosed outer stage_with reading_with export overrides is_read right_side answers names Needs own old variables → AgreesFrom answers old new → Assigns outer stage_with reading_with export overrides is_read variables own old last new None
        → AreMeant outer right_side answers names own is_read variables last
    lazy_means Needs variables own last old new bound c agrees h =
        opened_means outer stage_with reading_with export overrides is_read right_side answers names bound variables own last old new (closed_ordered Needs own old variables c) agrees h

    -- so does the fault that ends it
    pub lazy_fault : (Needs : ℕ → ℕ → Type 0) (variables : List Assigned) (own last : List BoundRow) (old new : List Entry) (fault : Fault) → BoundAreRead outer reading_with names
        → AreClosed outer stage_with reading_with export overrides is_read right_side answers names Needs own old variables → AgreesFrom answers old new → Assigns outer stage_with reading_with export overrides is_read variables own old last new (Some fault)
        → FaultMeant outer right_side answers names own is_read variables last fault
    lazy_fault Needs variables own last old new fault bound c agrees h =
        fault_means outer stage_with reading_with export overrides is_read right_side answers names bound variables own last old new fault (closed_ordered Needs own old variables c) agrees h
