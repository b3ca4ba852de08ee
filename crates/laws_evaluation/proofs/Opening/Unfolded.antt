-- What is opened is what the variables mean.
use Rattle.std.proofs.Common.{◌≡◌, ◌⊎◌, inl, inr, ⊎_elim, ℕ, Bool, true, false, List, [], ◌∷◌, ◌++◌, append-nil, append_assoc, Option, Some, None, Result, Ok, Err, refl, sym, ap, subst, ◌∙◌}
use Rattle.std.specs.Prelude.{IsSome}
use Rattle.just_host.specs.declared.entry.Entry.{Entry}
use Rattle.just_value.specs.Frames.{BoundRow, found_in, Rebinds}
use Rattle.meaning_dialogues.specs.Faults.{Fault}
use Rattle.meaning_dialogues.specs.Dialogue.{Dialogue, Ends, Asks, Reads, DialogueGoes, Reading, Lookup, Variable}
use Rattle.meaning_dialogues.specs.Evaluation.{Value, Stage}
use Rattle.meaning_dialogues.specs.Meaning.{QuestionAnswers}
use Rattle.meaning_evaluation.specs.Stages.Assigned.{Assigned, Assigns, all, skipped, opened, row_of}
use Rattle.laws_evaluation.specs.Opening.Opened.{AgreesFrom, ReadsOnly, HasNumber, Means, of_number, OpensBetween, side_in}
use Rattle.laws_evaluation.specs.Opening.Meant.{HoldsMeant, AreMeant, FaultMeant, IsThere, BoundAreRead, AreOrdered}
use Rattle.laws_evaluation.proofs.Opening.Depths.{means_by}
use Rattle.laws_evaluation.proofs.Opening.Followed.{ReadsMeant, MeansFrom, followed, agrees_piece, agrees_first, agrees_rest}
use Rattle.laws_evaluation.proofs.Opening.Frames.{found_bound}
use Rattle.laws_evaluation.proofs.Opening.Opening.{goes_grows, record_grows, frame_keeps, one_after_another, bound_after, others_stay, has_last, has_or_not, moved, faults_at}

-- what reads only these reads only those that they are
pub reads_weaker : {A : Type 0} (P Q : Lookup → Variable → Type 0) → ((place : Lookup) (x : Variable) → P place x → Q place x) → (t : Dialogue A) → ReadsOnly P t → ReadsOnly Q t
reads_weaker P Q up (Ends end) h = tt
reads_weaker P Q up (Asks q next) h = λ answer. reads_weaker P Q up (next answer) (h answer)
reads_weaker P Q up (Reads place x next) h = (up place x h.0, λ value. reads_weaker P Q up (next value) (h.1 value))

module _ (outer : List (List BoundRow)) (stage_with : List BoundRow → Stage) (reading_with : List BoundRow → Reading) (export : Bool) (overrides : ℕ → Option (List ℕ)) (is_read : ℕ → Bool)
    (right_side : Variable → Option (Dialogue Value)) (answers : QuestionAnswers) (names : ℕ → List ℕ) (bound : BoundAreRead outer reading_with names) where
  abbrev Leads : List Assigned → List BoundRow → List Entry → List BoundRow → List Entry → Option Fault → Type 0
  Leads = Assigns outer stage_with reading_with export overrides is_read

  abbrev Side : List BoundRow → Assigned → Dialogue Value
  Side = side_in outer stage_with reading_with export overrides is_read

  abbrev Ordered : List BoundRow → List Entry → List Assigned → Type 0
  Ordered = AreOrdered outer stage_with reading_with export overrides is_read right_side answers names

  abbrev Meant : List BoundRow → List Assigned → List BoundRow → Type 0
  Meant own = AreMeant outer right_side answers names own is_read

  keeps : {xs : List Assigned} {own last : List BoundRow} {old new : List Entry} {fault : Option Fault} → Leads xs own old last new fault → (n : ℕ) → HoldsMeant outer right_side answers names own n → HoldsMeant outer right_side answers names last n
  keeps h n m = record { row = m.row; found = frame_keeps outer stage_with reading_with export overrides is_read h n m.row m.found; means = m.means }

  -- what is there is read, and means what is read
  there_is_read : (own : List BoundRow) (old : List Entry) (earlier : List Assigned) (frame : List BoundRow) (from : List Entry) → Leads earlier own old frame from None → Meant own earlier frame
      → (place : Lookup) (x : Variable) → IsThere outer right_side answers names own is_read earlier x → ReadsMeant right_side answers (reading_with frame) place x
  there_is_read own old earlier frame from before meant place x t =
      let m = ⊎_elim (λ h. meant t.number h.0 h.1) (λ h. keeps before t.number h) t.there in
      record {
        value = m.row.value;
        read = ap (reading_with frame place) t.is ∙ bound.read frame place t.number m.row m.found;
        means = subst (λ y. Means right_side answers y (Ok m.row.value)) (sym t.is) m.means;
      }

  -- what the right side of a variable was evaluated to is what the variable means
  one_means : (variables earlier later : List Assigned) (a : Assigned) (own frame : List BoundRow) (old from till : List Entry) (r : Result Value Fault) → Ordered own old variables → OpensBetween outer own is_read variables earlier a later
      → Leads earlier own old frame from None → Meant own earlier frame → AgreesFrom answers from till → DialogueGoes (reading_with frame) (Side frame a) from till r → Means right_side answers (of_number names a.number) r
  one_means variables earlier later a own frame old from till r ordered o before meant agrees goes =
      let reads = reads_weaker _ _ (there_is_read own old earlier frame from before meant) (Side frame a) (ordered.reads earlier later a frame from o before) in
      let m = followed right_side answers (reading_with frame) (Side frame a) from till r reads (λ piece e. agrees_piece answers from till piece agrees e) goes in
      means_by right_side answers (of_number names a.number) (Side frame a) r m.deep (ordered.means earlier later a frame from o before) m.is

  -- it is opened there: nothing before binds its number
  opens_here : (variables earlier later : List Assigned) (a : Assigned) (own frame : List BoundRow) (old from : List Entry) → variables ≡ earlier ++ a ∷ later → Leads earlier own old frame from None → is_read a.number ≡ true → found_in (frame ∷ outer) a.number ≡ None → OpensBetween outer own is_read variables earlier a later
  opens_here variables earlier later a own frame old from order before read unbound = record {
    order = order;
    opened = record { read = read; unbound = sym (others_stay outer stage_with reading_with export overrides is_read a.number before first) ∙ unbound };
    first = first;
  }
    where
      first : HasNumber earlier a.number → ⊥
      first h =
          let s = bound_after outer stage_with reading_with export overrides is_read a.number before h read in
          let t = subst (λ o. IsSome o) unbound s in absurd (cc)

  skipped_meant : (earlier : List Assigned) (a : Assigned) (own frame : List BoundRow) (old from : List Entry) → Leads earlier own old frame from None → (is_read a.number ≡ false) ⊎ IsSome (found_in (frame ∷ outer) a.number) → Meant own earlier frame → Meant own (earlier ++ a ∷ []) frame
  skipped_meant earlier a own frame old from before why meant n h o =
      elim (has_last earlier a n h) [ inl i ↦ meant n i o | inr e ↦ at_last e why ]
    where
      at_bound : n ≡ a.number → IsSome (found_in (frame ∷ outer) a.number) → HasNumber earlier n ⊎ (HasNumber earlier n → ⊥) → HoldsMeant outer right_side answers names frame n
      at_bound e there (inl i) = meant n i o
      at_bound e there (inr none) =
          let f : found_in (frame ∷ outer) n ≡ None = others_stay outer stage_with reading_with export overrides is_read n before none ∙ o.unbound in
          let s = subst (λ m. IsSome (found_in (frame ∷ outer) m)) (sym e) there in
          let t = subst (λ it. IsSome it) f s in absurd (cc)

      at_last : n ≡ a.number → (is_read a.number ≡ false) ⊎ IsSome (found_in (frame ∷ outer) a.number) → HoldsMeant outer right_side answers names frame n
      at_last e (inl unread) = let r = subst (λ m. is_read m ≡ true) e o.read in absurd (cc)
      at_last e (inr there) = at_bound e there (has_or_not earlier n)

  bound_meant : (earlier : List Assigned) (a : Assigned) (own frame next : List BoundRow) (from mid : List Entry) (value : Value) → Leads (a ∷ []) frame from next mid None → Rebinds frame (row_of export a value) next → Means right_side answers (of_number names a.number) (Ok value) → Meant own earlier frame → Meant own (earlier ++ a ∷ []) next
  bound_meant earlier a own frame next from mid value step binds means meant n h o =
      elim (has_last earlier a n h) [
        | inl i ↦ keeps step n (meant n i o)
        | inr e ↦ record {
          row = row_of export a value;
          found = subst (λ m. found_in (next ∷ outer) m ≡ Some (row_of export a value)) (sym e) (found_bound outer frame next (row_of export a value) binds);
          means = subst (λ m. Means right_side answers (of_number names m) (Ok value)) (sym e) means;
        }
      ]

  opening_on : (variables done : List Assigned) {more : List Assigned} (own : List BoundRow) {frame last : List BoundRow} (old : List Entry) {from new : List Entry} → Ordered own old variables → variables ≡ done ++ more → Leads done own old frame from None → Meant own done frame → AgreesFrom answers from new → Leads more frame from last new None → Meant own variables last
  opening_on variables done own old ordered order before meant agrees (all {own = frame}) = subst (λ l. Meant own l frame) (sym (order ∙ append-nil done)) meant
  opening_on variables done own old ordered order before meant agrees (skipped {a = a} {more = more} {own = frame} {old = from} why rest) =
      opening_on variables (done ++ a ∷ []) own old ordered (moved variables done more a order)
      (one_after_another outer stage_with reading_with export overrides is_read before (skipped why all)) (skipped_meant done a own frame old from before why meant) agrees rest
  opening_on variables done own old ordered order before meant agrees (opened {a = a} {more = more} {own = frame} {next = next} {last = last} {old = from} {mid = mid} {new = new} value read unbound goes binds sorted rest) =
      let first = goes_grows outer stage_with reading_with export overrides is_read frame a from mid (Ok value) goes in
      let others = record_grows outer stage_with reading_with export overrides is_read rest in
      let o = opens_here variables done more a own frame old from order before read unbound in
      let means = one_means variables done more a own frame old from mid (Ok value) ordered o before meant (agrees_first answers from mid new first others agrees) goes in
      let step : Leads (a ∷ []) frame from next mid None = opened value read unbound goes binds sorted all in
      opening_on variables (done ++ a ∷ []) own old ordered (moved variables done more a order)
      (one_after_another outer stage_with reading_with export overrides is_read before step) (bound_meant done a own frame next from mid value step binds means meant)
      (agrees_rest answers from mid new first others agrees) rest

  -- the opening unfolds: where questions have the answers that are given, each variable that is opened has the value that it means
  pub opened_means : (variables : List Assigned) (own last : List BoundRow) (old new : List Entry) → Ordered own old variables → AgreesFrom answers old new → Leads variables own old last new None → Meant own variables last
  opened_means variables own last old new ordered agrees h = opening_on variables [] own old ordered refl all (λ n i o. absurd i) agrees h

  prefix_ordered : (own : List BoundRow) (old : List Entry) (variables earlier later : List Assigned) → variables ≡ earlier ++ later → Ordered own old variables → Ordered own old earlier
  prefix_ordered own old variables earlier later e ordered = record {
    means = λ xs ys a frame from o before. ordered.means xs (ys ++ later) a frame from (among xs ys a o) before;
    reads = λ xs ys a frame from o before. ordered.reads xs (ys ++ later) a frame from (among xs ys a o) before;
  }
    where
      among : (xs ys : List Assigned) (a : Assigned) → OpensBetween outer own is_read earlier xs a ys → OpensBetween outer own is_read variables xs a (ys ++ later)
      among xs ys a o = record { order = e ∙ (ap (λ l. l ++ later) o.order ∙ append_assoc xs (a ∷ ys) later); opened = o.opened; first = o.first }

  -- a fault that ends the opening is what one variable means that is opened, and those before it have the values that they mean
  pub fault_means : (variables : List Assigned) (own last : List BoundRow) (old new : List Entry) (fault : Fault) → Ordered own old variables → AgreesFrom answers old new → Leads variables own old last new (Some fault) → FaultMeant outer right_side answers names own is_read variables last fault
  fault_means variables own last old new fault ordered agrees h =
      let f = faults_at outer stage_with reading_with export overrides is_read h in
      let first = record_grows outer stage_with reading_with export overrides is_read f.before in
      let others = goes_grows outer stage_with reading_with export overrides is_read last f.it f.from new (Err fault) f.goes in
      let meant = opened_means f.earlier own last old f.from (prefix_ordered own old variables f.earlier (f.it ∷ f.later) f.opens.order ordered) (agrees_first answers old f.from new first others agrees) f.before in
      record {
        earlier = f.earlier;
        it = f.it;
        later = f.later;
        opens = f.opens;
        means = one_means variables f.earlier f.later f.it own last old f.from new (Err fault) ordered f.opens f.before meant (agrees_rest answers old f.from new first others agrees) f.goes;
        others = meant;
      }

  -- what is evaluated in the frame that was opened, and reads only what is opened or was bound before, means what it gives
  pub means_after : {A : Type 0} (variables : List Assigned) (own last : List BoundRow) (old mid from new : List Entry) (t : Dialogue A) (r : Result A Fault) → Ordered own old variables → AgreesFrom answers old mid → Leads variables own old last mid None
      → ReadsOnly (λ place x. IsThere outer right_side answers names own is_read variables x) t → AgreesFrom answers from new → DialogueGoes (reading_with last) t from new r → MeansFrom right_side answers t r
  means_after variables own last old mid from new t r ordered first h reads agrees goes =
      followed right_side answers (reading_with last) t from new r (reads_weaker _ _ (there_is_read own old variables last mid h (opened_means variables own last old mid ordered first h)) t reads) (λ piece e. agrees_piece answers from new piece agrees e) goes
