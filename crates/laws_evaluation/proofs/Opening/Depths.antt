-- A variable has one meaning, however deep it is looked for.
use Rattle.std.proofs.Common.{◌≡◌, ◌≤◌, ℕ, zero, suc, ◌+◌, ◌-◌, Option, Some, None, option_and_then, Result, Ok, Err, refl, sym, ap, ◌∙◌, arith}
use Rattle.meaning_dialogues.specs.Faults.{Fault}
use Rattle.meaning_dialogues.specs.Dialogue.{Dialogue, Ends, Asks, Reads, Lookup, around, Variable}
use Rattle.meaning_dialogues.specs.Evaluation.{Value}
use Rattle.meaning_dialogues.specs.Meaning.{QuestionAnswers, Meaning, with_meaning, meaning, variable_meaning}
use Rattle.laws_evaluation.specs.Opening.Opened.{Means, MeansAs}

kept_read : {A : Type 0} (fewer more : Value → Meaning A) (r : Result A Fault) (m k : Meaning Value) → ((s : Result Value Fault) → m ≡ Some s → k ≡ Some s) → ((v : Value) → fewer v ≡ Some r → more v ≡ Some r) → with_meaning m fewer ≡ Some r → with_meaning k more ≡ Some r
kept_read fewer more r None k up go e = absurd (cc)
kept_read fewer more r (Some (Err f)) k up go e = ap (λ x. with_meaning x more) (up (Err f) refl) ∙ e
kept_read fewer more r (Some (Ok v)) k up go e = ap (λ x. with_meaning x more) (up (Ok v) refl) ∙ go v e

-- a dialogue that means something means it too where more variables mean something
pub more_mean : {A : Type 0} (answers : QuestionAnswers) (fewer more : Lookup → Variable → Meaning Value) → ((place : Lookup) (x : Variable) (s : Result Value Fault) → fewer place x ≡ Some s → more place x ≡ Some s) → (t : Dialogue A) (r : Result A Fault) → meaning answers fewer t ≡ Some r → meaning answers more t ≡ Some r
more_mean answers fewer more up (Ends end) r h = h
more_mean answers fewer more up (Asks q next) r h =
    elim (answers q) as (λ o. option_and_then (λ answer. meaning answers fewer (next answer)) o ≡ Some r → option_and_then (λ answer. meaning answers more (next answer)) o ≡ Some r) [ None ↦ λ e. e | Some a ↦ λ e. more_mean answers fewer more up (next a) r e ] h
more_mean answers fewer more up (Reads place x next) r h =
    kept_read _ _ r (fewer place x) (more place x) (up place x) (λ v e. more_mean answers fewer more up (next v) r e) h

at_side : {R : Type 0} (f g : Dialogue Value → Option R) (r : R) → ((d : Dialogue Value) → f d ≡ Some r → g d ≡ Some r) → (o : Option (Dialogue Value)) → option_and_then f o ≡ Some r → option_and_then g o ≡ Some r
at_side f g r up None e = absurd (cc)
at_side f g r up (Some d) e = up d e

module _ (right_side : Variable → Option (Dialogue Value)) (answers : QuestionAnswers) where
  -- what a variable means at one depth it means at the next, wherever it is read
  pub deeper : (deep : ℕ) (place there : Lookup) (x : Variable) (r : Result Value Fault) → variable_meaning right_side answers deep place x ≡ Some r → variable_meaning right_side answers (suc deep) there x ≡ Some r
  deeper zero place there x r h = absurd (cc)
  deeper (suc deep) place there x r h =
      at_side _ _ r (λ d e. more_mean answers (variable_meaning right_side answers deep) (variable_meaning right_side answers (suc deep)) (λ p y s. deeper deep p p y s) d r e) (right_side x) h

  deeper_by : (more deep : ℕ) (place there : Lookup) (x : Variable) (r : Result Value Fault) → variable_meaning right_side answers (suc deep) place x ≡ Some r → variable_meaning right_side answers (suc deep + more) there x ≡ Some r
  deeper_by zero deep place there x r h =
      let here : variable_meaning right_side answers (suc deep) there x ≡ Some r = h in
      let e : suc deep + 0 ≡ suc deep = omega arith in
      rw e here
  deeper_by (suc more) deep place there x r h =
      let e : suc deep + suc more ≡ suc (suc deep + more) = omega arith in
      rw e (deeper (suc deep + more) there there x r (deeper_by more deep place there x r h))

  -- what a variable means at some depth it means from there on
  pub meant_from : (deep : ℕ) (place : Lookup) (x : Variable) (r : Result Value Fault) → variable_meaning right_side answers deep place x ≡ Some r → Means right_side answers x r
  meant_from zero place x r h = absurd (cc)
  meant_from (suc deep) place x r h = record {
    deep = suc deep;
    is = λ n there le. let e : n ≡ suc deep + (n - suc deep) = omega (arith, le) in rw e (deeper_by (n - suc deep) deep place there x r h);
  }

  -- a variable means one value or one fault
  pub one_meaning : (x : Variable) (r s : Result Value Fault) → Means right_side answers x r → Means right_side answers x s → r ≡ s
  one_meaning x r s m n =
      let a = m.is (m.deep + n.deep) around (omega arith) in
      let b = n.is (m.deep + n.deep) around (omega arith) in
      cc

  -- a variable whose right side means what a dialogue means from some depth on
  pub means_by : (x : Variable) (d : Dialogue Value) (r : Result Value Fault) (deep : ℕ) → MeansAs right_side answers x d → ((n : ℕ) → deep ≤ n → meaning answers (variable_meaning right_side answers n) d ≡ Some r) → Means right_side answers x r
  means_by x d r deep side h = record { deep = suc deep; is = at }
    where
      at : (n : ℕ) (place : Lookup) → suc deep ≤ n → variable_meaning right_side answers n place x ≡ Some r
      at zero place le = absurd (omega (arith, le))
      at (suc n) place le = ap (option_and_then (λ it. meaning answers (variable_meaning right_side answers n) it)) side.is ∙ (sym (side.alike n) ∙ h n (omega (arith, le)))
