-- Frames of parameters, one binding after another.
use Rattle.std.proofs.Common.{◌≡◌, ℕ, ◌==◌, Bool, true, false, cond, List, [], ◌∷◌, Option, Some, refl, sym, ap, subst, ◌∙◌}
use Rattle.std.specs.Option.{option_map}
use Rattle.just_value.specs.Frames.{BoundRow, Rebinds, bound_in}
use Rattle.meaning_dialogues.specs.Calls.{Frame, HasValues, bound, with_parameters}
use Rattle.meaning_dialogues.specs.Evaluation.{Value}

-- bindings that have the values of a frame in which the rest gives what all gave in the first frame
pub record Binds (frame : Frame) (numbers : List ℕ) (values : List Value) (own : List BoundRow) (left : List ℕ) (rest : List Value) : Type 0 where
  pub now : Frame
  pub has : HasValues own now
  pub leads : with_parameters frame numbers values ≡ with_parameters now left rest

chosen : (t : Bool) (b : BoundRow) (o : Option BoundRow) → option_map (λ binding. binding.value) (cond t (Some b) o) ≡ cond t (Some b.value) (option_map (λ binding. binding.value) o)
chosen true b o = refl
chosen false b o = refl

rebound : (frame : Frame) (own next : List BoundRow) (b : BoundRow) → HasValues own frame → Rebinds own b next → HasValues next (bound frame b.number b.value)
rebound frame own next b has binds = record { at = λ n. ap (option_map (λ binding. binding.value)) (binds n) ∙ (chosen (n == b.number) b (bound_in own n) ∙ ap (λ o. cond (n == b.number) (Some b.value) o) (has.at n)) }

pub binds_first : (frame : Frame) (numbers : List ℕ) (values : List Value) (own : List BoundRow) → HasValues own frame → Binds frame numbers values own numbers values
binds_first frame numbers values own has = record { now = frame; has = has; leads = refl }

pub binds_more : (frame : Frame) (numbers : List ℕ) (values : List Value) (own next : List BoundRow) (b : BoundRow) (left : List ℕ) (rest : List Value)
    → Binds frame numbers values own (b.number ∷ left) (b.value ∷ rest) → Rebinds own b next → Binds frame numbers values next left rest
binds_more frame numbers values own next b left rest h binds = record { now = bound h.now b.number b.value; has = rebound h.now own next b h.has binds; leads = h.leads }

nothing_more : (frame : Frame) (left : List ℕ) → with_parameters frame left [] ≡ frame
nothing_more frame [] = refl
nothing_more frame (n ∷ left) = refl

pub binds_all : (frame : Frame) (numbers : List ℕ) (values : List Value) (own : List BoundRow) (rest : List Value) → Binds frame numbers values own [] rest → HasValues own (with_parameters frame numbers values)
binds_all frame numbers values own rest h = subst (HasValues own) (sym h.leads) h.has

pub binds_over : (frame : Frame) (numbers : List ℕ) (values : List Value) (own : List BoundRow) (left : List ℕ) → Binds frame numbers values own left [] → HasValues own (with_parameters frame numbers values)
binds_over frame numbers values own left h = subst (HasValues own) (sym (h.leads ∙ nothing_more h.now left)) h.has
