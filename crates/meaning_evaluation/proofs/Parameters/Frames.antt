-- Frames and words of parameters, one value more after another.
use Rattle.std.proofs.Common.{◌≡◌, ℕ, zero, suc, ◌+◌, ◌==◌, ◌<◌, Bool, true, false, cond, if◌then◌else◌, List, [], ◌∷◌, ◌++◌, length, get_or, drop, map, Option, Some, refl, sym, ap, ◌∙◌, subst, append_assoc, append-nil, add-one, drop-cons, arith}
use Rattle.std.specs.Option.{option_map}
use Rattle.just_value.specs.Frames.{BoundRow, Rebinds, bound_in}
use Rattle.meaning_dialogues.specs.Evaluation.{Value}
use Rattle.meaning_dialogues.specs.Calls.{Frame, HasValues, bound, empty, with_parameters}
use Rattle.meaning_evaluation.specs.Stages.Parameters.{Formal, bound_value, positional_words}
use Rattle.meaning_evaluation.specs.Parameters.Bindings.{HasParameters, frame_after, words_for, words_passed}

-- what is left of a list from a place on begins with the element there
pub at_place : {A : Type 0} (es : List A) (i : ℕ) (x : A) → i < length es → x ≡ get_or es i x → drop i es ≡ x ∷ drop (i + 1) es
at_place es i x lt is = rw add-one (drop-cons es i x lt ∙ ap (λ y. y ∷ drop (suc i) es) (sym is))

-- what begins the rest of a list is the element at its place
pub place_from : (formals : List Formal) (n : ℕ) (x : Formal) (left : List Formal) → x ∷ left ≡ drop n formals → (n < length formals) × (x ≡ get_or formals n x) × (left ≡ drop (suc n) formals)
place_from [] zero x left e = absurd (cc)
place_from [] (suc n) x left e = absurd (cc)
place_from (formal ∷ formals) zero x left e = (omega arith, cc, cc)
place_from (formal ∷ formals) (suc n) x left e = let rest = place_from formals n x left e in (omega (arith, rest.0), rest.1, rest.2)

-- no value is bound
pub nothing_bound : (frame : Frame) (numbers : List ℕ) → with_parameters frame numbers [] ≡ frame
nothing_bound frame [] = refl
nothing_bound frame (n ∷ numbers) = refl

bound_more : (lists : Bool) (frame : Frame) (formals : List Formal) (values : List Value) (x : Formal) (v : Value) → length values < length formals → x ≡ get_or formals (length values) x
    → with_parameters frame (map (λ formal. formal.number) formals) (map (bound_value lists) (values ++ v ∷ [])) ≡ bound (with_parameters frame (map (λ formal. formal.number) formals) (map (bound_value lists) values)) x.number (bound_value lists v)
bound_more lists frame [] values x v lt is = absurd (omega (arith, lt))
bound_more lists frame (formal ∷ formals) [] x v lt is =
    nothing_bound (bound frame formal.number (bound_value lists v)) (map (λ formal. formal.number) formals) ∙ ap (λ y. bound frame y.number (bound_value lists v)) (sym is)
bound_more lists frame (formal ∷ formals) (value ∷ values) x v lt is =
    bound_more lists (bound frame formal.number (bound_value lists value)) formals values x v (omega (arith, lt)) is

-- one value more is bound to the number of the parameter at its place
pub frame_more : (lists : Bool) (formals : List Formal) (values : List Value) (x : Formal) (v : Value) → length values < length formals → x ≡ get_or formals (length values) x → frame_after lists formals (values ++ v ∷ []) ≡ bound (frame_after lists formals values) x.number (bound_value lists v)
frame_more lists formals values x v lt is = bound_more lists empty formals values x v lt is

-- one value more gives the words of the parameter at its place
pub words_more : (formals : List Formal) (values : List Value) (x : Formal) (v : Value) → length values < length formals → x ≡ get_or formals (length values) x → words_for formals (values ++ v ∷ []) ≡ words_for formals values ++ positional_words x v
words_more [] values x v lt is = absurd (omega (arith, lt))
words_more (formal ∷ []) [] x v lt is = append-nil (positional_words formal v) ∙ ap (λ y. positional_words y v) (sym is)
words_more (formal ∷ other ∷ formals) [] x v lt is = append-nil (positional_words formal v) ∙ ap (λ y. positional_words y v) (sym is)
words_more (formal ∷ formals) (value ∷ values) x v lt is = ap (λ words. positional_words formal value ++ words) (words_more formals values x v (omega (arith, lt)) is) ∙ sym (append_assoc (positional_words formal value) (words_for formals values) (positional_words x v))

-- where words are passed, the words after one value more
pub passed_more : (passes : Bool) (formals : List Formal) (values : List Value) (x : Formal) (v : Value) → length values < length formals → x ≡ get_or formals (length values) x → words_passed passes formals (values ++ v ∷ []) ≡ words_passed passes formals values ++ (if passes then positional_words x v else [])
passed_more true formals values x v lt is = words_more formals values x v lt is
passed_more false formals values x v lt is = refl

chosen : (t : Bool) (b : BoundRow) (o : Option BoundRow) → option_map (λ binding. binding.value) (cond t (Some b) o) ≡ cond t (Some b.value) (option_map (λ binding. binding.value) o)
chosen true b o = refl
chosen false b o = refl

-- a binding in memory is one in the frame
pub rebound : (frame : Frame) (own next : List BoundRow) (b : BoundRow) → HasValues own frame → Rebinds own b next → HasValues next (bound frame b.number b.value)
rebound frame own next b has binds = record { at = λ n. ap (option_map (λ binding. binding.value)) (binds n) ∙ (chosen (n == b.number) b (bound_in own n) ∙ ap (λ o. cond (n == b.number) (Some b.value) o) (has.at n)) }

-- before the first parameter nothing is bound, and there are no words
pub has_none : (passes lists : Bool) (formals : List Formal) (own : List BoundRow) (words : List (List ℕ)) → HasValues own empty → words ≡ [] → HasParameters passes lists formals [] own words
has_none passes lists formals own words has none = record {
  has = subst (HasValues own) (sym (nothing_bound empty (map (λ formal. formal.number) formals))) has;
  passed = none ∙ no_words passes formals;
}
  where
    no_words : (passes : Bool) (formals : List Formal) → [] ≡ words_passed passes formals []
    no_words true [] = refl
    no_words true (formal ∷ formals) = refl
    no_words false formals = refl

-- a value is bound, and its words are put after those before
pub has_more : (passes lists : Bool) (formals : List Formal) (values : List Value) (own next : List BoundRow) (words more : List (List ℕ)) (b : BoundRow) (x : Formal) (v : Value) → HasParameters passes lists formals values own words → length values < length formals → x ≡ get_or formals (length values) x
    → Rebinds own b next → b.number ≡ x.number → b.value ≡ bound_value lists v → more ≡ words ++ (if passes then positional_words x v else []) → HasParameters passes lists formals (values ++ v ∷ []) next more
has_more passes lists formals values own next words more b x v h lt is binds number value grown = record {
  has = rw (frame_more lists formals values x v lt is, ← number, ← value) (rebound (frame_after lists formals values) own next b h.has binds);
  passed = grown ∙ (ap (λ w. w ++ (if passes then positional_words x v else [])) h.passed ∙ sym (passed_more passes formals values x v lt is));
}
