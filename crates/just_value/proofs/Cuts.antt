-- Where words are cut at `=` and `/`, and how the overrides go on word by word.
use Rattle.std.proofs.Common.{ℕ, List, [], ◌∷◌, ◌++◌, Bool, true, false, not, cond, map, take, drop, length, get_or, ◌≡◌, ◌≢◌, ◌<◌, ◌+◌, ◌-◌, refl, sym, ap, ◌∙◌, arith, Some, None, append_assoc, add-one, drop-cons}
use Rattle.std.proofs.lemmas.Bool.{eqb-true, eq-eqb, false_from_ne_true}
use Rattle.std.proofs.lemmas.List.{drop-map, take_all, length-drop}
use Rattle.std.proofs.lemmas.List.Elements.{All-from_get_or}
use Rattle.std.proofs.lemmas.List.Folds.{list_any_none}
use Rattle.std.proofs.lemmas.List.Sums.{suffix_len_is, take_while-cons}
use Rattle.std.proofs.Math.Dec.{eqb}
use Rattle.std.specs.List.{list_any, suffix_len, prefix_len}
use Rattle.just_value.specs.declared.positional.Override.{Override}
use Rattle.just_value.specs.Words.{is_slash, is_override, override_of, leading, slash_end, behind, split}

-- a byte that stands nowhere
pub stands_nowhere : (c : ℕ) (word : List ℕ) → ((i : ℕ) → i < length word → get_or word i 0 ≢ c) → list_any (λ b. eqb b c) word ≡ false
stands_nowhere c word h = list_any_none (λ b. eqb b c) word (All-from_get_or (λ b. eqb b c ≡ false) word 0 (λ i lt. false_from_ne_true (eqb (get_or word i 0) c) (λ e. h i lt (eqb-true (get_or word i 0) c e))))

-- the last `/` is at k
pub stands_last : (word : List ℕ) (k : ℕ) → k < length word → get_or word k 0 ≡ 47 → ((i : ℕ) → k < i → i < length word → get_or word i 0 ≢ 47) → slash_end word ≡ k + 1
stands_last word k lt at later =
    let p : ℕ → Bool = λ b. not (is_slash b) in
    let e : suffix_len p word ≡ length word - (k + 1) =
    suffix_len_is p word (k + 1) 0 (omega (arith, lt))
    (λ i from below. ap not (false_from_ne_true (eqb (get_or word i 0) 47) (λ t. later i (omega (arith, from)) below (eqb-true (get_or word i 0) 47 t))))
    (λ _. rw (let same : k + 1 - 1 ≡ k = omega arith in same) (ap not (eq-eqb (get_or word k 0) 47 at)))
    in rw e (omega (arith, lt))

pub leads_on : (word : List ℕ) (words : List (List ℕ)) → is_override word ≡ true → leading (word ∷ words) ≡ override_of word ∷ leading words
leads_on word words e = rw (take_while-cons is_override word words) (rw e refl)

pub leads_no_more : (word : List ℕ) (words : List (List ℕ)) → is_override word ≡ false → leading (word ∷ words) ≡ []
leads_no_more word words e = rw (take_while-cons is_override word words) (rw e refl)

found_there : (b : Bool) (found known : Override) → Some found ≡ cond b (Some known) None → (b ≡ true) × (found ≡ known)
found_there true found known e = (refl, let f : Some found ≡ Some known = e in cc)
found_there false found known e = absurd (let f : Some found ≡ None = e in cc)

drop_more : {X : Type 0} (values : List X) (i : ℕ) (d : X) → i < length values → drop i values ≡ get_or values i d ∷ drop (i + 1) values
drop_more values i d lt = rw (add-one i) (drop-cons values i d lt)

leading_length : (words : List (List ℕ)) → length (leading words) ≡ prefix_len is_override words
leading_length [] = refl
leading_length (word ∷ words) = elim (is_override word) as (λ v. is_override word ≡ v → length (leading (word ∷ words)) ≡ prefix_len is_override (word ∷ words)) [
  | true ↦ λ e. let on : leading (word ∷ words) ≡ override_of word ∷ leading words = leads_on word words e in let more : length (leading words) ≡ prefix_len is_override words = leading_length words in rw (on, e) (omega (arith, more))
  | false ↦ λ e. let off : leading (word ∷ words) ≡ [] = leads_no_more word words e in rw (off, e) refl
] refl

-- one override more
pub overrides_go_on : {X : Type 0} (f : X → List ℕ) (values : List X) (i : ℕ) (d : X) (word : List ℕ) (o o' whole : List Override) (found : Override) → i < length values → word ≡ f (get_or values i d) → Some found ≡ cond (is_override word) (Some (override_of word)) None → o' ≡ o ++ found ∷ [] → whole ≡ o ++ leading (map f (drop i values)) → whole ≡ o' ++ leading (map f (drop (i + 1) values))
overrides_go_on f values i d word o o' whole found lt is_word told grew so_far =
    let there : (is_override word ≡ true) × (found ≡ override_of word) = found_there (is_override word) found _ told in
    let others : List (List ℕ) = map f (drop (i + 1) values) in
    let first : map f (drop i values) ≡ word ∷ others = ap (λ l. map f l) (drop_more values i d lt) ∙ ap (λ w. w ∷ others) (sym is_word) in
    let step : leading (map f (drop i values)) ≡ found ∷ leading others =
    ap leading first ∙ leads_on word others there.0 ∙ ap (λ x. x ∷ leading others) (sym there.1)
    in so_far ∙ ap (λ l. o ++ l) step ∙ sym (append_assoc o (found ∷ []) (leading others)) ∙ ap (λ l. l ++ leading others) (sym grew)

-- the words after the overrides are those from the first that is none
pub goes_behind : {X : Type 0} (f : X → List ℕ) (values : List X) (o : List Override) (n : ℕ) → o ≡ leading (map f values) → n ≡ length o → behind o (map f (take (length values - n) (drop n values))) ≡ split (map f values)
goes_behind f values o n e count =
    let whole : take (length values - n) (drop n values) ≡ drop n values = take_all (length values - n) (drop n values) (rw (length-drop n values) (omega arith)) in
    let same : n ≡ prefix_len is_override (map f values) = count ∙ ap length e ∙ leading_length (map f values) in
    let rest : map f (drop n values) ≡ drop (prefix_len is_override (map f values)) (map f values) = sym (drop-map f n values) ∙ ap (λ k. drop k (map f values)) same in
    rw whole (ap (λ l. behind l (map f (drop n values))) e ∙ ap (λ l. behind (leading (map f values)) l) rest)
