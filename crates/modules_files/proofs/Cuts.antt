-- Where keys are cut, and the justfiles of a folder.
use Rattle.std.proofs.Common.{◌≡◌, sym, ◌∙◌, ap, Bool, true, false, cond, ◌&&◌, ◌||◌, ◌==◌, List, [], ◌∷◌, ◌++◌, ℕ, zero, suc, ◌+◌, ◌<◌, ◌≢◌, Option, Some, refl, arith, length, take, drop, get_or}
use Rattle.std.specs.BTreeMap.{BTreeMap}
use Rattle.std.specs.Borrow.{Bor}
use Rattle.std.specs.Global.{Vec}
use Rattle.std.specs.List.{filter}
use Rattle.std.specs.Map.{update}
use Rattle.std.specs.Option.{option_map_or}
use Rattle.std.specs.Str.{bytes_eq}
use Rattle.std.proofs.lemmas.Bool.{ne_eqb}
use Rattle.std.proofs.lemmas.List.Elements.{filter-append}
use Rattle.std.proofs.lemmas.List.Folds.{list_any_at}
use Rattle.std.proofs.lemmas.Slice.Eq.{bytes_eq-Decides}
use Rattle.modules_files.specs.Found.{AreGrouped, at_text, borrowed, folder_of, has_slash, is_justfile, is_of, keys_at, name_of}

abbrev Text : Type 0
Text = List ℕ

or_false : (a b : Bool) → a ≡ false → b ≡ false → (a || b) ≡ false
or_false true b e f = e
or_false false b e f = f

-- ---- where a key is cut

pub no_slash : (bs : Text) → ((i : ℕ) → i < length bs → get_or bs i 0 ≢ 47) → has_slash bs ≡ false
no_slash [] h = refl
no_slash (b ∷ bs) h = or_false (b == 47) (has_slash bs) (ne_eqb b 47 (h 0 (omega arith))) (no_slash bs (λ i lt. h (suc i) (omega (arith, lt))))

pub none_in : (bs : Text) → has_slash bs ≡ false → (folder_of bs ≡ []) × (name_of bs ≡ bs)
none_in [] e = (refl, refl)
none_in (b ∷ bs) e = (ap (λ t. cond t (b ∷ folder_of bs) []) e, ap (λ t. cond t (name_of bs) (b ∷ bs)) e)

pub some_in : (b : ℕ) (bs : Text) → has_slash (b ∷ bs) ≡ true → (folder_of (b ∷ bs) ≡ b ∷ folder_of bs) × (name_of (b ∷ bs) ≡ name_of bs)
some_in b bs e = (ap (λ t. cond t (b ∷ folder_of bs) []) e, ap (λ t. cond t (name_of bs) (b ∷ bs)) e)

slash_at : (bs : Text) (k : ℕ) → k < length bs → get_or bs k 0 ≡ 47 → has_slash bs ≡ true
slash_at bs k lt is = list_any_at (λ b. b == 47) bs k 0 lt (ap (λ b. b == 47) is)

cut_after : (bs : Text) (k : ℕ) → k < length bs → get_or bs k 0 ≡ 47 → ((i : ℕ) → k < i → i < length bs → get_or bs i 0 ≢ 47) → (folder_of bs ≡ take (suc k) bs) × (name_of bs ≡ drop (suc k) bs)
cut_after [] k lt is h = absurd (omega (arith, lt))
cut_after (b ∷ bs) zero lt is h =
    let p = some_in b bs (slash_at (b ∷ bs) 0 lt is) in
    let n = none_in bs (no_slash bs (λ i l. h (suc i) (omega arith) (omega (arith, l)))) in
    (p.0 ∙ ap (λ f. b ∷ f) n.0, p.1 ∙ n.1)
cut_after (b ∷ bs) (suc k) lt is h =
    let p = some_in b bs (slash_at (b ∷ bs) (suc k) lt is) in
    let n = cut_after bs k (omega (arith, lt)) is (λ i l m. h (suc i) (omega (arith, l)) (omega (arith, m))) in
    (p.0 ∙ ap (λ f. b ∷ f) n.0, p.1 ∙ n.1)

abbrev IsLastSlash : Text → ℕ → Type 0
IsLastSlash bs k = (k < length bs) × (get_or bs k 0 ≡ 47) × ((i : ℕ) → k < i → i < length bs → get_or bs i 0 ≢ 47)

pub cut_at : (bs : Text) (k : ℕ) → IsLastSlash bs k → (folder_of bs ≡ take (k + 1) bs) × (name_of bs ≡ drop (k + 1) bs)
cut_at bs k h =
    let n = cut_after bs k h.0 h.1 h.2 in
    let e : suc k ≡ k + 1 = omega arith in
    (n.0 ∙ ap (λ m. take m bs) e, n.1 ∙ ap (λ m. drop m bs) e)

-- ---- the keys at folders

pub rows_after : (m n : BTreeMap (Bor Text) (Vec (Bor Text))) (folder : Text) (v : Vec (Bor Text)) (row : List Text) → ((cs : Text) → at_text n cs ≡ update bytes_eq (at_text m) folder (Some v) cs) → borrowed v.items ≡ row
    → (other : Text) → keys_at n other ≡ cond (bytes_eq folder other) row (keys_at m other)
rows_after m n folder v row h is other = ap (λ o. option_map_or (λ keys. borrowed keys.items) o []) (h other) ∙ by_test (bytes_eq folder other) (at_text m other)
  where
    by_test : (b : Bool) (o : Option (Vec (Bor Text))) → option_map_or (λ keys. borrowed keys.items) (cond b (Some v) o) [] ≡ cond b row (option_map_or (λ keys. borrowed keys.items) o [])
    by_test true o = is
    by_test false o = refl

-- one more key stands at its folder, if it is that of a justfile
pub grouped_more : (old new : BTreeMap (Bor Text) (Vec (Bor Text))) (keys : List Text) (folder name key : Text) → folder ≡ folder_of key → name ≡ name_of key → is_justfile name ≡ true
    → ((other : Text) → keys_at new other ≡ cond (bytes_eq folder other) (keys_at old folder ++ key ∷ []) (keys_at old other)) → AreGrouped keys old → AreGrouped (keys ++ key ∷ []) new
grouped_more old new keys folder name key at named is put grouped other =
    put other ∙ by_test (bytes_eq folder other) refl ∙ sym (filter-append (is_of other) keys (key ∷ []))
  where
    test_is : (b : Bool) → bytes_eq folder other ≡ b → is_of other key ≡ b
    test_is b e =
        ap (λ t. t && is_justfile (name_of key)) (ap (bytes_eq other) (sym at) ∙ turned other folder ∙ e) ∙ ap (λ t. b && t) (ap is_justfile (sym named) ∙ is) ∙ and_true b
      where
        turned : (x y : Text) → bytes_eq x y ≡ bytes_eq y x
        turned x y = same (bytes_eq x y) (bytes_eq y x) (λ h. (bytes_eq-Decides y x).1 (sym ((bytes_eq-Decides x y).0 h))) (λ h. (bytes_eq-Decides x y).1 (sym ((bytes_eq-Decides y x).0 h)))
          where
            same : (a c : Bool) → (a ≡ true → c ≡ true) → (c ≡ true → a ≡ true) → a ≡ c
            same true c f g = sym (f refl)
            same false true f g = g refl
            same false false f g = refl

        and_true : (a : Bool) → (a && true) ≡ a
        and_true true = refl
        and_true false = refl

    by_test : (b : Bool) → bytes_eq folder other ≡ b → cond b (keys_at old folder ++ key ∷ []) (keys_at old other) ≡ filter (is_of other) keys ++ filter (is_of other) (key ∷ [])
    by_test true e =
        let same : folder ≡ other = (bytes_eq-Decides folder other).0 e in
        ap (λ f. keys_at old f ++ key ∷ []) same ∙ ap (λ ks. ks ++ key ∷ []) (grouped other) ∙ ap (λ t. filter (is_of other) keys ++ cond t (key ∷ []) []) (sym (test_is true e))
    by_test false e = grouped other ∙ sym (right_none (filter (is_of other) keys)) ∙ ap (λ t. filter (is_of other) keys ++ cond t (key ∷ []) []) (sym (test_is false e))
      where
        right_none : (ks : List Text) → ks ++ [] ≡ ks
        right_none [] = refl
        right_none (k ∷ ks) = ap (λ l. k ∷ l) (right_none ks)

-- a key that isn't a justfile's changes nothing
pub grouped_passed : (old : BTreeMap (Bor Text) (Vec (Bor Text))) (keys : List Text) (name key : Text) → name ≡ name_of key → is_justfile name ≡ false → AreGrouped keys old → AreGrouped (keys ++ key ∷ []) old
grouped_passed old keys name key named is grouped other =
    grouped other ∙ sym (right_none (filter (is_of other) keys)) ∙ ap (λ t. filter (is_of other) keys ++ cond t (key ∷ []) []) (sym test_is) ∙ sym (filter-append (is_of other) keys (key ∷ []))
  where
    right_none : (ks : List Text) → ks ++ [] ≡ ks
    right_none [] = refl
    right_none (k ∷ ks) = ap (λ l. k ∷ l) (right_none ks)

    and_false : (a : Bool) → (a && false) ≡ false
    and_false true = refl
    and_false false = refl

    test_is : is_of other key ≡ false
    test_is = ap (λ t. bytes_eq other (folder_of key) && t) (ap is_justfile (sym named) ∙ is) ∙ and_false (bytes_eq other (folder_of key))
