-- Sets of texts, and what is put into them.
use Rattle.std.proofs.Common.{◌≡◌, sym, ◌∙◌, ap, Bool, true, false, cond, ◌&&◌, ◌||◌, List, [], ◌∷◌, ◌++◌, ℕ, ◌+◌, ◌<◌, Option, Some, None, refl, length, take, get_or, is_some, option_map}
use Rattle.std.specs.BTreeMap.{BTreeMap, get_by_text}
use Rattle.std.specs.BTreeSet.{BTreeSet, UpdatesBy}
use Rattle.std.specs.Borrow.{Bor}
use Rattle.std.specs.Cmp.Lexicographic.{slice_cmp}
use Rattle.std.specs.List.{list_any}
use Rattle.std.specs.Ordering.{is_eq, nat_cmp}
use Rattle.std.specs.Prelude.{OnOk, Result, Ok, Err}
use Rattle.std.specs.Str.{bytes_eq}
use Rattle.std.specs.String.{string_bytes}
use Rattle.std.specs.declared.string.String.{String}
use Rattle.std.specs.declared.cmp.Ordering.TheVariants.{Equal}
use Rattle.std.proofs.lemmas.List.{map-append, take_more}
use Rattle.std.proofs.lemmas.List.Folds.{list_any-append}
use Rattle.std.proofs.lemmas.Map.Text.{is_eq-slice_cmp}
use Rattle.std.proofs.lemmas.Option.{none-some, same_Some}
use Rattle.std.proofs.lemmas.Slice.Eq.{bytes_eq-Decides}
use Rattle.modules_files.specs.Found.{borrowed, file_at, has_text, is_key, is_there, source_of}

abbrev Text : Type 0
Text = List ℕ

pub bytes_turned : (x y : Text) → bytes_eq x y ≡ bytes_eq y x
bytes_turned x y = same (bytes_eq x y) (bytes_eq y x) (λ h. (bytes_eq-Decides y x).1 (sym ((bytes_eq-Decides x y).0 h))) (λ h. (bytes_eq-Decides x y).1 (sym ((bytes_eq-Decides y x).0 h)))
  where
    same : (a c : Bool) → (a ≡ true → c ≡ true) → (c ≡ true → a ≡ true) → a ≡ c
    same true c f g = sym (f refl)
    same false true f g = g refl
    same false false f g = refl

pub or_none : (a : Bool) → a ≡ (a || false)
or_none true = refl
or_none false = refl

-- one text is put into a set
pub put_one : (old new : BTreeSet (Bor Text)) (key : Text) → UpdatesBy (λ x y. slice_cmp nat_cmp x.now y.now) (λ k. slice_cmp nat_cmp key k.now) old new true → (other : Text) → has_text new other ≡ (has_text old other || bytes_eq other key)
put_one old new key updates other =
    let at : Bor Text = record { ref_ptr = (0, 0); now = other } in
    updates.0 at ∙ by_test (is_eq (slice_cmp nat_cmp key other)) (bytes_eq other key) (has_text old other) (is_eq-slice_cmp key other ∙ bytes_turned key other)
  where
    by_test : (b t x : Bool) → b ≡ t → cond b true x ≡ (x || t)
    by_test b true x e = ap (λ c. cond c true x) e ∙ always x
      where
        always : (x : Bool) → true ≡ (x || true)
        always true = refl
        always false = refl
    by_test b false x e = ap (λ c. cond c true x) e ∙ or_none x

or_three : (a b c : Bool) → ((a || b) || c) ≡ (a || (b || (c || false)))
or_three true b c = refl
or_three false true c = refl
or_three false false c = or_none c

pub or_moved : (a b c : Bool) → ((a || b) || c) ≡ (a || (b || c))
or_moved true b c = refl
or_moved false b c = refl

-- one more of a list is put into a set
pub put_more : (old before after : BTreeSet (Bor Text)) (keys : List (Bor Text)) (i : ℕ) (d : Bor Text) → i < length keys
    → ((other : Text) → has_text before other ≡ (has_text old other || list_any (bytes_eq other) (borrowed (take i keys))))
    → ((other : Text) → has_text after other ≡ (has_text before other || bytes_eq other (get_or keys i d).now))
    → (other : Text) → has_text after other ≡ (has_text old other || list_any (bytes_eq other) (borrowed (take (i + 1) keys)))
put_more old before after keys i d lt h k other =
    let more : borrowed (take (i + 1) keys) ≡ borrowed (take i keys) ++ (get_or keys i d).now ∷ [] = ap borrowed (take_more keys i d lt) ∙ map-append (λ key. key.now) (take i keys) (get_or keys i d ∷ []) in
    k other ∙ ap (λ b. b || bytes_eq other (get_or keys i d).now) (h other) ∙ or_three (has_text old other) (list_any (bytes_eq other) (borrowed (take i keys))) (bytes_eq other (get_or keys i d).now)
    ∙ ap (λ b. has_text old other || b) (sym (list_any-append (bytes_eq other) (borrowed (take i keys)) ((get_or keys i d).now ∷ []))) ∙ ap (λ ks. has_text old other || list_any (bytes_eq other) ks) (sym more)

-- ---- the file at a key

abbrev pub with_key : Text → Text → Text × Text
with_key key text = (key, text)

module _ {Y Z : Type 0} (sources : BTreeMap (String Y) (String Z)) where
  there_if : (key : Text) (text : Option Text) → is_some text ≡ is_some (option_map (with_key key) text)
  there_if key None = refl
  there_if key (Some text) = refl

  some_mapped : (o : Option (String Z)) → is_some (option_map string_bytes o) ≡ is_some o
  some_mapped None = refl
  some_mapped (Some s) = refl

  found_if : (named key text : Text) (o : Option Text) → Some (with_key key text) ≡ option_map (with_key named) o → source_of sources named ≡ o → (key ≡ named) × (is_some (source_of sources named) ≡ true)
  found_if named key text None h is = absurd (none-some (with_key key text) (sym h))
  found_if named key text (Some t) h is = (ap (λ (p : Text × Text). p.0) (same_Some (with_key key text) (with_key named t) h), ap is_some is)

  -- a file that was found is there, under the key
  pub key_found : (named : Option Text) (key text : Text) → Some (with_key key text) ≡ file_at sources named → (other : Text) → bytes_eq other key ≡ is_key sources named other
  key_found None key text e other = absurd (none-some (with_key key text) (sym e))
  key_found (Some named) key text e other =
      let s = found_if named key text (source_of sources named) e refl in
      ap (bytes_eq other) s.0 ∙ and_is (bytes_eq other named) (is_there sources named) (sym (some_mapped (get_by_text sources named)) ∙ s.1)
    where
      and_is : (a b : Bool) → b ≡ true → a ≡ (a && b)
      and_is true b e = sym e
      and_is false b e = refl

  pub key_missing : (named : Option Text) → None ≡ file_at sources named → (other : Text) → false ≡ is_key sources named other
  key_missing None e other = refl
  key_missing (Some named) e other =
      sym (ap (λ b. bytes_eq other named && b) (sym (some_mapped (get_by_text sources named)) ∙ there_if named (source_of sources named) ∙ ap is_some (sym e)) ∙ and_false (bytes_eq other named))
    where
      and_false : (a : Bool) → (a && false) ≡ false
      and_false true = refl
      and_false false = refl

  equal_texts : (a b : Text) → slice_cmp nat_cmp a b ≡ Equal → a ≡ b
  equal_texts a b e = (bytes_eq-Decides a b).0 (sym (is_eq-slice_cmp a b) ∙ ap is_eq e)

  -- what a look-up by key gives is the file at it
  pub found_file : (key stored text : Text) (value : Option (String Z)) (v : String Z) → slice_cmp nat_cmp key stored ≡ Equal → Some v ≡ value → string_bytes v ≡ text
      → Some (with_key stored text) ≡ option_map (with_key key) (option_map string_bytes value)
  found_file key stored text value v same is read =
      ap (λ k. Some (with_key k text)) (sym (equal_texts key stored same)) ∙ ap (λ t. Some (with_key key t)) (sym read) ∙ ap (λ o. option_map (with_key key) (option_map string_bytes o)) is

pub on_ok : {T E P R : Type 0} (r : Result T E) → OnOk r P → (P → R) → OnOk r R
on_ok (Ok x) p f = f p
on_ok (Err e) p f = tt
