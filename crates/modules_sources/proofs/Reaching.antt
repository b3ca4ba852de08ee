-- Files that are reached, one after the other.
use Rattle.std.proofs.Common.{◌≡◌, ◌⊎◌, inl, inr, sym, ◌∙◌, ap, subst, Bool, true, false, not, cond, ◌||◌, ◌<◌, ◌+◌, ◌++◌, ◌∷◌, [], ℕ, zero, suc, List, Option, Some, None, refl, length, length-append, map, take, get_or, arith, ◌≤◌}
use Rattle.std.specs.Prelude.{Contains, if◌then◌else◌, is_some, option_map, slice_get}
use Rattle.std.specs.BTreeMap.{is_at}
use Rattle.std.specs.Cmp.Lexicographic.{slice_cmp}
use Rattle.std.specs.Ordering.{nat_cmp}
use Rattle.std.specs.Map.{lookup, update}
use Rattle.std.specs.Str.{bytes_eq}
use Rattle.std.proofs.lemmas.Bool.{false≢true}
use Rattle.std.proofs.lemmas.List.{append-nil, map-append, take_more}
use Rattle.std.proofs.lemmas.Option.{none-some, same_Some, slice_get-get_or, slice_get-map}
use Rattle.std.proofs.lemmas.Slice.Eq.{bytes_eq-Decides}
use Rattle.modules_compilation.specs.declared.source.Source.{Source}
use Rattle.modules_files.specs.Chosen.{File, view}
use Rattle.modules_files.specs.Found.{at_text}
use Rattle.resolve_order.specs.Needs.{rows}
use Rattle.modules_sources.specs.Queue.{is_among}
use Rattle.modules_sources.specs.Reached.{ArePlaces, AreReached, IsFollowed, new_files, with_key, with_new}
use Rattle.modules_sources.specs.declared.imports.Reached.{Reached}

abbrev Text : Type 0
Text = List ℕ

-- ---- a list that grows at its end

pub kept_left : {A : Type 0} (xs ys : List A) (i : ℕ) (a : A) → slice_get xs i ≡ Some a → slice_get (xs ++ ys) i ≡ Some a
kept_left [] ys i a e = absurd (none-some a e)
kept_left (x ∷ xs) ys zero a e = e
kept_left (x ∷ xs) ys (suc i) a e = kept_left xs ys i a e

pub at_end : {A : Type 0} (xs : List A) (a : A) → slice_get (xs ++ a ∷ []) (length xs) ≡ Some a
at_end [] a = refl
at_end (x ∷ xs) a = at_end xs a

-- what stands in a list stands there with more behind it
pub there_before : {A : Type 0} (xs ys : List A) (i : ℕ) → i < length xs → slice_get (xs ++ ys) i ≡ slice_get xs i
there_before [] ys i lt = absurd (omega (arith, lt))
there_before (x ∷ xs) ys zero lt = refl
there_before (x ∷ xs) ys (suc i) lt = there_before xs ys i (omega (arith, lt))

-- what stands in a list with more behind it stands in one of the two
pub append_cases : {A : Type 0} (xs ys : List A) (i : ℕ) (a : A) → slice_get (xs ++ ys) i ≡ Some a → (slice_get xs i ≡ Some a) ⊎ ((length xs ≤ i) × ((j : ℕ) × (slice_get ys j ≡ Some a)))
append_cases [] ys i a e = inr (omega arith, (i, e))
append_cases (x ∷ xs) ys zero a e = inl e
append_cases (x ∷ xs) ys (suc i) a e = elim (append_cases xs ys i a e) [
  | inl p ↦ inl p
  | inr q ↦ inr (let le = q.0 in omega (arith, le), q.1)
]

-- what stands in a list under a map comes of what stands there
pub mapped_at : {A B : Type 0} (f : A → B) (xs : List A) (i : ℕ) (b : B) → slice_get (map f xs) i ≡ Some b → (a : A) × (slice_get xs i ≡ Some a) × (f a ≡ b)
mapped_at f [] i b e = absurd (none-some b e)
mapped_at f (x ∷ xs) zero b e = (x, refl, same_Some (f x) b e)
mapped_at f (x ∷ xs) (suc i) b e = mapped_at f xs i b e

-- what a list contains stands at a place
pub place_of : {A : Type 0} (xs : List A) (a : A) → Contains xs a → (i : ℕ) × (slice_get xs i ≡ Some a)
place_of xs a h = (h.0, slice_get-get_or xs h.0 a h.1 ∙ ap Some h.2)

pub end_cases : {A : Type 0} (xs : List A) (last : A) (i : ℕ) (a : A) → slice_get (xs ++ last ∷ []) i ≡ Some a → (slice_get xs i ≡ Some a) ⊎ ((i ≡ length xs) × (last ≡ a))
end_cases [] last zero a e = inr (refl, same_Some last a e)
end_cases [] last (suc i) a e = absurd (none-some a e)
end_cases (x ∷ xs) last zero a e = inl e
end_cases (x ∷ xs) last (suc i) a e = elim (end_cases xs last i a e) [
  | inl p ↦ inl p
  | inr q ↦ inr (ap suc q.0, q.1)
]

-- ---- a key among others

pub among_at : (keys : List Text) (i : ℕ) (key : Text) → slice_get keys i ≡ Some key → is_among keys key ≡ true
among_at [] i key e = absurd (none-some key e)
among_at (x ∷ keys) zero key e = ap (λ b. b || is_among keys key) ((bytes_eq-Decides key x).1 (sym (same_Some x key e)))
among_at (x ∷ keys) (suc i) key e = or_right (bytes_eq key x) (is_among keys key) (among_at keys i key e)
  where
    or_right : (a b : Bool) → b ≡ true → (a || b) ≡ true
    or_right true b f = refl
    or_right false b f = f

pub place_among : (keys : List Text) (key : Text) → is_among keys key ≡ true → (i : ℕ) × (slice_get keys i ≡ Some key)
place_among [] key e = absurd (false≢true e)
place_among (x ∷ keys) key e = by_test (bytes_eq key x) refl (λ h. place_among keys key h)
  where
    by_test : (b : Bool) → bytes_eq key x ≡ b → (is_among keys key ≡ true → (i : ℕ) × (slice_get keys i ≡ Some key)) → (i : ℕ) × (slice_get (x ∷ keys) i ≡ Some key)
    by_test true same others = (0, ap Some (sym ((bytes_eq-Decides key x).0 same)))
    by_test false other others =
        let r = others (ap (λ b. b || is_among keys key) (sym other) ∙ e) in
        (suc r.0, r.1)

-- ---- what is reached

module _ (keys : List Text) (reached : Reached) (h : AreReached keys reached) where
  -- a key that is found is one of those
  pub among_found : (key : Text) (place : ℕ) → at_text reached.places key ≡ Some place → (is_among keys key ≡ true) × (slice_get keys place ≡ Some key)
  among_found key place e = let at = h.listed key place e in (among_at keys place key at, at)

  -- one that isn't found is none
  pub none_found : (key : Text) → at_text reached.places key ≡ None → is_among keys key ≡ false
  none_found key e = by_test (is_among keys key) refl
    where
      by_test : (b : Bool) → is_among keys key ≡ b → is_among keys key ≡ false
      by_test true is =
          let at = place_among keys key is in
          absurd (none-some at.0 (sym e ∙ h.placed at.0 key at.1))
      by_test false is = is

-- no file was reached
pub none_reached : (reached : Reached) → reached.places.entries ≡ [] → AreReached [] reached
none_reached reached e = record {
  many = ap length e;
  placed = λ place key f. absurd (none-some key f);
  listed = λ key place f. absurd (none-some place (sym (ap (lookup (is_at (λ k. slice_cmp nat_cmp key k.now))) e) ∙ f));
}

-- a new key is put at the end
module _ (keys : List Text) (old new : Reached) (key : Text) (h : AreReached keys old) where
  pub reached_more : at_text old.places key ≡ None → length new.places.entries ≡ length keys + 1
      → ((other : Text) → at_text new.places other ≡ update bytes_eq (at_text old.places) key (Some (length keys)) other) → AreReached (keys ++ key ∷ []) new
  reached_more none many updates = record {
    many = many ∙ sym (length-append keys (key ∷ []));
    placed = λ place other e. elim (end_cases keys key place other e) [
      | inl p ↦ updates other ∙ by_place (bytes_eq key other) place other p refl
      | inr q ↦ updates other ∙ ap (λ b. cond b (Some (length keys)) (at_text old.places other)) ((bytes_eq-Decides key other).1 q.1) ∙ ap Some (sym q.0)
    ];
    listed = λ other place e. by_test (bytes_eq key other) other place refl (sym (updates other) ∙ e);
  }
    where
      by_place : (b : Bool) (place : ℕ) (other : Text) → slice_get keys place ≡ Some other → bytes_eq key other ≡ b → cond b (Some (length keys)) (at_text old.places other) ≡ Some place
      by_place true place other at is =
          let same : key ≡ other = (bytes_eq-Decides key other).0 is in
          absurd (none-some place (sym none ∙ ap (at_text old.places) same ∙ h.placed place other at))
      by_place false place other at is = h.placed place other at

      by_test : (b : Bool) (other : Text) (place : ℕ) → bytes_eq key other ≡ b → update bytes_eq (at_text old.places) key (Some (length keys)) other ≡ Some place → slice_get (keys ++ key ∷ []) place ≡ Some other
      by_test true other place is e =
          let same : key ≡ other = (bytes_eq-Decides key other).0 is in
          let there : cond (bytes_eq key other) (Some (length keys)) (at_text old.places other) ≡ Some place = e in
          let place_is : length keys ≡ place = same_Some (length keys) place (ap (λ b. cond b (Some (length keys)) (at_text old.places other)) (sym is) ∙ there) in
          subst (λ n. slice_get (keys ++ key ∷ []) n ≡ Some other) place_is (at_end keys key ∙ ap Some same)
      by_test false other place is e =
          let there : cond (bytes_eq key other) (Some (length keys)) (at_text old.places other) ≡ Some place = e in
          kept_left keys (key ∷ []) place other (h.listed other place (ap (λ b. cond b (Some (length keys)) (at_text old.places other)) (sym is) ∙ there))

-- ---- the keys with one more

pub with_known : (keys : List Text) (key : Text) → is_among keys key ≡ true → with_key keys key ≡ keys
with_known keys key e = ap (λ b. cond b keys (keys ++ key ∷ [])) e

pub with_unknown : (keys : List Text) (key : Text) → is_among keys key ≡ false → with_key keys key ≡ keys ++ key ∷ []
with_unknown keys key e = ap (λ b. cond b keys (keys ++ key ∷ [])) e

pub key_kept : (keys : List Text) (key : Text) (i : ℕ) (other : Text) → slice_get keys i ≡ Some other → slice_get (with_key keys key) i ≡ Some other
key_kept keys key i other e = by_test (is_among keys key)
  where
    by_test : (b : Bool) → slice_get (cond b keys (keys ++ key ∷ [])) i ≡ Some other
    by_test true = e
    by_test false = kept_left keys (key ∷ []) i other e

-- ---- one file is reached

pub known : (keys : List Text) (reached : Reached) (key : Text) (place : ℕ) → Some place ≡ at_text reached.places key → AreReached keys reached
    → AreReached (with_key keys key) reached × (slice_get (with_key keys key) place ≡ Some key) × (false ≡ not (is_among keys key))
known keys reached key place e h =
    let f = among_found keys reached h key place (sym e) in
    (subst (λ ks. AreReached ks reached) (sym (with_known keys key f.0)) h, key_kept keys key place key f.1, ap not (sym f.0))

not_found : (keys : List Text) (reached : Reached) (key : Text) → AreReached keys reached → is_among keys key ≡ false → at_text reached.places key ≡ None
not_found keys reached key h none = by_place (at_text reached.places key) refl
  where
    by_place : (o : Option ℕ) → at_text reached.places key ≡ o → at_text reached.places key ≡ None
    by_place None e = e
    by_place (Some place) e = absurd (false≢true (sym none ∙ (among_found keys reached h key place e).0))

one_longer : (a b : ℕ) (o : Option ℕ) → o ≡ None → a ≡ b + (if is_some o then 0 else 1) → a ≡ b + 1
one_longer a b o e is = is ∙ ap (λ p. b + (if is_some p then 0 else 1)) e

-- a file that was not reached has the next place
pub added : (keys : List Text) (old new : Reached) (key : Text) (place : ℕ) (o : Option ℕ) → is_among keys key ≡ false → place ≡ length old.places.entries → o ≡ at_text old.places key
    → length new.places.entries ≡ length old.places.entries + (if is_some o then 0 else 1)
    → ((other : Text) → at_text new.places other ≡ update bytes_eq (at_text old.places) key (Some place) other) → AreReached keys old → AreReached (keys ++ key ∷ []) new
added keys old new key place o none at was many updates h =
    let nothing = not_found keys old key h none in
    let at_length : place ≡ length keys = at ∙ h.many in
    reached_more keys old new key h nothing (one_longer (length new.places.entries) (length old.places.entries) o (was ∙ nothing) many ∙ ap (λ n. n + 1) h.many)
    (λ other. updates other ∙ ap (λ p. update bytes_eq (at_text old.places) key (Some p) other) at_length)

-- it is the last
pub added_at : (keys : List Text) (old : Reached) (key : Text) (place : ℕ) → None ≡ at_text old.places key → AreReached keys old → place ≡ length old.places.entries → slice_get (with_key keys key) place ≡ Some key
added_at keys old key place e h at =
    subst (λ ks. slice_get ks place ≡ Some key) (sym (with_unknown keys key (none_found keys old h key (sym e)))) (subst (λ p. slice_get (keys ++ key ∷ []) p ≡ Some key) (sym (at ∙ h.many)) (at_end keys key))

pub added_keys : (keys : List Text) (old new : Reached) (key : Text) → None ≡ at_text old.places key → AreReached keys old → (is_among keys key ≡ false → AreReached (keys ++ key ∷ []) new) → AreReached (with_key keys key) new
added_keys keys old new key e h more =
    let none = none_found keys old h key (sym e) in
    subst (λ ks. AreReached ks new) (sym (with_unknown keys key none)) (more none)

pub added_new : (keys : List Text) (old : Reached) (key : Text) (is_new : Bool) → None ≡ at_text old.places key → AreReached keys old → is_new ≡ true → is_new ≡ not (is_among keys key)
added_new keys old key is_new e h is = is ∙ ap not (sym (none_found keys old h key (sym e)))

-- what is not so
pub was_true : (b : Bool) → not b ≡ true → b ≡ false
was_true true e = absurd (false≢true e)
was_true false e = refl

pub was_false : (b : Bool) → not b ≡ false → b ≡ true
was_false true e = refl
was_false false e = absurd (false≢true (sym e))

turned : (a b : Bool) → a ≡ not b → a ≡ false → b ≡ true
turned a true e f = refl
turned a false e f = sym f ∙ e

turned_back : (a b : Bool) → a ≡ not b → a ≡ true → b ≡ false
turned_back a true e f = sym f ∙ e
turned_back a false e f = refl

-- a file that was reached isn't told again
pub told_known : (keys : List Text) (file : File) (told : List File) (is_new : Bool) → is_new ≡ not (is_among keys file.0) → is_new ≡ false → told ≡ told ++ new_files keys (file ∷ [])
told_known keys file told is_new e f = sym (append-nil told) ∙ ap (λ b. told ++ cond b [] (file ∷ [])) (sym (turned is_new (is_among keys file.0) e f))

pub told_new : (keys : List Text) (file : File) (told after : List File) (is_new : Bool) → is_new ≡ not (is_among keys file.0) → is_new ≡ true → after ≡ told ++ file ∷ [] → after ≡ told ++ new_files keys (file ∷ [])
told_new keys file told after is_new e f is = is ∙ ap (λ b. told ++ cond b [] (file ∷ [])) (sym (turned_back is_new (is_among keys file.0) e f))

-- ---- several files

pub with_one_more : (keys : List Text) (files : List File) (file : File) → with_new keys (files ++ file ∷ []) ≡ with_key (with_new keys files) file.0
with_one_more keys [] file = refl
with_one_more keys (f ∷ files) file = with_one_more (with_key keys f.0) files file

pub new_one_more : (keys : List Text) (files : List File) (file : File) → new_files keys (files ++ file ∷ []) ≡ new_files keys files ++ new_files (with_new keys files) (file ∷ [])
new_one_more keys [] file = refl
new_one_more keys (f ∷ files) file = by_test (is_among keys f.0) refl (new_one_more keys files file) (new_one_more (keys ++ f.0 ∷ []) files file)
  where
    by_test : (b : Bool) → is_among keys f.0 ≡ b → new_files keys (files ++ file ∷ []) ≡ new_files keys files ++ new_files (with_new keys files) (file ∷ [])
        → new_files (keys ++ f.0 ∷ []) (files ++ file ∷ []) ≡ new_files (keys ++ f.0 ∷ []) files ++ new_files (with_new (keys ++ f.0 ∷ []) files) (file ∷ [])
        → cond (is_among keys f.0) (new_files keys (files ++ file ∷ [])) (f ∷ new_files (keys ++ f.0 ∷ []) (files ++ file ∷ []))
        ≡ cond (is_among keys f.0) (new_files keys files) (f ∷ new_files (keys ++ f.0 ∷ []) files) ++ new_files (with_new (with_key keys f.0) files) (file ∷ [])
    by_test true e known new =
        ap (λ b. cond b (new_files keys (files ++ file ∷ [])) (f ∷ new_files (keys ++ f.0 ∷ []) (files ++ file ∷ []))) e ∙ known
        ∙ ap (λ ks. new_files keys files ++ new_files (with_new ks files) (file ∷ [])) (sym (with_known keys f.0 e))
        ∙ ap (λ b. cond b (new_files keys files) (f ∷ new_files (keys ++ f.0 ∷ []) files) ++ new_files (with_new (with_key keys f.0) files) (file ∷ [])) (sym e)
    by_test false e known new =
        ap (λ b. cond b (new_files keys (files ++ file ∷ [])) (f ∷ new_files (keys ++ f.0 ∷ []) (files ++ file ∷ []))) e ∙ ap (λ fs. f ∷ fs) new
        ∙ ap (λ ks. f ∷ (new_files (keys ++ f.0 ∷ []) files ++ new_files (with_new ks files) (file ∷ []))) (sym (with_unknown keys f.0 e))
        ∙ ap (λ b. cond b (new_files keys files) (f ∷ new_files (keys ++ f.0 ∷ []) files) ++ new_files (with_new (with_key keys f.0) files) (file ∷ [])) (sym e)

-- places stay where they are
pub places_kept : (keys : List Text) (key : Text) (files : List File) (row : List ℕ) → ArePlaces keys files row → ArePlaces (with_key keys key) files row
places_kept keys key [] [] e = refl
places_kept keys key [] (p ∷ row) e = absurd (cc e)
places_kept keys key (f ∷ files) [] e = absurd (cc e)
places_kept keys key (f ∷ files) (p ∷ row) e =
    let first : slice_get keys p ≡ Some f.0 = cc e in
    let others : ArePlaces keys files row = cc e in
    ap (λ o. o ∷ map (slice_get (with_key keys key)) row) (key_kept keys key p f.0 first) ∙ ap (λ os. Some f.0 ∷ os) (places_kept keys key files row others)

pub places_more : (keys : List Text) (files : List File) (row : List ℕ) (file : File) (place : ℕ) → ArePlaces keys files row → slice_get (with_key keys file.0) place ≡ Some file.0 → ArePlaces (with_key keys file.0) (files ++ file ∷ []) (row ++ place ∷ [])
places_more keys files row file place e at =
    map-append (slice_get (with_key keys file.0)) row (place ∷ []) ∙ ap (λ os. os ++ slice_get (with_key keys file.0) place ∷ []) (places_kept keys file.0 files row e)
    ∙ ap (λ o. map (λ f. Some f.0) files ++ o ∷ []) at ∙ sym (map-append (λ f. Some f.0) files (file ∷ []))

-- ---- what the next file imports

-- the files so far are reached, at the places of a row, and those are told that are new
pub record AreSoFar (keys : List Text) (files : List File) (reached : Reached) (row : List ℕ) (told : List File) : Type 0 where
  pub are_reached : AreReached (with_new keys files) reached
  pub at : ArePlaces (with_new keys files) files row
  pub are_new : told ≡ new_files keys files

pub none_so_far : (keys : List Text) (reached : Reached) → AreReached keys reached → AreSoFar keys [] reached [] []
none_so_far keys reached h = record { are_reached = h; at = refl; are_new = refl }

pub taken : (xs : List Source) (i : ℕ) (d : Source) → i < length xs → map view (take (i + 1) xs) ≡ map view (take i xs) ++ view (get_or xs i d) ∷ []
taken xs i d lt = ap (map view) (take_more xs i d lt) ∙ map-append view (take i xs) (get_or xs i d ∷ [])

pub taken_at : (xs : List Source) (i : ℕ) (d : Source) → i < length xs → slice_get (map view xs) i ≡ Some (view (get_or xs i d))
taken_at xs i d lt = slice_get-map view xs i ∙ ap (option_map view) (slice_get-get_or xs i d lt)

-- one file more
pub further : (keys : List Text) (xs : List Source) (i : ℕ) (d : Source) (old new : Reached) (row after : List ℕ) (told more : List File) → i < length xs
    → AreSoFar keys (map view (take i xs)) old row told
    → ((ks : List Text) → AreReached ks old → AreReached (with_key ks (get_or xs i d).key.now) new)
    → ((ks : List Text) → AreReached ks old → (place : ℕ) × (slice_get (with_key ks (get_or xs i d).key.now) place ≡ Some (get_or xs i d).key.now) × (after ≡ row ++ place ∷ []))
    → ((ks : List Text) → AreReached ks old → more ≡ told ++ new_files ks (view (get_or xs i d) ∷ []))
    → AreSoFar keys (map view (take (i + 1) xs)) new after more
further keys xs i d old new row after told more lt so reached placed tells =
    let x = get_or xs i d in
    let files = map view (take i xs) in
    let ks = with_new keys files in
    let p = placed ks so.are_reached in
    subst (λ fs. AreSoFar keys fs new after more) (sym (taken xs i d lt)) (record {
      are_reached = subst (λ zs. AreReached zs new) (sym (with_one_more keys files (view x))) (reached ks so.are_reached);
      at = subst (λ zs. ArePlaces zs (files ++ view x ∷ []) after) (sym (with_one_more keys files (view x)))
          (subst (ArePlaces (with_key ks x.key.now) (files ++ view x ∷ [])) (sym p.2) (places_more ks files row (view x) p.0 so.at p.1));
      are_new = tells ks so.are_reached ∙ ap (λ fs. fs ++ new_files ks (view x ∷ [])) so.are_new ∙ sym (new_one_more keys files (view x));
    })

-- all files are reached, and the row is put behind the others
pub followed : (keys : List Text) (files : List File) (first old new : Reached) (row : List ℕ) (told : List File) → AreSoFar keys files old row told → old.imports ≡ first.imports → new.places ≡ old.places
    → rows new.imports.items ≡ rows old.imports.items ++ row ∷ [] → IsFollowed keys files first new told
followed keys files first old new row told so same places e = record {
  reached = record {
    many = ap (λ m. length m.entries) places ∙ so.are_reached.many;
    placed = λ place key f. ap (λ m. at_text m key) places ∙ so.are_reached.placed place key f;
    listed = λ key place f. so.are_reached.listed key place (sym (ap (λ m. at_text m key) places) ∙ f);
  };
  are_new = so.are_new;
  row = row;
  at = so.at;
  imports = e ∙ ap (λ v. rows v.items ++ row ∷ []) same;
}
