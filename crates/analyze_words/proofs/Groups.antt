-- Groups of parameters, where a recipe takes one thing more.
use Rattle.std.proofs.Common.{◌≡◌, ◌≢◌, ℕ, zero, suc, ◌+◌, ◌<◌, ◌≤◌, Bool, true, false, not, ◌&&◌, ◌||◌, cond, eqb, ltb, List, [], ◌∷◌, ◌++◌, length, drop, get_or, set, map, replicate, Option, Some, None, refl, sym, ◌∙◌, ap, arith, append_assoc, rules}
use Rattle.std.specs.List.{count_by, list_any, position_or_len, slice_get, zip}
use Rattle.std.specs.Prelude.{is_some}
use Rattle.std.specs.Char.{encode_utf8}
use Rattle.std.specs.Option.{option_map}
use Rattle.std.proofs.lemmas.Bool.{eq-eqb, ne_eqb, le-ltb, lt-ltb, ltb-true, ltb-false, or_right, both_ways, cond-true, cond-false}
use Rattle.std.proofs.lemmas.Option.{none-some, same_Some}
use Rattle.std.proofs.lemmas.List.Sums.{sum_by-cons}
use Rattle.analyze_words.specs.declared.menu.Slot as menu
use Rattle.analyze_words.specs.Menus as menus
use Rattle.analyze_words.specs.Worded.{slot_of}
use Rattle.std.proofs.lemmas.Bool.Decides.{nat_tests}
use Rattle.meaning_runs.specs.Words.{Slot, is_option, by_place, has_room}
use Rattle.meaning_runs.specs.Invokes.{Taken, word, value, placed_words, values_given, first_word, words_behind, groups_from, groups_of, is_used, all_given}
use Rattle.analyze_words.specs.Takings.{pushed, room, is_lacking}

pub by_test : {G : Type 0} (b : Bool) → (b ≡ true → G) → (b ≡ false → G) → G
by_test true holds fails = holds refl
by_test false holds fails = fails refl

-- ---- one thing more

pub placed_word : (taken : List Taken) (text : List ℕ) → placed_words (taken ++ word text ∷ []) ≡ placed_words taken ++ text ∷ []
placed_word [] text = refl
placed_word (word one ∷ taken) text = ap (λ ws. one ∷ ws) (placed_word taken text)
placed_word (value at one ∷ taken) text = placed_word taken text

pub placed_value : (taken : List Taken) (place : ℕ) (text : List ℕ) → placed_words (taken ++ value place text ∷ []) ≡ placed_words taken
placed_value [] place text = refl
placed_value (word one ∷ taken) place text = ap (λ ws. one ∷ ws) (placed_value taken place text)
placed_value (value at one ∷ taken) place text = placed_value taken place text

given_word : (taken : List Taken) (at : ℕ) (text : List ℕ) → values_given at (taken ++ word text ∷ []) ≡ values_given at taken
given_word [] at text = refl
given_word (word one ∷ taken) at text = given_word taken at text
given_word (value place one ∷ taken) at text = ap (λ vs. cond (eqb at place) (one ∷ vs) vs) (given_word taken at text)

given_value : (taken : List Taken) (at place : ℕ) (text : List ℕ) → values_given at (taken ++ value place text ∷ []) ≡ cond (eqb at place) (values_given at taken ++ text ∷ []) (values_given at taken)
given_value [] at place text = refl
given_value (word one ∷ taken) at place text = given_value taken at place text
given_value (value other one ∷ taken) at place text =
    ap (λ vs. cond (eqb at other) (one ∷ vs) vs) (given_value taken at place text) ∙ through (eqb at other) (eqb at place) (values_given at taken)
  where
    through : (a b : Bool) (vs : List (List ℕ)) → cond a (one ∷ cond b (vs ++ text ∷ []) vs) (cond b (vs ++ text ∷ []) vs) ≡ cond b (cond a (one ∷ vs) vs ++ text ∷ []) (cond a (one ∷ vs) vs)
    through true true vs = refl
    through true false vs = refl
    through false true vs = refl
    through false false vs = refl

-- ---- one element more

pub pushed_past : {X : Type 0} (groups : List (List X)) (place : ℕ) (x : X) → length groups ≤ place → pushed groups place x ≡ groups
pushed_past [] place x l = refl
pushed_past (group ∷ groups) zero x l = absurd (omega (arith, l))
pushed_past (group ∷ groups) (suc place) x l = ap (λ gs. group ∷ gs) (pushed_past groups place x (omega (arith, l)))

pub set_pushed : {X : Type 0} (groups : List (List X)) (place : ℕ) (group : List X) (x : X) → place < length groups → group ≡ get_or groups place group → set groups place (group ++ x ∷ []) ≡ pushed groups place x
set_pushed [] place group x l e = absurd (omega (arith, l))
set_pushed (first ∷ groups) zero group x l e = ap (λ g. (g ++ x ∷ []) ∷ groups) e
set_pushed (first ∷ groups) (suc place) group x l e = ap (λ gs. first ∷ gs) (set_pushed groups place group x (omega (arith, l)) e)

-- ---- groups

-- groups depend on the values of the places from here on
groups_same : (slots : List Slot) (taken other : List Taken) (place : ℕ) (words : List (List ℕ)) → ((at : ℕ) → place ≤ at → values_given at taken ≡ values_given at other)
    → groups_from taken place slots words ≡ groups_from other place slots words
groups_same [] taken other place words same = refl
groups_same (slot ∷ slots) taken other place words same =
    λ k. cond (is_option slot) (same place (omega arith) k ∷ groups_same slots taken other (place + 1) words (λ at h. same at (omega (arith, h))) k)
    (cond slot.variadic (words ∷ groups_same slots taken other (place + 1) [] (λ at h. same at (omega (arith, h))) k) (first_word words ∷ groups_same slots taken other (place + 1) (words_behind words) (λ at h. same at (omega (arith, h))) k))

-- the last word more goes to the parameter that has room
groups_room : (slots : List Slot) (taken : List Taken) (place : ℕ) (words : List (List ℕ)) (text : List ℕ)
    → groups_from taken place slots (words ++ text ∷ []) ≡ pushed (groups_from taken place slots words) (room slots (length words)) text
groups_room [] taken place words text = refl
groups_room (slot ∷ slots) taken place [] text = by_test (is_option slot)
    (λ o. rw o (ap (λ gs. values_given place taken ∷ gs) (groups_room slots taken (place + 1) [] text)))
    (λ o. by_test slot.variadic (λ v. rw (o, v) refl) (λ v. rw (o, v) refl))
groups_room (slot ∷ slots) taken place (one ∷ words) text = by_test (is_option slot)
    (λ o. rw o (ap (λ gs. values_given place taken ∷ gs) (groups_room slots taken (place + 1) (one ∷ words) text)))
    (λ o. by_test slot.variadic (λ v. rw (o, v) refl) (λ v. rw (o, v) (ap (λ gs. (one ∷ []) ∷ gs) (groups_room slots taken (place + 1) words text))))

pub groups_word : (slots : List Slot) (taken : List Taken) (text : List ℕ) → groups_of slots (taken ++ word text ∷ []) ≡ pushed (groups_of slots taken) (room slots (length (placed_words taken))) text
groups_word slots taken text =
    ap (groups_from (taken ++ word text ∷ []) 0 slots) (placed_word taken text) ∙ groups_same slots (taken ++ word text ∷ []) taken 0 (placed_words taken ++ text ∷ []) (λ at h. given_word taken at text)
    ∙ groups_room slots taken 0 (placed_words taken) text

-- a value more goes to its parameter, which is an option
groups_option : (slots : List Slot) (i : ℕ) (slot : Slot) (taken : List Taken) (place at : ℕ) (words : List (List ℕ)) (text : List ℕ) → at ≡ place + i → slice_get slots i ≡ Some slot → is_option slot ≡ true
    → groups_from (taken ++ value at text ∷ []) place slots words ≡ pushed (groups_from taken place slots words) i text
groups_option [] i slot taken place at words text e f o = absurd (none-some slot f)
groups_option (s ∷ slots) zero slot taken place at words text e f o =
    let os : is_option s ≡ true = ap is_option (same_Some s slot f) ∙ o in
    let same : eqb place at ≡ true = eq-eqb place at (omega (arith, e)) in
    let first : values_given place (taken ++ value at text ∷ []) ≡ values_given place taken ++ text ∷ [] = given_value taken place at text ∙ cond-true (eqb place at) (values_given place taken ++ text ∷ []) (values_given place taken) same in
    let rest : groups_from (taken ++ value at text ∷ []) (place + 1) slots words ≡ groups_from taken (place + 1) slots words =
    groups_same slots (taken ++ value at text ∷ []) taken (place + 1) words (λ k h. given_value taken k at text ∙ cond-false (eqb k at) (values_given k taken ++ text ∷ []) (values_given k taken) (ne_eqb k at (λ g. absurd (omega (arith, g, h, e))))) in
    rw os (λ k. first k ∷ rest k)
groups_option (s ∷ slots) (suc i) slot taken place at words text e f o =
    let first : values_given place (taken ++ value at text ∷ []) ≡ values_given place taken =
    given_value taken place at text ∙ cond-false (eqb place at) (values_given place taken ++ text ∷ []) (values_given place taken) (ne_eqb place at (λ g. absurd (omega (arith, g, e)))) in
    let rest = λ (ws : List (List ℕ)). groups_option slots i slot taken (place + 1) at ws text (omega (arith, e)) f o in
    by_test (is_option s) (λ os. rw os (λ k. first k ∷ rest words k))
    (λ os. by_test s.variadic (λ v. rw (os, v) (λ k. words ∷ rest [] k)) (λ v. rw (os, v) (λ k. first_word words ∷ rest (words_behind words) k)))

pub groups_value : (slots : List Slot) (taken : List Taken) (place : ℕ) (slot : Slot) (text : List ℕ) → slice_get slots place ≡ Some slot → is_option slot ≡ true
    → groups_of slots (taken ++ value place text ∷ []) ≡ pushed (groups_of slots taken) place text
groups_value slots taken place slot text f o =
    ap (groups_from (taken ++ value place text ∷ []) 0 slots) (placed_value taken place text) ∙ groups_option slots place slot taken 0 place (placed_words taken) text (omega arith) f o

-- an option's group has its values
group_option : (slots : List Slot) (i : ℕ) (slot : Slot) (taken : List Taken) (place at : ℕ) (words : List (List ℕ)) → at ≡ place + i → slice_get slots i ≡ Some slot → is_option slot ≡ true
    → get_or (groups_from taken place slots words) i [] ≡ values_given at taken
group_option [] i slot taken place at words e f o = absurd (none-some slot f)
group_option (s ∷ slots) zero slot taken place at words e f o =
    let os : is_option s ≡ true = ap is_option (same_Some s slot f) ∙ o in
    let same : place ≡ at = omega (arith, e) in
    rw os (ap (λ n. values_given n taken) same)
group_option (s ∷ slots) (suc i) slot taken place at words e f o =
    let rest = λ (ws : List (List ℕ)). group_option slots i slot taken (place + 1) at ws (omega (arith, e)) f o in
    by_test (is_option s) (λ os. rw os (rest words)) (λ os. by_test s.variadic (λ v. rw (os, v) (rest [])) (λ v. rw (os, v) (rest (words_behind words))))

pub option_group : (slots : List Slot) (taken : List Taken) (place : ℕ) (slot : Slot) → slice_get slots place ≡ Some slot → is_option slot ≡ true → get_or (groups_of slots taken) place [] ≡ values_given place taken
option_group slots taken place slot f o = group_option slots place slot taken 0 place (placed_words taken) (omega arith) f o

pub no_groups : (slots : List Slot) (place : ℕ) → groups_from [] place slots [] ≡ replicate (length slots) []
no_groups [] place = refl
no_groups (slot ∷ slots) place = by_test (is_option slot) (λ o. rw o (ap (λ gs. [] ∷ gs) (no_groups slots (place + 1))))
    (λ o. by_test slot.variadic (λ v. rw (o, v) (ap (λ gs. [] ∷ gs) (no_groups slots (place + 1)))) (λ v. rw (o, v) (ap (λ gs. [] ∷ gs) (no_groups slots (place + 1)))))

-- ---- options that have to be given

pub option_same : (slot : menu.Slot) → menus.is_option slot ≡ is_option (slot_of slot)
option_same slot = λ k. some_map (λ name. name.now) slot.long k || some_map encode_utf8 slot.short k
  where
    some_map : {A B : Type 0} (f : A → B) (o : Option A) → is_some o ≡ is_some (option_map f o)
    some_map f None = refl
    some_map f (Some x) = refl

lacking_or : (r o u l : Bool) → (((r && o) && not u) || not l) ≡ not ((not (r && o) || u) && l)
lacking_or true true true l = refl
lacking_or true true false l = refl
lacking_or true false u l = refl
lacking_or false o u l = refl

no_lack : (r u l : Bool) → (((r && false) && u) || l) ≡ l
no_lack true u l = refl
no_lack false u l = refl

pub some_lacks : (slots : List menu.Slot) (taken : List Taken) (place : ℕ) (words : List (List ℕ))
    → list_any (λ both. is_lacking both.0 both.1) (zip slots (groups_from taken place (map slot_of slots) words)) ≡ not (all_given taken place (map slot_of slots))
some_lacks [] taken place words = refl
some_lacks (slot ∷ slots) taken place words = by_test (is_option (slot_of slot))
    (λ o. rw (o, option_same slot, o, some_lacks slots taken (place + 1) words) (lacking_or slot.required true (is_used (values_given place taken)) (all_given taken (place + 1) (map slot_of slots))))
    (λ o. by_test slot.variadic
    (λ v. rw (o, v, option_same slot, o) (no_lack slot.required (not (is_used words)) _ ∙ some_lacks slots taken (place + 1) [] ∙ given_free slot.required (is_used (values_given place taken)) (all_given taken (place + 1) (map slot_of slots))))
    (λ v. rw (o, v, option_same slot, o) (no_lack slot.required (not (is_used (first_word words))) _ ∙ some_lacks slots taken (place + 1) (words_behind words) ∙ given_free slot.required (is_used (values_given place taken)) (all_given taken (place + 1) (map slot_of slots)))))
  where
    given_free : (r u l : Bool) → not l ≡ not ((not (r && false) || u) && l)
    given_free true u l = refl
    given_free false u l = refl

-- ---- room for a word by its place

-- the first place that takes words
pub room_first : (slots : List Slot) → room slots 0 ≡ position_or_len by_place slots
room_first [] = refl
room_first (slot ∷ slots) = by_test (is_option slot) (λ o. rw o (omega (arith, room_first slots))) (λ o. rw o refl)

-- the next one, after a parameter that takes one word
pub room_next : (slots : List Slot) (n : ℕ) (slot : Slot) → slice_get slots (room slots n) ≡ Some slot → slot.variadic ≡ false
    → room slots (suc n) ≡ suc (room slots n) + position_or_len by_place (drop (suc (room slots n)) slots)
room_next [] n slot f v = absurd (none-some slot f)
room_next (s ∷ slots) zero slot f v = by_test (is_option s)
    (λ o.
    let at : room (s ∷ slots) zero ≡ suc (room slots zero) = rw o refl in
    let h = room_next slots zero slot (ap (slice_get (s ∷ slots)) (sym at) ∙ f) v in
    rw o (omega (arith, h)))
    (λ o.
    let at : room (s ∷ slots) zero ≡ 0 = rw o refl in
    let vs : s.variadic ≡ false = ap (λ (x : Slot). x.variadic) (same_Some s slot (ap (slice_get (s ∷ slots)) (sym at) ∙ f)) ∙ v in
    rw (o, vs) (omega (arith, room_first slots)))
room_next (s ∷ slots) (suc n) slot f v = by_test (is_option s)
    (λ o.
    let at : room (s ∷ slots) (suc n) ≡ suc (room slots (suc n)) = rw o refl in
    let h = room_next slots (suc n) slot (ap (slice_get (s ∷ slots)) (sym at) ∙ f) v in
    rw o (omega (arith, h)))
    (λ o. by_test s.variadic
    (λ w.
    let at : room (s ∷ slots) (suc n) ≡ 0 = rw (o, w) refl in
    let vs : s.variadic ≡ false = ap (λ (x : Slot). x.variadic) (same_Some s slot (ap (slice_get (s ∷ slots)) (sym at) ∙ f)) ∙ v in
    absurd (both_ways s.variadic vs w))
    (λ w.
    let at : room (s ∷ slots) (suc n) ≡ suc (room slots n) = rw (o, w) refl in
    let h = room_next slots n slot (ap (slice_get (s ∷ slots)) (sym at) ∙ f) v in
    rw (o, w) (omega (arith, h))))

-- a variadic parameter has room again
pub room_stays : (slots : List Slot) (n : ℕ) (slot : Slot) → slice_get slots (room slots n) ≡ Some slot → slot.variadic ≡ true → room slots (suc n) ≡ room slots n
room_stays [] n slot f v = absurd (none-some slot f)
room_stays (s ∷ slots) zero slot f v = by_test (is_option s)
    (λ o.
    let at : room (s ∷ slots) zero ≡ suc (room slots zero) = rw o refl in
    rw o (ap (λ m. suc m) (room_stays slots zero slot (ap (slice_get (s ∷ slots)) (sym at) ∙ f) v)))
    (λ o.
    let at : room (s ∷ slots) zero ≡ 0 = rw o refl in
    let vs : s.variadic ≡ true = ap (λ (x : Slot). x.variadic) (same_Some s slot (ap (slice_get (s ∷ slots)) (sym at) ∙ f)) ∙ v in
    rw (o, vs) refl)
room_stays (s ∷ slots) (suc n) slot f v = by_test (is_option s)
    (λ o.
    let at : room (s ∷ slots) (suc n) ≡ suc (room slots (suc n)) = rw o refl in
    rw o (ap (λ m. suc m) (room_stays slots (suc n) slot (ap (slice_get (s ∷ slots)) (sym at) ∙ f) v)))
    (λ o. by_test s.variadic (λ w. rw (o, w) refl) (λ w.
    let at : room (s ∷ slots) (suc n) ≡ suc (room slots n) = rw (o, w) refl in
    rw (o, w) (ap (λ m. suc m) (room_stays slots n slot (ap (slice_get (s ∷ slots)) (sym at) ∙ f) v))))

pub ltb_suc : (a b : ℕ) → ltb (suc a) (suc b) ≡ ltb a b
ltb_suc a b = by_test (ltb a b) (λ h. lt-ltb (suc a) (suc b) (omega (arith, ltb-true a b h)) ∙ sym h) (λ h. le-ltb (suc a) (suc b) (omega (arith, ltb-false a b h)) ∙ sym h)

count_more : (slot : Slot) (slots : List Slot) → count_by by_place (slot ∷ slots) ≡ cond (by_place slot) 1 0 + count_by by_place slots
count_more slot slots = sum_by-cons (λ x. cond (by_place x) 1 0) slot slots

room_past_option : (slot : Slot) (slots : List Slot) (n : ℕ) → is_option slot ≡ true → has_room (slot ∷ slots) n ≡ has_room slots n
room_past_option slot slots n o =
    let none : ◌≡◌ {A = ℕ} (cond (by_place slot) 1 0) 0 = rw o refl in
    let count : count_by by_place (slot ∷ slots) ≡ count_by by_place slots = omega (arith, count_more slot slots, none) in
    let any : list_any (λ x. by_place x && x.variadic) (slot ∷ slots) ≡ list_any (λ x. by_place x && x.variadic) slots = rw o refl in
    λ k. any k || ltb n (count k)

room_past_word : (slot : Slot) (slots : List Slot) (n : ℕ) → is_option slot ≡ false → slot.variadic ≡ false → has_room (slot ∷ slots) (suc n) ≡ has_room slots n
room_past_word slot slots n o v =
    let one : ◌≡◌ {A = ℕ} (cond (by_place slot) 1 0) 1 = rw o refl in
    let count : count_by by_place (slot ∷ slots) ≡ suc (count_by by_place slots) = omega (arith, count_more slot slots, one) in
    let any : list_any (λ x. by_place x && x.variadic) (slot ∷ slots) ≡ list_any (λ x. by_place x && x.variadic) slots = rw (o, v) refl in
    (λ k. any k || ltb (suc n) (count k)) ∙ ap (λ b. list_any (λ x. by_place x && x.variadic) slots || b) (ltb_suc n (count_by by_place slots))

room_at_any : (slot : Slot) (slots : List Slot) (n : ℕ) → is_option slot ≡ false → slot.variadic ≡ true → has_room (slot ∷ slots) n ≡ true
room_at_any slot slots n o v =
    let any : list_any (λ x. by_place x && x.variadic) (slot ∷ slots) ≡ true = rw (o, v) refl in
    ap (λ b. b || ltb n (count_by by_place (slot ∷ slots))) any

room_at_word : (slot : Slot) (slots : List Slot) → is_option slot ≡ false → has_room (slot ∷ slots) 0 ≡ true
room_at_word slot slots o =
    let one : ◌≡◌ {A = ℕ} (cond (by_place slot) 1 0) 1 = rw o refl in
    or_right (list_any (λ x. by_place x && x.variadic) (slot ∷ slots)) (ltb 0 (count_by by_place (slot ∷ slots))) (lt-ltb 0 (count_by by_place (slot ∷ slots)) (omega (arith, count_more slot slots, one)))

-- a recipe takes one word more where some parameter has room
pub has_room_is : (slots : List Slot) (n : ℕ) → has_room slots n ≡ ltb (room slots n) (length slots)
has_room_is [] n = le-ltb n 0 (omega arith)
has_room_is (slot ∷ slots) zero = by_test (is_option slot)
    (λ o. room_past_option slot slots 0 o ∙ has_room_is slots 0 ∙ sym (ltb_suc (room slots 0) (length slots)) ∙ rw o refl)
    (λ o. room_at_word slot slots o ∙ sym (lt-ltb 0 (suc (length slots)) (omega arith)) ∙ rw o refl)
has_room_is (slot ∷ slots) (suc n) = by_test (is_option slot)
    (λ o. room_past_option slot slots (suc n) o ∙ has_room_is slots (suc n) ∙ sym (ltb_suc (room slots (suc n)) (length slots)) ∙ rw o refl)
    (λ o. by_test slot.variadic
    (λ v. room_at_any slot slots (suc n) o v ∙ sym (lt-ltb 0 (suc (length slots)) (omega arith)) ∙ rw (o, v) refl)
    (λ v. room_past_word slot slots n o v ∙ has_room_is slots n ∙ sym (ltb_suc (room slots n) (length slots)) ∙ rw (o, v) refl))
