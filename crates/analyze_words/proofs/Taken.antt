-- What a recipe has taken, one thing after another.
use Rattle.std.proofs.Common.{◌≡◌, ℕ, suc, ◌+◌, ◌-◌, ◌^◌, ◌<◌, ◌≤◌, min, Bool, true, false, not, ◌&&◌, ◌||◌, cond, ltb, leb, ⊎_elim, List, [], ◌∷◌, ◌++◌, length, drop, get_or, map, replicate, Option, Some, None, refl, sym, ◌∙◌, ap, subst, arith}
use Rattle.std.specs.Prelude.{codes}
use Rattle.std.specs.List.{count_by, position_or_len, slice_get, list_any, zip}
use Rattle.std.specs.Borrow.{Bor}
use Rattle.std.specs.Option.{MatchOption, option_map}
use Rattle.std.specs.Str.{bytes_eq}
use Rattle.std.proofs.lemmas.Bool.{cond-false, cond-true, ltb-true, ltb-false, lt-ltb, le-ltb, lt-leb, le-leb, cases_lt}
use Rattle.std.proofs.lemmas.List.{nil_from_length, length_push, length-map, length-drop, get_or-drop, get_or-map}
use Rattle.std.proofs.lemmas.List.Sums.{position_or_len_is, sum_by-cons}
use Rattle.std.proofs.lemmas.Option.{slice_get-map, slice_get_within, some_pair_parts}
use Rattle.analyze_words.specs.declared.menu.Slot as menu
use Rattle.analyze_words.specs.declared.fault.WordFault.{WordFault}
use Rattle.analyze_words.specs.declared.taking.Taking.{Taking}
use Rattle.analyze_words.specs.Broken.{IsRefusedIn}
use Rattle.analyze_words.specs.Menus as menus
use Rattle.analyze_words.specs.Takings.{pushed, room, ArePlaces, IsAt, IsSameButGroups, StepsTo, TakesTo, value_given, is_lacking}
use Rattle.meaning_runs.specs.Words.{Slot, is_option, by_place, has_room, option_named, least}
use Rattle.meaning_runs.specs.Invokes.{OptionRule, no_option, wrong_value, Taken, word, placed_words, values_given, At, takes, enough, refuses, is_dashed, before_equals, behind_equals, with_word, with_value, option_valued, is_used, by_slot, by_option, next, Takes, no_more, one_more, Refuses, here, later, beginning, all_given, is_complete}
use Rattle.analyze_words.specs.Worded.{slot_of}
use Rattle.analyze_words.proofs.Groups.{by_test, no_groups, placed_word, placed_value, groups_word, groups_value, option_group, room_next, room_stays, room_first, has_room_is, some_lacks, option_same}
use Rattle.analyze_words.proofs.Names.{option_at}

-- ---- where the next word goes

at_place : (slots : List menu.Slot) (first k : ℕ) (d : menu.Slot) → first + k < length slots → by_place (get_or (drop first (map slot_of slots)) k (slot_of d)) ≡ not (menus.is_option (get_or slots (first + k) d))
at_place slots first k d h =
    ap by_place (get_or-drop first (map slot_of slots) k (slot_of d) ∙ get_or-map slot_of slots (first + k) d (slot_of d) h) ∙ ap not (sym (option_same (get_or slots (first + k) d)))

-- the first parameter from a place on that takes words by their place
positional : (slots : List menu.Slot) (first result : ℕ) → first ≤ length slots → result ≤ length slots → ((place : ℕ) (other : menu.Slot) → first ≤ place → place < result → menus.is_option (get_or slots place other) ≡ true)
    → ((other : menu.Slot) → result < length slots → (first ≤ result) × (menus.is_option (get_or slots result other) ≡ false)) → result ≡ first + position_or_len by_place (drop first (map slot_of slots))
positional slots first result within end before found =
    let d : menu.Slot = record { long = None; short = None; takes_value = false; multiple = false; variadic = false; required = false } in
    let up : first ≤ result = ⊎_elim (λ l. (found d l).0) (λ l. omega (arith, l, within)) (cases_lt result (length slots)) in
    let size : length (drop first (map slot_of slots)) ≡ length slots - first = length-drop first (map slot_of slots) ∙ ap (λ n. n - first) (length-map slots slot_of) in
    let at : position_or_len by_place (drop first (map slot_of slots)) ≡ result - first =
    position_or_len_is by_place (drop first (map slot_of slots)) (result - first) (slot_of d) (omega (arith, size, end))
    (λ k l. at_place slots first k d (omega (arith, l, end)) ∙ ap not (before (first + k) d (omega arith) (omega (arith, l))))
    (λ l.
    let sum : first + (result - first) ≡ result = omega (arith, up) in
    at_place slots first (result - first) d (omega (arith, l, size, up)) ∙ ap not (ap (λ n. menus.is_option (get_or slots n d)) sum ∙ (found d (omega (arith, l, size, up))).1)) in
    omega (arith, at, up)

slot_at : (slots : List menu.Slot) (place : ℕ) (slot : menu.Slot) → slice_get slots place ≡ Some slot → slice_get (map slot_of slots) place ≡ Some (slot_of slot)
slot_at slots place slot e = slice_get-map slot_of slots place ∙ ap (option_map slot_of) e

pub next_first : (slots : List menu.Slot) (result : ℕ) → result ≤ length slots → ((place : ℕ) (other : menu.Slot) → 0 ≤ place → place < result → menus.is_option (get_or slots place other) ≡ true)
    → ((other : menu.Slot) → result < length slots → (0 ≤ result) × (menus.is_option (get_or slots result other) ≡ false)) → result ≡ room (map slot_of slots) 0
next_first slots result end before found = omega (arith, positional slots 0 result (omega arith) end before found, room_first (map slot_of slots))

pub next_after : (slots : List menu.Slot) (n place result : ℕ) (slot : menu.Slot) → place ≡ room (map slot_of slots) n → slice_get slots place ≡ Some slot → slot.variadic ≡ false → result ≤ length slots
    → ((at : ℕ) (other : menu.Slot) → place + 1 ≤ at → at < result → menus.is_option (get_or slots at other) ≡ true) → ((other : menu.Slot) → result < length slots → (place + 1 ≤ result) × (menus.is_option (get_or slots result other) ≡ false))
    → result ≡ room (map slot_of slots) (suc n)
next_after slots n place result slot e f v end before found =
    let first : place + 1 ≡ suc (room (map slot_of slots) n) = omega (arith, e) in
    let there : slice_get (map slot_of slots) (room (map slot_of slots) n) ≡ Some (slot_of slot) = ap (slice_get (map slot_of slots)) (sym e) ∙ slot_at slots place slot f in
    positional slots (place + 1) result (omega (arith, slice_get_within slots place slot f)) end before found
    ∙ (λ k. first k + position_or_len by_place (drop (first k) (map slot_of slots))) ∙ sym (room_next (map slot_of slots) n (slot_of slot) there v)

pub next_again : (slots : List menu.Slot) (n place : ℕ) (slot : menu.Slot) → place ≡ room (map slot_of slots) n → slice_get slots place ≡ Some slot → slot.variadic ≡ true → place ≡ room (map slot_of slots) (suc n)
next_again slots n place slot e f v =
    let there : slice_get (map slot_of slots) (room (map slot_of slots) n) ≡ Some (slot_of slot) = ap (slice_get (map slot_of slots)) (sym e) ∙ slot_at slots place slot f in
    e ∙ sym (room_stays (map slot_of slots) n (slot_of slot) there v)

-- a place that is there has room, and only that
pub room_there : (slots : List menu.Slot) (n place : ℕ) → place ≡ room (map slot_of slots) n → place < length slots → has_room (map slot_of slots) n ≡ true
room_there slots n place e l = has_room_is (map slot_of slots) n ∙ lt-ltb (room (map slot_of slots) n) (length (map slot_of slots)) (omega (arith, e, l, length-map slots slot_of))

pub no_room : (slots : List menu.Slot) (n place : ℕ) → place ≡ room (map slot_of slots) n → length slots ≤ place → has_room (map slot_of slots) n ≡ false
no_room slots n place e l = has_room_is (map slot_of slots) n ∙ le-ltb (room (map slot_of slots) n) (length (map slot_of slots)) (omega (arith, e, l, length-map slots slot_of))

min_more : (n most : ℕ) → min (min n most + 1) most ≡ min (suc n) most
min_more n most = omega arith

one_placed : (taken : List Taken) (text : List ℕ) → length (placed_words (taken ++ word text ∷ [])) ≡ suc (length (placed_words taken))
one_placed taken text = ap length (placed_word taken text) ∙ omega (arith, length_push (placed_words taken) text)

-- a word more
pub taken_word : (slots : List menu.Slot) (old new : Taking) (at : At) (text : List ℕ) (others : List (List ℕ)) → IsAt slots old at → new.groups.items ≡ pushed old.groups.items old.next text → new.found ≡ min (old.found + 1) (2 ^ 64 - 1) → new.options ≡ old.options
    → new.places ≡ old.places → new.next ≡ room (map slot_of slots) (suc (length (placed_words at.taken))) → IsAt slots new (with_word at text others)
taken_word slots old new at text others h g f o p n = record {
  options = o ∙ h.options;
  grouped = g ∙ (λ k. pushed (h.grouped k) (h.next k) text) ∙ sym (groups_word (map slot_of slots) at.taken text);
  next = n ∙ ap (room (map slot_of slots)) (sym (one_placed at.taken text));
  counted = f ∙ ap (λ m. min (m + 1) (2 ^ 64 - 1)) h.counted ∙ min_more (length (placed_words at.taken)) (2 ^ 64 - 1) ∙ ap (λ m. min m (2 ^ 64 - 1)) (sym (one_placed at.taken text));
  places = subst (ArePlaces slots) (sym p) h.places;
}

-- a value more
pub taken_value : (slots : List menu.Slot) (old new : Taking) (at : At) (place : ℕ) (slot : Slot) (text : List ℕ) (others : List (List ℕ)) → IsAt slots old at → new.groups.items ≡ pushed old.groups.items place text → IsSameButGroups old new
    → slice_get (map slot_of slots) place ≡ Some slot → is_option slot ≡ true → IsAt slots new (with_value at place text others)
taken_value slots old new at place slot text others h g same f o =
    let count = ap length (placed_value at.taken place text) in
    record {
      options = same.options ∙ h.options;
      grouped = g ∙ ap (λ gs. pushed gs place text) h.grouped ∙ sym (groups_value (map slot_of slots) at.taken place slot text f o);
      next = same.next ∙ h.next ∙ ap (room (map slot_of slots)) (sym count);
      counted = same.found ∙ h.counted ∙ ap (λ m. min m (2 ^ 64 - 1)) (sym count);
      places = subst (ArePlaces slots) (sym same.places) h.places;
    }

-- words are no options from here on
pub options_end : (slots : List menu.Slot) (old new : Taking) (at : At) (words : List (List ℕ)) → IsAt slots old at → new.groups ≡ old.groups → new.next ≡ old.next → new.found ≡ old.found → new.options ≡ false → new.places ≡ old.places
    → IsAt slots new (record { options = false; taken = at.taken; words = words })
options_end slots old new at words h g n f o p = record {
  options = o;
  grouped = ap (λ gs. gs.items) g ∙ h.grouped;
  next = n ∙ h.next;
  counted = f ∙ h.counted;
  places = subst (ArePlaces slots) (sym p) h.places;
}

-- ---- options

module _ (slots : List menu.Slot) (at : At) (option name : List ℕ) (text : Option (List ℕ)) (words : List (List ℕ)) where
  pub unnamed : option_named (map slot_of slots) name ≡ None → by_option (map slot_of slots) at option (option_named (map slot_of slots) name) text words ≡ refuses (no_option option)
  unnamed e = ap (λ place. by_option (map slot_of slots) at option place text words) e

  pub missing : (place : ℕ) → option_named (map slot_of slots) name ≡ Some place → slice_get slots place ≡ None → by_option (map slot_of slots) at option (option_named (map slot_of slots) name) text words ≡ refuses (no_option option)
  missing place e f = ap (λ place. by_option (map slot_of slots) at option place text words) e ∙ ap (λ slot. by_slot at option place slot text words) (slice_get-map slot_of slots place ∙ ap (option_map slot_of) f)

  at_slot : (place : ℕ) (slot : menu.Slot) → option_named (map slot_of slots) name ≡ Some place → slice_get slots place ≡ Some slot
      → by_option (map slot_of slots) at option (option_named (map slot_of slots) name) text words ≡ cond (is_used (values_given place at.taken) && not slot.multiple) (refuses (wrong_value option)) (option_valued at option place slot.takes_value text words)
  at_slot place slot e f = ap (λ place. by_option (map slot_of slots) at option place text words) e ∙ ap (λ one. by_slot at option place one text words) (slot_at slots place slot f)

  pub used : (place : ℕ) (slot : menu.Slot) → option_named (map slot_of slots) name ≡ Some place → slice_get slots place ≡ Some slot → (is_used (values_given place at.taken) && not slot.multiple) ≡ true
      → by_option (map slot_of slots) at option (option_named (map slot_of slots) name) text words ≡ refuses (wrong_value option)
  used place slot e f u = at_slot place slot e f ∙ cond-true (is_used (values_given place at.taken) && not slot.multiple) _ _ u

  unvalued : (place : ℕ) (takes_value : Bool) (text : Option (List ℕ)) (words : List (List ℕ)) → value_given takes_value text words ≡ None → option_valued at option place takes_value text words ≡ refuses (wrong_value option)
  unvalued place true (Some one) words e = absurd (cc e)
  unvalued place true None (one ∷ others) e = absurd (cc e)
  unvalued place true None [] e = refl
  unvalued place false (Some one) words e = refl
  unvalued place false None words e = absurd (cc e)

  valued : (place : ℕ) (takes_value : Bool) (text : Option (List ℕ)) (words : List (List ℕ)) (given : List ℕ) (left : List (List ℕ)) → value_given takes_value text words ≡ Some (given, left)
      → option_valued at option place takes_value text words ≡ takes (with_value at place given left)
  valued place true (Some one) words given left e = let s = some_pair_parts one given words left e in λ k. takes (with_value at place (s.0 k) (s.1 k))
  valued place true None (one ∷ others) given left e = let s = some_pair_parts one given others left e in λ k. takes (with_value at place (s.0 k) (s.1 k))
  valued place true None [] given left e = absurd (cc e)
  valued place false (Some one) words given left e = absurd (cc e)
  valued place false None words given left e = let s = some_pair_parts (codes "true") given words left e in λ k. takes (with_value at place (s.0 k) (s.1 k))

  pub without_value : (place : ℕ) (slot : menu.Slot) → option_named (map slot_of slots) name ≡ Some place → slice_get slots place ≡ Some slot → (is_used (values_given place at.taken) && not slot.multiple) ≡ false
      → value_given slot.takes_value text words ≡ None → by_option (map slot_of slots) at option (option_named (map slot_of slots) name) text words ≡ refuses (wrong_value option)
  without_value place slot e f u v = at_slot place slot e f ∙ cond-false (is_used (values_given place at.taken) && not slot.multiple) _ _ u ∙ unvalued place slot.takes_value text words v

  pub with_its_value : (place : ℕ) (slot : menu.Slot) (given : List ℕ) (left : List (List ℕ)) → option_named (map slot_of slots) name ≡ Some place → slice_get slots place ≡ Some slot → (is_used (values_given place at.taken) && not slot.multiple) ≡ false
      → value_given slot.takes_value text words ≡ Some (given, left) → by_option (map slot_of slots) at option (option_named (map slot_of slots) name) text words ≡ takes (with_value at place given left)
  with_its_value place slot given left e f u v = at_slot place slot e f ∙ cond-false (is_used (values_given place at.taken) && not slot.multiple) _ _ u ∙ valued place slot.takes_value text words given left v

-- a group is used where its option is
pub used_group : (slots : List menu.Slot) (taking : Taking) (at : At) (name : List ℕ) (place : ℕ) (slot : menu.Slot) → IsAt slots taking at → option_named (map slot_of slots) name ≡ Some place → slice_get slots place ≡ Some slot
    → get_or taking.groups.items place [] ≡ values_given place at.taken
used_group slots taking at name place slot h e f =
    let s = slot_at slots place slot f in
    ap (λ gs. get_or gs place []) h.grouped ∙ option_group (map slot_of slots) at.taken place (slot_of slot) s (option_at (map slot_of slots) name place (slot_of slot) e s)

-- the option's value is taken
pub option_taken : (slots : List menu.Slot) (old new : Taking) (at : At) (option name : List ℕ) (place : ℕ) (slot : menu.Slot) (text : Option (List ℕ)) (words left : List (List ℕ)) (given : List ℕ) → IsAt slots old at → option_named (map slot_of slots) name ≡ Some place
    → slice_get slots place ≡ Some slot → (is_used (get_or old.groups.items place []) && not slot.multiple) ≡ false → value_given slot.takes_value text words ≡ Some (given, left) → new.groups.items ≡ pushed old.groups.items place given → IsSameButGroups old new
    → StepsTo slots (by_option (map slot_of slots) at option (option_named (map slot_of slots) name) text words) new left
option_taken slots old new at option name place slot text words left given h e f u v g same =
    let s = slot_at slots place slot f in
    let free = ap (λ vs. is_used vs && not slot.multiple) (sym (used_group slots old at name place slot h e f)) ∙ u in
    record {
      mid = with_value at place given left;
      is = with_its_value slots at option name text words place slot given left e f free v;
      stands = taken_value slots old new at place (slot_of slot) given left h g same s (option_at (map slot_of slots) name place (slot_of slot) e s);
      left = refl;
    }

-- it stands twice, or has no value
pub option_again : (slots : List menu.Slot) (old : Taking) (at : At) (option name : List ℕ) (place : ℕ) (slot : menu.Slot) (text : Option (List ℕ)) (words : List (List ℕ)) → IsAt slots old at → option_named (map slot_of slots) name ≡ Some place
    → slice_get slots place ≡ Some slot → (is_used (get_or old.groups.items place []) && not slot.multiple) ≡ true → by_option (map slot_of slots) at option (option_named (map slot_of slots) name) text words ≡ refuses (wrong_value option)
option_again slots old at option name place slot text words h e f u =
    used slots at option name text words place slot e f (ap (λ vs. is_used vs && not slot.multiple) (sym (used_group slots old at name place slot h e f)) ∙ u)

pub option_unvalued : (slots : List menu.Slot) (old : Taking) (at : At) (option name : List ℕ) (place : ℕ) (slot : menu.Slot) (text : Option (List ℕ)) (words : List (List ℕ)) → IsAt slots old at → option_named (map slot_of slots) name ≡ Some place
    → slice_get slots place ≡ Some slot → (is_used (get_or old.groups.items place []) && not slot.multiple) ≡ false → value_given slot.takes_value text words ≡ None
    → by_option (map slot_of slots) at option (option_named (map slot_of slots) name) text words ≡ refuses (wrong_value option)
option_unvalued slots old at option name place slot text words h e f u v =
    without_value slots at option name text words place slot e f (ap (λ vs. is_used vs && not slot.multiple) (sym (used_group slots old at name place slot h e f)) ∙ u) v

-- ---- one word

next_word : (slots : List Slot) (at : At) (text : List ℕ) (words : List (List ℕ)) → (at.options && is_dashed text) ≡ false → next slots at (text ∷ words) ≡ cond (has_room slots (length (placed_words at.taken))) (takes (with_word at text words)) enough
next_word slots at text words e = cond-false (at.options && is_dashed text) _ _ e

pub next_takes : (slots : List Slot) (at : At) (text : List ℕ) (words : List (List ℕ)) → (at.options && is_dashed text) ≡ false → has_room slots (length (placed_words at.taken)) ≡ true → next slots at (text ∷ words) ≡ takes (with_word at text words)
next_takes slots at text words e f = next_word slots at text words e ∙ cond-true (has_room slots (length (placed_words at.taken))) _ _ f

pub next_enough : (slots : List Slot) (at : At) (text : List ℕ) (words : List (List ℕ)) → (at.options && is_dashed text) ≡ false → has_room slots (length (placed_words at.taken)) ≡ false → next slots at (text ∷ words) ≡ enough
next_enough slots at text words e f = next_word slots at text words e ∙ cond-false (has_room slots (length (placed_words at.taken))) _ _ f

pub next_ends : (slots : List Slot) (at : At) (text : List ℕ) (words : List (List ℕ)) → (at.options && is_dashed text) ≡ true → bytes_eq text (codes "--") ≡ true → next slots at (text ∷ words) ≡ takes (record { options = false; taken = at.taken; words = words })
next_ends slots at text words e f = cond-true (at.options && is_dashed text) _ _ e ∙ cond-true (bytes_eq text (codes "--")) _ _ f

pub next_option : (slots : List Slot) (at : At) (text : List ℕ) (words : List (List ℕ)) → (at.options && is_dashed text) ≡ true → bytes_eq text (codes "--") ≡ false
    → next slots at (text ∷ words) ≡ by_option slots at text (option_named slots (before_equals text)) (behind_equals text) words
next_option slots at text words e f = cond-true (at.options && is_dashed text) _ _ e ∙ cond-false (bytes_eq text (codes "--")) _ _ f

-- ---- all words

-- whatever is taken from here is taken from the start
pub record IsTaking (slots : List menu.Slot) (start : At) (taking : Taking) (words : List (List ℕ)) : Type 0 where
  pub at : At
  pub stands : IsAt slots taking at
  pub left : at.words ≡ words
  pub more : (end : At) → Takes (map slot_of slots) at end → Takes (map slot_of slots) start end
  pub worse : (rule : OptionRule) → Refuses (map slot_of slots) at rule → Refuses (map slot_of slots) start rule

pub taking_starts : (slots : List menu.Slot) (start : At) (taking : Taking) (words : List (List ℕ)) → IsAt slots taking start → start.words ≡ words → IsTaking slots start taking words
taking_starts slots start taking words h e = record { at = start; stands = h; left = e; more = λ end t. t; worse = λ rule r. r }

pub taking_more : (slots : List menu.Slot) (start : At) (old new : Taking) (words left : List (List ℕ)) (h : IsTaking slots start old words) → StepsTo slots (next (map slot_of slots) h.at words) new left → IsTaking slots start new left
taking_more slots start old new words left h s =
    let is : next (map slot_of slots) h.at h.at.words ≡ takes s.mid = ap (next (map slot_of slots) h.at) h.left ∙ s.is in
    record { at = s.mid; stands = s.stands; left = s.left; more = λ end t. h.more end (one_more is t); worse = λ rule r. h.worse rule (later is r) }

pub taking_ends : (slots : List menu.Slot) (start : At) (old new : Taking) (words : List (List ℕ)) (h : IsTaking slots start old words) → next (map slot_of slots) h.at words ≡ enough → IsAt slots new h.at → TakesTo slots start new words
taking_ends slots start old new words h e stands = record { end = h.at; taken = h.more h.at (no_more (ap (next (map slot_of slots) h.at) h.left ∙ e)); stands = stands; left = h.left }

-- one word, and what the code found
pub taking_step : (slots : List menu.Slot) (start : At) (old new : Taking) (left others : List (List ℕ)) (text : List ℕ) (step : Option (Bor (List (List ℕ)))) → IsTaking slots start old left → left ≡ text ∷ others
    → ((at : At) → IsAt slots old at → MatchOption step ((next (map slot_of slots) at (text ∷ others) ≡ enough) × IsAt slots new at) (λ rest. StepsTo slots (next (map slot_of slots) at (text ∷ others)) new rest.now))
    → MatchOption step (TakesTo slots start new left) (λ rest. IsTaking slots start new rest.now)
taking_step slots start old new left others text None h e f = let m = f h.at h.stands in taking_ends slots start old new left h (ap (next (map slot_of slots) h.at) e ∙ m.0) m.1
taking_step slots start old new left others text (Some rest) h e f =
    taking_more slots start old new left rest.now h (subst (λ ws. StepsTo slots (next (map slot_of slots) h.at ws) new rest.now) (sym e) (f h.at h.stands))

pub taking_fails : (slots : List menu.Slot) (own : List ℕ) (start : At) (old : Taking) (left others : List (List ℕ)) (text : List ℕ) (fault : WordFault) → IsTaking slots start old left → left ≡ text ∷ others
    → ((at : At) → IsAt slots old at → IsRefusedIn own (λ rule. next (map slot_of slots) at (text ∷ others) ≡ refuses rule) fault) → IsRefusedIn own (Refuses (map slot_of slots) start) fault
taking_fails slots own start old left others text fault h e f = λ some.
    let r = f h.at h.stands some in
    (r.0, (r.1.0, (r.1.1.0, r.1.1.1, h.worse r.1.1.0 (here (ap (next (map slot_of slots) h.at) (h.left ∙ e) ∙ r.1.1.2)))))

-- no word is left
pub taking_stops : (slots : List menu.Slot) (start : At) (old : Taking) (left : List (List ℕ)) → IsTaking slots start old left → length left ≡ 0 → TakesTo slots start old left
taking_stops slots start old left h over = taking_ends slots start old old left h (ap (next (map slot_of slots) h.at) (nil_from_length left over)) h.stands

-- ---- the end

least_map : (slots : List menu.Slot) → count_by (λ slot. slot.required && not (menus.is_option slot)) slots ≡ least (map slot_of slots)
least_map [] = refl
least_map (slot ∷ slots) =
    sum_by-cons (λ s. cond (s.required && not (menus.is_option s)) 1 0) slot slots ∙ (λ k. cond (slot.required && not (option_same slot k)) 1 0 + least_map slots k)
    ∙ sym (sum_by-cons (λ s. cond (s.required && not (is_option s)) 1 0) (slot_of slot) (map slot_of slots))

enough_found : (n most found greatest : ℕ) → found ≡ min n greatest → most ≤ greatest → leb most found ≡ not (ltb n most)
enough_found n most found greatest e l = by_test (ltb n most)
    (λ t. lt-leb most found (omega (arith, e, ltb-true n most t)) ∙ sym (ap not t))
    (λ t. le-leb most found (omega (arith, e, l, ltb-false n most t)) ∙ sym (ap not t))

-- what was taken is complete where there are words enough and nothing is lacking
pub complete_is : (slots : List menu.Slot) (taking : Taking) (at : At) (most : ℕ) → IsAt slots taking at → most ≡ count_by (λ slot. slot.required && not (menus.is_option slot)) slots → most ≤ 2 ^ 64 - 1
    → (leb most taking.found && not (list_any (λ both. is_lacking both.0 both.1) (zip slots taking.groups.items))) ≡ is_complete (map slot_of slots) at.taken
complete_is slots taking at most h e l =
    let words = enough_found (length (placed_words at.taken)) most taking.found (2 ^ 64 - 1) h.counted l ∙ ap (λ m. not (ltb (length (placed_words at.taken)) m)) (e ∙ least_map slots) in
    let given = ap (λ gs. list_any (λ both. is_lacking both.0 both.1) (zip slots gs)) h.grouped ∙ some_lacks slots at.taken 0 (placed_words at.taken) in
    λ k. words k && (ap not given ∙ twice (all_given at.taken 0 (map slot_of slots))) k
  where
    twice : (b : Bool) → not (not b) ≡ b
    twice true = refl
    twice false = refl

-- ---- the beginning

any_option : (slots : List menu.Slot) → list_any menus.is_option slots ≡ list_any is_option (map slot_of slots)
any_option [] = refl
any_option (slot ∷ slots) = λ k. option_same slot k || any_option slots k

-- nothing is taken at first
pub nothing_taken : (slots : List menu.Slot) (taking : Taking) (count : ℕ) (words : List (List ℕ)) → taking.options ≡ list_any menus.is_option slots → count ≡ length slots → taking.groups.items ≡ replicate count [] → taking.next ≡ room (map slot_of slots) 0
    → taking.found ≡ 0 → ArePlaces slots taking.places → IsAt slots taking (beginning (map slot_of slots) words)
nothing_taken slots taking count words o n g first f p = record {
  options = o ∙ any_option slots;
  grouped = g ∙ ap (λ m. replicate m []) (n ∙ sym (length-map slots slot_of)) ∙ sym (no_groups (map slot_of slots) 0);
  next = first;
  counted = omega (arith, f);
  places = p;
}
