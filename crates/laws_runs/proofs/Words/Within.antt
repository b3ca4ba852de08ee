-- Words that are left are among the words.
use Rattle.std.proofs.Common.{◌≡◌, ℕ, List, [], ◌∷◌, Bool, true, false, not, ◌&&◌, cond, Option, Some, None, refl, subst}
use Rattle.std.specs.Prelude.{Contains, slice_get, ⊤, codes, length}
use Rattle.std.specs.List.{list_any}
use Rattle.std.specs.Str.{bytes_eq}
use Rattle.std.proofs.lemmas.List.Elements.{Contains-append_left, Contains-append_right, Contains-push}
use Rattle.modules_compilation.specs.Modulepaths.{pieces}
use Rattle.meaning_runs.specs.Words.{Slot, Words, recipe, submodule, option_named, has_room}
use Rattle.meaning_runs.specs.Invokes.{Followed, means, lost, follow, Found, found, refused, find, default_of, At, Step, takes, enough, refuses, next, option_valued, by_slot, by_option, before_equals, behind_equals, Takes, no_more, one_more, Invokes, is_used, values_given, wrong_value, is_dashed, with_word, placed_words, default_needs_arguments}
use Rattle.laws_runs.specs.Words.Met.{IsNamed}

-- ---- lists

pub contains_first : {X : Type 0} (x : X) (xs : List X) → Contains (x ∷ xs) x
contains_first x xs = Contains-append_left (x ∷ []) xs x (Contains-push [] x)

pub contains_later : {X : Type 0} (x : X) (xs : List X) (y : X) → Contains xs y → Contains (x ∷ xs) y
contains_later x xs y h = Contains-append_right (x ∷ []) xs y h

-- each word of the one list is in the other
abbrev pub IsWithin : List (List ℕ) → List (List ℕ) → Type 0
IsWithin left words = (word : List ℕ) → Contains left word → Contains words word

-- a name of words that are left is a name of the words
pub named_within : (left words : List (List ℕ)) (name : List ℕ) → IsWithin left words → IsNamed left name → IsNamed words name
named_within left words name within (word, there, piece) = (word, within word there, piece)

within_more : (left words : List (List ℕ)) (text : List ℕ) → IsWithin left words → IsWithin left (text ∷ words)
within_more left words text within = λ word h. contains_later text words word (within word h)

-- one of two, by a test
either : {X : Type 0} (P : X → Type 0) (test : Bool) (x y : X) → P x → P y → P (cond test x y)
either P true x y p q = p
either P false x y p q = q

-- ---- what a step leaves

abbrev StepLeaves : List (List ℕ) → Step → Type 0
StepLeaves words (takes at) = IsWithin at.words words
StepLeaves words enough = ⊤
StepLeaves words (refuses rule) = ⊤

valued_leaves : (at : At) (option : List ℕ) (place : ℕ) (takes_value : Bool) (text : Option (List ℕ)) (words all : List (List ℕ)) → IsWithin words all → StepLeaves all (option_valued at option place takes_value text words)
valued_leaves at option place true (Some text) words all h = h
valued_leaves at option place true None (text ∷ words) all h = λ word k. h word (contains_later text words word k)
valued_leaves at option place true None [] all h = tt
valued_leaves at option place false (Some text) words all h = tt
valued_leaves at option place false None words all h = h

slot_leaves : (at : At) (option : List ℕ) (place : ℕ) (slot : Option Slot) (text : Option (List ℕ)) (words all : List (List ℕ)) → IsWithin words all → StepLeaves all (by_slot at option place slot text words)
slot_leaves at option place None text words all h = tt
slot_leaves at option place (Some slot) text words all h =
    either (StepLeaves all) (is_used (values_given place at.taken) && not slot.multiple) (refuses (wrong_value option)) (option_valued at option place slot.takes_value text words)
    tt (valued_leaves at option place slot.takes_value text words all h)

option_leaves : (slots : List Slot) (at : At) (option : List ℕ) (place : Option ℕ) (text : Option (List ℕ)) (words all : List (List ℕ)) → IsWithin words all → StepLeaves all (by_option slots at option place text words)
option_leaves slots at option None text words all h = tt
option_leaves slots at option (Some place) text words all h = slot_leaves at option place (slice_get slots place) text words all h

next_leaves : (slots : List Slot) (at : At) (words : List (List ℕ)) → StepLeaves words (next slots at words)
next_leaves slots at [] = tt
next_leaves slots at (text ∷ words) =
    let later : IsWithin words (text ∷ words) = (λ word h. contains_later text words word h) in
    either (StepLeaves (text ∷ words)) (at.options && is_dashed text)
    (cond (bytes_eq text (codes "--")) (takes (record { options = false; taken = at.taken; words = words })) (by_option slots at text (option_named slots (before_equals text)) (behind_equals text) words))
    (cond (has_room slots (length (placed_words at.taken))) (takes (with_word at text words)) enough)
    (either (StepLeaves (text ∷ words)) (bytes_eq text (codes "--")) (takes (record { options = false; taken = at.taken; words = words })) (by_option slots at text (option_named slots (before_equals text)) (behind_equals text) words)
    later (option_leaves slots at text (option_named slots (before_equals text)) (behind_equals text) words (text ∷ words) later))
    (either (StepLeaves (text ∷ words)) (has_room slots (length (placed_words at.taken))) (takes (with_word at text words)) enough later tt)

-- a recipe leaves words of its words
pub takes_leaves : {slots : List Slot} {at end : At} → Takes slots at end → IsWithin end.words at.words
takes_leaves (no_more e) = λ word h. h
takes_leaves {slots = slots} {at = at} (one_more e t) = λ word h. subst (StepLeaves at.words) e (next_leaves slots at at.words) word (takes_leaves t word h)

-- ---- what a name leaves

abbrev FoundLeaves : {Recipe : Type 0} → List (List ℕ) → Found Recipe → Type 0
FoundLeaves words (found r behind) = IsWithin behind words
FoundLeaves words (refused rule) = ⊤

found_more : {Recipe : Type 0} (words : List (List ℕ)) (text : List ℕ) (f : Found Recipe) → FoundLeaves words f → FoundLeaves (text ∷ words) f
found_more words text (found r behind) h = within_more behind words text h
found_more words text (refused rule) h = tt

module _ {Module Recipe : Type 0} (w : Words Module Recipe) where
  default_leaves : (o : Option Recipe) → FoundLeaves [] (default_of w o)
  default_leaves None = tt
  default_leaves (Some r) = either (FoundLeaves []) (list_any (λ slot. slot.required) (w.slots r)) (refused (default_needs_arguments (w.name r))) (found r []) tt (λ word h. h)

  find_leaves : (here : Module) (words : List (List ℕ)) → FoundLeaves words (find w here words)
  find_leaves here [] = default_leaves (w.default here)
  find_leaves here (text ∷ words) = cases (follow w here (pieces text)) refl (λ inner. find_leaves inner words)
    where
      cases : (f : Followed Module Recipe) → follow w here (pieces text) ≡ f → ((inner : Module) → FoundLeaves words (find w inner words)) → FoundLeaves (text ∷ words) (find w here (text ∷ words))
      cases lost e inner_leaves = rw e tt
      cases (means None) e inner_leaves = rw e tt
      cases (means (Some (recipe r))) e inner_leaves = rw e (λ word h. contains_later text words word h)
      cases (means (Some (submodule inner))) e inner_leaves = rw e (found_more words text (find w inner words) (inner_leaves inner))

  -- the first recipe leaves words of the words
  pub invokes_leaves : {words rest : List (List ℕ)} {r : Recipe} {groups : List (List (List ℕ))} → Invokes w words r groups rest → IsWithin rest words
  invokes_leaves {words = words} i = λ word h.
      let left : Contains i.end.words word = subst (λ ws. Contains ws word) i.left h in
      subst (FoundLeaves words) i.named (find_leaves w.root words) word (takes_leaves i.taken word left)
