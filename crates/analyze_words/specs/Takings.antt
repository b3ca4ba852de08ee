-- How a recipe takes words, as the code keeps it.
use Rattle.std.specs.Prelude.{◌≡◌, ℕ, zero, suc, ◌-◌, ◌^◌, List, [], ◌∷◌, ◌++◌, Bool, true, false, not, ◌&&◌, Option, Some, None, cond, codes, length, map, min}
use Rattle.std.specs.Borrow.{Bor}
use Rattle.std.specs.List.{position}
use Rattle.analyze_words.specs.declared.menu.Slot as menu
use Rattle.analyze_words.specs.declared.options.OptionPlaces.{OptionPlaces}
use Rattle.analyze_words.specs.declared.taking.Taking.{Taking}
use Rattle.analyze_words.specs.Menus as menus
use Rattle.meaning_runs.specs.Words.{Slot, is_option}
use Rattle.meaning_runs.specs.Invokes.{At, Step, takes, Takes, beginning, with_word, placed_words, is_used, groups_of, is_complete}
use Rattle.analyze_words.specs.Worded.{slot_of}

-- the groups, with an element more in one of them
abbrev pub pushed : {X : Type 0} → List (List X) → ℕ → X → List (List X)
pushed [] place x = []
pushed (group ∷ groups) zero x = (group ++ x ∷ []) ∷ groups
pushed (group ∷ groups) (suc place) x = group ∷ pushed groups place x

-- the place of the parameter that takes a word by its place after so many, or the number of parameters
abbrev pub room : List Slot → ℕ → ℕ
room [] n = 0
room (slot ∷ slots) zero = cond (is_option slot) (suc (room slots zero)) 0
room (slot ∷ slots) (suc n) = cond (is_option slot) (suc (room slots (suc n))) (cond slot.variadic 0 (suc (room slots n)))

-- these are the places of the parameters by their options' names
pub record ArePlaces (slots : List menu.Slot) (places : OptionPlaces) : Type 0 where
  pub long : (name : Bor (List ℕ)) → menus.long_place places name ≡ position (menus.has_long name.now) slots
  pub short : (name : ℕ) → menus.short_place places name ≡ position (menus.has_short name) slots

-- what a recipe has taken is what it has taken there
pub record IsAt (slots : List menu.Slot) (taking : Taking) (at : At) : Type 0 where
  pub options : taking.options ≡ at.options
  pub grouped : taking.groups.items ≡ groups_of (map slot_of slots) at.taken
  pub next : taking.next ≡ room (map slot_of slots) (length (placed_words at.taken))
  pub counted : taking.found ≡ min (length (placed_words at.taken)) (2 ^ 64 - 1)
  pub places : ArePlaces slots taking.places

-- all but the groups is the same
pub record IsSameButGroups (old new : Taking) : Type 0 where
  pub next : new.next ≡ old.next
  pub found : new.found ≡ old.found
  pub options : new.options ≡ old.options
  pub places : new.places ≡ old.places

-- a parameter that an option has to give has nothing
abbrev pub is_lacking : menu.Slot → List (List ℕ) → Bool
is_lacking slot group = (slot.required && menus.is_option slot) && not (is_used group)

-- an option's value and the words after it: what stands after `=`, or else the next word; `true` for an option that takes no value
abbrev pub value_given : Bool → Option (List ℕ) → List (List ℕ) → Option (List ℕ × List (List ℕ))
value_given true (Some text) words = Some (text, words)
value_given true None (text ∷ words) = Some (text, words)
value_given true None [] = None
value_given false (Some text) words = None
value_given false None words = Some (codes "true", words)

-- the step takes, up to where the code stands
pub record StepsTo (slots : List menu.Slot) (step : Step) (taking : Taking) (words : List (List ℕ)) : Type 0 where
  pub mid : At
  pub is : step ≡ takes mid
  pub stands : IsAt slots taking mid
  pub left : mid.words ≡ words

-- the recipe takes as much as it can, up to where the code stands
pub record TakesTo (slots : List menu.Slot) (at : At) (taking : Taking) (words : List (List ℕ)) : Type 0 where
  pub end : At
  pub taken : Takes (map slot_of slots) at end
  pub stands : IsAt slots taking end
  pub left : end.words ≡ words

-- the groups that words give to parameters, and the words that are left
pub record WordsGive (slots : List Slot) (words : List (List ℕ)) (groups : List (List (List ℕ))) (rest : List (List ℕ)) : Type 0 where
  pub end : At
  pub taken : Takes slots (beginning slots words) end
  pub complete : is_complete slots end.taken ≡ true
  pub grouped : groups ≡ groups_of slots end.taken
  pub left : rest ≡ end.words
