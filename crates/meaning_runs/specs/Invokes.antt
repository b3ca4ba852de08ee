-- Which recipes words invoke, and what the words give to their parameters; or which rule they break.
use Rattle.std.proofs.Common.{nat_lt}
use Rattle.std.specs.Prelude.{◌≡◌, ℕ, List, [], ◌∷◌, ◌++◌, Bool, true, false, not, ◌&&◌, ◌||◌, ◌==◌, ◌+◌, ◌-◌, ◌^◌, min, Option, Some, None, cond, codes, length, slice_get}
use Rattle.std.specs.List.{list_any}
use Rattle.std.specs.Str.{bytes_eq}
use Rattle.tree_expressions.specs.Cutting.{begins}
use Rattle.modules_compilation.specs.Modulepaths.{pieces}
use Rattle.meaning_runs.specs.Words.{Slot, WordMeaning, recipe, submodule, Words, is_option, option_named, has_room, least}

-- the rules of words: of which word, of which recipe by its own name, and how many words that recipe took by their place
pub data WordRule : Type 0 where
  unknown_recipe : List ℕ → WordRule
  unknown_module : List ℕ → WordRule
  argument_count : List ℕ → ℕ → WordRule
  unknown_option : List ℕ → List ℕ → WordRule
  option_value : List ℕ → List ℕ → WordRule
  no_recipes : WordRule
  default_needs_arguments : List ℕ → WordRule

-- the rules of options, of which word
pub data OptionRule : Type 0 where
  no_option : List ℕ → OptionRule
  wrong_value : List ℕ → OptionRule

-- the rule of words that it is in a recipe of this name
abbrev pub of_recipe : List ℕ → OptionRule → WordRule
of_recipe own (no_option word) = unknown_option own word
of_recipe own (wrong_value word) = option_value own word

-- ---- names

-- what a path stands for from a module on: each part but the last has to be a module
pub data Followed (Module Recipe : Type 0) : Type 0 where
  means : Option (WordMeaning Module Recipe) → Followed Module Recipe
  lost : Followed Module Recipe

module _ {Module Recipe : Type 0} (w : Words Module Recipe) where
  abbrev pub follow : Module → List (List ℕ) → Followed Module Recipe
  follow here [] = means None
  follow here (part ∷ []) = means (w.meaning here part)
  follow here (part ∷ other ∷ others) = within (w.meaning here part) (λ inner. follow inner (other ∷ others))
    where
      within : {Module Recipe : Type 0} → Option (WordMeaning Module Recipe) → (Module → Followed Module Recipe) → Followed Module Recipe
      within None next = lost
      within (Some (recipe r)) next = lost
      within (Some (submodule inner)) next = next inner

-- a recipe and the words after its name, or a rule that is broken
pub data Found (Recipe : Type 0) : Type 0 where
  found : Recipe → List (List ℕ) → Found Recipe
  refused : WordRule → Found Recipe

module _ {Module Recipe : Type 0} (w : Words Module Recipe) where
  -- a module's default, which may not need words
  abbrev pub default_of : Option Recipe → Found Recipe
  default_of None = refused no_recipes
  default_of (Some r) = cond (list_any (λ slot. slot.required) (w.slots r)) (refused (default_needs_arguments (w.name r))) (found r [])

  -- the recipe that words name from a module on: by a path, in a submodule, or, where no word is left, the module's default
  abbrev pub find : Module → List (List ℕ) → Found Recipe
  find here [] = default_of (w.default here)
  find here (text ∷ words) = by_path (follow w here (pieces text)) words (λ inner. find inner words)
    where
      by_path : {Module Recipe : Type 0} → Followed Module Recipe → List (List ℕ) → (Module → Found Recipe) → Found Recipe
      by_path lost words next = refused (unknown_module text)
      by_path (means None) words next = refused (unknown_recipe text)
      by_path (means (Some (recipe r))) words next = found r words
      by_path (means (Some (submodule inner))) words next = next inner

-- ---- what a recipe takes

-- one thing that a recipe takes: a word by its place, or a value by the option of the parameter at a place
pub data Taken : Type 0 where
  word : List ℕ → Taken
  value : ℕ → List ℕ → Taken

abbrev pub placed_words : List Taken → List (List ℕ)
placed_words [] = []
placed_words (word text ∷ taken) = text ∷ placed_words taken
placed_words (value place text ∷ taken) = placed_words taken

abbrev pub values_given : ℕ → List Taken → List (List ℕ)
values_given place [] = []
values_given place (word text ∷ taken) = values_given place taken
values_given place (value at text ∷ taken) = cond (place == at) (text ∷ values_given place taken) (values_given place taken)

-- where a recipe is among its words: whether options are still read, what it took, and the words that follow
pub record At : Type 0 where
  pub options : Bool
  pub taken : List Taken
  pub words : List (List ℕ)

-- what a recipe does next: it takes one thing, has enough, or a rule is broken
pub data Step : Type 0 where
  takes : At → Step
  enough : Step
  refuses : OptionRule → Step

-- a word that is an option's where options are read: it begins with a dash, and isn't a dash alone
abbrev pub is_dashed : List ℕ → Bool
is_dashed text = begins text (codes "-") && not (bytes_eq text (codes "-"))

-- the text up to its first `=`, and what stands after it
abbrev pub before_equals : List ℕ → List ℕ
before_equals [] = []
before_equals (b ∷ bs) = cond (b == 61) [] (b ∷ before_equals bs)

abbrev pub behind_equals : List ℕ → Option (List ℕ)
behind_equals [] = None
behind_equals (b ∷ bs) = cond (b == 61) (Some bs) (behind_equals bs)

abbrev pub with_word : At → List ℕ → List (List ℕ) → At
with_word at text words = record { options = at.options; taken = at.taken ++ word text ∷ []; words = words }

abbrev pub with_value : At → ℕ → List ℕ → List (List ℕ) → At
with_value at place text words = record { options = at.options; taken = at.taken ++ value place text ∷ []; words = words }

-- an option's value: after `=`, or the next word; one that takes none is `true`
abbrev pub option_valued : At → List ℕ → ℕ → Bool → Option (List ℕ) → List (List ℕ) → Step
option_valued at option place true (Some text) words = takes (with_value at place text words)
option_valued at option place true None (text ∷ words) = takes (with_value at place text words)
option_valued at option place true None [] = refuses (wrong_value option)
option_valued at option place false (Some text) words = refuses (wrong_value option)
option_valued at option place false None words = takes (with_value at place (codes "true") words)

-- none stands twice that may not
abbrev pub is_used : List (List ℕ) → Bool
is_used [] = false
is_used (text ∷ texts) = true

abbrev pub by_slot : At → List ℕ → ℕ → Option Slot → Option (List ℕ) → List (List ℕ) → Step
by_slot at option place None text words = refuses (no_option option)
by_slot at option place (Some slot) text words = cond (is_used (values_given place at.taken) && not slot.multiple) (refuses (wrong_value option)) (option_valued at option place slot.takes_value text words)

abbrev pub by_option : List Slot → At → List ℕ → Option ℕ → Option (List ℕ) → List (List ℕ) → Step
by_option slots at option None text words = refuses (no_option option)
by_option slots at option (Some place) text words = by_slot at option place (slice_get slots place) text words

abbrev pub next : List Slot → At → List (List ℕ) → Step
next slots at [] = enough
next slots at (text ∷ words) =
    cond (at.options && is_dashed text)
    (cond (bytes_eq text (codes "--")) (takes (record { options = false; taken = at.taken; words = words })) (by_option slots at text (option_named slots (before_equals text)) (behind_equals text) words))
    (cond (has_room slots (length (placed_words at.taken))) (takes (with_word at text words)) enough)

-- as much as the recipe can take
pub data Takes (slots : List Slot) : At → At → Type 0 where
  no_more : {at : At} → next slots at at.words ≡ enough → Takes slots at at
  one_more : {at mid end : At} → next slots at at.words ≡ takes mid → Takes slots mid end → Takes slots at end

-- a rule is broken on the way
pub data Refuses (slots : List Slot) : At → OptionRule → Type 0 where
  here : {at : At} {rule : OptionRule} → next slots at at.words ≡ refuses rule → Refuses slots at rule
  later : {at mid : At} {rule : OptionRule} → next slots at at.words ≡ takes mid → Refuses slots mid rule → Refuses slots at rule

-- where a recipe begins; options are read where it has any
abbrev pub beginning : List Slot → List (List ℕ) → At
beginning slots words = record { options = list_any is_option slots; taken = []; words = words }

-- enough words, and each option that has to be given
abbrev pub all_given : List Taken → ℕ → List Slot → Bool
all_given taken place [] = true
all_given taken place (slot ∷ slots) = (not (slot.required && is_option slot) || is_used (values_given place taken)) && all_given taken (place + 1) slots

-- how many words it took by their place, a number of 64 bits
abbrev pub words_found : List Taken → ℕ
words_found taken = min (length (placed_words taken)) (2 ^ 64 - 1)

abbrev pub is_complete : List Slot → List Taken → Bool
is_complete slots taken = not (nat_lt (length (placed_words taken)) (least slots)) && all_given taken 0 slots

-- the groups of the parameters from a place on: an option's values, all words that remain, or one word if there is one
abbrev pub first_word : List (List ℕ) → List (List ℕ)
first_word [] = []
first_word (text ∷ texts) = text ∷ []

abbrev pub words_behind : List (List ℕ) → List (List ℕ)
words_behind [] = []
words_behind (text ∷ texts) = texts

abbrev pub groups_from : List Taken → ℕ → List Slot → List (List ℕ) → List (List (List ℕ))
groups_from taken place [] words = []
groups_from taken place (slot ∷ slots) words =
    cond (is_option slot) (values_given place taken ∷ groups_from taken (place + 1) slots words)
    (cond slot.variadic (words ∷ groups_from taken (place + 1) slots []) (first_word words ∷ groups_from taken (place + 1) slots (words_behind words)))

abbrev pub groups_of : List Slot → List Taken → List (List (List ℕ))
groups_of slots taken = groups_from taken 0 slots (placed_words taken)

-- ---- all words

module _ {Module Recipe : Type 0} (w : Words Module Recipe) where
  -- the first recipe that words invoke, the groups of its parameters, and the words that are left
  pub record Invokes (words : List (List ℕ)) (r : Recipe) (groups : List (List (List ℕ))) (rest : List (List ℕ)) : Type 0 where
    pub behind : List (List ℕ)
    pub end : At
    pub named : find w w.root words ≡ found r behind
    pub taken : Takes (w.slots r) (beginning (w.slots r) behind) end
    pub complete : is_complete (w.slots r) end.taken ≡ true
    pub grouped : groups ≡ groups_of (w.slots r) end.taken
    pub left : rest ≡ end.words

  -- words that name recipes: where no words ask for the list, there are some
  abbrev pub IsAsked : List (List ℕ) → Type 0
  IsAsked words = words ≡ [] → w.lists ≡ false

  -- The invocations of all words: at least one, each by the words that the one before left, and no word is left; none where no words ask for the list.
  pub data Invoke : List (List ℕ) → List (Recipe × List (List (List ℕ))) → Type 0 where
    listed : w.lists ≡ true → Invoke [] []
    last : {words : List (List ℕ)} {r : Recipe} {groups : List (List (List ℕ))} → IsAsked words → Invokes words r groups [] → Invoke words ((r, groups) ∷ [])
    more : {words rest : List (List ℕ)} {text : List ℕ} {r : Recipe} {groups : List (List (List ℕ))} {others : List (Recipe × List (List (List ℕ)))}
        → IsAsked words → Invokes words r groups (text ∷ rest) → Invoke (text ∷ rest) others → Invoke words ((r, groups) ∷ others)

  -- a rule is broken by the first recipe's words
  pub data BreaksFirst : List (List ℕ) → WordRule → Type 0 where
    unfound : {words : List (List ℕ)} {rule : WordRule} → find w w.root words ≡ refused rule → BreaksFirst words rule
    untaken : {words behind : List (List ℕ)} {r : Recipe} {rule : OptionRule} → find w w.root words ≡ found r behind → Refuses (w.slots r) (beginning (w.slots r) behind) rule → BreaksFirst words (of_recipe (w.name r) rule)
    incomplete : {words behind : List (List ℕ)} {r : Recipe} {end : At} → find w w.root words ≡ found r behind → Takes (w.slots r) (beginning (w.slots r) behind) end
        → is_complete (w.slots r) end.taken ≡ false → BreaksFirst words (argument_count (w.name r) (words_found end.taken))

  -- a rule of words is broken, after whole invocations
  pub data BreaksWords : List (List ℕ) → WordRule → Type 0 where
    at_first : {words : List (List ℕ)} {rule : WordRule} → IsAsked words → BreaksFirst words rule → BreaksWords words rule
    behind : {words rest : List (List ℕ)} {text : List ℕ} {r : Recipe} {groups : List (List (List ℕ))} {rule : WordRule} → IsAsked words → Invokes words r groups (text ∷ rest) → BreaksWords (text ∷ rest) rule → BreaksWords words rule
