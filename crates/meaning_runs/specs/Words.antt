-- What words mean: names in modules, and parameters as words see them.
use Rattle.std.proofs.Common.{nat_lt}
use Rattle.std.specs.Prelude.{ℕ, List, Bool, false, not, ◌&&◌, ◌||◌, is_some, Option, Some, None, cond, codes, drop}
use Rattle.std.specs.List.{count_by, position, list_any}
use Rattle.std.specs.Str.{bytes_eq}
use Rattle.tree_expressions.specs.Cutting.{begins}

-- a parameter, as words see it: the names of its option, after two dashes and after one
pub record Slot : Type 0 where
  pub long : Option (List ℕ)
  pub short : Option (List ℕ)
  pub takes_value : Bool
  pub multiple : Bool
  pub variadic : Bool
  pub required : Bool

-- what a name stands for in a module
pub data WordMeaning (Module Recipe : Type 0) : Type 0 where
  recipe : Recipe → WordMeaning Module Recipe
  submodule : Module → WordMeaning Module Recipe

-- whether no words ask for the list; what names mean in modules, the recipe that runs where none is named, a recipe's own name, and its parameters
pub record Words (Module Recipe : Type 0) : Type 0 where
  pub root : Module
  pub lists : Bool
  pub meaning : Module → List ℕ → Option (WordMeaning Module Recipe)
  pub default : Module → Option Recipe
  pub name : Recipe → List ℕ
  pub slots : Recipe → List Slot

-- an option gives the parameter its value, and no word by its place
abbrev pub is_option : Slot → Bool
is_option slot = is_some slot.long || is_some slot.short

abbrev pub has_text : Option (List ℕ) → List ℕ → Bool
has_text None name = false
has_text (Some text) name = bytes_eq text name

-- two dashes and the long name, or a dash and the short one
abbrev pub is_named : List ℕ → Slot → Bool
is_named name slot = cond (begins name (codes "--")) (has_text slot.long (drop 2 name)) (begins name (codes "-") && has_text slot.short (drop 1 name))

-- the place of the parameter whose option has the name
abbrev pub option_named : List Slot → List ℕ → Option ℕ
option_named slots name = position (is_named name) slots

-- a parameter that takes words by their place
abbrev pub by_place : Slot → Bool
by_place slot = not (is_option slot)

-- whether a recipe takes one word more by its place, after so many: a variadic parameter takes any number
abbrev pub has_room : List Slot → ℕ → Bool
has_room slots n = list_any (λ slot. by_place slot && slot.variadic) slots || nat_lt n (count_by by_place slots)

-- how many words it needs by their place
abbrev pub least : List Slot → ℕ
least slots = count_by (λ slot. slot.required && not (is_option slot)) slots
