-- Refusals of words, and the rules that they name.
use Rattle.std.specs.Prelude.{◌≡◌, ◌≢◌, ℕ, false, List, Option, Some, None}
use Rattle.analyze_words.specs.declared.fault.WordFault.{WordFault}
use Rattle.analyze_words.specs.declared.fault.WordFault.TheVariants.{OutOfMemory, UnknownRecipe, UnknownModule, ArgumentCount, UnknownOption, OptionValue, NoRecipes, DefaultNeedsArguments, UnknownVariable, ExtraWord, MissingCommand}
use Rattle.meaning_runs.specs.Words.{Slot}
use Rattle.meaning_runs.specs.Invokes.{OptionRule, WordRule, of_recipe, words_found, unknown_recipe, unknown_module, argument_count, unknown_option, option_value, no_recipes, default_needs_arguments, Followed, means, lost, At, Refuses, Takes, beginning, is_complete}

-- the rule of words that a refusal names, with what it is told of
abbrev pub rule_of : WordFault → Option WordRule
rule_of OutOfMemory = None
rule_of (UnknownRecipe word) = Some (unknown_recipe word)
rule_of (UnknownModule word) = Some (unknown_module word)
rule_of (ArgumentCount recipe found) = Some (argument_count recipe found)
rule_of (UnknownOption recipe word) = Some (unknown_option recipe word)
rule_of (OptionValue recipe word) = Some (option_value recipe word)
rule_of NoRecipes = Some no_recipes
rule_of (DefaultNeedsArguments recipe) = Some (default_needs_arguments recipe)
rule_of (UnknownVariable word) = None
rule_of (ExtraWord word) = None
rule_of MissingCommand = None

-- the refusal names a broken rule, unless memory ran out
abbrev pub IsRefusedBy : (WordRule → Type 0) → WordFault → Type 0
IsRefusedBy Breaks fault = fault ≢ OutOfMemory → (rule : WordRule) × ((rule_of fault ≡ Some rule) × Breaks rule)

-- the refusal names the rule of an option of a recipe of this name, which is broken, unless memory ran out
abbrev pub IsRefusedIn : List ℕ → (OptionRule → Type 0) → WordFault → Type 0
IsRefusedIn name Breaks = IsRefusedBy (λ rule. (option : OptionRule) × (rule ≡ of_recipe name option) × Breaks option)

-- the rule that a path breaks, which is this word
abbrev pub PathBreaks : {Module Recipe : Type 0} → List ℕ → Followed Module Recipe → WordRule → Type 0
PathBreaks word lost rule = rule ≡ unknown_module word
PathBreaks word (means None) rule = rule ≡ unknown_recipe word
PathBreaks word (means (Some meaning)) rule = ⊥

-- the words of a recipe of this name break the rule
pub data WordsBreak (name : List ℕ) (slots : List Slot) (words : List (List ℕ)) : WordRule → Type 0 where
  untaken : {rule : OptionRule} → Refuses slots (beginning slots words) rule → WordsBreak name slots words (of_recipe name rule)
  incomplete : {end : At} → Takes slots (beginning slots words) end → is_complete slots end.taken ≡ false → WordsBreak name slots words (argument_count name (words_found end.taken))
