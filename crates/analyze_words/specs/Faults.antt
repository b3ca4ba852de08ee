-- Why words are refused, in words.
use Rattle.std.specs.Prelude.{◌≡◌, ◌≢◌, ℕ, List, ◌++◌, codes}
use Rattle.std.specs.Fmt.{decimal}
use Rattle.analyze_words.specs.declared.fault.WordFault.{WordFault}
use Rattle.analyze_words.specs.declared.fault.WordFault.TheVariants.{OutOfMemory, UnknownRecipe, UnknownModule, ArgumentCount, UnknownOption, OptionValue, NoRecipes, DefaultNeedsArguments, UnknownVariable, ExtraWord, MissingCommand}

-- this refusal, unless memory ran out
abbrev pub IsFault : WordFault → WordFault → Type 0
IsFault wanted fault = fault ≢ OutOfMemory → fault ≡ wanted

-- a refusal's name in lower case
abbrev pub fault_name : WordFault → List ℕ
fault_name OutOfMemory = codes "out of memory"
fault_name (UnknownRecipe word) = codes "unknown recipe"
fault_name (UnknownModule word) = codes "unknown module"
fault_name (ArgumentCount recipe found) = codes "argument count"
fault_name (UnknownOption recipe word) = codes "unknown option"
fault_name (OptionValue recipe word) = codes "option value"
fault_name NoRecipes = codes "no recipes"
fault_name (DefaultNeedsArguments recipe) = codes "default needs arguments"
fault_name (UnknownVariable word) = codes "unknown variable"
fault_name (ExtraWord word) = codes "extra word"
fault_name MissingCommand = codes "missing command"

-- a name, and a field after it
abbrev pub one_field : List ℕ → List ℕ → List ℕ
one_field name field = name ++ (codes ": `" ++ (field ++ codes "`"))

-- a name, and two fields after it
abbrev pub two_fields : List ℕ → List ℕ → List ℕ → List ℕ
two_fields name field other = name ++ (codes ": `" ++ (field ++ (codes "`, `" ++ (other ++ codes "`"))))

-- the printed refusal: its name, and its fields between backticks
abbrev pub fault_text : WordFault → List ℕ
fault_text OutOfMemory = fault_name OutOfMemory
fault_text (UnknownRecipe word) = one_field (fault_name (UnknownRecipe word)) word
fault_text (UnknownModule word) = one_field (fault_name (UnknownModule word)) word
fault_text (ArgumentCount recipe found) = two_fields (fault_name (ArgumentCount recipe found)) recipe (decimal found)
fault_text (UnknownOption recipe word) = two_fields (fault_name (UnknownOption recipe word)) recipe word
fault_text (OptionValue recipe word) = two_fields (fault_name (OptionValue recipe word)) recipe word
fault_text NoRecipes = fault_name NoRecipes
fault_text (DefaultNeedsArguments recipe) = one_field (fault_name (DefaultNeedsArguments recipe)) recipe
fault_text (UnknownVariable word) = one_field (fault_name (UnknownVariable word)) word
fault_text (ExtraWord word) = one_field (fault_name (ExtraWord word)) word
fault_text MissingCommand = fault_name MissingCommand
