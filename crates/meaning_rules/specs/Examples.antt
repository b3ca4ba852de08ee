-- Small worlds that show what the rules don't say.
use Rattle.std.specs.Prelude.{◌||◌, false, if◌then◌else◌, List, ◌∷◌, Some, None, Ok, codes, bytes_eq, []}
use Rattle.just_text.specs.declared.os.Os.TheVariants.{Linux}
use Rattle.tree_items.specs.Files.{ItemShape, recipe_item}
use Rattle.tree_items.specs.Recipes.{DependencyShape}
use Rattle.meaning_rules.specs.Worlds.Given.{Text, World, Overrides}
use Rattle.meaning_rules.specs.Rules.{Broken, circular_recipe}

abbrev pub recipe_of : Text → List DependencyShape → ItemShape
recipe_of name priors = recipe_item [] (record { quiet = false; name = name; parameters = []; priors = priors; subsequents = []; body = [] })

abbrev pub root_key : Text
root_key = codes "justfile"

abbrev pub other_key : Text
other_key = codes "other.just"

-- `a:`
abbrev pub root_items : List ItemShape
root_items = recipe_of (codes "a") [] ∷ []

-- `b: b`
abbrev pub other_items : List ItemShape
other_items = recipe_of (codes "b") (record { path = codes "b" ∷ []; arguments = [] } ∷ []) ∷ []

-- a root without imports and modules, and beside it a file that nobody reaches, with a cycle
abbrev pub unreached : World
unreached = record {
  os = Linux;
  unstable = false;
  expansion = λ text. Ok text;
  root = root_key;
  there = λ key. bytes_eq key root_key || bytes_eq key other_key;
  said = λ key. if bytes_eq key root_key then Some root_items else if bytes_eq key other_key then Some other_items else None;
  refused = λ key kind. false;
}

-- the cycle breaks nothing
abbrev pub UnreachedIsUnbroken : Type 0
UnreachedIsUnbroken = (o : Overrides) → Broken unreached o (circular_recipe (codes "b" ∷ codes "b" ∷ [])) → ⊥
