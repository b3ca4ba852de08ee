-- What shows that the definitions carry: laws on worlds, modules and compilations.
use Rattle.tree_expressions.specs.Shape.{Shape}
use Rattle.parse_expressions.specs.Literals.{Expansion}
use Rattle.meaning_rules.specs.Naming.{occurrences, a_variable}
use Rattle.meaning_dialogues.specs.Evaluation.{Value}
use Rattle.meaning_dialogues.specs.Meaning.{Meaning}
use Rattle.meaning_rules.specs.Constants.{Means, meant, said_by}
use Rattle.std.specs.Prelude.{◌++◌, Bool, Contains, ◌≡◌, ℕ, false, List, ◌∷◌, Option, Some, None, slice_get}
use Rattle.just_value.specs.declared.positional.Override.{Override}
use Rattle.semver.specs.declared.Version.{Version}
use Rattle.tree_items.specs.Files.{ItemShape, file_text}
use Rattle.meaning_rules.specs.Overrides.{overrides_of}
use Rattle.meaning_rules.specs.Worlds.Reformatted.{IsFormattedAt}
use Rattle.meaning_rules.specs.Worlds.Given.{Text, World, Overrides}
use Rattle.meaning_rules.specs.Worlds.Sources.{Reached}
use Rattle.meaning_rules.specs.Worlds.Modules.{IsModule}
use Rattle.meaning_rules.specs.Depending.{DependsOn, IsRecipeCycle, LeadsTo}
use Rattle.meaning_rules.specs.Overriding.{IsOverriddenBy}
use Rattle.meaning_rules.specs.Rules.{Rule, Broken, is_of_files}

-- a recipe of a cycle stands in a module, whose file is reached
abbrev pub CyclesAreReached : Type 0
CyclesAreReached = (w : World) (recipes : List (List Text × Text)) (k : ℕ) (recipe : List Text × Text) → IsRecipeCycle w recipes → slice_get recipes k ≡ Some recipe → (own : Text) × IsModule w recipe.0 own × Reached w own

-- where a file that is reached says nothing, only rules on files are broken
abbrev pub UnsaidBreaksNone : Type 0
UnsaidBreaksNone = (w : World) (o : Overrides) (rule : Rule) (key : Text) → Reached w key → w.said key ≡ None → is_of_files rule ≡ false → Broken w o rule → ⊥

-- a variable has one override that counts at most
abbrev pub OverridesAreUnique : Type 0
OverridesAreUnique = (w : World) (o : Overrides) (path : List Text) (own name text other : Text) → IsOverriddenBy w o path own name text → IsOverriddenBy w o path own name other → text ≡ other

-- what an expression means before anything runs rests on the variables that it names alone
abbrev pub MeaningsRestOnNames : Type 0
MeaningsRestOnNames = (expansion : Expansion) (lists : Bool) (e : Shape) (f g : Text → Meaning Value) → ((x : Text) → Contains (occurrences e) (a_variable x) → f x ≡ g x)
    → meant expansion lists f (said_by expansion lists f e) ≡ meant expansion lists g (said_by expansion lists g e)

-- a variable means one thing at most
abbrev pub MeansAtMostOne : Type 0
MeansAtMostOne = (w : World) (o : Overrides) (path : List Text) (own name : Text) (m n : Meaning Value) → Means w o path own name m → Means w o path own name n → m ≡ n

-- names of submodules lead from the module at a path to the modules below that path
abbrev pub ModulesStandBelow : Type 0
ModulesStandBelow = (w : World) (path names : List Text) (own key : Text) → IsModule w path own → LeadsTo w own names key → IsModule w (path ++ names) key

-- what a recipe depends on stands in the module at the path that is told
abbrev pub DependenciesStandBelow : Type 0
DependenciesStandBelow = (w : World) (path path' : List Text) (name name' : Text) (d : DependsOn w path name path' name') → IsModule w path' d.leads.inner

-- each override has the name and the text that a word gave
abbrev pub OverridesAreAsGiven : Type 0
OverridesAreAsGiven = (given : Override) (words : List Override) → overrides_of (given ∷ words) ≡ (given.name, given.value) ∷ overrides_of words

-- where a file stands in its formatted text, that is the text of what its other text says
abbrev pub FormattedTextsAreWritten : Type 0
FormattedTextsAreWritten = (expansion : Expansion) (version : Version) (source other : Text → Option Text) (key : Text) → IsFormattedAt expansion version source other key
    → (items : List ItemShape) × (indentation : Text) × (other key ≡ Some (file_text indentation items))
