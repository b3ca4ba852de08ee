-- What a world that breaks no rule says of what is defined by name: each name that is read or called is known, and words invoke recipes that are there.
use Rattle.std.specs.Prelude.{◌≡◌, Bool, List, Some, length, Contains}
use Rattle.std.specs.List.{AllByRecursion}
use Rattle.meaning_rules.specs.Worlds.Given.{Given, Text, World, Overrides}
use Rattle.meaning_rules.specs.Worlds.Standing.{StandsFor}
use Rattle.meaning_runs.specs.Invokes.{Invoke}
use Rattle.meaning_evaluation.specs.Named.{RecipeName, RecipeRow, ModuleRow, Definitions, paths_of}
use Rattle.meaning_evaluation.specs.Groups.{parameters_of}
use Rattle.just_meaning.specs.Actions.{IsKept}
use Rattle.just_meaning.specs.Defining.{AreDefined}
use Rattle.just_meaning.specs.Menus.{menu_of}
use Rattle.just_meaning.specs.Opening.{IsReached, IsOpened}
use Rattle.laws_agreement.specs.Agreement.Opened.{AreListed}
use Rattle.laws_agreement.specs.Certain.Certain.{AreCertain, AreCertainVariables}
use Rattle.just_meaning.specs.Known.{IsRead, HaveRows, BreaksNoRule, AreInOrder}

-- a recipe of the name is there
abbrev pub HasRecipe : Definitions → RecipeName → Type 0
HasRecipe defined r = (row : RecipeRow) × (defined.recipe r ≡ Some row)

-- What invoked recipes that are there reach, and what opens for them, has names that are known, where no rule is broken; modules with a row are in the tree, and the names of variables are listed.
abbrev pub DefinedAreKnown : Type 0
DefinedAreKnown = (w : World) (o : Overrides) → BreaksNoRule w o → IsRead w → AreInOrder w → (base working : Text) (defined : Definitions) → AreDefined w o base working defined → HaveRows defined
    → (leaves_out : Bool) (invoked : List RecipeName) → ((r : RecipeName) → Contains invoked r → HasRecipe defined r)
    → AreCertain defined (IsReached defined leaves_out invoked) × AreCertainVariables defined (IsOpened defined leaves_out invoked)
    × ((path : List Text) (row : ModuleRow) → defined.inside path ≡ Some row → Contains (paths_of defined.modules) path) × AreListed defined

-- All variables have names that are known, where no rule is broken, and their names are listed.
abbrev pub KeptAreKnown : Type 0
KeptAreKnown = (w : World) (o : Overrides) → BreaksNoRule w o → IsRead w → (base working : Text) (defined : Definitions) → AreDefined w o base working defined → AreCertainVariables defined (IsKept defined) × AreListed defined

-- Words invoke recipes that are there, with a group for each parameter, where no rule is broken.
abbrev pub InvokedAreKnown : Type 0
InvokedAreKnown = (w : World) (o : Overrides) → BreaksNoRule w o → IsRead w → (base working : Text) (defined : Definitions) → AreDefined w o base working defined
    → (words : List Text) (invocations : List (RecipeName × List (List Text))) → Invoke (menu_of defined) words invocations
    → AllByRecursion (λ i. HasRecipe defined i.0 × (length i.1 ≡ length (parameters_of (defined.recipe i.0)))) invocations

-- The attributes of each recipe stand in their order where files say what texts say.
abbrev pub WorldsAreInOrder : Type 0
WorldsAreInOrder = (given : Given) (w : World) → StandsFor given w → AreInOrder w
