-- Words invoke recipes that are there, with a group for each parameter.
use Rattle.std.proofs.Common.{◌≡◌, inr, refl, sym, ◌∙◌, ap, subst, Bool, true, false, cond, List, [], ◌∷◌, ◌++◌, length, ℕ, suc, ◌+◌, Option, Some, None}
use Rattle.std.specs.List.{AllByRecursion, list_any}
use Rattle.std.proofs.lemmas.List.{length-map}
use Rattle.std.proofs.lemmas.Option.{none-some, same_Some}
use Rattle.modules_compilation.specs.Modulepaths.{pieces}
use Rattle.tree_attributes.specs.Attributes.{AttributeShape}
use Rattle.tree_items.specs.Files.{alias_item, recipe_item}
use Rattle.tree_items.specs.Recipes.{RecipeShape}
use Rattle.meaning_rules.specs.Worlds.Given.{Text, World, Overrides}
use Rattle.meaning_rules.specs.Worlds.Modules.{IsModule}
use Rattle.meaning_rules.specs.Worlds.Keeping.{a_recipe, an_alias, IsDefined, Keeps, KeepsAt}
use Rattle.meaning_rules.specs.Rules.{HasAlias, module_as_recipe, unknown_alias_target}
use Rattle.meaning_runs.specs.Words.{Slot, WordMeaning, recipe, submodule, Words, is_option}
use Rattle.meaning_runs.specs.Invokes.{default_needs_arguments, Followed, means, lost, follow, Found, found, refused, default_of, find, Taken, words_behind, groups_from, Invokes, Invoke, listed, last, more}
use Rattle.meaning_evaluation.specs.Named.{RecipeName, RecipeRow, ModuleRow, Definitions}
use Rattle.meaning_evaluation.specs.Groups.{parameters_of}
use Rattle.just_meaning.specs.Menus.{slot_of, slots_in, meant_by, meaning_in, menu_of}
use Rattle.just_meaning.specs.Defining.{named_from, IsDefault, by_attribute, by_place, AreDefined}
use Rattle.laws_agreement.specs.Known.Known.{HasRecipe, InvokedAreKnown}
use Rattle.just_meaning.specs.Known.{BreaksNoRule, IsRead}
use Rattle.laws_agreement.proofs.Known.Lists.{is_there}
use Rattle.laws_agreement.proofs.Known.Kept.{alias_named}
use Rattle.laws_agreement.proofs.Known.Rows.{none_breaks, no_path, recipe_at, recipe_there}

-- ---- groups

-- one of two lists of this length
one_length : {X : Type 0} (b : Bool) (n : ℕ) (xs ys : List X) → length xs ≡ n → length ys ≡ n → length (cond b xs ys) ≡ n
one_length true n xs ys h k = h
one_length false n xs ys h k = k

-- a group for each slot
groups_length : (taken : List Taken) (place : ℕ) (slots : List Slot) (words : List Text) → length (groups_from taken place slots words) ≡ length slots
groups_length taken place [] words = refl
groups_length taken place (slot ∷ slots) words =
    one_length (is_option slot) (suc (length slots)) _ _ (ap suc (groups_length taken (place + 1) slots words))
    (one_length slot.variadic (suc (length slots)) _ _ (ap suc (groups_length taken (place + 1) slots [])) (ap suc (groups_length taken (place + 1) slots (words_behind words))))

-- a slot for each parameter
slots_length : (row : Option RecipeRow) → length (slots_in row) ≡ length (parameters_of row)
slots_length None = refl
slots_length (Some row) = length-map row.parameters slot_of

-- ---- recipes

-- the recipe that a name stands for, or another one
abbrev recipe_or : RecipeName → WordMeaning (List Text) RecipeName → RecipeName
recipe_or other (recipe r) = r
recipe_or other (submodule inner) = other

module _ (w : World) (o : Overrides) (unbroken : BreaksNoRule w o) (read : IsRead w) (base working : Text) (defined : Definitions) (are : AreDefined w o base working defined) where
  -- what words mean
  abbrev Menu : Words (List Text) RecipeName
  Menu = menu_of defined

  -- an alias stands for a recipe that is there
  alias_there : (r target : RecipeName) → defined.alias r ≡ Some target → HasRecipe defined target
  alias_there r target e = is_there (defined.recipe target) (λ absent.
      let a = (are.aliases r target).0 e in
      let own = a.own in
      let named : a.shape.name ≡ r.recipe = alias_named w.os a.attributes a.shape r.recipe a.kept.kept.defines.is in
      let has : HasAlias w own a.shape = ((r.path, a.is), (a.attributes, subst (λ n. Keeps w own an_alias n (alias_item a.attributes a.shape)) (sym named) a.kept)) in
      let absent' : defined.recipe (named_from r.path a.shape.target) ≡ None = ap defined.recipe (sym a.says) ∙ absent in
      none_breaks w o unbroken read base working defined are (unknown_alias_target a.shape.name a.shape.target) (
        own,
        a.shape,
        has,
        refl,
        refl,
        no_path w o unbroken read base working defined are r.path own a.is a.shape.target absent',
        λ m. none_breaks w o unbroken read base working defined are (module_as_recipe a.shape.target) (inr (own, a.shape, has, refl, m)),
      ))

  -- a recipe that its module defines is there
  defined_there : (r : RecipeName) (own : Text) → IsModule w r.path own → IsDefined w own a_recipe r.recipe → HasRecipe defined r
  defined_there r own is d = is_there (defined.recipe r) (λ absent. recipe_there w o unbroken read base working defined are r.path own r.recipe is d absent)

  -- a recipe that is kept is defined
  kept_defined : (own name key : Text) (place : ℕ) (attributes : List AttributeShape) (shape : RecipeShape) → KeepsAt w own a_recipe name key place (recipe_item attributes shape) → IsDefined w own a_recipe name
  kept_defined own name key place attributes shape kept = record { key = key; place = place; item = recipe_item attributes shape; defines = kept.defines }

  -- a default is defined
  default_defined : (own name : Text) → IsDefault w o own name → IsDefined w own a_recipe name
  default_defined own name (by_attribute {place = place} m first) = kept_defined own name m.key place m.attributes m.shape m.kept
  default_defined own name (by_place {place = place} none m least) = kept_defined own name own place m.attributes m.shape m.kept

  -- so it is there
  default_there : (path : List Text) (r : RecipeName) → defined.default path ≡ Some r → HasRecipe defined r
  default_there path r e =
      let d = (are.defaults path r).0 e in
      defined_there r d.own (subst (λ p. IsModule w p d.own) (sym d.inside) d.is) (default_defined d.own r.recipe d.default)

  -- what a name means as a recipe is there
  meant_there : (path : List Text) (name : Text) (r : RecipeName) → meaning_in defined path name ≡ Some (recipe r) → HasRecipe defined r
  meant_there path name r e = by_parts (defined.recipe (recipe_at path name)) (defined.alias (recipe_at path name)) (defined.inside (path ++ name ∷ [])) refl refl e
    where
      by_parts : (row : Option RecipeRow) (alias : Option RecipeName) (inner : Option ModuleRow) → defined.recipe (recipe_at path name) ≡ row → defined.alias (recipe_at path name) ≡ alias
          → meant_by (recipe_at path name) row alias inner (path ++ name ∷ []) ≡ Some (recipe r) → HasRecipe defined r
      by_parts (Some row) alias inner there as' e = let same : recipe_at path name ≡ r = ap (recipe_or r) (same_Some (recipe (recipe_at path name)) (recipe r) e) in subst (HasRecipe defined) same (row, there)
      by_parts None (Some target) inner there as' e = let same : target ≡ r = ap (recipe_or r) (same_Some (recipe target) (recipe r) e) in subst (HasRecipe defined) same (alias_there (recipe_at path name) target as')
      by_parts None None (Some inner) there as' e = absurd (cc e)
      by_parts None None None there as' e = absurd (none-some (recipe r) e)

  -- so what a path means
  abbrev FollowedThere : Followed (List Text) RecipeName → Type 0
  FollowedThere (means (Some (recipe r))) = HasRecipe defined r
  FollowedThere (means (Some (submodule inner))) = Unit {0}
  FollowedThere (means None) = Unit {0}
  FollowedThere lost = Unit {0}

  -- each path means such
  followed_there : (here : List Text) (names : List Text) → FollowedThere (follow Menu here names)
  followed_there here [] = tt
  followed_there here (part ∷ []) = by_meaning (meaning_in defined here part) refl
    where
      by_meaning : (m : Option (WordMeaning (List Text) RecipeName)) → meaning_in defined here part ≡ m → FollowedThere (means m)
      by_meaning None e = tt
      by_meaning (Some (recipe r)) e = meant_there here part r e
      by_meaning (Some (submodule inner)) e = tt
  followed_there here (part ∷ other ∷ others) = by_meaning (meaning_in defined here part) refl (λ inner. followed_there inner (other ∷ others))
    where
      by_meaning : (m : Option (WordMeaning (List Text) RecipeName)) → meaning_in defined here part ≡ m → ((inner : List Text) → FollowedThere (follow Menu inner (other ∷ others)))
          → FollowedThere (follow Menu here (part ∷ other ∷ others))
      by_meaning None e later = rw e tt
      by_meaning (Some (recipe r)) e later = rw e tt
      by_meaning (Some (submodule inner)) e later = rw e (later inner)

  -- so what words find
  abbrev FoundThere : Found RecipeName → Type 0
  FoundThere (found r behind) = HasRecipe defined r
  FoundThere (refused rule) = Unit {0}

  -- of two either
  either_there : (b : Bool) (a c : Found RecipeName) → FoundThere a → FoundThere c → FoundThere (cond b a c)
  either_there true a c h k = h
  either_there false a c h k = k

  -- a default
  by_default : (path : List Text) (r : Option RecipeName) → defined.default path ≡ r → FoundThere (default_of Menu r)
  by_default path None e = tt
  by_default path (Some r) e = either_there (list_any (λ slot. slot.required) (Menu.slots r)) (refused (default_needs_arguments (Menu.name r))) (found r []) tt (default_there path r e)

  -- and what words find
  found_there : (here : List Text) (words : List Text) → FoundThere (find Menu here words)
  found_there here [] = by_default here (defined.default here) refl
  found_there here (text ∷ words) = cases (follow Menu here (pieces text)) refl (followed_there here (pieces text)) (λ inner. found_there inner words)
    where
      cases : (f : Followed (List Text) RecipeName) → follow Menu here (pieces text) ≡ f → FollowedThere (follow Menu here (pieces text)) → ((inner : List Text) → FoundThere (find Menu inner words))
          → FoundThere (find Menu here (text ∷ words))
      cases lost e h later = rw e tt
      cases (means None) e h later = rw e tt
      cases (means (Some (recipe r))) e h later = rw e (subst FollowedThere e h)
      cases (means (Some (submodule inner))) e h later = rw e (later inner)

  -- ---- invocations

  -- a recipe that is there, with a group for each parameter
  abbrev IsInvoked : RecipeName × List (List Text) → Type 0
  IsInvoked i = HasRecipe defined i.0 × (length i.1 ≡ length (parameters_of (defined.recipe i.0)))

  -- one invocation
  one_there : (words : List Text) (r : RecipeName) (groups : List (List Text)) (rest : List Text) → Invokes Menu words r groups rest → IsInvoked (r, groups)
  one_there words r groups rest i = (
    subst FoundThere i.named (found_there [] words),
    ap length i.grouped ∙ groups_length i.end.taken 0 (slots_in (defined.recipe r)) _ ∙ slots_length (defined.recipe r),
  )

  -- all of them
  all_there : (words : List Text) (invocations : List (RecipeName × List (List Text))) → Invoke Menu words invocations → AllByRecursion IsInvoked invocations
  all_there words invocations (listed e) = tt
  all_there words invocations (last {r = r} {groups = groups} asked i) = (one_there words r groups [] i, tt)
  all_there words invocations (more {rest = rest} {text = text} {r = r} {groups = groups} {others = others} asked i later) = (one_there words r groups (text ∷ rest) i, all_there (text ∷ rest) others later)

pub invoked_are_known : InvokedAreKnown
invoked_are_known w o unbroken read base working defined are words invocations h = all_there w o unbroken read base working defined are words invocations h
