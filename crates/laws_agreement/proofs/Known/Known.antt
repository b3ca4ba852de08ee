-- What is reached and what opens has names that are known.
use Rattle.std.proofs.Common.{◌≡◌, inl, inr, refl, sym, ◌∙◌, ap, subst, Bool, List, [], ◌∷◌, ◌++◌, map, Some, None}
use Rattle.std.specs.Prelude.{Contains}
use Rattle.std.proofs.lemmas.List.Elements.{Contains-append_cases, Contains-append_left, Contains-append_right}
use Rattle.tree_items.specs.Files.{assignment_item, recipe_item}
use Rattle.tree_items.specs.Recipes.{DependencyShape}
use Rattle.meaning_rules.specs.Worlds.Given.{Text, World, Overrides}
use Rattle.meaning_rules.specs.Worlds.Keeping.{a_recipe, KeepsAt}
use Rattle.meaning_rules.proofs.Worlds.Places.{contains_first}
use Rattle.meaning_rules.specs.Naming.{part}
use Rattle.meaning_rules.specs.Depending.{IsModulePath}
use Rattle.meaning_rules.specs.Rules.{HasPart, looked, HasDependency, IsKeptRecipe, of_kept, unknown_dependency, module_as_recipe}
use Rattle.meaning_rules.specs.Rules as rules
use Rattle.meaning_evaluation.specs.Named.{RecipeName, VariableName, DependencyRow, RecipeRow, VariableRow, ModuleRow, Definitions, paths_of}
use Rattle.just_meaning.specs.Opening.{IsReached, by_words, by_recipe, IsOpened}
use Rattle.just_meaning.specs.Actions.{IsKept}
use Rattle.just_meaning.specs.Defining.{named_from, AreDefined, IsVariableRow}
use Rattle.laws_agreement.specs.Agreement.Opened.{AreListed}
use Rattle.laws_agreement.specs.Certain.Certain.{AreCertain, AreCertainVariables}
use Rattle.laws_agreement.specs.Known.Known.{HasRecipe, DefinedAreKnown, KeptAreKnown}
use Rattle.just_meaning.specs.Known.{BreaksNoRule, IsRead, AreInOrder, HaveRows}
use Rattle.laws_agreement.proofs.Known.Lists.{contains_mapped, is_there}
use Rattle.laws_agreement.proofs.Known.Kept.{recipe_named}
use Rattle.laws_agreement.proofs.Known.Rows.{none_breaks, no_path}
use Rattle.laws_agreement.proofs.Known.Reached.{call_builtin, call_fits, read_stands, recipe_part}

-- what a row depends on
abbrev pub dependency_row : (DependencyShape → RecipeName) → DependencyShape → DependencyRow
dependency_row named' d = record { on = named' d; arguments = d.arguments }

-- what is depended on is what a dependency names
dependency_of : (named' : DependencyShape → RecipeName) (priors subsequents : List DependencyShape) (r : RecipeName)
    → Contains (map (λ (d : DependencyRow). d.on) (map (dependency_row named') priors ++ map (dependency_row named') subsequents)) r → (d : DependencyShape) × Contains (priors ++ subsequents) d × (named' d ≡ r)
dependency_of named' priors subsequents r c =
    let m = contains_mapped (λ (d : DependencyRow). d.on) (map (dependency_row named') priors ++ map (dependency_row named') subsequents) r c in
    elim (Contains-append_cases (map (dependency_row named') priors) (map (dependency_row named') subsequents) m.0 m.1) [
      | inl p ↦ let d = contains_mapped (dependency_row named') priors m.0 p in (d.0, Contains-append_left priors subsequents d.0 d.1, ap (λ (x : DependencyRow). x.on) d.2 ∙ m.2)
      | inr s ↦ let d = contains_mapped (dependency_row named') subsequents m.0 s in (d.0, Contains-append_right priors subsequents d.0 d.1, ap (λ (x : DependencyRow). x.on) d.2 ∙ m.2)
    ]

module _ (w : World) (o : Overrides) (unbroken : BreaksNoRule w o) (read : IsRead w) (base working : Text) (defined : Definitions) (are : AreDefined w o base working defined) where
  -- ---- variables

  -- the right side of a variable is a part
  variable_part : (x : VariableName) (row : VariableRow) (h : IsVariableRow w o x row) → HasPart w h.own (part [] row.value)
  variable_part x row h = (
    assignment_item h.attributes h.shape,
    looked h.is (record { key = h.key; place = h.place; kept = h.kept }),
    subst (λ (v : VariableRow). Contains (part [] h.shape.value ∷ []) (part [] v.value)) (sym h.says) (contains_first (part [] h.shape.value) []),
  )

  -- variables of any kind have names that are known
  variables : (Open : VariableName → Type 0) → AreCertainVariables defined Open
  variables Open = record {
    names = λ x name opens over reads.
        let h = (are.variables x reads.row).0 reads.there in
        read_stands w o unbroken read base working defined are x.path h.own h.is reads.row.value [] (variable_part x reads.row h) name reads.reads;
    fits = λ x row inner others name count f opens over is goes occurs found.
        let h = (are.variables x row).0 is in
        call_fits w o unbroken read base working defined are x.path h.own h.is row.value [] (variable_part x row h) inner others name count goes occurs f found;
    builtin = λ x row inner others name count opens over is goes occurs absent.
        let h = (are.variables x row).0 is in
        call_builtin w o unbroken read base working defined are x.path h.own h.is row.value [] (variable_part x row h) inner others name count goes occurs absent;
  }

  -- a module with a row is in the tree
  in_tree : (path : List Text) (row : ModuleRow) → defined.inside path ≡ Some row → Contains (paths_of defined.modules) path
  in_tree path row e = let h = (are.modules path row).0 e in (are.tree path).1 (h.own, h.is)

  -- the names of variables are listed
  listed : AreListed defined
  listed = record {
    lists = λ x row e.
        let h = (are.variables x row).0 e in
        ((are.names x.path h.own h.is).each x.name).1 (record { key = h.key; place = h.place; item = assignment_item h.attributes h.shape; defines = h.kept.defines });
  }

  -- ---- recipes

  module _ (ordered : AreInOrder w) (rows : HaveRows defined) (leaves_out : Bool) (invoked : List RecipeName) (there : (r : RecipeName) → Contains invoked r → HasRecipe defined r) where
    -- a recipe on which one depends is there
    dependency_there : (r : RecipeName) (row : RecipeRow) → defined.recipe r ≡ Some row → (on : RecipeName) → Contains (map (λ (d : DependencyRow). d.on) (row.priors ++ row.subsequents)) on → HasRecipe defined on
    dependency_there r row e on c = is_there (defined.recipe on) (λ absent.
        let h = (are.recipes r row).0 e in
        let own = h.own in
        let name = h.shape.name in
        let d = dependency_of (λ dependency. named_from r.path dependency.path) h.shape.priors h.shape.subsequents on
        (subst (λ (x : RecipeRow). Contains (map (λ (d : DependencyRow). d.on) (x.priors ++ x.subsequents)) on) h.says c) in
        let named : h.shape.name ≡ r.recipe = recipe_named w.os h.attributes h.shape r.recipe h.kept.defines.is in
        let kept : KeepsAt w own a_recipe name h.key h.place (recipe_item h.attributes h.shape) = subst (λ n. KeepsAt w own a_recipe n h.key h.place (recipe_item h.attributes h.shape)) (sym named) h.kept in
        let has : HasDependency w (IsKeptRecipe w) own name d.0 = record {
          path = r.path;
          is = h.is;
          attributes = h.attributes;
          recipe = h.shape;
          there = record { key = h.key; place = h.place; kept = kept };
          is_named = refl;
          listed = d.1;
        } in
        let none : defined.recipe (named_from r.path d.0.path) ≡ None = ap defined.recipe d.2 ∙ absent in
        let no_module : IsModulePath w own d.0.path → ⊥ = λ m. none_breaks w o unbroken read base working defined are (module_as_recipe d.0.path) (inl (of_kept has (rules.a_module m))) in
        none_breaks w o unbroken read base working defined are (unknown_dependency name d.0.path)
        (of_kept has (rules.unknown (no_path w o unbroken read base working defined are r.path own h.is d.0.path none) no_module)))

    -- each recipe that is reached is there
    reached_there : (r : RecipeName) → IsReached defined leaves_out invoked r → HasRecipe defined r
    reached_there r (by_words c) = there r c
    reached_there r (by_recipe {r = from} {row = row} no' reached is c) = dependency_there from row is r c

    -- what is reached has names that are known
    certain : AreCertain defined (IsReached defined leaves_out invoked)
    certain = record {
      resolved = record {
        modules = λ r reached. let row = reached_there r reached in let h = (are.recipes r row.0).0 row.1 in rows r.path ((are.tree r.path).1 (h.own, h.is));
        names = λ r name reached reads.
            let h = (are.recipes r reads.row).0 reads.there in
            read_stands w o unbroken read base working defined are r.path h.own h.is reads.e reads.hidden (recipe_part w o ordered r reads.row h reads.e reads.hidden reads.stands) name reads.reads;
        fits = λ r row e hidden inner others name count f reached is stands goes occurs found.
            let h = (are.recipes r row).0 is in
            call_fits w o unbroken read base working defined are r.path h.own h.is e hidden (recipe_part w o ordered r row h e hidden stands) inner others name count goes occurs f found;
      };
      rows = reached_there;
      builtin = λ r row e hidden inner others name count reached is stands goes occurs absent.
          let h = (are.recipes r row).0 is in
          call_builtin w o unbroken read base working defined are r.path h.own h.is e hidden (recipe_part w o ordered r row h e hidden stands) inner others name count goes occurs absent;
    }

pub defined_are_known : DefinedAreKnown
defined_are_known w o unbroken read ordered base working defined are rows leaves_out invoked there = (
  certain w o unbroken read base working defined are ordered rows leaves_out invoked there,
  variables w o unbroken read base working defined are (IsOpened defined leaves_out invoked),
  in_tree w o unbroken read base working defined are,
  listed w o unbroken read base working defined are,
)

pub kept_are_known : KeptAreKnown
kept_are_known w o unbroken read base working defined are = (variables w o unbroken read base working defined are (IsKept defined), listed w o unbroken read base working defined are)
