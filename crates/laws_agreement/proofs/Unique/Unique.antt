-- What is defined by name in a world is one.
use Rattle.std.proofs.Common.{◌≡◌, sym, ◌∙◌, ◌⊎◌, inl, inr, List, Option, Some}
use Rattle.std.specs.Prelude.{◌↔◌, Contains}
use Rattle.meaning_rules.specs.Worlds.Given.{Text, World, Overrides}
use Rattle.meaning_rules.specs.Worlds.Modules.{IsModule}
use Rattle.meaning_evaluation.specs.Named.{RecipeName, VariableName, FunctionRow, Definitions, paths_of}
use Rattle.just_meaning.specs.Defining.{AreDefined, AreNames, AreFunctions}
use Rattle.laws_agreement.specs.Unique.Unique.{DefinitionsAreOne}
use Rattle.laws_agreement.proofs.Unique.Lists.{is_among, same_options, same_rows, same_texts}
use Rattle.laws_agreement.proofs.Unique.Trees.{paths_lead, same_trees}

-- what one relation ties to two options is the same
tied : {X : Type 0} (R : X → Type 0) (o p : Option X) → ((x : X) → (o ≡ Some x) ↔ R x) → ((x : X) → (p ≡ Some x) ↔ R x) → o ≡ p
tied R o p one other = same_options o p (λ x e. (other x).1 ((one x).0 e)) (λ x e. (one x).1 ((other x).0 e))

-- the names of a module's variables are one list
same_names : (w : World) (o : Overrides) (own : Text) (xs ys : List Text) → AreNames w o own xs → AreNames w o own ys → xs ≡ ys
same_names w o own xs ys one other = same_texts xs ys one.sorted other.sorted (λ name c. (other.each name).1 ((one.each name).0 c)) (λ name c. (one.each name).1 ((other.each name).0 c))

-- and so are its functions
same_functions : (w : World) (o : Overrides) (own : Text) (xs ys : List FunctionRow) → AreFunctions w o own xs → AreFunctions w o own ys → xs ≡ ys
same_functions w o own xs ys one other = same_rows (λ row. row.name) xs ys one.sorted other.sorted (λ row c. (other.each row).1 ((one.each row).0 c)) (λ row c. (one.each row).1 ((other.each row).0 c))

module _ (w : World) (o : Overrides) (base working : Text) (defined other : Definitions) (one : AreDefined w o base working defined) (two : AreDefined w o base working other) where
  same_modules : defined.modules ≡ other.modules
  same_modules = same_trees defined.modules other.modules one.sorted two.sorted
      (paths_lead defined.modules other.modules (λ path c. (two.tree path).1 ((one.tree path).0 c)))
      (paths_lead other.modules defined.modules (λ path c. (one.tree path).1 ((two.tree path).0 c)))

  -- at a module both are its lists, elsewhere both are empty
  same_lists_at : (path : List Text) → (defined.names path ≡ other.names path) × (defined.functions path ≡ other.functions path)
  same_lists_at path = by_case (is_among (paths_of defined.modules) path)
    where
      by_case : Contains (paths_of defined.modules) path ⊎ (Contains (paths_of defined.modules) path → ⊥) → (defined.names path ≡ other.names path) × (defined.functions path ≡ other.functions path)
      by_case (inl c) =
          let m = (one.tree path).0 c in (
            same_names w o m.0 (defined.names path) (other.names path) (one.names path m.0 m.1) (two.names path m.0 m.1),
            same_functions w o m.0 (defined.functions path) (other.functions path) (one.functions path m.0 m.1) (two.functions path m.0 m.1),
          )
      by_case (inr out) =
          let none : (own : Text) → IsModule w path own → ⊥ = λ own is. out ((one.tree path).1 (own, is)) in
          let first = one.nowhere path none in
          let second = two.nowhere path none in
          (first.0 ∙ sym second.0, first.1 ∙ sym second.1)

  same_recipe : (r : RecipeName) → defined.recipe r ≡ other.recipe r
  same_recipe r = tied _ (defined.recipe r) (other.recipe r) (one.recipes r) (two.recipes r)

  same_alias : (r : RecipeName) → defined.alias r ≡ other.alias r
  same_alias r = tied _ (defined.alias r) (other.alias r) (one.aliases r) (two.aliases r)

  same_default : (path : List Text) → defined.default path ≡ other.default path
  same_default path = tied _ (defined.default path) (other.default path) (one.defaults path) (two.defaults path)

  same_variable : (x : VariableName) → defined.variable x ≡ other.variable x
  same_variable x = tied _ (defined.variable x) (other.variable x) (one.variables x) (two.variables x)

  same_override : (x : VariableName) → defined.override x ≡ other.override x
  same_override x = tied _ (defined.override x) (other.override x) (one.overrides x) (two.overrides x)

  same_inside : (path : List Text) → defined.inside path ≡ other.inside path
  same_inside path = tied _ (defined.inside path) (other.inside path) (one.modules path) (two.modules path)

  all_same : defined ≡ other
  all_same = λ i. record {
    modules = same_modules i;
    recipe = λ r. same_recipe r i;
    alias = λ r. same_alias r i;
    default = λ path. same_default path i;
    names = λ path. (same_lists_at path).0 i;
    variable = λ x. same_variable x i;
    override = λ x. same_override x i;
    functions = λ path. (same_lists_at path).1 i;
    inside = λ path. same_inside path i;
  }

pub definitions_are_one : DefinitionsAreOne
definitions_are_one w o base working defined other one two = all_same w o base working defined other one two
