-- The features of lists of an item are those that its shape uses.
use Rattle.std.proofs.Common.{◌≡◌, ◌⊎◌, inl, inr, sym, ◌∙◌, ap, subst, Bool, true, false, ◌++◌, ◌∷◌, [], List, refl, map}
use Rattle.std.specs.Prelude.{Contains}
use Rattle.std.specs.List.{flat_map}
use Rattle.std.proofs.lemmas.List.Elements.{Contains-append_cases, Contains-append_left, Contains-append_right}
use Rattle.just_text.specs.Tokens.{lexeme}
use Rattle.tree_attributes.specs.Attributes.{AttributeShape, with_options}
use Rattle.tree_attributes.specs.Settings.{value_shape}
use Rattle.tree_attributes.specs.declared.attribute_set.AttributeSet.{AttributeSet}
use Rattle.tree_attributes.specs.Sets.Order.{in_order, item_shape as attribute_item_shape}
use Rattle.tree_attributes.specs.Sets.Sets.{items_of, shapes_in}
use Rattle.tree_items.specs.declared.ast.Item.{Item}
use Rattle.tree_items.specs.declared.ast.Item.TheVariants.{Alias, Assignment, Comment, Function, Import, Module, Newline, Recipe as RecipeItem, Set, Unexport}
use Rattle.tree_items.specs.declared.ast.ListFeature.{ListFeature}
use Rattle.tree_items.specs.declared.ast.ListFeature.TheVariants.{StarredArgument}
use Rattle.tree_items.specs.declared.line.Fragment.{Fragment}
use Rattle.tree_items.specs.declared.line.Fragment.TheVariants.{Interpolation, Text as TextFragment}
use Rattle.tree_items.specs.declared.line.Line.{Line}
use Rattle.tree_items.specs.declared.recipe.Parameter.{Parameter}
use Rattle.tree_items.specs.declared.recipe.Recipe.{Recipe}
use Rattle.tree_items.specs.declared.recipe.UnresolvedDependency.{UnresolvedDependency}
use Rattle.tree_items.specs.Files.{ItemShape, item_shape, recipe_item}
use Rattle.tree_items.specs.Lines.{piece_of, pieces_of}
use Rattle.tree_items.specs.Recipes.{ParameterShape, RecipeShape, argument_shape, dependency_shape, parameter_shape, recipe_shape}
use Rattle.tree_expressions.specs.declared.expression.Expression.{Expression}
use Rattle.tree_expressions.specs.Shape.{shape_of}
use Rattle.parse_attributed_items.specs.Held.{HasOptions, IsOwnItem}
use Rattle.meaning_rules.specs.Worlds.Given.{Text, World}
use Rattle.meaning_rules.proofs.Worlds.Places.{contains_none}
use Rattle.meaning_rules.specs.Fixed.{value_of}
use Rattle.meaning_rules.specs.Naming.{Part, part, parts_of, parts_of_attribute, parts_of_body, parts_of_dependencies, parts_of_parameters}
use Rattle.meaning_rules.specs.Rules.{UsesList, by_star, has_star, in_part}
use Rattle.just_modules.specs.Lists.{in_argument, in_attribute_item, in_attributes, in_dependency, in_fragment, in_line, in_option, in_parameter, in_recipe, in_starred, lists_of}
use Rattle.just_modules.specs.Fitting.{FitsAsWritten}
use Rattle.just_modules.proofs.Arguments.{value_given, value_held}
use Rattle.just_modules.proofs.Contained.{any_at, any_of, gathered, gathered_from, mapped, mapped_from}
use Rattle.just_modules.proofs.PartLists.{InOptions, IsStar, UsesPart, attribute_same, attribute_uses, body_uses, dependencies_use, of_argument, of_attribute, of_dependency, of_line, of_option, of_piece, of_starred, only_uses, option_same, parameters_use, setting_same, star_there, uses_attribute, uses_body, uses_cases, uses_dependencies, uses_first, uses_gathered, uses_left, uses_none, uses_parameters, uses_right, uses_value, value_uses, gathered_uses, has_starred}

-- ---- rows of a tree, as rows of what is seen of it

gathered_same : {X Y Z : Type 0} (f : X → List Z) (g : Y → List Z) (h : X → Y) → ((x : X) → f x ≡ g (h x)) → (xs : List X) → flat_map f xs ≡ flat_map g (map h xs)
gathered_same f g h same [] = refl
gathered_same f g h same (x ∷ xs) = ap (λ ys. ys ++ flat_map f xs) (same x) ∙ ap (λ ys. g (h x) ++ ys) (gathered_same f g h same xs)

attributes_same : (set : AttributeSet) → in_attributes set ≡ flat_map of_attribute (shapes_in set)
attributes_same set = gathered_same in_attribute_item of_attribute attribute_item_shape (λ item. attribute_same item.attribute) (items_of set)

starred_same : (b : Bool) (e : Expression) → in_starred b e ≡ of_starred b (shape_of e)
starred_same true e = refl
starred_same false e = refl

dependencies_same : (ds : List UnresolvedDependency) → flat_map in_dependency ds ≡ flat_map of_dependency (map dependency_shape ds)
dependencies_same ds = gathered_same in_dependency of_dependency dependency_shape (λ d. gathered_same in_argument of_argument argument_shape (λ a. starred_same a.starred a.expression) d.arguments.items) ds

fragment_same : (f : Fragment) → in_fragment f ≡ of_piece (piece_of f)
fragment_same (Interpolation e) = refl
fragment_same (TextFragment token) = refl

body_same : (body : List Line) → flat_map in_line body ≡ flat_map of_line (map pieces_of body)
body_same body = gathered_same in_line of_line pieces_of (λ line. gathered_same in_fragment of_piece piece_of fragment_same line.fragments.items) body

-- ---- what the parts of a recipe use

-- one of five rows has an element
data InFive {X : Type 0} (a b c d e : List X) (x : X) : Type 0 where
  in_first : Contains a x → InFive a b c d e x
  in_second : Contains b x → InFive a b c d e x
  in_third : Contains c x → InFive a b c d e x
  in_fourth : Contains d x → InFive a b c d e x
  in_fifth : Contains e x → InFive a b c d e x

five_cases : {X : Type 0} (a b c d e : List X) (x : X) → Contains ((a ++ b) ++ ((c ++ d) ++ e)) x → InFive a b c d e x
five_cases a b c d e x h = elim (Contains-append_cases (a ++ b) ((c ++ d) ++ e) x h) [
  | inl p ↦ elim (Contains-append_cases a b x p) [
    | inl q ↦ in_first q
    | inr q ↦ in_second q
  ]
  | inr p ↦ elim (Contains-append_cases (c ++ d) e x p) [
    | inl q ↦ elim (Contains-append_cases c d x q) [
      | inl r ↦ in_third r
      | inr r ↦ in_fourth r
    ]
    | inr q ↦ in_fifth q
  ]
]

five_has : {X : Type 0} (a b c d e : List X) (x : X) → InFive a b c d e x → Contains ((a ++ b) ++ ((c ++ d) ++ e)) x
five_has a b c d e x (in_first p) = Contains-append_left (a ++ b) ((c ++ d) ++ e) x (Contains-append_left a b x p)
five_has a b c d e x (in_second p) = Contains-append_left (a ++ b) ((c ++ d) ++ e) x (Contains-append_right a b x p)
five_has a b c d e x (in_third p) = Contains-append_right (a ++ b) ((c ++ d) ++ e) x (Contains-append_left (c ++ d) e x (Contains-append_left c d x p))
five_has a b c d e x (in_fourth p) = Contains-append_right (a ++ b) ((c ++ d) ++ e) x (Contains-append_left (c ++ d) e x (Contains-append_right c d x p))
five_has a b c d e x (in_fifth p) = Contains-append_right (a ++ b) ((c ++ d) ++ e) x (Contains-append_right (c ++ d) e x p)

module _ (w : World) (r : Recipe UnresolvedDependency) (feature : ListFeature) where
  abbrev given : List AttributeShape
  given = shapes_in r.attributes

  abbrev shape : RecipeShape
  shape = recipe_shape r

  abbrev all_names : List Text
  all_names = map (λ (p : ParameterShape). p.name) shape.parameters

  -- the features of a tree's attributes, parameters, dependencies and lines
  abbrev a_row : List ListFeature
  a_row = in_attributes r.attributes

  abbrev p_row : List ListFeature
  p_row = flat_map in_parameter r.parameters.items

  abbrev prior_row : List ListFeature
  prior_row = flat_map in_dependency r.priors.items

  abbrev later_row : List ListFeature
  later_row = flat_map in_dependency r.subsequents.items

  abbrev body_row : List ListFeature
  body_row = flat_map in_line r.body.items

  -- the parts of its shape
  abbrev a_parts : List Part
  a_parts = flat_map (parts_of_attribute all_names) given

  abbrev p_parts : List Part
  p_parts = parts_of_parameters (value_of w.expansion) given [] shape.parameters

  abbrev prior_parts : List Part
  prior_parts = parts_of_dependencies all_names shape.priors

  abbrev later_parts : List Part
  later_parts = parts_of_dependencies all_names shape.subsequents

  abbrev body_parts : List Part
  body_parts = parts_of_body all_names shape.body

  abbrev Uses : Type 0
  Uses = UsesList w (recipe_item given shape) feature

  by_part : UsesPart (a_parts ++ p_parts ++ prior_parts ++ later_parts ++ body_parts) feature → Uses
  by_part (p, c, d) = in_part c d

  by_front : UsesPart (a_parts ++ p_parts ++ prior_parts ++ later_parts) feature → Uses
  by_front u = by_part (uses_left feature (a_parts ++ p_parts ++ prior_parts ++ later_parts) body_parts u)

  by_attributes : UsesPart a_parts feature → Uses
  by_attributes u = by_front (uses_left feature (a_parts ++ p_parts ++ prior_parts) later_parts (uses_left feature (a_parts ++ p_parts) prior_parts (uses_left feature a_parts p_parts u)))

  by_parameters : UsesPart p_parts feature → Uses
  by_parameters u = by_front (uses_left feature (a_parts ++ p_parts ++ prior_parts) later_parts (uses_left feature (a_parts ++ p_parts) prior_parts (uses_right feature a_parts p_parts u)))

  by_priors : UsesPart prior_parts feature → Uses
  by_priors u = by_front (uses_left feature (a_parts ++ p_parts ++ prior_parts) later_parts (uses_right feature (a_parts ++ p_parts) prior_parts u))

  by_subsequents : UsesPart later_parts feature → Uses
  by_subsequents u = by_front (uses_right feature (a_parts ++ p_parts ++ prior_parts) later_parts u)

  by_body : UsesPart body_parts feature → Uses
  by_body u = by_part (uses_right feature (a_parts ++ p_parts ++ prior_parts ++ later_parts) body_parts u)

  by_value : FitsAsWritten w.expansion (recipe_item given shape) → (a : AttributeShape) → Contains given a → InOptions feature a → Uses
  by_value fits a c o =
      let there : Contains (in_order fits.0) (with_options o.options) = subst (λ xs. Contains xs (with_options o.options)) fits.1 (subst (Contains given) o.is c) in
      let p = value_given w.expansion fits.0 shape fits.2 o.options there in
      let value : value_of w.expansion given p.0.name ≡ o.options.value = ap (λ xs. value_of w.expansion xs p.0.name) fits.1 ∙ p.2 in
      by_parameters (uses_parameters feature (value_of w.expansion) given [] shape.parameters p.0 p.1 (inr (subst (λ v. Contains (of_option v) feature) (sym value) o.there)))

  starred : IsStar feature (shape.priors ++ shape.subsequents) → Uses
  starred s = subst (UsesList w (recipe_item given shape)) (sym s.0) (by_star s.1)

  star_left : IsStar feature shape.priors → IsStar feature (shape.priors ++ shape.subsequents)
  star_left s =
      let d = any_of has_starred shape.priors s.1 in
      (s.0, any_at has_starred (shape.priors ++ shape.subsequents) d.0 (Contains-append_left shape.priors shape.subsequents d.0 d.1) d.2)

  star_right : IsStar feature shape.subsequents → IsStar feature (shape.priors ++ shape.subsequents)
  star_right s =
      let d = any_of has_starred shape.subsequents s.1 in
      (s.0, any_at has_starred (shape.priors ++ shape.subsequents) d.0 (Contains-append_right shape.priors shape.subsequents d.0 d.1) d.2)

  by_row : HasOptions w.expansion r → FitsAsWritten w.expansion (recipe_item given shape)
      → InFive a_row p_row prior_row later_row body_row feature → Uses
  by_row own fits (in_first h) =
      let a = gathered_from of_attribute given feature (subst (λ xs. Contains xs feature) (attributes_same r.attributes) h) in
      elim (uses_attribute feature all_names a.0 a.2) [
        | inl u ↦ by_attributes (uses_gathered feature (parts_of_attribute all_names) given a.0 a.1 u)
        | inr o ↦ by_value fits a.0 a.1 o
      ]
  by_row own fits (in_second h) =
      let p = gathered_from in_parameter r.parameters.items feature h in
      let there = mapped parameter_shape r.parameters.items p.0 p.1 in
      elim (Contains-append_cases (in_option p.0.default) (in_option p.0.value) feature p.2) [
        | inl d ↦ by_parameters (uses_parameters feature (value_of w.expansion) given [] shape.parameters (parameter_shape p.0) there (inl (subst (λ xs. Contains xs feature) (option_same p.0.default) d)))
        | inr d ↦
            let value = value_held w.expansion given r.parameters.items own p.0 p.1 in
            let same : in_option p.0.value ≡ of_option (value_of w.expansion given (lexeme p.0.name.token)) = option_same p.0.value ∙ ap of_option (sym value) in
            by_parameters (uses_parameters feature (value_of w.expansion) given [] shape.parameters (parameter_shape p.0) there (inr (subst (λ xs. Contains xs feature) same d)))
      ]
  by_row own fits (in_third h) = elim (uses_dependencies feature all_names shape.priors (subst (λ xs. Contains xs feature) (dependencies_same r.priors.items) h)) [
    | inl u ↦ by_priors u
    | inr s ↦ starred (star_left s)
  ]
  by_row own fits (in_fourth h) = elim (uses_dependencies feature all_names shape.subsequents (subst (λ xs. Contains xs feature) (dependencies_same r.subsequents.items) h)) [
    | inl u ↦ by_subsequents u
    | inr s ↦ starred (star_right s)
  ]
  by_row own fits (in_fifth h) = by_body (uses_body feature all_names shape.body (subst (λ xs. Contains xs feature) (body_same r.body.items) h))

  recipe_uses : HasOptions w.expansion r → FitsAsWritten w.expansion (recipe_item given shape) → Contains (in_recipe r) feature → Uses
  recipe_uses own fits c = by_row own fits (five_cases a_row p_row prior_row later_row body_row feature c)

  -- ---- and back

  abbrev Five : Type 0
  Five = InFive a_row p_row prior_row later_row body_row feature

  of_priors : Contains (flat_map of_dependency shape.priors) feature → Five
  of_priors c = in_third (subst (λ xs. Contains xs feature) (sym (dependencies_same r.priors.items)) c)

  of_subsequents : Contains (flat_map of_dependency shape.subsequents) feature → Five
  of_subsequents c = in_fourth (subst (λ xs. Contains xs feature) (sym (dependencies_same r.subsequents.items)) c)

  of_parameters : HasOptions w.expansion r → UsesPart p_parts feature → Five
  of_parameters own u =
      let p = parameters_use feature (value_of w.expansion) given [] shape.parameters u in
      let t = mapped_from parameter_shape r.parameters.items p.0 p.1 in
      in_second (gathered in_parameter r.parameters.items t.0 feature t.1 (by_case t.0 t.1 p.0 t.2 p.2))
    where
      by_case : (t : Parameter) → Contains r.parameters.items t → (p : ParameterShape) → parameter_shape t ≡ p
          → Contains (of_option p.default) feature ⊎ Contains (of_option (value_of w.expansion given p.name)) feature → Contains (in_parameter t) feature
      by_case t c p is (inl d) =
          Contains-append_left (in_option t.default) (in_option t.value) feature (subst (λ xs. Contains xs feature) (ap (λ (q : ParameterShape). of_option q.default) (sym is) ∙ sym (option_same t.default)) d)
      by_case t c p is (inr d) =
          let value = value_held w.expansion given r.parameters.items own t c in
          let same : of_option (value_of w.expansion given p.name) ≡ in_option t.value = ap (λ (q : ParameterShape). of_option (value_of w.expansion given q.name)) (sym is) ∙ ap of_option value ∙ sym (option_same t.value) in
          Contains-append_right (in_option t.default) (in_option t.value) feature (subst (λ xs. Contains xs feature) same d)

  five_of : HasOptions w.expansion r → UsesPart (a_parts ++ p_parts ++ prior_parts ++ later_parts ++ body_parts) feature → Five
  five_of own u = elim (uses_cases feature (a_parts ++ p_parts ++ prior_parts ++ later_parts) body_parts u) [
    | inl front ↦ elim (uses_cases feature (a_parts ++ p_parts ++ prior_parts) later_parts front) [
      | inl b ↦ elim (uses_cases feature (a_parts ++ p_parts) prior_parts b) [
        | inl c ↦ elim (uses_cases feature a_parts p_parts c) [
          | inl a ↦
              let g = gathered_uses feature (parts_of_attribute all_names) given a in
              in_first (subst (λ xs. Contains xs feature) (sym (attributes_same r.attributes)) (gathered of_attribute given g.0 feature g.1 (attribute_uses feature all_names g.0 g.2)))
          | inr p ↦ of_parameters own p
        ]
        | inr d ↦ of_priors (dependencies_use feature all_names shape.priors d)
      ]
      | inr d ↦ of_subsequents (dependencies_use feature all_names shape.subsequents d)
    ]
    | inr e ↦ in_fifth (subst (λ xs. Contains xs feature) (sym (body_same r.body.items)) (body_uses feature all_names shape.body e))
  ]

  five_of_star : has_star shape ≡ true → feature ≡ StarredArgument → Five
  five_of_star e is =
      let d = any_of has_starred (shape.priors ++ shape.subsequents) e in
      elim (Contains-append_cases shape.priors shape.subsequents d.0 d.1) [
        | inl c ↦ of_priors (subst (Contains (flat_map of_dependency shape.priors)) (sym is) (star_there shape.priors (any_at has_starred shape.priors d.0 c d.2)))
        | inr c ↦ of_subsequents (subst (Contains (flat_map of_dependency shape.subsequents)) (sym is) (star_there shape.subsequents (any_at has_starred shape.subsequents d.0 c d.2)))
      ]

  uses_recipe : HasOptions w.expansion r → UsesPart (a_parts ++ p_parts ++ prior_parts ++ later_parts ++ body_parts) feature ⊎ ((has_star shape ≡ true) × (feature ≡ StarredArgument)) → Contains (in_recipe r) feature
  uses_recipe own (inl u) = five_has a_row p_row prior_row later_row body_row feature (five_of own u)
  uses_recipe own (inr s) = five_has a_row p_row prior_row later_row body_row feature (five_of_star s.0 s.1)

-- ---- items

by_parts : (w : World) (said : ItemShape) (feature : ListFeature) → UsesPart (parts_of (value_of w.expansion) said) feature → UsesList w said feature
by_parts w said feature (p, c, d) = in_part c d

none_there : {X : Type 0} (x : X) → Contains [] x → ⊥
none_there x c = contains_none [] x refl c

-- what an item's tree has its shape uses
pub lists_used : (w : World) (item : Item) (feature : ListFeature) → IsOwnItem w.expansion item → FitsAsWritten w.expansion (item_shape item) → Contains (lists_of item) feature → UsesList w (item_shape item) feature
lists_used w (Assignment a) feature own fits c = by_parts w (item_shape (Assignment a)) feature (uses_first feature (part [] (shape_of a.value)) [] c)
lists_used w (Function f) feature own fits c = by_parts w (item_shape (Function f)) feature (uses_first feature (part _ (shape_of f.body)) [] c)
lists_used w (RecipeItem r) feature own fits c = recipe_uses w r feature own.0 fits c
lists_used w (Set s) feature own fits c = by_parts w (item_shape (Set s)) feature (uses_value feature (value_of w.expansion) (value_shape s.value) (subst (λ xs. Contains xs feature) (setting_same s.value) c))
lists_used w (Alias a) feature own fits c = absurd (none_there feature c)
lists_used w (Comment t) feature own fits c = absurd (none_there feature c)
lists_used w (Import i) feature own fits c = absurd (none_there feature c)
lists_used w (Module m) feature own fits c = absurd (none_there feature c)
lists_used w Newline feature own fits c = absurd (none_there feature c)
lists_used w (Unexport u) feature own fits c = absurd (none_there feature c)

-- a part uses the feature, or the item is a recipe with a starred argument
abbrev IsUse : World → ItemShape → ListFeature → Type 0
IsUse w said feature = UsesPart (parts_of (value_of w.expansion) said) feature ⊎ ((attributes : List AttributeShape) × (r : RecipeShape) × (said ≡ recipe_item attributes r) × (has_star r ≡ true) × (feature ≡ StarredArgument))

use_cases : (w : World) (said : ItemShape) (feature : ListFeature) → UsesList w said feature → IsUse w said feature
use_cases w said feature (in_part {p = p} c d) = inl (p, c, d)
use_cases w said feature (by_star {attributes} {r} e) = inr (attributes, r, refl, e, refl)

same_recipe : (as' bs : List AttributeShape) (r s : RecipeShape) → recipe_item as' r ≡ recipe_item bs s → r ≡ s
same_recipe as' bs r s e = cc e

-- what an item's shape uses its tree has
pub used_lists : (w : World) (item : Item) (feature : ListFeature) → IsOwnItem w.expansion item → UsesList w (item_shape item) feature → Contains (lists_of item) feature
used_lists w item feature own u = by_item item own (use_cases w (item_shape item) feature u)
  where
    by_item : (i : Item) → IsOwnItem w.expansion i → IsUse w (item_shape i) feature → Contains (lists_of i) feature
    by_item (Assignment a) own (inl v) = only_uses feature (part [] (shape_of a.value)) v
    by_item (Function f) own (inl v) = only_uses feature (part _ (shape_of f.body)) v
    by_item (RecipeItem r) own (inl v) = uses_recipe w r feature own.0 (inl v)
    by_item (Set s) own (inl v) = subst (λ xs. Contains xs feature) (sym (setting_same s.value)) (value_uses feature (value_of w.expansion) (value_shape s.value) v)
    by_item (Alias a) own (inl v) = absurd (uses_none feature v)
    by_item (Comment t) own (inl v) = absurd (uses_none feature v)
    by_item (Import i) own (inl v) = absurd (uses_none feature v)
    by_item (Module m) own (inl v) = absurd (uses_none feature v)
    by_item Newline own (inl v) = absurd (uses_none feature v)
    by_item (Unexport u) own (inl v) = absurd (uses_none feature v)
    by_item (RecipeItem r) own (inr s) = uses_recipe w r feature own.0 (inr (ap has_star (same_recipe (shapes_in r.attributes) s.0 (recipe_shape r) s.1 s.2) ∙ s.3, s.4))
    by_item (Assignment a) own (inr s) = let no = s.2 in absurd (cc no)
    by_item (Function f) own (inr s) = let no = s.2 in absurd (cc no)
    by_item (Set t) own (inr s) = let no = s.2 in absurd (cc no)
    by_item (Alias a) own (inr s) = let no = s.2 in absurd (cc no)
    by_item (Comment t) own (inr s) = let no = s.2 in absurd (cc no)
    by_item (Import i) own (inr s) = let no = s.2 in absurd (cc no)
    by_item (Module m) own (inr s) = let no = s.2 in absurd (cc no)
    by_item Newline own (inr s) = let no = s.2 in absurd (cc no)
    by_item (Unexport u) own (inr s) = let no = s.2 in absurd (cc no)
