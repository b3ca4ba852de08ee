-- What a recipe evaluates first, by its tree and by its row.
use Rattle.std.proofs.Common.{◌≡◌, inl, inr, refl, sym, ◌∙◌, ap, subst, true, false, Bool, cond, List, [], ◌∷◌, ◌++◌, map, Option, Some, None, ℕ, filter_map}
use Rattle.std.specs.Prelude.{Contains}
use Rattle.std.specs.List.{cons_option, flat_map}
use Rattle.std.specs.Option.{option_map}
use Rattle.std.proofs.lemmas.List.Elements.{All-contains, Contains-append_cases, Contains-append_left, Contains-append_right}
use Rattle.std.proofs.lemmas.Option.{none-some, same_Some}
use Rattle.tree_expressions.specs.Shape.{Shape, shape_of}
use Rattle.tree_expressions.specs.declared.expression.Expression.{Expression}
use Rattle.tree_attributes.specs.Attributes.{AttributeShape, attribute_shape, is_repeatable, plain, with_interpreter, with_options, with_pair, with_prompt, with_string, with_strings}
use Rattle.tree_attributes.specs.declared.attribute.Attribute.{Attribute}
use Rattle.tree_attributes.specs.declared.attribute.Attribute.TheVariants.{Android, Arg, Cache, Confirm, Default, Doc, Dragonfly, Env, ExitMessage, Extension, Freebsd, Group, Linux, Macos, Metadata, Netbsd, NoCd, NoExitMessage, NoQuiet, Openbsd, Parallel, PositionalArguments, Private, Script, Unix, Windows, WorkingDirectory}
use Rattle.tree_attributes.specs.Sets.Order.{in_order, item_shape}
use Rattle.tree_attributes.specs.Sets.Sets.{items_of, shapes_in}
use Rattle.tree_attributes.specs.declared.attribute_item.AttributeItem.{AttributeItem}
use Rattle.tree_items.specs.Recipes.{ArgumentShape, DependencyShape, ParameterShape, argument_shape, dependency_shape, dependency_shapes, parameter_shape, parameter_shapes, recipe_shape}
use Rattle.tree_items.specs.declared.recipe.Parameter.{Parameter}
use Rattle.tree_items.specs.declared.recipe.Recipe.{Recipe}
use Rattle.tree_items.specs.declared.recipe.UnresolvedDependency.{UnresolvedDependency}
use Rattle.parse_expressions.specs.Literals.{Expansion}
use Rattle.parse_attributes.specs.Seen.{options_in as options_seen}
use Rattle.parse_attributed_items.specs.Fitting.{options_among, repeated}
use Rattle.parse_attributed_items.specs.Held.{HasOptions as HasOwnOptions}
use Rattle.parse_attributed_items.specs.Options.{HasOptions, ParameterOptions, meant_for}
use Rattle.justfile_analyzer.specs.Steady.{argument_of, arguments_of, first_of_attribute, first_of_front, first_of_item, first_of_parameter, first_of_recipe, if_there, shared_arguments}
use Rattle.meaning_rules.specs.Fixed.{options_in}
use Rattle.meaning_rules.proofs.Worlds.Places.{contains_cases, contains_first, contains_later, contains_none}
use Rattle.laws_names.proofs.Reading.Lists.{contained_flat, contains_flat, contains_map, contains_mapped}
use Rattle.laws_names.proofs.Depending.Lists.{given_back, given_there}
use Rattle.meaning_evaluation.specs.Named.{DependencyRow, ModuleRow, ParameterRow, RecipeName, RecipeRow}
use Rattle.just_meaning.specs.Rows.{first, pair_in, parameter_row, prompt_in, recipe_row}
use Rattle.just_meaning.specs.Steady.{EvaluatesFirst, looked}
use Rattle.just_meaning.specs.Steady as named
use Rattle.laws_runs.proofs.Menus.Slots.{in_order_already}
use Rattle.laws_runs.proofs.Running.Opening.Expressions.{alone, first_skipped, plain_prompt, single_later}

-- the expression has the shape, and is one of these
abbrev pub IsOneOf : List Expression → Shape → Type 0
IsOneOf es e = (x : Expression) × Contains es x × (shape_of x ≡ e)

-- ---- options of parameters

options_alike : (a : AttributeShape) → options_in a ≡ options_seen (Some a)
options_alike (plain k) = refl
options_alike (with_options o) = refl
options_alike (with_prompt e) = refl
options_alike (with_pair k v) = refl
options_alike (with_string k t) = refl
options_alike (with_strings t ts) = refl
options_alike (with_interpreter i) = refl

same_options : (given : List AttributeShape) → filter_map options_in given ≡ options_among given
same_options [] = refl
same_options (a ∷ given) = ap (λ o. cons_option o (filter_map options_in given)) (options_alike a) ∙ ap (cons_option (options_seen (Some a))) (same_options given)

-- ---- attributes

module _ (expansion : Expansion) where
  -- an attribute that gives a prompt
  prompt_of : (a : Attribute) (e : Shape) → prompt_in expansion (attribute_shape a) ≡ Some (Some e) → IsOneOf (first_of_attribute a) e
  prompt_of (Confirm (Some p)) e is = (p, contains_first p [], same_Some (shape_of p) e (same_Some (Some (shape_of p)) (Some e) is))
  prompt_of (Confirm None) e is = absurd (none-some e (same_Some None (Some e) is))
  prompt_of Android e is = absurd (none-some (Some e) is)
  prompt_of (Arg o) e is = absurd (none-some (Some e) is)
  prompt_of Cache e is = absurd (none-some (Some e) is)
  prompt_of Default e is = absurd (none-some (Some e) is)
  prompt_of (Doc None) e is = absurd (none-some (Some e) is)
  prompt_of (Doc (Some t)) e is = absurd (none-some (Some e) is)
  prompt_of Dragonfly e is = absurd (none-some (Some e) is)
  prompt_of (Env k v) e is = absurd (none-some (Some e) is)
  prompt_of ExitMessage e is = absurd (none-some (Some e) is)
  prompt_of (Extension t) e is = absurd (none-some (Some e) is)
  prompt_of Freebsd e is = absurd (none-some (Some e) is)
  prompt_of (Group t) e is = absurd (none-some (Some e) is)
  prompt_of Linux e is = absurd (none-some (Some e) is)
  prompt_of Macos e is = absurd (none-some (Some e) is)
  prompt_of (Metadata t ts) e is = absurd (none-some (Some e) is)
  prompt_of Netbsd e is = absurd (none-some (Some e) is)
  prompt_of NoCd e is = absurd (none-some (Some e) is)
  prompt_of NoExitMessage e is = absurd (none-some (Some e) is)
  prompt_of NoQuiet e is = absurd (none-some (Some e) is)
  prompt_of Openbsd e is = absurd (none-some (Some e) is)
  prompt_of Parallel e is = absurd (none-some (Some e) is)
  prompt_of PositionalArguments e is = absurd (none-some (Some e) is)
  prompt_of Private e is = absurd (none-some (Some e) is)
  prompt_of (Script None) e is = absurd (none-some (Some e) is)
  prompt_of (Script (Some i)) e is = absurd (none-some (Some e) is)
  prompt_of Unix e is = absurd (none-some (Some e) is)
  prompt_of Windows e is = absurd (none-some (Some e) is)
  prompt_of (WorkingDirectory t) e is = absurd (none-some (Some e) is)

  -- an attribute that gives a key and a value
  abbrev IsPairOf : Attribute → Shape → Shape → Type 0
  IsPairOf a k v = IsOneOf (first_of_attribute a) k × IsOneOf (first_of_attribute a) v

  pair_of : (a : Attribute) (k v : Shape) → pair_in expansion (attribute_shape a) ≡ Some (k, v) → IsPairOf a k v
  pair_of (Env key value) k v is =
      let same = same_Some (shape_of key, shape_of value.value) (k, v) is in (
        (key, contains_first key (value.value ∷ []), ap (λ (p : Shape × Shape). p.0) same),
        (value.value, contains_later key (value.value ∷ []) value.value (contains_first value.value []), ap (λ (p : Shape × Shape). p.1) same),
      )
  pair_of (Confirm (Some p)) k v is = absurd (none-some (k, v) is)
  pair_of (Confirm None) k v is = absurd (none-some (k, v) is)
  pair_of Android k v is = absurd (none-some (k, v) is)
  pair_of (Arg o) k v is = absurd (none-some (k, v) is)
  pair_of Cache k v is = absurd (none-some (k, v) is)
  pair_of Default k v is = absurd (none-some (k, v) is)
  pair_of (Doc None) k v is = absurd (none-some (k, v) is)
  pair_of (Doc (Some t)) k v is = absurd (none-some (k, v) is)
  pair_of Dragonfly k v is = absurd (none-some (k, v) is)
  pair_of ExitMessage k v is = absurd (none-some (k, v) is)
  pair_of (Extension t) k v is = absurd (none-some (k, v) is)
  pair_of Freebsd k v is = absurd (none-some (k, v) is)
  pair_of (Group t) k v is = absurd (none-some (k, v) is)
  pair_of Linux k v is = absurd (none-some (k, v) is)
  pair_of Macos k v is = absurd (none-some (k, v) is)
  pair_of (Metadata t ts) k v is = absurd (none-some (k, v) is)
  pair_of Netbsd k v is = absurd (none-some (k, v) is)
  pair_of NoCd k v is = absurd (none-some (k, v) is)
  pair_of NoExitMessage k v is = absurd (none-some (k, v) is)
  pair_of NoQuiet k v is = absurd (none-some (k, v) is)
  pair_of Openbsd k v is = absurd (none-some (k, v) is)
  pair_of Parallel k v is = absurd (none-some (k, v) is)
  pair_of PositionalArguments k v is = absurd (none-some (k, v) is)
  pair_of Private k v is = absurd (none-some (k, v) is)
  pair_of (Script None) k v is = absurd (none-some (k, v) is)
  pair_of (Script (Some i)) k v is = absurd (none-some (k, v) is)
  pair_of Unix k v is = absurd (none-some (k, v) is)
  pair_of Windows k v is = absurd (none-some (k, v) is)
  pair_of (WorkingDirectory t) k v is = absurd (none-some (k, v) is)

  -- what the first of a list is stands in the list
  first_there : {A : Type 0} (xs : List A) (x : A) → first expansion xs ≡ Some x → Contains xs x
  first_there [] x e = absurd (none-some x e)
  first_there (y ∷ xs) x e = subst (Contains (y ∷ xs)) (same_Some y x e) (contains_first y xs)

  -- the prompt of an attribute that stands once is the first
  prompt_first : (as' : List AttributeShape) (q : Shape) → repeated as' ≡ None → Contains as' (with_prompt q) → first expansion (filter_map (prompt_in expansion) as') ≡ Some (Some q)
  prompt_first [] q single c = absurd (contains_none [] (with_prompt q) refl c)
  prompt_first (a ∷ as') q single c = elim (contains_cases a as' (with_prompt q) c) [
    | inl same ↦ ap (λ x. first expansion (filter_map (prompt_in expansion) (x ∷ as'))) same
    | inr later ↦ skipped a single later ∙ prompt_first as' q (single_later expansion [] a as' single) later
  ]
    where
      skipped : (b : AttributeShape) → repeated (b ∷ as') ≡ None → Contains as' (with_prompt q) → first expansion (filter_map (prompt_in expansion) (b ∷ as')) ≡ first expansion (filter_map (prompt_in expansion) as')
      skipped (plain k) single later = elim (plain_prompt expansion k) [
        | inl none ↦ first_skipped expansion (prompt_in expansion) (plain k) as' none
        | inr asks ↦ let confirms = asks.1 in absurd (alone expansion [] (plain k) as' single (ap is_repeatable confirms) (with_prompt q) later (sym confirms))
      ]
      skipped (with_options o) single later = refl
      skipped (with_prompt p) single later = absurd (alone expansion [] (with_prompt p) as' single refl (with_prompt q) later refl)
      skipped (with_pair k v) single later = refl
      skipped (with_string k t) single later = refl
      skipped (with_strings t ts) single later = refl
      skipped (with_interpreter i) single later = refl

-- ---- the row of a recipe

module _ (expansion : Expansion) (key : List ℕ) (passes : Bool) (on : DependencyShape → RecipeName) (recipe : Recipe UnresolvedDependency) where
  abbrev pub row : RecipeRow
  row = recipe_row expansion key passes on (shapes_in recipe.attributes) (recipe_shape recipe)

  abbrev shapes : List AttributeShape
  shapes = shapes_in recipe.attributes

  abbrev items : List AttributeItem
  items = items_of recipe.attributes

  ordered : in_order shapes ≡ shapes
  ordered = in_order_already recipe.attributes

  abbrev dependency_row : DependencyShape → DependencyRow
  dependency_row d = record { on = on d; arguments = d.arguments }

  -- ---- what is first of the row is first of the tree

  -- what is first of an attribute is first of the recipe
  of_item : (shares : Bool) (item : AttributeItem) (e : Shape) → Contains items item → IsOneOf (first_of_attribute item.attribute) e → IsOneOf (first_of_recipe shares recipe) e
  of_item shares item e c one = (
    one.0,
    Contains-append_left (first_of_front recipe) (shared_arguments shares recipe.subsequents.items) one.0
        (Contains-append_left (flat_map first_of_item items) (flat_map first_of_parameter recipe.parameters.items ++ flat_map arguments_of recipe.priors.items) one.0 (contains_flat first_of_item items item one.0 c one.1)),
    one.2,
  )

  of_parameter : (shares : Bool) (parameter : Parameter) (e : Shape) → Contains recipe.parameters.items parameter → IsOneOf (first_of_parameter parameter) e → IsOneOf (first_of_recipe shares recipe) e
  of_parameter shares parameter e c one = (
    one.0,
    Contains-append_left (first_of_front recipe) (shared_arguments shares recipe.subsequents.items) one.0
        (Contains-append_right (flat_map first_of_item items) (flat_map first_of_parameter recipe.parameters.items ++ flat_map arguments_of recipe.priors.items) one.0
        (Contains-append_left (flat_map first_of_parameter recipe.parameters.items) (flat_map arguments_of recipe.priors.items) one.0 (contains_flat first_of_parameter recipe.parameters.items parameter one.0 c one.1))),
    one.2,
  )

  of_prior : (shares : Bool) (x : Expression) → Contains (flat_map arguments_of recipe.priors.items) x → Contains (first_of_recipe shares recipe) x
  of_prior shares x c =
      Contains-append_left (first_of_front recipe) (shared_arguments shares recipe.subsequents.items) x
      (Contains-append_right (flat_map first_of_item items) (flat_map first_of_parameter recipe.parameters.items ++ flat_map arguments_of recipe.priors.items) x
      (Contains-append_right (flat_map first_of_parameter recipe.parameters.items) (flat_map arguments_of recipe.priors.items) x c))

  default_of : (parameter : Parameter) (e : Shape) → option_map shape_of parameter.default ≡ Some e → IsOneOf (first_of_parameter parameter) e
  default_of parameter e is = by_default parameter.default is
    where
      by_default : (o : Option Expression) → option_map shape_of o ≡ Some e → IsOneOf (if_there o) e
      by_default (Some x) s = (x, contains_first x [], same_Some (shape_of x) e s)
      by_default None s = absurd (none-some e s)

  -- an argument of a row's dependency is one of the tree's
  argument_there : (ds : List UnresolvedDependency) (d : DependencyRow) (a : ArgumentShape) → Contains (map dependency_row (dependency_shapes ds)) d → Contains d.arguments a → IsOneOf (flat_map arguments_of ds) a.expression
  argument_there ds d a c among =
      let m = contains_mapped dependency_row (dependency_shapes ds) d c in
      let n = contains_mapped dependency_shape ds m.0 m.1 in
      let same : map argument_shape n.0.arguments.items ≡ d.arguments = ap (λ (x : DependencyShape). x.arguments) n.2 ∙ ap (λ (x : DependencyRow). x.arguments) m.2 in
      let argument = contains_mapped argument_shape n.0.arguments.items a (subst (λ as'. Contains as' a) (sym same) among) in (
        argument.0.expression,
        contains_flat arguments_of ds n.0 argument.0.expression n.1 (contains_map argument_of n.0.arguments.items argument.0 argument.1),
        ap (λ (x : ArgumentShape). x.expression) argument.2,
      )

  -- the item of a shape
  item_of : (a : AttributeShape) → Contains (in_order shapes) a → (item : AttributeItem) × Contains items item × (item_shape item ≡ a)
  item_of a c = contains_mapped item_shape items a (subst (λ as'. Contains as' a) ordered c)

  pair_there : (k v : Shape) → Contains row.env (k, v) → (item : AttributeItem) × Contains items item × IsPairOf expansion item.attribute k v
  pair_there k v c =
      let g = given_back (pair_in expansion) (in_order shapes) (k, v) c in
      let i = item_of g.0 g.1 in
      (i.0, i.1, pair_of expansion i.0.attribute k v (ap (pair_in expansion) i.2 ∙ g.2))

  pub first_placed : (inside : ModuleRow) (e : Shape) → EvaluatesFirst row inside e → IsOneOf (first_of_recipe inside.shares recipe) e
  first_placed inside _ (named.default {parameter} {e} c is) =
      let m = contains_mapped (parameter_row expansion (in_order shapes)) (parameter_shapes recipe.parameters.items) parameter c in
      let n = contains_mapped parameter_shape recipe.parameters.items m.0 m.1 in
      of_parameter inside.shares n.0 e n.1 (default_of n.0 e (ap (λ (p : ParameterShape). p.default) n.2 ∙ ap (λ (p : ParameterRow). p.default) m.2 ∙ is))
  first_placed inside _ (named.key {k} {v} c) = let p = pair_there k v c in of_item inside.shares p.0 k p.1 p.2.0
  first_placed inside _ (named.value {k} {v} c) = let p = pair_there k v c in of_item inside.shares p.0 v p.1 p.2.1
  first_placed inside _ (named.prompt {e} is) =
      let g = given_back (prompt_in expansion) (in_order shapes) (Some e) (first_there expansion (filter_map (prompt_in expansion) (in_order shapes)) (Some e) is) in
      let i = item_of g.0 g.1 in
      of_item inside.shares i.0 e i.1 (prompt_of expansion i.0.attribute e (ap (prompt_in expansion) i.2 ∙ g.2))
  first_placed inside _ (named.argument {d} {a} c among) = elim (Contains-append_cases row.priors (cond inside.shares row.subsequents []) d c) [
    | inl prior ↦ let one = argument_there recipe.priors.items d a prior among in (one.0, of_prior inside.shares one.0 one.1, one.2)
    | inr subsequent ↦ by_shares inside.shares subsequent
  ]
    where
      by_shares : (shares : Bool) → Contains (cond shares row.subsequents []) d → IsOneOf (first_of_recipe shares recipe) a.expression
      by_shares true later =
          let one = argument_there recipe.subsequents.items d a later among in
          (one.0, Contains-append_right (first_of_front recipe) (flat_map arguments_of recipe.subsequents.items) one.0 one.1, one.2)
      by_shares false later = absurd (contains_none [] d refl later)

  -- ---- what is first of the tree is first of the row

  module _ (single : repeated shapes ≡ None) (inside : ModuleRow) where
    shape_there : (item : AttributeItem) → Contains items item → Contains (in_order shapes) (item_shape item)
    shape_there item c = subst (λ as'. Contains as' (item_shape item)) (sym ordered) (contains_map item_shape items item c)

    -- the prompt, and the key and the value of a pair
    of_attribute : (a : Attribute) (x : Expression) → Contains (in_order shapes) (attribute_shape a) → Contains (first_of_attribute a) x → EvaluatesFirst row inside (shape_of x)
    of_attribute (Confirm (Some p)) x there c = elim (contains_cases p [] x c) [
      | inl same ↦ named.prompt (ap (λ as'. first expansion (filter_map (prompt_in expansion) as')) ordered
          ∙ prompt_first expansion shapes (shape_of x) single (subst (λ y. Contains shapes (with_prompt (shape_of y))) same (subst (λ as'. Contains as' (with_prompt (shape_of p))) ordered there)))
      | inr none ↦ absurd (contains_none [] x refl none)
    ]
    of_attribute (Env key value) x there c =
        let pair : Contains row.env (shape_of key, shape_of value.value) = given_there (pair_in expansion) (in_order shapes) (with_pair (shape_of key) (shape_of value.value)) (shape_of key, shape_of value.value) there refl in
        elim (contains_cases key (value.value ∷ []) x c) [
          | inl same ↦ subst (λ y. EvaluatesFirst row inside (shape_of y)) same (named.key pair)
          | inr later ↦ elim (contains_cases value.value [] x later) [
            | inl same ↦ subst (λ y. EvaluatesFirst row inside (shape_of y)) same (named.value pair)
            | inr none ↦ absurd (contains_none [] x refl none)
          ]
        ]
    of_attribute (Confirm None) x there c = absurd (contains_none [] x refl c)
    of_attribute Android x there c = absurd (contains_none [] x refl c)
    of_attribute (Arg o) x there c = absurd (contains_none [] x refl c)
    of_attribute Cache x there c = absurd (contains_none [] x refl c)
    of_attribute Default x there c = absurd (contains_none [] x refl c)
    of_attribute (Doc t) x there c = absurd (contains_none [] x refl c)
    of_attribute Dragonfly x there c = absurd (contains_none [] x refl c)
    of_attribute ExitMessage x there c = absurd (contains_none [] x refl c)
    of_attribute (Extension t) x there c = absurd (contains_none [] x refl c)
    of_attribute Freebsd x there c = absurd (contains_none [] x refl c)
    of_attribute (Group t) x there c = absurd (contains_none [] x refl c)
    of_attribute Linux x there c = absurd (contains_none [] x refl c)
    of_attribute Macos x there c = absurd (contains_none [] x refl c)
    of_attribute (Metadata t ts) x there c = absurd (contains_none [] x refl c)
    of_attribute Netbsd x there c = absurd (contains_none [] x refl c)
    of_attribute NoCd x there c = absurd (contains_none [] x refl c)
    of_attribute NoExitMessage x there c = absurd (contains_none [] x refl c)
    of_attribute NoQuiet x there c = absurd (contains_none [] x refl c)
    of_attribute Openbsd x there c = absurd (contains_none [] x refl c)
    of_attribute Parallel x there c = absurd (contains_none [] x refl c)
    of_attribute PositionalArguments x there c = absurd (contains_none [] x refl c)
    of_attribute Private x there c = absurd (contains_none [] x refl c)
    of_attribute (Script i) x there c = absurd (contains_none [] x refl c)
    of_attribute Unix x there c = absurd (contains_none [] x refl c)
    of_attribute Windows x there c = absurd (contains_none [] x refl c)
    of_attribute (WorkingDirectory t) x there c = absurd (contains_none [] x refl c)

    -- a default
    of_default : (parameter : Parameter) (x : Expression) → Contains recipe.parameters.items parameter → Contains (first_of_parameter parameter) x → EvaluatesFirst row inside (shape_of x)
    of_default parameter x there c = by_default parameter.default refl c
      where
        by_default : (o : Option Expression) → parameter.default ≡ o → Contains (if_there o) x → EvaluatesFirst row inside (shape_of x)
        by_default (Some y) is d = elim (contains_cases y [] x d) [
          | inl same ↦ named.default
              (contains_map (parameter_row expansion (in_order shapes)) (parameter_shapes recipe.parameters.items) (parameter_shape parameter) (contains_map parameter_shape recipe.parameters.items parameter there))
              (ap (option_map shape_of) is ∙ ap (λ z. Some (shape_of z)) same)
          | inr none ↦ absurd (contains_none [] x refl none)
        ]
        by_default None is d = absurd (contains_none [] x refl d)

    -- an argument of a dependency
    of_argument : (ds : List UnresolvedDependency) → ((d : DependencyRow) → Contains (map dependency_row (dependency_shapes ds)) d → Contains (looked row inside) d) → (x : Expression) → Contains (flat_map arguments_of ds) x → EvaluatesFirst row inside (shape_of x)
    of_argument ds looked_at x c =
        let f = contained_flat arguments_of ds x c in
        let a = contains_mapped argument_of f.0.arguments.items x f.2 in
        let d : DependencyRow = dependency_row (dependency_shape f.0) in
        let there : Contains (looked row inside) d = looked_at d (contains_map dependency_row (dependency_shapes ds) (dependency_shape f.0) (contains_map dependency_shape ds f.0 f.1)) in
        subst (λ y. EvaluatesFirst row inside (shape_of y)) a.2 (named.argument {d = d} {a = argument_shape a.0} there (contains_map argument_shape f.0.arguments.items a.0 a.1))

    of_priors : (x : Expression) → Contains (flat_map arguments_of recipe.priors.items) x → EvaluatesFirst row inside (shape_of x)
    of_priors x c = of_argument recipe.priors.items (λ d there. Contains-append_left row.priors (cond inside.shares row.subsequents []) d there) x c

    of_subsequents : (x : Expression) → Contains (shared_arguments inside.shares recipe.subsequents.items) x → EvaluatesFirst row inside (shape_of x)
    of_subsequents x c = by_shares inside.shares refl c
      where
        by_shares : (shares : Bool) → inside.shares ≡ shares → Contains (shared_arguments shares recipe.subsequents.items) x → EvaluatesFirst row inside (shape_of x)
        by_shares true is d = of_argument recipe.subsequents.items (λ r there. Contains-append_right row.priors (cond inside.shares row.subsequents []) r (subst (λ s. Contains (cond s row.subsequents []) r) (sym is) there)) x d
        by_shares false is d = absurd (contains_none [] x refl d)

    pub first_named : (x : Expression) → Contains (first_of_recipe inside.shares recipe) x → EvaluatesFirst row inside (shape_of x)
    first_named x c = elim (Contains-append_cases (first_of_front recipe) (shared_arguments inside.shares recipe.subsequents.items) x c) [
      | inl front ↦ elim (Contains-append_cases (flat_map first_of_item items) (flat_map first_of_parameter recipe.parameters.items ++ flat_map arguments_of recipe.priors.items) x front) [
        | inl of ↦ let f = contained_flat first_of_item items x of in of_attribute f.0.attribute x (shape_there f.0 f.1) f.2
        | inr later ↦ elim (Contains-append_cases (flat_map first_of_parameter recipe.parameters.items) (flat_map arguments_of recipe.priors.items) x later) [
          | inl of ↦ let f = contained_flat first_of_parameter recipe.parameters.items x of in of_default f.0 x f.1 f.2
          | inr of ↦ of_priors x of
        ]
      ]
      | inr of ↦ of_subsequents x of
    ]

  -- ---- values of parameters

  module _ (has : HasOwnOptions expansion recipe) where
    -- a parameter's row has the shape of its value
    value_is : (parameter : Parameter) → Contains recipe.parameters.items parameter → (parameter_row expansion (in_order shapes) (parameter_shape parameter)).value ≡ option_map shape_of parameter.value
    value_is parameter c =
        let own = All-contains (HasOptions expansion (options_among shapes)) recipe.parameters.items parameter has c in
        ap (λ as'. (parameter_row expansion as' (parameter_shape parameter)).value) ordered
        ∙ ap (λ os. (meant_for expansion os (parameter_shape parameter).name).value) (same_options shapes)
        ∙ ap (λ (o : ParameterOptions). o.value) (sym own)

    -- where no parameter of the tree has a value, none of the row has
    pub unvalued_row : ((parameter : Parameter) (value : Expression) → Contains recipe.parameters.items parameter → parameter.value ≡ Some value → ⊥) → (p : ParameterRow) → Contains row.parameters p → p.value ≡ None
    unvalued_row none p c =
        let m = contains_mapped (parameter_row expansion (in_order shapes)) (parameter_shapes recipe.parameters.items) p c in
        let n = contains_mapped parameter_shape recipe.parameters.items m.0 m.1 in
        ap (λ (r : ParameterRow). r.value) (sym m.2) ∙ ap (λ s. (parameter_row expansion (in_order shapes) s).value) (sym n.2) ∙ value_is n.0 n.1 ∙ no_value n.0.value (λ value is. none n.0 value n.1 is)
      where
        no_value : (o : Option Expression) → ((value : Expression) → o ≡ Some value → ⊥) → option_map shape_of o ≡ None
        no_value None none = refl
        no_value (Some value) none = absurd (none value refl)

    -- and the other way round
    pub unvalued_tree : ((p : ParameterRow) → Contains row.parameters p → p.value ≡ None) → (parameter : Parameter) (value : Expression) → Contains recipe.parameters.items parameter → parameter.value ≡ Some value → ⊥
    unvalued_tree none parameter value c is =
        let there = contains_map (parameter_row expansion (in_order shapes)) (parameter_shapes recipe.parameters.items) (parameter_shape parameter) (contains_map parameter_shape recipe.parameters.items parameter c) in
        none-some (shape_of value) (sym (none (parameter_row expansion (in_order shapes) (parameter_shape parameter)) there) ∙ value_is parameter c ∙ ap (option_map shape_of) is)
