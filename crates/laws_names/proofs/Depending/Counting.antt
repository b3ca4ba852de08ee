-- How many values a recipe takes, by its parameters and by its attributes.
use Rattle.std.proofs.Common.{◌≡◌, sym, ◌∙◌, ap, ap₂, Bool, true, false, not, cond, ◌&&◌, ◌||◌, List, [], ◌∷◌, ◌+◌, ℕ, Option, Some, None, refl, map, fold, length, nat_le, is_some}
use Rattle.std.specs.Prelude.{Contains}
use Rattle.std.specs.List.{count_by, filter_map}
use Rattle.std.specs.Option.{option_map}
use Rattle.std.proofs.lemmas.List.{length-map}
use Rattle.std.proofs.lemmas.List.Elements.{All-contains}
use Rattle.just_text.specs.Tokens.{lexeme}
use Rattle.tree_attributes.specs.Attributes.{AttributeShape, plain, with_options, with_prompt, with_pair, with_string, with_strings, with_interpreter}
use Rattle.tree_attributes.specs.Sets.Sets.{shapes_in}
use Rattle.tree_items.specs.Recipes.{parameter_shape, parameter_shapes, recipe_shape}
use Rattle.tree_items.specs.declared.recipe.Parameter.{Parameter}
use Rattle.tree_items.specs.declared.recipe.ParameterKind.{ParameterKind}
use Rattle.tree_items.specs.declared.recipe.ParameterKind.TheVariants.{Plus, Singular, Star}
use Rattle.tree_items.specs.declared.recipe.Recipe.{Recipe}
use Rattle.tree_items.specs.declared.recipe.UnresolvedDependency.{UnresolvedDependency}
use Rattle.parse_attributes.specs.Seen.{options_in as seen_options}
use Rattle.parse_attributed_items.specs.Fitting.{options_among}
use Rattle.parse_attributed_items.specs.Held.{HasOptions as RecipeHasOptions}
use Rattle.parse_attributed_items.specs.Options.{HasOptions, ParameterOptions, meant_for}
use Rattle.resolve_recipes.specs.Counts.{are_taken, count_of, is_open, is_required, is_star, is_within}
use Rattle.meaning_rules.specs.Worlds.Given.{World}
use Rattle.meaning_rules.proofs.Worlds.Places.{contains_first, contains_later}
use Rattle.meaning_rules.specs.Depending.{takes, is_open as is_open_shape, is_required as is_required_shape, is_star as is_star_kind}
use Rattle.meaning_rules.specs.Fixed.{is_flag, options_in}
use Rattle.laws_names.proofs.Depending.Lists.{given_alike}

-- ---- how many pass

count_from : {X Y : Type 0} (p : Y → Bool) (q : X → Bool) (f : X → Y) (xs : List X) → ((x : X) → Contains xs x → p (f x) ≡ q x) → (n : ℕ) → fold (λ a y. a + cond (p y) 1 0) n (map f xs) ≡ fold (λ a x. a + cond (q x) 1 0) n xs
count_from p q f [] same n = refl
count_from p q f (x ∷ xs) same n =
    ap (λ b. fold (λ a y. a + cond (p y) 1 0) (n + cond b 1 0) (map f xs)) (same x (contains_first x xs)) ∙ count_from p q f xs (λ y c. same y (contains_later x xs y c)) (n + cond (q x) 1 0)

count_alike : {X Y : Type 0} (p : Y → Bool) (q : X → Bool) (f : X → Y) (xs : List X) → ((x : X) → Contains xs x → p (f x) ≡ q x) → count_by p (map f xs) ≡ count_by q xs
count_alike p q f xs same = count_from p q f xs same 0

-- ---- parameters

options_alike : (a : AttributeShape) → options_in a ≡ seen_options (Some a)
options_alike (plain k) = refl
options_alike (with_options o) = refl
options_alike (with_prompt e) = refl
options_alike (with_pair k v) = refl
options_alike (with_string k t) = refl
options_alike (with_strings t ts) = refl
options_alike (with_interpreter i) = refl

same_options : (given : List AttributeShape) → filter_map options_in given ≡ options_among given
same_options given = given_alike options_in (λ a. seen_options (Some a)) options_alike given

some_alike : {A B : Type 0} (f : A → B) (o : Option A) → is_some (option_map f o) ≡ is_some o
some_alike f None = refl
some_alike f (Some a) = refl

star_alike : (w : World) (k : ParameterKind) → is_star_kind w k ≡ is_star k
star_alike w Plus = refl
star_alike w Singular = refl
star_alike w Star = refl

open_alike : (w : World) (ps : List Parameter) → is_open_shape w (parameter_shapes ps) ≡ is_open ps
open_alike w [] = refl
open_alike w (p ∷ []) = refl
open_alike w (p ∷ q ∷ ps) = open_alike w (q ∷ ps)

within_alike : (all : Bool) (many count : ℕ) → (all || nat_le count many) ≡ is_within (cond all None (Some many)) count
within_alike true many count = refl
within_alike false many count = refl

abbrev required : Bool → Bool → Bool → Bool
required default star flag = not default && not star && not flag

module _ (w : World) (attributes : List AttributeShape) where
  flag_alike : (p : Parameter) → HasOptions w.expansion (options_among attributes) p → is_flag w.expansion attributes (lexeme p.name.token) ≡ p.flag
  flag_alike p h = ap (λ os. (meant_for w.expansion os (lexeme p.name.token)).flag) (same_options attributes) ∙ ap (λ (o : ParameterOptions). o.flag) (sym h)

  required_alike : (p : Parameter) → HasOptions w.expansion (options_among attributes) p → is_required_shape w attributes (parameter_shape p) ≡ is_required p
  required_alike p h =
      ap (λ b. required b (is_star_kind w p.kind) (is_flag w.expansion attributes (lexeme p.name.token))) (some_alike _ p.default)
      ∙ ap (λ b. required (is_some p.default) b (is_flag w.expansion attributes (lexeme p.name.token))) (star_alike w p.kind)
      ∙ ap (λ b. required (is_some p.default) (is_star p.kind) b) (flag_alike p h)

-- a recipe whose parameters have the options of its attributes takes in the world what it takes in the compilation
pub taken_alike : (w : World) (r : Recipe UnresolvedDependency) (count : ℕ) → RecipeHasOptions w.expansion r → takes w (shapes_in r.attributes) (recipe_shape r) count ≡ are_taken (count_of r.parameters.items) count
taken_alike w r count h =
    let ps = r.parameters.items in
    let least = count_alike (is_required_shape w (shapes_in r.attributes)) is_required parameter_shape ps
    (λ p c. required_alike w (shapes_in r.attributes) p (All-contains (HasOptions w.expansion (options_among (shapes_in r.attributes))) ps p h c)) in
    ap₂ (λ a b. a && b) (ap (λ n. nat_le n count) least)
    (ap₂ (λ a n. a || nat_le count n) (open_alike w ps) (length-map ps parameter_shape) ∙ within_alike (is_open ps) (length ps) count)
