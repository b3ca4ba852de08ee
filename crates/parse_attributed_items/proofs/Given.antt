-- What is given to a parameter.
use Rattle.std.proofs.Common.{◌≡◌, ℕ, zero, suc, ◌<◌, Bool, true, false, List, [], ◌∷◌, length, map, get_or, set, Some, None, Option, refl, sym, ap, subst, ◌∙◌, arith, inl, inr}
use Rattle.std.specs.Prelude.{IfSome}
use Rattle.std.specs.Option.{option_map}
use Rattle.std.specs.Str.{bytes_eq}
use Rattle.std.proofs.Math.Seq.{map-set_same}
use Rattle.std.proofs.lemmas.Bool.{cases_eq}
use Rattle.std.proofs.lemmas.Grind.{get_or-set_at}
use Rattle.std.proofs.lemmas.List.{get_or-set_other, length-set}
use Rattle.just_text.specs.Tokens.{lexeme}
use Rattle.tree_expressions.specs.declared.string_literal.StringLiteral.{StringLiteral}
use Rattle.tree_attributes.specs.declared.attribute.ArgumentOptions.{ArgumentOptions}
use Rattle.tree_attributes.specs.declared.attribute.LongName.{LongName}
use Rattle.tree_attributes.specs.declared.attribute.LongName.TheVariants.{Absent, Named, OfParameter}
use Rattle.tree_items.specs.declared.recipe.Parameter.{Parameter}
use Rattle.tree_attributes.specs.Attributes.{OptionsShape, options_shape}
use Rattle.tree_items.specs.Recipes.{parameter_shapes}
use Rattle.tree_expressions.specs.Shape.{shape_of, written}
use Rattle.parse_expressions.specs.Literals.{Expansion}
use Rattle.parse_expressions.specs.Strings.{IsCookedString}
use Rattle.parse_attributes.specs.Cooked.{IsCookedName}
use Rattle.parse_attributes.specs.Options.{text}
use Rattle.parse_attributes.proofs.Adding.{text_is}
use Rattle.parse_recipes.specs.Plain.{IsPlain}
use Rattle.parse_attributed_items.specs.Names.{cooked_long_name}
use Rattle.parse_attributed_items.specs.Options.{HasOptions, HaveOptions, ParameterOptions, bare, bare_all, meant, no_options, options_in}
use Rattle.parse_attributed_items.specs.Places.{HasPlaces, place_in}
use Rattle.parse_attributed_items.specs.declared.places.Places.{Places}
use Rattle.parse_attributed_items.specs.Rules.{are_distinct, for_name, is_among, long_name, names_of}
use Rattle.parse_attributed_items.proofs.Placed.{among_if_placed, apart, none_of, there}
use Rattle.parse_expressions.proofs.Taken.{text_itself}

-- ---- the texts of an `arg`

module _ (expansion : Expansion) where
  -- what a string of the options stands for, read by f
  pub read : {X : Type 0} (f : List ℕ → X) (s : Option StringLiteral) → IfSome s (IsCookedString expansion) → option_map (λ (t : StringLiteral). f t.cooked) s ≡ option_map (λ t. f (text expansion t)) (option_map written s)
  read f None cooked = refl
  read f (Some s) cooked = ap (λ t. Some (f t)) (sym (text_is expansion s cooked))

  -- what holds of a string of the options as it is written holds of it as it is read
  pub whole : (f : List ℕ → Bool) (s : Option StringLiteral) → IfSome s (IsCookedString expansion) → IfSome (option_map written s) (λ t. f (text expansion t) ≡ true) → IfSome s (λ t. f t.cooked ≡ true)
  whole f None cooked h = tt
  whole f (Some s) cooked h = rw (text_is expansion s cooked) at h

  pub named : (o : ArgumentOptions) (long : LongName) → o.long ≡ long → IsCookedString expansion o.name → IsCookedName expansion long → cooked_long_name long o.name ≡ long_name expansion (options_shape o)
  named o Absent is name cooked = rw is refl
  named o (Named s) is name cooked = rw (is, text_is expansion s cooked) refl
  named o OfParameter is name cooked = rw (is, text_is expansion o.name name) refl

-- the options, field by field
pub all_given : (p q : ParameterOptions) → p.flag ≡ q.flag → p.help ≡ q.help → p.long ≡ q.long → p.max ≡ q.max → p.min ≡ q.min → p.multiple ≡ q.multiple → p.short ≡ q.short → p.value ≡ q.value → p ≡ q
all_given p q a b c d e f g h = λ i. record { flag = a i; help = b i; long = c i; max = d i; min = e i; multiple = f i; short = g i; value = h i }

-- ---- the parameter at a place

-- the names of parameters
abbrev names : List Parameter → List (List ℕ)
names ps = names_of (parameter_shapes ps)

abbrev name_of_one : Parameter → List ℕ
name_of_one p = lexeme p.name.token

bare_names : (ps : List Parameter) → names (bare_all ps) ≡ names ps
bare_names [] = refl
bare_names (p ∷ ps) = ap (λ ns. name_of_one p ∷ ns) (bare_names ps)

-- names are kept where everything but options is
pub names_kept : (ps qs : List Parameter) → bare_all ps ≡ bare_all qs → names_of (parameter_shapes ps) ≡ names_of (parameter_shapes qs)
names_kept ps qs kept = sym (bare_names ps) ∙ ap names kept ∙ bare_names qs

name_at : (ps : List Parameter) (k : ℕ) (d : Parameter) → get_or (names ps) k (name_of_one d) ≡ name_of_one (get_or ps k d)
name_at [] k d = refl
name_at (p ∷ ps) zero d = refl
name_at (p ∷ ps) (suc k) d = name_at ps k d

as_many : (ps : List Parameter) → length (names ps) ≡ length ps
as_many [] = refl
as_many (p ∷ ps) = ap suc (as_many ps)

module _ (expansion : Expansion) (o : OptionsShape) (others : List OptionsShape) where
  -- the parameter that the options are for has them
  for_it : (p : Parameter) → options_in p ≡ meant expansion o → name_of_one p ≡ for_name expansion o → HasOptions expansion (o ∷ others) p
  for_it p given name = let same : bytes_eq (for_name expansion o) (name_of_one p) ≡ true = rw name (text_itself (for_name expansion o)) in rw same given

  -- another one has what it had
  for_another : (p : Parameter) → bytes_eq (for_name expansion o) (name_of_one p) ≡ false → HasOptions expansion others p → HasOptions expansion (o ∷ others) p
  for_another p other has = rw other has

  module _ (places : Places) (ps : List Parameter) (has : HasPlaces places (names_of (parameter_shapes ps))) (have : HaveOptions expansion others ps) where
    -- no parameter has that name
    pub for_none : place_in places (for_name expansion o) ≡ None → HaveOptions expansion (o ∷ others) ps
    for_none none k d less =
        let unnamed : is_among (names ps) (for_name expansion o) ≡ false = rw none at (among_if_placed places (names ps) has (for_name expansion o)) in
        let other = none_of (for_name expansion o) (names ps) k (name_of_one d) unnamed (omega (arith, as_many ps, less)) in
        for_another (get_or ps k d) (rw (name_at ps k d) at other) (have k d less)

    -- a place stands for a parameter
    pub within : (place : ℕ) → place_in places (for_name expansion o) ≡ Some place → place < length ps
    within place is = omega (arith, (there places (names ps) (for_name expansion o) place has is).0, as_many ps)

    -- the parameter at the place of that name was given the options
    pub for_one : (place : ℕ) (old new : Parameter) → are_distinct (names_of (parameter_shapes ps)) ≡ true → place_in places (for_name expansion o) ≡ Some place
        → old ≡ get_or ps place old → bare new ≡ bare old → options_in new ≡ meant expansion o → HaveOptions expansion (o ∷ others) (set ps place new)
    for_one place old new differ is old_is kept given k d less =
        let here : place < length ps = within place is in
        let inside : k < length ps = omega (arith, less, length-set ps place new) in
        let at_place : (n : List ℕ) → get_or (names ps) place n ≡ for_name expansion o = (there places (names ps) (for_name expansion o) place has is).1 in
        let named_so : name_of_one new ≡ for_name expansion o = ap name_of_one kept ∙ ap name_of_one old_is ∙ sym (name_at ps place old) ∙ at_place (name_of_one old) in
        elim (cases_eq k place) [
          | inl e ↦ subst (HasOptions expansion (o ∷ others)) (sym (get_or-set_at ps place k new d e here)) (for_it new given named_so)
          | inr ne ↦
              let apart_so = apart (names ps) place k (name_of_one d) differ (λ e. ne (sym e)) (omega (arith, as_many ps, here)) (omega (arith, as_many ps, inside)) in
              let other : bytes_eq (for_name expansion o) (name_of_one (get_or ps k d)) ≡ false = rw (at_place (name_of_one d), name_at ps k d) at apart_so in
              subst (HasOptions expansion (o ∷ others)) (sym (get_or-set_other ps place k new d ne)) (for_another (get_or ps k d) other (have k d inside))
        ]

-- a parameter is given options, and the others are kept
pub kept_at : (ps : List Parameter) (place : ℕ) (old new : Parameter) → old ≡ get_or ps place old → bare new ≡ bare old → bare_all (set ps place new) ≡ bare_all ps
kept_at ps place old new is kept = map-set_same bare ps place new old (kept ∙ ap bare is)

-- ---- no options

-- a parameter without options has none
pub plain_has_none : (p : Parameter) → IsPlain p → options_in p ≡ no_options
plain_has_none p plain = all_given (options_in p) no_options plain.flag plain.help plain.long plain.max plain.min plain.multiple (ap (option_map (λ c. c ∷ [])) plain.short) (ap (option_map shape_of) plain.value)
