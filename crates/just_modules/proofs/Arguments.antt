-- The value of an `arg` is the one that is given to its parameter.
use Rattle.std.proofs.Common.{◌≡◌, inl, inr, sym, ◌∙◌, ap, subst, ℕ, Bool, true, false, not, cond, ◌∷◌, [], List, Option, Some, None, refl, map, if◌then◌else◌}
use Rattle.std.specs.Prelude.{Contains, bytes_eq, find}
use Rattle.std.specs.List.{cons_option, filter_map, list_all}
use Rattle.std.specs.Option.{option_map}
use Rattle.std.proofs.lemmas.Bool.{false≢true}
use Rattle.std.proofs.lemmas.List.Elements.{All-contains, All-contains_itself}
use Rattle.std.proofs.lemmas.Option.{none-some}
use Rattle.std.proofs.lemmas.Slice.Eq.{bytes_eq-Decides}
use Rattle.just_text.specs.Tokens.{lexeme}
use Rattle.tree_expressions.specs.Shape.{shape_of}
use Rattle.tree_attributes.specs.Attributes.{AttributeShape, OptionsShape, plain, with_options, with_prompt, with_pair, with_string, with_strings, with_interpreter}
use Rattle.tree_attributes.specs.Sets.Order.{in_order, is_before}
use Rattle.tree_items.specs.declared.recipe.Parameter.{Parameter}
use Rattle.tree_items.specs.Recipes.{ParameterShape, RecipeShape}
use Rattle.parse_attributes.specs.Seen.{options_in as seen_options}
use Rattle.parse_expressions.specs.Literals.{Expansion}
use Rattle.parse_attributed_items.specs.Fitting.{options_among}
use Rattle.parse_attributed_items.specs.Options.{HasOptions, HaveOptions, ParameterOptions, meant_for, meant_or_none, options_in as given_options}
use Rattle.parse_attributed_items.specs.Rules.{are_distinct, fault_of, for_name, is_among, is_for, name_parameters, names_of}
use Rattle.parse_attributed_items.proofs.Ordered.{all_sorted}
use Rattle.parse_attributed_items.proofs.Reordered.{distinct_if_fits, found_alike}
use Rattle.meaning_rules.specs.Fixed.{options_in, value_of}
use Rattle.meaning_rules.proofs.Worlds.Places.{contains_cases, contains_first, contains_later, contains_none}
use Rattle.just_modules.proofs.Outcomes.{and_true}
use Rattle.just_modules.proofs.Contained.{any_at, any_of, mapped, mapped_from}

-- ---- options in a row of attributes

put_first : {Y : Type 0} (o : Option Y) (y : Y) (rest : List Y) → o ≡ Some y → Contains (cons_option o rest) y
put_first o y rest e = subst (λ p. Contains (cons_option p rest) y) (sym e) (contains_first y rest)

put_before : {Y : Type 0} (o : Option Y) (y : Y) (rest : List Y) → Contains rest y → Contains (cons_option o rest) y
put_before None y rest c = c
put_before (Some z) y rest c = contains_later z rest y c

module _ {X Y : Type 0} where
  given_there : (h : X → Option Y) (xs : List X) (x : X) (y : Y) → Contains xs x → h x ≡ Some y → Contains (filter_map h xs) y
  given_there h [] x y c e = absurd (contains_none [] x refl c)
  given_there h (z ∷ zs) x y c e = elim (contains_cases z zs x c) [
    | inl is ↦ put_first (h z) y (filter_map h zs) (ap h is ∙ e)
    | inr d ↦ put_before (h z) y (filter_map h zs) (given_there h zs x y d e)
  ]

  given_alike : (f g : X → Option Y) → ((x : X) → f x ≡ g x) → (xs : List X) → filter_map f xs ≡ filter_map g xs
  given_alike f g same [] = refl
  given_alike f g same (x ∷ xs) = ap (λ o. cons_option o (filter_map f xs)) (same x) ∙ ap (cons_option (g x)) (given_alike f g same xs)

options_alike : (a : AttributeShape) → options_in a ≡ seen_options (Some a)
options_alike (plain k) = refl
options_alike (with_options o) = refl
options_alike (with_prompt e) = refl
options_alike (with_pair k v) = refl
options_alike (with_string k t) = refl
options_alike (with_strings t ts) = refl
options_alike (with_interpreter i) = refl

same_options : (given : List AttributeShape) → filter_map options_in given ≡ options_among given
same_options given = given_alike options_in (λ a. seen_options (Some a)) options_alike given

written_has : (written : List AttributeShape) (a : AttributeShape) → Contains (in_order written) a → Contains written a
written_has written a c = All-contains (Contains written) (in_order written) a (all_sorted (Contains written) is_before written (All-contains_itself written)) c

all_of : {X : Type 0} (p : X → Bool) (xs : List X) (x : X) → list_all p xs ≡ true → Contains xs x → p x ≡ true
all_of p [] x e c = absurd (contains_none [] x refl c)
all_of p (y ∷ ys) x e c =
    let both = and_true (p y) (list_all p ys) e in
    elim (contains_cases y ys x c) [
      | inl is ↦ ap p (sym is) ∙ both.0
      | inr d ↦ all_of p ys x both.1 d
    ]

no_fault : {K : Type 0} (b : Bool) (k : K) (rest : Option K) → (if not b then Some k else rest) ≡ None → b ≡ true
no_fault true k rest e = refl
no_fault false k rest e = absurd (none-some k (sym e))

off_if : (b : Bool) → not b ≡ true → b ≡ false
off_if true e = absurd (false≢true e)
off_if false e = refl

module _ (x : Expansion) where
  -- where no two are for one parameter, the one for it is found
  found_only : (os : List OptionsShape) (o : OptionsShape) → are_distinct (map (for_name x) os) ≡ true → Contains os o → find (is_for x (for_name x o)) os ≡ Some o
  found_only [] o d c = absurd (contains_none [] o refl c)
  found_only (q ∷ qs) o d c =
      let both = and_true (not (is_among (map (for_name x) qs) (for_name x q))) (are_distinct (map (for_name x) qs)) d in
      let alone : is_among (map (for_name x) qs) (for_name x q) ≡ false = off_if (is_among (map (for_name x) qs) (for_name x q)) both.0 in
      elim (contains_cases q qs o c) [
        | inl is ↦ ap (λ b. cond b (Some q) (find (is_for x (for_name x o)) qs)) ((bytes_eq-Decides (for_name x q) (for_name x o)).1 (ap (for_name x) is)) ∙ ap (λ z. Some z) is
        | inr r ↦ by_test alone (found_only qs o both.1 r) r (is_for x (for_name x o) q) refl
      ]
    where
      by_test : is_among (map (for_name x) qs) (for_name x q) ≡ false → find (is_for x (for_name x o)) qs ≡ Some o → Contains qs o → (b : Bool) → is_for x (for_name x o) q ≡ b → find (is_for x (for_name x o)) (q ∷ qs) ≡ Some o
      by_test alone rest r true is = absurd (false≢true (sym alone ∙ any_at (bytes_eq (for_name x q)) (map (for_name x) qs) (for_name x o) (mapped (for_name x) qs o r) is))
      by_test alone rest r false is = ap (λ b. cond b (Some q) (find (is_for x (for_name x o)) qs)) is ∙ rest

  value_meant : (given : List AttributeShape) (name : List ℕ) → value_of x given name ≡ (meant_for x (options_among given) name).value
  value_meant given name = ap (λ os. (meant_for x os name).value) (same_options given)

  -- each `arg` gives its value to a parameter
  pub value_given : (written : List AttributeShape) (r : RecipeShape) → fault_of x r.name (options_among written) r.parameters ≡ None → (o : OptionsShape) → Contains (in_order written) (with_options o)
      → (p : ParameterShape) × Contains r.parameters p × (value_of x (in_order written) p.name ≡ o.value)
  value_given written r fits o c =
      let among : Contains (options_among written) o = given_there (λ a. seen_options (Some a)) written (with_options o) o (written_has written (with_options o) c) refl in
      let distinct = distinct_if_fits x r.name written r.parameters fits in
      let named = no_fault (name_parameters x (names_of r.parameters) (options_among written)) _ _ fits in
      let n = any_of (bytes_eq (for_name x o)) (names_of r.parameters) (all_of (λ q. is_among (names_of r.parameters) (for_name x q)) (options_among written) o named among) in
      let p = mapped_from (λ (q : ParameterShape). q.name) r.parameters n.0 n.1 in
      let name : p.0.name ≡ for_name x o = p.2 ∙ sym ((bytes_eq-Decides (for_name x o) n.0).0 n.2) in
      let found : find (is_for x (for_name x o)) (options_among (in_order written)) ≡ Some o = found_alike x (for_name x o) written distinct ∙ found_only (options_among written) o distinct among in
      (p.0, p.1, value_meant (in_order written) p.0.name ∙ ap (λ m. (meant_for x (options_among (in_order written)) m).value) name ∙ ap (λ f. (meant_or_none x f).value) found)

  -- the parameters of a tree have the values that are meant
  pub value_held : (given : List AttributeShape) (ps : List Parameter) → HaveOptions x (options_among given) ps → (p : Parameter) → Contains ps p → value_of x given (lexeme p.name.token) ≡ option_map shape_of p.value
  value_held given ps have p c =
      let has : given_options p ≡ meant_for x (options_among given) (lexeme p.name.token) = All-contains (HasOptions x (options_among given)) ps p have c in
      value_meant given (lexeme p.name.token) ∙ sym (ap (λ (o : ParameterOptions). o.value) has)
