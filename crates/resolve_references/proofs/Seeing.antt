-- Expressions that have the numbers of what they see, in rows.
use Rattle.std.proofs.Common.{◌≡◌, ◌∙◌, ◌≢◌, ◌⊎◌, inl, inr, true, false, eqb, ℕ, suc, ◌+◌, ◌<◌, List, [], ◌∷◌, length, map, get_or, set, Option, Some, None, refl, subst, sym, ap, ap₂, arith}
use Rattle.std.specs.List.{All, flat_map}
use Rattle.std.specs.Option.{option_or}
use Rattle.std.proofs.lemmas.List.{get_or-set_same, get_or-set_other}
use Rattle.std.proofs.lemmas.List.Concat.{flat_map_single}
use Rattle.std.proofs.lemmas.List.Elements.{All-append, All-nil, All-cons, All-weaker}
use Rattle.std.proofs.lemmas.Option.{slice_get-get_or}
use Rattle.std.proofs.lemmas.Bool.Decides.{eqb_tells}
use Rattle.tree_expressions.specs.declared.expression.Expression.{Expression}
use Rattle.tree_expressions.specs.Numbering.{IsNumbered, numbers_of, variables_of}
use Rattle.tree_expressions.specs.Shape.{shape_of}
use Rattle.tree_attributes.specs.declared.attribute_item.AttributeItem.{AttributeItem}
use Rattle.tree_attributes.specs.declared.attribute.Attribute.{Attribute}
use Rattle.tree_attributes.specs.declared.attribute.Attribute.TheVariants.{Android, Arg, Cache, Confirm, Default, Doc, Dragonfly, Env, ExitMessage, Extension, Freebsd, Group, Linux, Macos, Metadata, Netbsd, NoCd, NoExitMessage, NoQuiet, Openbsd, Parallel, PositionalArguments, Private, Script, Unix, Windows, WorkingDirectory}
use Rattle.tree_attributes.specs.Sets.Numbering.{AreNumberedItems, IsNumberedAttribute, expressions_of, key_of, value_of}
use Rattle.tree_items.specs.Contexts.{last_named, number_in}
use Rattle.tree_items.specs.declared.ast.Item.{Item}
use Rattle.tree_items.specs.Resolving.{number_for}
use Rattle.tree_items.specs.declared.variables.context.ExpressionContext.{ExpressionContext}
use Rattle.resolve_references.specs.Seen.{AreNumberedBy, HasNumbers, HaveNumbers, Seen, StandsFor, seeing, seen_in, seen_in_attribute, seen_in_attributes}
use Rattle.resolve_references.proofs.Variables.{same_variables}

-- two functions that agree make the same list
pub map_agrees : {A B : Type 0} (f g : A → B) → ((x : A) → f x ≡ g x) → (xs : List A) → map f xs ≡ map g xs
map_agrees f g same [] = refl
map_agrees f g same (x ∷ xs) = ap₂ ◌∷◌ (same x) (map_agrees f g same xs)

module _ (context bindings : ExpressionContext) where
  -- an expression that is numbered has the numbers of what it sees
  pub has_numbers : (old new : Expression) → shape_of new ≡ shape_of old → numbers_of new ≡ map (number_for context bindings) (variables_of old)
      → (names : List (List ℕ × ℕ)) → StandsFor context names → HasNumbers (number_in bindings) (seeing names new)
  has_numbers old new shape numbers names stands =
      numbers
      ∙ ap (map (number_for context bindings)) (sym (same_variables old new shape))
      ∙ map_agrees (number_for context bindings) (λ name. option_or (last_named name names) (number_in bindings name)) (λ name. ap (λ o. option_or o (number_in bindings name)) (stands name)) (variables_of new)

  -- the same by the relation that numbering gives
  pub expression_numbered : (old new : Expression) → IsNumbered (number_for context bindings) old new → AreNumberedBy context bindings (λ names. seeing names new ∷ [])
  expression_numbered old new is names stands = All-cons (HasNumbers (number_in bindings)) _ [] (has_numbers old new is.shape is.numbers names stands) (All-nil (HasNumbers (number_in bindings)))

  -- the same of a row
  row_numbered : (old new : List Expression) → map shape_of new ≡ map shape_of old → map numbers_of new ≡ map (λ e. map (number_for context bindings) (variables_of e)) old
      → AreNumberedBy context bindings (λ names. map (seeing names) new)
  row_numbered [] [] shapes numbers names stands = All-nil (HasNumbers (number_in bindings))
  row_numbered (x ∷ xs) [] shapes numbers names stands = All-nil (HasNumbers (number_in bindings))
  row_numbered [] (y ∷ ys) shapes numbers names stands = absurd (cc shapes)
  row_numbered (x ∷ xs) (y ∷ ys) shapes numbers names stands =
      let shape : shape_of y ≡ shape_of x = cc shapes in
      let number : numbers_of y ≡ map (number_for context bindings) (variables_of x) = cc numbers in
      let other_shapes : map shape_of ys ≡ map shape_of xs = cc shapes in
      let other_numbers : map numbers_of ys ≡ map (λ e. map (number_for context bindings) (variables_of e)) xs = cc numbers in
      All-cons (HasNumbers (number_in bindings)) _ (map (seeing names) ys) (has_numbers x y shape number names stands) (row_numbered xs ys other_shapes other_numbers names stands)

  -- ---- rows of things that hold expressions

  -- what the first elements see has its numbers
  abbrev pub EachIsNumbered : {A : Type 0} → (List (List ℕ × ℕ) → A → List Seen) → List A → ℕ → Type 0
  EachIsNumbered {A} seen xs count = (k : ℕ) (d : A) → k < count → AreNumberedBy context bindings (λ names. seen names (get_or xs k d))

  -- one element more
  pub each_more : {A : Type 0} (seen : List (List ℕ × ℕ) → A → List Seen) (xs : List A) (i : ℕ) (y : A) → i < length xs → EachIsNumbered seen xs i
      → AreNumberedBy context bindings (λ names. seen names y) → EachIsNumbered seen (set xs i y) (i + 1)
  each_more {A} seen xs i y within each one k d lt = by_place (eqb_tells k i)
    where
      by_place : ((eqb k i ≡ true) × (k ≡ i)) ⊎ ((eqb k i ≡ false) × (k ≢ i)) → AreNumberedBy context bindings (λ names. seen names (get_or (set xs i y) k d))
      by_place (inl e) = subst (λ x. AreNumberedBy context bindings (λ names. seen names x)) (sym (ap (λ n. get_or (set xs i y) n d) e.1 ∙ get_or-set_same xs i y d within)) one
      by_place (inr e) = let other = e.1 in subst (λ x. AreNumberedBy context bindings (λ names. seen names x)) (sym (get_or-set_other xs i k y d other)) (each k d (omega (arith, lt, other)))

  -- where all elements are numbered, so is what they see together
  pub each_whole : {A : Type 0} (seen : List (List ℕ × ℕ) → A → List Seen) (xs : List A) → EachIsNumbered seen xs (length xs) → AreNumberedBy context bindings (λ names. flat_map (seen names) xs)
  each_whole seen [] each names stands = All-nil (HasNumbers (number_in bindings))
  each_whole seen (x ∷ xs) each names stands =
      All-append (HasNumbers (number_in bindings)) (seen names x) (flat_map (seen names) xs)
      (each 0 x (omega arith) names stands)
      (each_whole seen xs (λ k d lt. each (suc k) d (omega (arith, lt))) names stands)

  -- where each element sees through one expression
  pub each_single : {A : Type 0} (seen : List (List ℕ × ℕ) → A → Seen) (xs : List A) → EachIsNumbered (λ names x. seen names x ∷ []) xs (length xs) → AreNumberedBy context bindings (λ names. map (seen names) xs)
  each_single seen xs each names stands = subst (All (HasNumbers (number_in bindings))) (flat_map_single (seen names) xs) (each_whole (λ names x. seen names x ∷ []) xs each names stands)
  -- ---- attributes

module _ (context bindings none : ExpressionContext) (empty : (name : List ℕ) → number_in none name ≡ None) where
  abbrev Good : List Seen → Type 0
  Good = All (HasNumbers (number_in bindings))

  -- an attribute that is numbered, of which an `env` sees no name
  attribute_numbered : (old new : Attribute) → IsNumberedAttribute (number_for context bindings) (number_for none bindings) old new → AreNumberedBy context bindings (λ names. seen_in_attribute names new)
  attribute_numbered old new is names stands =
      by_attribute new
      (row_numbered context bindings (expressions_of old) (expressions_of new) is.expressions.shapes is.expressions.numbers names stands)
      (row_numbered none bindings (key_of old) (key_of new) is.key.shapes is.key.numbers [] empty)
      (row_numbered none bindings (value_of old) (value_of new) is.value.shapes is.value.numbers [] empty)
    where
      nothing : Good []
      nothing = All-nil (HasNumbers (number_in bindings))

      by_attribute : (a : Attribute) → Good (map (seeing names) (expressions_of a)) → Good (map (seeing []) (key_of a)) → Good (map (seeing []) (value_of a)) → Good (seen_in_attribute names a)
      by_attribute Android es k v = nothing
      by_attribute Cache es k v = nothing
      by_attribute Default es k v = nothing
      by_attribute Dragonfly es k v = nothing
      by_attribute ExitMessage es k v = nothing
      by_attribute Freebsd es k v = nothing
      by_attribute Linux es k v = nothing
      by_attribute Macos es k v = nothing
      by_attribute Netbsd es k v = nothing
      by_attribute NoCd es k v = nothing
      by_attribute NoExitMessage es k v = nothing
      by_attribute NoQuiet es k v = nothing
      by_attribute Openbsd es k v = nothing
      by_attribute Parallel es k v = nothing
      by_attribute PositionalArguments es k v = nothing
      by_attribute Private es k v = nothing
      by_attribute Unix es k v = nothing
      by_attribute Windows es k v = nothing
      by_attribute (Arg options) es k v = nothing
      by_attribute (Doc text) es k v = nothing
      by_attribute (Extension text) es k v = nothing
      by_attribute (Group text) es k v = nothing
      by_attribute (Metadata a b) es k v = nothing
      by_attribute (WorkingDirectory text) es k v = nothing
      by_attribute (Script None) es k v = nothing
      by_attribute (Confirm None) es k v = nothing
      by_attribute (Confirm (Some e)) es k v = es
      by_attribute (Env a b) es k v = All-append (HasNumbers (number_in bindings)) (seeing [] a ∷ []) (seeing [] b.value ∷ []) k v
      by_attribute (Script (Some i)) es k v = es

  abbrev seen_in_item : List (List ℕ × ℕ) → AttributeItem → List Seen
  seen_in_item names item = seen_in_attribute names item.attribute

  -- the same of a row of attributes
  pub attributes_numbered : (old new : List AttributeItem) → AreNumberedItems (number_for context bindings) (number_for none bindings) old new → AreNumberedBy context bindings (λ names. seen_in_attributes names new)
  attributes_numbered old new are = each_whole context bindings seen_in_item new each
    where
      each : EachIsNumbered context bindings seen_in_item new (length new)
      each k d lt =
          let many = are.many in
          attribute_numbered (get_or old k d).attribute (get_or new k d).attribute (are.each k (get_or old k d) (get_or new k d) (slice_get-get_or old k d (omega (arith, lt, many))) (slice_get-get_or new k d lt)).attribute

-- where two functions agree on all names, variables have the numbers of both
pub have_agree : (f g : List ℕ → Option ℕ) → ((name : List ℕ) → f name ≡ g name) → (item : Item) → HaveNumbers f item → HaveNumbers g item
have_agree f g agree item = All-weaker (HasNumbers f) (HasNumbers g)
    (λ s h. h ∙ map_agrees (λ name. option_or (last_named name s.parameters) (f name)) (λ name. option_or (last_named name s.parameters) (g name)) (λ name. ap (option_or (last_named name s.parameters)) (agree name)) (variables_of s.expression))
    (seen_in item)
