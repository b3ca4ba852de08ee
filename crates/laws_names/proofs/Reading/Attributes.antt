-- The attributes of a recipe hold what their strings stand for where its variables get their numbers.
use Rattle.std.proofs.Common.{◌≡◌, ◌∙◌, ℕ, List, [], ◌∷◌, ◌++◌, map, Ok, Some, None, refl, sym, ap, ap₂, subst, All}
use Rattle.std.proofs.lemmas.List.Elements.{All-cons, All-head, All-nil, All-tail}
use Rattle.just_text.specs.Tokens.{lexeme}
use Rattle.tree_expressions.specs.Cooking.{cooked}
use Rattle.tree_expressions.specs.Shape.{written}
use Rattle.tree_expressions.specs.declared.expression.Expression.{Expression}
use Rattle.tree_expressions.specs.declared.string_literal.StringLiteral.{StringLiteral}
use Rattle.tree_attributes.specs.Attributes.{AttributeShape, attribute_shape, with_string, with_strings}
use Rattle.tree_attributes.specs.declared.attribute.Attribute.{Attribute}
use Rattle.tree_attributes.specs.declared.attribute.Attribute.TheVariants.{Confirm, Doc, Env, Extension, Group, Metadata, Script, WorkingDirectory}
use Rattle.tree_attributes.specs.Sets.Numbering.{texts_of}
use Rattle.tree_attributes.specs.Sets.Order.{item_shape, name_text}
use Rattle.tree_attributes.specs.Sets.Sets.{items_of}
use Rattle.tree_attributes.specs.declared.attribute_item.AttributeItem.{AttributeItem}
use Rattle.tree_items.specs.Contexts.{parameter_number}
use Rattle.tree_items.specs.declared.ast.Item.{Item}
use Rattle.tree_items.specs.declared.ast.Item.TheVariants.{Alias, Assignment, Comment, Function, Import, Module, Newline, Recipe, Set, Unexport}
use Rattle.parse_expressions.specs.Literals.{AreCooked, IsCooked, Origin}
use Rattle.parse_expressions.specs.Strings.{IsCookedString}
use Rattle.parse_attributes.specs.Cooked.{IsCookedAttribute}
use Rattle.parse_attributed_items.specs.Held.{AreAttributesCooked, IsItemCooked, IsWholeAttribute}
use Rattle.resolve_references.specs.Numbered.{IsNumberedItem, seen_attribute, seen_attributes}
use Rattle.resolve_references.specs.Seen.{Seen, seeing, seen_in_attribute, seen_in_attributes, seen_in_body, seen_in_dependencies, seen_in_parameters}
use Rattle.laws_names.specs.Reading.Meant.{AreSeenCooked, HasKnownAttributes, HasOwnText, HasTexts, IsKnownAttribute}
use Rattle.laws_names.proofs.Reading.Cooked.{same_parts}

-- the strings of an attribute as they are written, but those of an `arg`
abbrev strings_in : AttributeShape → List (List ℕ)
strings_in (with_string kind text) = text ∷ []
strings_in (with_strings text texts) = text ∷ texts
strings_in other = []

module _ (origin : Origin) where
  -- the strings stand for these texts
  abbrev StandFor : AttributeShape → List (List ℕ) → Type 0
  StandFor shape texts = map (cooked origin.expansion) (strings_in shape) ≡ map (λ text. Ok text) texts

  -- what is seen is cooked
  abbrev IsSeenCooked : Seen → Type 0
  IsSeenCooked s = IsCooked origin s.expression

  -- ---- the first part of what is seen, and the second

  front : (xs ys : List Seen) → All IsSeenCooked (xs ++ ys) → All IsSeenCooked xs
  front [] ys all = All-nil IsSeenCooked
  front (x ∷ xs) ys all = All-cons IsSeenCooked x xs (All-head IsSeenCooked x (xs ++ ys) all) (front xs ys (All-tail IsSeenCooked x (xs ++ ys) all))

  back : (xs ys : List Seen) → All IsSeenCooked (xs ++ ys) → All IsSeenCooked ys
  back [] ys all = all
  back (x ∷ xs) ys all = back xs ys (All-tail IsSeenCooked x (xs ++ ys) all)

  -- ---- an attribute

  row_stands : (ss : List StringLiteral) → All (IsCookedString origin.expansion) ss → map (cooked origin.expansion) (map written ss) ≡ map (λ text. Ok text) (map (λ (s : StringLiteral). s.cooked) ss)
  row_stands [] all = refl
  row_stands (s ∷ ss) all = ap₂ ◌∷◌ (All-head (IsCookedString origin.expansion) s ss all).text (row_stands ss (All-tail (IsCookedString origin.expansion) s ss all))

  -- where an attribute is cooked, its strings stand for the texts that it holds
  stands : (a : Attribute) → IsCookedAttribute origin a → StandFor (attribute_shape a) (texts_of a)
  stands (Confirm None) h = refl
  stands (Confirm (Some e)) h = refl
  stands (Doc None) h = refl
  stands (Doc (Some s)) h = ap (λ text. text ∷ []) h.text
  stands (Extension s) h = ap (λ text. text ∷ []) h.text
  stands (Group s) h = ap (λ text. text ∷ []) h.text
  stands (Metadata s others) h = ap₂ ◌∷◌ h.0.text (row_stands others.items h.1)
  stands (Script None) h = refl
  stands (Script (Some i)) h = refl
  stands (WorkingDirectory s) h = ap (λ text. text ∷ []) h.text
  stands other h = refl

  row_holds : (ss : List StringLiteral) → map (cooked origin.expansion) (map written ss) ≡ map (λ text. Ok text) (map (λ (s : StringLiteral). s.cooked) ss) → All (HasOwnText origin.expansion) ss
  row_holds [] e = All-nil (HasOwnText origin.expansion)
  row_holds (s ∷ ss) e = All-cons (HasOwnText origin.expansion) s ss (cc e) (row_holds ss (cc e))

  row_cooked : (seen : List (List ℕ × ℕ)) (es : List Expression) → All IsSeenCooked (map (seeing seen) es) → AreCooked origin es
  row_cooked seen [] all = refl
  row_cooked seen (e ∷ es) all = ap₂ ◌++◌ (All-head IsSeenCooked (seeing seen e) (map (seeing seen) es) all) (row_cooked seen es (All-tail IsSeenCooked (seeing seen e) (map (seeing seen) es) all))

  -- where its strings stand for what it holds, and its expressions are cooked, it holds what its strings stand for
  has_texts : (seen : List (List ℕ × ℕ)) (a : Attribute) → StandFor (attribute_shape a) (texts_of a) → All IsSeenCooked (seen_in_attribute seen a) → HasTexts origin a
  has_texts seen (Confirm (Some e)) s all = All-head IsSeenCooked (seeing seen e) [] all
  has_texts seen (Doc (Some text)) s all = cc s
  has_texts seen (Env key value) s all =
      (All-head IsSeenCooked (seeing [] key) (seeing [] value.value ∷ []) all, All-head IsSeenCooked (seeing [] value.value) [] (All-tail IsSeenCooked (seeing [] key) (seeing [] value.value ∷ []) all))
  has_texts seen (Extension text) s all = cc s
  has_texts seen (Group text) s all = cc s
  has_texts seen (Metadata text others) s all = (cc s, row_holds others.items (cc s))
  has_texts seen (Script (Some i)) s all =
      let arguments = i.value.arguments.items in
      record {
        command = All-head IsSeenCooked (seeing seen i.value.command) (map (seeing seen) arguments) all;
        arguments = row_cooked seen arguments (All-tail IsSeenCooked (seeing seen i.value.command) (map (seeing seen) arguments) all);
      }
  has_texts seen (WorkingDirectory text) s all = cc s
  has_texts seen other s all = tt

  -- ---- the attributes of a recipe

  -- attributes that are written as cooked ones, with the same texts, and whose expressions are cooked
  are_known : (seen : List (List ℕ × ℕ)) (old new : List AttributeItem) → seen_attributes new ≡ seen_attributes old → AreAttributesCooked origin old → All IsSeenCooked (seen_in_attributes seen new) → All (IsKnownAttribute origin) new
  are_known seen [] [] e h all = All-nil (IsKnownAttribute origin)
  are_known seen [] (y ∷ ys) e h all = absurd (cc e)
  are_known seen (x ∷ xs) [] e h all = absurd (cc e)
  are_known seen (x ∷ xs) (y ∷ ys) e h all =
      let parts = same_parts (seen_attribute y) (seen_attribute x) (seen_attributes ys) (seen_attributes xs) e in
      let name : y.name ≡ x.name = ap (λ a. a.0) parts.0 in
      let shape : item_shape y ≡ item_shape x = ap (λ a. a.1) parts.0 in
      let texts : texts_of y.attribute ≡ texts_of x.attribute = ap (λ a. a.2) parts.0 in
      let whole = All-head (IsWholeAttribute origin) x xs h in
      let stand : StandFor (item_shape y) (texts_of y.attribute) = ap (λ s. map (cooked origin.expansion) (strings_in s)) shape ∙ stands x.attribute whole.0 ∙ ap (map (λ text. Ok text)) (sym texts) in
      let named : lexeme y.name.token ≡ name_text (item_shape y) = ap (λ n. lexeme n.token) name ∙ whole.1 ∙ ap name_text (sym shape) in
      let first = seen_in_attribute seen y.attribute in
      let others = seen_in_attributes seen ys in
      All-cons (IsKnownAttribute origin) y ys (has_texts seen y.attribute stand (front first others all), named)
      (are_known seen xs ys parts.1 (All-tail (IsWholeAttribute origin) x xs h) (back first others all))

  -- where an item was cooked, and its expressions still are, its attributes are known
  pub attributes_known : (before after : Item) → IsNumberedItem before after → IsItemCooked origin before → AreSeenCooked origin after → HasKnownAttributes origin after
  attributes_known (Alias a) after is h all = subst (HasKnownAttributes origin) (sym is) tt
  attributes_known (Assignment a) after is h all = subst (HasKnownAttributes origin) (sym is.1) tt
  attributes_known (Comment c) after is h all = subst (HasKnownAttributes origin) (sym is) tt
  attributes_known (Function f) after is h all = subst (HasKnownAttributes origin) (sym is.1) tt
  attributes_known (Import i) after is h all = subst (HasKnownAttributes origin) (sym is) tt
  attributes_known (Module m) after is h all = subst (HasKnownAttributes origin) (sym is) tt
  attributes_known Newline after is h all = subst (HasKnownAttributes origin) (sym is) tt
  attributes_known (Recipe r) after is h all =
      let seen = map parameter_number is.0.parameters.items in
      let these : AreSeenCooked origin (Recipe is.0) = subst (AreSeenCooked origin) is.1 all in
      let attributed = seen_in_attributes seen (items_of is.0.attributes) in
      let parameters = seen_in_parameters [] is.0.parameters.items in
      let priors = seen_in_dependencies seen is.0.priors.items in
      let subsequents = seen_in_dependencies seen is.0.subsequents.items in
      let body = seen_in_body seen is.0.body.items in
      let first : All IsSeenCooked attributed =
      front attributed parameters (front (attributed ++ parameters) priors (front (attributed ++ parameters ++ priors) subsequents (front (attributed ++ parameters ++ priors ++ subsequents) body these))) in
      subst (HasKnownAttributes origin) (sym is.1) (are_known seen (items_of r.attributes) (items_of is.0.attributes) is.2.attributes h.attributes first)
  attributes_known (Set s) after is h all = subst (HasKnownAttributes origin) (sym is.1) tt
  attributes_known (Unexport u) after is h all = subst (HasKnownAttributes origin) (sym is) tt
