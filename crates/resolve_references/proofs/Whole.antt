-- Recipes of which all parts have their numbers.
use Rattle.std.proofs.Common.{◌≡◌, ◌∙◌, ℕ, suc, List, [], ◌∷◌, map, Option, refl, sym, ap, ap₂, subst, arith}
use Rattle.std.specs.Global.{Vec}
use Rattle.std.specs.List.{All}
use Rattle.std.proofs.lemmas.List.Elements.{All-append}
use Rattle.std.proofs.lemmas.Simd.{map-map}
use Rattle.just_text.specs.declared.name.Name.{Name}
use Rattle.tree_attributes.specs.Attributes.{AttributeShape}
use Rattle.tree_attributes.specs.declared.attribute_item.AttributeItem.{AttributeItem}
use Rattle.tree_attributes.specs.Sets.Numbering.{AreNumberedItems}
use Rattle.tree_attributes.specs.Sets.Order.{item_shape}
use Rattle.tree_attributes.specs.Sets.Sets.{items_of, written_item}
use Rattle.tree_items.specs.Contexts.{number_in, parameter_number}
use Rattle.tree_items.specs.declared.recipe.Parameter.{Parameter}
use Rattle.tree_items.specs.declared.recipe.Recipe.{Recipe}
use Rattle.tree_items.specs.declared.recipe.UnresolvedDependency.{UnresolvedDependency}
use Rattle.tree_items.specs.declared.variables.context.ExpressionContext.{ExpressionContext}
use Rattle.resolve_references.specs.Numbered.{seen_attributes}
use Rattle.resolve_references.specs.Seen.{AreNumberedBy, HasNumbers, StandsFor, seen_in_attributes, seen_in_body, seen_in_dependencies, seen_in_parameters, seen_in_recipe}

-- what an attribute says where it is written
abbrev said : Name × AttributeShape → AttributeShape
said written = written.1

-- attributes that are written as others say the same
pub shapes_from_written : (old new : List AttributeItem) → map written_item new ≡ map written_item old → map item_shape new ≡ map item_shape old
shapes_from_written old new same = sym (map-map said written_item new) ∙ ap (map said) same ∙ map-map said written_item old

-- an attribute where it is written, with texts
abbrev with_texts : Name × AttributeShape → List (List ℕ) → Name × AttributeShape × List (List ℕ)
with_texts written texts = (written.0, written.1, texts)

-- attributes that are numbered are written as before, and hold the texts that they held
pub attributes_seen : (number environment : List ℕ → Option ℕ) (old new : List AttributeItem) → AreNumberedItems number environment old new → seen_attributes new ≡ seen_attributes old
attributes_seen number environment [] [] are = refl
attributes_seen number environment [] (y ∷ ys) are = let many = are.many in absurd (omega (arith, many))
attributes_seen number environment (x ∷ xs) [] are = let many = are.many in absurd (omega (arith, many))
attributes_seen number environment (x ∷ xs) (y ∷ ys) are =
    let many = are.many in
    let is = are.each 0 x y refl refl in
    ap₂ ◌∷◌ (ap₂ with_texts is.written is.attribute.texts) (attributes_seen number environment xs ys (record { many = omega (arith, many); each = λ k. are.each (suc k) }))

-- where the context stands for the parameters, and these and the other parts have their numbers, all have
pub recipe_numbered : (context bindings : ExpressionContext) (r : Recipe UnresolvedDependency) (parameters : Vec Parameter) → r.parameters ≡ parameters
    → StandsFor context (map parameter_number parameters.items)
    → All (HasNumbers (number_in bindings)) (seen_in_parameters [] parameters.items)
    → AreNumberedBy context bindings (λ seen. seen_in_attributes seen (items_of r.attributes))
    → AreNumberedBy context bindings (λ seen. seen_in_dependencies seen r.priors.items)
    → AreNumberedBy context bindings (λ seen. seen_in_dependencies seen r.subsequents.items)
    → AreNumberedBy context bindings (λ seen. seen_in_body seen r.body.items)
    → All (HasNumbers (number_in bindings)) (seen_in_recipe r)
recipe_numbered context bindings r parameters kept stands numbers front priors subsequents body =
    let all = map parameter_number r.parameters.items in
    let here : StandsFor context (map parameter_number r.parameters.items) = subst (λ v. StandsFor context (map parameter_number v.items)) (sym kept) stands in
    let inside : All (HasNumbers (number_in bindings)) (seen_in_parameters [] r.parameters.items) = subst (λ v. All (HasNumbers (number_in bindings)) (seen_in_parameters [] v.items)) (sym kept) numbers in
    All-append (HasNumbers (number_in bindings)) _ (seen_in_body all r.body.items)
    (All-append (HasNumbers (number_in bindings)) _ (seen_in_dependencies all r.subsequents.items)
    (All-append (HasNumbers (number_in bindings)) _ (seen_in_dependencies all r.priors.items)
    (All-append (HasNumbers (number_in bindings)) (seen_in_attributes all (items_of r.attributes)) (seen_in_parameters [] r.parameters.items) (front all here) inside)
    (priors all here))
    (subsequents all here))
    (body all here)
