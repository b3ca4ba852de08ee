-- One attribute more, and its options if it is an `arg`.
use Rattle.std.proofs.Common.{◌≡◌, List, [], ◌∷◌, ◌++◌, map, Option, Some, None, refl, sym, ap, ◌∙◌, append_assoc, append-nil}
use Rattle.std.specs.Prelude.{IfSome}
use Rattle.std.specs.List.{All, cons_option}
use Rattle.std.specs.Option.{option_map}
use Rattle.std.proofs.lemmas.List.{map-append}
use Rattle.std.proofs.lemmas.List.Elements.{All-append, All-map, filter_map-append}
use Rattle.just_text.specs.declared.name.Name.{Name}
use Rattle.just_text.specs.Tokens.{lexeme}
use Rattle.tree_attributes.specs.declared.attribute.Attribute.{Attribute}
use Rattle.tree_attributes.specs.Attributes.{AttributeShape, attribute_shape, options_shape}
use Rattle.tree_attributes.specs.declared.attribute_item.AttributeItem.{AttributeItem}
use Rattle.tree_attributes.specs.Sets.Order.{item_shape, name_text}
use Rattle.parse_expressions.specs.Literals.{Origin}
use Rattle.parse_attributes.specs.declared.attribute.AttributeRead.{AttributeRead}
use Rattle.parse_attributes.specs.Cooked.{AreCookedOptions, IsCookedAttribute}
use Rattle.parse_attributes.specs.Seen.{IsWholeRead, options_in, read_shapes}
use Rattle.parse_attributes.proofs.Follow.{all_none, all_one}
use Rattle.parse_attributed_items.specs.declared.split.KnownAttributes.{KnownAttributes}
use Rattle.parse_attributed_items.specs.Fitting.{known, options_among}
use Rattle.parse_attributed_items.specs.Seen.{AreWholeKnown, attribute_in, with_name}
use Rattle.parse_attributed_items.proofs.GivenOptions.{unmapped}
use Rattle.parse_attributed_items.proofs.Ordered.{seen_given}

-- what an attribute says, wherever its name is written
abbrev shape_in : Attribute × Name → AttributeShape
shape_in a = attribute_shape a.0

abbrev shapes_of : List (Attribute × Name) → List AttributeShape
shapes_of = map shape_in

-- an attribute holds what its strings stand for, and has the name
abbrev IsWholeWith : Origin → Attribute × Name → Type 0
IsWholeWith origin a = IsCookedAttribute origin a.0 × (lexeme a.1.token ≡ name_text (attribute_shape a.0))

shapes_with : (xs : List (Attribute × Name)) (name : Name) (a : Option Attribute) (rest : List AttributeShape) → shapes_of (xs ++ cons_option (with_name name a) []) ++ rest ≡ shapes_of xs ++ cons_option (option_map attribute_shape a) rest
shapes_with xs name None rest = rw append-nil refl
shapes_with xs name (Some a) rest = simp (map-append, append_assoc)

-- what items say is what their attributes say
said : (items : List AttributeItem) → map item_shape items ≡ shapes_of (map attribute_in items)
said [] = refl
said (i ∷ is) = ap (λ shapes. item_shape i ∷ shapes) (said is)

all_given : {X : Type 0} (P : X → Type 0) (o : Option X) → IfSome o P → All P (cons_option o [])
all_given P None h = all_none P [] refl
all_given P (Some x) h = all_one P x h

-- an attribute that has the name is whole with it
whole_given : (origin : Origin) (name : Name) (a : Option Attribute) → IfSome a (IsCookedAttribute origin) → IfSome a (λ a. lexeme name.token ≡ name_text (attribute_shape a)) → IfSome (with_name name a) (IsWholeWith origin)
whole_given origin name None h n = tt
whole_given origin name (Some a) h n = (h, n)

options_given : (name : Name) (a : Option Attribute) → options_among (shapes_of (cons_option (with_name name a) [])) ≡ cons_option (options_in (option_map attribute_shape a)) []
options_given name None = refl
options_given name (Some a) = refl

module _ (old new : KnownAttributes) (r : AttributeRead) (attributes : map attribute_in new.items.items ≡ map attribute_in old.items.items ++ cons_option (with_name r.name r.attribute) [])
    (options : new.options.items ≡ old.options.items ++ cons_option r.options []) where
  pub more_shapes : (rs : List AttributeRead) (all : List AttributeShape) → map item_shape old.items.items ++ known (read_shapes (r ∷ rs)) ≡ all → map item_shape new.items.items ++ known (read_shapes rs) ≡ all
  more_shapes rs all h = rw (said new.items.items, attributes) (shapes_with (map attribute_in old.items.items) r.name r.attribute (known (read_shapes rs)) ∙ rw (said old.items.items) at h)

  pub more_whole : (origin : Origin) → AreWholeKnown origin old → IsWholeRead origin r → AreWholeKnown origin new
  more_whole origin these this =
      let given : map options_shape (cons_option r.options []) ≡ options_among (shapes_of (cons_option (with_name r.name r.attribute) [])) =
      seen_given options_shape r.options ∙ ap (λ o. cons_option o []) this.again ∙ sym (options_given r.name r.attribute) in
      let before : map options_shape old.options.items ≡ options_among (shapes_of (map attribute_in old.items.items)) = rw (said old.items.items) at these.again in
      let cooked : All (IsWholeWith origin) (map attribute_in new.items.items) =
      rw attributes (All-append (IsWholeWith origin) (map attribute_in old.items.items) (cons_option (with_name r.name r.attribute) []) (All-map (IsWholeWith origin) attribute_in old.items.items these.cooked)
      (all_given (IsWholeWith origin) (with_name r.name r.attribute) (whole_given origin r.name r.attribute this.cooked this.named))) in
      record {
        again = rw (said new.items.items, attributes, options) (simp (map-append, filter_map-append, before, given));
        cooked = unmapped (IsWholeWith origin) attribute_in new.items.items cooked;
        cooked_options = rw options (All-append (AreCookedOptions origin) old.options.items (cons_option r.options []) these.cooked_options (all_given _ r.options this.cooked_options));
      }
