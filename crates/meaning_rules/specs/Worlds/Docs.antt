-- What is said of a recipe: by its attribute, or by the comment directly above it.
use Rattle.std.specs.Prelude.{ℕ, zero, suc, List, [], ◌∷◌, Option, Some, None, codes, slice_get}
use Rattle.std.specs.Str.{trim}
use Rattle.tree_attributes.specs.Attributes.{AttributeShape, plain, with_string}
use Rattle.tree_attributes.specs.declared.attribute.AttributeKind.TheVariants.{Doc}
use Rattle.tree_expressions.specs.Cooking.{cooked}
use Rattle.tree_expressions.specs.Cutting.{without_front}
use Rattle.parse_expressions.specs.Literals.{Expansion, text_or_none}
use Rattle.tree_items.specs.Files.{ItemShape, comment_item}
use Rattle.meaning_rules.specs.Worlds.Given.{Text}

-- the text after a comment's `#`, without white space around it
abbrev pub comment_text : Text → Text
comment_text comment = trim (without_front (codes "#") comment)

abbrev pub comment_of : Option ItemShape → Option Text
comment_of (Some (comment_item text)) = Some (comment_text text)
comment_of other = None

-- the comment directly above the item at a place among a file's items, in which blank lines stand too
abbrev pub comment_above : List ItemShape → ℕ → Option Text
comment_above items zero = None
comment_above items (suc place) = comment_of (slice_get items place)

-- what an attribute `doc` says: its text, or that nothing is said
abbrev pub doc_by : Expansion → AttributeShape → Option (Option Text)
doc_by expansion (plain Doc) = Some None
doc_by expansion (with_string Doc written) = Some (Some (text_or_none (cooked expansion written)))
doc_by expansion other = None

abbrev pub or_comment : Option (Option Text) → Option Text → Option Text
or_comment (Some said) comment = said
or_comment None comment = comment

-- the first attribute `doc`, if there is one
abbrev pub doc_in : Expansion → List AttributeShape → Option (Option Text)
doc_in expansion [] = None
doc_in expansion (attribute ∷ attributes) = first (doc_by expansion attribute) (doc_in expansion attributes)
  where
    first : Option (Option Text) → Option (Option Text) → Option (Option Text)
    first (Some said) more = Some said
    first None more = more

-- what is said of a recipe with these attributes at a place among a file's items
abbrev pub doc_at : Expansion → List ItemShape → ℕ → List AttributeShape → Option Text
doc_at expansion items place attributes = or_comment (doc_in expansion attributes) (comment_above items place)
