-- What is said of a recipe, and whether an item is private: by attributes as they are held, and by what they say.
use Rattle.std.proofs.Common.{◌≡◌, ◌∙◌, ◌==◌, ◌&&◌, ◌||◌, ap, sym, refl, inl, inr, ◌-◌, ℕ, zero, suc, Bool, true, false, cond, if◌then◌else◌, List, [], ◌∷◌, map, Option, Some, None, codes, arith}
use Rattle.std.specs.Prelude.{Contains, find, option_map, slice_get, slice_index}
use Rattle.std.specs.List.{All}
use Rattle.std.proofs.lemmas.Bool.Decides.{eqb_tells}
use Rattle.std.proofs.lemmas.List.Elements.{All-contains}
use Rattle.tree_expressions.specs.Cutting.{begins}
use Rattle.tree_attributes.specs.Attributes.{attribute_shape}
use Rattle.tree_attributes.specs.declared.attribute.Attribute.{Attribute}
use Rattle.tree_attributes.specs.declared.attribute.Attribute.TheVariants.{Android, Arg, Cache, Confirm, Default, Doc, Dragonfly, Env, ExitMessage, Extension, Freebsd, Group, Linux, Macos, Metadata, Netbsd, NoCd, NoExitMessage, NoQuiet, Openbsd, Parallel, PositionalArguments, Private, Script, Unix, Windows, WorkingDirectory}
use Rattle.tree_attributes.specs.declared.attribute.AttributeKind.TheVariants.{Doc as DocKind, Private as PrivateKind}
use Rattle.tree_attributes.specs.declared.attribute_item.AttributeItem.{AttributeItem}
use Rattle.tree_attributes.specs.Sets.Order.{item_shape as shape_held}
use Rattle.tree_attributes.specs.Sets.Sets.{has_kind, is_of, is_private as private_by}
use Rattle.tree_items.specs.declared.ast.Item.{Item}
use Rattle.tree_items.specs.declared.ast.Item.TheVariants as items
use Rattle.tree_items.specs.Files.{item_shape, item_shapes}
use Rattle.parse_expressions.specs.Literals.{Expansion, text_or_none}
use Rattle.meaning_rules.specs.Worlds.Docs.{comment_above as comment_said, comment_of as comment_in, doc_at, doc_in, or_comment}
use Rattle.meaning_rules.proofs.Worlds.Places.{contains_first, contains_later}
use Rattle.just_meaning.specs.Defining.{is_private as private_said}
use Rattle.justfile_analyzer.specs.Listings.{above, comment_of, said_by}
use Rattle.justfile_analyzer.specs.Offers.{is_private}
use Rattle.meaning_rules.specs.Worlds.Matching.{DocText, HasDocText}
use Rattle.meaning_texts.proofs.Indented.{any_mapped}

-- ---- docs

-- the attribute of an item, if there is one
abbrev pub held : Option AttributeItem → Option Attribute
held found = option_map (λ item. item.attribute) found

module _ (expansion : Expansion) (comment : Option (List ℕ)) where
  abbrev Shapes : Type 0
  Shapes = List AttributeItem

  abbrev Same : Option Attribute → Shapes → Type 0
  Same found all = said_by found comment ≡ or_comment (doc_in expansion (map shape_held all)) comment

  -- the first attribute, where it is `doc`; else those after it
  abbrev SameFirst : Attribute → Option Attribute → Shapes → Type 0
  SameFirst a found all = said_by (cond (has_kind DocKind (attribute_shape a)) (Some a) found) comment ≡ or_comment (doc_in expansion (attribute_shape a ∷ map shape_held all)) comment

  first_said : (a : Attribute) → DocText expansion a → (found : Option Attribute) (all : Shapes) → Same found all → SameFirst a found all
  first_said Android cooked found all h = h
  first_said (Arg options) cooked found all h = h
  first_said Cache cooked found all h = h
  first_said (Confirm None) cooked found all h = h
  first_said (Confirm (Some e)) cooked found all h = h
  first_said Default cooked found all h = h
  first_said (Doc None) cooked found all h = refl
  first_said (Doc (Some text)) cooked found all h = ap (λ r. Some (text_or_none r)) (sym cooked)
  first_said Dragonfly cooked found all h = h
  first_said (Env key value) cooked found all h = h
  first_said ExitMessage cooked found all h = h
  first_said (Extension text) cooked found all h = h
  first_said Freebsd cooked found all h = h
  first_said (Group text) cooked found all h = h
  first_said Linux cooked found all h = h
  first_said Macos cooked found all h = h
  first_said (Metadata first others) cooked found all h = h
  first_said Netbsd cooked found all h = h
  first_said NoCd cooked found all h = h
  first_said NoExitMessage cooked found all h = h
  first_said NoQuiet cooked found all h = h
  first_said Openbsd cooked found all h = h
  first_said Parallel cooked found all h = h
  first_said PositionalArguments cooked found all h = h
  first_said Private cooked found all h = h
  first_said (Script None) cooked found all h = h
  first_said (Script (Some i)) cooked found all h = h
  first_said Unix cooked found all h = h
  first_said Windows cooked found all h = h
  first_said (WorkingDirectory text) cooked found all h = h

  held_cond : (b : Bool) (x : AttributeItem) (found : Option AttributeItem) → held (cond b (Some x) found) ≡ cond b (Some x.attribute) (held found)
  held_cond true x found = refl
  held_cond false x found = refl

  all_said : (all : Shapes) → ((item : AttributeItem) → Contains all item → HasDocText expansion item) → Same (held (find (is_of DocKind) all)) all
  all_said [] cooked = refl
  all_said (x ∷ xs) cooked =
      ap (λ found. said_by found comment) (held_cond (is_of DocKind x) x (find (is_of DocKind) xs))
      ∙ first_said x.attribute (cooked x (contains_first x xs)) (held (find (is_of DocKind) xs)) xs (all_said xs (λ item c. cooked item (contains_later x xs item c)))

-- the comment above an item
comment_here : (item : Item) → comment_of (Some item) ≡ comment_in (Some (item_shape item))
comment_here (items.Alias a) = refl
comment_here (items.Assignment a) = refl
comment_here (items.Comment text) = refl
comment_here (items.Function f) = refl
comment_here (items.Import i) = refl
comment_here (items.Module m) = refl
comment_here items.Newline = refl
comment_here (items.Recipe r) = refl
comment_here (items.Set s) = refl
comment_here (items.Unexport u) = refl

not_first : (n : ℕ) → (suc n == 0) ≡ false
not_first n = elim (eqb_tells (suc n) 0) [ inl p ↦ let e = p.1 in absurd (omega (arith, e)) | inr p ↦ p.0 ]

above_is : (all : List Item) (n : ℕ) → above all (suc n) ≡ slice_get all n
above_is all n = let one : suc n - 1 ≡ n = omega arith in ap (λ b. if b then None else slice_get all (suc n - 1)) (not_first n) ∙ ap (slice_get all) one

comment_same : (all : List Item) (place : ℕ) → comment_of (above all place) ≡ comment_said (item_shapes all) place
comment_same all zero = refl
comment_same all (suc place) = ap comment_of (above_is all place) ∙ by_index all place
  where
    by_index : (all : List Item) (n : ℕ) → comment_of (slice_get all n) ≡ comment_in (slice_get (item_shapes all) n)
    by_index [] n = refl
    by_index (x ∷ xs) zero = comment_here x
    by_index (x ∷ xs) (suc n) = by_index xs n

-- what is said of the recipe at a place of a file that was read
pub doc_is : (expansion : Expansion) (all : List Item) (place : ℕ) (attributes : List AttributeItem) → All (HasDocText expansion) attributes
    → said_by (held (find (is_of DocKind) attributes)) (comment_of (above all place)) ≡ doc_at expansion (item_shapes all) place (map shape_held attributes)
doc_is expansion all place attributes cooked =
    ap (said_by (held (find (is_of DocKind) attributes))) (comment_same all place)
    ∙ all_said expansion (comment_said (item_shapes all) place) attributes (λ item c. All-contains (HasDocText expansion) attributes item cooked c)

-- ---- private items

same_digit : (a b : ℕ) → (a == b) ≡ (b == a)
same_digit a b = elim (eqb_tells a b) [
  | inl p ↦ elim (eqb_tells b a) [
    | inl q ↦ p.0 ∙ sym q.0
    | inr q ↦ absurd (q.1 (sym p.1))
  ]
  | inr p ↦ elim (eqb_tells b a) [
    | inl q ↦ absurd (p.1 (sym q.1))
    | inr q ↦ p.0 ∙ sym q.0
  ]
]

or_both : (a b : Bool) → (a || b) ≡ (b || a)
or_both true true = refl
or_both true false = refl
or_both false true = refl
or_both false false = refl

-- the name begins with `_`
begins_so : (name : List ℕ) → (slice_index name 0 == 95) ≡ begins name (codes "_")
begins_so [] = refl
begins_so (c ∷ cs) = same_digit c 95 ∙ and_true (95 == c)
  where
    and_true : (b : Bool) → b ≡ (b && true)
    and_true true = refl
    and_true false = refl

pub private_is : (name : List ℕ) (attributes : List AttributeItem) → is_private name attributes ≡ private_said (map shape_held attributes) name
private_is name attributes =
    ap (λ b. b || private_by attributes) (begins_so name)
    ∙ or_both (begins name (codes "_")) (private_by attributes)
    ∙ ap (λ b. b || begins name (codes "_")) (sym (any_mapped (has_kind PrivateKind) shape_held attributes))
