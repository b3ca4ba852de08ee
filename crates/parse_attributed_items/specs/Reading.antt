-- How items with their attributes are read.
use Rattle.std.specs.Prelude.{ℕ, List, Option, Result, Ok, Err, if◌then◌else◌}
use Rattle.just_text.specs.Tokens.{Word}
use Rattle.tree_attributes.specs.Attributes.{AttributeShape}
use Rattle.tree_attributes.specs.declared.item_kind.ItemKind.{ItemKind}
use Rattle.tree_attributes.specs.Sets.Order.{in_order}
use Rattle.tree_items.specs.Files.{ItemShape}
use Rattle.parse_expressions.specs.Literals.{Expansion}
use Rattle.parse_expressions.specs.Reading.{◌>>=◌, Read, unexpected, first}
use Rattle.parse_attributes.specs.Reading.{attributes_at}
use Rattle.parse_items.specs.Reading.{kind_at}
use Rattle.parse_attributed_items.specs.Bare.{bare_of}
use Rattle.parse_attributed_items.specs.Fitting.{fault_in, known, may_stand, with_attributes}
use Rattle.parse_attributed_items.specs.Halting.{Halt, or_stopped, unless_broken}
use Rattle.semver.specs.declared.Version.{Version}

-- attributes as they are read, and the item after them with its blank lines
pub record Parts : Type 0 where
  pub attributes : List (Option AttributeShape)
  pub item : ItemShape
  pub blanks : ℕ

-- the item after its attributes, which it has in their order
abbrev pub joined : Parts → ItemShape
joined p = with_attributes (in_order (known p.attributes)) p.item

module _ {T : Type 0} (word : T → Word) (expansion : Expansion) (current : Version) where
  -- an item of that kind after these attributes, without them
  abbrev pub bare_behind : {A : Type 0} → List A → ItemKind → List T → Read T (ItemShape × ℕ)
  bare_behind as' kind ts = if may_stand as' kind then bare_of word expansion current kind ts else Err (unexpected (first ts))

  -- attributes and the item after them
  unfoldable pub parts_at : List T → Read T Parts
  parts_at ts =
      attributes_at word expansion ts >>= λ as'. bare_behind as'.0 (kind_at word as'.1) as'.1 >>= λ i.
      Ok (record { attributes = as'.0; item = i.0.0; blanks = i.0.1 }, i.1)

  -- the item, and how many blank lines after its body belong to the file, unless its attributes don't fit it
  abbrev pub fitted : Parts × List T → Result ((ItemShape × ℕ) × List T) (Halt T)
  fitted p = unless_broken (fault_in expansion p.0.attributes p.0.item) ((joined p.0, p.0.blanks), p.1)

  unfoldable pub attributed_at : List T → Result ((ItemShape × ℕ) × List T) (Halt T)
  attributed_at ts = or_stopped (parts_at ts) >>= fitted
