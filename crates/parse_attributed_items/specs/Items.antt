-- The grammar of items with their attributes.
use Rattle.std.specs.Prelude.{ℕ, ◌≡◌, List}
use Rattle.just_text.specs.Tokens.{Word}
use Rattle.tree_attributes.specs.Attributes.{AttributeShape}
use Rattle.tree_attributes.specs.Sets.Order.{in_order}
use Rattle.tree_items.specs.Files.{ItemShape}
use Rattle.parse_expressions.specs.Literals.{Expansion}
use Rattle.parse_attributes.specs.Lines.{AreAttributes}
use Rattle.parse_attributed_items.specs.Bare.{IsBare}
use Rattle.parse_attributed_items.specs.Fitting.{Fit, with_attributes}
use Rattle.semver.specs.declared.Version.{Version}

-- Up to rest there is the item after its attributes, which it has in their order; so many blank lines after the body of a recipe belong to the file.
pub record IsAttributed (expansion : Expansion) (current : Version) (i : ItemShape) (blanks : ℕ) (words rest : List Word) : Type 0 where
  pub attributes : List AttributeShape
  pub bare : ItemShape
  pub behind : List Word
  pub lines : AreAttributes expansion attributes words behind
  pub item : IsBare expansion current bare blanks behind rest
  pub fit : Fit expansion attributes bare
  pub whole : i ≡ with_attributes (in_order attributes) bare
