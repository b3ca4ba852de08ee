-- Options whose texts are of the form that `arg` asks for.
use Rattle.std.specs.Prelude.{◌≡◌, true, IfSome}
use Rattle.tree_attributes.specs.Attributes.{OptionsShape}
use Rattle.parse_expressions.specs.Literals.{Expansion}
use Rattle.parse_attributes.specs.Options.{text, is_count, is_short}

-- the numbers of values are one to four digits, and the name after one dash is a letter or a digit
pub record AreWholeOptions (expansion : Expansion) (o : OptionsShape) : Type 0 where
  pub max : IfSome o.max (λ s. is_count (text expansion s) ≡ true)
  pub min : IfSome o.min (λ s. is_count (text expansion s) ≡ true)
  pub short : IfSome o.short (λ s. is_short (text expansion s) ≡ true)
