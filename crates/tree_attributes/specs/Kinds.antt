-- Kinds of attributes by their names.
use Rattle.std.specs.Prelude.{ℕ, List, Option, bytes_eq, find}
use Rattle.tree_attributes.specs.declared.attribute.AttributeKind.{AttributeKind}
use Rattle.tree_attributes.specs.Attributes.{kind_name}

-- the first of some kinds with this name
abbrev pub named : List ℕ → List AttributeKind → Option AttributeKind
named text kinds = find (λ kind. bytes_eq (kind_name kind) text) kinds
