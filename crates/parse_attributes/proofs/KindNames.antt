-- A kind is found by its name, and what is found has that name.
use Rattle.std.proofs.Common.{◌≡◌, ℕ, List, [], ◌∷◌, Option, Some, None, sym, inl, inr}
use Rattle.std.specs.Prelude.{IfSome}
use Rattle.std.specs.Str.{bytes_eq}
use Rattle.tree_attributes.specs.declared.attribute.AttributeKind.{AttributeKind}
use Rattle.tree_attributes.specs.Attributes.{kind_name}
use Rattle.tree_attributes.specs.Kinds.{named}
use Rattle.tree_attributes.proofs.KindFound.{found_by_name as found_in_tree}
use Rattle.parse_expressions.proofs.Taken.{inspect, test, some_is, text_same}
use Rattle.parse_attributes.specs.Reading.{all_kinds, kind_named}

found_among : (text : List ℕ) (kinds : List AttributeKind) (kind : AttributeKind) → named text kinds ≡ Some kind → kind_name kind ≡ text
found_among text [] kind h = absurd cc
found_among text (k ∷ kinds) kind h =
    elim (test (bytes_eq (kind_name k) text)) [
      | inl w ↦ let same = some_is k kind (rw w at h) in rw (← same) (text_same (kind_name k) text w)
      | inr w ↦ found_among text kinds kind (rw w at h)
    ]

pub has_name : (text : List ℕ) (kind : AttributeKind) → kind_named text ≡ Some kind → kind_name kind ≡ text
has_name text kind h = found_among text all_kinds kind h

-- whatever text is a kind's name, that kind is found
pub found_by_name : (kind : AttributeKind) (text : List ℕ) → kind_name kind ≡ text → kind_named text ≡ Some kind
found_by_name = found_in_tree

-- so whatever finds just the kinds by their names finds what is looked for
pub found_just_so : (name : List ℕ) (o : Option AttributeKind) → IfSome o (λ kind. kind_name kind ≡ name) → ((kind : AttributeKind) → kind_name kind ≡ name → o ≡ Some kind) → o ≡ kind_named name
found_just_so name (Some kind) is found = sym (found_by_name kind name is)
found_just_so name None is found =
    elim (inspect (kind_named name)) [
      | inl e ↦ sym e
      | inr e ↦ let q : None ≡ Some e.0 = found e.0 (has_name name e.0 e.1) in absurd cc
    ]
