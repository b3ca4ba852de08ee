-- The lines of attributes from their first bracket on, and rows of expressions.
use Rattle.std.proofs.Common.{◌≡◌, suc, List, [], ◌∷◌, ◌++◌, length, map, Ok, Err, Option, Some, None, refl, sym, ap, ◌∙◌, append_assoc}
use Rattle.std.proofs.lemmas.List.{append-nil}
use Rattle.std.specs.Prelude.{option_map, IsSome}
use Rattle.std.specs.List.{flat_map}
use Rattle.just_text.specs.Tokens.{word_of}
use Rattle.just_text.specs.declared.token.Token.{Token}
use Rattle.just_text.specs.declared.token_kind.TokenKind.{TokenKind}
use Rattle.just_text.specs.declared.token_kind.TokenKind.TheVariants.{BracketL}
use Rattle.tree_expressions.specs.declared.expression.Expression.{Expression}
use Rattle.tree_expressions.specs.Shape.{shape_of, shapes_of}
use Rattle.parse_expressions.specs.declared.fault.Fault.{Fault}
use Rattle.parse_expressions.specs.declared.fault.Fault.TheVariants as faults
use Rattle.parse_expressions.specs.Literals.{Expansion, held_by, cooked_in, cooked_in_all, IsCooked, AreCooked}
use Rattle.parse_expressions.specs.Reading.{Fails, accept}
use Rattle.parse_attributes.specs.declared.attribute.AttributeRead.{AttributeRead}
use Rattle.parse_attributes.specs.Reading.{another_at, attribute_at, attributes_at, follow_at}
use Rattle.parse_attributes.specs.Seen.{read_shape}
use Rattle.parse_attributes.proofs.Follow.{before}

module _ (expansion : Expansion) (ts : List Token) (t : Token) (a : List Token) (opens : accept word_of BracketL ts ≡ Some (t, a)) where
  pub no_first : (e : Fault) → Fails e (attribute_at word_of expansion a) → Fails e (attributes_at word_of expansion ts)
  unfolding attributes_at
  no_first faults.OutOfMemory h = h
  no_first faults.NumbersUsed h = h
  no_first (faults.Unexpected found) h = rw (opens, h) refl
  no_first (faults.Refused token kind) h = rw (opens, h) refl

  pub first_read : (r : AttributeRead) (b : List Token) → attribute_at word_of expansion a ≡ Ok (read_shape r, b)
      → before read_shape (r ∷ []) (follow_at word_of (attribute_at word_of expansion) (another_at word_of) (suc (length b)) b) ≡ attributes_at word_of expansion ts
  unfolding attributes_at
  first_read r b h = rw (opens, h) refl
