-- Attributes leave no more tokens.
use Rattle.std.proofs.Common.{◌≡◌, suc, ◌<◌, List, ◌∷◌, [], length, Ok, Option, arith, inl, inr}
use Rattle.just_text.specs.Tokens.{word_of}
use Rattle.just_text.specs.declared.token.Token.{Token}
use Rattle.just_text.specs.declared.token_kind.TokenKind.TheVariants.{BracketL}
use Rattle.tree_attributes.specs.Attributes.{AttributeShape}
use Rattle.parse_expressions.specs.Literals.{Expansion}
use Rattle.parse_expressions.specs.Reading.{accept}
use Rattle.parse_expressions.proofs.Shorter.{accept_shorter, ended}
use Rattle.parse_expressions.proofs.Taken.{bind_ok, inspect}
use Rattle.parse_attributes.specs.Reading.{another_at, attribute_at, attributes_at}
use Rattle.parse_attributes.proofs.Fewer.{another_shorter, attribute_shorter, follow_shorter}

pub attributes_taken : (expansion : Expansion) (ts : List Token) (p : List (Option AttributeShape) × List Token) → attributes_at word_of expansion ts ≡ Ok p → length p.1 < suc (length ts)
unfolding attributes_at
attributes_taken expansion ts p h =
    elim (inspect (accept word_of BracketL ts)) [
      | inl w ↦ ended [] ts p (suc (length ts)) (rw w at h) (omega arith)
      | inr w ↦
          let less = accept_shorter word_of BracketL ts w.0 w.1 in
          let x = bind_ok _ _ p (rw w.1 at h) in
          let first = attribute_shorter word_of expansion w.0.1 x.0 x.1 in
          let xs = bind_ok _ _ p x.2 in
          let others = follow_shorter word_of (attribute_at word_of expansion) (another_at word_of) (attribute_shorter word_of expansion) (another_shorter word_of) (suc (length x.0.1)) x.0.1 xs.0 xs.1 in
          ended (x.0.0 ∷ xs.0.0) xs.0.1 p (suc (length ts)) xs.2 (omega (arith, less, first, others))
    ]
