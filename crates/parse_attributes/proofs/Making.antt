-- An attribute that holds arguments has the shape that they make, and holds what their strings stand for.
use Rattle.std.proofs.Common.{◌≡◌, [], ◌∷◌, map, Option, Some, None, Result, Ok, Err, refl, ap, append-nil}
use Rattle.std.specs.Prelude.{IfOk, IfSome, option_map}
use Rattle.std.specs.Result.{result_map_both}
use Rattle.std.specs.declared.alloc.AllocError.{AllocError}
use Rattle.std.specs.Global.{Vec}
use Rattle.std.specs.List.{All}
use Rattle.tree_expressions.specs.declared.string_literal.StringLiteral.{StringLiteral}
use Rattle.just_text.specs.declared.token.Token.{Token}
use Rattle.tree_expressions.specs.declared.expression.Expression.{Expression, fold-Expression}
use Rattle.tree_expressions.specs.declared.expression.Expression.TheOpen.{Expression-F}
use Rattle.tree_expressions.specs.Shape.{shape_of, written}
use Rattle.tree_attributes.specs.declared.arguments.AttributeArguments.TheVariants as given
use Rattle.tree_attributes.specs.declared.attribute.Attribute.{Attribute}
use Rattle.tree_attributes.specs.declared.attribute.Attribute.TheVariants.{Arg, Confirm, Doc, Env, Extension, Group, Metadata, Script, WorkingDirectory}
use Rattle.tree_attributes.specs.declared.attribute.AttributeKind.{AttributeKind}
use Rattle.tree_attributes.specs.Attributes.{attribute_shape, kind_of, plain}
use Rattle.tree_attributes.specs.Forms.{form_of}
use Rattle.tree_attributes.specs.Given.{Holds}
use Rattle.parse_expressions.specs.Literals.{Origin, IsCooked, AreCooked}
use Rattle.parse_expressions.specs.Strings.{IsCookedString}
use Rattle.parse_attributes.specs.Arguments.{of_texts, of_values}
use Rattle.parse_attributes.specs.Cooked.{IsCookedAttribute}

-- ---- a token

-- a token of the expression; which one does not matter
abbrev token_step : Expression-F Token → Token
token_step (Expression-F.And l r) = l.value
token_step (Expression-F.Assert c m name) = name.token
token_step (Expression-F.Backtick contents token) = token
token_step (Expression-F.Call name es) = name.token
token_step (Expression-F.Comparison l operator r token) = token
token_step (Expression-F.Concatenation l token r) = token
token_step (Expression-F.Conditional c t o) = c.value
token_step (Expression-F.FormatString start es) = start.token
token_step (Expression-F.Group e) = e.value
token_step (Expression-F.Join l token r) = token
token_step (Expression-F.List es token) = token
token_step (Expression-F.ListConcatenation l token r) = token
token_step (Expression-F.Not e) = e.value
token_step (Expression-F.Or l r) = l.value
token_step (Expression-F.StringLiteral s) = s.token
token_step (Expression-F.Variable name number) = name.token

pub any_token : Expression → Token
any_token = fold-Expression Token token_step

-- ---- shapes

pub strings_made : (a : Attribute) (first : StringLiteral) (others : Vec StringLiteral) → Holds a (given.Strings first others)
    → attribute_shape a ≡ of_texts (form_of (kind_of (attribute_shape a))) (kind_of (attribute_shape a)) (written first) (map written others.items)
strings_made (Doc (Some s)) first others h = rw h.0 refl
strings_made (Extension s) first others h = rw h.0 refl
strings_made (Group s) first others h = rw h.0 refl
strings_made (Metadata s ss) first others h = rw (h.0, h.1) refl
strings_made (WorkingDirectory s) first others h = rw h.0 refl
strings_made other first others h = absurd h

pub expressions_made : (a : Attribute) (first : Expression) (others : Vec Expression) (token : Token) → Holds a (given.Expressions first others token)
    → attribute_shape a ≡ of_values (form_of (kind_of (attribute_shape a))) (shape_of first) (map shape_of others.items)
expressions_made (Confirm (Some e)) first others token h = rw h.0 refl
expressions_made (Env key value) first others token h = rw (h.0, h.1) refl
expressions_made (Script (Some i)) first others token h = rw (h.0, h.1) refl
expressions_made other first others token h = absurd h

-- what is made of expressions, unless memory ran out
pub expressions_read : (r : Result Attribute AllocError) (kind : AttributeKind) (first : Expression) (others : Vec Expression) → IfOk r (λ a. kind_of (attribute_shape a) ≡ kind) → IfOk r (λ a. (token : Token) → Holds a (given.Expressions first others token))
    → IfOk (result_map_both {U = Option Attribute} (λ a. Some a) (λ e. e) r) (λ o. option_map attribute_shape o ≡ Some (of_values (form_of kind) (shape_of first) (map shape_of others.items)))
expressions_read (Ok a) kind first others is holds = let whole = expressions_made a first others (any_token first) (holds (any_token first)) in let told = rw is at whole in ap Some told
expressions_read (Err e) kind first others is holds = tt

-- ---- what strings stand for

module _ (origin : Origin) where
  pub plain_cooked : (a : Attribute) (kind : AttributeKind) → attribute_shape a ≡ plain kind → IsCookedAttribute origin a
  plain_cooked (Arg o) kind h = absurd cc
  plain_cooked (Confirm (Some e)) kind h = absurd cc
  plain_cooked (Doc (Some s)) kind h = absurd cc
  plain_cooked (Env key value) kind h = absurd cc
  plain_cooked (Extension s) kind h = absurd cc
  plain_cooked (Group s) kind h = absurd cc
  plain_cooked (Metadata s ss) kind h = absurd cc
  plain_cooked (Script (Some i)) kind h = absurd cc
  plain_cooked (WorkingDirectory s) kind h = absurd cc
  plain_cooked other kind h = tt

  pub strings_cooked : (a : Attribute) (first : StringLiteral) (others : Vec StringLiteral) → Holds a (given.Strings first others) → IsCookedString origin.expansion first → All (IsCookedString origin.expansion) others.items
      → IsCookedAttribute origin a
  strings_cooked (Doc (Some s)) first others h one more = rw h.0 one
  strings_cooked (Extension s) first others h one more = rw h.0 one
  strings_cooked (Group s) first others h one more = rw h.0 one
  strings_cooked (Metadata s ss) first others h one more = (rw h.0 one, rw h.1 more)
  strings_cooked (WorkingDirectory s) first others h one more = rw h.0 one
  strings_cooked other first others h one more = absurd h

  pub expressions_cooked : (a : Attribute) (first : Expression) (others : Vec Expression) (token : Token) → Holds a (given.Expressions first others token) → IsCooked origin first → AreCooked origin others.items
      → IsCookedAttribute origin a
  expressions_cooked (Confirm (Some e)) first others token h one more = rw h.0 one
  expressions_cooked (Env key value) first others token h one more = let both = rw h.1 at more in (rw h.0 one, simp append-nil at both)
  expressions_cooked (Script (Some i)) first others token h one more = record { command = rw h.0 one; arguments = rw h.1 more }
  expressions_cooked other first others token h one more = absurd h

  pub expressions_read_cooked : (r : Result Attribute AllocError) (first : Expression) (others : Vec Expression) → IfOk r (λ a. (token : Token) → Holds a (given.Expressions first others token)) → IsCooked origin first → AreCooked origin others.items
      → IfOk (result_map_both {U = Option Attribute} (λ a. Some a) (λ e. e) r) (λ o. IfSome o (IsCookedAttribute origin))
  expressions_read_cooked (Ok a) first others holds one more = expressions_cooked a first others (any_token first) (holds (any_token first)) one more
  expressions_read_cooked (Err e) first others holds one more = tt
