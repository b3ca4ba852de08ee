-- The texts of `arg`s that were read are of the form that they ask for.
use Rattle.std.proofs.Common.{◌≡◌, ℕ, zero, suc, List, [], ◌∷◌, Option, Some, None, refl, subst, arith}
use Rattle.std.specs.Prelude.{IfSome}
use Rattle.std.specs.List.{All, cons_option}
use Rattle.std.specs.Option.{option_map}
use Rattle.just_text.specs.Tokens.{Word}
use Rattle.tree_attributes.specs.declared.attribute.AttributeKind.{AttributeKind}
use Rattle.tree_attributes.specs.Attributes.{AttributeShape, OptionsShape, plain, with_options}
use Rattle.tree_expressions.specs.Shape.{Shape}
use Rattle.tree_attributes.specs.declared.argument_form.ArgumentForm.{ArgumentForm}
use Rattle.tree_attributes.specs.declared.argument_form.ArgumentForm.TheVariants.{Expressions, Strings, TwoExpressions}
use Rattle.tree_attributes.specs.Forms.{form_of}
use Rattle.parse_expressions.specs.Literals.{Expansion}
use Rattle.parse_attributes.specs.Arguments.{Arguments, nothing, strings, expressions, parameter, made, of_texts, of_values}
use Rattle.parse_attributes.specs.Lines.{AreAttributes, IsAttribute, IsBetween, IsLast}
use Rattle.parse_attributes.specs.Options.{OptionShape, options_of}
use Rattle.parse_attributes.specs.Rows.{Follow}
use Rattle.parse_attributes.specs.Seen.{options_in}
use Rattle.parse_attributed_items.specs.Whole.{AreWholeOptions}
use Rattle.parse_attributed_items.proofs.WholeOptions.{options_whole}
use Rattle.parse_attributed_items.specs.Fitting.{options_among}
use Rattle.parse_attributed_items.specs.Seen.{AreWholeArguments}

module _ (expansion : Expansion) where
  abbrev IsWhole : AttributeShape → Type 0
  IsWhole x = IfSome (options_in (Some x)) (AreWholeOptions expansion)

  texts_whole : (form : ArgumentForm) (kind : AttributeKind) (s : List ℕ) (ss : List (List ℕ)) → IsWhole (of_texts form kind s ss)
  texts_whole Strings kind s ss = tt
  texts_whole form kind s ss = tt

  values_whole : (form : ArgumentForm) (e : Shape) (es : List Shape) → IsWhole (of_values form e es)
  values_whole Expressions e es = tt
  values_whole TwoExpressions e [] = tt
  values_whole TwoExpressions e (f ∷ es) = tt
  values_whole form e es = tt

  given_whole : (options : Option OptionsShape) (x : AttributeShape) → IfSome options (AreWholeOptions expansion) → option_map with_options options ≡ Some x → IsWhole x
  given_whole None x all h = absurd cc
  given_whole (Some o) x all h = let e : with_options o ≡ x = cc in subst IsWhole e all

  found_whole : (name : List ℕ) (ps : List (Option OptionShape)) (all : Option OptionsShape) → options_of expansion name ps ≡ all → IfSome all (AreWholeOptions expansion)
  found_whole name ps None h = tt
  found_whole name ps (Some o) h = options_whole expansion name o ps h

  made_whole : (kind : AttributeKind) (arguments : Arguments) (x : AttributeShape) → made expansion kind arguments ≡ Some x → IsWhole x
  made_whole kind nothing x h = let e : plain kind ≡ x = cc in subst IsWhole e tt
  made_whole kind (strings s ss) x h = let e : of_texts (form_of kind) kind s ss ≡ x = cc in subst IsWhole e (texts_whole (form_of kind) kind s ss)
  made_whole kind (expressions v vs) x h = let e : of_values (form_of kind) v vs ≡ x = cc in subst IsWhole e (values_whole (form_of kind) v vs)
  made_whole kind (parameter name ps) x h = given_whole (options_of expansion name ps) x (found_whole name ps _ refl) h

  one_more : (o : Option OptionsShape) (os : List OptionsShape) → IfSome o (AreWholeOptions expansion) → All (AreWholeOptions expansion) os → All (AreWholeOptions expansion) (cons_option o os)
  one_more None os this these k d h = these k d h
  one_more (Some o) os this these zero d h = this
  one_more (Some o) os this these (suc k) d h = these k d (omega arith)

  others_whole : (xs : List AttributeShape) (words rest : List Word) → Follow (IsAttribute expansion) IsBetween IsLast xs words rest → AreWholeArguments expansion xs
  others_whole [] words rest h k d less = absurd (omega arith)
  others_whole (x ∷ xs) words rest (a, b, between, is, others) k d less = one_more (options_in (Some x)) (options_among xs) (made_whole is.kind is.arguments x is.makes) (others_whole xs b rest others) k d less

  pub attributes_whole : (as' : List AttributeShape) (words rest : List Word) → AreAttributes expansion as' words rest → AreWholeArguments expansion as'
  attributes_whole [] words rest h k d less = absurd (omega arith)
  attributes_whole (x ∷ xs) words rest (a, b, mark, is, others) k d less = one_more (options_in (Some x)) (options_among xs) (made_whole is.kind is.arguments x is.makes) (others_whole xs b rest others) k d less
