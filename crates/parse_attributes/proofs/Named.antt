-- What is made of arguments of an attribute's kind is of that kind, whose name it has.
use Rattle.std.proofs.Common.{◌≡◌, ◌∙◌, ◌==◌, ℕ, suc, List, [], ◌∷◌, length, Option, Some, None, refl, sym, ap, subst, true, eqb-true, arith}
use Rattle.std.specs.Prelude.{IfSome, option_map}
use Rattle.tree_attributes.specs.Attributes.{AttributeShape, OptionsShape, attribute_shape, kind_name, kind_of, with_options}
use Rattle.tree_attributes.specs.declared.attribute.Attribute.{Attribute}
use Rattle.tree_attributes.specs.declared.attribute.AttributeKind.{AttributeKind}
use Rattle.tree_attributes.specs.declared.attribute.AttributeKind.TheVariants.{Arg, Confirm, Doc, Env, Extension, Group, Metadata, Script, WorkingDirectory}
use Rattle.tree_attributes.specs.Forms.{form_of, takes}
use Rattle.tree_expressions.specs.Shape.{Shape}
use Rattle.parse_expressions.specs.Literals.{Expansion}
use Rattle.parse_attributes.specs.Arguments.{Arguments, count, expressions, made, nothing, of_texts, of_values, parameter, sort_of, strings}
use Rattle.parse_attributes.specs.Held.{is_of_sort}
use Rattle.parse_attributes.specs.Options.{OptionShape, options_of}
use Rattle.parse_attributes.specs.Reading.{kind_named}
use Rattle.parse_attributes.proofs.KindNames.{has_name}

texts_kind : (kind : AttributeKind) (s : List ℕ) (ss : List (List ℕ)) → kind_of (of_texts (form_of kind) kind s ss) ≡ kind
texts_kind Metadata s ss = refl
texts_kind other s ss = refl

-- one or more are not none
not_none : (n : ℕ) → (suc n == 0) ≡ true → ⊥
not_none n is = let none = eqb-true (suc n) 0 is in omega (arith, none)

values_kind : (kind : AttributeKind) (e : Shape) (es : List Shape) → is_of_sort (sort_of (form_of kind)) (expressions e es) ≡ true → takes (form_of kind) (count (expressions e es)) ≡ true → kind_of (of_values (form_of kind) e es) ≡ kind
values_kind Confirm e es sort taken = refl
values_kind Env e [] sort taken = absurd cc
values_kind Env e (f ∷ es) sort taken = refl
values_kind Script e es sort taken = refl
values_kind Arg e es sort taken = absurd (cc sort)
values_kind Doc e es sort taken = absurd (cc sort)
values_kind Extension e es sort taken = absurd (cc sort)
values_kind Group e es sort taken = absurd (cc sort)
values_kind Metadata e es sort taken = absurd (cc sort)
values_kind WorkingDirectory e es sort taken = absurd (cc sort)
values_kind other e es sort taken = absurd (not_none (length es) taken)

options_kind : (kind : AttributeKind) (name : List ℕ) (ps : List (Option OptionShape)) (o : Option OptionsShape) → is_of_sort (sort_of (form_of kind)) (parameter name ps) ≡ true → IfSome (option_map with_options o) (λ a. kind_of a ≡ kind)
options_kind Arg name ps None sort = tt
options_kind Arg name ps (Some o) sort = refl
options_kind other name ps o sort = absurd cc

-- what is made is of the kind
made_kind : (expansion : Expansion) (kind : AttributeKind) (a : Arguments) → is_of_sort (sort_of (form_of kind)) a ≡ true → takes (form_of kind) (count a) ≡ true → IfSome (made expansion kind a) (λ shape. kind_of shape ≡ kind)
made_kind expansion kind nothing sort taken = refl
made_kind expansion kind (strings s ss) sort taken = texts_kind kind s ss
made_kind expansion kind (expressions e es) sort taken = values_kind kind e es sort taken
made_kind expansion kind (parameter name ps) sort taken = options_kind kind name ps (options_of expansion name ps) sort

-- so an attribute that is made has the name that its kind was found by
pub named_so : (expansion : Expansion) (kind : AttributeKind) (a : Arguments) (name : List ℕ) (attribute : Option Attribute) → kind_named name ≡ Some kind
    → is_of_sort (sort_of (form_of kind)) a ≡ true → takes (form_of kind) (count a) ≡ true → option_map attribute_shape attribute ≡ made expansion kind a
    → IfSome attribute (λ attribute. name ≡ kind_name (kind_of (attribute_shape attribute)))
named_so expansion kind a name None found sort taken is = tt
named_so expansion kind a name (Some attribute) found sort taken is =
    let kinds : kind_of (attribute_shape attribute) ≡ kind = subst (λ (o : Option AttributeShape). IfSome o (λ shape. kind_of shape ≡ kind)) (sym is) (made_kind expansion kind a sort taken) in
    sym (ap kind_name kinds ∙ has_name name kind found)
