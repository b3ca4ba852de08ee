-- Which arguments attributes take.
use Rattle.std.specs.Prelude.{ℕ, ◌==◌, nat_le, Bool, true}
use Rattle.tree_attributes.specs.declared.attribute.AttributeKind.{AttributeKind}
use Rattle.tree_attributes.specs.declared.attribute.AttributeKind.TheVariants.{Arg, Confirm, Doc, Env, Extension, Group, Metadata, Script, WorkingDirectory}
use Rattle.tree_attributes.specs.declared.argument_form.ArgumentForm.{ArgumentForm}
use Rattle.tree_attributes.specs.declared.argument_form.ArgumentForm.TheVariants.{Expressions, Nothing, OneString, OptionalExpression, OptionalString, Parameter, Strings, TwoExpressions}

-- the form of an attribute's arguments
abbrev pub form_of : AttributeKind → ArgumentForm
form_of Arg = Parameter
form_of Confirm = OptionalExpression
form_of Doc = OptionalString
form_of Env = TwoExpressions
form_of Extension = OneString
form_of Group = OneString
form_of Metadata = Strings
form_of Script = Expressions
form_of WorkingDirectory = OneString
form_of other = Nothing

-- a form has this number of arguments
abbrev pub takes : ArgumentForm → ℕ → Bool
takes Nothing count = count == 0
takes OptionalString count = nat_le count 1
takes OneString count = count == 1
takes OptionalExpression count = nat_le count 1
takes Strings count = nat_le 1 count
takes TwoExpressions count = count == 2
takes Expressions count = true
takes Parameter count = nat_le 1 count
