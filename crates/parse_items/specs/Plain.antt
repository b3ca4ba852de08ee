-- What items have before their attributes are read.
use Rattle.std.specs.Prelude.{ℕ, ◌≡◌, Bool, false, List, [], codes}
use Rattle.just_text.specs.Tokens.{lexeme}
use Rattle.tree_expressions.specs.Cutting.{begins}
use Rattle.tree_attributes.specs.Sets.Sets.{items_of}
use Rattle.tree_items.specs.declared.ast.Item.{Item}
use Rattle.tree_items.specs.declared.ast.Item.TheVariants.{Alias, Assignment, Module}
use Rattle.tree_expressions.specs.declared.expression.Expression.{Expression}
use Rattle.tree_items.specs.declared.item.Binding.{Binding}

-- the name begins with `_`
abbrev pub is_private : List ℕ → Bool
is_private name = begins name (codes "_")

-- an assignment of the file that is read, which is private where its name begins with `_`
pub record IsPlainAssignment (a : Binding Expression) : Type 0 where
  pub attributes : items_of a.attributes ≡ []
  pub file_depth : a.file_depth ≡ 0
  pub prelude : a.prelude ≡ false
  pub private : a.private ≡ is_private (lexeme a.name.token)

-- the item has no attributes, and an assignment is one of the file that is read
abbrev pub IsPlainItem : Item → Type 0
IsPlainItem (Alias a) = items_of a.attributes ≡ []
IsPlainItem (Assignment a) = IsPlainAssignment a
IsPlainItem (Module m) = items_of m.attributes ≡ []
IsPlainItem other = Unit {0}
