-- Functions of a module by their names.
use Rattle.std.specs.Prelude.{ℕ, cond, List, [], ◌∷◌, Option, Some, None}
use Rattle.std.specs.Str.{bytes_eq}
use Rattle.just_text.specs.Tokens.{lexeme}
use Rattle.tree_items.specs.declared.item.FunctionDefinition.{FunctionDefinition}
use Rattle.evaluate_context.specs.declared.context.FunctionRef.{FunctionRef}

-- the first of the name
abbrev pub first_named : List ℕ → List FunctionRef → Option FunctionDefinition
first_named name [] = None
first_named name (f ∷ fs) = cond (bytes_eq (lexeme f.definition.now.name.token) name) (Some f.definition.now) (first_named name fs)
