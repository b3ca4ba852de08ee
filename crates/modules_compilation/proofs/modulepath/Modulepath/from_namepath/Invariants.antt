-- The texts of the names so far.
use Rattle.std.proofs.Common.{◌≡◌, take, map}
use Rattle.just_text.specs.Tokens.{lexeme}
use Rattle.modules_compilation.proofs.modulepath.Modulepath.from_namepath.Given as goal

abbrev pub invariant-loop-name : goal.invariant-loop-name
invariant-loop-name l = l.components.items ≡ map (λ name. lexeme name.token) (take l.name-index l.name-items)
