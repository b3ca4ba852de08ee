-- The aliases so far are on the menu, where their names are wanted.
use Rattle.std.proofs.Common.{None, cond, take}
use Rattle.justfile_analyzer.specs.MenusOf.{alias_meant, has_name}
use Rattle.justfile_analyzer.specs.MenuRows.{Gains}
use Rattle.justfile_analyzer.proofs.names.put_aliases.Given as goal

abbrev pub invariant-loop-alias : goal.invariant-loop-alias
invariant-loop-alias l = Gains (λ name. cond (has_name l.wanted name) (alias_meant (take l.alias-index l.aliases) name) None) l.initial.menu l.menu
