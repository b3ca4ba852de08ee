-- Where texts come from, as parsers are given it.
use Rattle.parse_expressions.specs.declared.context.Context.{Context}
use Rattle.parse_expressions.specs.Literals.{Expansion, Origin, from_file}

-- the file of a context whose expander has that expansion
abbrev pub origin_of : {E : Type 0} → (E → Expansion) → Context E → Origin
origin_of expansion context = from_file context.path.now (expansion context.expander.now)
