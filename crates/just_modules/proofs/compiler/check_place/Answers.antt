-- The alias at the place stands for nothing.
use Rattle.std.proofs.Common.{ap}
use Rattle.resolve_recipes.specs.Aliases.{alias_of}
use Rattle.just_modules.proofs.Aliases.{unknown_at}
use Rattle.just_modules.proofs.Keeping.{refusal_gives}
use Rattle.just_modules.proofs.compiler.check_place.Goals as goal

pub returns-in-Some-clause-refused : goal.returns-in-Some-clause-refused
returns-in-Some-clause-refused c = refusal_gives c.check_alias.result c.check_alias.ensures.refused (λ e. unknown_at c.args.compilation.now c.args.module c.args.place c.in-Some.alias.now e (ap alias_of c.in-Some.ensures.found))
