use Rattle.std.specs.String.{string_bytes}
use Rattle.just_value.proofs.Cuts.{goes_behind}
use Rattle.just_value.proofs.positional.Positional.from_values.Goals as goal

pub returns : goal.returns
returns c = rw (← goes_behind string_bytes c.args.values.now c.in_ok-overrides.overrides c.len.result c.in_ok-overrides.ensures c.len.ensures) c.from_rest.ensures
