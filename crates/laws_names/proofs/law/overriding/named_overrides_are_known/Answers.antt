use Rattle.laws_names.proofs.Overriding.Texts.{named_overrides_are_known}
use Rattle.laws_names.proofs.law.overriding.named_overrides_are_known.Goals as goal

pub returns : goal.returns
returns c = named_overrides_are_known
