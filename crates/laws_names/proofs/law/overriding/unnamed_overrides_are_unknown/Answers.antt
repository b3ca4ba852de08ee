use Rattle.laws_names.proofs.Overriding.Texts.{unnamed_overrides_are_unknown}
use Rattle.laws_names.proofs.law.overriding.unnamed_overrides_are_unknown.Goals as goal

pub returns : goal.returns
returns c = unnamed_overrides_are_unknown
