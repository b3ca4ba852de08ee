-- A name is found where there is such an attribute.
use Rattle.std.proofs.Common.{sym, ◌∙◌, ap}
use Rattle.std.specs.Prelude.{is_some}
use Rattle.tree_attributes.specs.declared.attribute.AttributeKind.TheVariants.{Cache}
use Rattle.just_modules.proofs.Enabled.{same_name}
use Rattle.just_modules.proofs.rules.cache_token.Goals as goal

pub returns-in-Some : goal.returns-in-Some
returns-in-Some c = ap is_some (sym c.in-Some.is ∙ c.name.ensures) ∙ same_name Cache (λ item. item.name) c.args.attributes.now

pub returns-in-None : goal.returns-in-None
returns-in-None c = ap is_some (sym c.in-None.is ∙ c.name.ensures) ∙ same_name Cache (λ item. item.name) c.args.attributes.now
