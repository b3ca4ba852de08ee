use Rattle.laws_printing.proofs.Printing.Recipes.{recipe_spelled}
use Rattle.laws_printing.proofs.Printing.Normal.{prints_alike, fills_alike, uses_alike, normal_printable}
use Rattle.laws_printing.proofs.law.printing.recipes_spell_back.Goals as goal

pub returns-clause-recipes : goal.returns-clause-recipes
returns-clause-recipes c expansion indentation r old n words rest after i separate priors subsequents l = recipe_spelled expansion indentation r old n words rest after i separate priors subsequents l

pub returns-clause-normal : goal.returns-clause-normal
returns-clause-normal c indentation items = prints_alike indentation items

pub returns-clause-filled : goal.returns-clause-filled
returns-clause-filled c items = fills_alike items

pub returns-clause-uses : goal.returns-clause-uses
returns-clause-uses c items = uses_alike items

pub returns-clause-printable : goal.returns-clause-printable
returns-clause-printable c items = normal_printable items
