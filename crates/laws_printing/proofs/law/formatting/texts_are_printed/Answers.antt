use Rattle.laws_printing.proofs.Formatting.ItemTexts.{item_joined, file_joined_whole}
use Rattle.laws_printing.proofs.law.formatting.texts_are_printed.Goals as goal

pub returns-clause-items : goal.returns-clause-items
returns-clause-items c indentation item n after rest f b = item_joined indentation item n after rest f b

pub returns-clause-files : goal.returns-clause-files
returns-clause-files c indentation items f = file_joined_whole indentation items f
