use Rattle.laws_printing.proofs.Formatting.Files.{file_back}
use Rattle.laws_printing.proofs.law.formatting.files_print_back.Goals as goal

pub returns : goal.returns
returns c expansion version indentation items i b = file_back expansion version indentation items i b
