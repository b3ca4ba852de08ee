use Rattle.laws_printing.proofs.Printing.MoreItems.{unexport_spelled, module_spelled, function_spelled, set_spelled}
use Rattle.laws_printing.proofs.Printing.Items.{alias_spelled, assignment_spelled, import_spelled, pieces_spelled, lines_spelled}
use Rattle.laws_printing.proofs.law.printing.items_spell_back.Goals as goal

pub returns-clause-aliases : goal.returns-clause-aliases
returns-clause-aliases c a words rest after i = alias_spelled a words rest after i

pub returns-clause-assignments : goal.returns-clause-assignments
returns-clause-assignments c expansion a words rest after i = assignment_spelled expansion a words rest after i

pub returns-clause-imports : goal.returns-clause-imports
returns-clause-imports c expansion a words rest after i = import_spelled expansion a words rest after i

pub returns-clause-lines : goal.returns-clause-lines
returns-clause-lines c expansion ps words rest after i = pieces_spelled expansion ps words rest after i

pub returns-clause-bodies : goal.returns-clause-bodies
returns-clause-bodies c expansion indentation lines words rest after i = lines_spelled expansion indentation lines words rest after i

pub returns-clause-unexports : goal.returns-clause-unexports
returns-clause-unexports c name words rest after i = unexport_spelled name words rest after i

pub returns-clause-modules : goal.returns-clause-modules
returns-clause-modules c expansion m words rest after i = module_spelled expansion m words rest after i

pub returns-clause-functions : goal.returns-clause-functions
returns-clause-functions c expansion f words rest after i = function_spelled expansion f words rest after i

pub returns-clause-sets : goal.returns-clause-sets
returns-clause-sets c expansion current s words rest after i = set_spelled expansion current s words rest after i
