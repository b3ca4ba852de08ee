-- The laws of files, from those of items, of the ends of lines, and of tokens.
use Rattle.just_text.specs.Tokens.{Word, word_of}
use Rattle.justfile_syntax.proofs.EntriesExact.{files_exactly}
use Rattle.justfile_syntax.proofs.TextsSaid.{one_file, one_saying, faults_say_nothing}
use Rattle.justfile_syntax.proofs.file_law.file_law.Goals as goal

pub returns-clause-files : goal.returns-clause-files
returns-clause-files c expansion current = files_exactly word_of c.recipe_law.ensures.ends.tokens expansion current (c.law-2.ensures.items expansion current)

pub returns-clause-one : goal.returns-clause-one
returns-clause-one c = one_file (λ expansion current. files_exactly (λ (w : Word). w) c.recipe_law.ensures.ends.words expansion current (c.law-2.ensures.words expansion current))

pub returns-clause-texts : goal.returns-clause-texts
returns-clause-texts c =
    one_saying (λ expansion current. files_exactly (λ (w : Word). w) c.recipe_law.ensures.ends.words expansion current (c.law-2.ensures.words expansion current)) c.law.ensures.one

pub returns-clause-faults : goal.returns-clause-faults
returns-clause-faults c =
    faults_say_nothing (λ expansion current. files_exactly word_of c.recipe_law.ensures.ends.tokens expansion current (c.law-2.ensures.items expansion current)) c.law.ensures.one c.law.ensures.faultless
