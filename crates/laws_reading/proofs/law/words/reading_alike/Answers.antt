use Rattle.just_lexer.specs.Lexes.{piece, piece_word}
use Rattle.laws_reading.proofs.Words.Files.{file_goes}
use Rattle.laws_reading.proofs.Words.Halts.{halts_alike}
use Rattle.laws_reading.proofs.law.words.reading_alike.Goals as goal

pub returns-clause-files : goal.returns-clause-files
returns-clause-files c expansion current ts = file_goes piece piece_word expansion current ts

pub returns-clause-halts : goal.returns-clause-halts
returns-clause-halts c = halts_alike
