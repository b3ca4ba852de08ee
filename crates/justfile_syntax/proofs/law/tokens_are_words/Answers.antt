-- The tokens of a text are words: each clause by its lemma.
use Rattle.justfile_syntax.proofs.Lexemes.{tokens_are_lexemes, lexemes_anywhere, lexed_are_lexemes, parts_anywhere, texts_end_well}
use Rattle.justfile_syntax.proofs.law.tokens_are_words.Goals as goal

pub returns : goal.returns
returns c = record { token = tokens_are_lexemes; anywhere = lexemes_anywhere; each = lexed_are_lexemes; parts = parts_anywhere; text = texts_end_well }
