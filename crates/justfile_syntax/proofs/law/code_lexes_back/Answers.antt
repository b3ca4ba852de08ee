-- Words in code lex back: each clause by its lemma.
use Rattle.justfile_syntax.proofs.InCode.{plain_words, brackets_open, brackets_close, whole_formats, formats_open, formats_close}
use Rattle.justfile_syntax.proofs.Beside.{leads_to_breaks, leads_to_next, spaces_lead_on}
use Rattle.justfile_syntax.proofs.law.code_lexes_back.Goals as goal

pub returns : goal.returns
returns c = record { words = plain_words; breaks = leads_to_breaks; next = leads_to_next; spaces = spaces_lead_on; opens = brackets_open; closes = brackets_close; formats = whole_formats; enter = formats_open; leave = formats_close }
